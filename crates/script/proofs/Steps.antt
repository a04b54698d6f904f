-- The answers to a block, one directive at a time.
--   seen_push       what answers say, with one more answer
--   before_accept   a directive that is not `accept` is answered alone, while nothing is accepted
--   waits_more      the answers so far, one directive on, while nothing is accepted
--   accept_all      the answers from the first `accept` on are the rest
--   waits_all       the answers to a block with no `accept`
--   accepted_all    the answers after a check that accepts
use Rattle.std.proofs.Common.{◌≡◌, List, [], ◌∷◌, ◌++◌, map, length, Ok, Result, sym, refl, ap, ◌∙◌}
use Rattle.std.proofs.lemmas.List.{append-nil, append_assoc, map-append, nil_from_length}
use Rattle.tables.specs.Check.{told, first_fault}
use Rattle.tables.specs.Problem.{Problem}
use Rattle.tables.specs.declared.fault.TaskFault.{TaskFault}
use Rattle.script.specs.Answers.{block_answers, waiting, served, after_check}
use Rattle.script.specs.Said.{Said, seen}
use Rattle.script.specs.declared.answer.Answer.{Answer}
use Rattle.script.specs.declared.directive.Directive.{Directive}
use Rattle.script.specs.declared.directive.Directive.TheVariants.{Accept, Check, Est, Grounds, Later, Malformed}

pub seen_push : (out out' : List Answer) (a : Answer) → out' ≡ out ++ a ∷ [] → map seen out' ≡ map seen out ++ seen a ∷ []
seen_push out out' a push = ap (map seen) push ∙ map-append seen out (a ∷ [])

pub before_accept : (p : Problem) (d : Directive) (ds : List Directive) → (d ≡ Accept → ⊥) → block_answers p (d ∷ ds) ≡ waiting d ∷ block_answers p ds
unfolding block_answers
before_accept p Accept ds other = absurd (other refl)
before_accept p (Check v) ds other = refl
before_accept p (Est a s) ds other = refl
before_accept p (Grounds room s) ds other = refl
before_accept p Later ds other = refl
before_accept p (Malformed n) ds other = refl

pub waits_more : (p : Problem) (xs rest after : List Directive) (x : Directive) (out out' : List Said) (y : Said)
    → rest ≡ x ∷ after → (x ≡ Accept → ⊥) → y ≡ waiting x → out ++ block_answers p rest ≡ block_answers p xs → out' ≡ out ++ y ∷ []
    → out' ++ block_answers p after ≡ block_answers p xs
waits_more p xs rest after x out out' y at other is inv push =
    let pick = ap (block_answers p) at ∙ before_accept p x after other in
    let assoc : (out ++ y ∷ []) ++ block_answers p after ≡ out ++ (y ∷ block_answers p after) = append_assoc out (y ∷ []) (block_answers p after) in
    cc

pub accept_all : (p q : Problem) (xs rest after : List Directive) (x : Directive) (out out' : List Said)
    → rest ≡ x ∷ after → x ≡ Accept → q ≡ p → out ++ block_answers p rest ≡ block_answers p xs
    → out' ≡ out ++ after_check q rest (told (first_fault q)) → out' ≡ block_answers p xs
unfolding block_answers
accept_all p q xs rest after x out out' at is same inv push =
    let found : rest ≡ Accept ∷ after = at ∙ ap (λ d. d ∷ after) is in
    let pick : block_answers p rest ≡ after_check p (Accept ∷ after) (told (first_fault p)) = ap (block_answers p) found in
    let of-p = ap (λ r. after_check r rest (told (first_fault r))) same in
    let of-xs = ap (λ ds. after_check p ds (told (first_fault p))) found in
    cc

pub waits_all : (p : Problem) (xs rest : List Directive) (out : List Said)
    → length rest ≡ 0 → out ++ block_answers p rest ≡ block_answers p xs → out ≡ block_answers p xs
unfolding block_answers
waits_all p xs rest out none inv =
    sym (append-nil out) ∙ ap (λ ds. out ++ block_answers p ds) (sym (nil_from_length rest none)) ∙ inv

pub accepted_all : (p q : Problem) (ds : List Directive) (start out : List Said) (r : Result (Unit {0}) TaskFault)
    → Ok tt ≡ r → q ≡ p → out ≡ start ++ map (served q) ds → out ≡ start ++ after_check p ds r
accepted_all p q ds start out r ok same push =
    let told_ok : map (served p) ds ≡ after_check p ds r = ap (after_check p ds) ok in
    let of-p = ap (λ s. map (served s) ds) same in
    cc
