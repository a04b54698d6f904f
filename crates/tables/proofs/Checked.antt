-- The check of one chain, link by link: what has been seen, and that what is left gives the chain's first fault.
use Rattle.std.proofs.Common.{◌≡◌, ℕ, ◌+◌, ◌-◌, ◌<◌, ◌≤◌, Bool, true, false, cond, not, ◌&&◌, eqb, ltb, leb, ◌⊎◌, List, [], ◌∷◌, length, get_or, slice_get, drop, set, replicate, is_some, Some, None, Ok, Err, Option, sym, refl, ap, ◌∙◌, inl, inr, ⊎_elim, arith}
use Rattle.std.proofs.lemmas.List.{length-set}
pub use Rattle.std.proofs.lemmas.Option.{cond_some as under_some}
use Rattle.std.proofs.lemmas.Option.{slice_get_cases, slice_get_within}
use Rattle.std.proofs.lemmas.Bool.{true≢false, eqb-true, ltb-true, leb-true, or_cases, and_parts, cond-true, cond-false}
use Rattle.tables.specs.Chains.{visits, visits_from}
use Rattle.tables.specs.Check.{among, also, names_quantity, kind_fits, subject_fits, amount_fits, next_fits, told, unless, ◌or◌, link_fault, at_link, visits_fault, chain_fault}
use Rattle.tables.specs.Problem.{Problem}
use Rattle.tables.specs.declared.Link.{Link}
use Rattle.tables.specs.declared.Role.{Role}
use Rattle.tables.specs.declared.fault.ChainFault.{ChainFault}
use Rattle.tables.specs.declared.fault.LinkFault.TheVariants.{Missing, Kind, Subject, Amount, Repeated, Next}
use Rattle.tables.proofs.Marks.{Marks, marks_also, marks_none}
use Rattle.tables.proofs.Walks.{visits_none, visits_missing, visits_met, visits_on, walk_falls}

pub record Walked (p : Problem) (r : Role) (first at : ℕ) (seen : List Bool) : Type 0 where
  pub long : length seen ≡ 16
  pub named : List ℕ
  pub marks : Marks seen named
  pub left : visits_fault p r named (visits p.links at) ≡ chain_fault p r first

pub walked_start : (p : Problem) (r : Role) (first : ℕ) → Walked p r first first (replicate 16 false)
unfolding chain_fault
walked_start p r first = record { long = refl; named = []; marks = marks_none; left = refl }

pub some_none : {F : Type 0} {f : F} → Some f ≡ None → ⊥
some_none e = true≢false (ap is_some e)

pub some_same : {F : Type 0} {x y : F} → Some x ≡ Some y → x ≡ y
some_same e = cc

-- an answer under a test; where it is there, `under_some` tells, the library's `cond_some`
pub under_none : {F : Type 0} (b : Bool) (x : F) → cond b (Some x) None ≡ None → b ≡ false
under_none true x e = absurd (some_none e)
under_none false x e = refl

pub told_err : {F : Type 0} (o : Option F) (f : F) → told o ≡ Err f → o ≡ Some f
told_err None f e = cc
told_err (Some g) f e = cc

pub told_ok : {F : Type 0} (o : Option F) → told o ≡ Ok tt → o ≡ None
told_ok None e = refl
told_ok (Some g) e = cc

pub or_skip : {F : Type 0} (a b : Option F) → a ≡ None → (a or b) ≡ b
or_skip a b e = ap (λ o. o or b) e

-- the first of two faults, as the check tells it
pub told_here : {F : Type 0} (a b : Option F) (f : F) → told a ≡ Err f → told (a or b) ≡ Err f
told_here a b f e = ap (λ o. told (o or b)) (told_err a f e)

pub told_next : {F : Type 0} (a b : Option F) → told a ≡ Ok tt → told (a or b) ≡ told b
told_next a b e = ap told (or_skip a b (told_ok a e))

-- each test of a link that has no fault passed
pub or_none : {F : Type 0} (a b : Option F) → (a or b) ≡ None → (a ≡ None) × (b ≡ None)
or_none None b e = (refl, e)
or_none (Some f) b e = absurd (some_none e)

pub unless_none : {F : Type 0} (t : Bool) (f : F) → unless t f ≡ None → t ≡ true
unless_none true f e = refl
unless_none false f e = absurd (some_none e)

pub record Passed (p : Problem) (r : Role) (before : Bool) (n : ℕ) (l : Link) : Type 0 where
  pub kind : kind_fits r l.kind ≡ true
  pub subject : subject_fits p l.kind l.subject ≡ true
  pub amount : amount_fits l.kind l.amount ≡ true
  pub fresh : not (names_quantity l.kind && before) ≡ true
  pub next : next_fits n l.next ≡ true

pub passed : (p : Problem) (r : Role) (before : Bool) (n : ℕ) (l : Link) → link_fault p r before n l ≡ None → Passed p r before n l
passed p r before n l e =
    let a = or_none _ _ e in
    let b = or_none _ _ a.1 in
    let c = or_none _ _ b.1 in
    let d = or_none _ _ c.1 in
    record { kind = unless_none _ _ a.0; subject = unless_none _ _ b.0; amount = unless_none _ _ c.0; fresh = unless_none _ _ d.0; next = unless_none _ _ d.1 }

pub tests_pass : (k s a f x : Bool) → k ≡ true → s ≡ true → a ≡ true → f ≡ true → x ≡ true → (unless k Kind or unless s Subject or unless a Amount or unless f Repeated or unless x Next) ≡ None
tests_pass k s a f x hk hs ha hf hx = rw (hk, hs, ha, hf, hx)

pub next_cases : (n m : ℕ) → next_fits n m ≡ true → (m ≡ 0) ⊎ (n < m)
next_cases n m e = ⊎_elim (λ z. inl (eqb-true m 0 z)) (λ z. inr (ltb-true n m z)) (or_cases (eqb m 0) (ltb n m) e)

-- a quantity that a link names exists
pub quantity_named : (p : Problem) (k s : ℕ) → names_quantity k ≡ true → subject_fits p k s ≡ true → (1 ≤ s) × (s ≤ length p.quantities)
quantity_named p k s e f =
    let g : (leb 1 s && leb s (length p.quantities)) ≡ true = sym (cond-true (names_quantity k) _ _ e) ∙ f in
    let h = and_parts (leb 1 s) (leb s (length p.quantities)) g in
    (leb-true 1 s h.0, leb-true s _ h.1)

-- whether the subject was named before counts only for a quantity that exists
tests_same : (k s q a x b b' : Bool) → (q ≡ true → s ≡ true → b ≡ b')
    → (unless k Kind or unless s Subject or unless a Amount or unless (not (q && b)) Repeated or unless x Next)
    ≡ (unless k Kind or unless s Subject or unless a Amount or unless (not (q && b')) Repeated or unless x Next)
tests_same false s q a x b b' h = refl
tests_same true false q a x b b' h = refl
tests_same true true false a x b b' h = refl
tests_same true true true a x b b' h = ap (λ c. unless a Amount or unless (not c) Repeated or unless x Next) (h refl refl)

pub link_fault_same : (p : Problem) (r : Role) (n : ℕ) (l : Link) (b b' : Bool) → (names_quantity l.kind ≡ true → subject_fits p l.kind l.subject ≡ true → b ≡ b') → link_fault p r b n l ≡ link_fault p r b' n l
link_fault_same p r n l b b' h =
    tests_same (kind_fits r l.kind) (subject_fits p l.kind l.subject) (names_quantity l.kind) (amount_fits l.kind l.amount) (next_fits n l.next) b b' h

-- what a read past the end gives
within_from_none : {A : Type 0} (xs : List A) (k : ℕ) → slice_get xs k ≡ None → length xs ≤ k
within_from_none xs k e = ⊎_elim (λ w. absurd (some_none (sym w.2 ∙ e))) (λ w. w.0) (slice_get_cases xs k).1

module _ (p : Problem) (r : Role) (first at : ℕ) (seen : List Bool) (w : Walked p r first at seen) where
  pub walked_end : at ≡ 0 → chain_fault p r first ≡ None
  unfolding visits_fault
  walked_end e = sym w.left ∙ ap (visits_fault p r w.named) (visits_none p.links at e)

  pub walked_missing : slice_get p.links (at - 1) ≡ None → 0 < at → chain_fault p r first ≡ Some (record { link = at; fault = Missing })
  unfolding visits_fault
  walked_missing gone q =
      let past : length p.links ≤ at - 1 = within_from_none p.links (at - 1) gone in
      sym w.left ∙ ap (visits_fault p r w.named) (visits_missing p.links at (omega arith))

  -- at the link that is met
  module _ (l : Link) (met : slice_get p.links (at - 1) ≡ Some l) (q : 0 < at) (few : length p.quantities ≤ 16) where
    -- the marks tell what the list of names tells
    walked_same : link_fault p r (get_or seen (l.subject - 1) false) at l ≡ link_fault p r (among w.named l.subject) at l
    walked_same = link_fault_same p r at l _ _ same
      where
        same : names_quantity l.kind ≡ true → subject_fits p l.kind l.subject ≡ true → get_or seen (l.subject - 1) false ≡ among w.named l.subject
        same k s =
            let b = quantity_named p l.kind l.subject k s in
            let e : (l.subject - 1) + 1 ≡ l.subject = omega (arith, b.0) in
            w.marks (l.subject - 1) (omega (arith, b.0, b.1)) ∙ ap (among w.named) e

    -- a fault of the link is the chain's
    pub walked_fault : (f : ChainFault) → f.link ≡ at → link_fault p r (get_or seen (l.subject - 1) false) at l ≡ Some f.fault → chain_fault p r first ≡ Some f
    unfolding visits_fault
    walked_fault f here e =
        sym w.left ∙ ap (visits_fault p r w.named) (visits_met p.links at l met q)
        ∙ ap (λ o. at_link at o or visits_fault p r (also l w.named) (visits_from (at + 1) (drop at p.links) l.next)) (sym walked_same ∙ e)
        ∙ ap (λ n. Some (record { link = n; fault = f.fault })) (sym here)

    module _ (e : link_fault p r (get_or seen (l.subject - 1) false) at l ≡ None) where
      none : link_fault p r (among w.named l.subject) at l ≡ None
      none = sym walked_same ∙ e

      next_is : (l.next ≡ 0) ⊎ (at < l.next)
      next_is = next_cases at l.next (passed p r (among w.named l.subject) at l none).next

      walked_left : visits_fault p r (also l w.named) (visits p.links l.next) ≡ chain_fault p r first
      unfolding visits_fault
      walked_left =
          ap (visits_fault p r (also l w.named)) (sym (visits_on p.links at l.next next_is))
          ∙ sym (ap (λ o. at_link at o or visits_fault p r (also l w.named) (visits_from (at + 1) (drop at p.links) l.next)) none)
          ∙ sym (ap (visits_fault p r w.named) (visits_met p.links at l met q))
          ∙ w.left

      -- a link without a fault is passed, and its quantity is marked
      pub walked_marked : names_quantity l.kind ≡ true → Walked p r first l.next (set seen (l.subject - 1) true)
      walked_marked k =
          let s = quantity_named p l.kind l.subject k (passed p r (among w.named l.subject) at l none).subject in
          record {
            long = length-set seen (l.subject - 1) true ∙ w.long;
            named = l.subject ∷ w.named;
            marks = marks_also seen w.named l.subject w.long s.0 (omega (arith, s.1)) w.marks;
            left = ap (λ ns. visits_fault p r ns (visits p.links l.next)) (sym (cond-true (names_quantity l.kind) _ _ k)) ∙ walked_left;
          }

      pub walked_on : names_quantity l.kind ≡ false → Walked p r first l.next seen
      walked_on k =
          record {
            long = w.long;
            named = w.named;
            marks = w.marks;
            left = ap (λ ns. visits_fault p r ns (visits p.links l.next)) (sym (cond-false (names_quantity l.kind) _ _ k)) ∙ walked_left;
          }

      -- the walk moves on in the table, or ends
      pub walked_less : cond (eqb l.next 0) 0 (length p.links + 1 - l.next) < cond (eqb at 0) 0 (length p.links + 1 - at)
      walked_less = let inside = slice_get_within p.links (at - 1) l met in walk_falls (length p.links) at l.next q (omega (arith, inside)) next_is
