use Rattle.std.proofs.Common.{◌≡◌, ℕ, zero, suc, ◌+◌, ◌<◌, ◌≤◌, ◌/◌, ◌^◌, Bool, false, ◌&&◌, ltb, eqb, get_or, List, Option, refl, sym, ap, ◌∙◌, subst, ap₂, arith, rules, tests, lit<, ⊎_elim}
use Rattle.std.specs.Array.{IsFromFnResultFrom, IsElementAt}
use Rattle.std.specs.Fn.{Called}
use Rattle.std.specs.Iterator.{CallableAtEachTurn}
use Rattle.std.proofs.lemmas.Fn.{serves_by}
use Rattle.std.proofs.lemmas.Bool.{cases_eq, cases_lt, lt-ltb, le-ltb}
use Rattle.std.proofs.lemmas.Nat.{and_mask}
use Rattle.std.proofs.lemmas.List.{get_or_past}
use lib.Bits.{bit_and}
use denote.Param.Members.{Mut}
use Rattle.tables.specs.declared.Tables.{Tables}
use Rattle.task.specs.States.{fact_holds}
use Rattle.task.proofs.Along.{kept_rules}
use Rattle.lmcut.proofs.standing.Position.facts_hold.Goals as goal

-- calls that leave a closure as it was may be made at each number
serves : {A P S : Type 0} (steps : S → Option A → S → Type 0) (R : P → A → P → Type 0) (Q : P → A → Type 0) (s : S) (p : P) → ((q : P) (x : A) (v : P) → R q x v → v ≡ q) → ((x : A) → Q p x) → CallableAtEachTurn steps R Q s p
serves steps R Q s p same good = serves_by R (λ xs q. q ≡ p) (λ xs q x v e r. same q x v r ∙ e) steps Q s p refl (λ xs t q x u y z e. subst (λ a. Q a x) (sym e) (good x))

-- an array made by such calls
made_at : {F B : Type 0} (g : Mut F (ℕ × Unit {0}) B) (h : ℕ → B) (f : F) → ((i : ℕ) (y : B) (f' : F) → Called g f (i, tt) y f' → (y ≡ h i) × (f' ≡ f)) → (ys : List B) (i n : ℕ)
    → IsFromFnResultFrom g f ys i n → (k : ℕ) → i ≤ k → k < i + n → IsElementAt ys k (h k)
made_at g h f same ys i zero w k a b = absurd (omega arith)
made_at g h f same ys i (suc n) w k a b =
    let t = same i w.1 w.0 w.3 in
    ⊎_elim
    (λ e. subst (λ j. IsElementAt ys j (h j)) (sym e) (subst (IsElementAt ys i) t.0 w.2))
    (λ ne. made_at g h f same ys (i + 1) n (subst (λ q. IsFromFnResultFrom g q ys (i + 1) n) t.1 w.4) k (omega arith) (omega arith))
    (cases_eq k i)

-- what the closure answers at a node
abbrev code : ℕ → ℕ → ℕ → Bool
code facts word n = ltb n facts && eqb (bit_and (word / 2 ^ n) 1) 1

below : (facts word n : ℕ) → n < facts → code facts word n ≡ fact_holds word n
below facts word n h = ap₂ ◌&&◌ (lt-ltb n facts h) (ap (λ x. eqb x 1) (and_mask (word / 2 ^ n) 1))

above : (facts word n : ℕ) → facts ≤ n → code facts word n ≡ false
above facts word n h = ap (λ b. b && eqb (bit_and (word / 2 ^ n) 1) 1) (le-ltb n facts h)

pub from_fn-requires : goal.from_fn-requires
from_fn-requires c =
    let e = ap (λ (t : Tables). t.head.facts) c.tables.ensures in
    let few = (kept_rules c.args.self.now.task.now).facts in
    (lit< tt, serves _ _ _ _ _ (λ q x v r. search rules) (λ x lives at name same range small l fits. omega arith))

-- what the array has at a node
node_is : (c : goal.After-from_fn) → (k : ℕ) → k < 129 → get_or c.from_fn.result k false ≡ code c.args.self.now.task.now.tables.head.facts c.args.self.now.state.now.facts k
node_is c k h =
    let e = ap (λ (t : Tables). t.head.facts) c.tables.ensures in
    let made = made_at _ (code c.tables.result.head.facts c.args.self.now.state.now.facts) _ (λ i y f' r. (search (rules, tests), search rules)) c.from_fn.result 0 129 c.from_fn.ensures.items.each k (omega arith) h in
    made.1 false ∙ ap (λ n. code n c.args.self.now.state.now.facts k) e

pub returns-clause-facts : goal.returns-clause-facts
returns-clause-facts c = λ k h. let few = (kept_rules c.args.self.now.task.now).facts in node_is c k (omega arith) ∙ below _ _ k h

pub returns-clause-rest : goal.returns-clause-rest
returns-clause-rest c = λ k h. ⊎_elim
    (λ l. node_is c k l ∙ above _ _ k h)
    (λ l. get_or_past c.from_fn.result k false (let n = c.from_fn.ensures.items.long in omega arith))
    (cases_lt k 129)
