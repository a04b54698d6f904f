-- The effects of a move, each quantity named at most once: what they add to a quantity, and the facts they set and clear.
use Rattle.std.proofs.Common.{◌≡◌, ℕ, ◌-◌, ◌^◌, ◌<◌, ◌≤◌, Bool, true, false, cond, ◌&&◌, ◌||◌, eqb, ◌⊎◌, List, [], ◌∷◌, length, get_or, set, ℤ, pos, ◌+ℤ◌, fold, sym, refl, ap, ◌∙◌, subst, inl, inr, ⊎_elim, arith}
use lib.Bits.{bit_or, or_lt}
use lib.IntN.{+ℤ_idr}
use Rattle.std.proofs.lemmas.Nat.{pow_below}
use Rattle.std.proofs.lemmas.List.{get_or-set_same, get_or-set_other, length-set}
use Rattle.std.proofs.lemmas.Bool.{eq-eqb, ne_eqb, eqb-true, cond-true, cond-false, cond_both, cases_eq, cases_Bool, and_from, and_parts}
use Rattle.std.specs.List.{AllByRecursion}
use Rattle.tables.specs.Check.{names_quantity, in_range}
use Rattle.task.specs.Meaning.{names, change}
use Rattle.tables.specs.Problem.{Problem}
use Rattle.tables.specs.Rules.{LinkFits, quantities_of, Once}
use Rattle.task.specs.States.{fact_holds, value_of, quantity_at, changed, stays, noted, put}
use Rattle.task.specs.declared.state.State.{State}
use Rattle.tables.specs.declared.Link.{Link}
use Rattle.tables.specs.declared.Role.TheVariants.{Effects}
use Rattle.task.proofs.Words.{holds_or, holds_power}

-- ---- facts

or_false : (b : Bool) → (b || false) ≡ b
or_false true = refl
or_false false = refl

noted_holds : (kind w : ℕ) (l : Link) (k : ℕ) → fact_holds (noted kind w l) k ≡ (fact_holds w k || (eqb l.kind kind && eqb l.subject k))
noted_holds kind w l k = go (eqb l.kind kind)
  where
    go : (b : Bool) → fact_holds (cond b (bit_or w (2 ^ l.subject)) w) k ≡ (fact_holds w k || (b && eqb l.subject k))
    go true = holds_or w (2 ^ l.subject) k ∙ ap (λ b. fact_holds w k || b) (holds_power l.subject k)
    go false = sym (or_false (fact_holds w k))

or_assoc : (a b c : Bool) → ((a || b) || c) ≡ (a || (b || c))
or_assoc true b c = refl
or_assoc false b c = refl

pub folded_holds : (kind w : ℕ) (ls : List Link) (k : ℕ) → fact_holds (fold (noted kind) w ls) k ≡ (fact_holds w k || names kind ls k)
unfolding names
folded_holds kind w [] k = sym (or_false (fact_holds w k))
folded_holds kind w (l ∷ ls) k =
    folded_holds kind (noted kind w l) ls k ∙ ap (λ b. b || names kind ls k) (noted_holds kind w l k) ∙ or_assoc (fact_holds w k) (eqb l.kind kind && eqb l.subject k) (names kind ls k)

-- facts that the effects of an accepted task name are facts of the task
pub folded_below : (p : Problem) (kind w : ℕ) (ls : List Link) → (kind ≡ 4) ⊎ (kind ≡ 5) → AllByRecursion (LinkFits p Effects) ls → w < 2 ^ p.head.facts → fold (noted kind) w ls < 2 ^ p.head.facts
folded_below p kind w [] k a h = h
folded_below p kind w (l ∷ ls) k a h = folded_below p kind (noted kind w l) ls k a.1 (cond_both (eqb l.kind kind) (bit_or w (2 ^ l.subject)) w (λ n. n < 2 ^ p.head.facts) yes' (λ _. h))
  where
    yes' : eqb l.kind kind ≡ true → bit_or w (2 ^ l.subject) < 2 ^ p.head.facts
    yes' e =
        let same = eqb-true _ _ e in
        let s = a.0.1.fact (inr (⊎_elim (λ z. inl (same ∙ z)) (λ z. inr (same ∙ z)) k)) in
        or_lt p.head.facts w (2 ^ l.subject) h (pow_below l.subject p.head.facts s)

-- ---- quantities

-- in effects, a link names a quantity exactly where it changes one
names_change : (p : Problem) (l : Link) → LinkFits p Effects l → names_quantity l.kind ≡ eqb l.kind 6
names_change p l f = let k = f.1.kind in let n : l.kind ≡ 1 → ⊥ = λ e. omega arith in ap (λ b. b || eqb l.kind 6) (ne_eqb l.kind 1 n)

-- a quantity that no link names has no change
pub unnamed : (p : Problem) (ls : List Link) (q : ℕ) → AllByRecursion (LinkFits p Effects) ls → AllByRecursion (λ x. q ≡ x → ⊥) (quantities_of ls) → change ls q ≡ pos 0
unfolding change quantities_of
unnamed p [] q a o = refl
unnamed p (l ∷ ls) q a o = go (eqb l.kind 6) (names_change p l a.0) (λ o'. unnamed p ls q a.1 o')
  where
    go : (b : Bool) → names_quantity l.kind ≡ b → (AllByRecursion (λ x. q ≡ x → ⊥) (quantities_of ls) → change ls q ≡ pos 0) → cond (b && eqb l.subject q) (l.amount +ℤ change ls q) (change ls q) ≡ pos 0
    go true e ih =
        let o' = subst (AllByRecursion (λ x. q ≡ x → ⊥)) (cond-true (names_quantity l.kind) _ _ e) o in
        cond-false (eqb l.subject q) _ _ (ne_eqb _ _ (λ z. o'.0 (sym z))) ∙ ih o'.1
    go false e ih = ih (subst (AllByRecursion (λ x. q ≡ x → ⊥)) (cond-false (names_quantity l.kind) _ _ e) o)

-- a value stays at a quantity that no link names
untouched : (p : Problem) (s : State) (vs : List ℤ) (ls : List Link) (q : ℕ) → AllByRecursion (LinkFits p Effects) ls → 1 ≤ q → AllByRecursion (λ x. q ≡ x → ⊥) (quantities_of ls) → get_or (fold (put s) vs ls) (q - 1) (pos 0) ≡ get_or vs (q - 1) (pos 0)
unfolding quantities_of
untouched p s vs [] q a h o = refl
untouched p s vs (l ∷ ls) q a h o = go (eqb l.kind 6) (names_change p l a.0) refl (λ vs' o'. untouched p s vs' ls q a.1 h o')
  where
    go : (b : Bool) → names_quantity l.kind ≡ b → eqb l.kind 6 ≡ b → ((vs' : List ℤ) → AllByRecursion (λ x. q ≡ x → ⊥) (quantities_of ls) → get_or (fold (put s) vs' ls) (q - 1) (pos 0) ≡ get_or vs' (q - 1) (pos 0))
        → get_or (fold (put s) (cond b (set vs (l.subject - 1) (changed s l)) vs) ls) (q - 1) (pos 0) ≡ get_or vs (q - 1) (pos 0)
    go true e k ih =
        let o' = subst (AllByRecursion (λ x. q ≡ x → ⊥)) (cond-true (names_quantity l.kind) _ _ e) o in
        let one = (a.0.1.quantity (inr (eqb-true _ _ k))).0 in
        ih (set vs (l.subject - 1) (changed s l)) o'.1 ∙ get_or-set_other vs (l.subject - 1) (q - 1) (changed s l) (pos 0) (λ z. o'.0 (omega arith))
    go false e k ih = ih vs (subst (AllByRecursion (λ x. q ≡ x → ⊥)) (cond-false (names_quantity l.kind) _ _ e) o)

-- where the values begin with the state's own, the effects add their change
pub adds_change : (p : Problem) (s : State) (vs : List ℤ) (ls : List Link) (q : ℕ) → AllByRecursion (LinkFits p Effects) ls → Once (quantities_of ls) → length vs ≡ 16 → 1 ≤ q → q ≤ 16 → get_or vs (q - 1) (pos 0) ≡ value_of s q
    → get_or (fold (put s) vs ls) (q - 1) (pos 0) ≡ value_of s q +ℤ change ls q
unfolding change quantities_of
adds_change p s vs [] q a o len h k e = e ∙ sym (+ℤ_idr (value_of s q))
adds_change p s vs (l ∷ ls) q a o len h k e = go (eqb l.kind 6) (names_change p l a.0) refl (λ vs' o' len' e'. adds_change p s vs' ls q a.1 o' len' h k e')
  where
    Rest : Type 0
    Rest = (vs' : List ℤ) → Once (quantities_of ls) → length vs' ≡ 16 → get_or vs' (q - 1) (pos 0) ≡ value_of s q → get_or (fold (put s) vs' ls) (q - 1) (pos 0) ≡ value_of s q +ℤ change ls q

    Goal : Bool → Type 0
    Goal b = get_or (fold (put s) (cond b (set vs (l.subject - 1) (changed s l)) vs) ls) (q - 1) (pos 0) ≡ value_of s q +ℤ cond (b && eqb l.subject q) (l.amount +ℤ change ls q) (change ls q)

    hit : Once (l.subject ∷ quantities_of ls) → l.subject ≡ q → Goal true
    hit o' same =
        let rest : AllByRecursion (λ x. q ≡ x → ⊥) (quantities_of ls) = subst (λ n. AllByRecursion (λ x. n ≡ x → ⊥) (quantities_of ls)) same o'.0 in
        let lt : q - 1 < length vs = omega arith in
        let at : l.subject - 1 ≡ q - 1 = ap (λ n. n - 1) same in
        untouched p s (set vs (l.subject - 1) (changed s l)) ls q a.1 h rest
        ∙ ap (λ i. get_or (set vs i (changed s l)) (q - 1) (pos 0)) at ∙ get_or-set_same vs (q - 1) (changed s l) (pos 0) lt
        ∙ ap (λ n. value_of s n +ℤ l.amount) same
        ∙ ap (λ z. value_of s q +ℤ z) (sym (+ℤ_idr l.amount) ∙ ap (λ z. l.amount +ℤ z) (sym (unnamed p ls q a.1 rest)))
        ∙ ap (λ z. value_of s q +ℤ z) (sym (cond-true (eqb l.subject q) _ _ (eq-eqb _ _ same)))

    miss : eqb l.kind 6 ≡ true → Once (l.subject ∷ quantities_of ls) → (l.subject ≡ q → ⊥) → Rest → Goal true
    miss k6 o' ne ih =
        let one = (a.0.1.quantity (inr (eqb-true _ _ k6))).0 in
        ih (set vs (l.subject - 1) (changed s l)) o'.1 (length-set vs (l.subject - 1) (changed s l) ∙ len) (get_or-set_other vs (l.subject - 1) (q - 1) (changed s l) (pos 0) (λ z. ne (omega arith)) ∙ e)
        ∙ ap (λ z. value_of s q +ℤ z) (sym (cond-false (eqb l.subject q) _ _ (ne_eqb _ _ ne)))

    go : (b : Bool) → names_quantity l.kind ≡ b → eqb l.kind 6 ≡ b → Rest → Goal b
    go true n k6 ih =
        let o' = subst Once (cond-true (names_quantity l.kind) _ _ n) o in
        ⊎_elim (hit o') (λ ne. miss k6 o' ne ih) (cases_eq l.subject q)
    go false n k6 ih = ih vs (subst Once (cond-false (names_quantity l.kind) _ _ n) o) len e

-- ---- ranges

-- quantities past the table are named by no link
pub past_named : (p : Problem) (ls : List Link) (q : ℕ) → AllByRecursion (LinkFits p Effects) ls → length p.quantities < q → AllByRecursion (λ x. q ≡ x → ⊥) (quantities_of ls)
unfolding quantities_of
past_named p [] q a h = tt
past_named p (l ∷ ls) q a h = go (names_quantity l.kind) (names_change p l a.0) (past_named p ls q a.1 h)
  where
    go : (b : Bool) → b ≡ eqb l.kind 6 → AllByRecursion (λ x. q ≡ x → ⊥) (quantities_of ls) → AllByRecursion (λ x. q ≡ x → ⊥) (cond b (l.subject ∷ quantities_of ls) (quantities_of ls))
    go true e ih = ((λ z. let b = (a.0.1.quantity (inr (eqb-true _ _ (sym e)))).1 in omega arith), ih)
    go false e ih = ih

named_first : (l : Link) (ls : List Link) → names_quantity l.kind ≡ true → quantities_of (l ∷ ls) ≡ l.subject ∷ quantities_of ls
unfolding quantities_of
named_first l ls e = cond-true (names_quantity l.kind) _ _ e

-- effects keep every quantity in its range exactly where each quantity, with its change, is in its range
module _ (p : Problem) (s : State) (base : (q : ℕ) → 1 ≤ q → q ≤ length p.quantities → in_range (quantity_at p q) (value_of s q) ≡ true) where
  abbrev Ranged : List Link → ℕ → Type 0
  Ranged ls q = in_range (quantity_at p q) (value_of s q +ℤ change ls q) ≡ true

  -- a link that changes a quantity which the rest does not name
  change_here : (l : Link) (ls : List Link) → AllByRecursion (LinkFits p Effects) (l ∷ ls) → Once (quantities_of (l ∷ ls)) → eqb l.kind 6 ≡ true → value_of s l.subject +ℤ change (l ∷ ls) l.subject ≡ changed s l
  unfolding change quantities_of
  change_here l ls a o k =
      let o' = subst Once (cond-true (names_quantity l.kind) _ _ (names_change p l a.0 ∙ k)) o in
      let c : change (l ∷ ls) l.subject ≡ l.amount = cond-true _ _ _ (and_from _ _ k (eq-eqb l.subject l.subject refl)) ∙ ap (λ z. l.amount +ℤ z) (unnamed p ls l.subject a.1 o'.0) ∙ +ℤ_idr l.amount in
      ap (λ z. value_of s l.subject +ℤ z) c

  change_else : (l : Link) (ls : List Link) (q : ℕ) → (eqb l.kind 6 && eqb l.subject q) ≡ false → change (l ∷ ls) q ≡ change ls q
  unfolding change
  change_else l ls q e = cond-false _ _ _ e

  once_rest : (l : Link) (ls : List Link) → Once (quantities_of (l ∷ ls)) → Once (quantities_of ls)
  unfolding quantities_of
  once_rest l ls o = go (names_quantity l.kind) o
    where
      go : (b : Bool) → Once (cond b (l.subject ∷ quantities_of ls) (quantities_of ls)) → Once (quantities_of ls)
      go true o = o.1
      go false o = o

  pub stays_ranged : (ls : List Link) (q : ℕ) → AllByRecursion (LinkFits p Effects) ls → Once (quantities_of ls) → 1 ≤ q → q ≤ length p.quantities → stays p s ls ≡ true → Ranged ls q
  unfolding change
  stays_ranged [] q a o h k st = ap (in_range (quantity_at p q)) (+ℤ_idr (value_of s q)) ∙ base q h k
  stays_ranged (l ∷ ls) q a o h k st =
      let parts = and_parts _ _ st in
      ⊎_elim
      (λ e. let both = and_parts _ _ e in let same = eqb-true _ _ both.1 in
      subst (Ranged (l ∷ ls)) same (ap (in_range (quantity_at p l.subject)) (change_here l ls a o both.0) ∙ (sym (cond-true (eqb l.kind 6) _ true both.0) ∙ parts.0)))
      (λ e. ap (λ z. in_range (quantity_at p q) (value_of s q +ℤ z)) (change_else l ls q e) ∙ stays_ranged ls q a.1 (once_rest l ls o) h k parts.1)
      (cases_Bool (eqb l.kind 6 && eqb l.subject q))

  pub ranged_stays : (ls : List Link) → AllByRecursion (LinkFits p Effects) ls → Once (quantities_of ls) → ((q : ℕ) → 1 ≤ q → q ≤ length p.quantities → Ranged ls q) → stays p s ls ≡ true
  ranged_stays [] a o r = refl
  ranged_stays (l ∷ ls) a o r = and_from _ _ (cond_both (eqb l.kind 6) _ true (λ b. b ≡ true) here (λ _. refl)) (ranged_stays ls a.1 (once_rest l ls o) rest)
    where
      here : eqb l.kind 6 ≡ true → in_range (quantity_at p l.subject) (changed s l) ≡ true
      here k = let q = a.0.1.quantity (inr (eqb-true _ _ k)) in ap (in_range (quantity_at p l.subject)) (sym (change_here l ls a o k)) ∙ r l.subject q.0 q.1

      rest : (q : ℕ) → 1 ≤ q → q ≤ length p.quantities → Ranged ls q
      rest q h k = ⊎_elim
          (λ e. let both = and_parts _ _ e in let same = eqb-true _ _ both.1 in
          let o' = subst Once (named_first l ls (names_change p l a.0 ∙ both.0)) o in
          let none = unnamed p ls q a.1 (subst (λ n. AllByRecursion (λ x. n ≡ x → ⊥) (quantities_of ls)) same o'.0) in
          ap (in_range (quantity_at p q)) (ap (λ z. value_of s q +ℤ z) none ∙ +ℤ_idr (value_of s q)) ∙ base q h k)
          (λ e. ap (λ z. in_range (quantity_at p q) (value_of s q +ℤ z)) (sym (change_else l ls q e)) ∙ r q h k)
          (cases_Bool (eqb l.kind 6 && eqb l.subject q))
