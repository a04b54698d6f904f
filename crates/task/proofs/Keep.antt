-- The laws of states and moves: the start state is a state, an allowed move leads from a state to a state, and moves mean what
-- the subject means by them.
use Rattle.std.proofs.Common.{◌≡◌, ℕ, zero, suc, ◌+◌, ◌-◌, ◌%◌, ◌^◌, ◌<◌, ◌≤◌, Bool, true, false, cond, not, ◌&&◌, ◌||◌, eqb, ltb, List, [], ◌∷◌, ◌++◌, map, length, get_or, set, replicate, ℤ, pos, ◌+ℤ◌, Some, fold, sym, refl, ap, ◌∙◌, subst, ap₂, inl, ⊎_elim, arith}
use native.Mathlib.Nat.{zero-div}
use lib.Bits.{bit_and, bit_xor, or_lt, xor_lt}
use lib.IntN.{+ℤ_idr}
use Rattle.std.proofs.lemmas.Nat.{and_le_l, pow_pos}
use Rattle.std.proofs.ByRecursion.{All-get_or}
use Rattle.std.proofs.lemmas.List.{get_or-map, get_or_append_left, get_or-append_right, get_or-replicate, length-map, length-append, length-replicate, length-set}
use Rattle.std.proofs.lemmas.Bool.{and_parts, and_from, ltb-true, lt-ltb, le-ltb, eqb-true, eq-eqb, leb-true, le-leb, cond-true, cond-false, cases_lt}
use Rattle.tables.specs.Chains.{chain}
use Rattle.tables.specs.Check.{in_range}
use Rattle.task.specs.Meaning.{names, change, effects_of, Allows, Follows, MovesMean}
use Rattle.tables.specs.Problem.{Problem}
use Rattle.tables.specs.Rules.{ChainKeeps, QuantityKeeps, Keeps}
use Rattle.task.specs.States.{fact_holds, value_of, quantity_at, move_at, no_quantity, stays, value_fits, values_fit, is_state, start_state, made, cleared, put, values_after, moved, allowed, result_of}
use Rattle.task.specs.declared.state.State.{State}
use Rattle.tables.specs.declared.Quantity.{Quantity}
use Rattle.tables.specs.declared.Link.{Link}
use Rattle.tables.specs.declared.Role.TheVariants.{Effects}
use Rattle.tables.proofs.Accepts.{decides_int_le}
use Rattle.task.proofs.Along.{keeps_fit, move_keeps}
use Rattle.task.proofs.Changes.{folded_holds, folded_below, adds_change, past_named, unnamed, stays_ranged, ranged_stays}
use Rattle.tables.proofs.Checked.{under_some}
use Rattle.task.proofs.Words.{holds_or, holds_without}

-- ---- states, value by value

pub fits_all : (qs : List Quantity) (k : ℕ) (vs : List ℤ) → values_fit qs k vs ≡ true → (i : ℕ) → i < length vs → value_fits qs (k + i) (get_or vs i (pos 0)) ≡ true
unfolding values_fit
fits_all qs k [] e i h = absurd (omega arith)
fits_all qs k (v ∷ vs) e zero h = let n : k ≡ k + 0 = omega arith in ap (λ m. value_fits qs m v) (sym n) ∙ (and_parts _ _ e).0
fits_all qs k (v ∷ vs) e (suc i) h = let n : k + 1 + i ≡ k + suc i = omega arith in ap (λ m. value_fits qs m (get_or vs i (pos 0))) (sym n) ∙ fits_all qs (k + 1) vs (and_parts _ _ e).1 i (omega arith)

pub all_fits : (qs : List Quantity) (k : ℕ) (vs : List ℤ) → ((i : ℕ) → i < length vs → value_fits qs (k + i) (get_or vs i (pos 0)) ≡ true) → values_fit qs k vs ≡ true
unfolding values_fit
all_fits qs k [] h = refl
all_fits qs k (v ∷ vs) h =
    let n : k ≡ k + 0 = omega arith in
    and_from _ _ (ap (λ m. value_fits qs m v) n ∙ h 0 (omega arith)) (all_fits qs (k + 1) vs (λ i l. let e : k + 1 + i ≡ k + suc i = omega arith in ap (λ m. value_fits qs m (get_or vs i (pos 0))) e ∙ h (suc i) (omega arith)))

-- what it is to be a state
pub record IsState (p : Problem) (s : State) : Type 0 where
  pub facts : s.facts < 2 ^ p.head.facts
  pub long : length s.values ≡ 16
  pub fits : (i : ℕ) → i < 16 → value_fits p.quantities i (get_or s.values i (pos 0)) ≡ true

pub state_is : (p : Problem) (s : State) → is_state p s ≡ true → IsState p s
unfolding is_state
state_is p s e =
    let a = and_parts _ _ e in
    let b = and_parts _ _ a.0 in
    let len = eqb-true _ _ b.1 in
    record { facts = ltb-true _ _ b.0; long = len; fits = λ i h. let z : 0 + i ≡ i = omega arith in ap (λ m. value_fits p.quantities m (get_or s.values i (pos 0))) (sym z) ∙ fits_all p.quantities 0 s.values a.1 i (omega arith) }

pub is_a_state : (p : Problem) (s : State) → IsState p s → is_state p s ≡ true
unfolding is_state
is_a_state p s w =
    and_from _ _ (and_from _ _ (lt-ltb _ _ w.facts) (eq-eqb _ 16 w.long))
    (all_fits p.quantities 0 s.values (λ i h. let z : 0 + i ≡ i = omega arith in ap (λ m. value_fits p.quantities m (get_or s.values i (pos 0))) z ∙ w.fits i (let l = w.long in omega arith)))

-- a state's quantity is in its range
pub state_range : (p : Problem) (s : State) → Keeps p → IsState p s → (q : ℕ) → 1 ≤ q → q ≤ length p.quantities → in_range (quantity_at p q) (value_of s q) ≡ true
state_range p s t w q h k = sym (cond-true (ltb (q - 1) (length p.quantities)) _ _ (lt-ltb _ _ (omega arith))) ∙ w.fits (q - 1) (let few = t.few_quantities in omega arith)

-- ---- the start

pub start_is_state : (p : Problem) → Keeps p → is_state p (start_state p) ≡ true
unfolding start_state
start_is_state p t = is_a_state p (start_state p) (record { facts = t.start; long = len; fits = fit })
  where
    qs : List Quantity
    qs = p.quantities

    n : ℕ
    n = length p.quantities

    len : length (map (λ q. q.start) p.quantities ++ replicate (16 - length p.quantities) (pos 0)) ≡ 16
    len = length-append _ _ ∙ ap₂ ◌+◌ (length-map p.quantities (λ q. q.start)) (length-replicate (16 - length p.quantities) (pos 0)) ∙ (let few = t.few_quantities in omega arith)

    fit : (i : ℕ) → i < 16 → value_fits p.quantities i (get_or (map (λ q. q.start) p.quantities ++ replicate (16 - length p.quantities) (pos 0)) i (pos 0)) ≡ true
    fit i h = ⊎_elim first rest (cases_lt i (length p.quantities))
      where
        first : i < length p.quantities → value_fits p.quantities i (get_or (map (λ q. q.start) p.quantities ++ replicate (16 - length p.quantities) (pos 0)) i (pos 0)) ≡ true
        first l =
            let k = All-get_or QuantityKeeps p.quantities i no_quantity l t.quantities in
            let l' : i < length (map (λ q. q.start) p.quantities) = let m = length-map p.quantities (λ q. q.start) in omega arith in
            ap (value_fits p.quantities i) (get_or_append_left (map (λ q. q.start) p.quantities) _ (pos 0) i l' ∙ get_or-map (λ q. q.start) p.quantities i no_quantity (pos 0) l)
            ∙ cond-true (ltb i (length p.quantities)) _ _ (lt-ltb _ _ l)
            ∙ and_from _ _ ((decides_int_le _ _).1 k.above) ((decides_int_le _ _).1 k.below)

        rest : length p.quantities ≤ i → value_fits p.quantities i (get_or (map (λ q. q.start) p.quantities ++ replicate (16 - length p.quantities) (pos 0)) i (pos 0)) ≡ true
        rest l =
            ap (value_fits p.quantities i) (get_or-append_right (map (λ q. q.start) p.quantities) _ (length p.quantities) i (pos 0) (length-map p.quantities (λ q. q.start)) l ∙ get_or-replicate (16 - length p.quantities) (i - length p.quantities) (pos 0) (pos 0) (omega arith))
            ∙ cond-false (ltb i (length p.quantities)) _ _ (le-ltb _ _ l)

-- ---- moves

length_put : (s : State) (vs : List ℤ) (ls : List Link) → length vs ≡ 16 → length (fold (put s) vs ls) ≡ 16
length_put s vs [] h = h
length_put s vs (l ∷ ls) h = length_put s (put s vs l) ls (go (eqb l.kind 6))
  where
    go : (b : Bool) → length (cond b (set vs (l.subject - 1) (value_of s l.subject +ℤ l.amount)) vs) ≡ 16
    go true = length-set vs (l.subject - 1) _ ∙ h
    go false = h

module _ (p : Problem) (t : Keeps p) (s : State) (w : IsState p s) (n : ℕ) (k : ChainKeeps p Effects n) where
  pub moved_follows : Follows s (chain p.links n) (moved s (chain p.links n))
  unfolding moved
  moved_follows =
      record {
        facts = λ j. holds_or (bit_xor s.facts (bit_and s.facts (cleared (chain p.links n)))) (made (chain p.links n)) j
            ∙ ap₂ ◌||◌ (holds_without s.facts (cleared (chain p.links n)) j) (folded_holds 4 0 (chain p.links n) j)
            ∙ ap (λ b. (fact_holds s.facts j && not b) || (fact_holds 0 j || names 4 (chain p.links n) j)) (folded_holds 5 0 (chain p.links n) j)
            ∙ regroup j (fact_holds s.facts j) (names 5 (chain p.links n) j) (names 4 (chain p.links n) j);
        values = λ q h l. adds_change p s s.values (chain p.links n) q (keeps_fit p Effects n k) k.once w.long h l refl;
      }
    where
      no_fact : (j : ℕ) → fact_holds 0 j ≡ false
      no_fact j = ap (λ x. eqb (x % 2) 1) (zero-div (2 ^ j))

      swap : (a b : Bool) → (a || b) ≡ (b || a)
      swap true true = refl
      swap true false = refl
      swap false true = refl
      swap false false = refl

      regroup : (j : ℕ) (held c m : Bool) → ((held && not (fact_holds 0 j || c)) || (fact_holds 0 j || m)) ≡ (m || (held && not c))
      regroup j held c m = ap (λ z. (held && not (z || c)) || (z || m)) (no_fact j) ∙ swap (held && not c) m

  base : (q : ℕ) → 1 ≤ q → q ≤ length p.quantities → in_range (quantity_at p q) (value_of s q) ≡ true
  base = state_range p s t w

  pub moved_state : stays p s (chain p.links n) ≡ true → IsState p (moved s (chain p.links n))
  unfolding moved
  moved_state st =
      record {
        facts = or_lt p.head.facts _ _
            (xor_lt p.head.facts _ _ w.facts (let le = and_le_l s.facts (cleared (chain p.links n)) in let f = w.facts in omega arith))
            (folded_below p 4 0 (chain p.links n) (inl refl) (keeps_fit p Effects n k) (pow_pos _));
        long = length_put s s.values (chain p.links n) w.long;
        fits = fit;
      }
    where
      fit : (i : ℕ) → i < 16 → value_fits p.quantities i (get_or (values_after s (chain p.links n)) i (pos 0)) ≡ true
      fit i h =
          let one : i + 1 - 1 ≡ i = omega arith in
          let v : get_or (values_after s (chain p.links n)) i (pos 0) ≡ value_of s (i + 1) +ℤ change (chain p.links n) (i + 1) =
          ap (λ j. get_or (values_after s (chain p.links n)) j (pos 0)) (sym one) ∙ adds_change p s s.values (chain p.links n) (i + 1) (keeps_fit p Effects n k) k.once w.long (omega arith) (omega arith) refl in
          ap (value_fits p.quantities i) v
          ∙ ⊎_elim
          (λ l. cond-true (ltb i (length p.quantities)) _ _ (lt-ltb _ _ l)
          ∙ ap (λ j. in_range (get_or p.quantities j no_quantity) (value_of s (i + 1) +ℤ change (chain p.links n) (i + 1))) (sym one)
          ∙ stays_ranged p s base (chain p.links n) (i + 1) (keeps_fit p Effects n k) k.once (omega arith) (omega arith) st)
          (λ l. ap (value_fits p.quantities i) (ap (λ z. value_of s (i + 1) +ℤ z) (unnamed p (chain p.links n) (i + 1) (keeps_fit p Effects n k) (past_named p (chain p.links n) (i + 1) (keeps_fit p Effects n k) (omega arith))) ∙ +ℤ_idr (value_of s (i + 1)) ∙ ap (λ j. get_or s.values j (pos 0)) one)
          ∙ w.fits i h)
          (cases_lt i (length p.quantities))

pub moves_mean : (p : Problem) → Keeps p → (s : State) → is_state p s ≡ true → (m : ℕ) → MovesMean p s m
unfolding allowed result_of
moves_mean p t s e m = record { allows = (there, back); follows = follow; state = kept }
  where
    w : IsState p s
    w = state_is p s e

    there : allowed p s m ≡ true → Allows p s m
    there h =
        let a = and_parts _ _ h in
        let b = and_parts _ _ a.0 in
        let c = and_parts _ _ b.0 in
        let from = leb-true _ _ c.0 in
        let upto = leb-true _ _ c.1 in
        let k = (move_keeps p m t from upto).effects in
        record { from = from; upto = upto; needs = b.1; stays = λ q l u. stays_ranged p s (state_range p s t w) (effects_of p m) q (keeps_fit p Effects _ k) k.once l u a.1 }

    back : Allows p s m → allowed p s m ≡ true
    back h =
        let k = (move_keeps p m t h.from h.upto).effects in
        and_from _ _ (and_from _ _ (and_from _ _ (le-leb _ _ h.from) (le-leb _ _ h.upto)) h.needs) (ranged_stays p s (state_range p s t w) (effects_of p m) (keeps_fit p Effects _ k) k.once h.stays)

    effects : allowed p s m ≡ true → ChainKeeps p Effects (move_at p m).effects
    effects h = let a = there h in (move_keeps p m t a.from a.upto).effects

    in_range_after : allowed p s m ≡ true → stays p s (effects_of p m) ≡ true
    in_range_after h = (and_parts _ (stays p s (effects_of p m)) h).1

    follow : (u : State) → result_of p s m ≡ Some u → Follows s (effects_of p m) u
    follow u r =
        let x = under_some (allowed p s m) _ u r in
        subst (Follows s (effects_of p m)) x.1 (moved_follows p t s w (move_at p m).effects (effects x.0))

    kept : (u : State) → result_of p s m ≡ Some u → is_state p u ≡ true
    kept u r =
        let x = under_some (allowed p s m) _ u r in
        is_a_state p u (subst (IsState p) x.1 (moved_state p t s w (move_at p m).effects (effects x.0) (in_range_after x.0)))
