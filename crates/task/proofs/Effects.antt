-- The effects of a move, link by link: what has been noted, and that the rest gives the whole.
use Rattle.std.proofs.Common.{◌≡◌, ℕ, ◌-◌, ◌*◌, ◌%◌, ◌^◌, ◌<◌, ◌≤◌, Bool, true, false, cond, ◌&&◌, eqb, ◌⊎◌, List, [], length, set, ℤ, Some, None, fold, Option, sym, ap, ◌∙◌, subst, ap₂, inl, inr, arith}
use lib.Bits.{bit_and, bit_or, bit_xor, or_lt}
use Rattle.std.proofs.lemmas.List.{length-set}
use Rattle.std.proofs.lemmas.Nat.{pow_below, one_shl}
use Rattle.std.proofs.lemmas.Bool.{eq-eqb, ne_eqb, cond-true, cond-false}
use Rattle.tables.specs.Chains.{chain}
use Rattle.tables.specs.Check.{in_range}
use Rattle.tables.specs.Problem.{Problem}
use Rattle.tables.specs.Rules.{LinkFits, Keeps}
use Rattle.task.specs.States.{quantity_at, changed, stays, noted, made, cleared, put, values_after, moved, after_effects}
use Rattle.task.specs.declared.state.State.{State}
use Rattle.tables.specs.declared.Link.{Link}
use Rattle.tables.specs.declared.Role.TheVariants.{Effects}
use Rattle.task.specs.Tasks.{problem}
use Rattle.task.specs.Walk.{Walkable, Stepped, steps_left}
use Rattle.task.specs.declared.accepted.Task.{Task}
use Rattle.tables.proofs.Checked.{under_some, under_none}
use Rattle.task.proofs.Along.{Going, Gone, going_step, kept_rules}

pub record Effected (p : Problem) (s : State) (whole : List Link) (ls : List Link) (n : ℕ) (values : List ℤ) (sets clears : ℕ) : Type 0 where
  pub going : Going p Effects ls n
  pub keeps : stays p s (chain ls n) ≡ stays p s whole
  pub sets_left : fold (noted 4) sets (chain ls n) ≡ made whole
  pub clears_left : fold (noted 5) clears (chain ls n) ≡ cleared whole
  pub values_left : fold (put s) values (chain ls n) ≡ values_after s whole
  pub long : length values ≡ 16
  pub sets_fit : sets < 2 ^ 64
  pub clears_fit : clears < 2 ^ 64

pub effect_fact : (p : Problem) (l : Link) → Keeps p → LinkFits p Effects l → (l.kind ≡ 4) ⊎ (l.kind ≡ 5) → l.subject < 64
effect_fact p l t f k = let h = f.1.fact (inr k) in omega (arith, h, t.facts)

pub effect_quantity : (p : Problem) (l : Link) → LinkFits p Effects l → (l.kind ≡ 4 → ⊥) → (l.kind ≡ 5 → ⊥) → (1 ≤ l.subject) × (l.subject ≤ length p.quantities)
effect_quantity p l f a b = let k = f.1.kind in f.1.quantity (inr (omega arith))

pub noted_fits : (w k : ℕ) → w < 2 ^ 64 → k < 64 → bit_or w (2 ^ k) < 2 ^ 64
noted_fits w k a b = or_lt 64 w (2 ^ k) a (pow_below k 64 b)

module _ (p : Problem) (s : State) (whole ls : List Link) (n : ℕ) (ls' : List Link) (n' : ℕ) (values : List ℤ) (sets clears : ℕ) (l : Link) (w : Effected p s whole ls n values sets clears) (g : Gone p Effects l ls n ls' n') where
  -- what stays, where this link is no change
  keeps_fact : (l.kind ≡ 6 → ⊥) → stays p s (chain ls' n') ≡ stays p s whole
  keeps_fact k = sym (ap (λ b. b && stays p s (chain ls' n')) (cond-false (eqb l.kind 6) (in_range (quantity_at p l.subject) (changed s l)) true (ne_eqb _ 6 k))) ∙ sym (ap (stays p s) g.first) ∙ w.keeps

  one_fold : {A : Type 0} (f : A → Link → A) (a b : A) (r : A) → f a l ≡ b → fold f a (chain ls n) ≡ r → fold f b (chain ls' n') ≡ r
  one_fold f a b r e h = ap (λ x. fold f x (chain ls' n')) (sym e) ∙ sym (ap (fold f a) g.first) ∙ h

  effected_sets : l.kind ≡ 4 → l.subject < 64 → Effected p s whole ls' n' values (bit_or sets (2 ^ l.subject)) clears
  effected_sets k h =
      let n5 : l.kind ≡ 5 → ⊥ = λ e. omega arith in
      let n6 : l.kind ≡ 6 → ⊥ = λ e. omega arith in
      record {
        going = g.rest;
        keeps = keeps_fact n6;
        sets_left = one_fold (noted 4) sets _ _ (cond-true (eqb l.kind 4) _ _ (eq-eqb _ 4 k)) w.sets_left;
        clears_left = one_fold (noted 5) clears _ _ (cond-false (eqb l.kind 5) _ _ (ne_eqb _ 5 n5)) w.clears_left;
        values_left = one_fold (put s) values _ _ (cond-false (eqb l.kind 6) _ _ (ne_eqb _ 6 n6)) w.values_left;
        long = w.long;
        sets_fit = noted_fits sets l.subject w.sets_fit h;
        clears_fit = w.clears_fit;
      }

  effected_clears : l.kind ≡ 5 → l.subject < 64 → Effected p s whole ls' n' values sets (bit_or clears (2 ^ l.subject))
  effected_clears k h =
      let n4 : l.kind ≡ 4 → ⊥ = λ e. omega arith in
      let n6 : l.kind ≡ 6 → ⊥ = λ e. omega arith in
      record {
        going = g.rest;
        keeps = keeps_fact n6;
        sets_left = one_fold (noted 4) sets _ _ (cond-false (eqb l.kind 4) _ _ (ne_eqb _ 4 n4)) w.sets_left;
        clears_left = one_fold (noted 5) clears _ _ (cond-true (eqb l.kind 5) _ _ (eq-eqb _ 5 k)) w.clears_left;
        values_left = one_fold (put s) values _ _ (cond-false (eqb l.kind 6) _ _ (ne_eqb _ 6 n6)) w.values_left;
        long = w.long;
        sets_fit = w.sets_fit;
        clears_fit = noted_fits clears l.subject w.clears_fit h;
      }

  module _ (n4 : l.kind ≡ 4 → ⊥) (n5 : l.kind ≡ 5 → ⊥) where
    change_kind : l.kind ≡ 6
    change_kind = let k = g.fits.1.kind in omega arith

    change_stays : (b : Bool) → in_range (quantity_at p l.subject) (changed s l) ≡ b → (b && stays p s (chain ls' n')) ≡ stays p s whole
    change_stays b e = sym (ap (λ x. x && stays p s (chain ls' n')) (cond-true (eqb l.kind 6) _ true (eq-eqb _ 6 change_kind) ∙ e)) ∙ sym (ap (stays p s) g.first) ∙ w.keeps

    effected_change : in_range (quantity_at p l.subject) (changed s l) ≡ true → Effected p s whole ls' n' (set values (l.subject - 1) (changed s l)) sets clears
    effected_change e =
        record {
          going = g.rest;
          keeps = change_stays true e;
          sets_left = one_fold (noted 4) sets _ _ (cond-false (eqb l.kind 4) _ _ (ne_eqb _ 4 n4)) w.sets_left;
          clears_left = one_fold (noted 5) clears _ _ (cond-false (eqb l.kind 5) _ _ (ne_eqb _ 5 n5)) w.clears_left;
          values_left = one_fold (put s) values _ _ (cond-true (eqb l.kind 6) _ _ (eq-eqb _ 6 change_kind)) w.values_left;
          long = length-set values (l.subject - 1) (changed s l) ∙ w.long;
          sets_fit = w.sets_fit;
          clears_fit = w.clears_fit;
        }

    effected_out : in_range (quantity_at p l.subject) (changed s l) ≡ false → None ≡ after_effects p s whole
    unfolding after_effects
    effected_out e = sym (cond-false (stays p s whole) _ _ (sym (change_stays false e)))

-- one turn of the loop, at a link of the chain of an accepted task
module _ (t : Task) (s : State) (whole ls : List Link) (n : ℕ) (ls' : List Link) (n' : ℕ) (values : List ℤ) (sets clears : ℕ) (l : Link) (w : Effected (problem t) s whole ls n values sets clears) (e : Stepped ls n (Some l) ls' n') (on : Walkable ls' n' × Unit {0} × (steps_left ls' n' < steps_left ls n)) where
  abbrev Turned : List ℤ → ℕ → ℕ → Type 0
  Turned vs a b = Walkable ls' n' × Unit {0} × Effected (problem t) s whole ls' n' vs a b

  gone : Gone (problem t) Effects l ls n ls' n'
  gone = going_step (problem t) Effects l ls n ls' n' w.going e on

  pub turn_fact : (l.kind ≡ 4) ⊎ (l.kind ≡ 5) → l.subject < 64
  turn_fact k = effect_fact (problem t) l (kept_rules t) gone.fits k

  pub turn_sets : l.kind ≡ 4 → Turned values (bit_or sets (1 * 2 ^ l.subject % 2 ^ 64)) clears
  turn_sets k =
      let h = turn_fact (inl k) in
      (on.0, tt, subst (λ b. Effected (problem t) s whole ls' n' values (bit_or sets b) clears) (sym (one_shl l.subject 64 h)) (effected_sets (problem t) s whole ls n ls' n' values sets clears l w gone k h))

  pub turn_clears : l.kind ≡ 5 → Turned values sets (bit_or clears (1 * 2 ^ l.subject % 2 ^ 64))
  turn_clears k =
      let h = turn_fact (inr k) in
      (on.0, tt, subst (λ b. Effected (problem t) s whole ls' n' values sets (bit_or clears b)) (sym (one_shl l.subject 64 h)) (effected_clears (problem t) s whole ls n ls' n' values sets clears l w gone k h))

  module _ (n4 : l.kind ≡ 4 → ⊥) (n5 : l.kind ≡ 5 → ⊥) where
    pub turn_quantity : (1 ≤ l.subject) × (l.subject ≤ length (problem t).quantities) × (l.subject ≤ 16)
    turn_quantity = let q = effect_quantity (problem t) l gone.fits n4 n5 in (q.0, q.1, omega (arith, q.1, (kept_rules t).few_quantities))

    -- the change keeps its quantity in its range, or there is no result
    abbrev Change : Option ℤ
    Change = cond (in_range (quantity_at (problem t) l.subject) (changed s l)) (Some (changed s l)) None

    pub turn_change : (v : ℤ) → Change ≡ Some v → Turned (set values (l.subject - 1) v) sets clears
    turn_change v h =
        let u = under_some _ _ v h in
        (on.0, tt, subst (λ x. Effected (problem t) s whole ls' n' (set values (l.subject - 1) x) sets clears) u.1 (effected_change (problem t) s whole ls n ls' n' values sets clears l w gone n4 n5 u.0))

    pub turn_out : Change ≡ None → None ≡ after_effects (problem t) s whole
    turn_out h = effected_out (problem t) s whole ls n ls' n' values sets clears l w gone n4 n5 (under_none _ _ h)

pub effected_end : (p : Problem) (s : State) (whole ls : List Link) (n : ℕ) (values : List ℤ) (sets clears : ℕ) → Effected p s whole ls n values sets clears → chain ls n ≡ []
    → Some (record { facts = bit_or (bit_xor s.facts (bit_and s.facts clears)) sets; values = values }) ≡ after_effects p s whole
unfolding after_effects moved
effected_end p s whole ls n values sets clears w e =
    let st : stays p s whole ≡ true = sym w.keeps ∙ ap (stays p s) e in
    let es = sym (ap (fold (noted 4) sets) e) ∙ w.sets_left in
    let ec = sym (ap (fold (noted 5) clears) e) ∙ w.clears_left in
    let ev = sym (ap (fold (put s) values) e) ∙ w.values_left in
    let make : ℕ → ℕ → List ℤ → Option State = λ a b vs. Some (record { facts = bit_or (bit_xor s.facts (bit_and s.facts b)) a; values = vs }) in
    ap₂ (λ a b. make a b values) es ec ∙ ap (make (made whole) (cleared whole)) ev ∙ sym (cond-true (stays p s whole) _ _ st)
