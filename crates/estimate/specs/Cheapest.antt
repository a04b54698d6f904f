-- What `Floor` answers is sound: a plan from a state where the goal fails is not empty, so it pays at least for the cheapest move.
--   lower            the lower of a cost and a move's
--   cheapest_least   no move costs less than the cheapest
--   first_move       a plan from where the goal fails begins with a move of the table, and costs at least as much
--   floor_sound, floor_plain   the answer is sound at every state, and 'at least 0' at a record that is no state
use Rattle.std.specs.Prelude.{◌≡◌, ℕ, zero, suc, ◌+◌, ◌-◌, ◌<◌, ◌≤◌, min, true, false, List, [], ◌∷◌, length, Some, None, fold, Option, ◌==◌, nat_le, slice_index_or, unsigned_abs, refl}
use Rattle.std.proofs.Common.{sym, ◌∙◌, ap, subst, arith}
use Rattle.std.proofs.lemmas.Bool.{true≢false, and_parts, leb-true, eqb-true, cond-true, cond-false, cond_both}
use Rattle.estimate.specs.Answers.{cheapest, floor_answer}
use Rattle.estimate.specs.Estimates.{Claims}
use Rattle.estimate.specs.declared.estimate.Estimate.TheVariants.{AtLeast, Dead}
use Rattle.tables.specs.Problem.{Problem}
use Rattle.tables.specs.declared.Move.{Move}
use Rattle.task.specs.Plans.{cost_of, and_then, after, PlanFrom, cost, is_move}
use Rattle.task.specs.States.{is_state, goal_holds, result_of}
use Rattle.task.specs.declared.state.State.{State}
use Rattle.tables.proofs.Checked.{some_none, some_same}
use Rattle.task.proofs.Judged.{result_is_move}

abbrev pub lower : ℕ → Move → ℕ
lower least m = min least (unsigned_abs m.cost)

folded_lower : (a : ℕ) (ms : List Move) → fold lower a ms ≤ a
folded_lower a [] = omega arith
folded_lower a (m ∷ ms) = let h = folded_lower (lower a m) ms in omega arith

folded_least : (a : ℕ) (ms : List Move) (i : ℕ) (d : Move) → i < length ms → fold lower a ms ≤ unsigned_abs (slice_index_or ms i d).cost
folded_least a [] i d h = absurd (omega arith)
folded_least a (m ∷ ms) zero d h = let l = folded_lower (lower a m) ms in omega arith
folded_least a (m ∷ ms) (suc i) d h = folded_least (lower a m) ms i d (omega arith)

pub cheapest_least : (p : Problem) (m : ℕ) → is_move p m ≡ true → cheapest p.moves ≤ cost_of p m
cheapest_least p m h =
    let b = and_parts (nat_le 1 m) (nat_le m (length p.moves)) h in
    let l = leb-true 1 m b.0 in
    let u = leb-true m (length p.moves) b.1 in
    folded_least 10000 p.moves (m - 1) _ (omega arith)

-- a plan from where the goal fails begins with a move of the table
pub first_move : (p : Problem) (s : State) (ms : List ℕ) → goal_holds p s ≡ false → PlanFrom p s ms → (m : ℕ) × (is_move p m ≡ true) × (cost_of p m ≤ cost p ms)
unfolding after cost
first_move p s [] g w = absurd (true≢false (sym w.2 ∙ sym (ap (goal_holds p) (some_same w.1)) ∙ g))
first_move p s (m ∷ ms) g w = go (result_of p s m) refl w.1
  where
    go : (o : Option State) → result_of p s m ≡ o → and_then o (λ e. after p e ms) ≡ Some w.0 → (k : ℕ) × (is_move p k ≡ true) × (cost_of p k ≤ cost_of p m + cost p ms)
    go None r e = absurd (some_none (sym e))
    go (Some t) r e = (m, result_is_move p s t m r, omega arith)

pub floor_sound : (p : Problem) (s : State) → is_state p s ≡ true → Claims p s (floor_answer p s)
unfolding floor_answer
floor_sound p s e =
    subst (Claims p s) (sym (cond-true (is_state p s) _ _ e))
    (cond_both (goal_holds p s) _ _ (Claims p s) (λ _. (omega arith, λ _ _. omega arith))
    (λ g. cond_both (length p.moves == 0) Dead (AtLeast (cheapest p.moves)) (Claims p s)
    (λ z ms w. let f = first_move p s ms g w in let b = and_parts (nat_le 1 f.0) (nat_le f.0 (length p.moves)) f.1 in let l = leb-true 1 f.0 b.0 in let u = leb-true f.0 (length p.moves) b.1 in let n = eqb-true _ _ z in omega arith)
    (λ _. (
      (let h = folded_lower 10000 p.moves in omega arith),
      λ ms w. let f = first_move p s ms g w in let c = cheapest_least p f.0 f.1 in let d = f.2 in omega arith,
    ))))

pub floor_plain : (p : Problem) (s : State) → is_state p s ≡ false → floor_answer p s ≡ AtLeast 0
unfolding floor_answer
floor_plain p s e = cond-false (is_state p s) _ _ e
