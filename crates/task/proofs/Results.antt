-- When a move is allowed, and what it leads to.
use Rattle.std.proofs.Common.{◌≡◌, ℕ, ◌<◌, ◌≤◌, Bool, true, false, cond, ◌&&◌, leb, ◌⊎◌, length, ℤ, pos, ◌-ℤ◌, is_some, Some, None, sym, refl, ap, ◌∙◌, ⊎_elim, arith}
use Rattle.std.proofs.lemmas.Int.{ints}
use lib.Signed.{le_z}
use Rattle.std.proofs.lemmas.Bool.{and_left, and_right, and_from, lt-leb, le-leb, cond-true, cond-false}
use Rattle.tables.specs.Chains.{chain}
use Rattle.tables.specs.Problem.{Problem}
use Rattle.task.specs.States.{total, mark, gap, condition_at, condition_holds, move_at, all_hold, stays, moved, after_effects, allowed, result_of}
use Rattle.task.specs.declared.state.State.{State}

under : {X : Type 0} (b : Bool) (x : X) → is_some (cond b (Some x) None) ≡ b
under true x = refl
under false x = refl

pub allowed_result : (p : Problem) (s : State) (m : ℕ) → allowed p s m ≡ is_some (result_of p s m)
unfolding result_of
allowed_result p s m = sym (under (allowed p s m) _)

pub result_no_move : (p : Problem) (s : State) (m : ℕ) → (m ≡ 0) ⊎ (length p.moves < m) → result_of p s m ≡ None
unfolding result_of allowed
result_no_move p s m o =
    let no : (leb 1 m && leb m (length p.moves)) ≡ false = ⊎_elim (λ e. and_left _ _ (ap (leb 1) e)) (λ h. and_right _ _ (lt-leb m _ h)) o in
    cond-false (allowed p s m) _ _ (and_left _ _ (and_left _ _ no))

pub gap_none : (p : Problem) (s : State) (n : ℕ) → (n ≡ 0) ⊎ (length p.conditions < n) → gap p s n ≡ pos 0
unfolding gap
gap_none p s n o = cond-false (leb 1 n && leb n (length p.conditions)) _ _ (⊎_elim (λ e. and_left _ _ (ap (leb 1) e)) (λ h. and_right _ _ (lt-leb n _ h)) o)

pub result_no_needs : (p : Problem) (s : State) (m : ℕ) → all_hold p s (chain p.links (move_at p m).needs) ≡ false → result_of p s m ≡ None
unfolding result_of allowed
result_no_needs p s m h = cond-false (allowed p s m) _ _ (and_left _ _ (and_right _ _ h))

pub result_needs : (p : Problem) (s : State) (m : ℕ) → 1 ≤ m → m ≤ length p.moves → all_hold p s (chain p.links (move_at p m).needs) ≡ true
    → result_of p s m ≡ after_effects p s (chain p.links (move_at p m).effects)
unfolding result_of allowed after_effects
result_needs p s m a b h = ap (λ t. cond (t && stays p s (chain p.links (move_at p m).effects)) (Some (moved s (chain p.links (move_at p m).effects))) None) (and_from _ _ (and_from _ _ (le-leb 1 m a) (le-leb m _ b)) h)

pub gap_at : (p : Problem) (s : State) (n : ℕ) → 1 ≤ n → n ≤ length p.conditions → gap p s n ≡ mark (condition_at p n) -ℤ total (chain p.links (condition_at p n).terms) s
unfolding gap
gap_at p s n a b = cond-true _ _ _ (and_from _ _ (le-leb 1 n a) (le-leb n _ b))

not_above : (a b : ℤ) → le_z (a -ℤ b) (pos 0) ≡ le_z a b
not_above a b = grind (arith, ints)

-- a condition holds exactly where its gap is at most 0
pub gap_holds : (p : Problem) (s : State) (n : ℕ) → 1 ≤ n → n ≤ length p.conditions → le_z (gap p s n) (pos 0) ≡ condition_holds p s (condition_at p n)
unfolding condition_holds
gap_holds p s n a b = ap (λ z. le_z z (pos 0)) (gap_at p s n a b) ∙ not_above (mark (condition_at p n)) (total (chain p.links (condition_at p n).terms) s)
