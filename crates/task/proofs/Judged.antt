-- Lists of moves and the plan check: its steps, and that it passes exactly the plans.
use Rattle.std.proofs.Common.{◌≡◌, ℕ, ◌+◌, ◌-◌, ◌*◌, ◌≤◌, Bool, true, false, cond, leb, List, [], ◌∷◌, ◌++◌, length, get_or, take, is_ok, Some, None, Ok, Err, Decides, Option, Result, sym, refl, ap, ◌∙◌, subst, ap₂, add-zero, add_assoc, zero-add, arith}
use Rattle.std.proofs.lemmas.List.{append-nil, append_assoc, length-append, take_at, get_or_at, length_push, nil_from_length}
use Rattle.std.proofs.lemmas.Bool.{cond-true, cond-false, cond_both, and_parts, le-leb, leb-true, leb-false, false≢true}
use Rattle.std.specs.Option.{ok_or}
use Rattle.tables.specs.Problem.{Problem}
use Rattle.task.specs.Plans.{cost_of, and_then, after, PlanFrom, Plan, cost, is_move, moved_on, judged, plan_answer, Refused, Judges}
use Rattle.task.specs.States.{goal_holds, start_state, allowed, result_of}
use Rattle.task.specs.declared.state.State.{State}
use Rattle.task.specs.declared.plan.PlanFault.{PlanFault}
use Rattle.task.specs.declared.plan.PlanFault.TheVariants.{TooLong, NoSuchMove, NotAllowed, GoalMissed}
use Rattle.tables.proofs.Checked.{some_none, some_same, under_some}

-- ---- lists of moves

pub after_append : (p : Problem) (s : State) (xs ys : List ℕ) → after p s (xs ++ ys) ≡ and_then (after p s xs) (λ e. after p e ys)
unfolding after
after_append p s [] ys = refl
after_append p s (m ∷ xs) ys = go (result_of p s m) (λ e. after_append p e xs ys)
  where
    go : (o : Option State) → ((e : State) → after p e (xs ++ ys) ≡ and_then (after p e xs) (λ x. after p x ys))
        → and_then o (λ e. after p e (xs ++ ys)) ≡ and_then (and_then o (λ e. after p e xs)) (λ e. after p e ys)
    go None ih = refl
    go (Some e) ih = ih e

pub after_push : (p : Problem) (s e f : State) (xs : List ℕ) (m : ℕ) → after p s xs ≡ Some e → result_of p e m ≡ Some f → after p s (xs ++ (m ∷ [])) ≡ Some f
unfolding after
after_push p s e f xs m h r = after_append p s xs (m ∷ []) ∙ ap (λ o. and_then o (λ x. after p x (m ∷ []))) h ∙ ap (λ o. and_then o (λ x. Some x)) r

pub cost_append : (p : Problem) (xs ys : List ℕ) → cost p (xs ++ ys) ≡ cost p xs + cost p ys
unfolding cost
cost_append p [] ys = sym (zero-add (cost p ys))
cost_append p (m ∷ xs) ys = ap (λ n. cost_of p m + n) (cost_append p xs ys) ∙ sym (add_assoc (cost_of p m) (cost p xs) (cost p ys))

pub cost_push : (p : Problem) (xs : List ℕ) (m : ℕ) → cost p (xs ++ (m ∷ [])) ≡ cost p xs + cost_of p m
unfolding cost
cost_push p xs m = cost_append p xs (m ∷ []) ∙ ap (λ n. cost p xs + n) (add-zero (cost_of p m))

-- a result is there only for a move of the table
pub result_is_move : (p : Problem) (s e : State) (m : ℕ) → result_of p s m ≡ Some e → is_move p m ≡ true
unfolding result_of allowed
result_is_move p s e m h = (and_parts _ _ (and_parts _ _ (under_some (allowed p s m) _ e h).0).0).0

-- ---- the loop of the check

-- before the move at a position: the answer for the rest of the list is the answer
pub record Judging (p : Problem) (whole : List ℕ) (position : ℕ) (rest : List ℕ) (s : State) (spent : ℕ) : Type 0 where
  pub answer : judged p position s spent rest ≡ judged p 1 (start_state p) 0 whole
  pub long : position + length rest ≡ 1 + length whole
  pub small : spent + 10000 ≤ 10000 * position

pub judging_start : (p : Problem) (whole : List ℕ) (position : ℕ) (rest : List ℕ) (s : State) → position ≡ 1 → rest ≡ whole → s ≡ start_state p → Judging p whole position rest s 0
judging_start p whole position rest s a b e = record { answer = ap₂ (λ k t. judged p k t 0 rest) a e ∙ ap (judged p 1 (start_state p) 0) b; long = omega (arith, a, ap length b); small = omega (arith, a) }

module _ (p : Problem) (whole : List ℕ) (position : ℕ) (rest : List ℕ) (s : State) (spent : ℕ) (w : Judging p whole position rest s spent) where
  module _ (m : ℕ) (later : List ℕ) (e : rest ≡ m ∷ later) where
    judged_at : judged p position s spent rest ≡ cond (is_move p m) (moved_on (result_of p s m) (Err (NotAllowed position)) (λ t. judged p (position + 1) t (spent + cost_of p m) later)) (Err (NoSuchMove position))
    unfolding judged
    judged_at = ap (judged p position s spent) e

    pub judging_no_move : is_move p m ≡ false → Err (NoSuchMove position) ≡ judged p 1 (start_state p) 0 whole
    judging_no_move h = sym (cond-false _ _ _ h) ∙ sym judged_at ∙ w.answer

    allowed_at : is_move p m ≡ true → (o : Option State) → result_of p s m ≡ o → judged p position s spent rest ≡ moved_on o (Err (NotAllowed position)) (λ t. judged p (position + 1) t (spent + cost_of p m) later)
    allowed_at yes' o r = judged_at ∙ cond-true _ _ _ yes' ∙ ap (λ x. moved_on x (Err (NotAllowed position)) (λ t. judged p (position + 1) t (spent + cost_of p m) later)) r

    pub judging_not_allowed : is_move p m ≡ true → result_of p s m ≡ None → Err (NotAllowed position) ≡ judged p 1 (start_state p) 0 whole
    judging_not_allowed yes' r = sym (allowed_at yes' None r) ∙ w.answer

    pub judging_on : (t : State) → is_move p m ≡ true → result_of p s m ≡ Some t → cost_of p m ≤ 10000 → Judging p whole (position + 1) later t (spent + cost_of p m)
    judging_on t yes' r c =
        record { answer = sym (allowed_at yes' (Some t) r) ∙ w.answer; long = omega (arith, w.long, ap length e); small = omega (arith, w.small, c) }

  pub judging_end : length rest ≡ 0 → cond (goal_holds p s) (Ok spent) (Err (GoalMissed (length whole))) ≡ judged p 1 (start_state p) 0 whole
  unfolding judged
  judging_end e =
      let at : position - 1 ≡ length whole = omega (arith, w.long, e) in
      ap (λ n. cond (goal_holds p s) (Ok spent) (Err (GoalMissed n))) (sym at) ∙ sym (ap (judged p position s spent) (nil_from_length rest e)) ∙ w.answer

-- a number for which there is an answer, or none, through `ok_or`
pub refused : {X F : Type 0} (o : Option X) (e f : F) → ok_or o e ≡ Err f → (o ≡ None) × (f ≡ e)
refused None e f h = (refl, cc)
refused (Some x) e f h = absurd (cc)

pub accepted : {X F : Type 0} (o : Option X) (e : F) (x : X) → ok_or o e ≡ Ok x → o ≡ Some x
accepted None e x h = absurd (cc)
accepted (Some y) e x h = cc

-- ---- what the answer says

-- the moves `pre` were allowed in turn and led to s; `ms` is the rest of the whole list
module _ (p : Problem) where
  module _ (whole pre : List ℕ) (s : State) (run : after p (start_state p) pre ≡ Some s) where
    taken : (ms : List ℕ) → whole ≡ pre ++ ms → after p (start_state p) (take (length pre + 1 - 1) whole) ≡ Some s
    taken ms e =
        let at : length pre ≡ length pre + 1 - 1 = omega arith in
        ap (λ xs. after p (start_state p) (take (length pre + 1 - 1) xs)) e ∙ ap (after p (start_state p)) (take_at pre ms (length pre + 1 - 1) at) ∙ run

    here : (m : ℕ) (ms : List ℕ) → whole ≡ pre ++ (m ∷ ms) → get_or whole (length pre + 1 - 1) 0 ≡ m
    here m ms e =
        let at : length pre ≡ length pre + 1 - 1 = omega arith in
        ap (λ xs. get_or xs (length pre + 1 - 1) 0) e ∙ get_or_at pre m ms 0 (length pre + 1 - 1) at

    within : (m : ℕ) (ms : List ℕ) → whole ≡ pre ++ (m ∷ ms) → length pre + 1 ≤ length whole
    within m ms e = let l = ap length e ∙ length-append pre (m ∷ ms) in omega arith

  -- what an answer says, apart from the list's length
  Says : List ℕ → Result ℕ PlanFault → Type 0
  Says ms (Ok c) = Plan p ms × (c ≡ cost p ms)
  Says ms (Err f) = Refused p ms f

  says_end : (b : Bool) (whole : List ℕ) (s : State) → after p (start_state p) whole ≡ Some s → goal_holds p s ≡ b → (k : ℕ) → k - 1 ≡ length whole → (c : ℕ) → c ≡ cost p whole
      → Says whole (cond b (Ok c) (Err (GoalMissed (k - 1))))
  unfolding Says
  says_end true whole s run g k at c spent = ((s, run, g), spent)
  says_end false whole s run g k at c spent = (at, (s, run, g))

  says : (whole pre ms : List ℕ) (s : State) (c : ℕ) → whole ≡ pre ++ ms → after p (start_state p) pre ≡ Some s → c ≡ cost p pre → Says whole (judged p (length pre + 1) s c ms)
  unfolding judged Says
  says whole pre [] s c e run spent =
      let e' : pre ≡ whole = sym (append-nil pre) ∙ sym e in
      says_end (goal_holds p s) whole s (ap (after p (start_state p)) (sym e') ∙ run) refl (length pre + 1) (let l = ap length e' in omega arith) c (spent ∙ ap (cost p) e')
  says whole pre (m ∷ ms) s c e run spent = pick (is_move p m) refl (λ e' r. says whole (pre ++ (m ∷ [])) ms e' (c + cost_of p m) (e ∙ sym (append_assoc pre (m ∷ []) ms)) (after_push p (start_state p) s e' pre m run r) (ap (λ n. n + cost_of p m) spent ∙ sym (cost_push p pre m)))
    where
      Next : Type 0
      Next = (e' : State) → result_of p s m ≡ Some e' → Says whole (judged p (length (pre ++ (m ∷ [])) + 1) e' (c + cost_of p m) ms)

      go : is_move p m ≡ true → (o : Option State) → result_of p s m ≡ o → Next → Says whole (moved_on o (Err (NotAllowed (length pre + 1))) (λ x. judged p (length pre + 1 + 1) x (c + cost_of p m) ms))
      go im None r next = (omega arith, within whole pre s run m ms e, ap (is_move p) (here whole pre s run m ms e) ∙ im, (s, taken whole pre s run (m ∷ ms) e, ap (result_of p s) (here whole pre s run m ms e) ∙ r))
      go im (Some e') r next = subst (λ n. Says whole (judged p (n + 1) e' (c + cost_of p m) ms)) (length_push pre m) (next e' r)

      pick : (b : Bool) → is_move p m ≡ b → Next → Says whole (cond b (moved_on (result_of p s m) (Err (NotAllowed (length pre + 1))) (λ x. judged p (length pre + 1 + 1) x (c + cost_of p m) ms)) (Err (NoSuchMove (length pre + 1))))
      pick true im next = go im (result_of p s m) refl next
      pick false im next = (omega arith, within whole pre s run m ms e, (s, taken whole pre s run (m ∷ ms) e), ap (is_move p) (here whole pre s run m ms e) ∙ im)

  says_judges : (ms : List ℕ) → length ms ≤ 65536 → (r : Result ℕ PlanFault) → Says ms r → Judges p ms r
  unfolding Says
  says_judges ms h (Ok c) w = (h, w.0, w.1)
  says_judges ms h (Err f) w = w

  pub plan_judges : (ms : List ℕ) → Judges p ms (plan_answer p ms)
  unfolding plan_answer after cost
  plan_judges ms = cond_both (leb (length ms) 65536) (judged p 1 (start_state p) 0 ms) (Err TooLong) (Judges p ms)
      (λ e. says_judges ms (leb-true _ _ e) (judged p 1 (start_state p) 0 ms) (says ms [] ms (start_state p) 0 refl refl refl))
      (λ e. leb-false _ _ e)

  -- a plan passes
  passes : (k : ℕ) (s : State) (c : ℕ) (ms : List ℕ) → PlanFrom p s ms → is_ok (judged p k s c ms) ≡ true
  unfolding judged after
  passes k s c [] w = let e : goal_holds p s ≡ true = subst (λ x. goal_holds p x ≡ true) (sym (some_same w.1)) w.2 in ap (λ b. is_ok (cond b (Ok c) (Err (GoalMissed (k - 1))))) e
  passes k s c (m ∷ ms) w = go (result_of p s m) refl w.1 (λ e' h. passes (k + 1) e' (c + cost_of p m) ms (w.0, h, w.2))
    where
      go : (o : Option State) → result_of p s m ≡ o → and_then o (λ x. after p x ms) ≡ Some w.0 → ((e' : State) → after p e' ms ≡ Some w.0 → is_ok (judged p (k + 1) e' (c + cost_of p m) ms) ≡ true)
          → is_ok (cond (is_move p m) (moved_on (result_of p s m) (Err (NotAllowed k)) (λ x. judged p (k + 1) x (c + cost_of p m) ms)) (Err (NoSuchMove k))) ≡ true
      go None r h ih = absurd (some_none (sym h))
      go (Some e') r h ih =
          ap is_ok (cond-true (is_move p m) _ _ (result_is_move p s e' m r) ∙ ap (λ o. moved_on o (Err (NotAllowed k)) (λ x. judged p (k + 1) x (c + cost_of p m) ms)) r) ∙ ih e' h

  pub plan_exact : (ms : List ℕ) → Decides (is_ok (plan_answer p ms)) ((length ms ≤ 65536) × Plan p ms)
  unfolding plan_answer
  plan_exact ms = (λ e. there (plan_answer p ms) e (plan_judges ms), λ h. ap is_ok (cond-true (leb (length ms) 65536) _ _ (le-leb _ _ h.0)) ∙ passes 1 (start_state p) 0 ms h.1)
    where
      there : (r : Result ℕ PlanFault) → is_ok r ≡ true → Judges p ms r → (length ms ≤ 65536) × Plan p ms
      there (Ok c) e w = (w.0, w.1)
      there (Err f) e w = absurd (false≢true e)
