use Rattle.std.proofs.Common.{◌≡◌, ℕ, ◌≤◌, List, length, is_ok, Decides, Result, sym, ◌∙◌, subst}
use Rattle.std.proofs.lemmas.Bool.{cond-true, cond-false, le-leb, lt-leb}
use Rattle.task.specs.Plans.{plan_answer, Judges, Plan}
use Rattle.tables.specs.Problem.{Problem}
use Rattle.task.specs.declared.plan.PlanFault.{PlanFault}
use Rattle.task.proofs.Judged.{plan_judges, plan_exact}
use Rattle.task.proofs.accepted.Task.check_plan.Goals as goal

-- the answer is the one of the definition, and so says what that one says
full : (p : Problem) (ms : List ℕ) (r : Result ℕ PlanFault) → r ≡ plan_answer p ms → record { answer : r ≡ plan_answer p ms; judges : Judges p ms r; exact : Decides (is_ok r) ((length ms ≤ 65536) × Plan p ms) }
full p ms r e = record { answer = e; judges = subst (Judges p ms) (sym e) (plan_judges p ms); exact = subst (λ x. Decides (is_ok x) ((length ms ≤ 65536) × Plan p ms)) (sym e) (plan_exact p ms) }

pub returns-then-list-gt-MOST_LISTED : goal.returns-then-list-gt-MOST_LISTED
unfolding plan_answer
returns-then-list-gt-MOST_LISTED c = full _ _ _ (sym (cond-false _ _ _ (lt-leb _ _ c.if-list-gt-MOST_LISTED.true)))

pub returns : goal.returns
unfolding plan_answer
returns c = full _ _ _ (c.judge.ensures ∙ sym (cond-true _ _ _ (le-leb _ _ c.if-list-gt-MOST_LISTED.false)))
