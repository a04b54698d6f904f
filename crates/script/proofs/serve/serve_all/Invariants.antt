use Rattle.std.proofs.Common.{◌≡◌, ◌++◌, map, take, vec_items}
use Rattle.task.specs.Tasks.{problem}
use Rattle.script.specs.Answers.{served}
use Rattle.script.specs.Said.{seen}
use Rattle.script.proofs.serve.serve_all.Given as goal

abbrev pub invariant-loop-directive : goal.invariant-loop-directive
invariant-loop-directive l = map seen (vec_items l.said) ≡ map seen (vec_items l.initial.said) ++ map (served (problem l.task)) (take l.directive-index l.rest)
