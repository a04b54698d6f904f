use Rattle.task.specs.Tasks.{problem}
use Rattle.task.proofs.Judged.{Judging}
use Rattle.task.proofs.accepted.Task.judge.Given as goal

abbrev pub invariant-loop-position : goal.invariant-loop-position
invariant-loop-position l = Judging (problem l.self) l.list l.position-iterator.a.start l.position-iterator.b.rest.now l.state l.spent
