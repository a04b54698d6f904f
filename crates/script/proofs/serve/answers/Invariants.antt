use Rattle.std.proofs.Common.{◌≡◌, ◌++◌, map, length, vec_items}
use Rattle.script.specs.Answers.{block_answers}
use Rattle.script.specs.Said.{seen}
use Rattle.script.specs.Filled.{filled, asks}
use Rattle.script.proofs.serve.answers.Given as goal

abbrev pub invariant-loop-directive : goal.invariant-loop-directive
invariant-loop-directive l = map seen (vec_items l.said) ++ block_answers (filled l.block) l.rest ≡ block_answers (filled l.block) (asks l.block)

abbrev pub decreases-loop-directive : goal.decreases-loop-directive
decreases-loop-directive l = length l.rest
