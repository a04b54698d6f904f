use Rattle.std.proofs.Common.{map, vec_items}
use Rattle.tables.specs.Problem.{contents}
use Rattle.script.specs.Filled.{filled, asks}
use Rattle.script.specs.Said.{seen}
use Rattle.script.proofs.Steps.{seen_push, waits_more, waits_all, accept_all}
use Rattle.script.proofs.serve.answers.Goals as goal

pub returns-in-Accept : goal.returns-in-Accept
returns-in-Accept c =
    accept_all (filled c.args.block.now) (contents c.tables.result) (asks c.args.block.now) c.loop-directive.rest.now c.in-Some.after.now c.in-Some.directive.now
    (map seen (vec_items c.loop-directive.said)) _ c.in-Some.ensures.cases.0 c.in-Accept.is c.tables.ensures c.loop-directive.invariant c.in_ok-accept.ensures

pub loop-directive-preserved : goal.loop-directive-preserved
loop-directive-preserved c =
    waits_more (filled c.args.block.now) (asks c.args.block.now) c.loop-directive.rest.now c.in-Some.after.now c.in-Some.directive.now _ _ _
    c.in-Some.ensures.cases.0 c.in_default-directive.not-Accept c.before_accept.ensures c.loop-directive.invariant (seen_push _ _ _ c.in_ok-push.ensures.items)

pub returns : goal.returns
returns c = waits_all (filled c.args.block.now) (asks c.args.block.now) c.loop-directive.rest.now _ c.in_default.ensures.cases c.loop-directive.invariant
