use Rattle.order_tests.proofs.Ordered.{lowest_sooner}
use Rattle.order_tests.proofs.sooner_of.Goals as goal

pub returns : goal.returns
returns c = lowest_sooner c.args.a c.args.b c.lowest_of.result c.lowest_of.ensures
