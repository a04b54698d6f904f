use Rattle.order_tests.proofs.Ordered.{lowest_before}
use Rattle.order_tests.proofs.lower_of.Goals as goal

pub returns : goal.returns
returns c = lowest_before c.args.a c.args.b c.lowest_of.result c.lowest_of.ensures
