use Rattle.std.proofs.Common.{rules}
use Rattle.tables.proofs.Words.{word_below, shifted_below}
use Rattle.tables.proofs.check.is_below.Goals as goal

pub returns-then-bits-ge64 : goal.returns-then-bits-ge64
returns-then-bits-ge64 c = word_below c.args.word c.args.bits (search rules) (search rules)

pub returns-else-bits-ge64 : goal.returns-else-bits-ge64
returns-else-bits-ge64 c = shifted_below c.args.word c.args.bits
