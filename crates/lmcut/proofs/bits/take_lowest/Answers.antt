use Rattle.std.proofs.Common.{rules}
use Rattle.lmcut.proofs.Bitwise.{lowest_taken}
use Rattle.lmcut.proofs.bits.take_lowest.Goals as goal

pub returns-clause-lowest : goal.returns-clause-lowest
returns-clause-lowest c = (lowest_taken c.args.word.now c.requires (search rules)).0

pub returns-clause-rest : goal.returns-clause-rest
returns-clause-rest c = (lowest_taken c.args.word.now c.requires (search rules)).1
