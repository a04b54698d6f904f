use Rattle.std.proofs.Common.{refl, rules}
use Rattle.script.proofs.records.read_quantity.Goals as goal

pub returns : goal.returns
returns c =
    let h = c.in_ok-lowest.ensures in
    (refl, (h.0, h.1, h.2, (h.3.0, h.3.1, search rules), (h.4.0, h.4.1, search rules), (h.5.0, h.5.1, search rules), h.6))
