use Rattle.std.proofs.Common.{◌≡◌, rules}
use Rattle.script.proofs.directive.read_bytes.Goals as goal

pub returns : goal.returns
returns g c =
    let same : c.in_ok-text.text.now ≡ c.args.bytes.now = search (rules, c.from_utf8.ensures.cases, c.in_ok-text.ensures.cases) in
    rw same at c.read_text.ensures
