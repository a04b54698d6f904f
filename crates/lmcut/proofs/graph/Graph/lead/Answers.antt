use Rattle.std.proofs.Common.{◌+◌, ◌<◌, sym, subst, arith}
use Rattle.std.proofs.lemmas.Nat.{one_shl}
use Rattle.lmcut.specs.Spreading.{Sources}
use Rattle.lmcut.proofs.Leading.{lead_light}
use Rattle.lmcut.proofs.graph.Graph.lead.Goals as goal

pub overflow_shl-result : goal.overflow_shl-result
overflow_shl-result c = let h = c.args.self.now.placed c.args.action c.in-Some.source c.requires.inside c.in-Some.is in let f = c.args.self.now.asked.fits.few_nodes in omega arith

pub returns-in-Some : goal.returns-in-Some
returns-in-Some c =
    let q = c.args.self.now.asked.question.now in
    let rs = c.args.self.now.left.now.of in
    let ss = c.args.self.now.sources.now in
    let m = c.args.node in
    let a = c.args.action in
    let n = c.in-Some.source in
    let h = c.args.self.now.placed a n c.requires.inside c.in-Some.is in
    let f = c.args.self.now.asked.fits.few_nodes in
    let small : n < 128 = omega arith in
    subst (Sources q rs ss m a (a + 1)) (sym (one_shl n 128 small)) (lead_light q rs ss m a c.args.self.now.asked.fits c.requires.reached n c.requires.inside c.in-Some.is c.if-weightless.ensures)
