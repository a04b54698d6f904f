use Rattle.std.proofs.Common.{◌≡◌, ◌+◌, ◌-◌, ◌<◌, sym, subst, arith}
use Rattle.std.proofs.lemmas.Nat.{one_shl}
use Rattle.lmcut.specs.Spreading.{Sources}
use Rattle.lmcut.proofs.Leading.{last_one}
use Rattle.lmcut.proofs.graph.Graph.last_lead.Goals as goal
use Rattle.lmcut.proofs.graph.Graph.last_lead.Goals.{In-Some}

source_small : (c : In-Some) → c.in-Some.source < 128
source_small c =
    let s = c.args.self.now.asked.fits.some_actions in
    let h = c.args.self.now.placed (c.args.self.now.asked.question.now.actions - 1) c.in-Some.source (omega arith) c.in-Some.is in
    let f = c.args.self.now.asked.fits.few_nodes in
    omega arith

pub returns-in-Some : goal.returns-in-Some
returns-in-Some c =
    let q = c.args.self.now.asked.question.now in
    let rs = c.args.self.now.left.now.of in
    let ss = c.args.self.now.sources.now in
    let n = c.in-Some.source in
    let s = c.args.self.now.asked.fits.some_actions in
    let last : q.actions - 1 + 1 ≡ q.actions = omega arith in
    subst (Sources q rs ss (q.nodes - 1) 0 384) (sym (one_shl n 128 (source_small (goal.at.returns-in-Some c).In-Some))) (last_one q rs ss c.args.self.now.asked.fits (q.actions - 1) n last c.in-Some.is c.if-self-helper-eq0.true)
