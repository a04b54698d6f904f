use Rattle.std.proofs.Common.{false, [], sym, ap, ◌∙◌, arith}
use Rattle.std.proofs.lemmas.Bool.{cond-true, cond-false}
use Rattle.landmarks.specs.Rounds.{charge}
use Rattle.lmcut.proofs.Crossed.{source_small, source_starts}
use Rattle.lmcut.proofs.charges.Cut.charge_of.Goals as goal

pub starts-requires : goal.starts-requires
starts-requires c = source_small _ _ _ c.args.self.now.graph.asked.fits c.args.self.now.graph.placed c.requires.inside

pub charge-requires : goal.charge-requires
charge-requires c =
    let told = c.starts.ensures ∙ source_starts c.args.self.now.graph.asked.question.now c.args.self.now.graph.sources.now c.args.action c.args.self.now.graph.asked.fits c.args.self.now.graph.placed c.requires.inside false c.args.self.now.start in
    record { inside = c.requires.inside; light = c.requires.light (sym told ∙ c.if-starts.true) }

pub returns-then-starts : goal.returns-then-starts
returns-then-starts c =
    let told = c.starts.ensures ∙ source_starts c.args.self.now.graph.asked.question.now c.args.self.now.graph.sources.now c.args.action c.args.self.now.graph.asked.fits c.args.self.now.graph.placed c.requires.inside false c.args.self.now.start in
    record { exact = c.charge.ensures.exact ∙ ap (charge c.args.weight) (sym (cond-true _ _ [] (sym told ∙ c.if-starts.true))); within = c.charge.ensures.within }

pub returns-else-starts : goal.returns-else-starts
unfolding charge
returns-else-starts c =
    let told = c.starts.ensures ∙ source_starts c.args.self.now.graph.asked.question.now c.args.self.now.graph.sources.now c.args.action c.args.self.now.graph.asked.fits c.args.self.now.graph.placed c.requires.inside false c.args.self.now.start in
    record { exact = ap (charge c.args.weight) (sym (cond-false _ _ [] (sym told ∙ c.if-starts.false))); within = omega arith }
