use Rattle.std.proofs.Common.{ap, ◌∙◌}
use Rattle.lmcut.proofs.Leading.{finding_start, finding_reached, finding_inside, finding_more, finding_end}
use Rattle.lmcut.proofs.graph.Graph.leads.Goals as goal

pub loop-action-init : goal.loop-action-init
loop-action-init c = (tt, tt, finding_start _ _ _ _ _ (ap (λ b. b.words) c.into_iter-action-iterator.ensures.into_iter_gives ∙ c.new-action-items.ensures))

pub lead-found-requires : goal.lead-found-requires
lead-found-requires c = record {
  inside = finding_inside _ _ _ _ c.args.self.now.asked.fits c.requires _ _ c.loop-action.invariant.2 _ _ c.in-Some.ensures.steps;
  reached = finding_reached _ _ _ _ c.args.self.now.asked.fits c.requires _ _ c.loop-action.invariant.2 _ _ c.in-Some.ensures.steps;
}

pub loop-action-preserved : goal.loop-action-preserved
loop-action-preserved c = (tt, tt, finding_more _ _ _ _ c.args.self.now.asked.fits c.requires _ _ c.loop-action.invariant.2 _ _ c.in-Some.ensures.steps _ c.lead-found.ensures)

pub returns : goal.returns
returns c = finding_end _ _ _ _ c.args.self.now.asked.fits c.requires _ _ c.loop-action.invariant.2 _ c.in-None.ensures.steps
