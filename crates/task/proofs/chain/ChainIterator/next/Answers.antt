use Rattle.std.proofs.Common.{◌≡◌, ◌<◌, ◌-◌, slice_index_or, refl, subst, arith, rules}
use Rattle.std.proofs.iter.Next.{firm}
use Rattle.tables.specs.Problem.{no_link}
use Rattle.tables.proofs.Walks.{walk_falls}
use Rattle.task.specs.Walk.{Stepped}
use Rattle.task.proofs.Steps.{Stepping, chain_none, walk_within, walk_step}
use Rattle.task.proofs.chain.ChainIterator.next.Goals as goal

pub returns-in_err-index : goal.returns-in_err-index
unfolding Stepped
returns-in_err-index c =
    let end : c.args.self.now.at ≡ 0 = omega arith in
    rw c.from_residual.ensures (record { steps = (refl, chain_none _ _ end); goes = firm (tt) (λ h. search rules) })

pub bounds-self-index : goal.bounds-self-index
bounds-self-index c =
    let h = walk_within _ _ c.requires in
    omega arith

pub returns : goal.returns
unfolding Stepped
returns c =
    let h = walk_within _ _ c.requires in
    let z : 0 < c.args.self.now.at = omega arith in
    let e : c.args.self.now.at - 1 ≡ c.in_ok-index.index = omega arith in
    let s = subst (λ i. Stepping c.args.self.now.links.now c.args.self.now.at (slice_index_or c.args.self.now.links.now i no_link)) e (walk_step c.args.self.now.links.now c.args.self.now.at no_link z c.requires) in
    record { steps = (refl, s.first); goes = firm ((s.rest, tt, walk_falls _ _ _ z h s.leads)) (λ h. search rules) }
