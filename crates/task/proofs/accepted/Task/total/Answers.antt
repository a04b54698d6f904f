use Rattle.std.proofs.Common.{◌≡◌, ◌≤◌, pos, ◌+ℤ◌, ◌*ℤ◌, map, fold, nat_abs, to_z, of_z, sym, ap, ap₂, ◌∙◌, subst, arith, w64, rules}
use Rattle.std.proofs.lemmas.Int.{to_z-of_z}
use Rattle.std.proofs.lemmas.Iterator.{YieldsList-from_map}
use Rattle.std.proofs.lemmas.Iterator.Adapters.{serves_from_places, total_from_yields_List}
use Rattle.std.proofs.lemmas.Iterator.Consumers.{YieldsList-at}
use Rattle.std.proofs.lemmas.List.Folds.{fold-map}
use borrow.Author.Tests.{tests}
use Rattle.tables.specs.Chains.{chain}
use Rattle.tables.specs.declared.Role.TheVariants.{Terms}
use Rattle.task.specs.States.{value_of}
use Rattle.task.specs.Tasks.{problem}
use Rattle.task.specs.declared.chain.Chain.{Chain}
use Rattle.task.proofs.Along.{kept_rules, chain_short, term_limit}
use Rattle.task.proofs.Ints.{size_fits64}
use Rattle.task.proofs.Roads.{chain_road, can_walk, link_fits, sum_fits, sum_size}
use Rattle.task.proofs.accepted.Task.total.Goals as goal

pub sum-requires-clause-can : goal.sum-requires-clause-can
sum-requires-clause-can c =
    let p = problem c.args.self.now in
    let links = ap (λ (k : Chain). k.links.now) c.map.ensures.source ∙ c.new.ensures.0 in
    let at = ap (λ (k : Chain). k.at) c.map.ensures.source ∙ c.new.ensures.1 in
    let callee = c.map.ensures.closure in (
      can_walk p Terms c.args.first c.requires c.map.result.iter links at,
      serves_from_places (chain_road c.map.result.iter) (λ x q r. search (rules, tests))
          (λ x k h e. let f = link_fits p Terms c.args.first c.requires c.map.result.iter links at x k h e in search rules),
    )

pub sum-requires-clause-fits : goal.sum-requires-clause-fits
sum-requires-clause-fits c =
    sum_fits _ (λ l. l) _ _ term_limit (λ x r q k. search (rules, tests)) c.map.result _ 4096 (YieldsList-at c.map.ensures.source (chain_road c.new.result))
    (rw (c.new.ensures.0, c.new.ensures.1) (chain_short (problem c.args.self.now) c.args.first (kept_rules c.args.self.now))) c.map.ensures.closure (omega arith)

pub returns : goal.returns
returns c =
    let p = problem c.args.self.now in
    let s = c.args.state.now in
    let size : nat_abs c.sum.result ≤ 87960930222080 =
    sum_size _ (λ l. l) _ _ term_limit (λ x r q k. search (rules, tests)) c.map.result _ 4096 (YieldsList-at c.map.ensures.source (chain_road c.new.result))
    (rw (c.new.ensures.0, c.new.ensures.1) (chain_short p c.args.first (kept_rules c.args.self.now))) c.map.ensures.closure c.sum.result c.sum.ensures.ran in
    let all : c.sum.result ≡ fold ◌+ℤ◌ (pos 0) (map (λ l. l.amount *ℤ value_of s l.subject) (chain p.links c.args.first)) =
    total_from_yields_List ◌+ℤ◌ (pos 0) c.sum.result c.sum.ensures.ran (YieldsList-from_map _ (λ l. l.amount *ℤ value_of s l.subject) (YieldsList-at c.map.ensures.source (chain_road c.new.result)) c.map.ensures.closure (λ x r q k. search (rules, tests)))
    ∙ ap₂ (λ ls n. fold ◌+ℤ◌ (pos 0) (map (λ l. l.amount *ℤ value_of s l.subject) (chain ls n))) c.new.ensures.0 c.new.ensures.1 in
    let fits : to_z w64 (of_z w64 c.sum.result) ≡ c.sum.result = to_z-of_z w64 _ (size_fits64 _ (omega (arith, size))) in
    record { is = fits ∙ all ∙ fold-map ◌+ℤ◌ (λ l. l.amount *ℤ value_of s l.subject) (pos 0) (chain p.links c.args.first); small = subst (λ z. nat_abs z ≤ 87960930222080) (sym fits) size }
