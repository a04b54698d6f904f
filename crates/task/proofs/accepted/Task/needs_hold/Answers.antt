use Rattle.std.proofs.Common.{◌∙◌, ap₂, rules}
use Rattle.std.proofs.lemmas.Iterator.Adapters.{serves_from_places}
use Rattle.std.proofs.lemmas.Iterator.Search.{all_from_yields_List}
use borrow.Author.Tests.{tests}
use Rattle.tables.specs.Chains.{chain}
use Rattle.tables.specs.declared.Role.TheVariants.{Needs}
use Rattle.task.specs.States.{need_holds, all_hold}
use Rattle.task.specs.Tasks.{problem}
use Rattle.task.proofs.Roads.{chain_road, can_walk, link_fits, all_hold_list}
use Rattle.task.proofs.accepted.Task.needs_hold.Goals as goal

pub all-requires-clause-can : goal.all-requires-clause-can
all-requires-clause-can c = can_walk (problem c.args.self.now) Needs c.args.first c.requires c.new.result c.new.ensures.0 c.new.ensures.1

pub all-requires-clause-callable : goal.all-requires-clause-callable
all-requires-clause-callable c =
    serves_from_places (chain_road c.new.result) (λ x q r. search (rules, tests))
    (λ x k h e. let f = link_fits (problem c.args.self.now) Needs c.args.first c.requires c.new.result c.new.ensures.0 c.new.ensures.1 x k h e in search rules)

pub returns : goal.returns
returns c =
    let p = problem c.args.self.now in
    let s = c.args.state.now in
    all_from_yields_List (need_holds p s) c.all.new.self _ c.all.result c.all.ensures.ran (chain_road c.new.result) (λ x b q k. search (rules, tests))
    ∙ all_hold_list p s (chain c.new.result.links.now c.new.result.at)
    ∙ ap₂ (λ ls n. all_hold p s (chain ls n)) c.new.ensures.0 c.new.ensures.1
