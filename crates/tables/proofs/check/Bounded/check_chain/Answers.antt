use Rattle.std.proofs.Common.{rules, ◌≡◌, ◌-◌, false, None, Some, Err, sym, ap, ◌∙◌, slice_get, slice_index_or}
use Rattle.tables.specs.Check.{told, link_fault}
use Rattle.tables.specs.Problem.{contents}
use Rattle.tables.specs.declared.fault.LinkFault.TheVariants.{Missing}
use Rattle.tables.proofs.Checked.{walked_start, walked_end, walked_missing, walked_fault, walked_marked, walked_on, walked_less}
use Rattle.tables.proofs.check.Bounded.check_chain.Goals as goal

pub loop-at-init : goal.loop-at-init
loop-at-init c = walked_start _ _ _

pub returns-in_err-link : goal.returns-in_err-link
returns-in_err-link c =
    let gone : slice_get (contents c.args.self.now.tables).links (c.loop-at.at - 1) ≡ None = search rules in
    let is : c.from_residual.result ≡ Err (record { link = c.loop-at.at; fault = Missing }) = search rules in
    is ∙ sym (ap told (walked_missing _ _ _ _ _ c.loop-at.invariant gone (search rules)))

pub returns-in_err-kind : goal.returns-in_err-kind
returns-in_err-kind c =
    let met : slice_get (contents c.args.self.now.tables).links (c.loop-at.at - 1) ≡ Some c.in_ok-link.link = search rules in
    let fault : link_fault (contents c.args.self.now.tables) c.args.role (slice_index_or c.loop-at.seen (c.in_ok-link.link.subject - 1) false) c.loop-at.at c.in_ok-link.link ≡ Some c.in_err-kind.field-0.0.fault = search rules in
    let is : c.from_residual-in_err-kind.result ≡ Err c.in_err-kind.field-0.0 = search rules in
    is ∙ sym (ap told (walked_fault _ _ _ _ _ c.loop-at.invariant _ met (search rules) c.args.self.now.few_quantities _ (search rules) fault))

pub loop-at-smaller-then-names_quantity : goal.loop-at-smaller-then-names_quantity
loop-at-smaller-then-names_quantity c = search (rules, walked_less _ _ _ _ _ c.loop-at.invariant)

pub loop-at-preserved-then-names_quantity : goal.loop-at-preserved-then-names_quantity
loop-at-preserved-then-names_quantity c = search (rules, walked_marked _ _ _ _ _ c.loop-at.invariant)

pub loop-at-smaller : goal.loop-at-smaller
loop-at-smaller c = search (rules, walked_less _ _ _ _ _ c.loop-at.invariant)

pub loop-at-preserved : goal.loop-at-preserved
loop-at-preserved c = search (rules, walked_on _ _ _ _ _ c.loop-at.invariant)

pub returns : goal.returns
returns c = sym (ap told (walked_end _ _ _ _ _ c.loop-at.invariant c.loop-at-test.false))
