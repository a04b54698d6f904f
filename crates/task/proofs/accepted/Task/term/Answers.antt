use Rattle.std.proofs.Common.{◌≤◌, nat_abs, to_z, of_z, subst, sym, ap, ◌∙◌, arith, w32, w64, SFits, rules}
use Rattle.std.proofs.lemmas.Int.{to_z-of_z}
use Rattle.task.specs.States.{value_of}
use Rattle.task.proofs.Along.{kept_rules, term_of, term_limit, term_size}
use Rattle.task.proofs.Ints.{size_fits64, widened_product}
use Rattle.task.proofs.accepted.Task.term.Goals as goal

pub bounds-state-link : goal.bounds-state-link
bounds-state-link c = let q = term_of _ _ (kept_rules c.args.self.now) c.requires in omega (arith, q.0, q.1)

pub returns : goal.returns
returns c =
    let v = value_of c.args.state.now c.args.link.now.subject in
    let f : SFits w32 v = search rules in
    let size = term_size _ _ v (kept_rules c.args.self.now) c.requires f in
    let product = widened_product _ v _ _ (search rules) f c.from.ensures c.from-2.ensures in
    let e = ap (λ z. to_z w64 (of_z w64 z)) product ∙ to_z-of_z w64 _ (size_fits64 _ (omega (arith, size))) in
    record { is = e; small = subst (λ z. nat_abs z ≤ term_limit) (sym e) size }
