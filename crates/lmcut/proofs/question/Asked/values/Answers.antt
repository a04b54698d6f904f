use Rattle.std.proofs.Common.{◌<◌, Bor, sym, ap, subst}
use Rattle.lmcut.specs.Valued.{Valued}
use Rattle.lmcut.specs.declared.left.Left.{Left}
use Rattle.lmcut.specs.declared.question.Question.{Question}
use Rattle.lmcut.proofs.Turns.{turning_start, turning_end, turning_inside, turning_small, turning_less, turning_next}
use Rattle.lmcut.proofs.question.Asked.values.Goals as goal

pub loop-last-init : goal.loop-last-init
loop-last-init c =
    let e = c.new-settling.ensures in
    turning_start c.args.self.question.now c.args.left.now.of c.args.self.fits c.args.left.now.modest c.new-settling.result c.settle_first.new.self (ap (λ (x : Bor Question). x.now) e.question) (ap (λ (x : Bor Left). x.now.of) e.left) e.begun e.opened c.settle_first.ensures.kept c.settle_first.ensures.reached

pub settle-requires : goal.settle-requires
settle-requires c =
    let q = c.args.self.question.now in
    let s = c.loop-last.settling in
    let v = c.take.new.self.open_nodes in
    record {
      inside = turning_inside q c.args.left.now.of c.args.self.fits c.args.left.now.modest s c.loop-last.invariant c.in-Some.last v c.in-Some.ensures.taken;
      small = turning_small q c.args.left.now.of c.args.self.fits c.args.left.now.modest s c.loop-last.invariant c.in-Some.last v c.in-Some.ensures.taken;
    }

pub loop-last-smaller : goal.loop-last-smaller
loop-last-smaller c =
    let less = turning_less c.args.self.question.now c.args.left.now.of c.args.self.fits c.args.left.now.modest c.loop-last.settling c.loop-last.invariant c.in-Some.last c.take.new.self.open_nodes c.in-Some.ensures.taken in
    subst (λ v. v < c.loop-last.settling.open_nodes) (sym c.settle.ensures.kept.open_nodes) less

pub loop-last-preserved : goal.loop-last-preserved
loop-last-preserved c =
    let e = c.in-Some.ensures in
    turning_next c.args.self.question.now c.args.left.now.of c.args.self.fits c.args.left.now.modest c.loop-last.settling c.loop-last.invariant c.in-Some.last c.take.new.self c.settle.new.self e.question e.left e.values e.taken c.settle.ensures.kept c.settle.ensures.reached

pub returns : goal.returns
returns c =
    let e = c.in_default.ensures in
    subst (Valued c.args.self.question.now c.args.left.now.of) (sym e.values) (turning_end c.args.self.question.now c.args.left.now.of c.args.self.fits c.args.left.now.modest c.loop-last.settling c.loop-last.invariant e.taken)
