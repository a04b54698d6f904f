use Rattle.lmcut.specs.Valued.{Fired}
use Rattle.lmcut.proofs.Kept.{kept_more, kept_back}
use Rattle.lmcut.proofs.Offers.{passing_inside, passing_more, passing_end}
use Rattle.lmcut.proofs.values.Settling.settle.Goals as goal

pub fire-requires : goal.fire-requires
fire-requires c =
    let s = c.args.self.now in
    let t = c.loop-action.self in
    let k = c.loop-action.invariant.2 in
    let here = passing_inside s.asked.question.now s.left.now.of s.open_nodes c.args.last.number c.args.last.value c.loop-action.action-iterator.words s.values.now s.asked.fits c.requires.inside t.values.now c.loop-action.invariant.3 c.in-Some.action c.next.new.self.words c.in-Some.ensures.steps in
    record { inside = rw k.question here; small = c.requires.small }

pub loop-action-preserved : goal.loop-action-preserved
loop-action-preserved c =
    let s = c.args.self.now in
    let t = c.loop-action.self in
    let u = c.fire.new.self in
    let a = c.in-Some.action in
    let k = c.loop-action.invariant.2 in
    let fired = kept_back (λ q rs w. Fired q rs w a c.args.last.value t.values.now u.values.now) s t k c.fire.ensures.fired in (
      tt,
      tt,
      kept_more s t u k c.fire.ensures.kept,
      passing_more s.asked.question.now s.left.now.of s.open_nodes c.args.last.number c.args.last.value c.loop-action.action-iterator.words s.values.now s.asked.fits c.requires.inside t.values.now c.loop-action.invariant.3 a c.next.new.self.words c.in-Some.ensures.steps u.values.now fired,
    )

pub returns-clause-reached : goal.returns-clause-reached
returns-clause-reached c =
    let s = c.args.self.now in
    passing_end s.asked.question.now s.left.now.of s.open_nodes c.args.last.number c.args.last.value c.loop-action.action-iterator.words s.values.now s.asked.fits c.requires.inside c.loop-action.self.values.now c.loop-action.invariant.3 c.next.new.self.words c.in-None.ensures.steps
