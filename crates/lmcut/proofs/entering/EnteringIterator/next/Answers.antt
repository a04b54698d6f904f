use Rattle.std.proofs.Common.{◌≡◌, [], ◌∷◌, is_some, Option, sym, ap, ◌∙◌, subst, MatchOption}
use Rattle.std.proofs.lemmas.Bool.{false≢true}
use Rattle.lmcut.specs.Bitwise.{BitStep}
use Rattle.lmcut.specs.Entered.{edges_to_come}
use Rattle.lmcut.proofs.Bitwise.{step_within, step_empty}
use Rattle.lmcut.proofs.Crossed.{to_come, to_come_last, to_come_node, progress}
use Rattle.lmcut.specs.declared.question.Edge.{Edge}
use Rattle.lmcut.proofs.entering.EnteringIterator.next.Goals as goal

pub inner-requires : goal.inner-requires
unfolding BitStep
inner-requires c = (c.args.self.now.inside, c.args.self.now.reached c.in-Some.node c.in-Some.ensures.steps.0.set)

pub invariant_of-self : goal.invariant_of-self
invariant_of-self c = record {
  inside = c.args.self.now.inside;
  reached = λ n h. c.args.self.now.reached n (step_within _ _ _ n c.in-Some.ensures.steps h);
  last = c.args.self.now.last;
}

pub invariant_of-self-in_default : goal.invariant_of-self-in_default
invariant_of-self-in_default c = record {
  inside = c.args.self.now.inside;
  reached = λ n h. absurd (false≢true (sym (step_empty _ _ n c.in_default.ensures.steps) ∙ h));
  last = λ e h. absurd (false≢true (ap is_some (sym c.take.ensures.after ∙ h)));
}

pub returns-in_default-clause-steps : goal.returns-in_default-clause-steps
unfolding edges_to_come
returns-in_default-clause-steps c =
    let s = c.args.self.now in
    let q = s.asked.question.now in
    let v = c.next.new.self.word in
    let P : Option Edge → Option Edge → Type 0 = λ r g. MatchOption r ((to_come q s.action (is_some s.goal) s.nodes.word ≡ []) × (to_come q s.action (is_some g) v ≡ [])) (λ x. to_come q s.action (is_some s.goal) s.nodes.word ≡ x ∷ to_come q s.action (is_some g) v) in
    subst (λ r. P r c.take.new.self) (sym c.take.ensures.value) (subst (P s.goal) (sym c.take.ensures.after) (to_come_last q s.action s.asked.fits s.goal s.last s.nodes.word v c.in_default.ensures.steps))

pub returns-in_default-clause-goes : goal.returns-in_default-clause-goes
returns-in_default-clause-goes c = progress edges_to_come _ _ _ (returns-in_default-clause-steps c)

pub returns-clause-steps : goal.returns-clause-steps
unfolding edges_to_come BitStep
returns-clause-steps c =
    let s = c.args.self.now in
    to_come_node s.asked.question.now s.action s.asked.fits (is_some s.goal) s.nodes.word c.in-Some.node c.next.new.self.word c.inner.result c.in-Some.ensures.steps
    (s.asked.fits.reach_inside s.action c.in-Some.node (s.reached c.in-Some.node c.in-Some.ensures.steps.0.set)) c.inner.ensures

pub returns-clause-goes : goal.returns-clause-goes
returns-clause-goes c = progress edges_to_come _ _ _ (returns-clause-steps c)
