use mathlib.Core.Logic.{∥∥₁_map}
use Rattle.std.proofs.Common.{◌≡◌, ◌/◌, ◌%◌, ◌^◌, ◌<◌, true, length, sym, ◌∙◌, arith}
use Rattle.std.proofs.lemmas.Nat.{and_mask}
use Rattle.std.proofs.lemmas.List.{length-set}
use Rattle.std.proofs.lemmas.Bool.{eq-eqb, eqb-true}
use Rattle.task.specs.States.{fact_holds}
use Rattle.lmcut.proofs.Queues.{queued_in, queued_apart}
use Rattle.lmcut.proofs.values.Settling.offer.Goals as goal

pub invariant_of-self : goal.invariant_of-self
invariant_of-self c =
    let s = c.args.self.now in
    let n = c.args.node in
    let w = s.open_nodes in
    let few = s.asked.fits.few_nodes in
    let long = s.long in
    let l : n < length s.values.now = omega arith in
    let opens : fact_holds w n ≡ true = eq-eqb (w / 2 ^ n % 2) 1 (sym (and_mask (w / 2 ^ n) 1) ∙ c.if-self-node-eq1.true) in
    record { long = length-set s.values.now n c.args.candidate ∙ s.long; lawful = c.queue.ensures.lawful; queued = ∥∥₁_map s.queued (λ qd. queued_in s.values.now w s.asked.question.now.nodes s.heap qd n c.args.candidate l c.if-node-self.true opens c.requires.finite c.queue.new.heap few c.if-candidate-old.true c.queue.ensures.queued) }

pub invariant_of-self-else-self-node-eq1 : goal.invariant_of-self-else-self-node-eq1
invariant_of-self-else-self-node-eq1 c =
    let s = c.args.self.now in
    let n = c.args.node in
    let bit = s.open_nodes / 2 ^ n in
    record { long = length-set s.values.now n c.args.candidate ∙ s.long; lawful = s.lawful; queued = ∥∥₁_map s.queued (λ qd. queued_apart s.values.now s.open_nodes s.asked.question.now.nodes s.heap qd n c.args.candidate (λ _ t. c.if-self-node-eq1.false (and_mask bit 1 ∙ eqb-true (bit % 2) 1 t))) }

pub invariant_of-self-else-node-self : goal.invariant_of-self-else-node-self
invariant_of-self-else-node-self c =
    let s = c.args.self.now in
    record { long = length-set s.values.now c.args.node c.args.candidate ∙ s.long; lawful = s.lawful; queued = ∥∥₁_map s.queued (λ qd. queued_apart s.values.now s.open_nodes s.asked.question.now.nodes s.heap qd c.args.node c.args.candidate (λ l _. omega (arith, c.if-node-self.false))) }
