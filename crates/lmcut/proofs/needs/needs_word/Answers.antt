use Rattle.std.proofs.Common.{◌≡◌, ◌+◌, ◌-◌, ◌*◌, ◌%◌, ◌^◌, ◌<◌, ◌≤◌, sym, ap, ◌∙◌, subst, arith}
use lib.Bits.{bit_or}
use Rattle.std.proofs.lemmas.Nat.{one_shl}
use Rattle.tables.specs.declared.Role.TheVariants.{Needs}
use Rattle.task.specs.Tasks.{problem}
use Rattle.task.proofs.Along.{Gone, going_step, going_end, need_condition, kept_rules}
use Rattle.landmarks.specs.Relaxed.{node_of, needs_of}
use Rattle.lmcut.proofs.Needing.{Needed, needed_start, needed_step, needed_end, node_fact, node_condition, node_small}
use Rattle.lmcut.proofs.needs.needs_word.Goals as goal
use Rattle.lmcut.proofs.needs.needs_word.Goals.{In-Some, Joined-link, then-link, else-link}

pub loop-link-init : goal.loop-link-init
loop-link-init c =
    let it = c.into_iter-link-iterator.ensures.into_iter_gives in
    let links = ap (λ k. k.links.now) it ∙ c.new-link-items.ensures.0 ∙ ap (λ t. t.links.now) c.tables.ensures in
    let s = needed_start (problem c.args.task.now) c.args.first _ _ (kept_rules c.args.task.now) c.requires links (ap (λ k. k.at) it ∙ c.new-link-items.ensures.1) in
    (s.going.can, tt, s)

gone : (c : In-Some) → Gone (problem c.args.task.now) Needs c.in-Some.link c.loop-link.link-iterator.links.now c.loop-link.link-iterator.at c.next.new.self.links.now c.next.new.self.at
gone c = let e = c.in-Some.ensures in going_step _ Needs c.in-Some.link _ _ _ _ c.loop-link.invariant.2.going e.steps (e.goes.on tt)

-- a need that is a condition, and the number of facts as the code has it
condition_small : (c : In-Some) → (c.in-Some.link.kind ≡ 2 → ⊥) → (1 ≤ c.in-Some.link.subject) × (c.tables-facts.result.head.facts + c.in-Some.link.subject ≤ 128)
condition_small c k =
    let t = kept_rules c.args.task.now in
    let h = need_condition _ _ (gone c).fits k in
    (h.0, omega (arith, h.1, t.few_conditions, t.facts, ap (λ z. z.head.facts) c.tables-facts.ensures))

pub overflow_add-node : goal.overflow_add-node
overflow_add-node c = record { fits = omega (arith, (condition_small (goal.at.overflow_add-node c).In-Some c.if-link.false).1) }

pub overflow_sub-node : goal.overflow_sub-node
overflow_sub-node c = omega (arith, (condition_small (goal.at.overflow_sub-node c).In-Some c.if-link.false).0)

-- the node is that of the need
node_is : (c : Joined-link) → node_of (problem c.args.task.now) c.in-Some.link ≡ c.if-link.node
node_is c = elim c.if-link.branch [
  | then-link w ↦ node_fact (problem c.args.task.now) c.in-Some.link w.if-link.true ∙ sym w.node-is
  | else-link w ↦ node_condition (problem c.args.task.now) c.in-Some.link w.if-link.false ∙ sym (w.node-is ∙ ap (λ t. t.head.facts + c.in-Some.link.subject - 1) c.tables-facts.ensures)
]

pub overflow_shl-word : goal.overflow_shl-word
overflow_shl-word c = subst (λ m. m < 128) (node_is (goal.at.overflow_shl-word c).Joined-link) (node_small (problem c.args.task.now) c.in-Some.link (kept_rules c.args.task.now) (gone (goal.at.overflow_shl-word c).In-Some).fits)

pub loop-link-preserved : goal.loop-link-preserved
loop-link-preserved c =
    let p = problem c.args.task.now in
    let g = gone (goal.at.loop-link-preserved c).In-Some in
    let e = node_is (goal.at.loop-link-preserved c).Joined-link in
    let k = node_small p c.in-Some.link (kept_rules c.args.task.now) g.fits in
    let w = needed_step _ _ _ _ _ _ _ _ c.loop-link.invariant.2 g (kept_rules c.args.task.now) in
    (g.rest.can, tt, subst (λ b. Needed p (needs_of p c.args.first) c.next.new.self.links.now c.next.new.self.at (bit_or c.loop-link.word b)) (sym (one_shl _ 128 k) ∙ ap (λ m. 1 * 2 ^ m % 2 ^ 128) e) w)

pub returns : goal.returns
returns c = needed_end _ _ _ _ _ c.loop-link.invariant.2 (going_end _ _ _ _ c.in-None.ensures.steps)
