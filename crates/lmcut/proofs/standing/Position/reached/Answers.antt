use Rattle.std.proofs.Common.{◌≡◌, ℕ, ◌+◌, ◌-◌, ◌^◌, ◌<◌, Bool, true, false, List, is_some, length, get_or, take, sym, ap, ◌∙◌, subst, subst₂, arith, rules}
use lib.Bits.{bit_and, bit_or, bit_xor}
use Rattle.std.proofs.lemmas.Nat.{one_shl}
use Rattle.std.proofs.lemmas.List.{length-take-le, set-get_or, get_or-take}
use Rattle.tables.specs.Chains.{chain}
use Rattle.tables.specs.Problem.{Problem}
use Rattle.tables.specs.declared.Role.TheVariants.{Effects}
use Rattle.task.specs.States.{condition_at, condition_holds}
use Rattle.task.specs.Tasks.{problem}
use Rattle.task.specs.declared.state.State.{State}
use Rattle.task.proofs.Along.{kept_rules, keeps_fit}
use Rattle.landmarks.specs.Relaxed.{node_count}
use Rattle.landmarks.proofs.Shapes.{no_condition, holds_condition}
use Rattle.lmcut.specs.Prepared.{Standing}
use Rattle.lmcut.proofs.Lent.{lent}
use Rattle.lmcut.proofs.Rows.{RowUpTo, rows_start, rows_left, rows_raised, rows_end, gain_fits}
use Rattle.lmcut.proofs.standing.Position.reached.Goals as goal
use Rattle.lmcut.proofs.standing.Position.reached.Goals.{In-loop-index, in-Some, in_default}

pub slice_bounds-place-items-end : goal.slice_bounds-place-items-end
slice_bounds-place-items-end c = let k = lent c.args.self.now.task.now c.tables-tables.result c.tables-tables.ensures in omega arith

pub loop-index-init : goal.loop-index-init
loop-index-init c =
    let p = problem c.args.self.now.task.now in
    let s = c.args.self.now.state.now in
    let es = chain p.links c.args.action.now.effects in
    let start = c.from-nodes.ensures ∙ ap (λ w. bit_xor w (bit_and w s.facts)) c.new-done.ensures.sets in
    let gains = take (length c.tables-tables.result.conditions.now) c.args.gains.now in
    let few = lent c.args.self.now.task.now c.tables-tables.result c.tables-tables.ensures in
    let long : length c.args.gains.now ≡ 64 = ap length c.requires.zeros in
    subst (λ w. RowUpTo p s es 0 w gains) (sym start)
    (rows_start p s es (keeps_fit p Effects _ c.requires.keeps.effects) gains (length-take-le (length c.tables-tables.result.conditions.now) c.args.gains.now (omega arith) ∙ few.conditions))

-- an index of the loop is one of a condition
inside : (c : In-loop-index) → c.loop-index.index < length (problem c.args.self.now.task.now).conditions
inside c = let l = c.loop-index.invariant.long in omega arith

pub gain_on-requires-clause-fits : goal.gain_on-requires-clause-fits
gain_on-requires-clause-fits c =
    gain_fits (problem c.args.self.now.task.now) (kept_rules c.args.self.now.task.now) c.args.action.now c.requires.keeps c.new-done.result.changes c.new-done.ensures.changes c.loop-index.index (inside (goal.at.gain_on-requires-clause-fits c).In-loop-index)

-- the node of a condition holds where the condition does
held_is : (p : Problem) (s : State) (holds : List Bool) (shorts : List ℕ) → Standing p s holds shorts → (c : ℕ) → c < length p.conditions → get_or holds (p.head.facts + c) false ≡ condition_holds p s (condition_at p (c + 1))
held_is p s holds shorts w c h =
    sym (get_or-take (node_count p) holds (p.head.facts + c) false (omega arith))
    ∙ ap (λ hs. get_or hs (p.head.facts + c) false) w.held
    ∙ holds_condition p s c h
    ∙ (let i : c ≡ c + 1 - 1 = omega arith in ap (λ k. condition_holds p s (get_or p.conditions k no_condition)) i)

pub overflow_shl-nodes : goal.overflow_shl-nodes
overflow_shl-nodes c = let k = lent c.args.self.now.task.now c.tables-tables.result c.tables-tables.ensures in let i = inside (goal.at.overflow_shl-nodes c).In-loop-index in omega arith

pub loop-index-preserved : goal.loop-index-preserved
loop-index-preserved c =
    let p = problem c.args.self.now.task.now in
    let k = kept_rules c.args.self.now.task.now in
    let s = c.args.self.now.state.now in
    let m = c.args.action.now in
    let index = c.loop-index.index in
    let i = inside (goal.at.loop-index-preserved c).In-loop-index in
    let cs = c.new-done.result.changes in
    let ch = c.new-done.ensures.changes in
    let few = lent c.args.self.now.task.now c.tables-tables.result c.tables-tables.ensures in
    let some = c.gain_on.ensures.some in
    let held = get_or c.args.met.now.holds (p.head.facts + index) false in
    let same = held_is p s c.args.met.now.holds c.args.met.now.shorts c.requires.standing index i in
    elim c.match-gain_on.branch [
      | in-Some w ↦
          let shifted = one_shl (c.tables-tables.result.head.facts + index) 128 (omega arith) ∙ ap (λ t. 2 ^ (t.head.facts + index)) c.tables-tables.ensures in
          let found : is_some c.gain_on.result ≡ true = ap is_some w.in-Some.is in
          subst₂ (RowUpTo p s (chain p.links m.effects) (index + 1)) (sym (w.nodes-is ∙ ap (bit_or c.loop-index.nodes) shifted)) (sym w.place-items-is)
          (rows_raised p k m c.requires.keeps cs ch index i s c.loop-index.nodes c.loop-index.place-items c.loop-index.invariant held same (is_some c.gain_on.result) some found w.in-Some.gain w.in-Some.ensures.is)
      | in_default w ↦
          let none : is_some c.gain_on.result ≡ false = search rules in
          subst₂ (RowUpTo p s (chain p.links m.effects) (index + 1)) (sym w.nodes-is) (sym (w.place-items-is ∙ set-get_or c.loop-index.place-items index 0))
          (rows_left p k m c.requires.keeps cs ch index i s c.loop-index.nodes c.loop-index.place-items c.loop-index.invariant held same (is_some c.gain_on.result) some none)
    ]

pub returns : goal.returns
returns c = let l = c.loop-index.invariant.long in rows_end _ _ _ _ _ _ _ c.loop-index.invariant (omega arith)
