use Rattle.std.proofs.Common.{◌+◌, length, get_or, set, nat_abs, sym, ap, ◌∙◌, subst, arith, w32, SFits, rules}
use Rattle.std.proofs.lemmas.Int.{to_z-of_z}
use Rattle.tables.specs.Chains.{chain}
use Rattle.tables.specs.Rules.{ChainKeeps}
use Rattle.tables.specs.declared.Role.TheVariants.{Needs}
use Rattle.task.specs.Tasks.{problem}
use Rattle.task.proofs.Along.{kept_rules}
use Rattle.landmarks.specs.Relaxed.{needs_of}
use Rattle.lmcut.specs.Prepared.{Word, Row}
use Rattle.lmcut.proofs.Lent.{few_moves, no_move, lent_move, lent_keeps}
use Rattle.lmcut.proofs.Filling.{filling_blank, filling_more, filling_end}
use Rattle.lmcut.proofs.prepare.draw.Goals as goal

pub loop-index-init : goal.loop-index-init
loop-index-init c = (filling_blank (problem c.args.position.now.task.now) c.args.position.now.state.now c.args.question.now c.requires, c.requires.needing, c.requires.reaching)

pub needs_word-requires : goal.needs_word-requires
needs_word-requires c = (lent_keeps c.args.position.now.task.now c.tables-tables.result c.tables-tables.ensures c.loop-index.index c.loop-index-test.true).needs

pub reached-requires : goal.reached-requires
reached-requires c =
    let few = few_moves c.args.position.now.task.now in
    let e = ap (λ t. length t.moves.now) c.tables-tables.ensures in
    record {
      standing = c.standing-met.ensures;
      keeps = lent_keeps c.args.position.now.task.now c.tables-tables.result c.tables-tables.ensures c.loop-index.index c.loop-index-test.true;
      zeros = c.loop-index.invariant.0.zeros c.loop-index.index (omega arith) (omega arith);
    }

pub loop-index-preserved : goal.loop-index-preserved
loop-index-preserved c =
    let p = problem c.args.position.now.task.now in
    let i = c.loop-index.index in
    let few = few_moves c.args.position.now.task.now in
    let e = ap (λ t. length t.moves.now) c.tables-tables.ensures in
    let same = lent_move c.args.position.now.task.now c.tables-tables.result c.tables-tables.ensures i in
    let f : SFits w32 (get_or c.tables-tables.result.moves.now i no_move).cost = search rules in (
      filling_more p c.args.position.now.state.now i c.loop-index.question.costs c.loop-index.question.needs c.loop-index.question.reach c.loop-index.question.gains c.unsigned_abs.result c.needs_word.result c.reached.result c.reached.new.gains
          (omega arith) (c.unsigned_abs.ensures.value ∙ ap nat_abs (to_z-of_z w32 _ f) ∙ ap (λ m. nat_abs m.cost) same)
          (subst (λ m. Word c.needs_word.result (needs_of p m.needs)) same c.needs_word.ensures) (subst (λ m. Row p c.args.position.now.state.now (chain p.links m.effects) c.reached.result c.reached.new.gains) same c.reached.ensures) c.loop-index.invariant.0,
      c.loop-index.invariant.1,
      c.loop-index.invariant.2,
    )

pub needs_word-requires-2 : goal.needs_word-requires-2
needs_word-requires-2 c = subst (λ t. ChainKeeps (problem c.args.position.now.task.now) Needs t.head.goal) (sym c.tables-tables.ensures) (kept_rules c.args.position.now.task.now).goal

pub returns : goal.returns
returns c =
    let p = problem c.args.position.now.task.now in
    let few = (kept_rules c.args.position.now.task.now).few_moves in
    let e = ap (λ t. length t.moves.now) c.tables-tables.ensures in
    filling_end p c.args.position.now.state.now _ c.loop-index.index c.loop-index.question.needs c.needs_word-2.result c.loop-index.invariant.0
    (let h = c.loop-index-test.false in let k = c.loop-index.auto.index-end in omega arith) few
    (ap (λ j. set c.loop-index.question.needs j c.needs_word-2.result) e)
    (subst (λ t. Word c.needs_word-2.result (needs_of p t.head.goal)) c.tables-tables.ensures c.needs_word-2.ensures)
    (ap (λ t. t.head.facts) c.tables-tables.ensures)
    (ap (λ t. t.head.facts + length t.conditions.now + 1) c.tables-tables.ensures)
    (ap (λ k. k + 1) e)
    c.standing-met.ensures
    c.mark_all.ensures
    c.mark_all-2.ensures
