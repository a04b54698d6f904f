use Rattle.std.proofs.Common.{rules, subst, arith}
use Rattle.std.proofs.lemmas.List.{take_all}
use Rattle.std.proofs.lemmas.Int.{ints, to_z-of_z}
use Rattle.script.specs.Lines.{Integers}
use Rattle.script.specs.Unread.{unread}
use Rattle.script.proofs.Lines.{integers_set}
use Rattle.script.proofs.directive.read_state.Goals as goal

pub loop-value-preserved : goal.loop-value-preserved
loop-value-preserved c =
    let had = c.loop-value.invariant in (
      search rules,
      (
        had.1.0,
        had.1.1,
        integers_set had.1.0 (unread c.loop-value.words) (unread c.number-in-loop-value.new.self) c.loop-value.value-items c.loop-value.value-index c.in_ok-value.field-0 _ had.1.2
            (search rules) (omega arith) (search (rules, ints, to_z-of_z)),
      ),
    )

pub returns : goal.returns
returns c =
    let had = c.loop-value.invariant in (
      had.1.0,
      unread c.loop-value.words,
      had.1.1,
      subst (λ zs. Integers had.1.0 zs (unread c.loop-value.words)) (take_all c.loop-value.value-index c.loop-value.value-items (omega arith)) had.1.2,
      search rules,
    )
