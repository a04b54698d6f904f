use Rattle.std.proofs.Common.{[], vec_items, subst, rules}
use Rattle.std.proofs.lemmas.List.{append-nil}
use Rattle.std.specs.Str.Iter.{split_whitespace_rest}
use Rattle.script.specs.Lines.{Natural, Moves}
use Rattle.script.specs.Unread.{unread}
use Rattle.script.proofs.Lines.{moves_more}
use Rattle.script.proofs.words.Words.numbers.Goals as goal

pub loop-word-preserved : goal.loop-word-preserved
loop-word-preserved c =
    let one : Natural 32 (split_whitespace_rest c.loop-word.word-iterator) c.in_ok-map_err.field-0 (split_whitespace_rest c.next.new.self) = search rules in
    moves_more (unread c.args.self) (split_whitespace_rest c.loop-word.word-iterator) (split_whitespace_rest c.next.new.self) (vec_items c.loop-word.list) _ c.in_ok-map_err.field-0
    c.loop-word.invariant one c.in_ok-push.ensures.items

pub returns : goal.returns
returns c = subst (Moves (unread c.args.self)) (append-nil (vec_items c.loop-word.list)) (c.loop-word.invariant [] c.in-None.ensures.steps.1)
