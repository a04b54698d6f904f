use Rattle.std.proofs.Common.{ℕ, List, ◌++◌, vec_items}
use Rattle.std.specs.Str.Iter.{split_whitespace_rest}
use Rattle.script.specs.Lines.{Moves}
use Rattle.script.specs.Unread.{unread}
use Rattle.script.proofs.words.Words.numbers.Given as goal

abbrev pub invariant-loop-word : goal.invariant-loop-word
invariant-loop-word l = (ms : List ℕ) → Moves (split_whitespace_rest l.word-iterator) ms → Moves (unread l.fn.self) (vec_items l.list ++ ms)
