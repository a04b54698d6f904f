-- What stays while values are found.
--   Kept      the question, what is left of the costs, and the open nodes
use Rattle.std.specs.Prelude.{◌≡◌}
use Rattle.lmcut.specs.declared.values.Settling.{Settling}

pub record Kept (s t : Settling) : Type 0 where
  pub question : t.asked.question ≡ s.asked.question
  pub left : t.left ≡ s.left
  pub open_nodes : t.open_nodes ≡ s.open_nodes
