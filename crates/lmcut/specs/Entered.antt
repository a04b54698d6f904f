-- The edges of an action that are still to come.
--   edges_to_come   those to the nodes whose bits are still set, and the one to the goal node
use Rattle.std.specs.Prelude.{List, map, is_some}
use Rattle.landmarks.specs.Rounds.{into}
use Rattle.lmcut.specs.Drawn.{zone_of}
use Rattle.lmcut.specs.Questions.{reach_edge, reaches_from}
use Rattle.lmcut.specs.declared.question.Edge.{Edge}
use Rattle.lmcut.specs.declared.entering.Entering.{Entering}

unfoldable pub edges_to_come : Entering → List Edge
edges_to_come s = map reach_edge (into (zone_of s.asked.question.now (is_some s.goal) s.nodes.word) (reaches_from s.asked.question.now s.action 0 s.asked.question.now.nodes))
