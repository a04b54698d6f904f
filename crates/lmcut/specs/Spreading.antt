-- How zones spread, until nothing changes.
--   Closed      what passes a test of zones and nodes, of the nodes below N, is in the zone
--   Spreads     a zone has become another: it has grown, and only by nodes that every zone has that holds the first zone and is closed
--   Stepped     a step from a word to another, with a truth value for the goal node: the zone has spread, and where the word is as before,
--               something holds of the zone
--   Leads       where an action leads into a zone by an edge of weight 0, its chosen need is in the zone
--   Leading     an action leads from its chosen need to a node by an edge of weight 0
--   Sources     a word has only nodes that lead to a node by edges of weight 0, and of the actions in a range it has all such nodes
--   joins       a node is not in the goal zone, and an edge from a zone or the ground reaches it
--   Joined      where an action starts in a zone, the zone has what it reaches outside the goal zone
use Rattle.std.specs.Prelude.{◌≡◌, ℕ, ◌*◌, ◌<◌, ◌≤◌, Bool, true, false, not, ◌&&◌, List, [], get_or, Some, None, Option, slice_index, slice_index_or}
use Rattle.task.specs.States.{fact_holds}
use Rattle.lmcut.specs.Drawn.{edges_in, zone_of}
use Rattle.lmcut.specs.Questions.{edge_at, reaches_from}
use Rattle.landmarks.specs.Laws.{Within}
use Rattle.landmarks.specs.Rounds.{in_zone, weightless_into, starts, led_to}
use Rattle.lmcut.specs.declared.question.Edge.{Edge}
use Rattle.lmcut.specs.declared.question.Question.{Question}

abbrev pub Closed : (List Bool → ℕ → Bool) → ℕ → List Bool → Type 0
Closed g N z = (i : ℕ) → i < N → g z i ≡ true → in_zone z i ≡ true

pub record Spreads (g : List Bool → ℕ → Bool) (N : ℕ) (before after : List Bool) : Type 0 where
  pub keeps : Within before after
  pub within : (z : List Bool) → Closed g N z → Within before z → Within after z

pub record Stepped (q : Question) (goal : Bool) (g : List Bool → ℕ → Bool) (H : List Bool → Type 0) (before after : ℕ) : Type 0 where
  pub spreads : Spreads g q.nodes (zone_of q goal before) (zone_of q goal after)
  pub more : before ≤ after
  pub still : after ≡ before → H (zone_of q goal after)

abbrev pub Leads : Question → List ℕ → List (Option ℕ) → ℕ → List Bool → Type 0
Leads q rs ss a z = (n : ℕ) → slice_index_or ss a None ≡ Some n → weightless_into z (slice_index rs a) (reaches_from q a 0 q.nodes) ≡ true → in_zone z n ≡ true

pub record Leading (q : Question) (rs : List ℕ) (ss : List (Option ℕ)) (m n : ℕ) : Type 0 where
  pub action : ℕ
  pub inside : action < q.actions
  pub source : get_or ss action None ≡ Some n
  pub edge : Edge
  pub is : edge_at q action m ≡ Some edge
  pub light : edge.short * slice_index rs action < edge.gain

pub record Sources (q : Question) (rs : List ℕ) (ss : List (Option ℕ)) (m from upto w : ℕ) : Type 0 where
  pub only : (n : ℕ) → fact_holds w n ≡ true → Leading q rs ss m n
  pub all : (n : ℕ) (l : Leading q rs ss m n) → from ≤ l.action → l.action < upto → fact_holds w n ≡ true

abbrev pub joins : Question → List (Option ℕ) → List Bool → List Bool → ℕ → Bool
joins q ss near z n = not (in_zone near n) && led_to (edges_in q [] ss) z n

abbrev pub Joined : Question → List (Option ℕ) → List Bool → ℕ → List Bool → Type 0
Joined q ss near a z = starts z (slice_index_or ss a None) ≡ true → (n : ℕ) (e : Edge) → n < q.nodes → edge_at q a n ≡ Some e → in_zone near n ≡ false → in_zone z n ≡ true
