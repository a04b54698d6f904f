-- The values, the edges and the remainders that arrays hold.
--   read_value   the value that a number stands for: the largest of 64 bits is infinite
--   values_of    the values of the first nodes of an array
--   edges_at     an action's edges, where its chosen need and what is left of its cost are in arrays
--   edges_from   the edges of the actions from a, the next count
--   edges_in     the edges of all actions
--   cut_of       the cut of a question, where its values and the remainders are in arrays
--   paid         what an action is charged in a cut of a weight
--   Placed       chosen needs are nodes below the goal node
--   zone_of      the zone that a word tells for the nodes below the goal node, and a truth value for that
--   marked       a source is the ground, or its bit is set in a word
--   Modest       no remainder exceeds that of the largest cost
--   Light        no edge of an action into a zone weighs less than a cut
use Rattle.std.specs.Prelude.{◌≡◌, ℕ, zero, suc, ◌+◌, ◌-◌, ◌<◌, ◌≤◌, Bool, true, cond, List, [], ◌∷◌, ◌++◌, map, take, Some, None, Option, ◌==◌, slice_index, slice_index_or}
use Rattle.task.specs.States.{fact_holds}
use Rattle.landmarks.specs.Relaxed.{facts_hold}
use Rattle.landmarks.specs.Rounds.{weight, Value, loaded, Edges, in_zone, starts, into, Crossing, cut, charge}
use Rattle.lmcut.specs.Questions.{edge_at, reach_of, reaches_from, relaxed_of}
use Rattle.lmcut.specs.declared.question.Edge.{Edge}
use Rattle.lmcut.specs.declared.question.Question.{Question}

abbrev pub read_value : ℕ → Value
read_value x = cond (x == 18446744073709551615) None (Some x)

abbrev pub values_of : ℕ → List ℕ → List Value
values_of n xs = map read_value (take n xs)

abbrev pub edges_at : Question → List ℕ → List (Option ℕ) → ℕ → Edges
edges_at q rs ss a = record { source = slice_index_or ss a None; left = slice_index rs a; reaches = reaches_from q a 0 q.nodes }

unfoldable pub edges_from : Question → List ℕ → List (Option ℕ) → ℕ → ℕ → List Edges
edges_from q rs ss a zero = []
edges_from q rs ss a (suc k) = edges_at q rs ss a ∷ edges_from q rs ss (a + 1) k

abbrev pub edges_in : Question → List ℕ → List (Option ℕ) → List Edges
edges_in q rs ss = edges_from q rs ss 0 q.actions

abbrev pub cut_of : Question → List ℕ → List ℕ → List Crossing
cut_of q xs rs = cut (relaxed_of q) (values_of q.nodes xs) (loaded (relaxed_of q).actions rs)

abbrev pub paid : Question → List (Option ℕ) → List Bool → List Bool → ℕ → ℕ → ℕ
paid q ss near start μ a = charge μ (cond (starts start (slice_index_or ss a None)) (into near (reaches_from q a 0 q.nodes)) [])

abbrev pub Placed : Question → List (Option ℕ) → Type 0
Placed q ss = (a n : ℕ) → a < q.actions → slice_index_or ss a None ≡ Some n → n + 1 < q.nodes

abbrev pub zone_of : Question → Bool → ℕ → List Bool
zone_of q g w = facts_hold w 0 (q.nodes - 1) ++ (g ∷ [])

abbrev pub marked : ℕ → Option ℕ → Bool
marked w None = true
marked w (Some n) = fact_holds w n

abbrev pub Modest : List ℕ → Type 0
Modest rs = (a : ℕ) → slice_index rs a ≤ 50400000

abbrev pub Light : Question → ℕ → List Bool → ℕ → ℕ → Type 0
Light q r near μ a = (n : ℕ) (e : Edge) → n < q.nodes → edge_at q a n ≡ Some e → in_zone near n ≡ true → μ ≤ weight r (reach_of n e)
