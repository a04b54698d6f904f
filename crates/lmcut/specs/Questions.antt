-- The relaxed task that a prepared question holds.
--   edge_at        the edge by which an action reaches a node, if it does
--   reach_of, reach_edge   the reach of a node by an edge, and the edge of a reach
--   bits_from      the numbers from n, of the next count, whose bits are set in a word
--   reaches_from   the nodes from n, of the next count, that an action reaches
--   action_at      an action of the question
--   actions_from   the actions from a, the next count
--   relaxed_of     the relaxed task of a question
--   Fits           the numbers of a question are inside its arrays, shortfalls and gains are at least 1 and inside their limits,
--                  words have bits of nodes below the goal node only, bit a of the words of a node tells whether action a needs it
--                  or reaches it, no action past the last needs or reaches a node,
--                  the helper reaches no other node, the goal node does not hold, and no node that holds is reached
use Rattle.std.specs.Prelude.{◌≡◌, ℕ, zero, suc, ◌+◌, ◌-◌, ◌/◌, ◌%◌, ◌<◌, ◌≤◌, true, false, cond, List, [], ◌∷◌, length, get_or, take, Some, None, Option, ◌==◌, nat_lt, slice_index, slice_index_or}
use Rattle.task.specs.States.{fact_holds}
use Rattle.landmarks.specs.Relaxed.{Reach, Action, Relaxed}
use Rattle.lmcut.specs.declared.question.Question.{Question}
use Rattle.lmcut.specs.declared.question.Edge.{Edge}

abbrev pub unit_edge : Edge
unit_edge = record { short = 1; gain = 1 }

abbrev pub edge_at : Question → ℕ → ℕ → Option Edge
edge_at q a n =
    cond (n + 1 == q.nodes) (cond (a + 1 == q.actions) (Some unit_edge) None)
    (cond (fact_holds (slice_index q.reach a) n)
    (cond (nat_lt n q.facts) (Some unit_edge) (Some (record { short = slice_index q.shorts (n - q.facts); gain = slice_index (slice_index_or q.gains a []) (n - q.facts) })))
    None)

unfoldable pub bits_from : ℕ → ℕ → ℕ → List ℕ
bits_from w n zero = []
bits_from w n (suc k) = let rest = bits_from w (n + 1) k in cond (fact_holds w n) (n ∷ rest) rest

abbrev pub reach_of : ℕ → Edge → Reach
reach_of n e = record { node = n; short = e.short; gain = e.gain }

abbrev pub reach_edge : Reach → Edge
reach_edge x = record { short = x.short; gain = x.gain }

abbrev pub with_edge : ℕ → Option Edge → List Reach → List Reach
with_edge n None rest = rest
with_edge n (Some e) rest = reach_of n e ∷ rest

unfoldable pub reaches_from : Question → ℕ → ℕ → ℕ → List Reach
reaches_from q a n zero = []
reaches_from q a n (suc k) = with_edge n (edge_at q a n) (reaches_from q a (n + 1) k)

abbrev pub action_at : Question → ℕ → Action
action_at q a = record { cost = slice_index q.costs a; needs = bits_from (slice_index q.needs a) 0 (q.nodes - 1); reaches = reaches_from q a 0 q.nodes }

unfoldable pub actions_from : Question → ℕ → ℕ → List Action
actions_from q a zero = []
actions_from q a (suc k) = action_at q a ∷ actions_from q (a + 1) k

unfoldable pub relaxed_of : Question → Relaxed
relaxed_of q = record { nodes = q.nodes; holds = take q.nodes q.holds; actions = actions_from q 0 q.actions }

pub record Fits (q : Question) : Type 0 where
  pub some_nodes : 1 ≤ q.nodes
  pub few_nodes : q.nodes ≤ 129
  pub facts_first : q.facts + 1 ≤ q.nodes
  pub few_facts : q.facts ≤ 64
  pub few_conditions : q.nodes ≤ q.facts + 65
  pub some_actions : 1 ≤ q.actions
  pub few_actions : q.actions ≤ 257
  pub held_long : length q.holds ≡ 129
  pub costs_small : (a : ℕ) → slice_index q.costs a ≤ 10000
  pub helper_free : get_or q.reach (q.actions - 1) 0 ≡ 0
  pub reach_inside : (a n : ℕ) → fact_holds (slice_index q.reach a) n ≡ true → n + 1 < q.nodes
  pub needs_inside : (a n : ℕ) → fact_holds (slice_index q.needs a) n ≡ true → n + 1 < q.nodes
  pub needs_past : (a : ℕ) → q.actions ≤ a → slice_index q.needs a ≡ 0
  pub reach_past : (a : ℕ) → q.actions ≤ a → slice_index q.reach a ≡ 0
  pub needing : (n a : ℕ) → n < 128 → a < 384 → fact_holds (slice_index (slice_index_or q.needing n []) (a / 128)) (a % 128) ≡ fact_holds (slice_index q.needs a) n
  pub reaching : (n a : ℕ) → n < 128 → a < 384 → fact_holds (slice_index (slice_index_or q.reaching n []) (a / 128)) (a % 128) ≡ fact_holds (slice_index q.reach a) n
  pub goal_open : get_or q.holds (q.nodes - 1) false ≡ false
  pub edges_small : (a n : ℕ) (e : Edge) → a < q.actions → n < q.nodes → edge_at q a n ≡ Some e → (1 ≤ e.short) × (e.short ≤ 36000001) × (1 ≤ e.gain) × (e.gain ≤ 32000000) × (slice_index_or q.holds n false ≡ false)
