-- The node values of a round, found lowest first over a prepared question.
--   infinite       the word that stands for an infinite value
--   most_weight    no edge weighs more
--   edge_weight    what an edge weighs where r is left of its action's cost
--   needs_at       the nodes that an action needs
--   loads          the actions of a question with their remainders
--   lowered        a value after an edge's offer from a need value
--   FiredTo        values after the offers of one action to the first k nodes
--   ready_at       an action that needs no open node
--   Fired          values after the offers of one action to all nodes, if it needs no open node
--   fires_at       an action that needs no open node, but needs a given one
--   Came           a value that one of the first k actions that are due offers to a node
--   ReachedTo      values after the offers of those of the first k actions that are due, at one need value
--   Begun          values at the start: 0 for a node that holds, else infinite
--   Opened         a word that has the nodes below the goal node that do not hold
--   Valued         words that tell the values of a round
use Rattle.std.specs.Prelude.{◌≡◌, ℕ, ◌+◌, ◌-◌, ◌*◌, ◌/◌, ◌<◌, ◌≤◌, Bool, true, false, cond, not, ◌&&◌, ◌⊎◌, List, length, Some, None, Option, MatchBool, ◌==◌, bit_and, nat_lt, slice_index, slice_index_or}
use Rattle.task.specs.States.{fact_holds}
use Rattle.lmcut.specs.Questions.{edge_at, bits_from, relaxed_of}
use Rattle.lmcut.specs.Drawn.{read_value}
use Rattle.landmarks.specs.Rounds.{Loaded, loaded, value_at, values}
use Rattle.lmcut.specs.declared.question.Question.{Question}
use Rattle.lmcut.specs.declared.question.Edge.{Edge}

abbrev pub infinite : ℕ
infinite = 18446744073709551615

-- 36,000,001 × 50,400,000
abbrev pub most_weight : ℕ
most_weight = 1814400050400000

abbrev pub edge_weight : ℕ → Edge → ℕ
edge_weight r e = e.short * r / e.gain

abbrev pub needs_at : Question → ℕ → List ℕ
needs_at q a = bits_from (slice_index q.needs a) 0 (q.nodes - 1)

abbrev pub loads : Question → List ℕ → List Loaded
loads q rs = loaded (relaxed_of q).actions rs

abbrev pub lowered : Option Edge → ℕ → ℕ → ℕ → ℕ
lowered None top r x = x
lowered (Some e) top r x = cond (nat_lt (top + edge_weight r e) x) (top + edge_weight r e) x

pub record FiredTo (q : Question) (a r top k : ℕ) (xs ys : List ℕ) : Type 0 where
  pub long : length ys ≡ length xs
  pub each : (n : ℕ) → n < k → slice_index ys n ≡ lowered (edge_at q a n) top r (slice_index xs n)
  pub rest : (n : ℕ) → k ≤ n → slice_index ys n ≡ slice_index xs n

abbrev pub ready_at : Question → ℕ → ℕ → Bool
ready_at q «open» a = bit_and (slice_index q.needs a) «open» == 0

abbrev pub Fired : Question → List ℕ → ℕ → ℕ → ℕ → List ℕ → List ℕ → Type 0
Fired q rs «open» a top xs ys = MatchBool (ready_at q «open» a) (FiredTo q a (slice_index rs a) top q.nodes xs ys) (ys ≡ xs)

abbrev pub fires_at : Question → ℕ → ℕ → ℕ → Bool
fires_at q «open» n a = ready_at q «open» a && fact_holds (slice_index q.needs a) n

pub record Came (q : Question) (rs : List ℕ) (due : ℕ → Bool) (top k n y : ℕ) : Type 0 where
  pub action : ℕ
  pub inside : action < k
  pub fires : due action ≡ true
  pub edge : Edge
  pub is : edge_at q action n ≡ Some edge
  pub exact : y ≡ top + edge_weight (slice_index rs action) edge

pub record ReachedTo (q : Question) (rs : List ℕ) (due : ℕ → Bool) (top k : ℕ) (xs ys : List ℕ) : Type 0 where
  pub long : length ys ≡ length xs
  pub fell : (n : ℕ) → n < q.nodes → slice_index ys n ≤ slice_index xs n
  pub low : (a n : ℕ) (e : Edge) → a < k → due a ≡ true → n < q.nodes → edge_at q a n ≡ Some e → slice_index ys n ≤ top + edge_weight (slice_index rs a) e
  pub from : (n : ℕ) → n < q.nodes → (slice_index ys n ≡ slice_index xs n) ⊎ Came q rs due top k n (slice_index ys n)

pub record Begun (q : Question) (xs : List ℕ) : Type 0 where
  pub long : length xs ≡ 129
  pub each : (n : ℕ) → n < q.nodes → slice_index xs n ≡ cond (slice_index_or q.holds n false) 0 infinite

abbrev pub Opened : Question → ℕ → Type 0
Opened q w = (n : ℕ) → fact_holds w n ≡ (nat_lt n (q.nodes - 1) && not (slice_index_or q.holds n false))

pub record Valued (q : Question) (rs : List ℕ) (xs : List ℕ) : Type 0 where
  pub long : length xs ≡ 129
  pub each : (n : ℕ) → n < q.nodes → read_value (slice_index xs n) ≡ value_at (values (relaxed_of q) (loads q rs)) n
