-- The actions that need a node, or that reach it, as three words of 128 bits for each node.
--   marked    an action is marked at a node
--   unmarked  the words of all nodes where no action is marked
--   Marks     an action was marked at the nodes of a word, and nothing else was changed
--   Needing   an action is marked at a node where the action's word has the node
use Rattle.std.specs.Prelude.{◌≡◌, ℕ, ◌<◌, Bool, ◌&&◌, ◌||◌, List, [], replicate, ◌==◌, slice_index, slice_index_or}
use Rattle.task.specs.States.{fact_holds}
use Rattle.lmcut.specs.Bitwise.{holds_action}

abbrev pub marked : List (List ℕ) → ℕ → ℕ → Bool
marked words n a = holds_action (slice_index_or words n []) a

abbrev pub unmarked : List (List ℕ)
unmarked = replicate 128 (replicate {A = ℕ} 3 0)

abbrev pub Marks : List (List ℕ) → ℕ → ℕ → List (List ℕ) → Type 0
Marks before word action after = (n a : ℕ) → marked after n a ≡ (marked before n a || (a == action && fact_holds word n))

abbrev pub Needing : List ℕ → List (List ℕ) → Type 0
Needing needs words = (n a : ℕ) → n < 128 → a < 384 → marked words n a ≡ fact_holds (slice_index needs a) n
