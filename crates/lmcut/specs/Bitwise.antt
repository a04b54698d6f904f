-- The set bits of a word, and the actions of a set that words hold, lowest first.
--   Lowest       a bit is the lowest of those that are set
--   Without      a word that lacks one bit of another
--   BitStep      one step: nothing where no bit is set, nor is one then, else the lowest, and the word without it is left
--   holds_action an action is in the set of some words: bit a % 128 of the word at a / 128 stands for action a
--   First        an action is the first of a set
--   Others       a set that lacks one action of another
--   ActionStep   one step: nothing where the set is empty, else the first action, and the others are left
use Rattle.std.specs.Prelude.{◌≡◌, ℕ, ◌/◌, ◌%◌, ◌<◌, Bool, true, false, not, ◌&&◌, List, Option, MatchOption, ◌==◌, slice_index}
use Rattle.task.specs.States.{fact_holds}

pub record Lowest (w n : ℕ) : Type 0 where
  pub inside : n < 128
  pub set : fact_holds w n ≡ true
  pub below : (m : ℕ) → m < n → fact_holds w m ≡ false

abbrev pub Without : ℕ → ℕ → ℕ → Type 0
Without w n v = (m : ℕ) → fact_holds v m ≡ (fact_holds w m && not (m == n))

unfoldable pub BitStep : ℕ → Option ℕ → ℕ → Type 0
BitStep w r v = MatchOption r ((w ≡ 0) × (v ≡ 0)) (λ n. Lowest w n × Without w n v)

abbrev pub holds_action : List ℕ → ℕ → Bool
holds_action ws a = fact_holds (slice_index ws (a / 128)) (a % 128)

pub record First (ws : List ℕ) (n : ℕ) : Type 0 where
  pub inside : n < 384
  pub set : holds_action ws n ≡ true
  pub below : (m : ℕ) → m < n → holds_action ws m ≡ false

abbrev pub Others : List ℕ → ℕ → List ℕ → Type 0
Others ws n vs = (m : ℕ) → holds_action vs m ≡ (holds_action ws m && not (m == n))

unfoldable pub ActionStep : List ℕ → Option ℕ → List ℕ → Type 0
ActionStep ws r vs = MatchOption r ((m : ℕ) → holds_action ws m ≡ false) (λ n. First ws n × Others ws n vs)
