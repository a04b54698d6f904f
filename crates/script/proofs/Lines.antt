-- Lines that are read, word by word.
--   fills           a line that has a record for a table
--   integers_append, integers_set   the numbers that are read, one number on
--   moves_more      the moves that are read, one move on
use Rattle.std.proofs.Common.{◌≡◌, ℕ, ◌+◌, ◌<◌, List, [], ◌∷◌, ◌++◌, take, length, ℤ, set, sym, refl, ap, ◌∙◌, subst}
use Rattle.std.specs.Int.{w32}
use Rattle.std.proofs.lemmas.List.{append_assoc, take_more_set}
use Rattle.script.specs.Lines.{Natural, Integer, Integers, Moves, record_word, Written}
use Rattle.script.specs.Unread.{Next}
use Rattle.script.specs.declared.records.Record.{Record}

pub fills : (s u word left w : List ℕ) (r : Record) → u ≡ s → Next u word left → word ≡ w → (record_word r ≡ w) × Written left r
    → (t : List ℕ) × Next s (record_word r) t × Written t r
fills s u word left w r same next is named =
    (left, subst (λ v. Next v (record_word r) left) same (subst (λ v. Next u v left) (is ∙ sym named.0) next), named.1)

pub integers_append : (s t u : List ℕ) (xs : List ℤ) (x : ℤ) → Integers s xs t → Integer w32 t x u → Integers s (xs ++ x ∷ []) u
integers_append s t u [] x none one = (u, subst (λ v. Integer w32 v x u) (sym none) one, refl)
integers_append s t u (y ∷ ys) x more one = (more.0, more.1, integers_append more.0 t u ys x more.2 one)

pub integers_set : (s t u : List ℕ) (xs : List ℤ) (i : ℕ) (x y : ℤ) → Integers s (take i xs) t → Integer w32 t x u → i < length xs → y ≡ x
    → Integers s (take (i + 1) (set xs i y)) u
integers_set s t u xs i x y more one lt is =
    subst (λ zs. Integers s zs u) (sym (take_more_set xs i y lt ∙ ap (λ z. take i xs ++ z ∷ []) is)) (integers_append s t u (take i xs) x more one)

pub moves_more : (s t u : List ℕ) (xs ys : List ℕ) (m : ℕ) → ((ms : List ℕ) → Moves t ms → Moves s (xs ++ ms)) → Natural 32 t m u → ys ≡ xs ++ m ∷ []
    → (ms : List ℕ) → Moves u ms → Moves s (ys ++ ms)
moves_more s t u xs ys m inv one push ms rest =
    subst (Moves s) (sym (ap (λ l. l ++ ms) push ∙ append_assoc xs (m ∷ []) ms)) (inv (m ∷ ms) (u, one, rest))
