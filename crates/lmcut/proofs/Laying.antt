-- A list written over the front of a buffer, one element after another.
use Rattle.std.proofs.Common.{◌≡◌, ◌≤◌, List, [], ◌∷◌, ◌++◌, length, drop, set, refl, ap}
use Rattle.std.proofs.lemmas.List.{take_all}
use Rattle.lmcut.specs.Totalled.{laid}

module _ {X : Type 0} where
  pub laid_none : (buffer : List X) → laid [] buffer ≡ buffer
  laid_none [] = refl
  laid_none (b ∷ bs) = refl

  -- one element more stands after the others, or nowhere if the buffer ends there
  pub laid_push : (xs : List X) (x : X) (buffer : List X) → laid (xs ++ x ∷ []) buffer ≡ set (laid xs buffer) (length xs) x
  laid_push [] x [] = refl
  laid_push [] x (b ∷ bs) = ap (λ l. x ∷ l) (laid_none bs)
  laid_push (y ∷ xs) x [] = refl
  laid_push (y ∷ xs) x (b ∷ bs) = ap (λ l. y ∷ l) (laid_push xs x bs)

  -- with room for the whole list, what follows it is as it was
  pub laid_whole : (xs buffer : List X) → length xs ≤ length buffer → laid xs buffer ≡ xs ++ drop (length xs) buffer
  laid_whole xs buffer h = ap (λ l. l ++ drop (length xs) buffer) (take_all (length buffer) xs h)
