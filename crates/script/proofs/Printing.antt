-- The line of landmark records, one record at a time.
--   joined_more     the texts of elements, one element on
use Rattle.std.proofs.Common.{◌≡◌, ℕ, ◌+◌, ◌<◌, List, [], ◌∷◌, ◌++◌, map, length, get_or, take, sym, ap, ◌∙◌}
use Rattle.std.proofs.lemmas.List.{append-nil, map_more}
use Rattle.std.proofs.lemmas.List.Folds.{concat-append}
use Rattle.std.specs.List.{concat}

pub joined_more : {X : Type 0} (f : X → List ℕ) (xs : List X) (i : ℕ) (d : X) → i < length xs
    → concat (map f (take i xs)) ++ f (get_or xs i d) ≡ concat (map f (take (i + 1) xs))
joined_more f xs i d lt =
    ap (λ (l : List ℕ). concat (map f (take i xs)) ++ l) (sym (append-nil (f (get_or xs i d))))
    ∙ sym (concat-append (map f (take i xs)) (f (get_or xs i d) ∷ []))
    ∙ ap concat (sym (map_more f xs i d lt))
