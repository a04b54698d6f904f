-- The words of a line.
--   unread           what is left to read of a line
--   Blank            a text with nothing but white space: no word is left
--   Next             a text is white space, then a word, then what is left
--   More             a word is left
--   MalformedWhere   a refusal tells a malformed line, and has a reason
--   ReadsNext        what reading the next word by a rule tells, where s is left before and t after: the value that the rule
--                    reads in the word; or a malformed line, since there is no word or the rule refuses it
use Rattle.std.specs.Prelude.{◌≡◌, ℕ, ◌<◌, ◌⊎◌, List, ◌++◌, length, Ok, Err, Result}
use Rattle.std.specs.Str.Iter.{split_whitespace_rest}
use Rattle.std.specs.Char.{is_whitespace, is_not_whitespace}
use Rattle.std.specs.Str.{NoCharPasses, EmptyOrStartsWithPassing}
use Rattle.script.specs.declared.words.LineFault.{LineFault}
use Rattle.script.specs.declared.words.LineFault.TheVariants.{Malformed}
use Rattle.script.specs.declared.words.Words.{Words}

abbrev pub unread : Words → List ℕ
unread w = split_whitespace_rest w.rest

abbrev pub Blank : List ℕ → Type 0
Blank s = NoCharPasses is_not_whitespace s

abbrev pub Next : List ℕ → List ℕ → List ℕ → Type 0
Next s word left =
    (gap : List ℕ) × (s ≡ gap ++ (word ++ left)) × (0 < length word) × NoCharPasses is_not_whitespace gap × NoCharPasses is_whitespace word × ((more : List ℕ) × EmptyOrStartsWithPassing is_whitespace left more)

abbrev pub More : List ℕ → Type 0
More s = (word : List ℕ) × (left : List ℕ) × Next s word left

abbrev pub MalformedWhere : {X : Type 0} → Result X LineFault → Type 0 → Type 0
MalformedWhere (Ok x) reason = Unit {0}
MalformedWhere (Err fault) reason = (fault ≡ Malformed) × reason

abbrev pub ReadsNext : {X E : Type 0} → (List ℕ → Result X E → Type 0) → List ℕ → List ℕ → Result X LineFault → Type 0
ReadsNext rule s t (Ok x) = (word : List ℕ) × Next s word t × rule word (Ok x)
ReadsNext {E = E} rule s t (Err fault) =
    (fault ≡ Malformed) × (Blank s ⊎ ((word : List ℕ) × (e : E) × Next s word t × rule word (Err e)))
