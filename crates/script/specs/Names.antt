-- The names of estimators in a line.
--   basic_name    the name of an estimator that is made of no others
--   name_of       the name of an estimator that a line may name
--   NamedBy       a word is read as what it names, and is refused exactly where it names nothing
--   is_lmcut      an estimator that is made of no others is LM-cut
--   needs_lmcut   the answer of an estimator rests on LM-cut
use Rattle.std.specs.Prelude.{◌≡◌, ◌≢◌, ℕ, Bool, true, false, ◌||◌, List, ◌++◌, Ok, Err, Result, codes}
use Rattle.script.specs.declared.estimators.Basic.{Basic}
use Rattle.script.specs.declared.estimators.Basic.TheVariants.{Zero, Floor, LmCut}
use Rattle.script.specs.declared.estimators.Asked.{Asked}
use Rattle.script.specs.declared.estimators.Asked.TheVariants.{One, Larger}
use Rattle.script.specs.declared.words.LineFault.{LineFault}
use Rattle.script.specs.declared.words.LineFault.TheVariants.{Malformed}

abbrev pub basic_name : Basic → List ℕ
basic_name Zero = codes "zero"
basic_name Floor = codes "floor"
basic_name LmCut = codes "lmcut"

abbrev pub name_of : Asked → List ℕ
name_of (One b) = basic_name b
name_of (Larger a b) = codes "larger(" ++ ((basic_name a ++ (codes "," ++ basic_name b)) ++ codes ")")

abbrev pub NamedBy : {X : Type 0} → (X → List ℕ) → List ℕ → Result X LineFault → Type 0
NamedBy name s (Ok x) = s ≡ name x
NamedBy {X = X} name s (Err fault) = (fault ≡ Malformed) × ((x : X) → s ≢ name x)

abbrev pub is_lmcut : Basic → Bool
is_lmcut Zero = false
is_lmcut Floor = false
is_lmcut LmCut = true

abbrev pub needs_lmcut : Asked → Bool
needs_lmcut (One b) = is_lmcut b
needs_lmcut (Larger a b) = is_lmcut a || is_lmcut b
