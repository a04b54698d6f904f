-- What the entries' own order says. R is `T.cmp`, and o any total order that R allows.
--     AtMost o x y      x is below y or tied with it
--     Least o x xs      x is at most each of xs
use Rattle.std.specs.Prelude.{◌≡◌, true, List}
use Rattle.std.specs.declared.cmp.Ordering.{Ordering}
use Rattle.std.specs.Cmp.{IsTotalOrder}
use Rattle.std.specs.Ordering.{is_le}
use Rattle.std.specs.List.{All}

module _ {X : Type 0} {R : X → X → Ordering} (o : IsTotalOrder R) where
  abbrev pub AtMost : X → X → Type 0
  AtMost x y = is_le (R x y) ≡ true

  abbrev pub Least : X → List X → Type 0
  Least x xs = All (AtMost x) xs
