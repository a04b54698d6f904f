-- `AtMost` under a total order is reflexive and transitive, and what a test tells of it.
use Rattle.std.proofs.Common.{◌≡◌, Bool, true, false, not, Option, Ordering, Less, Equal, Greater, sym, refl, ap, ◌∙◌, true≢false}
use Rattle.std.specs.Cmp.{IsTotalOrder, Agrees}
use Rattle.std.specs.Ordering.{is_ge, is_le, is_lt, is_some_and, ordering_reverse, partial_ge, partial_lt}
use Rattle.order.specs.Ranks.{AtMost}

even : (r : Ordering) → r ≡ ordering_reverse r → is_le r ≡ true
even Less e = refl
even Equal e = refl
even Greater e = ap is_le e

lt_le : (r : Ordering) → is_lt r ≡ true → is_le r ≡ true
lt_le Less e = refl
lt_le Equal e = refl
lt_le Greater e = e

not_lt : (r s : Ordering) → s ≡ ordering_reverse r → is_lt s ≡ false → is_le r ≡ true
not_lt Less s e h = refl
not_lt Equal s e h = refl
not_lt Greater s e h = sym h ∙ ap is_lt e

ge_not_lt : (r : Ordering) → is_lt r ≡ not (is_ge r)
ge_not_lt Less = refl
ge_not_lt Equal = refl
ge_not_lt Greater = refl

-- what `<` and `>=` answer, where `partial_cmp` answers what `cmp` does
module _ {X : Type 0} {R : X → X → Ordering} {C : X → X → Option Ordering} (a : Agrees C R) where
  pub told_lt : (x y : X) {r b : Bool} → r ≡ partial_lt C x y → r ≡ b → is_lt (R x y) ≡ b
  told_lt x y e t = ap (is_some_and is_lt) (sym (a x y)) ∙ sym e ∙ t

  pub told_ge : (x y : X) {r b : Bool} → r ≡ partial_ge C x y → r ≡ b → is_lt (R x y) ≡ not b
  told_ge x y e t = ge_not_lt (R x y) ∙ ap not (ap (is_some_and is_ge) (sym (a x y)) ∙ sym e ∙ t)

module _ {X : Type 0} {R : X → X → Ordering} (o : IsTotalOrder R) where
  pub at_most_refl : (x : X) → AtMost o x x
  at_most_refl x = even (R x x) (o.antisymm x x)

  pub at_most_below : (x y : X) → is_lt (R x y) ≡ true → AtMost o x y
  at_most_below x y h = lt_le (R x y) h

  pub at_most_not_below : (x y : X) → is_lt (R y x) ≡ false → AtMost o x y
  at_most_not_below x y h = not_lt (R x y) (R y x) (o.antisymm y x) h

  pub at_most_tied : (x y : X) → R x y ≡ Equal → AtMost o x y
  at_most_tied x y e = ap is_le e

  pub tied_sym : (x y : X) → R x y ≡ Equal → R y x ≡ Equal
  tied_sym x y e = o.antisymm y x ∙ ap ordering_reverse e

  chain : (x y z : X) (a b : Ordering) → R x y ≡ a → R y z ≡ b → is_le a ≡ true → is_le b ≡ true → AtMost o x z
  chain x y z Less Less p q h k = ap is_le (o.trans x y z p q)
  chain x y z Less Equal p q h k =
      let back = o.congr z y x (tied_sym y z q) in
      let over = o.antisymm y x ∙ ap ordering_reverse p in
      ap is_le (o.antisymm x z ∙ ap ordering_reverse (back ∙ over))
  chain x y z Less Greater p q h k = absurd (true≢false (sym k))
  chain x y z Equal b p q h k = ap is_le (o.congr x y z p ∙ q) ∙ k
  chain x y z Greater b p q h k = absurd (true≢false (sym h))

  pub at_most_trans : (x y z : X) → AtMost o x y → AtMost o y z → AtMost o x z
  at_most_trans x y z h k = chain x y z (R x y) (R y z) refl refl h k
