-- The order of values, and membership in lists.
use Rattle.std.proofs.Common.{◌≡◌, ℕ, zero, suc, ◌+◌, ◌<◌, ◌≤◌, min, max, true, false, ◌⊎◌, List, [], ◌∷◌, map, length, get_or, replicate, Some, None, refl, ap, subst, inl, inr, ⊎_elim, arith}
use Rattle.std.proofs.lemmas.Option.{same_Some, none-some}
use Rattle.std.specs.List.{AllByRecursion}
use Rattle.std.proofs.lemmas.Bool.{cases_lt}
use Rattle.std.proofs.lemmas.List.{get_or_past, get_or-replicate, length-replicate}
use Rattle.landmarks.specs.Rounds.{Value, smaller, larger, plus, above}
use Rattle.landmarks.specs.Laws.{In, ◌≼◌, ◌≺◌}

-- ---- membership

pub all_in : {X : Type 0} (P : X → Type 0) (xs : List X) (x : X) → AllByRecursion P xs → In x xs → P x
all_in P [] x h i = absurd i
all_in P (y ∷ ys) x h i = ⊎_elim (λ e. subst P e h.0) (λ j. all_in P ys x h.1 j) i

pub in_all : {X : Type 0} (P : X → Type 0) (xs : List X) → ((x : X) → In x xs → P x) → AllByRecursion P xs
in_all P [] h = tt
in_all P (y ∷ ys) h = (h y (inl refl), in_all P ys (λ x i. h x (inr i)))

pub in_get_or : {X : Type 0} (xs : List X) (i : ℕ) (d : X) → i < length xs → In (get_or xs i d) xs
in_get_or [] i d h = absurd (omega arith)
in_get_or (x ∷ xs) zero d h = inl refl
in_get_or (x ∷ xs) (suc i) d h = inr (in_get_or xs i d (omega arith))

pub in_map : {X Y : Type 0} (f : X → Y) (xs : List X) (y : Y) → In y (map f xs) → (x : X) × In x xs × (f x ≡ y)
in_map f [] y i = absurd i
in_map f (x ∷ xs) y i = ⊎_elim (λ e. (x, inl refl, e)) (λ j. let r = in_map f xs y j in (r.0, inr r.1, r.2)) i

pub map_in : {X Y : Type 0} (f : X → Y) (xs : List X) (x : X) → In x xs → In (f x) (map f xs)
map_in f [] x i = absurd i
map_in f (y ∷ ys) x i = ⊎_elim (λ e. inl (ap f e)) (λ j. inr (map_in f ys x j)) i

-- a list of one element many times has it everywhere, where a place past the end counts as it
pub replicate_at : {X : Type 0} (n i : ℕ) (x : X) → get_or (replicate n x) i x ≡ x
replicate_at {X} n i x = ⊎_elim (λ h. get_or-replicate n i x x h) (λ h. get_or_past (replicate n x) i x (let l = length-replicate {A = X} n x in omega arith)) (cases_lt i n)

-- ---- values

pub ≼_refl : (x : Value) → x ≼ x
≼_refl None = tt
≼_refl (Some a) = omega arith

pub ≼_eq : (x y : Value) → x ≡ y → x ≼ y
≼_eq x y e = subst (λ z. x ≼ z) e (≼_refl x)

pub ≼_trans : (x y z : Value) → x ≼ y → y ≼ z → x ≼ z
≼_trans x y None h k = tt
≼_trans x None (Some c) h k = absurd k
≼_trans None (Some b) (Some c) h k = absurd h
≼_trans (Some a) (Some b) (Some c) h k = omega arith

pub ≼_antisym : (x y : Value) → x ≼ y → y ≼ x → x ≡ y
≼_antisym None None h k = refl
≼_antisym None (Some b) h k = absurd h
≼_antisym (Some a) None h k = absurd k
≼_antisym (Some a) (Some b) h k = let e : a ≡ b = omega arith in ap Some e

pub zero_≼ : (x : Value) → Some 0 ≼ x
zero_≼ None = tt
zero_≼ (Some a) = omega arith

pub cases_≼ : (x y : Value) → (x ≼ y) ⊎ (y ≺ x)
cases_≼ x None = inl tt
cases_≼ None (Some b) = inr tt
cases_≼ (Some a) (Some b) = ⊎_elim (λ h. inr h) (λ h. inl h) (cases_lt b a)

pub ≺_not : (x y : Value) → x ≺ y → y ≼ x → ⊥
≺_not None y h k = absurd h
≺_not (Some a) None h k = absurd k
≺_not (Some a) (Some b) h k = omega arith

pub ≺_some : (x y : Value) → x ≺ y → (a : ℕ) × (x ≡ Some a)
≺_some None y h = absurd h
≺_some (Some a) y h = (a, refl)

pub below_some : (x : Value) (b : ℕ) → x ≼ Some b → (a : ℕ) × (x ≡ Some a) × (a ≤ b)
below_some None b h = absurd h
below_some (Some a) b h = (a, refl, h)

-- ---- the smaller and the larger of two

pub smaller_left : (x y : Value) → smaller x y ≼ x
smaller_left None y = tt
smaller_left (Some a) None = omega arith
smaller_left (Some a) (Some b) = omega arith

pub smaller_right : (x y : Value) → smaller x y ≼ y
smaller_right None y = ≼_refl y
smaller_right (Some a) None = tt
smaller_right (Some a) (Some b) = omega arith

pub min_is : (a b : ℕ) → (min a b ≡ a) ⊎ (min a b ≡ b)
min_is a b = ⊎_elim (λ h. inl (omega arith)) (λ h. inr (omega arith)) (cases_lt a b)

pub max_is : (a b : ℕ) → (max a b ≡ a) ⊎ (max a b ≡ b)
max_is a b = ⊎_elim (λ h. inr (omega arith)) (λ h. inl (omega arith)) (cases_lt a b)

pub smaller_is : (x y : Value) → (smaller x y ≡ x) ⊎ (smaller x y ≡ y)
smaller_is None y = inr refl
smaller_is (Some a) None = inl refl
smaller_is (Some a) (Some b) = ⊎_elim (λ e. inl (ap Some e)) (λ e. inr (ap Some e)) (min_is a b)

pub larger_left : (x y : Value) → x ≼ larger x y
larger_left None y = tt
larger_left (Some a) None = tt
larger_left (Some a) (Some b) = omega arith

pub larger_right : (x y : Value) → y ≼ larger x y
larger_right None y = tt
larger_right (Some a) None = tt
larger_right (Some a) (Some b) = omega arith

pub larger_least : (x y z : Value) → x ≼ z → y ≼ z → larger x y ≼ z
larger_least x y None h k = tt
larger_least None y (Some c) h k = absurd h
larger_least (Some a) None (Some c) h k = absurd k
larger_least (Some a) (Some b) (Some c) h k = omega arith

pub plus_mono : (x y : Value) (w : ℕ) → x ≼ y → plus x w ≼ plus y w
plus_mono x None w h = tt
plus_mono None (Some b) w h = absurd h
plus_mono (Some a) (Some b) w h = omega arith

pub plus_above : (x : Value) (w : ℕ) → x ≼ plus x w
plus_above None w = tt
plus_above (Some a) w = omega arith

pub plus_zero : (x : Value) (w : ℕ) → w ≡ 0 → plus x w ≼ x
plus_zero None w e = tt
plus_zero (Some a) w e = omega arith

pub plus_some : (x : Value) (w b : ℕ) → plus x w ≡ Some b → (a : ℕ) × (x ≡ Some a) × (a + w ≡ b)
plus_some None w b e = absurd (none-some b e)
plus_some (Some a) w b e = (a, refl, same_Some (a + w) b e)

-- ---- above

pub above_true : (x y : Value) → above x y ≡ true → y ≼ x
above_true None None e = tt
above_true None (Some b) e = tt
above_true (Some a) None e = cc
above_true (Some a) (Some b) e = grind (arith, Rattle.std.proofs.lemmas.Bool.Decides.nat_tests)

pub above_false : (x y : Value) → above x y ≡ false → x ≼ y
above_false None None e = tt
above_false None (Some b) e = cc
above_false (Some a) None e = tt
above_false (Some a) (Some b) e = grind (arith, Rattle.std.proofs.lemmas.Bool.Decides.nat_tests)
