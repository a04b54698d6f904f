-- The values of the start state, made index by index, and the test of a record, value by value.
use Rattle.std.proofs.Common.{◌≡◌, ℕ, zero, suc, ◌+◌, ◌-◌, ◌<◌, ◌≤◌, ltb, ◌&&◌, List, [], ◌∷◌, ◌++◌, map, length, get_or, replicate, ℤ, pos, sym, refl, ap, ◌∙◌, subst, ap₂, ⊎_elim, arith}
use Rattle.std.proofs.lemmas.Bool.{lt-ltb, le-ltb, cond-true, cond-false, cases_lt}
use Rattle.std.proofs.lemmas.List.{get_or-map, get_or_append_left, get_or-append_right, get_or-replicate, length-map, length-append, length-replicate, same_lists}
use Rattle.std.specs.Array.{IsFromFnResultFrom}
use Rattle.std.specs.Fn.{Called}
use Rattle.std.specs.List.{list_all, enumerate_from}
use denote.Param.Members.{Mut}
use Rattle.task.specs.States.{no_quantity, start_value, value_fits, values_fit}
use Rattle.tables.specs.declared.Quantity.{Quantity}

-- what is made at an index, where each call gives h of the index and leaves the closure as it was
module _ {F B : Type 0} (g : Mut F (ℕ × Unit {0}) B) (h : ℕ → B) (f : F) (k : (i : ℕ) (y : B) (q : F) → Called g f (i, tt) y q → (q ≡ f) × (y ≡ h i)) where
  pub made_at : (ys : List B) (i n : ℕ) (p : F) → p ≡ f → IsFromFnResultFrom g p ys i n → (j : ℕ) (d : B) → i ≤ j → j < i + n → get_or ys j d ≡ h j
  made_at ys i zero p e m j d l u = absurd (omega arith)
  made_at ys i (suc n) p e m j d l u =
      let c = k i m.1 m.0 (subst (λ w. Called g w (i, tt) m.1 m.0) e m.3) in
      ⊎_elim
      (λ less. made_at ys (i + 1) n m.0 c.0 m.4 j d (omega arith) (omega arith))
      (λ le. let same : i ≡ j = omega arith in ap (λ x. get_or ys x d) (sym same) ∙ m.2.1 d ∙ c.1 ∙ ap h same)
      (cases_lt i j)

-- the start state has that value at each index
pub start_value_is : (qs : List Quantity) (i : ℕ) (d : ℤ) → i < 16 → get_or (map (λ q. q.start) qs ++ replicate (16 - length qs) (pos 0)) i d ≡ start_value qs i
start_value_is qs i d h = ⊎_elim first rest (cases_lt i (length qs))
  where
    first : i < length qs → get_or (map (λ q. q.start) qs ++ replicate (16 - length qs) (pos 0)) i d ≡ start_value qs i
    first l =
        get_or_append_left (map (λ q. q.start) qs) _ d i (omega (arith, length-map qs (λ q. q.start), l)) ∙ get_or-map (λ q. q.start) qs i no_quantity d l
        ∙ sym (cond-true (ltb i (length qs)) _ _ (lt-ltb _ _ l))

    rest : length qs ≤ i → get_or (map (λ q. q.start) qs ++ replicate (16 - length qs) (pos 0)) i d ≡ start_value qs i
    rest l =
        get_or-append_right (map (λ q. q.start) qs) _ (length qs) i d (length-map qs (λ q. q.start)) l ∙ get_or-replicate (16 - length qs) (i - length qs) (pos 0) d (omega arith)
        ∙ sym (cond-false (ltb i (length qs)) _ _ (le-ltb _ _ l))

pub start_length : (qs : List Quantity) → length qs ≤ 16 → length (map (λ q. q.start) qs ++ replicate (16 - length qs) (pos 0)) ≡ 16
start_length qs few = length-append _ _ ∙ ap₂ ◌+◌ (length-map qs (λ q. q.start)) (length-replicate (16 - length qs) (pos 0)) ∙ omega arith

pub starts : (qs : List Quantity) (ys : List ℤ) → length qs ≤ 16 → length ys ≡ 16 → ((j : ℕ) (d : ℤ) → j < 16 → get_or ys j d ≡ start_value qs j) → ys ≡ map (λ q. q.start) qs ++ replicate (16 - length qs) (pos 0)
starts qs ys few len at = same_lists ys _ (len ∙ sym (start_length qs few)) (λ j d h. let l : j < 16 = omega (arith, len, h) in at j d l ∙ sym (start_value_is qs j d l))

-- the test of each value with its index
pub fit_all : (qs : List Quantity) (i : ℕ) (vs : List ℤ) → list_all (λ p. value_fits qs p.0 p.1) (enumerate_from i vs) ≡ values_fit qs i vs
unfolding values_fit
fit_all qs i [] = refl
fit_all qs i (v ∷ vs) = ap (λ b. value_fits qs i v && b) (fit_all qs (i + 1) vs)
