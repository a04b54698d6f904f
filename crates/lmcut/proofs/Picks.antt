-- The chosen need, node by node: to keep the first of the largest values gives the need that is chosen from the list's end.
use Rattle.std.proofs.Common.{◌≡◌, ℕ, zero, suc, ◌+◌, ◌-◌, ◌<◌, ◌≤◌, Bool, true, false, cond, not, ◌&&◌, ◌||◌, ltb, List, ◌∷◌, length, get_or, take, Some, None, Option, sym, refl, ap, ◌∙◌, ap₂, inl, inr, ⊎_elim, arith}
use Rattle.std.proofs.lemmas.List.{get_or-map, get_or-take, length-take-le}
use Rattle.std.proofs.lemmas.Bool.{cases_lt, cond-true, cond-false}
use Rattle.std.proofs.lemmas.Bool.Decides.{nat_tests}
use Rattle.task.specs.States.{fact_holds}
use Rattle.lmcut.specs.Bitwise.{BitStep}
use Rattle.lmcut.specs.Drawn.{read_value, values_of}
use Rattle.landmarks.specs.Laws.{In}
use Rattle.lmcut.specs.Preferred.{below, first_largest}
use Rattle.lmcut.specs.Questions.{bits_from}
use Rattle.landmarks.specs.Rounds.{Value, above, value_at, beats, picked, chosen}
use Rattle.lmcut.proofs.Bitwise.{Coming, Came, coming_start, coming_step, coming_end, upwards}

-- ---- the order of nodes by value

abbrev beat : Value → ℕ → Value → ℕ → Bool
beat x n y m = above x y || (not (above y x) && ltb n m)

beat_trans : (x y z : Value) (b n m : ℕ) → beat x b y n ≡ true → beat y n z m ≡ true → beat x b z m ≡ true
beat_trans None None None b n m e f = grind (arith, nat_tests)
beat_trans None None (Some z) b n m e f = grind (arith, nat_tests)
beat_trans None (Some y) None b n m e f = grind (arith, nat_tests)
beat_trans None (Some y) (Some z) b n m e f = grind (arith, nat_tests)
beat_trans (Some x) None None b n m e f = grind (arith, nat_tests)
beat_trans (Some x) None (Some z) b n m e f = grind (arith, nat_tests)
beat_trans (Some x) (Some y) None b n m e f = grind (arith, nat_tests)
beat_trans (Some x) (Some y) (Some z) b n m e f = grind (arith, nat_tests)

unbeaten : (x y z : Value) (b n m : ℕ) → beat x b y n ≡ false → beat y n z m ≡ false → beat x b z m ≡ false
unbeaten None None None b n m e f = grind (arith, nat_tests)
unbeaten None None (Some z) b n m e f = grind (arith, nat_tests)
unbeaten None (Some y) None b n m e f = grind (arith, nat_tests)
unbeaten None (Some y) (Some z) b n m e f = grind (arith, nat_tests)
unbeaten (Some x) None None b n m e f = grind (arith, nat_tests)
unbeaten (Some x) None (Some z) b n m e f = grind (arith, nat_tests)
unbeaten (Some x) (Some y) None b n m e f = grind (arith, nat_tests)
unbeaten (Some x) (Some y) (Some z) b n m e f = grind (arith, nat_tests)

-- an earlier node is beaten only by a larger value
earlier : (x y : Value) (b n : ℕ) → b < n → beat x b y n ≡ not (above y x)
earlier None None b n h = grind (arith, nat_tests)
earlier None (Some y) b n h = grind (arith, nat_tests)
earlier (Some x) None b n h = grind (arith, nat_tests)
earlier (Some x) (Some y) b n h = grind (arith, nat_tests)

module _ (vs : List Value) where
  picked_assoc : (b n : ℕ) (o : Option ℕ) → picked vs b (picked vs n o) ≡ picked vs (cond (beats vs b n) b n) o
  picked_assoc b n None = refl
  picked_assoc b n (Some m) = ap Some (go (beats vs b n) (beats vs n m) refl refl)
    where
      go : (x y : Bool) → beats vs b n ≡ x → beats vs n m ≡ y → cond (beats vs b (cond y n m)) b (cond y n m) ≡ cond (beats vs (cond x b n) m) (cond x b n) m
      go true true e f = cond-true _ b n e ∙ sym (cond-true _ b m (beat_trans (value_at vs b) (value_at vs n) (value_at vs m) b n m e f))
      go true false e f = refl
      go false true e f = cond-false _ b n e ∙ sym (cond-true _ n m f)
      go false false e f = cond-false _ b m (unbeaten (value_at vs b) (value_at vs n) (value_at vs m) b n m e f) ∙ sym (cond-false _ n m f)

  -- the need so far, and that of the nodes to come
  abbrev pub with_rest : Option ℕ → Option ℕ → Option ℕ
  with_rest None o = o
  with_rest (Some b) o = picked vs b o

pub record Picking (q-nodes : ℕ) (xs : List ℕ) (w : ℕ) (i : ℕ) (best : Option ℕ) : Type 0 where
  pub before : below best i
  pub rest : with_rest (values_of q-nodes xs) best (chosen (values_of q-nodes xs) (bits_from w i (q-nodes - 1 - i))) ≡ chosen (values_of q-nodes xs) (bits_from w 0 (q-nodes - 1))

pub picking_end : (N : ℕ) (xs : List ℕ) (w : ℕ) (best : Option ℕ) (i : ℕ) → N - 1 ≤ i → Picking N xs w i best → best ≡ chosen (values_of N xs) (bits_from w 0 (N - 1))
unfolding bits_from chosen
picking_end N xs w best i h p =
    let z : N - 1 - i ≡ 0 = omega arith in
    none best ∙ ap (λ k. with_rest (values_of N xs) best (chosen (values_of N xs) (bits_from w i k))) (sym z) ∙ p.rest
  where
    none : (o : Option ℕ) → o ≡ with_rest (values_of N xs) o None
    none None = refl
    none (Some b) = refl

value_there : (N : ℕ) (xs : List ℕ) (i : ℕ) → i < N → N ≤ length xs → value_at (values_of N xs) i ≡ read_value (get_or xs i 0)
value_there N xs i h k = get_or-map read_value (take N xs) i 0 None (let l = length-take-le N xs k in omega arith) ∙ ap read_value (get_or-take N xs i 0 h)

below_first : (xs : List ℕ) (o : Option ℕ) (n : ℕ) → below o n → below (first_largest xs o n) (n + 1)
below_first xs None n h = omega arith
below_first xs (Some b) n h = go (above (read_value (get_or xs n 0)) (read_value (get_or xs b 0)))
  where
    go : (t : Bool) → cond t n b < n + 1
    go true = omega arith
    go false = omega arith

below_more : (o : Option ℕ) (n : ℕ) → below o n → below o (n + 1)
below_more None n h = tt
below_more (Some b) n h = omega arith

bits_step : (w i k : ℕ) → bits_from w i (suc k) ≡ cond (fact_holds w i) (i ∷ bits_from w (i + 1) k) (bits_from w (i + 1) k)
unfolding bits_from
bits_step w i k = refl

chosen_more : (vs : List Value) (n : ℕ) (ns : List ℕ) → chosen vs (n ∷ ns) ≡ picked vs n (chosen vs ns)
unfolding chosen
chosen_more vs n ns = refl

module _ (N : ℕ) (xs : List ℕ) (w i : ℕ) (best : Option ℕ) (long : N ≤ length xs) (inside : i < N - 1) (p : Picking N xs w i best) where
  abbrev vs : List Value
  vs = values_of N xs

  abbrev left : ℕ
  left = N - 1 - (i + 1)

  bits_here : bits_from w i (N - 1 - i) ≡ cond (fact_holds w i) (i ∷ bits_from w (i + 1) left) (bits_from w (i + 1) left)
  bits_here = let e : N - 1 - i ≡ suc left = omega arith in ap (bits_from w i) e ∙ bits_step w i left

  pub picking_not : fact_holds w i ≡ false → Picking N xs w (i + 1) best
  picking_not e = record { before = below_more best i p.before; rest = ap (λ ns. with_rest vs best (chosen vs ns)) (sym (bits_here ∙ cond-false _ _ _ e)) ∙ p.rest }

  folded_in : (o : Option ℕ) → below o i → (r : Option ℕ) → with_rest vs o (picked vs i r) ≡ with_rest vs (first_largest xs o i) r
  folded_in None h r = refl
  folded_in (Some b) h r = picked_assoc vs b i r ∙ ap (λ k. picked vs k r) same
    where
      turned : (t : Bool) → cond (not t) b i ≡ cond t i b
      turned true = refl
      turned false = refl

      same : cond (beats vs b i) b i ≡ cond (above (read_value (get_or xs i 0)) (read_value (get_or xs b 0))) i b
      same =
          ap (λ t. cond t b i) (earlier (value_at vs b) (value_at vs i) b i h)
          ∙ turned (above (value_at vs i) (value_at vs b))
          ∙ ap (λ t. cond t i b) (ap₂ above (value_there N xs i (omega arith) long) (value_there N xs b (omega arith) long))

  pub picking_so : fact_holds w i ≡ true → Picking N xs w (i + 1) (first_largest xs best i)
  picking_so e = record {
    before = below_first xs best i p.before;
    rest = sym (folded_in best p.before (chosen vs (bits_from w (i + 1) left))) ∙ ap (with_rest vs best) (sym (chosen_more vs i (bits_from w (i + 1) left)))
        ∙ ap (λ ns. with_rest vs best (chosen vs ns)) (sym (bits_here ∙ cond-true _ _ _ e)) ∙ p.rest;
  }

-- ---- bit by bit

pub record Taking (N : ℕ) (xs : List ℕ) (whole : ℕ) (best : Option ℕ) (w : ℕ) : Type 0 where
  pub at : ℕ
  pub coming : Coming whole at w
  pub picking : Picking N xs whole at best

picking_skip : (N : ℕ) (xs : List ℕ) (whole k n : ℕ) (best : Option ℕ) → N ≤ length xs → k ≤ n → n ≤ N - 1 → ((m : ℕ) → k ≤ m → m < n → fact_holds whole m ≡ false) → Picking N xs whole k best → Picking N xs whole n best
picking_skip N xs whole k n best long h l none p = upwards (λ m. Picking N xs whole m best) k n h (λ m x y t. picking_not N xs whole m best long (omega arith) t (none m x y)) p

pub taking_start : (N : ℕ) (xs : List ℕ) (whole w : ℕ) → w ≡ whole → Taking N xs whole None w
taking_start N xs whole w e = let z : N - 1 - 0 ≡ N - 1 = omega arith in
    record { at = 0; coming = coming_start whole w e; picking = record { before = tt; rest = ap (λ k. chosen (values_of N xs) (bits_from whole 0 k)) z } }

module _ (N : ℕ) (xs : List ℕ) (whole : ℕ) (best : Option ℕ) (w : ℕ) (long : N ≤ length xs) (inside : (n : ℕ) → fact_holds whole n ≡ true → n + 1 < N) (t : Taking N xs whole best w) where
  abbrev came : (n v : ℕ) → BitStep w (Some n) v → Came whole t.at n v
  came n v s = coming_step whole t.at w n v t.coming s

  pub taking_inside : (n v : ℕ) → BitStep w (Some n) v → n + 1 < N
  taking_inside n v s = inside n (came n v s).set

  there : (n v : ℕ) → BitStep w (Some n) v → Picking N xs whole n best
  there n v s = let l = taking_inside n v s in picking_skip N xs whole t.at n best long (came n v s).from (omega arith) (came n v s).none t.picking

  pub taking_below : (n v : ℕ) → BitStep w (Some n) v → below best n
  taking_below n v s = (there n v s).before

  pub taking_step : (n v : ℕ) → BitStep w (Some n) v → Taking N xs whole (first_largest xs best n) v
  taking_step n v s = let l = taking_inside n v s in
      record { at = n + 1; coming = (came n v s).rest; picking = picking_so N xs whole n best long (omega arith) (there n v s) (came n v s).set }

  pub taking_end : (v : ℕ) → BitStep w None v → best ≡ chosen (values_of N xs) (bits_from whole 0 (N - 1))
  taking_end v s = ⊎_elim
      (λ h. picking_end N xs whole best (N - 1) (omega arith) (picking_skip N xs whole t.at (N - 1) best long (omega arith) (omega arith) (λ m x y. coming_end whole t.at w v t.coming s m x) t.picking))
      (λ h. picking_end N xs whole best t.at h t.picking)
      (cases_lt t.at (N - 1))

-- ---- chosen needs are nodes

bits_inside : (w n k i : ℕ) → In i (bits_from w n k) → i < n + k
unfolding bits_from
bits_inside w n zero i h = absurd h
bits_inside w n (suc k) i h = go (fact_holds w n) h (λ j. bits_inside w (n + 1) k i j)
  where
    go : (b : Bool) → In i (cond b (n ∷ bits_from w (n + 1) k) (bits_from w (n + 1) k)) → (In i (bits_from w (n + 1) k) → i < n + 1 + k) → i < n + suc k
    go true (inl e) ih = omega arith
    go true (inr j) ih = let l = ih j in omega arith
    go false j ih = let l = ih j in omega arith

pub chosen_inside : (vs : List Value) (w k i : ℕ) → chosen vs (bits_from w 0 k) ≡ Some i → i < k
chosen_inside vs w k i e = let l = bits_inside w 0 k i (Rattle.landmarks.proofs.Cuts.chosen_in vs (bits_from w 0 k) i e) in omega arith
