-- What a prepared question's words and lists hold: bits of words, the needs and reaches of its actions, and their loads.
use Rattle.std.proofs.Common.{◌≡◌, ℕ, zero, suc, ◌+◌, ◌/◌, ◌%◌, ◌^◌, ◌<◌, ◌≤◌, max, Bool, true, false, cond, not, ◌&&◌, ◌||◌, eqb, ◌⊎◌, List, [], ◌∷◌, map, length, get_or, take, drop, Some, None, Option, sym, refl, ap, ◌∙◌, subst, ap₂, inl, inr, ⊎_elim, div-le_self, arith}
use Rattle.std.proofs.lemmas.Option.{same_Some, none-some}
use lib.Bits.{bit_and, bit_or, bit_xor, or_disjoint}
use Rattle.std.proofs.lemmas.Nat.{pow_pos, and_shr, and_mod, shr-shr, shr_below, pow_below}
use Rattle.std.proofs.lemmas.List.{get_or-drop, drop-drop, get_or-map, get_or-take, get_or_past, length-map, length-take-le}
use Rattle.std.proofs.lemmas.Bool.{cases_lt, cases_eq, eqb-false, eq-eqb, ne_eqb, cond-true, cond-false, true≢false, false≢true}
use Rattle.task.specs.States.{fact_holds}
use Rattle.task.proofs.Words.{bit_small, holds_or, holds_without, holds_power}
use Rattle.landmarks.specs.Relaxed.{Reach, Action}
use Rattle.lmcut.specs.Questions.{edge_at, bits_from, reach_of, with_edge, reaches_from, action_at, actions_from, relaxed_of}
use Rattle.landmarks.specs.Rounds.{Value, larger, Loaded, loaded, value_at, largest}
use Rattle.landmarks.specs.Laws.{In, ◌≼◌}
use Rattle.lmcut.specs.Drawn.{read_value}
use Rattle.lmcut.specs.Valued.{infinite, needs_at, loads}
use Rattle.lmcut.specs.declared.question.Question.{Question}
use Rattle.lmcut.specs.declared.question.Edge.{Edge}
use Rattle.landmarks.proofs.Orders.{max_is, larger_left, larger_right}
use Rattle.landmarks.proofs.Sweeps.{largest_high}

-- ---- bits

and_bit : (x y : ℕ) → (x ≡ 0) ⊎ (x ≡ 1) → (y ≡ 0) ⊎ (y ≡ 1) → eqb (bit_and x y) 1 ≡ (eqb x 1 && eqb y 1)
and_bit x y (inl a) (inl b) = ap₂ (λ m n. eqb (bit_and m n) 1) a b ∙ sym (ap₂ (λ m n. eqb m 1 && eqb n 1) a b)
and_bit x y (inl a) (inr b) = ap₂ (λ m n. eqb (bit_and m n) 1) a b ∙ sym (ap₂ (λ m n. eqb m 1 && eqb n 1) a b)
and_bit x y (inr a) (inl b) = ap₂ (λ m n. eqb (bit_and m n) 1) a b ∙ sym (ap₂ (λ m n. eqb m 1 && eqb n 1) a b)
and_bit x y (inr a) (inr b) = ap₂ (λ m n. eqb (bit_and m n) 1) a b ∙ sym (ap₂ (λ m n. eqb m 1 && eqb n 1) a b)

pub holds_and : (a b k : ℕ) → fact_holds (bit_and a b) k ≡ (fact_holds a k && fact_holds b k)
holds_and a b k =
    ap (λ x. eqb (x % 2) 1) (and_shr a b k) ∙ ap (λ x. eqb x 1) (and_mod (a / 2 ^ k) (b / 2 ^ k) 1)
    ∙ and_bit (a / 2 ^ k % 2) (b / 2 ^ k % 2) (bit_small (a / 2 ^ k)) (bit_small (b / 2 ^ k))

pub no_bit : (n : ℕ) → fact_holds 0 n ≡ false
no_bit n = ne_eqb (0 / 2 ^ n % 2) 1 (λ e. let d = div-le_self 0 (2 ^ n) in omega arith)

-- words with no bit in common
pub apart_at : (x y m : ℕ) → bit_and x y ≡ 0 → fact_holds x m ≡ true → fact_holds y m ≡ false
apart_at x y m e h = sym (ap (λ b. b && fact_holds y m) h) ∙ sym (holds_and x y m) ∙ ap (λ z. fact_holds z m) e ∙ no_bit m

pub no_bits : (k z : ℕ) → z < 2 ^ k → ((m : ℕ) → fact_holds z m ≡ false) → z ≡ 0
no_bits zero z l h = omega arith
no_bits (suc k) z l h =
    let p : suc k ≡ k + 1 = omega arith in
    let lt : z / 2 < 2 ^ k = shr_below z k 1 (subst (λ e. z < 2 ^ e) p l) in
    let half = no_bits k (z / 2) lt (λ m. ap (λ x. eqb (x % 2) 1) (shr-shr z 1 m) ∙ h (1 + m)) in
    let low : z % 2 ≡ 1 → ⊥ = λ e. let one : z / 2 ^ 0 ≡ z = omega arith in eqb-false (z / 2 ^ 0 % 2) 1 (h 0) (ap (λ x. x % 2) one ∙ e) in
    ⊎_elim (λ e. omega arith) (λ e. absurd (low e)) (bit_small z)

pub below_power : (n : ℕ) → n < 2 ^ n
below_power zero = omega arith
below_power (suc n) = let h = below_power n in let p = pow_below n (suc n) (omega arith) in omega arith

pub apart : (x y : ℕ) → ((m : ℕ) → fact_holds x m ≡ true → fact_holds y m ≡ false) → bit_and x y ≡ 0
apart x y h = no_bits (bit_and x y) (bit_and x y) (below_power (bit_and x y)) (λ m. holds_and x y m ∙ go m (fact_holds x m) refl)
  where
    go : (m : ℕ) (b : Bool) → fact_holds x m ≡ b → (b && fact_holds y m) ≡ false
    go m true e = h m e
    go m false e = refl

-- a word without one bit
pub dropped_at : (w p : ℕ) → fact_holds (bit_xor w (bit_and w (2 ^ p))) p ≡ false
dropped_at w p = holds_without w (2 ^ p) p ∙ ap (λ b. fact_holds w p && not b) (holds_power p p ∙ eq-eqb p p refl) ∙ go (fact_holds w p)
  where
    go : (b : Bool) → (b && false) ≡ false
    go true = refl
    go false = refl

pub dropped_other : (w p m : ℕ) → (m ≡ p → ⊥) → fact_holds (bit_xor w (bit_and w (2 ^ p))) m ≡ fact_holds w m
dropped_other w p m ne = holds_without w (2 ^ p) m ∙ ap (λ b. fact_holds w m && not b) (holds_power p m ∙ ne_eqb p m (λ e. ne (sym e))) ∙ go (fact_holds w m)
  where
    go : (b : Bool) → (b && true) ≡ b
    go true = refl
    go false = refl

-- two words with the same bits are equal
same_bits : (k x y : ℕ) → x < 2 ^ k → y < 2 ^ k → ((m : ℕ) → fact_holds x m ≡ fact_holds y m) → x ≡ y
same_bits zero x y a b h = omega arith
same_bits (suc k) x y a b h =
    let p : suc k ≡ k + 1 = omega arith in
    let xs : x / 2 < 2 ^ k = shr_below x k 1 (subst (λ e. x < 2 ^ e) p a) in
    let ys : y / 2 < 2 ^ k = shr_below y k 1 (subst (λ e. y < 2 ^ e) p b) in
    let half = same_bits k (x / 2) (y / 2) xs ys (λ m. ap (λ z. eqb (z % 2) 1) (shr-shr x 1 m) ∙ h (1 + m) ∙ sym (ap (λ z. eqb (z % 2) 1) (shr-shr y 1 m))) in
    let one : (z : ℕ) → z / 2 ^ 0 ≡ z = λ z. omega arith in
    let low : eqb (x % 2) 1 ≡ eqb (y % 2) 1 = sym (ap (λ z. eqb (z % 2) 1) (one x)) ∙ h 0 ∙ ap (λ z. eqb (z % 2) 1) (one y) in
    ⊎_elim
    (λ e. ⊎_elim (λ i. omega arith) (λ i. absurd (false≢true (sym (ap (λ z. eqb z 1) e) ∙ low ∙ ap (λ z. eqb z 1) i))) (bit_small y))
    (λ e. ⊎_elim (λ i. absurd (true≢false (sym (ap (λ z. eqb z 1) e) ∙ low ∙ ap (λ z. eqb z 1) i))) (λ i. omega arith) (bit_small y))
    (bit_small x)

-- without a bit that it has, a word is less
pub dropped_less : (w p : ℕ) → fact_holds w p ≡ true → bit_xor w (bit_and w (2 ^ p)) < w
dropped_less w p t =
    let v = bit_xor w (bit_and w (2 ^ p)) in
    let own : (m : ℕ) → fact_holds v m ≡ true → fact_holds (2 ^ p) m ≡ false = λ m h. holds_power p m ∙ ne_eqb p m (λ e. true≢false (sym h ∙ ap (fact_holds v) (sym e) ∙ dropped_at w p)) in
    let sum = or_disjoint v (2 ^ p) (apart v (2 ^ p) own) in
    let each : (m : ℕ) → fact_holds (bit_or v (2 ^ p)) m ≡ fact_holds w m = λ m. holds_or v (2 ^ p) m ∙ ap (λ b. fact_holds v m || b) (holds_power p m) ∙ ⊎_elim
    (λ e. subst (λ k. (fact_holds v k || eqb p k) ≡ fact_holds w k) (sym e) (ap₂ (λ a b. a || b) (dropped_at w p) (eq-eqb p p refl) ∙ sym t))
    (λ ne. ap₂ (λ a b. a || b) (dropped_other w p m ne) (ne_eqb p m (λ e. ne (sym e))) ∙ or_false (fact_holds w m))
    (cases_eq m p) in
    let big = bit_or v (2 ^ p) + w in
    let x : bit_or v (2 ^ p) < 2 ^ big = let a = below_power big in omega arith in
    let y : w < 2 ^ big = let a = below_power big in omega arith in
    let all = same_bits big (bit_or v (2 ^ p)) w x y each in
    let z = pow_pos p in omega arith
  where
    or_false : (b : Bool) → (b || false) ≡ b
    or_false true = refl
    or_false false = refl

-- ---- needs

pub bits_in : (w n k m : ℕ) → In m (bits_from w n k) → (fact_holds w m ≡ true) × (m < n + k)
unfolding bits_from
bits_in w n zero m i = absurd i
bits_in w n (suc k) m i = go (λ j. let h = bits_in w (n + 1) k m j in (h.0, let l = h.1 in omega arith)) (fact_holds w n) refl i
  where
    go : (In m (bits_from w (n + 1) k) → (fact_holds w m ≡ true) × (m < n + suc k)) → (b : Bool) → fact_holds w n ≡ b → In m (cond b (n ∷ bits_from w (n + 1) k) (bits_from w (n + 1) k)) → (fact_holds w m ≡ true) × (m < n + suc k)
    go rest true e (inl s) = (ap (fact_holds w) (sym s) ∙ e, omega arith)
    go rest true e (inr j) = rest j
    go rest false e j = rest j

pub in_bits : (w n k m : ℕ) → fact_holds w m ≡ true → n ≤ m → m < n + k → In m (bits_from w n k)
unfolding bits_from
in_bits w n zero m h a b = absurd (omega arith)
in_bits w n (suc k) m h a b = go (λ ne. in_bits w (n + 1) k m h (⊎_elim (λ l. omega arith) (λ l. absurd (ne (omega arith))) (cases_lt n m)) (omega arith)) (fact_holds w n) refl
  where
    go : ((n ≡ m → ⊥) → In m (bits_from w (n + 1) k)) → (c : Bool) → fact_holds w n ≡ c → In m (cond c (n ∷ bits_from w (n + 1) k) (bits_from w (n + 1) k))
    go rest true e = ⊎_elim inl (λ ne. inr (rest ne)) (cases_eq n m)
    go rest false e = rest (λ s. true≢false (sym h ∙ ap (fact_holds w) (sym s) ∙ e))

-- ---- reaches

pub reaches_in : (q : Question) (a n k : ℕ) (x : Reach) → In x (reaches_from q a n k) → (m : ℕ) × (e : Edge) × (edge_at q a m ≡ Some e) × (m < n + k) × (reach_of m e ≡ x)
unfolding reaches_from
reaches_in q a n zero x i = absurd i
reaches_in q a n (suc k) x i = go (λ j. let h = reaches_in q a (n + 1) k x j in (h.0, h.1, h.2, (let l = h.3 in omega arith), h.4)) (edge_at q a n) refl i
  where
    go : (In x (reaches_from q a (n + 1) k) → (m : ℕ) × (e : Edge) × (edge_at q a m ≡ Some e) × (m < n + suc k) × (reach_of m e ≡ x)) → (o : Option Edge) → edge_at q a n ≡ o → In x (with_edge n o (reaches_from q a (n + 1) k)) → (m : ℕ) × (e : Edge) × (edge_at q a m ≡ Some e) × (m < n + suc k) × (reach_of m e ≡ x)
    go rest None e j = rest j
    go rest (Some f) e (inl s) = (n, f, e, omega arith, s)
    go rest (Some f) e (inr j) = rest j

pub in_reaches : (q : Question) (a n k m : ℕ) (e : Edge) → edge_at q a m ≡ Some e → n ≤ m → m < n + k → In (reach_of m e) (reaches_from q a n k)
unfolding reaches_from
in_reaches q a n zero m e i l h = absurd (omega arith)
in_reaches q a n (suc k) m e i l h = ⊎_elim
    (λ s. subst (λ o. In (reach_of m e) (with_edge n o (reaches_from q a (n + 1) k))) (sym (ap (edge_at q a) s ∙ i)) (inl (ap (λ j. reach_of j e) s)))
    (λ ne. later (edge_at q a n) (in_reaches q a (n + 1) k m e i (⊎_elim (λ x. omega arith) (λ x. absurd (ne (omega arith))) (cases_lt n m)) (omega arith)))
    (cases_eq n m)
  where
    later : (o : Option Edge) → In (reach_of m e) (reaches_from q a (n + 1) k) → In (reach_of m e) (with_edge n o (reaches_from q a (n + 1) k))
    later None j = j
    later (Some f) j = inr j

-- ---- loads

abbrev pub load_at : Question → List ℕ → ℕ → Loaded
load_at q rs a = record { left = get_or rs a 0; needs = needs_at q a; reaches = reaches_from q a 0 q.nodes }

loaded_cons : (x : Action) (xs : List Action) (rs : List ℕ) → loaded (x ∷ xs) rs ≡ record { left = get_or rs 0 0; needs = x.needs; reaches = x.reaches } ∷ loaded xs (drop 1 rs)
unfolding loaded
loaded_cons x xs [] = refl
loaded_cons x xs (r ∷ rs) = refl

loads_step : (q : Question) (rs : List ℕ) (a k : ℕ) → loaded (actions_from q a (suc k)) (drop a rs) ≡ load_at q rs a ∷ loaded (actions_from q (a + 1) k) (drop (a + 1) rs)
unfolding actions_from
loads_step q rs a k =
    let first : get_or (drop a rs) 0 0 ≡ get_or rs a 0 = get_or-drop a rs 0 0 ∙ ap (λ n. get_or rs n 0) (let z : a + 0 ≡ a = omega arith in z) in
    let make : ℕ → Loaded = λ r. record { left = r; needs = needs_at q a; reaches = reaches_from q a 0 q.nodes } in
    loaded_cons (action_at q a) (actions_from q (a + 1) k) (drop a rs) ∙ ap₂ (λ r ys. make r ∷ loaded (actions_from q (a + 1) k) ys) first (drop-drop 1 a rs)

pub loads_in_from : (q : Question) (rs : List ℕ) (a k : ℕ) (l : Loaded) → In l (loaded (actions_from q a k) (drop a rs)) → (b : ℕ) × (b < a + k) × (load_at q rs b ≡ l)
unfolding actions_from loaded
loads_in_from q rs a zero l i = absurd i
loads_in_from q rs a (suc k) l i = go (λ j. let h = loads_in_from q rs (a + 1) k l j in (h.0, (let x = h.1 in omega arith), h.2)) (subst (In l) (loads_step q rs a k) i)
  where
    go : (In l (loaded (actions_from q (a + 1) k) (drop (a + 1) rs)) → (b : ℕ) × (b < a + suc k) × (load_at q rs b ≡ l)) → In l (load_at q rs a ∷ loaded (actions_from q (a + 1) k) (drop (a + 1) rs)) → (b : ℕ) × (b < a + suc k) × (load_at q rs b ≡ l)
    go rest (inl s) = (a, omega arith, s)
    go rest (inr j) = rest j

in_loads_from : (q : Question) (rs : List ℕ) (a k b : ℕ) → a ≤ b → b < a + k → In (load_at q rs b) (loaded (actions_from q a k) (drop a rs))
in_loads_from q rs a zero b l h = absurd (omega arith)
in_loads_from q rs a (suc k) b l h = subst (In (load_at q rs b)) (sym (loads_step q rs a k)) (⊎_elim
    (λ s. inl (ap (load_at q rs) s))
    (λ ne. inr (in_loads_from q rs (a + 1) k b (⊎_elim (λ x. omega arith) (λ x. absurd (ne (omega arith))) (cases_lt a b)) (omega arith)))
    (cases_eq a b))

pub loads_in : (q : Question) (rs : List ℕ) (l : Loaded) → In l (loads q rs) → (b : ℕ) × (b < q.actions) × (load_at q rs b ≡ l)
unfolding relaxed_of
loads_in q rs l i = let h = loads_in_from q rs 0 q.actions l i in (h.0, (let x = h.1 in omega arith), h.2)

pub in_loads : (q : Question) (rs : List ℕ) (b : ℕ) → b < q.actions → In (load_at q rs b) (loads q rs)
unfolding relaxed_of
in_loads q rs b h = in_loads_from q rs 0 q.actions b (omega arith) (omega arith)

-- ---- words as values

pub told_some : (x : ℕ) → (x ≡ infinite → ⊥) → read_value x ≡ Some x
told_some x ne = cond-false (eqb x infinite) None (Some x) (ne_eqb x infinite ne)

pub told_none : (x : ℕ) → x ≡ infinite → read_value x ≡ None
told_none x e = cond-true (eqb x infinite) None (Some x) (eq-eqb x infinite e)

pub told_back : (x v : ℕ) → read_value x ≡ Some v → (x ≡ v) × (x ≡ infinite → ⊥)
told_back x v e = let ne : x ≡ infinite → ⊥ = λ i. none-some v (sym (told_none x i) ∙ e) in (same_Some x v (sym (told_some x ne) ∙ e), ne)

abbrev pub tells_all : Question → List ℕ → List Value
tells_all q xs = map read_value (take q.nodes xs)

module _ (q : Question) (xs : List ℕ) (long : length xs ≡ 129) (few : q.nodes ≤ 129) where
  cut_long : length (take q.nodes xs) ≡ q.nodes
  cut_long = length-take-le q.nodes xs (omega arith)

  pub tells_long : length (tells_all q xs) ≡ q.nodes
  tells_long = length-map (take q.nodes xs) read_value ∙ cut_long

  pub tells_at : (n : ℕ) → n < q.nodes → value_at (tells_all q xs) n ≡ read_value (get_or xs n 0)
  tells_at n h = let c = cut_long in get_or-map read_value (take q.nodes xs) n 0 None (omega arith) ∙ ap read_value (get_or-take q.nodes xs n 0 h)

  pub tells_past : (n : ℕ) → q.nodes ≤ n → value_at (tells_all q xs) n ≡ None
  tells_past n h = let c = tells_long in get_or_past (tells_all q xs) n None (omega arith)

-- ---- the highest of a list of nodes

unfoldable pub peak : List ℕ → List ℕ → ℕ
peak xs [] = 0
peak xs (m ∷ ms) = max (get_or xs m 0) (peak xs ms)

pub peak_same : (xs ys ms : List ℕ) → ((m : ℕ) → In m ms → get_or ys m 0 ≡ get_or xs m 0) → peak ys ms ≡ peak xs ms
unfolding peak
peak_same xs ys [] h = refl
peak_same xs ys (m ∷ ms) h = ap₂ max (h m (inl refl)) (peak_same xs ys ms (λ n i. h n (inr i)))

pub peak_most : (xs ms : List ℕ) (b : ℕ) → ((m : ℕ) → In m ms → get_or xs m 0 ≤ b) → peak xs ms ≤ b
unfolding peak
peak_most xs [] b h = omega arith
peak_most xs (m ∷ ms) b h =
    let a = h m (inl refl) in let c = peak_most xs ms b (λ n i. h n (inr i)) in
    ⊎_elim (λ e. omega arith) (λ e. omega arith) (max_is (get_or xs m 0) (peak xs ms))

pub peak_least : (xs ms : List ℕ) (m : ℕ) → In m ms → get_or xs m 0 ≤ peak xs ms
unfolding peak
peak_least xs [] m i = absurd i
peak_least xs (n ∷ ns) m (inl e) = subst (λ k. get_or xs k 0 ≤ max (get_or xs n 0) (peak xs ns)) e (larger_left (Some (get_or xs n 0)) (Some (peak xs ns)))
peak_least xs (n ∷ ns) m (inr i) = let a = peak_least xs ns m i in let b = larger_right (Some (get_or xs n 0)) (Some (peak xs ns)) in omega arith

pub largest_peak : (vs : List Value) (xs ms : List ℕ) → ((m : ℕ) → In m ms → value_at vs m ≡ Some (get_or xs m 0)) → largest vs ms ≡ Some (peak xs ms)
unfolding largest peak
largest_peak vs xs [] h = refl
largest_peak vs xs (m ∷ ms) h = ap₂ larger (h m (inl refl)) (largest_peak vs xs ms (λ n i. h n (inr i)))

pub largest_none : (vs : List Value) (ms : List ℕ) (m : ℕ) → In m ms → value_at vs m ≡ None → largest vs ms ≡ None
largest_none vs ms m i e = go (largest vs ms) (subst (λ v. v ≼ largest vs ms) e (largest_high vs ms m i))
  where
    go : (v : Value) → None ≼ v → v ≡ None
    go None h = refl
    go (Some b) h = absurd h
