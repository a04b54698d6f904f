-- The bits of a word, lowest first: what a step takes, and what is left to come.
use Rattle.std.proofs.Common.{◌≡◌, ℕ, zero, suc, ◌+◌, ◌-◌, ◌*◌, ◌/◌, ◌%◌, ◌^◌, ◌<◌, ◌≤◌, Bool, true, false, not, ◌&&◌, ◌||◌, eqb, leb, List, length, get_or, set, Some, None, sym, refl, ap, ◌∙◌, subst, ap₂, ⊎_elim, arith}
use lib.Bits.{bit_and, bit_or}
use lib.Count.{count_trailing_zeros, under}
use Rattle.std.proofs.lemmas.Nat.{shr-shr}
use Rattle.std.proofs.lemmas.List.{get_or-set_same, get_or-set_other, get_or_past}
use Rattle.std.proofs.lemmas.Bool.{cases_lt, cases_eq, eq-eqb, ne_eqb, le-leb, lt-leb, and_parts, true≢false}
use Rattle.task.specs.States.{fact_holds}
use Rattle.task.proofs.Words.{bit_small, holds_or, holds_power}
use Rattle.lmcut.specs.Bitwise.{Lowest, Without, BitStep, holds_action, Others, ActionStep}
use Rattle.lmcut.proofs.Prepared.{holds_and, no_bit}

-- ---- a number one less

half_bit : (a m : ℕ) → fact_holds a (suc m) ≡ fact_holds (a / 2) m
half_bit a m = let e : suc m ≡ 1 + m = omega arith in ap (fact_holds a) e ∙ sym (ap (λ x. eqb (x % 2) 1) (shr-shr a 1 m))

first_bit : (a : ℕ) → fact_holds a 0 ≡ eqb (a % 2) 1
first_bit a = let e : a / 2 ^ 0 ≡ a = omega arith in ap (λ x. eqb (x % 2) 1) e

record LessOne (a n : ℕ) : Type 0 where
  set : fact_holds a n ≡ true
  below : (m : ℕ) → m < n → fact_holds a m ≡ false
  here : fact_holds (a - 1) n ≡ false
  above : (m : ℕ) → n < m → fact_holds (a - 1) m ≡ fact_holds a m

under_odd : (r t : ℕ) → r ≡ 1 → under r t ≡ 0
under_odd r t e = ap (λ x. under x t) e

under_even : (r t : ℕ) → r ≡ 0 → under r t ≡ suc t
under_even r t e = ap (λ x. under x t) e

less_odd : (a : ℕ) → a % 2 ≡ 1 → LessOne a 0
less_odd a o = record {
  set = first_bit a ∙ eq-eqb _ 1 o;
  below = λ m h. absurd (omega arith);
  here = first_bit (a - 1) ∙ ne_eqb _ 1 (λ e. omega arith);
  above = go;
}
  where
    go : (m : ℕ) → 0 < m → fact_holds (a - 1) m ≡ fact_holds a m
    go zero h = absurd (omega arith)
    go (suc m) h = let e : (a - 1) / 2 ≡ a / 2 = omega arith in half_bit (a - 1) m ∙ ap (λ x. fact_holds x m) e ∙ sym (half_bit a m)

less_even : (a n : ℕ) → 0 < a → a % 2 ≡ 0 → LessOne (a / 2) n → LessOne a (suc n)
less_even a n p o l = record {
  set = half_bit a n ∙ l.set;
  below = low;
  here = half_bit (a - 1) n ∙ ap (λ x. fact_holds x n) half ∙ l.here;
  above = high;
}
  where
    half : (a - 1) / 2 ≡ a / 2 - 1
    half = omega arith

    low : (m : ℕ) → m < suc n → fact_holds a m ≡ false
    low zero h = first_bit a ∙ ne_eqb _ 1 (λ e. omega arith)
    low (suc m) h = half_bit a m ∙ l.below m (omega arith)

    high : (m : ℕ) → suc n < m → fact_holds (a - 1) m ≡ fact_holds a m
    high zero h = absurd (omega arith)
    high (suc m) h = half_bit (a - 1) m ∙ ap (λ x. fact_holds x m) half ∙ l.above m (omega arith) ∙ sym (half_bit a m)

less_one : (k a : ℕ) → 0 < a → a < 2 ^ k → LessOne a (count_trailing_zeros k a) × (count_trailing_zeros k a < k)
unfolding count_trailing_zeros
less_one zero a p h = absurd (omega arith)
less_one (suc k) a p h = ⊎_elim (even (λ q l. less_one k (a / 2) q l)) odd (bit_small a)
  where
    odd : a % 2 ≡ 1 → LessOne a (under (a % 2) (count_trailing_zeros k (a / 2))) × (under (a % 2) (count_trailing_zeros k (a / 2)) < suc k)
    odd o = let e = under_odd (a % 2) (count_trailing_zeros k (a / 2)) o in (subst (LessOne a) (sym e) (less_odd a o), omega arith)

    even : (0 < a / 2 → a / 2 < 2 ^ k → LessOne (a / 2) (count_trailing_zeros k (a / 2)) × (count_trailing_zeros k (a / 2) < k)) → a % 2 ≡ 0 → LessOne a (under (a % 2) (count_trailing_zeros k (a / 2))) × (under (a % 2) (count_trailing_zeros k (a / 2)) < suc k)
    even rest o =
        let e = under_even (a % 2) (count_trailing_zeros k (a / 2)) o in
        let two : 2 ^ suc k ≡ 2 * 2 ^ k = omega arith in
        let r = rest (omega arith) (omega arith) in
        let l = r.1 in
        (subst (LessOne a) (sym e) (less_even a (count_trailing_zeros k (a / 2)) p o r.0), omega arith)

-- ---- a step

pub lowest_taken : (w : ℕ) → 0 < w → w < 2 ^ 128 → Lowest w (count_trailing_zeros 128 w) × Without w (count_trailing_zeros 128 w) (bit_and w (w - 1))
lowest_taken w p h =
    let r = less_one 128 w p h in
    (record { inside = r.1; set = r.0.set; below = r.0.below }, λ m. holds_and w (w - 1) m ∙ go r.0 m)
  where
    go : LessOne w (count_trailing_zeros 128 w) → (m : ℕ) → (fact_holds w m && fact_holds (w - 1) m) ≡ (fact_holds w m && not (eqb m (count_trailing_zeros 128 w)))
    go l m = ⊎_elim
        (λ e. ap (λ b. fact_holds w m && b) (ap (fact_holds (w - 1)) e ∙ l.here ∙ sym (ap not (eq-eqb m _ e))))
        (λ e. ⊎_elim
        (λ b. let z = l.below m b in ap₂ (λ x y. x && y) z refl ∙ sym (ap₂ (λ x y. x && y) z refl))
        (λ b. after (fact_holds w m) (fact_holds (w - 1) m) (eqb m (count_trailing_zeros 128 w)) (l.above m (past m b e)) (ne_eqb m _ e))
        (cases_lt m (count_trailing_zeros 128 w)))
        (cases_eq m (count_trailing_zeros 128 w))
      where
        past : (m : ℕ) → count_trailing_zeros 128 w ≤ m → (m ≡ count_trailing_zeros 128 w → ⊥) → count_trailing_zeros 128 w < m
        past m b e = ⊎_elim (λ x. x) (λ x. absurd (e (omega arith))) (cases_lt (count_trailing_zeros 128 w) m)

        after : (x y z : Bool) → y ≡ x → z ≡ false → (x && y) ≡ (x && not z)
        after true y z e f = e ∙ sym (ap not f)
        after false y z e f = refl

pub step_some : (w n v : ℕ) → Lowest w n → Without w n v → BitStep w (Some n) v
unfolding BitStep
step_some w n v l t = (l, t)

pub step_within : (w n v m : ℕ) → BitStep w (Some n) v → fact_holds v m ≡ true → fact_holds w m ≡ true
unfolding BitStep
step_within w n v m (l, t) h = (and_parts (fact_holds w m) (not (eqb m n)) (sym (t m) ∙ h)).0

pub step_empty : (w v m : ℕ) → BitStep w None v → fact_holds v m ≡ false
unfolding BitStep
step_empty w v m e = ap (λ x. fact_holds x m) e.1 ∙ no_bit m

-- ---- the actions of a set

-- the words after the lowest bit of the first that is not 0 is taken
module _ (ws : List ℕ) (part n v : ℕ) (long : length ws ≡ 3) (inside : part < 3) (zeros : (k : ℕ) → k < part → get_or ws k 0 ≡ 0) (l : Lowest (get_or ws part 0) n) (t : Without (get_or ws part 0) n v) where
  abbrev action : ℕ
  action = 128 * part + n

  word : action / 128 ≡ part
  word = let h = l.inside in omega arith

  bit : action % 128 ≡ n
  bit = let h = l.inside in omega arith

  low : (m : ℕ) → m < action → holds_action ws m ≡ false
  low m h = ⊎_elim
      (λ k. ap (λ w. fact_holds w (m % 128)) (zeros (m / 128) k) ∙ no_bit (m % 128))
      (λ k. let e : m / 128 ≡ part = (let i = l.inside in omega arith) in ap (λ i. fact_holds (get_or ws i 0) (m % 128)) e ∙ l.below (m % 128) (omega arith))
      (cases_lt (m / 128) part)

  others : Others ws action (set ws part v)
  others m = ⊎_elim
      (λ e.
      ap (λ w. fact_holds w (m % 128)) (ap (λ i. get_or (set ws part v) i 0) e ∙ get_or-set_same ws part v 0 (omega arith))
      ∙ t (m % 128)
      ∙ ap₂ (λ x y. x && not y) (ap (λ i. fact_holds (get_or ws i 0) (m % 128)) (sym e)) (same e))
      (λ e.
      ap (λ w. fact_holds w (m % 128)) (get_or-set_other ws part (m / 128) v 0 e)
      ∙ sym (ap (λ b. holds_action ws m && not b) (ne_eqb m action (λ i. e (ap (λ x. x / 128) i ∙ word))) ∙ whole (holds_action ws m)))
      (cases_eq (m / 128) part)
    where
      same : m / 128 ≡ part → eqb (m % 128) n ≡ eqb m action
      same e = ⊎_elim
          (λ i. eq-eqb (m % 128) n (ap (λ x. x % 128) i ∙ bit) ∙ sym (eq-eqb m action i))
          (λ i. ne_eqb (m % 128) n (λ j. i (omega arith)) ∙ sym (ne_eqb m action i))
          (cases_eq m action)

      whole : (b : Bool) → (b && not false) ≡ b
      whole true = refl
      whole false = refl

  pub action_some : ActionStep ws (Some (128 * part + n)) (set ws part v)
  unfolding ActionStep
  action_some = (
    record {
      inside = (let h = l.inside in omega arith);
      set = ap₂ (λ i j. fact_holds (get_or ws i 0) j) word bit ∙ l.set;
      below = low;
    },
    others,
  )

pub action_none : (ws vs : List ℕ) → length ws ≡ 3 → ((k : ℕ) → k < 3 → get_or ws k 0 ≡ 0) → ActionStep ws None vs
unfolding ActionStep
action_none ws vs long zeros m = ap (λ w. fact_holds w (m % 128)) (⊎_elim (λ h. zeros (m / 128) h) (λ h. get_or_past ws (m / 128) 0 (omega arith)) (cases_lt (m / 128) 3)) ∙ no_bit (m % 128)

-- the words after an action's bit is set
pub action_inserted : (ws : List ℕ) (action : ℕ) → length ws ≡ 3 → action < 384 → (a : ℕ) → holds_action (set ws (action / 128) (bit_or (get_or ws (action / 128) 0) (2 ^ (action % 128)))) a ≡ (holds_action ws a || eqb a action)
action_inserted ws action long inside a = ⊎_elim
    (λ e.
    ap (λ x. fact_holds x (a % 128)) (ap (λ i. get_or fresh i 0) e ∙ get_or-set_same ws (action / 128) _ 0 (omega arith))
    ∙ holds_or (get_or ws (action / 128) 0) (2 ^ (action % 128)) (a % 128)
    ∙ ap₂ (λ x y. x || y) (ap (λ i. fact_holds (get_or ws i 0) (a % 128)) (sym e)) (holds_power (action % 128) (a % 128) ∙ bit e))
    (λ e.
    ap (λ x. fact_holds x (a % 128)) (get_or-set_other ws (action / 128) (a / 128) _ 0 e)
    ∙ sym (ap (λ b. holds_action ws a || b) (ne_eqb a action (λ s. e (ap (λ x. x / 128) s))) ∙ whole (holds_action ws a)))
    (cases_eq (a / 128) (action / 128))
  where
    fresh : List ℕ
    fresh = set ws (action / 128) (bit_or (get_or ws (action / 128) 0) (2 ^ (action % 128)))

    whole : (b : Bool) → (b || false) ≡ b
    whole true = refl
    whole false = refl

    bit : a / 128 ≡ action / 128 → eqb (action % 128) (a % 128) ≡ eqb a action
    bit e = ⊎_elim
        (λ s. eq-eqb (action % 128) (a % 128) (ap (λ x. x % 128) (sym s)) ∙ sym (eq-eqb a action s))
        (λ s. ne_eqb (action % 128) (a % 128) (λ m. s (omega arith)) ∙ sym (ne_eqb a action s))
        (cases_eq a action)

-- ---- what is to come

-- of a whole set of numbers, those from k up are left
pub record Left (whole : ℕ → Bool) (k : ℕ) (some : ℕ → Bool) : Type 0 where
  pub is : (m : ℕ) → some m ≡ (leb k m && whole m)

left_start : (whole : ℕ → Bool) → Left whole 0 whole
left_start whole = record { is = λ m. sym (ap (λ b. b && whole m) (le-leb 0 m (omega arith))) }

-- the next of them is n, below a bound
pub record Next (top : ℕ) (whole : ℕ → Bool) (k n : ℕ) (others : ℕ → Bool) : Type 0 where
  pub from : k ≤ n
  pub inside : n < top
  pub set : whole n ≡ true
  pub none : (m : ℕ) → k ≤ m → m < n → whole m ≡ false
  pub rest : Left whole (n + 1) others

left_step : (top : ℕ) (whole : ℕ → Bool) (k : ℕ) (some : ℕ → Bool) (n : ℕ) (rest : ℕ → Bool) → Left whole k some → n < top → some n ≡ true → ((m : ℕ) → m < n → some m ≡ false) → ((m : ℕ) → rest m ≡ (some m && not (eqb m n))) → Next top whole k n rest
left_step top whole k some n rest c inside set below without = record {
  from = lower;
  inside = inside;
  set = from_and (leb k n) (whole n) (sym (c.is n) ∙ set);
  none = λ m a b. sym (ap (λ x. x && whole m) (le-leb k m a)) ∙ sym (c.is m) ∙ below m b;
  rest = record { is = λ m. without m ∙ ap (λ x. x && not (eqb m n)) (c.is m) ∙ go m };
}
  where
    lower : k ≤ n
    lower = ⊎_elim (λ h. absurd (true≢false (sym set ∙ c.is n ∙ ap (λ b. b && whole n) (lt-leb k n h)))) (λ h. h) (cases_lt n k)

    from_and : (a b : Bool) → (a && b) ≡ true → b ≡ true
    from_and true b e = e
    from_and false b e = absurd (true≢false (sym e))

    go : (m : ℕ) → ((leb k m && whole m) && not (eqb m n)) ≡ (leb (n + 1) m && whole m)
    go m = ⊎_elim
        (λ b. ap (λ x. x && not (eqb m n)) (sym (c.is m) ∙ below m b) ∙ sym (ap (λ x. x && whole m) (lt-leb (n + 1) m (omega arith))))
        (λ b. ⊎_elim
        (λ e. ap (λ x. (leb k m && whole m) && not x) (eq-eqb m n e) ∙ off (leb k m && whole m) ∙ sym (ap (λ x. x && whole m) (lt-leb (n + 1) m (omega arith))))
        (λ e. let l = lower in
        ap₂ (λ x y. (x && whole m) && not y) (le-leb k m (omega arith)) (ne_eqb m n e) ∙ on (whole m)
        ∙ sym (ap (λ x. x && whole m) (le-leb (n + 1) m (past m b e))))
        (cases_eq m n))
        (cases_lt m n)
      where
        off : (b : Bool) → (b && not true) ≡ false
        off true = refl
        off false = refl

        on : (b : Bool) → ((true && b) && not false) ≡ b
        on true = refl
        on false = refl

        past : (m : ℕ) → n ≤ m → (m ≡ n → ⊥) → n + 1 ≤ m
        past m b e = ⊎_elim (λ x. omega arith) (λ x. absurd (e (omega arith))) (cases_lt n m)

left_end : (whole : ℕ → Bool) (k : ℕ) (some : ℕ → Bool) → Left whole k some → ((m : ℕ) → some m ≡ false) → (m : ℕ) → k ≤ m → whole m ≡ false
left_end whole k some c none m a = sym (ap (λ x. x && whole m) (le-leb k m a)) ∙ sym (c.is m) ∙ none m

-- the bits of a word
abbrev pub Coming : ℕ → ℕ → ℕ → Type 0
Coming whole k w = Left (fact_holds whole) k (fact_holds w)

abbrev pub Came : ℕ → ℕ → ℕ → ℕ → Type 0
Came whole k n v = Next 128 (fact_holds whole) k n (fact_holds v)

pub coming_start : (whole w : ℕ) → w ≡ whole → Coming whole 0 w
coming_start whole w e = subst (Coming whole 0) (sym e) (left_start (fact_holds whole))

pub coming_step : (whole k w n v : ℕ) → Coming whole k w → BitStep w (Some n) v → Came whole k n v
unfolding BitStep
coming_step whole k w n v c (l, t) = left_step 128 (fact_holds whole) k (fact_holds w) n (fact_holds v) c l.inside l.set l.below t

pub coming_end : (whole k w v : ℕ) → Coming whole k w → BitStep w None v → (m : ℕ) → k ≤ m → fact_holds whole m ≡ false
unfolding BitStep
coming_end whole k w v c e = left_end (fact_holds whole) k (fact_holds w) c (λ m. ap (λ x. fact_holds x m) e.0 ∙ no_bit m)

-- the actions of a set
abbrev pub ActionsLeft : List ℕ → ℕ → List ℕ → Type 0
ActionsLeft whole k ws = Left (holds_action whole) k (holds_action ws)

abbrev pub NextAction : List ℕ → ℕ → ℕ → List ℕ → Type 0
NextAction whole k n vs = Next 384 (holds_action whole) k n (holds_action vs)

pub actions_start : (whole ws : List ℕ) → ws ≡ whole → ActionsLeft whole 0 ws
actions_start whole ws e = subst (ActionsLeft whole 0) (sym e) (left_start (holds_action whole))

pub actions_step : (whole : List ℕ) (k : ℕ) (ws : List ℕ) (n : ℕ) (vs : List ℕ) → ActionsLeft whole k ws → ActionStep ws (Some n) vs → NextAction whole k n vs
unfolding ActionStep
actions_step whole k ws n vs c (l, t) = left_step 384 (holds_action whole) k (holds_action ws) n (holds_action vs) c l.inside l.set l.below t

pub actions_end : (whole : List ℕ) (k : ℕ) (ws vs : List ℕ) → ActionsLeft whole k ws → ActionStep ws None vs → (m : ℕ) → k ≤ m → holds_action whole m ≡ false
unfolding ActionStep
actions_end whole k ws vs c none = left_end (holds_action whole) k (holds_action ws) c none

-- what holds at k and at each next number, holds further up
pub upwards : (P : ℕ → Type 0) (k n : ℕ) → k ≤ n → ((m : ℕ) → k ≤ m → m < n → P m → P (m + 1)) → P k → P n
upwards P k zero h f p = let e : k ≡ 0 = omega arith in subst P e p
upwards P k (suc n) h f p = ⊎_elim
    (λ l. let e : n + 1 ≡ suc n = omega arith in subst P e (f n (omega arith) (omega arith) (upwards P k n (omega arith) (λ m a b. f m a (omega arith)) p)))
    (λ l. let e : k ≡ suc n = omega arith in subst P e p)
    (cases_lt k (suc n))
