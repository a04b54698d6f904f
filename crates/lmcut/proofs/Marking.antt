-- Marking an action at the nodes of a word, node by node, and action by action.
use Rattle.std.proofs.Common.{◌≡◌, ℕ, ◌+◌, ◌/◌, ◌%◌, ◌<◌, ◌≤◌, Bool, true, false, not, ◌&&◌, ◌||◌, eqb, ltb, ◌⊎◌, List, [], length, get_or, set, replicate, Some, None, sym, refl, ap, ◌∙◌, ap₂, inl, inr, ⊎_elim, arith}
use Rattle.std.proofs.lemmas.List.{length-set, get_or-set_same, get_or-set_other, get_or_past, get_or-replicate, length-replicate}
use Rattle.std.proofs.lemmas.Bool.{cases_lt, cases_eq, eq-eqb, ne_eqb, eqb-true, lt-ltb, le-ltb}
use Rattle.task.specs.States.{fact_holds}
use Rattle.lmcut.specs.Bitwise.{BitStep, holds_action}
use Rattle.lmcut.specs.Marked.{marked, unmarked, Marks, Needing}
use Rattle.lmcut.proofs.Prepared.{no_bit}

or_false : (b : Bool) → (b || false) ≡ b
or_false true = refl
or_false false = refl

or_off : (b i : Bool) → i ≡ false → (b || i) ≡ b
or_off b i e = ap (λ x. b || x) e ∙ or_false b

-- ---- one mark

module _ (words : List (List ℕ)) (node action : ℕ) (fresh : List ℕ) (long : length words ≡ 128) (below : node < 128) (inserted : (a : ℕ) → holds_action fresh a ≡ (holds_action (get_or words node []) a || eqb a action)) where
  -- the words with a node's set replaced
  abbrev marked_one : List (List ℕ)
  marked_one = set words node fresh

  row_is : get_or marked_one node [] ≡ fresh
  row_is = get_or-set_same words node fresh [] (omega arith)

  row_else : (n : ℕ) → (n ≡ node → ⊥) → get_or marked_one n [] ≡ get_or words n []
  row_else n e = get_or-set_other words node n fresh [] e

  one_marked : (n a : ℕ) → marked marked_one n a ≡ (marked words n a || (eqb a action && eqb n node))
  one_marked n a = ⊎_elim
      (λ e.
      ap (λ m. marked marked_one m a) e
      ∙ ap (λ r. holds_action r a) row_is
      ∙ inserted a
      ∙ ap₂ (λ x y. x || y) (ap (λ m. marked words m a) (sym e)) (sym (ap (λ b. eqb a action && b) (eq-eqb n node e) ∙ and_true (eqb a action))))
      (λ e.
      ap (λ r. holds_action r a) (row_else n e)
      ∙ sym (or_off _ _ (ap (λ b. eqb a action && b) (ne_eqb n node e) ∙ and_false (eqb a action))))
      (cases_eq n node)
    where
      and_true : (b : Bool) → (b && true) ≡ b
      and_true true = refl
      and_true false = refl

      and_false : (b : Bool) → (b && false) ≡ false
      and_false true = refl
      and_false false = refl

-- ---- the nodes of a word

-- an action is marked at those nodes of a word that are no longer to come
pub record Marking (before : List (List ℕ)) (word action : ℕ) (left : ℕ) (words : List (List ℕ)) : Type 0 where
  pub long : length words ≡ 128
  pub within : (n : ℕ) → fact_holds left n ≡ true → fact_holds word n ≡ true
  pub is : (n a : ℕ) → marked words n a ≡ (marked before n a || (eqb a action && (fact_holds word n && not (fact_holds left n))))

pub marking_start : (before : List (List ℕ)) (word action left : ℕ) → length before ≡ 128 → left ≡ word → Marking before word action left before
marking_start before word action left h e = record {
  long = h;
  within = λ n h. ap (λ w. fact_holds w n) (sym e) ∙ h;
  is = λ n a. sym (or_off _ _ (ap (λ w. eqb a action && (fact_holds word n && not (fact_holds w n))) e ∙ go (eqb a action) (fact_holds word n)));
}
  where
    go : (i b : Bool) → (i && (b && not b)) ≡ false
    go true true = refl
    go true false = refl
    go false b = refl

pub node_below : (left node rest : ℕ) → BitStep left (Some node) rest → node < 128
unfolding BitStep
node_below left node rest (l, t) = l.inside

pub marking_step : (before : List (List ℕ)) (word action left node rest : ℕ) (words : List (List ℕ)) (fresh : List ℕ) → ((a : ℕ) → holds_action fresh a ≡ (holds_action (get_or words node []) a || eqb a action)) → BitStep left (Some node) rest
    → Marking before word action left words → Marking before word action rest (set words node fresh)
unfolding BitStep
marking_step before word action left node rest words fresh inserted (l, t) m = record {
  long = length-set words node fresh ∙ m.long;
  within = λ n h. m.within n (first (fact_holds left n) (not (eqb n node)) (sym (t n) ∙ h));
  is = λ n a.
      one_marked words node action fresh m.long l.inside inserted n a
      ∙ ap (λ b. b || (eqb a action && eqb n node)) (m.is n a)
      ∙ go (marked before n a) (eqb a action) (fact_holds word n) (fact_holds left n) (eqb n node)
      (λ e. ap (fact_holds left) (eqb-true n node e) ∙ l.set)
      (λ e. m.within n (ap (fact_holds left) (eqb-true n node e) ∙ l.set))
      ∙ ap (λ b. marked before n a || (eqb a action && (fact_holds word n && not b))) (sym (t n));
}
  where
    first : (a b : Bool) → (a && b) ≡ true → a ≡ true
    first true b e = refl
    first false b e = e

    set_one : (b i : Bool) → ((b || (i && (true && not true))) || (i && true)) ≡ (b || (i && (true && not (true && not true))))
    set_one true i = refl
    set_one false true = refl
    set_one false false = refl

    set_none : (b i h w : Bool) → ((b || (i && (h && not w))) || (i && false)) ≡ (b || (i && (h && not (w && not false))))
    set_none true i h w = refl
    set_none false false h w = refl
    set_none false true false w = refl
    set_none false true true true = refl
    set_none false true true false = refl

    go : (b i h w e : Bool) → (e ≡ true → w ≡ true) → (e ≡ true → h ≡ true) → ((b || (i && (h && not w))) || (i && e)) ≡ (b || (i && (h && not (w && not e))))
    go b i h w true f g =
        ap₂ (λ x y. (b || (i && (x && not y))) || (i && true)) (g refl) (f refl) ∙ set_one b i
        ∙ sym (ap₂ (λ x y. b || (i && (x && not (y && not true)))) (g refl) (f refl))
    go b i h w false f g = set_none b i h w

pub marking_end : (before : List (List ℕ)) (word action left rest : ℕ) (words : List (List ℕ)) → BitStep left None rest → Marking before word action left words → Marks before word action words
unfolding BitStep
marking_end before word action left rest words e m n a =
    m.is n a ∙ ap (λ b. marked before n a || (eqb a action && b)) (ap (λ b. fact_holds word n && not b) (ap (λ w. fact_holds w n) e.0 ∙ no_bit n) ∙ go (fact_holds word n))
  where
    go : (b : Bool) → (b && not false) ≡ b
    go true = refl
    go false = refl

-- ---- the actions

-- the actions before a number are marked
pub record MarkedUpTo (needs : List ℕ) (i : ℕ) (words : List (List ℕ)) : Type 0 where
  pub is : (n a : ℕ) → marked words n a ≡ (ltb a i && fact_holds (get_or needs a 0) n)

abbrev no_words : List ℕ
no_words = replicate {A = ℕ} 3 0

blank_row : (n : ℕ) → (get_or unmarked n [] ≡ no_words) ⊎ (get_or unmarked n [] ≡ [])
blank_row n = ⊎_elim (λ l. inl (get_or-replicate 128 n no_words [] l)) (λ l. inr (get_or_past unmarked n [] (let e = length-replicate 128 no_words in omega arith))) (cases_lt n 128)

blank_word : (n k : ℕ) → get_or {A = ℕ} (get_or unmarked n []) k 0 ≡ 0
blank_word n k = ⊎_elim
    (λ e. ap (λ r. get_or r k 0) e ∙ ⊎_elim (λ l. get_or-replicate {A = ℕ} 3 k 0 0 l) (λ l. get_or_past no_words k 0 (let e = length-replicate {A = ℕ} 3 0 in omega arith)) (cases_lt k 3))
    (λ e. ap (λ r. get_or r k 0) e)
    (blank_row n)

pub marked_start : (needs : List ℕ) → MarkedUpTo needs 0 unmarked
marked_start needs = record {
  is = λ n a. ap (λ w. fact_holds w (a % 128)) (blank_word n (a / 128)) ∙ no_bit (a % 128) ∙ sym (ap (λ b. b && fact_holds (get_or needs a 0) n) (le-ltb a 0 (omega arith)));
}

pub marked_more : (needs : List ℕ) (i : ℕ) (words after : List (List ℕ)) → Marks words (get_or needs i 0) i after → MarkedUpTo needs i words → MarkedUpTo needs (i + 1) after
marked_more needs i words after k m = record { is = λ n a. k n a ∙ ap (λ b. b || (eqb a i && fact_holds (get_or needs i 0) n)) (m.is n a) ∙ go n a }
  where
    past : (a : ℕ) → i ≤ a → (a ≡ i → ⊥) → i + 1 ≤ a
    past a l e = ⊎_elim (λ x. omega arith) (λ x. absurd (e (omega arith))) (cases_lt i a)

    go : (n a : ℕ) → ((ltb a i && fact_holds (get_or needs a 0) n) || (eqb a i && fact_holds (get_or needs i 0) n)) ≡ (ltb a (i + 1) && fact_holds (get_or needs a 0) n)
    go n a = ⊎_elim
        (λ e.
        ap₂ (λ x y. (x && fact_holds (get_or needs a 0) n) || (y && fact_holds (get_or needs i 0) n)) (le-ltb a i (omega arith)) (eq-eqb a i e)
        ∙ ap (λ j. fact_holds (get_or needs j 0) n) (sym e)
        ∙ sym (ap (λ x. x && fact_holds (get_or needs a 0) n) (lt-ltb a (i + 1) (omega arith))))
        (λ e.
        or_off _ _ (ap (λ x. x && fact_holds (get_or needs i 0) n) (ne_eqb a i e))
        ∙ ⊎_elim
        (λ l. ap (λ x. x && fact_holds (get_or needs a 0) n) (lt-ltb a i l ∙ sym (lt-ltb a (i + 1) (omega arith))))
        (λ l. ap (λ x. x && fact_holds (get_or needs a 0) n) (le-ltb a i l ∙ sym (le-ltb a (i + 1) (past a l e))))
        (cases_lt a i))
        (cases_eq a i)

pub marked_end : (needs : List ℕ) (i : ℕ) (words : List (List ℕ)) → length needs ≤ i → MarkedUpTo needs i words → Needing needs words
marked_end needs i words h m n a b d = m.is n a ∙ ⊎_elim
    (λ l. ap (λ x. x && fact_holds (get_or needs a 0) n) (lt-ltb a i l))
    (λ l. ap (λ x. x && fact_holds (get_or needs a 0) n) (le-ltb a i l) ∙ sym (ap (λ w. fact_holds w n) (get_or_past needs a 0 (omega arith)) ∙ no_bit n))
    (cases_lt a i)
