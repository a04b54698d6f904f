-- The nodes that effects reach at a state, condition by condition.
use Rattle.std.proofs.Common.{◌≡◌, ℕ, ◌+◌, ◌%◌, ◌^◌, ◌<◌, ◌≤◌, Bool, true, false, not, ◌&&◌, ◌||◌, eqb, List, [], ◌∷◌, ◌++◌, length, get_or, set, ℤ, pos, ◌+ℤ◌, ◌*ℤ◌, nat_abs, fold, sym, refl, ap, ◌∙◌, subst, ap₂, inl, ⊎_elim, arith, pow_mono, below_more}
use native.Mathlib.Nat.{div-eq_of_lt}
use lib.Bits.{bit_and, bit_or, bit_xor}
use Rattle.std.proofs.lemmas.Nat.{pow_pos, xor_lt, and_le_l}
use Rattle.std.proofs.lemmas.List.{get_or-set_same, get_or-set_other, get_or_append_left, length-set}
use Rattle.std.proofs.lemmas.Bool.{cases_lt, eq-eqb, ne_eqb, or_right, true≢false}
use Rattle.std.specs.List.{AllByRecursion}
use Rattle.tables.specs.Chains.{chain}
use Rattle.tables.specs.Problem.{Problem}
use Rattle.tables.specs.Rules.{LinkFits, MoveKeeps, Keeps}
use Rattle.tables.specs.declared.Link.{Link}
use Rattle.tables.specs.declared.Move.{Move}
use Rattle.tables.specs.declared.Role.TheVariants.{Terms, Effects}
use Rattle.task.specs.Meaning.{names}
use Rattle.task.specs.States.{fact_holds, condition_at, condition_holds, made}
use Rattle.task.specs.declared.state.State.{State}
use Rattle.task.proofs.Along.{keeps_fit, term_of, condition_keeps}
use Rattle.task.proofs.Changes.{folded_holds, folded_below}
use Rattle.task.proofs.Words.{holds_or, holds_without, holds_power}
use Rattle.landmarks.specs.Relaxed.{add_gain, raises}
use Rattle.landmarks.proofs.Sizes.{gain_small}
use Rattle.lmcut.specs.Prepared.{weigh, weighed, Changes, gain_at, Row}
use Rattle.lmcut.proofs.Prepared.{no_bit}

-- ---- the gain on a condition

-- over terms of an accepted problem, the sum of weight × change is the gain
weighed_gain : (p : Problem) → Keeps p → (cs : List ℤ) (es : List Link) → Changes cs es → (a : ℤ) (ts : List Link) → AllByRecursion (LinkFits p Terms) ts → fold (weigh cs) a ts ≡ fold (add_gain es) a ts
weighed_gain p k cs es w a [] h = refl
weighed_gain p k cs es w a (t ∷ ts) h =
    let q = term_of p t k h.0 in
    ap (λ z. fold (weigh cs) (a +ℤ (t.amount *ℤ z)) ts) (w.is t.subject q.0 q.1) ∙ weighed_gain p k cs es w (add_gain es a t) ts h.1

module _ (p : Problem) (k : Keeps p) (m : Move) (kept : MoveKeeps p m) (cs : List ℤ) (w : Changes cs (chain p.links m.effects)) (c : ℕ) (inside : c < length p.conditions) where
  gain_is : weighed cs (chain p.links (condition_at p (c + 1)).terms) ≡ gain_at p (chain p.links m.effects) c
  gain_is = weighed_gain p k cs (chain p.links m.effects) w (pos 0) (chain p.links (condition_at p (c + 1)).terms) (keeps_fit p Terms _ (condition_keeps p (c + 1) k (omega arith) (omega arith)).terms)

  pub gain_fits : nat_abs (weighed cs (chain p.links (condition_at p (c + 1)).terms)) ≤ 32000000
  gain_fits = subst (λ z. nat_abs z ≤ 32000000) (sym gain_is) (gain_small p k (condition_at p (c + 1)) (condition_keeps p (c + 1) k (omega arith) (omega arith)) m kept)

-- ---- the facts that effects set and that do not hold

abbrev pub new_facts : State → List Link → ℕ
new_facts s es = bit_xor (made es) (bit_and (made es) s.facts)

abbrev reached_at : Problem → State → List Link → ℕ → Bool
reached_at p s es c = raises (gain_at p es c) && not (condition_holds p s (condition_at p (c + 1)))

-- the row of effects, as far as the conditions before an index
pub record RowUpTo (p : Problem) (s : State) (es : List Link) (index nodes : ℕ) (gs : List ℕ) : Type 0 where
  pub facts : (k : ℕ) → k < p.head.facts → fact_holds nodes k ≡ (names 4 es k && not (fact_holds s.facts k))
  pub conditions : (c : ℕ) → c < index → fact_holds nodes (p.head.facts + c) ≡ reached_at p s es c
  pub gains : (c : ℕ) → c < index → fact_holds nodes (p.head.facts + c) ≡ true → get_or gs c 0 ≡ nat_abs (gain_at p es c)
  pub later : (n : ℕ) → p.head.facts + index ≤ n → fact_holds nodes n ≡ false
  pub long : length gs ≡ length p.conditions

set_bit : (es : List Link) (n : ℕ) → fact_holds (made es) n ≡ names 4 es n
set_bit es n = folded_holds 4 0 es n ∙ ap (λ b. b || names 4 es n) (no_bit n)

new_bit : (s : State) (es : List Link) (n : ℕ) → fact_holds (new_facts s es) n ≡ (names 4 es n && not (fact_holds s.facts n))
new_bit s es n = holds_without (made es) s.facts n ∙ ap (λ b. b && not (fact_holds s.facts n)) (set_bit es n)

-- a word below a power of two has no bit from there up
high_bit : (w k n : ℕ) → w < 2 ^ k → k ≤ n → fact_holds w n ≡ false
high_bit w k n h l = let m = pow_mono {i = k} {j = n} l in let b : w < 2 ^ n = omega arith in ap (λ z. eqb (z % 2) 1) (div-eq_of_lt b)

module _ (p : Problem) (s : State) (es : List Link) (fit : AllByRecursion (LinkFits p Effects) es) where
  set_below : made es < 2 ^ p.head.facts
  set_below = folded_below p 4 0 es (inl refl) fit (pow_pos p.head.facts)

  new_below : new_facts s es < 2 ^ p.head.facts
  new_below = let b = set_below in xor_lt p.head.facts (made es) (bit_and (made es) s.facts) b (let l = and_le_l (made es) s.facts in omega arith)

  pub rows_start : (gs : List ℕ) → length gs ≡ length p.conditions → RowUpTo p s es 0 (new_facts s es) gs
  rows_start gs l = record {
    facts = λ n h. new_bit s es n;
    conditions = λ c h. absurd (omega arith);
    gains = λ c h. absurd (omega arith);
    later = λ n h. high_bit (new_facts s es) p.head.facts n new_below (omega arith);
    long = l;
  }

module _ (p : Problem) (s : State) (es : List Link) (index nodes : ℕ) (gs : List ℕ) (w : RowUpTo p s es index nodes gs) where
  abbrev node : ℕ
  node = p.head.facts + index

  unset : fact_holds nodes node ≡ false
  unset = w.later node (omega arith)

  -- a condition that the effects do not reach
  rows_skip : reached_at p s es index ≡ false → RowUpTo p s es (index + 1) nodes gs
  rows_skip e =
      record {
        facts = w.facts;
        conditions = below_more _ index w.conditions (unset ∙ sym e);
        gains = below_more _ index w.gains (λ t. absurd (true≢false (sym t ∙ unset)));
        later = λ n h. w.later n (omega arith);
        long = w.long;
      }

  bit_set : (n : ℕ) → fact_holds (bit_or nodes (2 ^ node)) n ≡ (fact_holds nodes n || eqb node n)
  bit_set n = holds_or nodes (2 ^ node) n ∙ ap (λ b. fact_holds nodes n || b) (holds_power node n)

  bit_kept : (n : ℕ) → (node ≡ n → ⊥) → fact_holds (bit_or nodes (2 ^ node)) n ≡ fact_holds nodes n
  bit_kept n ne = bit_set n ∙ ap (λ b. fact_holds nodes n || b) (ne_eqb node n ne) ∙ go (fact_holds nodes n)
    where
      go : (b : Bool) → (b || false) ≡ b
      go true = refl
      go false = refl

  -- a condition that they reach, with their gain on it
  rows_add : (g : ℕ) → index < length p.conditions → g ≡ nat_abs (gain_at p es index) → reached_at p s es index ≡ true → RowUpTo p s es (index + 1) (bit_or nodes (2 ^ node)) (set gs index g)
  rows_add g few gain e =
      record {
        facts = λ n h. bit_kept n (λ q. omega arith) ∙ w.facts n h;
        conditions = below_more _ index (λ c h. bit_kept (p.head.facts + c) (λ q. omega arith) ∙ w.conditions c h) (bit_set node ∙ or_right _ _ (eq-eqb node node refl) ∙ sym e);
        gains = below_more _ index
            (λ c h t. get_or-set_other gs index c g 0 (λ q. omega arith) ∙ w.gains c h (sym (bit_kept (p.head.facts + c) (λ q. omega arith)) ∙ t))
            (λ t. get_or-set_same gs index g 0 (let l = w.long in omega arith) ∙ gain);
        later = λ n h. bit_kept n (λ q. omega arith) ∙ w.later n (omega arith);
        long = length-set gs index g ∙ w.long;
      }

-- past the last condition the row is whole
pub rows_end : (p : Problem) (s : State) (es : List Link) (index nodes : ℕ) (gs rest : List ℕ) → RowUpTo p s es index nodes gs → index ≡ length p.conditions → Row p s es nodes (gs ++ rest)
rows_end p s es index nodes gs rest w e = record {
  facts = w.facts;
  conditions = λ c h. w.conditions c (omega arith);
  raised = λ c h t. get_or_append_left gs rest 0 c (let l = w.long in omega arith) ∙ w.gains c (omega arith) t;
  inside = λ n t. ⊎_elim (λ l. l) (λ l. absurd (true≢false (sym t ∙ w.later n (omega arith)))) (cases_lt n (p.head.facts + length p.conditions));
}

-- the condition at an index, told whether it is reached
module _ (p : Problem) (k : Keeps p) (m : Move) (kept : MoveKeeps p m) (cs : List ℤ) (ch : Changes cs (chain p.links m.effects)) (index : ℕ) (inside : index < length p.conditions)
    (s : State) (nodes : ℕ) (gs : List ℕ) (w : RowUpTo p s (chain p.links m.effects) index nodes gs)
    (held : Bool) (same : held ≡ condition_holds p s (condition_at p (index + 1))) (some : Bool)
    (is : some ≡ (raises (weighed cs (chain p.links (condition_at p (index + 1)).terms)) && not held)) where
  told : some ≡ reached_at p s (chain p.links m.effects) index
  told = is ∙ ap₂ (λ z b. raises z && not b) (gain_is p k m kept cs ch index inside) same

  pub rows_left : some ≡ false → RowUpTo p s (chain p.links m.effects) (index + 1) nodes gs
  rows_left f = rows_skip p s (chain p.links m.effects) index nodes gs w (sym told ∙ f)

  pub rows_raised : some ≡ true → (g : ℕ) → g ≡ nat_abs (weighed cs (chain p.links (condition_at p (index + 1)).terms)) → RowUpTo p s (chain p.links m.effects) (index + 1) (bit_or nodes (2 ^ (p.head.facts + index))) (set gs index g)
  rows_raised t g e = rows_add p s (chain p.links m.effects) index nodes gs w g inside (e ∙ ap nat_abs (gain_is p k m kept cs ch index inside)) (sym told ∙ t)
