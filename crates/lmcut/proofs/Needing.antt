-- The nodes that a chain of needs names, as a word, link by link.
use Rattle.std.proofs.Common.{◌≡◌, ℕ, ◌+◌, ◌-◌, ◌^◌, ◌<◌, Bool, true, false, ◌||◌, eqb, ◌⊎◌, List, [], ◌∷◌, map, sym, refl, ap, ◌∙◌, subst, ap₂, inl, inr, ⊎_elim, arith}
use lib.Bits.{bit_or, or_lt}
use Rattle.std.proofs.lemmas.Nat.{pow_below}
use Rattle.std.proofs.lemmas.Bool.{eq-eqb, ne_eqb, cond-true, cond-false, cond_both, eqb-true, eqb-false, false≢true}
use Rattle.tables.specs.Chains.{chain}
use Rattle.tables.specs.Problem.{Problem}
use Rattle.tables.specs.Rules.{ChainKeeps, LinkFits, Keeps}
use Rattle.tables.specs.declared.Link.{Link}
use Rattle.tables.specs.declared.Role.TheVariants.{Needs}
use Rattle.task.specs.States.{fact_holds}
use Rattle.task.proofs.Along.{Going, Gone, going_start, need_fact, need_condition}
use Rattle.task.proofs.Words.{holds_or, holds_power}
use Rattle.landmarks.specs.Laws.{In}
use Rattle.landmarks.specs.Relaxed.{node_of, needs_of}
use Rattle.lmcut.specs.Prepared.{Word}
use Rattle.lmcut.proofs.Prepared.{no_bit}

abbrev pub nodes_left : Problem → List Link → ℕ → List ℕ
nodes_left p ls n = map (node_of p) (chain ls n)

pub record Needed (p : Problem) (whole : List ℕ) (ls : List Link) (n : ℕ) (word : ℕ) : Type 0 where
  pub going : Going p Needs ls n
  pub seen : (m : ℕ) → In m whole → (fact_holds word m ≡ true) ⊎ In m (nodes_left p ls n)
  pub only : (m : ℕ) → fact_holds word m ≡ true → In m whole
  pub left : (m : ℕ) → In m (nodes_left p ls n) → In m whole
  pub fits : word < 2 ^ 128

pub needed_start : (p : Problem) (first : ℕ) (ls : List Link) (n : ℕ) → Keeps p → ChainKeeps p Needs first → ls ≡ p.links → n ≡ first → Needed p (needs_of p first) ls n 0
needed_start p first ls n t k l a =
    let same : nodes_left p ls n ≡ needs_of p first = ap₂ (nodes_left p) l a in
    record {
      going = going_start p Needs first ls n t k l a;
      seen = λ m i. inr (subst (In m) (sym same) i);
      only = λ m h. absurd (false≢true (sym (no_bit m) ∙ h));
      left = λ m i. subst (In m) same i;
      fits = omega arith;
    }

-- the node of a need: its number has seven bits
pub node_fact : (p : Problem) (l : Link) → l.kind ≡ 2 → node_of p l ≡ l.subject
node_fact p l k = cond-true (eqb l.kind 2) _ _ (eq-eqb _ 2 k)

pub node_condition : (p : Problem) (l : Link) → (l.kind ≡ 2 → ⊥) → node_of p l ≡ p.head.facts + l.subject - 1
node_condition p l k = cond-false (eqb l.kind 2) _ _ (ne_eqb _ 2 k)

pub node_small : (p : Problem) (l : Link) → Keeps p → LinkFits p Needs l → node_of p l < 128
node_small p l t f = cond_both (eqb l.kind 2) l.subject (p.head.facts + l.subject - 1) (λ m. m < 128)
    (λ e. let h = need_fact p l t f (eqb-true _ 2 e) in omega arith)
    (λ e. let h = need_condition p l f (eqb-false _ 2 e) in omega (arith, h.0, h.1, t.facts, t.few_conditions))

module _ (p : Problem) (whole : List ℕ) (ls : List Link) (n : ℕ) (ls' : List Link) (n' : ℕ) (word : ℕ) (l : Link) (w : Needed p whole ls n word) (g : Gone p Needs l ls n ls' n') where
  pub needed_step : Keeps p → Needed p whole ls' n' (bit_or word (2 ^ node_of p l))
  needed_step t = record {
    going = g.rest;
    seen = λ m i. ⊎_elim (λ h. inl (bits m ∙ ap (λ b. b || eqb (node_of p l) m) h)) (λ h. taken m (subst (In m) split h)) (w.seen m i);
    only = λ m h. by m (fact_holds word m) refl (sym (bits m) ∙ h);
    left = λ m i. w.left m (subst (In m) (sym split) (inr i));
    fits = or_lt 128 word (2 ^ node_of p l) w.fits (pow_below (node_of p l) 128 (node_small p l t g.fits));
  }
    where
      split : nodes_left p ls n ≡ node_of p l ∷ nodes_left p ls' n'
      split = ap (map (node_of p)) g.first

      bits : (m : ℕ) → fact_holds (bit_or word (2 ^ node_of p l)) m ≡ (fact_holds word m || eqb (node_of p l) m)
      bits m = holds_or word (2 ^ node_of p l) m ∙ ap (λ b. fact_holds word m || b) (holds_power (node_of p l) m)

      or_true : (b : Bool) → (b || true) ≡ true
      or_true true = refl
      or_true false = refl

      taken : (m : ℕ) → In m (node_of p l ∷ nodes_left p ls' n') → (fact_holds (bit_or word (2 ^ node_of p l)) m ≡ true) ⊎ In m (nodes_left p ls' n')
      taken m (inl e) = inl (bits m ∙ ap (λ b. fact_holds word m || b) (eq-eqb (node_of p l) m e) ∙ or_true (fact_holds word m))
      taken m (inr i) = inr i

      by : (m : ℕ) (b : Bool) → fact_holds word m ≡ b → (b || eqb (node_of p l) m) ≡ true → In m whole
      by m true e h = w.only m e
      by m false e h = w.left m (subst (In m) (sym split) (inl (eqb-true (node_of p l) m h)))

pub needed_end : (p : Problem) (whole : List ℕ) (ls : List Link) (n word : ℕ) → Needed p whole ls n word → chain ls n ≡ [] → Word word whole
needed_end p whole ls n word w e = record {
  set = λ m i. ⊎_elim (λ h. h) (λ h. absurd (subst (λ es. In m (map (node_of p) es)) e h)) (w.seen m i);
  only = w.only;
}
