-- The rows of a question, filled move by move.
use Rattle.std.proofs.Common.{◌≡◌, ℕ, ◌+◌, ◌<◌, ◌≤◌, List, [], length, get_or, set, replicate, nat_abs, sym, refl, ap, ◌∙◌, subst, subst₂, ⊎_elim, arith}
use Rattle.std.proofs.lemmas.List.{length-set, get_or-set_same, get_or-set_other, get_or-replicate}
use Rattle.std.proofs.lemmas.Bool.{cases_eq}
use Rattle.tables.specs.Chains.{chain}
use Rattle.tables.specs.Problem.{Problem}
use Rattle.task.specs.States.{move_at}
use Rattle.task.specs.declared.state.State.{State}
use Rattle.landmarks.specs.Relaxed.{needs_of, node_count}
use Rattle.landmarks.proofs.Orders.{replicate_at}
use Rattle.lmcut.specs.Prepared.{Blank, Word, Row, Standing, Prepared}
use Rattle.lmcut.specs.Marked.{Needing}
use Rattle.lmcut.specs.declared.question.Question.{Question}

-- the places below i are filled, those from i up are blank
pub record Filled {X : Type 0} (Good : ℕ → X → Type 0) (d : X) (i : ℕ) (xs : List X) : Type 0 where
  pub done : (j : ℕ) → j < i → Good j (get_or xs j d)
  pub blank : (j : ℕ) → i ≤ j → get_or xs j d ≡ d

pub filled_start : {X : Type 0} (Good : ℕ → X → Type 0) (d : X) (n : ℕ) → Filled Good d 0 (replicate n d)
filled_start {X} Good d n = record { done = λ j h. absurd (omega arith); blank = λ j h. replicate_at n j d }

pub filled_more : {X : Type 0} (Good : ℕ → X → Type 0) (d : X) (i : ℕ) (xs : List X) (x : X) → i < length xs → Good i x → Filled Good d i xs → Filled Good d (i + 1) (set xs i x)
filled_more Good d i xs x h g f = record {
  done = λ j l. ⊎_elim
      (λ e. subst (λ k. Good k (get_or (set xs i x) k d)) (sym e) (subst (Good i) (sym (get_or-set_same xs i x d h)) g))
      (λ e. subst (Good j) (sym (get_or-set_other xs i j x d e)) (f.done j (omega arith)))
      (cases_eq j i);
  blank = λ j l. get_or-set_other xs i j x d (λ e. omega arith) ∙ f.blank j (omega arith);
}

abbrev pub CostAt : Problem → ℕ → ℕ → Type 0
CostAt p j x = x ≡ nat_abs (move_at p (j + 1)).cost

abbrev pub NeedsAt : Problem → ℕ → ℕ → Type 0
NeedsAt p j w = Word w (needs_of p (move_at p (j + 1)).needs)

abbrev pub RowAt : Problem → State → ℕ → ℕ → List ℕ → Type 0
RowAt p s j = Row p s (chain p.links (move_at p (j + 1)).effects)

pub record Filling (p : Problem) (s : State) (i : ℕ) (costs needs reach : List ℕ) (gains : List (List ℕ)) : Type 0 where
  pub costs_long : length costs ≡ 257
  pub needs_long : length needs ≡ 257
  pub reach_long : length reach ≡ 257
  pub gains_long : length gains ≡ 256
  pub costing : Filled (CostAt p) 0 i costs
  pub needing : Filled (NeedsAt p) 0 i needs
  pub reaching : Filled (λ j w. RowAt p s j w (get_or gains j [])) 0 i reach
  pub zeros : (j : ℕ) → i ≤ j → j < 256 → get_or gains j [] ≡ replicate 64 0

filling_start : (p : Problem) (s : State) → Filling p s 0 (replicate 257 0) (replicate 257 0) (replicate 257 0) (replicate 256 (replicate 64 0))
filling_start p s = record {
  costs_long = refl;
  needs_long = refl;
  reach_long = refl;
  gains_long = refl;
  costing = filled_start (CostAt p) 0 257;
  needing = filled_start (NeedsAt p) 0 257;
  reaching = filled_start (λ j w. RowAt p s j w (get_or (replicate 256 (replicate 64 0)) j [])) 0 257;
  zeros = λ j h l. get_or-replicate 256 j (replicate {A = ℕ} 64 0) [] l;
}

-- a blank question, before the first move
pub filling_blank : (p : Problem) (s : State) (q : Question) → Blank q → Filling p s 0 q.costs q.needs q.reach q.gains
filling_blank p s q b =
    subst (λ z. Filling p s 0 z q.needs q.reach q.gains) (sym b.costs)
    (subst (λ z. Filling p s 0 (replicate 257 0) z q.reach q.gains) (sym b.needs)
    (subst₂ (Filling p s 0 (replicate 257 0) (replicate 257 0)) (sym b.reach) (sym b.gains) (filling_start p s)))

pub filling_more : (p : Problem) (s : State) (i : ℕ) (costs needs reach : List ℕ) (gains : List (List ℕ)) (cost word row : ℕ) (raised : List ℕ)
    → i < 256 → CostAt p i cost → NeedsAt p i word → RowAt p s i row raised → Filling p s i costs needs reach gains → Filling p s (i + 1) (set costs i cost) (set needs i word) (set reach i row) (set gains i raised)
filling_more p s i costs needs reach gains cost word row raised h c n r f = record {
  costs_long = length-set costs i cost ∙ f.costs_long;
  needs_long = length-set needs i word ∙ f.needs_long;
  reach_long = length-set reach i row ∙ f.reach_long;
  gains_long = length-set gains i raised ∙ f.gains_long;
  costing = filled_more (CostAt p) 0 i costs cost (let l = f.costs_long in omega arith) c f.costing;
  needing = filled_more (NeedsAt p) 0 i needs word (let l = f.needs_long in omega arith) n f.needing;
  reaching = filled_more (λ j w. RowAt p s j w (get_or (set gains i raised) j [])) 0 i reach row (let l = f.reach_long in omega arith)
      (subst (RowAt p s i row) (sym (get_or-set_same gains i raised [] (let l = f.gains_long in omega arith))) r)
      (record { done = λ j l. subst (RowAt p s j (get_or reach j 0)) (sym (get_or-set_other gains i j raised [] (λ e. omega arith))) (f.reaching.done j l); blank = f.reaching.blank });
  zeros = λ j h l. get_or-set_other gains i j raised [] (λ e. omega arith) ∙ f.zeros j (omega arith) l;
}

module _ (p : Problem) (s : State) (q : Question) (i : ℕ) (needs : List ℕ) (word : ℕ) where
  pub filling_end : Filling p s i q.costs needs q.reach q.gains → i ≡ length p.moves → length p.moves ≤ 256 → q.needs ≡ set needs (length p.moves) word → Word word (needs_of p p.head.goal)
      → q.facts ≡ p.head.facts → q.nodes ≡ node_count p → q.actions ≡ length p.moves + 1 → Standing p s q.holds q.shorts → Needing q.needs q.needing → Needing q.reach q.reaching → Prepared p s q
  filling_end f e few n w a b d t g k = record {
    facts = a;
    nodes = b;
    actions = d;
    standing = t;
    costs = λ j h. f.costing.done j (omega arith);
    no_costs = λ j h. f.costing.blank j (omega arith);
    needs = λ j h. subst (NeedsAt p j) (sym (ap (λ ws. get_or ws j 0) n ∙ get_or-set_other needs (length p.moves) j word 0 (λ z. omega arith))) (f.needing.done j (omega arith));
    goal = subst (λ x. Word x (needs_of p p.head.goal)) (sym (ap (λ ws. get_or ws (length p.moves) 0) n ∙ get_or-set_same needs (length p.moves) word 0 (let l = f.needs_long in omega arith))) w;
    rows = λ j h. f.reaching.done j (omega arith);
    no_reach = λ j h. f.reaching.blank j (omega arith);
    no_needs = λ j h. ap (λ ws. get_or ws j 0) n ∙ get_or-set_other needs (length p.moves) j word 0 (λ z. omega arith) ∙ f.needing.blank j (omega arith);
    needing = g;
    reaching = k;
  }
