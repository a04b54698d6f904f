-- Going along a chain of an accepted task: what is known of the links that are still to come.
use Rattle.std.proofs.Common.{◌≡◌, ℕ, ◌+◌, ◌-◌, ◌<◌, ◌≤◌, true, cond, eqb, List, [], ◌∷◌, length, get_or, suc, ◌^◌, ℤ, ◌*ℤ◌, nat_abs, ◌≤ℤ◌, Some, None, sym, ap, ◌∙◌, subst, subst₂, inl, ⊎_elim, arith, w32, SFits}
use Rattle.std.proofs.ByRecursion.{All-get_or}
use Rattle.std.proofs.lemmas.Bool.{cond_both, eqb-false, and_parts}
use Rattle.std.proofs.lemmas.Int.{ints}
use lib.Signed.{le_z}
use Rattle.std.specs.List.{AllByRecursion}
use Rattle.tables.specs.Chains.{Visit, link, missing, visits_from, visits, links_of, chain}
use Rattle.tables.specs.Problem.{Problem}
use Rattle.tables.specs.Rules.{LinkFits, VisitKeeps, ChainKeeps, QuantityKeeps, ConditionKeeps, MoveKeeps, Keeps}
use Rattle.task.specs.Walk.{Leads, Walkable, Stepped, steps_left}
use Rattle.task.specs.States.{quantity_at, condition_at, move_at}
use Rattle.task.specs.Tasks.{problem}
use Rattle.task.specs.declared.accepted.Task.{Task}
use Rattle.tables.specs.declared.Role.TheVariants.{Terms, Needs}
use Rattle.tables.proofs.Accepts.{decides_accepted, decides_int_le}
use Rattle.task.proofs.Ints.{product_size, size_fits32, fits32_size}
use Rattle.tables.specs.Check.{in_range}
use Rattle.tables.specs.declared.Quantity.{Quantity}
use Rattle.tables.specs.declared.Link.{Link}
use Rattle.tables.specs.declared.Move.{Move}
use Rattle.tables.specs.declared.Role.{Role}

visits_lead : (p : Problem) (r : Role) (vs : List Visit) → AllByRecursion (VisitKeeps p r) vs → AllByRecursion Leads vs
visits_lead p r [] h = tt
visits_lead p r (link n l ∷ vs) h = (h.0.next, visits_lead p r vs h.1)
visits_lead p r (missing n ∷ vs) h = absurd h.0

visits_fit : (p : Problem) (r : Role) (vs : List Visit) → AllByRecursion (VisitKeeps p r) vs → AllByRecursion (LinkFits p r) (links_of vs)
unfolding links_of
visits_fit p r [] h = tt
visits_fit p r (link n l ∷ vs) h = ((n, h.0), visits_fit p r vs h.1)
visits_fit p r (missing n ∷ vs) h = absurd h.0

pub keeps_walk : (p : Problem) (r : Role) (n : ℕ) → ChainKeeps p r n → Walkable p.links n
unfolding Walkable
keeps_walk p r n k = visits_lead p r (visits p.links n) k.met

pub keeps_fit : (p : Problem) (r : Role) (n : ℕ) → ChainKeeps p r n → AllByRecursion (LinkFits p r) (chain p.links n)
keeps_fit p r n k = visits_fit p r (visits p.links n) k.met

-- ---- a walk from link to link, at number n of the table ls

pub record Going (p : Problem) (r : Role) (ls : List Link) (n : ℕ) : Type 0 where
  pub can : Walkable ls n
  pub fits : AllByRecursion (LinkFits p r) (chain ls n)
  pub short : steps_left ls n ≤ 4096

pub going_start : (p : Problem) (r : Role) (first : ℕ) (ls : List Link) (n : ℕ) → Keeps p → ChainKeeps p r first → ls ≡ p.links → n ≡ first → Going p r ls n
going_start p r first ls n t k l a =
    record {
      can = subst₂ Walkable (sym l) (sym a) (keeps_walk p r first k);
      fits = subst₂ (λ ks m. AllByRecursion (LinkFits p r) (chain ks m)) (sym l) (sym a) (keeps_fit p r first k);
      short = subst (λ ks. steps_left ks n ≤ 4096) (sym l) few;
    }
  where
    few : steps_left p.links n ≤ 4096
    few = cond_both (eqb n 0) 0 (length p.links + 1 - n) (λ m. m ≤ 4096) (λ _. omega arith) (λ e. let ne = eqb-false n 0 e in omega (arith, t.few_links))

pub record Gone (p : Problem) (r : Role) (l : Link) (ls : List Link) (n : ℕ) (ls' : List Link) (n' : ℕ) : Type 0 where
  pub fits : LinkFits p r l
  pub first : chain ls n ≡ l ∷ chain ls' n'
  pub rest : Going p r ls' n'
  pub fewer : steps_left ls' n' < steps_left ls n

pub going_step : (p : Problem) (r : Role) (l : Link) (ls : List Link) (n : ℕ) (ls' : List Link) (n' : ℕ) → Going p r ls n → Stepped ls n (Some l) ls' n'
    → Walkable ls' n' × Unit {0} × (steps_left ls' n' < steps_left ls n) → Gone p r l ls n ls' n'
unfolding Stepped
going_step p r l ls n ls' n' g s on =
    let first : chain ls n ≡ l ∷ chain ls' n' = s.1 ∙ ap (λ ks. l ∷ chain ks n') (sym s.0) in
    let all = subst (AllByRecursion (LinkFits p r)) first g.fits in
    record { fits = all.0; first = first; rest = record { can = on.0; fits = all.1; short = omega (arith, g.short, on.2) }; fewer = on.2 }

pub going_end : (ls : List Link) (n : ℕ) (ls' : List Link) (n' : ℕ) → Stepped ls n None ls' n' → chain ls n ≡ []
unfolding Stepped
going_end ls n ls' n' s = s.1

-- ---- what the rules say of a link

pub kept_rules : (t : Task) → Keeps (problem t)
kept_rules t = (decides_accepted (problem t)).0 t.kept

pub term_of : (p : Problem) (l : Link) → Keeps p → LinkFits p Terms l → (1 ≤ l.subject) × (l.subject ≤ 16) × (nat_abs l.amount ≤ 10)
term_of p l t f =
    let q = f.1.quantity (inl f.1.kind) in
    (q.0, omega (arith, q.1, t.few_quantities), (f.1.weight f.1.kind).1)

pub need_fact : (p : Problem) (l : Link) → Keeps p → LinkFits p Needs l → l.kind ≡ 2 → l.subject < 64
need_fact p l t f k = let h = f.1.fact (inl k) in omega (arith, h, t.facts)

pub need_condition : (p : Problem) (l : Link) → LinkFits p Needs l → (l.kind ≡ 2 → ⊥) → (1 ≤ l.subject) × (l.subject ≤ length p.conditions)
need_condition p l f n = f.1.condition (⊎_elim (λ e. absurd (n e)) (λ e. e) f.1.kind)

pub condition_keeps : (p : Problem) (n : ℕ) → Keeps p → 1 ≤ n → n ≤ length p.conditions → ConditionKeeps p (condition_at p n)
condition_keeps p n t a b = All-get_or (ConditionKeeps p) p.conditions (n - 1) _ (omega arith) t.conditions

pub move_keeps : (p : Problem) (n : ℕ) → Keeps p → 1 ≤ n → n ≤ length p.moves → MoveKeeps p (move_at p n)
move_keeps p n t a b = All-get_or (MoveKeeps p) p.moves (n - 1) _ (omega arith) t.moves

-- the move that was found under a number
pub move_found : (t : Task) (n : ℕ) (m : Move) → (1 ≤ n) × (n ≤ length (problem t).moves) × ((d : Move) → m ≡ get_or (problem t).moves (n - 1) d) → MoveKeeps (problem t) m
move_found t n m e = subst (MoveKeeps (problem t)) (sym (e.2 _)) (move_keeps (problem t) n (kept_rules t) e.0 e.1)

pub quantity_holds : (p : Problem) (n : ℕ) → Keeps p → 1 ≤ n → n ≤ length p.quantities → QuantityKeeps (quantity_at p n)
quantity_holds p n t a b = All-get_or QuantityKeeps p.quantities (n - 1) _ (omega arith) t.quantities

-- a value in a quantity's range is small, and so has 32 bits
pub range_size : (q : Quantity) (v : ℤ) → QuantityKeeps q → in_range q v ≡ true → nat_abs v ≤ 100000
range_size q v k h =
    let e = and_parts (le_z q.lowest v) (le_z v q.highest) h in
    let low : q.lowest ≤ℤ v = (decides_int_le q.lowest v).0 e.0 in
    let high : v ≤ℤ q.highest = (decides_int_le v q.highest).0 e.1 in
    omega (arith, ints, k.lowest, k.highest)

pub range_fits : (q : Quantity) (v : ℤ) → QuantityKeeps q → in_range q v ≡ true → SFits w32 v
range_fits q v k h = size_fits32 v (let z = range_size q v k h in omega arith)

-- ---- the sum over terms

-- one term moves a sum by at most this much, at any value of 32 bits
abbrev pub term_limit : ℕ
term_limit = 21474836480

pub term_size : (p : Problem) (l : Link) (v : ℤ) → Keeps p → LinkFits p Terms l → SFits w32 v → nat_abs (l.amount *ℤ v) ≤ term_limit
term_size p l v t f g = product_size l.amount v 10 (2 ^ 31) (term_of p l t f).2 (fits32_size v g)

-- a chain has no more links than the table
links_few : (k : ℕ) (ls : List Link) (n : ℕ) → length (links_of (visits_from k ls n)) ≤ length ls
unfolding links_of visits_from
links_few k [] n = cond_both (eqb n 0) [] (missing n ∷ []) (λ vs. length (links_of vs) ≤ 0) (λ _. omega arith) (λ _. omega arith)
links_few k (l ∷ ls) n =
    let rest = links_few (k + 1) ls (cond (eqb k n) l.next n) in
    cond_both (eqb k n) (link k l ∷ visits_from (k + 1) ls (cond (eqb k n) l.next n)) (visits_from (k + 1) ls (cond (eqb k n) l.next n)) (λ vs. length (links_of vs) ≤ suc (length ls)) (λ _. omega arith) (λ _. omega arith)

pub chain_short : (p : Problem) (n : ℕ) → Keeps p → length (chain p.links n) ≤ 4096
chain_short p n t = let h = links_few 1 p.links n in omega (arith, h, t.few_links)
