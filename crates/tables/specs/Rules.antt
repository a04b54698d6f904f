-- The rules that the tables of a task keep, apart from the order in which a check tells what is broken.
--   QuantityKeeps   three numbers of size at most 100,000, the start in the range
--   KindOf          the kinds of link that a chain may hold
--   LinkKeeps       link n of a chain: its kind, its subject exists, its amount, its next is 0 or a later link
--   LinkFits        a link keeps the rules at some number
--   VisitKeeps      what a walk meets is a link of the table that keeps the rules
--   quantities_of   the quantities that links name
--   Once            no number comes twice in a list
--   ChainKeeps      the chain from number n: every link keeps the rules, and no quantity is named twice
--   ConditionKeeps, MoveKeeps   a record's own fields and its chains
--   Keeps           the tables keep all rules
use Rattle.std.specs.Prelude.{◌≡◌, ℕ, ◌^◌, ◌<◌, ◌≤◌, cond, ◌⊎◌, List, [], ◌∷◌, length, pos, ◌≤ℤ◌, ◌≢◌, unsigned_abs}
use Rattle.std.specs.List.{AllByRecursion}
use Rattle.tables.specs.Chains.{Visit, link, missing, visits, chain}
use Rattle.tables.specs.Check.{names_quantity}
use Rattle.tables.specs.Problem.{Problem}
use Rattle.tables.specs.declared.Quantity.{Quantity}
use Rattle.tables.specs.declared.Condition.{Condition}
use Rattle.tables.specs.declared.Move.{Move}
use Rattle.tables.specs.declared.Link.{Link}
use Rattle.tables.specs.declared.Role.{Role}
use Rattle.tables.specs.declared.Role.TheVariants.{Terms, Needs, Effects}

pub record QuantityKeeps (q : Quantity) : Type 0 where
  pub lowest : unsigned_abs q.lowest ≤ 100000
  pub highest : unsigned_abs q.highest ≤ 100000
  pub start : unsigned_abs q.start ≤ 100000
  pub above : q.lowest ≤ℤ q.start
  pub below : q.start ≤ℤ q.highest

abbrev pub KindOf : Role → ℕ → Type 0
KindOf Terms k = k ≡ 1
KindOf Needs k = (k ≡ 2) ⊎ (k ≡ 3)
KindOf Effects k = (4 ≤ k) × (k ≤ 6)

pub record LinkKeeps (p : Problem) (r : Role) (n : ℕ) (l : Link) : Type 0 where
  pub kind : KindOf r l.kind
  pub quantity : (l.kind ≡ 1) ⊎ (l.kind ≡ 6) → (1 ≤ l.subject) × (l.subject ≤ length p.quantities)
  pub condition : l.kind ≡ 3 → (1 ≤ l.subject) × (l.subject ≤ length p.conditions)
  pub fact : (l.kind ≡ 2) ⊎ ((l.kind ≡ 4) ⊎ (l.kind ≡ 5)) → l.subject < p.head.facts
  pub weight : l.kind ≡ 1 → (1 ≤ unsigned_abs l.amount) × (unsigned_abs l.amount ≤ 10)
  pub change : l.kind ≡ 6 → (1 ≤ unsigned_abs l.amount) × (unsigned_abs l.amount ≤ 200000)
  pub next : (l.next ≡ 0) ⊎ (n < l.next)

abbrev pub LinkFits : Problem → Role → Link → Type 0
LinkFits p r l = (n : ℕ) × LinkKeeps p r n l

abbrev pub VisitKeeps : Problem → Role → Visit → Type 0
VisitKeeps p r (link n l) = LinkKeeps p r n l
VisitKeeps p r (missing n) = ⊥

unfoldable pub quantities_of : List Link → List ℕ
quantities_of [] = []
quantities_of (l ∷ ls) = cond (names_quantity l.kind) (l.subject ∷ quantities_of ls) (quantities_of ls)

abbrev pub Once : List ℕ → Type 0
Once [] = Unit {0}
Once (x ∷ xs) = AllByRecursion (λ y. x ≢ y) xs × Once xs

pub record ChainKeeps (p : Problem) (r : Role) (n : ℕ) : Type 0 where
  pub met : AllByRecursion (VisitKeeps p r) (visits p.links n)
  pub once : Once (quantities_of (chain p.links n))

pub record ConditionKeeps (p : Problem) (c : Condition) : Type 0 where
  pub kind : c.kind ≤ 1
  pub bound : unsigned_abs c.bound ≤ 20000000
  pub terms : ChainKeeps p Terms c.terms

pub record MoveKeeps (p : Problem) (m : Move) : Type 0 where
  pub cost_low : pos 0 ≤ℤ m.cost
  pub cost_high : unsigned_abs m.cost ≤ 10000
  pub needs : ChainKeeps p Needs m.needs
  pub effects : ChainKeeps p Effects m.effects

pub record Keeps (p : Problem) : Type 0 where
  pub facts : p.head.facts ≤ 64
  pub few_quantities : length p.quantities ≤ 16
  pub few_conditions : length p.conditions ≤ 64
  pub few_moves : length p.moves ≤ 256
  pub few_links : length p.links ≤ 4096
  pub start : p.head.start < 2 ^ p.head.facts
  pub quantities : AllByRecursion QuantityKeeps p.quantities
  pub conditions : AllByRecursion (ConditionKeeps p) p.conditions
  pub moves : AllByRecursion (MoveKeeps p) p.moves
  pub goal : ChainKeeps p Needs p.head.goal
