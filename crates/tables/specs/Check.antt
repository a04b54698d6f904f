-- The table check: the first fault met, in the order in which faults are told.
--   told              the check's answer: a fault, or none
--   ◌or◌              the first of two faults that is there
--   unless            a fault, unless a test passes
--   within            a whole number's size is at most a limit
--   in_range          a value is in a quantity's range
--   quantity_keeps    a quantity's three numbers keep their limit, and its start is in its range
--   kind_fits         the kind of link is one that the chain may hold
--   subject_fits      the fact, condition or quantity that a link names exists
--   amount_fits       a weight or a change keeps its limit and is not 0; the amount of other kinds is not looked at
--   names_quantity    the kind of link names a quantity
--   among             a number is in a list
--   also              the quantities named, with a link's own
--   next_fits         a link's next is 0 or above its own number
--   link_fault        the first fault of link n, where its subject was named before it or not: kind, subject, amount,
--                     repeated quantity, next
--   at_link           a link's fault under its number
--   visits_fault      the first fault of a walk, the quantities named before it given
--   chain_fault       the first fault of the chain that begins at a number
--   owned             a chain's fault as a fault of the record that owns the chain
--   each_fault        the first fault of the records of a table, numbered
--   sizes_fault .. goal_fault   the first fault of each part
--   first_fault       the first fault of the tables
--   accepted          there is none
use Rattle.std.specs.Prelude.{ℕ, ◌+◌, ◌^◌, Bool, true, false, cond, not, ◌&&◌, ◌||◌, List, [], ◌∷◌, length, ℤ, is_some, Some, None, Ok, Err, Option, Result, ◌==◌, int_le, nat_le, nat_lt, unsigned_abs}
use Rattle.tables.specs.Chains.{Visit, link, missing, visits}
use Rattle.tables.specs.Problem.{Problem}
use Rattle.tables.specs.declared.Quantity as quantity
use Rattle.tables.specs.declared.Condition as condition
use Rattle.tables.specs.declared.Move as «move»
use Rattle.tables.specs.declared.Link as declared_link
use Rattle.tables.specs.declared.Role.{Role}
use Rattle.tables.specs.declared.Role.TheVariants as role
use Rattle.tables.specs.declared.fault.LinkFault.{LinkFault}
use Rattle.tables.specs.declared.fault.LinkFault.TheVariants.{Missing, Kind, Subject, Amount, Repeated, Next}
use Rattle.tables.specs.declared.fault.ChainFault.{ChainFault}
use Rattle.tables.specs.declared.fault.Table.TheVariants as table
use Rattle.tables.specs.declared.fault.TaskFault.{TaskFault}
use Rattle.tables.specs.declared.fault.TaskFault.TheVariants.{TooManyFacts, TooLong, StartWord, Quantity, ConditionKind, ConditionBound, Terms, Cost, Needs, Effects, Goal}

abbrev pub told : {F : Type 0} → Option F → Result (Unit {0}) F
told None = Ok tt
told (Some f) = Err f

infixr 30 ◌or◌
abbrev pub ◌or◌ : {F : Type 0} → Option F → Option F → Option F
None or g = g
Some f or g = Some f

abbrev pub unless : {F : Type 0} → Bool → F → Option F
unless true f = None
unless false f = Some f

abbrev pub within : ℕ → ℤ → Bool
within n x = nat_le (unsigned_abs x) n

-- ---- one record

abbrev pub in_range : quantity.Quantity → ℤ → Bool
in_range q x = int_le q.lowest x && int_le x q.highest

abbrev pub quantity_keeps : quantity.Quantity → Bool
quantity_keeps q =
    within 100000 q.lowest && within 100000 q.highest && within 100000 q.start && in_range q q.start

abbrev pub kind_fits : Role → ℕ → Bool
kind_fits role.Terms k = k == 1
kind_fits role.Needs k = k == 2 || k == 3
kind_fits role.Effects k = nat_le 4 k && nat_le k 6

abbrev pub names_quantity : ℕ → Bool
names_quantity k = k == 1 || k == 6

abbrev pub subject_fits : Problem → ℕ → ℕ → Bool
subject_fits p k s =
    cond (names_quantity k) (nat_le 1 s && nat_le s (length p.quantities))
    (cond (k == 3) (nat_le 1 s && nat_le s (length p.conditions)) (nat_lt s p.head.facts))

abbrev pub amount_fits : ℕ → ℤ → Bool
amount_fits k a =
    cond (k == 1) (nat_le 1 (unsigned_abs a) && within 10 a)
    (cond (k == 6) (nat_le 1 (unsigned_abs a) && within 200000 a) true)

abbrev pub among : List ℕ → ℕ → Bool
among [] q = false
among (x ∷ xs) q = x == q || among xs q

abbrev pub also : declared_link.Link → List ℕ → List ℕ
also l named = cond (names_quantity l.kind) (l.subject ∷ named) named

abbrev pub next_fits : ℕ → ℕ → Bool
next_fits n next = next == 0 || nat_lt n next

-- ---- chains

abbrev pub link_fault : Problem → Role → Bool → ℕ → declared_link.Link → Option LinkFault
link_fault p r before n l =
    unless (kind_fits r l.kind) Kind
    or unless (subject_fits p l.kind l.subject) Subject
    or unless (amount_fits l.kind l.amount) Amount
    or unless (not (names_quantity l.kind && before)) Repeated
    or unless (next_fits n l.next) Next

abbrev pub at_link : ℕ → Option LinkFault → Option ChainFault
at_link n None = None
at_link n (Some f) = Some (record { link = n; fault = f })

unfoldable pub visits_fault : Problem → Role → List ℕ → List Visit → Option ChainFault
visits_fault p r named [] = None
visits_fault p r named (missing n ∷ vs) = at_link n (Some Missing)
visits_fault p r named (link n l ∷ vs) = at_link n (link_fault p r (among named l.subject) n l) or visits_fault p r (also l named) vs

unfoldable pub chain_fault : Problem → Role → ℕ → Option ChainFault
chain_fault p r n = visits_fault p r [] (visits p.links n)

abbrev pub owned : (ChainFault → TaskFault) → Option ChainFault → Option TaskFault
owned owner None = None
owned owner (Some f) = Some (owner f)

-- ---- tables

unfoldable pub each_fault : {X : Type 0} → (ℕ → X → Option TaskFault) → ℕ → List X → Option TaskFault
each_fault f k [] = None
each_fault f k (x ∷ xs) = f k x or each_fault f (k + 1) xs

abbrev pub sizes_fault : Problem → Option TaskFault
sizes_fault p =
    unless (nat_le p.head.facts 64) TooManyFacts
    or unless (nat_le (length p.quantities) 16) (TooLong table.Quantities)
    or unless (nat_le (length p.conditions) 64) (TooLong table.Conditions)
    or unless (nat_le (length p.moves) 256) (TooLong table.Moves)
    or unless (nat_le (length p.links) 4096) (TooLong table.Links)
    or unless (nat_lt p.head.start (2 ^ p.head.facts)) StartWord

abbrev pub quantity_fault : ℕ → quantity.Quantity → Option TaskFault
quantity_fault k q = unless (quantity_keeps q) (Quantity k)

abbrev pub condition_fault : Problem → ℕ → condition.Condition → Option TaskFault
condition_fault p k c =
    unless (nat_le c.kind 1) (ConditionKind k)
    or unless (within 20000000 c.bound) (ConditionBound k)
    or owned (Terms k) (chain_fault p role.Terms c.terms)

abbrev pub move_fault : Problem → ℕ → «move».Move → Option TaskFault
move_fault p k m =
    unless (int_le (ℤ.pos 0) m.cost && within 10000 m.cost) (Cost k)
    or owned (Needs k) (chain_fault p role.Needs m.needs)
    or owned (Effects k) (chain_fault p role.Effects m.effects)

abbrev pub goal_fault : Problem → Option TaskFault
goal_fault p = owned Goal (chain_fault p role.Needs p.head.goal)

unfoldable pub first_fault : Problem → Option TaskFault
first_fault p =
    sizes_fault p
    or each_fault quantity_fault 1 p.quantities
    or each_fault (condition_fault p) 1 p.conditions
    or each_fault (move_fault p) 1 p.moves
    or goal_fault p

-- a problem is accepted where no fault is met
unfoldable pub accepted : Problem → Bool
accepted p = not (is_some (first_fault p))
