-- LM-cut by rounds over a relaxed task. A value is a number, or None for infinite.
--   repeated           a function applied n times
--   ceil_div           a quotient rounded up
--   weight             what an edge weighs where r is left of its action's cost: r for a fact, shortfall × r / gain, rounded down
--   smaller, larger, plus, above   the order of values and their sums, with infinite above every number
--   Loaded             an action, with what is left of its cost
--   loaded             the actions with their remainders
--   value_at           the value of a node
--   largest            the largest value among needs, 0 without needs
--   offer              the smallest weight plus need value that an action's reaches offer to a node
--   best               the smallest offer of all actions to a node
--   sweep              each node that holds has 0, any other its best offer from the previous values
--   first_values       0 where a node holds, else infinite
--   values             the values after as many sweeps as there are nodes
--   chosen             the need of largest value, the smallest node on a tie; none for an action without needs: the ground
--   Edges              an action's edges in the justification graph: they run from its chosen need, or the ground, to each node reached
--   graph              the edges of all actions
--   grow               a zone, a truth value for each node, with the nodes that pass a test added
--   in_zone            a node is in a zone
--   goal_zone          the goal node and all nodes that lead to it over edges of weight 0
--   starts             an edge runs from the ground or from a node of a zone
--   start_zone         the nodes that hold, and what edges reach from the ground and these without entering the goal zone
--   Crossing           an action's edges in the cut, from the start zone into the goal zone, with what is left of its cost
--   cut                the crossings of all actions, empty for those that do not cross
--   lightest, cut_weight   the smallest weight of an action's crossing edges, and of the cut
--   charge             what an action in the cut pays: the largest over its crossing edges of the cut's weight × gain / shortfall, rounded up
--   left_after         the remainders after a round
--   grounds_of         the records of a round, by move
--   Outcome            dead, or a total with the records
--   cap                5,040 × 10^12: no round begins at such a total
--   rounds             the rounds from the k-th, with the total so far and the remainders; the first number limits how many there are,
--                      and is never what ends them
--   pairs, full_costs  that limit, the number of edges; and the remainders at the start
--   outcome            the rounds of a relaxed task
--   told, listed       what an outcome answers, and its landmark records
--   estimate, grounds  the answer to a problem and a record, and its landmark records; at least 0 and none where the record is no state
use Rattle.std.specs.Prelude.{ℕ, zero, suc, ◌+◌, ◌-◌, ◌*◌, ◌/◌, ◌^◌, min, max, Bool, true, false, cond, not, ◌&&◌, ◌||◌, List, [], ◌∷◌, ◌++◌, map, length, replicate, Some, None, filter, Option, ◌==◌, nat_le, nat_lt, slice_index_or, slice_set}
use Rattle.estimate.specs.declared.estimate.Estimate.{Estimate}
use Rattle.estimate.specs.declared.estimate.Estimate.TheVariants.{AtLeast as at_least, Dead as dead}
use Rattle.landmarks.specs.declared.Ground.{Ground}
use Rattle.tables.specs.Problem.{Problem}
use Rattle.task.specs.States.{is_state}
use Rattle.task.specs.declared.state.State.{State}
use Rattle.landmarks.specs.Relaxed.{Reach, Action, Relaxed, goal, relaxed}

unfoldable pub repeated : {X : Type 0} → (X → X) → ℕ → X → X
repeated f zero x = x
repeated f (suc n) x = repeated f n (f x)

abbrev pub ceil_div : ℕ → ℕ → ℕ
ceil_div a b = (a + (b - 1)) / b

abbrev pub weight : ℕ → Reach → ℕ
weight r x = x.short * r / x.gain

-- ---- values

abbrev pub Value : Type 0
Value = Option ℕ

abbrev pub smaller : Value → Value → Value
smaller None w = w
smaller (Some a) None = Some a
smaller (Some a) (Some b) = Some (min a b)

abbrev pub larger : Value → Value → Value
larger None w = None
larger (Some a) None = None
larger (Some a) (Some b) = Some (max a b)

abbrev pub plus : Value → ℕ → Value
plus None w = None
plus (Some a) w = Some (a + w)

abbrev pub above : Value → Value → Bool
above None None = false
above None (Some b) = true
above (Some a) None = false
above (Some a) (Some b) = nat_lt b a

pub record Loaded : Type 0 where
  pub left : ℕ
  pub needs : List ℕ
  pub reaches : List Reach

unfoldable pub loaded : List Action → List ℕ → List Loaded
loaded [] rs = []
loaded (a ∷ as') [] = record { left = 0; needs = a.needs; reaches = a.reaches } ∷ loaded as' []
loaded (a ∷ as') (r ∷ rs) = record { left = r; needs = a.needs; reaches = a.reaches } ∷ loaded as' rs

abbrev pub value_at : List Value → ℕ → Value
value_at vs n = slice_index_or vs n None

unfoldable pub largest : List Value → List ℕ → Value
largest vs [] = Some 0
largest vs (n ∷ ns) = larger (value_at vs n) (largest vs ns)

unfoldable pub offer : ℕ → Value → List Reach → ℕ → Value
offer r v [] n = None
offer r v (x ∷ xs) n = smaller (cond (x.node == n) (plus v (weight r x)) None) (offer r v xs n)

unfoldable pub best : List Value → List Loaded → ℕ → Value
best vs [] n = None
best vs (q ∷ qs) n = smaller (offer q.left (largest vs q.needs) q.reaches n) (best vs qs n)

unfoldable pub swept_from : List Value → List Loaded → ℕ → List Bool → List Value
swept_from vs qs n [] = []
swept_from vs qs n (h ∷ hs) = cond h (Some 0) (best vs qs n) ∷ swept_from vs qs (n + 1) hs

abbrev pub sweep : Relaxed → List Loaded → List Value → List Value
sweep rx qs vs = swept_from vs qs 0 rx.holds

abbrev pub first_values : List Bool → List Value
first_values hs = map (λ h. cond h (Some 0) None) hs

unfoldable pub values : Relaxed → List Loaded → List Value
values rx qs = repeated (sweep rx qs) rx.nodes (first_values rx.holds)

-- ---- the justification graph

abbrev pub beats : List Value → ℕ → ℕ → Bool
beats vs n m = above (value_at vs n) (value_at vs m) || (not (above (value_at vs m) (value_at vs n)) && nat_lt n m)

abbrev pub picked : List Value → ℕ → Option ℕ → Option ℕ
picked vs n None = Some n
picked vs n (Some m) = Some (cond (beats vs n m) n m)

unfoldable pub chosen : List Value → List ℕ → Option ℕ
chosen vs [] = None
chosen vs (n ∷ ns) = picked vs n (chosen vs ns)

pub record Edges : Type 0 where
  pub source : Option ℕ
  pub left : ℕ
  pub reaches : List Reach

abbrev pub edges_of : List Value → Loaded → Edges
edges_of vs q = record { source = chosen vs q.needs; left = q.left; reaches = q.reaches }

abbrev pub graph : List Value → List Loaded → List Edges
graph vs qs = map (edges_of vs) qs

-- ---- zones

abbrev pub in_zone : List Bool → ℕ → Bool
in_zone zone n = slice_index_or zone n false

unfoldable pub grow : (ℕ → Bool) → ℕ → List Bool → List Bool
grow f n [] = []
grow f n (b ∷ bs) = (b || f n) ∷ grow f (n + 1) bs

abbrev pub is_node : Option ℕ → ℕ → Bool
is_node None n = false
is_node (Some m) n = m == n

unfoldable pub weightless_into : List Bool → ℕ → List Reach → Bool
weightless_into zone r [] = false
weightless_into zone r (x ∷ xs) = (weight r x == 0 && in_zone zone x.node) || weightless_into zone r xs

unfoldable pub leads_in : List Edges → List Bool → ℕ → Bool
leads_in [] zone n = false
leads_in (e ∷ es) zone n = (is_node e.source n && weightless_into zone e.left e.reaches) || leads_in es zone n

abbrev pub goal_turn : List Edges → List Bool → List Bool
goal_turn es zone = grow (leads_in es zone) 0 zone

unfoldable pub goal_zone : Relaxed → List Edges → List Bool
goal_zone rx es = repeated (goal_turn es) rx.nodes (slice_set (replicate rx.nodes false) (goal rx) true)

abbrev pub starts : List Bool → Option ℕ → Bool
starts zone None = true
starts zone (Some n) = in_zone zone n

unfoldable pub runs_to : List Reach → ℕ → Bool
runs_to [] n = false
runs_to (x ∷ xs) n = x.node == n || runs_to xs n

unfoldable pub led_to : List Edges → List Bool → ℕ → Bool
led_to [] zone n = false
led_to (e ∷ es) zone n = (starts zone e.source && runs_to e.reaches n) || led_to es zone n

abbrev pub start_turn : List Edges → List Bool → List Bool → List Bool
start_turn es near zone = grow (λ n. not (in_zone near n) && led_to es zone n) 0 zone

unfoldable pub start_zone : Relaxed → List Edges → List Bool → List Bool
start_zone rx es near = repeated (start_turn es near) rx.nodes rx.holds

-- ---- the cut

pub record Crossing : Type 0 where
  pub left : ℕ
  pub edges : List Reach

abbrev pub into : List Bool → List Reach → List Reach
into zone xs = filter (λ x. in_zone zone x.node) xs

abbrev pub crossing : List Bool → List Bool → Edges → Crossing
crossing near start e = record { left = e.left; edges = cond (starts start e.source) (into near e.reaches) [] }

abbrev pub crossings : List Edges → List Bool → List Bool → List Crossing
crossings es near start = map (crossing near start) es

abbrev pub cut_between : Relaxed → List Edges → List Bool → List Crossing
cut_between rx es near = crossings es near (start_zone rx es near)

abbrev pub cut_in : Relaxed → List Edges → List Crossing
cut_in rx es = cut_between rx es (goal_zone rx es)

unfoldable pub cut : Relaxed → List Value → List Loaded → List Crossing
cut rx vs qs = cut_in rx (graph vs qs)

unfoldable pub lightest : ℕ → List Reach → Value
lightest r [] = None
lightest r (x ∷ xs) = smaller (Some (weight r x)) (lightest r xs)

unfoldable pub lightest_of : List Crossing → Value
lightest_of [] = None
lightest_of (c ∷ cs) = smaller (lightest c.left c.edges) (lightest_of cs)

abbrev pub or_zero : Value → ℕ
or_zero None = 0
or_zero (Some a) = a

abbrev pub cut_weight : List Crossing → ℕ
cut_weight cs = or_zero (lightest_of cs)

-- ---- charges

unfoldable pub charge : ℕ → List Reach → ℕ
charge μ [] = 0
charge μ (x ∷ xs) = max (ceil_div (μ * x.gain) x.short) (charge μ xs)

abbrev pub charge_of : ℕ → Crossing → ℕ
charge_of μ c = charge μ c.edges

abbrev pub left_after : ℕ → List Crossing → List ℕ
left_after μ cs = map (λ c. c.left - charge_of μ c) cs

abbrev pub crosses : List Reach → Bool
crosses [] = false
crosses (x ∷ xs) = true

unfoldable pub grounds_of : ℕ → ℕ → ℕ → List Crossing → List Ground
grounds_of k μ m [] = []
grounds_of k μ m (c ∷ cs) =
    let rest = grounds_of k μ (m + 1) cs in
    cond (crosses c.edges) (record { round = k; weight = μ; number = m; charge = charge_of μ c } ∷ rest) rest

-- ---- rounds

pub data Outcome : Type 0 where
  Dead : Outcome
  Found : ℕ → List Ground → Outcome

abbrev pub noting : List Ground → Outcome → Outcome
noting gs Dead = Dead
noting gs (Found t hs) = Found t (gs ++ hs)

abbrev pub cap : ℕ
cap = 5040 * 10 ^ 12

abbrev pub unless_ended : Bool → ℕ → (Unit {0} → Outcome) → Outcome
unless_ended true total next = Found total []
unless_ended false total next = next tt

-- dead where the goal's value is infinite; the end where it is 0 or the total has reached the cap; else the next round
abbrev pub settled : Value → ℕ → (Unit {0} → Outcome) → Outcome
settled None total next = Dead
settled (Some v) total next = unless_ended (v == 0 || nat_le cap total) total next

unfoldable pub rounds : Relaxed → ℕ → ℕ → ℕ → List ℕ → Outcome
rounds rx zero k total rs = Found total []
rounds rx (suc fuel) k total rs =
    let qs = loaded rx.actions rs in
    let vs = values rx qs in
    settled (value_at vs (goal rx)) total (λ _.
    let cs = cut rx vs qs in
    let μ = cut_weight cs in
    noting (grounds_of k μ 1 cs) (rounds rx fuel (k + 1) (total + μ) (left_after μ cs)))

unfoldable pub pairs : List Action → ℕ
pairs [] = 0
pairs (a ∷ as') = length a.reaches + pairs as'

abbrev pub full_costs : List Action → List ℕ
full_costs as' = map (λ a. 5040 * a.cost) as'

unfoldable pub outcome : Relaxed → Outcome
outcome rx = rounds rx (pairs rx.actions + 1) 1 0 (full_costs rx.actions)

-- ---- answers

abbrev pub told : Outcome → Estimate
told Dead = dead
told (Found t gs) = at_least (min (10 ^ 12) (ceil_div t 5040))

abbrev pub listed : Outcome → List Ground
listed Dead = []
listed (Found t gs) = gs

unfoldable pub estimate : Problem → State → Estimate
estimate p s = cond (is_state p s) (told (outcome (relaxed p s))) (at_least 0)

unfoldable pub grounds : Problem → State → List Ground
grounds p s = cond (is_state p s) (listed (outcome (relaxed p s))) []
