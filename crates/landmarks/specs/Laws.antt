-- The laws of LM-cut's rounds.
--   In               an element is in a list
--   ◌≼◌, ◌≺◌         a value is at most, is below another; infinite is above every number
--   ReachFits        a reach is of a node that does not hold, tells its shortfall, and its gain is at least 1
--   WellFormed       a relaxed task as one of a problem and a state is, where the shortfall of each node is given
--   RelaxedFits      the relaxed task of an accepted problem and any record is well formed
--   Settles          nodes that hold have 0, and no offer of an action is below the value of the node that it is made to
--   Supported        an action reaches a node with exactly its value, from needs that hold or have a smaller rank
--   Justified        a valuation in which no offer is too low and each finite node that does not hold is supported, by a ranking with
--                    ranks below the number of nodes. It can only be the values after the sweeps. So any way to find one, such as
--                    lowest first, finds those
--   charged_in       what a move is charged in a round, by landmark records
--   charged_to       what a move is charged over all rounds
--   charged_along    what the moves of a list are charged in a round, counted at each use
--   Sound            an estimate is at most 10^12 and at most the cost of every plan from a state, or there is no plan where it is dead
--   Landmarked       in every plan from a state the charges of each round, counted at each use, add up to at least the weight of
--                    its cut; and over all rounds no move is charged more than 5,040 × its cost
--   EstimateSound, GroundsStand   so it is for LM-cut, at every accepted problem and every record
--   Before, Ordered  landmark records come by round and then by move
--   weights_from, weights   the weights of the rounds that records tell of, each round once, added up
--   Explained        the records come in order, and the estimate is the smaller of 10^12 and the sum of their rounds' weights / 5,040,
--                    rounded up
--   GroundsExplain   so it is for LM-cut, at every accepted problem and every record
--   heavy, heavy_pairs   how many edges of an action, and of all actions, weigh more than 0
--   RoundsEnd        each round leaves fewer edges that weigh more than 0, so their number bounds the rounds: more fuel than that
--                    changes nothing
--   ValuesSettle, ValuesOnly   the values settle, and no other valuation is justified
--   most_left        5,040 × the largest cost
--   heaviest         the largest shortfall × the largest remainder
--   Sizes, SizesStand    how large the numbers of a question can be; on an edge of a cut, `Cutting` bounds weight × gain
--   Counts, CountsStand  how many rounds and records there can be, and which moves the records name
--   Cutting, CutStands   in a round in which the goal's value is a number above 0, the cut weighs at least 1, no edge of it weighs less
--                    than the cut, one weighs just that, weight × gain is at most shortfall × what is left on each of its edges, and
--                    no action is charged more than is left of its cost
--   GoalClosed, StartClosed   a zone that holds what it begins with and all that its rule adds
--   GoalZoneOnly, StartZoneOnly   a zone within the goal zone, or the start zone, that is closed is that zone. So any order of adding
--                    nodes finds it
use Rattle.std.specs.Prelude.{◌≡◌, ℕ, ◌+◌, ◌*◌, ◌^◌, ◌<◌, ◌≤◌, min, Bool, true, false, cond, ◌&&◌, ◌⊎◌, List, [], ◌∷◌, length, drop, Some, None, ◌==◌, slice_index, unsigned_abs}
use Rattle.std.specs.List.{AllByRecursion}
use Rattle.landmarks.specs.Relaxed.{Reach, Action, Relaxed, goal, shortfall, gain_of, relaxed}
use Rattle.landmarks.specs.Rounds.{ceil_div, weight, Value, plus, Loaded, loaded, value_at, largest, values, Edges, in_zone, leads_in, goal_zone, led_to, start_zone, Crossing, cut, cut_weight, charge_of, Found, cap, rounds, outcome, estimate, grounds}
use Rattle.landmarks.specs.declared.Ground.{Ground}
use Rattle.estimate.specs.declared.estimate.Estimate.{Estimate}
use Rattle.estimate.specs.declared.estimate.Estimate.TheVariants.{Dead as dead, AtLeast as at_least}
use Rattle.tables.specs.Check.{accepted}
use Rattle.tables.specs.Chains.{chain}
use Rattle.task.specs.Plans.{cost_of, cost, PlanFrom}
use Rattle.task.specs.States.{is_state, total}
use Rattle.tables.specs.declared.Condition.{Condition}
use Rattle.tables.specs.declared.Move.{Move}
use Rattle.tables.specs.Problem.{Problem}
use Rattle.task.specs.declared.state.State.{State}

abbrev pub In : {X : Type 0} → X → List X → Type 0
In x [] = ⊥
In x (y ∷ ys) = (y ≡ x) ⊎ In x ys

infix 50 ◌≼◌
abbrev pub ◌≼◌ : Value → Value → Type 0
x ≼ None = Unit {0}
None ≼ Some b = ⊥
Some a ≼ Some b = a ≤ b

infix 50 ◌≺◌
abbrev pub ◌≺◌ : Value → Value → Type 0
None ≺ y = ⊥
Some a ≺ None = Unit {0}
Some a ≺ Some b = a < b

-- ---- well formed relaxed tasks

pub record ReachFits (rx : Relaxed) (shorts : ℕ → ℕ) (x : Reach) : Type 0 where
  pub inside : x.node < rx.nodes
  pub unmet : in_zone rx.holds x.node ≡ false
  pub lacks : x.short ≡ shorts x.node
  pub gains : 1 ≤ x.gain

pub record WellFormed (rx : Relaxed) (shorts : ℕ → ℕ) : Type 0 where
  pub some_node : 1 ≤ rx.nodes
  pub long : length rx.holds ≡ rx.nodes
  pub goal_unmet : in_zone rx.holds (goal rx) ≡ false
  pub lacking : (n : ℕ) → in_zone rx.holds n ≡ false → 1 ≤ shorts n
  pub needs : (a : Action) → In a rx.actions → (n : ℕ) → In n a.needs → n < rx.nodes
  pub reaches : (a : Action) → In a rx.actions → (x : Reach) → In x a.reaches → ReachFits rx shorts x

abbrev pub RelaxedFits : Type 0
RelaxedFits = (p : Problem) → accepted p ≡ true → (s : State) → (shorts : ℕ → ℕ) × WellFormed (relaxed p s) shorts

-- ---- values

pub record Settles (rx : Relaxed) (qs : List Loaded) (vs : List Value) : Type 0 where
  pub long : length vs ≡ rx.nodes
  pub held : (n : ℕ) → in_zone rx.holds n ≡ true → value_at vs n ≡ Some 0
  pub low : (q : Loaded) → In q qs → (x : Reach) → In x q.reaches → value_at vs x.node ≼ plus (largest vs q.needs) (weight q.left x)

pub record Supported (rx : Relaxed) (qs : List Loaded) (vs : List Value) (rank : ℕ → ℕ) (n : ℕ) : Type 0 where
  pub by : Loaded
  pub among : In by qs
  pub edge : Reach
  pub reached : In edge by.reaches
  pub here : edge.node ≡ n
  pub exact : value_at vs n ≡ plus (largest vs by.needs) (weight by.left edge)
  pub earlier : (m : ℕ) → In m by.needs → (in_zone rx.holds m ≡ true) ⊎ (rank m < rank n)

pub record Justified (rx : Relaxed) (qs : List Loaded) (vs : List Value) (rank : ℕ → ℕ) : Type 0 where
  pub settles : Settles rx qs vs
  pub ranks : (n : ℕ) → rank n < rx.nodes
  pub supported : (n v : ℕ) → in_zone rx.holds n ≡ false → value_at vs n ≡ Some v → Supported rx qs vs rank n

-- ---- landmark records

abbrev pub charged_in : List Ground → ℕ → ℕ → ℕ
charged_in [] k m = 0
charged_in (g ∷ gs) k m = cond (g.round == k && g.number == m) g.charge 0 + charged_in gs k m

abbrev pub charged_to : List Ground → ℕ → ℕ
charged_to [] m = 0
charged_to (g ∷ gs) m = cond (g.number == m) g.charge 0 + charged_to gs m

abbrev pub charged_along : List Ground → ℕ → List ℕ → ℕ
charged_along gs k [] = 0
charged_along gs k (m ∷ ms) = charged_in gs k m + charged_along gs k ms

-- ---- soundness

abbrev pub Sound : Problem → State → Estimate → Type 0
Sound p s dead = (ms : List ℕ) → PlanFrom p s ms → ⊥
Sound p s (at_least n) = (n ≤ 10 ^ 12) × ((ms : List ℕ) → PlanFrom p s ms → n ≤ cost p ms)

pub record Landmarked (p : Problem) (s : State) (gs : List Ground) : Type 0 where
  pub landmarks : (g : Ground) → In g gs → (ms : List ℕ) → PlanFrom p s ms → g.weight ≤ charged_along gs g.round ms
  pub afforded : (m : ℕ) → 1 ≤ m → m ≤ length p.moves → charged_to gs m ≤ 5040 * cost_of p m

abbrev pub EstimateSound : Type 0
EstimateSound = (p : Problem) → accepted p ≡ true → (s : State) → Sound p s (estimate p s)

abbrev pub GroundsStand : Type 0
GroundsStand = (p : Problem) → accepted p ≡ true → (s : State) → Landmarked p s (grounds p s)

-- ---- rounds

abbrev pub heavy : ℕ → List Reach → ℕ
heavy r [] = 0
heavy r (x ∷ xs) = cond (weight r x == 0) 0 1 + heavy r xs

abbrev pub heavy_pairs : List Action → List ℕ → ℕ
heavy_pairs [] rs = 0
heavy_pairs (a ∷ as') rs = heavy (slice_index rs 0) a.reaches + heavy_pairs as' (drop 1 rs)

abbrev pub RoundsEnd : Type 0
RoundsEnd = (rx : Relaxed) (shorts : ℕ → ℕ) → WellFormed rx shorts → (fuel more k total : ℕ) (rs : List ℕ) → heavy_pairs rx.actions rs < fuel → heavy_pairs rx.actions rs < more
    → rounds rx fuel k total rs ≡ rounds rx more k total rs

abbrev pub ValuesSettle : Type 0
ValuesSettle = (rx : Relaxed) (shorts : ℕ → ℕ) → WellFormed rx shorts → (rs : List ℕ) → Settles rx (loaded rx.actions rs) (values rx (loaded rx.actions rs))

abbrev pub ValuesOnly : Type 0
ValuesOnly = (rx : Relaxed) (qs : List Loaded) → length rx.holds ≡ rx.nodes → (vs : List Value) (rank : ℕ → ℕ) → Justified rx qs vs rank → vs ≡ values rx qs

pub record Cutting (cs : List Crossing) : Type 0 where
  pub weighs : 1 ≤ cut_weight cs
  pub lightest : (c : Crossing) → In c cs → (x : Reach) → In x c.edges → cut_weight cs ≤ weight c.left x
  pub attained : (c : Crossing) × In c cs × ((x : Reach) × In x c.edges × (weight c.left x ≡ cut_weight cs))
  pub product : (c : Crossing) → In c cs → (x : Reach) → In x c.edges → cut_weight cs * x.gain ≤ x.short * c.left
  pub afforded : (c : Crossing) → In c cs → charge_of (cut_weight cs) c ≤ c.left

abbrev pub CutStands : Type 0
CutStands = (rx : Relaxed) (shorts : ℕ → ℕ) → WellFormed rx shorts → (rs : List ℕ) (v : ℕ) → 1 ≤ v → value_at (values rx (loaded rx.actions rs)) (goal rx) ≡ Some v
    → Cutting (cut rx (values rx (loaded rx.actions rs)) (loaded rx.actions rs))

-- ---- sizes

abbrev pub most_left : ℕ
most_left = 50400000

abbrev pub heaviest : ℕ
heaviest = 36000001 * 50400000

pub record Sizes (p : Problem) (s : State) : Type 0 where
  pub sums : (c : Condition) → In c p.conditions → unsigned_abs (total (chain p.links c.terms) s) ≤ 16000000
  pub shortfalls : (c : Condition) → In c p.conditions → shortfall p s c ≤ 36000001
  pub gains : (c : Condition) → In c p.conditions → (m : Move) → In m p.moves → unsigned_abs (gain_of (chain p.links c.terms) (chain p.links m.effects)) ≤ 32000000
  pub costs : (a : Action) → In a (relaxed p s).actions → a.cost ≤ 10000
  pub shorts : (a : Action) → In a (relaxed p s).actions → (x : Reach) → In x a.reaches → x.short ≤ 36000001
  pub gainings : (a : Action) → In a (relaxed p s).actions → (x : Reach) → In x a.reaches → x.gain ≤ 32000000
  pub weighings : (a : Action) → In a (relaxed p s).actions → (x : Reach) → In x a.reaches → (r : ℕ) → r ≤ most_left → (x.short * r ≤ heaviest) × (weight r x ≤ heaviest)
  pub finite : (rs : List ℕ) → ((i : ℕ) → slice_index rs i ≤ most_left) → (n v : ℕ) → value_at (values (relaxed p s) (loaded (relaxed p s).actions rs)) n ≡ Some v → v ≤ 129 * heaviest
  pub totals : (t : ℕ) (gs : List Ground) → outcome (relaxed p s) ≡ Found t gs → t ≤ cap + heaviest

abbrev pub SizesStand : Type 0
SizesStand = (p : Problem) → accepted p ≡ true → (s : State) → is_state p s ≡ true → Sizes p s

-- ---- zones, in whatever order they are found

pub record GoalClosed (rx : Relaxed) (es : List Edges) (zone : List Bool) : Type 0 where
  pub long : length zone ≡ rx.nodes
  pub begins : in_zone zone (goal rx) ≡ true
  pub closed : (n : ℕ) → n < rx.nodes → leads_in es zone n ≡ true → in_zone zone n ≡ true

pub record StartClosed (rx : Relaxed) (es : List Edges) (near zone : List Bool) : Type 0 where
  pub long : length zone ≡ rx.nodes
  pub begins : (n : ℕ) → in_zone rx.holds n ≡ true → in_zone zone n ≡ true
  pub closed : (n : ℕ) → n < rx.nodes → in_zone near n ≡ false → led_to es zone n ≡ true → in_zone zone n ≡ true

abbrev pub Within : List Bool → List Bool → Type 0
Within zone other = (n : ℕ) → in_zone zone n ≡ true → in_zone other n ≡ true

abbrev pub GoalZoneOnly : Type 0
GoalZoneOnly = (rx : Relaxed) (es : List Edges) → 1 ≤ rx.nodes → (zone : List Bool) → GoalClosed rx es zone → Within zone (goal_zone rx es) → zone ≡ goal_zone rx es

abbrev pub StartZoneOnly : Type 0
StartZoneOnly = (rx : Relaxed) (es : List Edges) (near : List Bool) → length rx.holds ≡ rx.nodes → (zone : List Bool) → StartClosed rx es near zone → Within zone (start_zone rx es near) → zone ≡ start_zone rx es near

-- ---- what the records tell

abbrev pub Before : Ground → Ground → Type 0
Before g h = (g.round < h.round) ⊎ ((g.round ≡ h.round) × (g.number < h.number))

abbrev pub Ordered : List Ground → Type 0
Ordered [] = Unit {0}
Ordered (g ∷ gs) = AllByRecursion (Before g) gs × Ordered gs

-- the weights of the rounds after the one that was counted last
abbrev pub weights_from : ℕ → List Ground → ℕ
weights_from last [] = 0
weights_from last (g ∷ gs) = cond (g.round == last) 0 g.weight + weights_from g.round gs

abbrev pub weights : List Ground → ℕ
weights gs = weights_from 0 gs

pub record Explained (p : Problem) (s : State) : Type 0 where
  pub ordered : Ordered (grounds p s)
  pub explained : (n : ℕ) → estimate p s ≡ at_least n → n ≡ min (10 ^ 12) (ceil_div (weights (grounds p s)) 5040)
  pub dead_none : estimate p s ≡ dead → grounds p s ≡ []

abbrev pub GroundsExplain : Type 0
GroundsExplain = (p : Problem) → accepted p ≡ true → (s : State) → Explained p s

-- ---- counts

pub record Counts (p : Problem) (s : State) : Type 0 where
  pub rounds : (g : Ground) → In g (grounds p s) → (1 ≤ g.round) × (g.round ≤ 32770)
  pub moves : (g : Ground) → In g (grounds p s) → (1 ≤ g.number) × (g.number ≤ length p.moves)
  pub weights : (g : Ground) → In g (grounds p s) → (1 ≤ g.weight) × (g.weight ≤ heaviest)
  pub charges : (g : Ground) → In g (grounds p s) → (1 ≤ g.charge) × (g.charge ≤ most_left)
  pub records : length (grounds p s) ≤ 32770 * 257

abbrev pub CountsStand : Type 0
CountsStand = (p : Problem) → accepted p ≡ true → (s : State) → Counts p s
