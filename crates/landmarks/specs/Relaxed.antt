-- The relaxed task of a question (a problem and a state of it): what LM-cut looks at. Its nodes are the facts, the conditions
-- and one goal node, numbered from 0: fact k is node k, condition c is node P + c - 1 for P facts, and the goal node is last.
--   Reach              an action can make a node true: the node, its shortfall, and the gain of one use of the action towards it.
--                      A fact and the goal node have shortfall 1 and gain 1
--   Action             cost, the nodes it needs, and the nodes that it reaches, of those that do not hold
--   Relaxed            the number of nodes, which of them hold, and the actions: the moves in order, then the helper
--   goal               the goal node
--   shortfall          the mark of a condition less its sum, where it does not hold
--   gain_of            what effects add to the sum of terms
--   node_of            the node that a need names
--   needs_of           the nodes that a chain of needs names, in chain order
--   fact_reaches       the facts among n facts from k that effects set, and that do not hold
--   condition_reaches  the conditions of a list, the first of them node n, that do not hold and whose sum the effects raise
--   action_of          a move as an action
--   helper             the action of cost 0 that needs what the goal needs, and reaches the goal node
--   facts_hold         which of n facts from k hold
--   nodes_hold         which nodes hold in a state; the goal node does not
--   relaxed            the relaxed task of a problem and a state
use Rattle.std.specs.Prelude.{ℕ, zero, suc, ◌+◌, ◌-◌, Bool, false, cond, not, ◌&&◌, List, [], ◌∷◌, ◌++◌, map, length, ℤ, pos, ◌+ℤ◌, ◌-ℤ◌, ◌*ℤ◌, fold, ◌==◌, int_le, unsigned_abs}
use Rattle.tables.specs.Chains.{chain}
use Rattle.task.specs.Meaning.{names, change}
use Rattle.tables.specs.Problem.{Problem}
use Rattle.task.specs.States.{fact_holds, total, mark, condition_holds}
use Rattle.task.specs.declared.state.State.{State}
use Rattle.tables.specs.declared.Condition.{Condition}
use Rattle.tables.specs.declared.Link.{Link}
use Rattle.tables.specs.declared.Move.{Move}

pub record Reach : Type 0 where
  pub node : ℕ
  pub short : ℕ
  pub gain : ℕ

pub record Action : Type 0 where
  pub cost : ℕ
  pub needs : List ℕ
  pub reaches : List Reach

pub record Relaxed : Type 0 where
  pub nodes : ℕ
  pub holds : List Bool
  pub actions : List Action

abbrev pub goal : Relaxed → ℕ
goal rx = rx.nodes - 1

-- ---- conditions

abbrev pub shortfall : Problem → State → Condition → ℕ
shortfall p s c = unsigned_abs (mark c -ℤ total (chain p.links c.terms) s)

abbrev pub add_gain : List Link → ℤ → Link → ℤ
add_gain es sum l = sum +ℤ (l.amount *ℤ change es l.subject)

abbrev pub gain_of : List Link → List Link → ℤ
gain_of terms es = fold (add_gain es) (pos 0) terms

-- ---- actions

abbrev pub node_of : Problem → Link → ℕ
node_of p l = cond (l.kind == 2) l.subject (p.head.facts + l.subject - 1)

abbrev pub needs_of : Problem → ℕ → List ℕ
needs_of p n = map (node_of p) (chain p.links n)

unfoldable pub fact_reaches : ℕ → List Link → ℕ → ℕ → List Reach
fact_reaches w es k zero = []
fact_reaches w es k (suc n) =
    let rest = fact_reaches w es (k + 1) n in
    cond (names 4 es k && not (fact_holds w k)) (record { node = k; short = 1; gain = 1 } ∷ rest) rest

abbrev pub raises : ℤ → Bool
raises g = int_le (pos 1) g

unfoldable pub condition_reaches : Problem → State → List Link → ℕ → List Condition → List Reach
condition_reaches p s es n [] = []
condition_reaches p s es n (c ∷ cs) =
    let g = gain_of (chain p.links c.terms) es in
    let rest = condition_reaches p s es (n + 1) cs in
    cond (raises g && not (condition_holds p s c)) (record { node = n; short = shortfall p s c; gain = unsigned_abs g } ∷ rest) rest

abbrev pub reaches_of : Problem → State → List Link → List Reach
reaches_of p s es = fact_reaches s.facts es 0 p.head.facts ++ condition_reaches p s es p.head.facts p.conditions

abbrev pub action_of : Problem → State → Move → Action
action_of p s m = record { cost = unsigned_abs m.cost; needs = needs_of p m.needs; reaches = reaches_of p s (chain p.links m.effects) }

abbrev pub node_count : Problem → ℕ
node_count p = p.head.facts + length p.conditions + 1

abbrev pub helper : Problem → Action
helper p = record { cost = 0; needs = needs_of p p.head.goal; reaches = record { node = p.head.facts + length p.conditions; short = 1; gain = 1 } ∷ [] }

-- ---- the relaxed task

unfoldable pub facts_hold : ℕ → ℕ → ℕ → List Bool
facts_hold w k zero = []
facts_hold w k (suc n) = fact_holds w k ∷ facts_hold w (k + 1) n

abbrev pub nodes_hold : Problem → State → List Bool
nodes_hold p s = facts_hold s.facts 0 p.head.facts ++ (map (condition_holds p s) p.conditions ++ (false ∷ []))

unfoldable pub relaxed : Problem → State → Relaxed
relaxed p s = record { nodes = node_count p; holds = nodes_hold p s; actions = map (action_of p s) p.moves ++ (helper p ∷ []) }
