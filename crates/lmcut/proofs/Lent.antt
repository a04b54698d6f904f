-- What the tables that a task lends tell of its problem, and how large they are.
use Rattle.std.proofs.Common.{◌≡◌, ℕ, ◌+◌, ◌-◌, ◌<◌, ◌≤◌, length, get_or, pos, sym, ap, subst, ap₂, arith}
use Rattle.tables.specs.Rules.{MoveKeeps}
use Rattle.tables.specs.declared.Move.{Move}
use Rattle.tables.specs.declared.Tables.{Tables}
use Rattle.task.specs.States.{move_at}
use Rattle.task.specs.Tasks.{problem}
use Rattle.task.specs.declared.accepted.Task.{Task}
use Rattle.task.proofs.Along.{kept_rules, move_keeps}

pub record Lent (t : Task) (r : Tables) : Type 0 where
  pub facts : r.head.facts ≡ (problem t).head.facts
  pub conditions : length r.conditions.now ≡ length (problem t).conditions
  pub moves : length r.moves.now ≡ length (problem t).moves
  pub few_facts : r.head.facts ≤ 64
  pub few_conditions : length r.conditions.now ≤ 64
  pub few_moves : length r.moves.now ≤ 256

pub lent : (t : Task) (r : Tables) → r ≡ t.tables → Lent t r
lent t r e =
    let k = kept_rules t in
    let f = ap (λ (x : Tables). x.head.facts) e in
    let c = ap (λ (x : Tables). length x.conditions.now) e in
    let m = ap (λ (x : Tables). length x.moves.now) e in
    let few = k.facts in
    let less = k.few_conditions in
    let least = k.few_moves in
    record { facts = f; conditions = c; moves = m; few_facts = omega arith; few_conditions = omega arith; few_moves = omega arith }

pub few_moves : (t : Task) → length t.tables.moves.now ≤ 256
few_moves t = (kept_rules t).few_moves

-- ---- its moves

abbrev pub no_move : Move
no_move = record { cost = pos 0; needs = 0; effects = 0 }

pub lent_move : (t : Task) (r : Tables) → r ≡ t.tables → (i : ℕ) → get_or r.moves.now i no_move ≡ move_at (problem t) (i + 1)
lent_move t r e i = let j : i ≡ i + 1 - 1 = omega arith in ap₂ (λ ms k. get_or ms k no_move) (ap (λ (x : Tables). x.moves.now) e) j

pub lent_keeps : (t : Task) (r : Tables) → r ≡ t.tables → (i : ℕ) → i < length r.moves.now → MoveKeeps (problem t) (get_or r.moves.now i no_move)
lent_keeps t r e i h =
    let k = lent t r e in
    subst (MoveKeeps (problem t)) (sym (lent_move t r e i)) (move_keeps (problem t) (i + 1) (kept_rules t) (omega arith) (omega arith))
