-- Which nodes hold at a state, and the shortfalls of the conditions that do not, filled in node by node.
use Rattle.std.proofs.Common.{◌≡◌, ℕ, ◌+◌, ◌-◌, ◌<◌, ◌≤◌, Bool, true, false, cond, T, ltb, List, ◌++◌, length, get_or, take, set, ℤ, pos, negsuc, ◌-ℤ◌, nat_abs, sym, ap, ◌∙◌, subst, ⊎_elim, arith, w32, Fits, below_more}
use lib.Signed.{le_z, non_neg}
use Rattle.std.specs.Int.{int_max}
use Rattle.std.proofs.lemmas.List.{ext_get_or, get_or_append_left, get_or-set_same, get_or-set_other, get_or-take, length-set, length-take-le}
use Rattle.std.proofs.lemmas.Int.{ints}
use Rattle.std.proofs.lemmas.Bool.{cases_lt, and_from, le-leb, cond-true}
use Rattle.tables.specs.Chains.{chain}
use Rattle.tables.specs.Problem.{Problem}
use Rattle.tables.specs.Rules.{Keeps}
use Rattle.task.specs.States.{fact_holds, mark, total, gap, condition_at, condition_holds, is_state}
use Rattle.task.specs.declared.state.State.{State}
use Rattle.task.proofs.Along.{condition_keeps}
use Rattle.landmarks.specs.Relaxed.{shortfall, node_count, nodes_hold}
use Rattle.landmarks.specs.Rounds.{in_zone}
use Rattle.landmarks.proofs.Shapes.{no_condition, holds_long, holds_fact, holds_condition, holds_goal}
use Rattle.landmarks.proofs.Sizes.{short_small}
use Rattle.lmcut.specs.Prepared.{Standing}
use Rattle.lmcut.proofs.Starting.{Holding, holding_step}

-- one node more, by a value equal to that in the list
pub holding_next : (hs : List Bool) (i : ℕ) (z : List Bool) (b : Bool) → i < 129 → b ≡ in_zone hs i → Holding hs i z → Holding hs (i + 1) (set z i b)
holding_next hs i z b h e w = subst (λ x. Holding hs (i + 1) (set z i x)) (sym e) (holding_step hs i z h w)

-- ---- the gap of a condition of the table

module _ (p : Problem) (s : State) (c : ℕ) (h : c < length p.conditions) where
  gap_is : gap p s (c + 1) ≡ mark (condition_at p (c + 1)) -ℤ total (chain p.links (condition_at p (c + 1)).terms) s
  unfolding gap
  gap_is = cond-true _ _ _ (and_from _ _ (le-leb 1 (c + 1) (omega arith)) (le-leb (c + 1) (length p.conditions) (omega arith)))

  -- it is at most 0 where the condition holds
  pub gap_holds : le_z (gap p s (c + 1)) (pos 0) ≡ condition_holds p s (condition_at p (c + 1))
  unfolding condition_holds
  gap_holds = ap (λ z. le_z z (pos 0)) gap_is ∙ go (mark (condition_at p (c + 1))) (total (chain p.links (condition_at p (c + 1)).terms) s)
    where
      go : (m t : ℤ) → le_z (m -ℤ t) (pos 0) ≡ le_z m t
      go m t = grind (arith, ints)

  -- and else it is the shortfall
  pub gap_short : condition_holds p s (condition_at p (c + 1)) ≡ false → nat_abs (int_max (gap p s (c + 1)) (pos 0)) ≡ shortfall p s (condition_at p (c + 1))
  gap_short e = go (gap p s (c + 1)) (gap_holds ∙ e) ∙ ap nat_abs gap_is
    where
      go : (z : ℤ) → le_z z (pos 0) ≡ false → nat_abs (int_max z (pos 0)) ≡ nat_abs z
      go z f = grind (arith, ints)

  -- at a state it is small
  pub gap_small : Keeps p → is_state p s ≡ true → nat_abs (gap p s (c + 1)) ≤ 36000001
  gap_small k i = subst (λ z. nat_abs z ≤ 36000001) (sym gap_is) (short_small p k s i (condition_at p (c + 1)) (condition_keeps p (c + 1) k (omega arith) (omega arith)))

-- the larger of a small number and 0 fits 32 bits
pub above_fits : (z : ℤ) → nat_abs z ≤ 36000001 → T (non_neg (int_max z (pos 0))) × Fits w32 (nat_abs (int_max z (pos 0)))
above_fits (negsuc n) h = (tt, record { fits = omega arith })
above_fits (pos n) h = go (ltb 0 n)
  where
    go : (b : Bool) → T (non_neg (cond b (pos n) (pos 0))) × Fits w32 (nat_abs (cond b (pos n) (pos 0)))
    go true = (tt, record { fits = omega arith })
    go false = (tt, record { fits = omega arith })

-- ---- the facts and the first n conditions filled in

pub record Stood (p : Problem) (s : State) (n : ℕ) (zone : List Bool) (shorts : List ℕ) : Type 0 where
  pub nodes : Holding (nodes_hold p s) (p.head.facts + n) zone
  pub long : length shorts ≡ length p.conditions
  pub lacks : (c : ℕ) → c < n → condition_holds p s (condition_at p (c + 1)) ≡ false → get_or shorts c 0 ≡ shortfall p s (condition_at p (c + 1))

module _ (p : Problem) (s : State) where
  pub stood_start : (zone : List Bool) (shorts : List ℕ) → length zone ≡ 129 → length shorts ≡ length p.conditions → ((k : ℕ) → k < p.head.facts → in_zone zone k ≡ fact_holds s.facts k)
      → ((k : ℕ) → p.head.facts ≤ k → in_zone zone k ≡ false) → Stood p s 0 zone shorts
  stood_start zone shorts l m facts rest = record {
    nodes = record { long = l; done = λ k h. let b : k < p.head.facts = omega arith in facts k b ∙ sym (holds_fact p s k b); rest = λ k h. rest k (omega arith) };
    long = m;
    lacks = λ c h. absurd (omega arith);
  }

  pub stood_step : (n : ℕ) (zone : List Bool) (shorts : List ℕ) (met : Bool) (short : ℕ) → Keeps p → n < length p.conditions → met ≡ le_z (gap p s (n + 1)) (pos 0) → short ≡ nat_abs (int_max (gap p s (n + 1)) (pos 0))
      → Stood p s n zone shorts → Stood p s (n + 1) (set zone (p.head.facts + n) met) (set shorts n short)
  stood_step n zone shorts met short k h m e w =
      let facts = k.facts in
      let few = k.few_conditions in
      let same : condition_at p (n + 1) ≡ get_or p.conditions n no_condition = ap (λ i. get_or p.conditions i no_condition) (let z : n + 1 - 1 ≡ n = omega arith in z) in
      let is : met ≡ in_zone (nodes_hold p s) (p.head.facts + n) = m ∙ gap_holds p s n h ∙ ap (condition_holds p s) same ∙ sym (holds_condition p s n h) in
      let plus : p.head.facts + n + 1 ≡ p.head.facts + (n + 1) = omega arith in
      record {
        nodes = subst (λ i. Holding (nodes_hold p s) i (set zone (p.head.facts + n) met)) plus (holding_next (nodes_hold p s) (p.head.facts + n) zone met (omega arith) is w.nodes);
        long = length-set shorts n short ∙ w.long;
        lacks = below_more (λ c. condition_holds p s (condition_at p (c + 1)) ≡ false → get_or (set shorts n short) c 0 ≡ shortfall p s (condition_at p (c + 1))) n
            (λ c l f. get_or-set_other shorts n c short 0 (λ q. omega arith) ∙ w.lacks c l f)
            (λ f. get_or-set_same shorts n short 0 (let l = w.long in omega arith) ∙ e ∙ gap_short p s n h f);
      }

  pub stood_end : (zone : List Bool) (shorts rest : List ℕ) → Keeps p → Stood p s (length p.conditions) zone shorts → Standing p s zone (shorts ++ rest)
  stood_end zone shorts rest k w =
      let facts = k.facts in
      let few = k.few_conditions in
      let l = w.nodes.long in
      let cut : length (take (node_count p) zone) ≡ node_count p = length-take-le (node_count p) zone (omega arith) in
      record {
        long = l;
        held = ext_get_or false (take (node_count p) zone) (nodes_hold p s) (cut ∙ sym (holds_long p s)) (λ i h. get_or-take (node_count p) zone i false (omega arith) ∙ ⊎_elim
            (λ b. w.nodes.done i b)
            (λ b. let last : i ≡ p.head.facts + length p.conditions = omega arith in w.nodes.rest i b ∙ sym (ap (in_zone (nodes_hold p s)) last ∙ holds_goal p s))
            (cases_lt i (p.head.facts + length p.conditions)));
        lacks = λ c h f. get_or_append_left shorts rest 0 c (let l = w.long in omega arith) ∙ w.lacks c h f;
      }
