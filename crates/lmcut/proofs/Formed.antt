-- The relaxed task that a prepared question holds is well formed.
use Rattle.std.proofs.Common.{◌≡◌, ℕ, zero, suc, ◌+◌, ◌-◌, ◌<◌, ◌≤◌, Bool, true, false, cond, eqb, ltb, [], get_or, Some, None, Option, sym, refl, ap, ◌∙◌, subst, inl, inr, arith}
use Rattle.std.proofs.lemmas.List.{get_or-take, length-take-le}
use Rattle.task.specs.States.{fact_holds}
use Rattle.landmarks.specs.Relaxed.{Reach, Action}
use Rattle.landmarks.specs.Laws.{In, ReachFits, WellFormed}
use Rattle.lmcut.specs.Questions.{unit_edge, edge_at, action_at, actions_from, relaxed_of, Fits}
use Rattle.lmcut.specs.declared.question.Question.{Question}
use Rattle.lmcut.specs.declared.question.Edge.{Edge}
use Rattle.lmcut.proofs.Prepared.{bits_in, reaches_in}

-- a number, but at least 1
abbrev or_one : ℕ → ℕ
or_one zero = 1
or_one (suc n) = suc n

or_one_least : (n : ℕ) → 1 ≤ or_one n
or_one_least zero = omega arith
or_one_least (suc n) = omega arith

or_one_same : (n : ℕ) → 1 ≤ n → n ≡ or_one n
or_one_same zero h = absurd (omega arith)
or_one_same (suc n) h = refl

-- the shortfall of a node
abbrev pub lack : Question → ℕ → ℕ
lack q n = cond (eqb (n + 1) q.nodes) 1 (cond (ltb n q.facts) 1 (or_one (get_or q.shorts (n - q.facts) 0)))

lack_some : (q : Question) (n : ℕ) → 1 ≤ lack q n
lack_some q n = go (eqb (n + 1) q.nodes) (ltb n q.facts)
  where
    go : (b c : Bool) → 1 ≤ cond b 1 (cond c 1 (or_one (get_or q.shorts (n - q.facts) 0)))
    go true c = omega arith
    go false true = omega arith
    go false false = or_one_least (get_or q.shorts (n - q.facts) 0)

abbrev short_of : Option Edge → ℕ
short_of None = 0
short_of (Some e) = e.short

-- an edge tells the shortfall of its node
edge_lacks : (q : Question) (a n : ℕ) (e : Edge) → edge_at q a n ≡ Some e → 1 ≤ e.short → e.short ≡ lack q n
edge_lacks q a n e = go (eqb (n + 1) q.nodes) (eqb (a + 1) q.actions) (fact_holds (get_or q.reach a 0) n) (ltb n q.facts)
  where
    tail : Edge
    tail = record { short = get_or q.shorts (n - q.facts) 0; gain = get_or (get_or q.gains a []) (n - q.facts) 0 }

    go : (b c d f : Bool) → cond b (cond c (Some unit_edge) None) (cond d (cond f (Some unit_edge) (Some tail)) None) ≡ Some e → 1 ≤ e.short → e.short ≡ cond b 1 (cond f 1 (or_one (get_or q.shorts (n - q.facts) 0)))
    go true true d f i h = ap short_of (sym i)
    go true false d f i h = absurd (let z : 0 ≡ e.short = ap short_of i in omega arith)
    go false c true true i h = ap short_of (sym i)
    go false c true false i h =
        let s : e.short ≡ get_or q.shorts (n - q.facts) 0 = ap short_of (sym i) in
        s ∙ or_one_same (get_or q.shorts (n - q.facts) 0) (subst (λ k. 1 ≤ k) s h)
    go false c false f i h = absurd (let z : 0 ≡ e.short = ap short_of i in omega arith)

actions_in : (q : Question) (s k : ℕ) (a : Action) → In a (actions_from q s k) → (b : ℕ) × (b < s + k) × (action_at q b ≡ a)
unfolding actions_from
actions_in q s zero a i = absurd i
actions_in q s (suc k) a (inl e) = (s, omega arith, e)
actions_in q s (suc k) a (inr i) = let h = actions_in q (s + 1) k a i in (h.0, (let l = h.1 in omega arith), h.2)

pub fits_well : (q : Question) → Fits q → WellFormed (relaxed_of q) (lack q)
unfolding relaxed_of
fits_well q f = record {
  some_node = f.some_nodes;
  long = length-take-le q.nodes q.holds (let l = f.held_long in let n = f.few_nodes in omega arith);
  goal_unmet = get_or-take q.nodes q.holds (q.nodes - 1) false (let n = f.some_nodes in omega arith) ∙ f.goal_open;
  lacking = λ n _. lack_some q n;
  needs = λ a i n j. let h = actions_in q 0 q.actions a i in
      let b = bits_in (get_or q.needs h.0 0) 0 (q.nodes - 1) n (subst (λ (x : Action). In n x.needs) (sym h.2) j) in
      (let l = b.1 in let s = f.some_nodes in omega arith);
  reaches = λ a i x j. let h = actions_in q 0 q.actions a i in
      let r = reaches_in q h.0 0 q.nodes x (subst (λ (y : Action). In x y.reaches) (sym h.2) j) in
      let small = f.edges_small h.0 r.0 r.1 (let l = h.1 in omega arith) (let l = r.3 in omega arith) r.2 in
      subst (ReachFits _ (lack q)) r.4 (record {
        inside = (let l = r.3 in omega arith);
        unmet = get_or-take q.nodes q.holds r.0 false (let l = r.3 in omega arith) ∙ small.4;
        lacks = edge_lacks q h.0 r.0 r.1 r.2 small.0;
        gains = small.2;
      });
}

-- what an action reaches keeps the limits
pub action_edges : (q : Question) → Fits q → (a : Action) → In a (relaxed_of q).actions → (x : Reach) → In x a.reaches → (x.short ≤ 36000001) × (1 ≤ x.gain)
unfolding relaxed_of
action_edges q f a i x j =
    let h = actions_in q 0 q.actions a i in
    let r = reaches_in q h.0 0 q.nodes x (subst (λ (y : Action). In x y.reaches) (sym h.2) j) in
    let small = f.edges_small h.0 r.0 r.1 (let l = h.1 in omega arith) (let l = r.3 in omega arith) r.2 in
    (subst (λ (y : Reach). y.short ≤ 36000001) r.4 small.1, subst (λ (y : Reach). 1 ≤ y.gain) r.4 small.2)
