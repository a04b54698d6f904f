-- Zones as words.
use Rattle.std.proofs.Common.{◌≡◌, ℕ, ◌+◌, ◌-◌, ◌<◌, ◌≤◌, Bool, true, false, cond, ltb, [], ◌∷◌, length, get_or, Some, None, Option, sym, refl, ap, ◌∙◌, arith}
use Rattle.std.proofs.lemmas.List.{length-append, get_or_append_left, get_or-append_right, get_or_past}
use Rattle.std.proofs.lemmas.Bool.{cond-true, cond-false, eq-eqb, ne_eqb}
use Rattle.task.specs.States.{fact_holds}
use Rattle.landmarks.specs.Relaxed.{facts_hold}
use Rattle.landmarks.specs.Rounds.{in_zone, starts}
use Rattle.landmarks.proofs.Shapes.{length_facts, facts_at}
use Rattle.lmcut.specs.Drawn.{zone_of, marked}
use Rattle.lmcut.specs.Questions.{unit_edge, edge_at}
use Rattle.lmcut.specs.declared.question.Question.{Question}

module _ (q : Question) (g : Bool) (w : ℕ) (some : 1 ≤ q.nodes) where
  pub zone_long : length (zone_of q g w) ≡ q.nodes
  zone_long = length-append (facts_hold w 0 (q.nodes - 1)) (g ∷ []) ∙ (let l = length_facts w 0 (q.nodes - 1) in omega arith)

  pub zone_at : (i : ℕ) → i + 1 < q.nodes → in_zone (zone_of q g w) i ≡ fact_holds w i
  zone_at i h =
      let l = length_facts w 0 (q.nodes - 1) in
      let e : 0 + i ≡ i = omega arith in
      get_or_append_left (facts_hold w 0 (q.nodes - 1)) (g ∷ []) false i (omega arith) ∙ facts_at w 0 (q.nodes - 1) i (omega arith) ∙ ap (fact_holds w) e

  pub zone_goal : in_zone (zone_of q g w) (q.nodes - 1) ≡ g
  zone_goal =
      let l = length_facts w 0 (q.nodes - 1) in
      let e : q.nodes - 1 - (q.nodes - 1) ≡ 0 = omega arith in
      get_or-append_right (facts_hold w 0 (q.nodes - 1)) (g ∷ []) (q.nodes - 1) (q.nodes - 1) false l (omega arith) ∙ ap (λ i. get_or (g ∷ []) i false) e

  pub zone_past : (i : ℕ) → q.nodes ≤ i → in_zone (zone_of q g w) i ≡ false
  zone_past i h = get_or_past (zone_of q g w) i false (let l = zone_long in omega arith)

  -- a source among the nodes below the goal node
  pub marked_starts : (s : Option ℕ) → ((n : ℕ) → s ≡ Some n → n + 1 < q.nodes) → marked w s ≡ starts (zone_of q g w) s
  marked_starts None h = refl
  marked_starts (Some n) h = sym (zone_at n (h n refl))

-- ---- edges below the goal node

pub edge_below : (q : Question) (a n : ℕ) → n + 1 < q.nodes → edge_at q a n ≡ cond (fact_holds (get_or q.reach a 0) n) (cond (ltb n q.facts) (Some unit_edge) (Some (record { short = get_or q.shorts (n - q.facts) 0; gain = get_or (get_or q.gains a []) (n - q.facts) 0 }))) None
edge_below q a n h = cond-false _ _ _ (ne_eqb (n + 1) q.nodes (λ e. omega arith))

pub edge_none : (q : Question) (a n : ℕ) → n + 1 < q.nodes → fact_holds (get_or q.reach a 0) n ≡ false → edge_at q a n ≡ None
edge_none q a n h e = edge_below q a n h ∙ cond-false _ _ _ e

pub edge_of : (q : Question) (a n : ℕ) → n + 1 < q.nodes → fact_holds (get_or q.reach a 0) n ≡ true → edge_at q a n ≡ cond (ltb n q.facts) (Some unit_edge) (Some (record { short = get_or q.shorts (n - q.facts) 0; gain = get_or (get_or q.gains a []) (n - q.facts) 0 }))
edge_of q a n h e = edge_below q a n h ∙ cond-true _ _ _ e

-- the edge into the goal node: the helper's alone
pub edge_goal : (q : Question) (a : ℕ) → 1 ≤ q.nodes → a + 1 ≡ q.actions → edge_at q a (q.nodes - 1) ≡ Some unit_edge
edge_goal q a s h = let e : q.nodes - 1 + 1 ≡ q.nodes = omega arith in cond-true _ _ _ (eq-eqb _ _ e) ∙ cond-true _ _ _ (eq-eqb _ _ h)

pub edge_goal_none : (q : Question) (a : ℕ) → 1 ≤ q.nodes → (a + 1 ≡ q.actions → ⊥) → edge_at q a (q.nodes - 1) ≡ None
edge_goal_none q a s h = let e : q.nodes - 1 + 1 ≡ q.nodes = omega arith in cond-true _ _ _ (eq-eqb _ _ e) ∙ cond-false _ _ _ (ne_eqb _ _ h)
