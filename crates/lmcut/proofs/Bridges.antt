-- What arrays hold is the round of the relaxed task: its graph, zones, cut and remainders.
use Rattle.std.proofs.Common.{◌≡◌, ℕ, zero, suc, ◌+◌, ◌<◌, ◌≤◌, Bool, cond, not, ◌&&◌, ◌||◌, List, [], ◌∷◌, get_or, take, Some, None, Option, sym, refl, ap, ◌∙◌, ap₂, arith}
use Rattle.lmcut.specs.Drawn.{values_of, edges_at, edges_from, edges_in, cut_of}
use Rattle.lmcut.specs.Questions.{action_at, actions_from, reaches_from, relaxed_of}
use Rattle.landmarks.specs.Relaxed.{Reach, Relaxed}
use Rattle.landmarks.specs.Rounds.{repeated, Value, Loaded, loaded, chosen, Edges, graph, in_zone, grow, starts, into, led_to, goal_zone, start_turn, start_zone, Crossing, crossings, cut}
use Rattle.lmcut.specs.declared.question.Question.{Question}

-- ---- the graph

module _ (q : Question) (rs : List ℕ) (ss : List (Option ℕ)) (vs : List Value) where
  graph_from : (s k : ℕ) (ys : List ℕ) → ((i : ℕ) → get_or ys i 0 ≡ get_or rs (s + i) 0) → ((a : ℕ) → s ≤ a → a < s + k → get_or ss a None ≡ chosen vs (action_at q a).needs)
      → edges_from q rs ss s k ≡ graph vs (loaded (actions_from q s k) ys)
  unfolding loaded actions_from edges_from
  graph_from s zero ys same c = refl
  graph_from s (suc k) ys same c = go ys same (λ zs t. graph_from (s + 1) k zs t (λ a l h. c a (omega arith) (omega arith)))
    where
      at : (r : ℕ) → r ≡ get_or rs s 0 → edges_at q rs ss s ≡ record { source = chosen vs (action_at q s).needs; left = r; reaches = (action_at q s).reaches }
      at r e = ap₂ (λ o n. let w : Edges = record { source = o; left = n; reaches = reaches_from q s 0 q.nodes } in w) (c s (omega arith) (omega arith)) (sym e)

      here : get_or rs (s + 0) 0 ≡ get_or rs s 0
      here = let e : s + 0 ≡ s = omega arith in ap (λ i. get_or rs i 0) e

      next : (i : ℕ) → get_or rs (s + suc i) 0 ≡ get_or rs (s + 1 + i) 0
      next i = let e : s + suc i ≡ s + 1 + i = omega arith in ap (λ j. get_or rs j 0) e

      go : (zs : List ℕ) → ((i : ℕ) → get_or zs i 0 ≡ get_or rs (s + i) 0) → ((us : List ℕ) → ((i : ℕ) → get_or us i 0 ≡ get_or rs (s + 1 + i) 0) → edges_from q rs ss (s + 1) k ≡ graph vs (loaded (actions_from q (s + 1) k) us))
          → edges_at q rs ss s ∷ edges_from q rs ss (s + 1) k ≡ graph vs (loaded (action_at q s ∷ actions_from q (s + 1) k) zs)
      go [] t ih = ap₂ (λ (e : Edges) (es : List Edges). e ∷ es) (at 0 (t 0 ∙ here)) (ih [] (λ i. t (suc i) ∙ next i))
      go (r ∷ us) t ih = ap₂ (λ (e : Edges) (es : List Edges). e ∷ es) (at r (t 0 ∙ here)) (ih us (λ i. t (suc i) ∙ next i))

pub graph_is : (q : Question) (rs : List ℕ) (ss : List (Option ℕ)) (vs : List Value) → ((a : ℕ) → a < q.actions → get_or ss a None ≡ chosen vs (action_at q a).needs)
    → edges_in q rs ss ≡ graph vs (loaded (relaxed_of q).actions rs)
unfolding relaxed_of
graph_is q rs ss vs c = graph_from q rs ss vs 0 q.actions rs (λ i. let e : i ≡ 0 + i = omega arith in ap (λ j. get_or rs j 0) e) (λ a _ h. c a (omega arith))

-- ---- zones that agree node by node

abbrev pub Agree : List Bool → List Bool → Type 0
Agree y z = (i : ℕ) → in_zone y i ≡ in_zone z i

starts_same : (y z : List Bool) → Agree y z → (o : Option ℕ) → starts y o ≡ starts z o
starts_same y z h None = refl
starts_same y z h (Some n) = h n

into_same : (y z : List Bool) → Agree y z → (xs : List Reach) → into y xs ≡ into z xs
into_same y z h [] = refl
into_same y z h (x ∷ xs) = ap₂ (λ b ys. cond b (x ∷ ys) ys) (h x.node) (into_same y z h xs)

pub crossings_same : (near near' start start' : List Bool) → Agree near near' → Agree start start' → (es : List Edges) → crossings es near start ≡ crossings es near' start'
crossings_same near near' start start' n s [] = refl
crossings_same near near' start start' n s (e ∷ es) =
    ap₂ (λ (c : Crossing) (cs : List Crossing). c ∷ cs)
    (ap₂ (λ b xs. let c : Crossing = record { left = e.left; edges = cond b xs [] } in c) (starts_same start start' s e.source) (into_same near near' n e.reaches))
    (crossings_same near near' start start' n s es)

grow_same : (f g : ℕ → Bool) → ((i : ℕ) → f i ≡ g i) → (n : ℕ) (z : List Bool) → grow f n z ≡ grow g n z
unfolding grow
grow_same f g h n [] = refl
grow_same f g h n (b ∷ bs) = ap₂ (λ c cs. (b || c) ∷ cs) (h n) (grow_same f g h (n + 1) bs)

turns_same : (es : List Edges) (near near' : List Bool) → Agree near near' → (k : ℕ) (z : List Bool) → repeated (start_turn es near) k z ≡ repeated (start_turn es near') k z
unfolding repeated
turns_same es near near' n zero z = refl
turns_same es near near' n (suc k) z =
    turns_same es near near' n k (start_turn es near z)
    ∙ ap (repeated (start_turn es near') k) (grow_same (λ i. not (in_zone near i) && led_to es z i) (λ i. not (in_zone near' i) && led_to es z i) (λ i. ap (λ b. not b && led_to es z i) (n i)) 0 z)

pub start_same : (rx : Relaxed) (es : List Edges) (near near' : List Bool) → Agree near near' → start_zone rx es near ≡ start_zone rx es near'
unfolding start_zone
start_same rx es near near' n = turns_same es near near' n rx.nodes rx.holds

-- ---- the cut

pub cut_is : (q : Question) (xs rs : List ℕ) (ss : List (Option ℕ)) (near start : List Bool) → ((a : ℕ) → a < q.actions → get_or ss a None ≡ chosen (values_of q.nodes xs) (action_at q a).needs)
    → Agree near (goal_zone (relaxed_of q) (edges_in q rs ss)) → Agree start (start_zone (relaxed_of q) (edges_in q rs ss) near) → crossings (edges_in q rs ss) near start ≡ cut_of q xs rs
unfolding cut
cut_is q xs rs ss near start c n s =
    let rx = relaxed_of q in
    let es = edges_in q rs ss in
    let z = goal_zone rx es in
    crossings_same near z start (start_zone rx es z) n (λ i. s i ∙ ap (λ y. in_zone y i) (start_same rx es near z n)) es
    ∙ ap (λ (es : List Edges). crossings es (goal_zone rx es) (start_zone rx es (goal_zone rx es))) (graph_is q rs ss (values_of q.nodes xs) c)

-- ---- the remainders

loaded_take : (q : Question) (s k : ℕ) (rs : List ℕ) → loaded (actions_from q s k) rs ≡ loaded (actions_from q s k) (take k rs)
unfolding loaded actions_from
loaded_take q s zero rs = refl
loaded_take q s (suc k) [] = refl
loaded_take q s (suc k) (r ∷ rs) = ap (λ (qs : List Loaded). record { left = r; needs = (action_at q s).needs; reaches = (action_at q s).reaches } ∷ qs) (loaded_take q (s + 1) k rs)

pub loaded_front : (q : Question) (rs ys : List ℕ) → take q.actions rs ≡ ys → loaded (relaxed_of q).actions rs ≡ loaded (relaxed_of q).actions ys
unfolding relaxed_of
loaded_front q rs ys e = loaded_take q 0 q.actions rs ∙ ap (loaded (actions_from q 0 q.actions)) e
