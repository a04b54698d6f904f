-- Zones: as many turns as there are nodes close them.
use Rattle.std.proofs.Common.{◌≡◌, ℕ, zero, suc, ◌+◌, ◌<◌, ◌≤◌, Bool, true, false, cond, not, ◌&&◌, ◌||◌, eqb, ◌⊎◌, List, [], ◌∷◌, length, get_or, set, replicate, Some, None, Option, sym, refl, ap, ◌∙◌, subst, inl, inr, ⊎_elim, zero-add, arith}
use Rattle.std.proofs.lemmas.List.{get_or_past, get_or-set_same, get_or-set_other, length-set, length-replicate, same_lists, get_or_default}
use Rattle.std.proofs.lemmas.Bool.{cases_lt, cases_eq, eqb-true, eq-eqb, and_parts, and_from, or_cases, or_left, or_right, not-true, true≢false, false≢true}
use Rattle.landmarks.specs.Relaxed.{Reach, Relaxed, goal}
use Rattle.landmarks.specs.Rounds.{repeated, weight, Edges, in_zone, grow, is_node, weightless_into, leads_in, goal_zone, starts, runs_to, led_to, start_zone}
use Rattle.landmarks.specs.Laws.{In, Within, GoalZoneOnly, StartZoneOnly}
use Rattle.landmarks.proofs.Orders.{replicate_at}

-- ---- what a turn adds

pub length_grow : (f : ℕ → Bool) (n : ℕ) (z : List Bool) → length (grow f n z) ≡ length z
unfolding grow
length_grow f n [] = refl
length_grow f n (b ∷ bs) = ap suc (length_grow f (n + 1) bs)

grow_from : (f : ℕ → Bool) (n : ℕ) (z : List Bool) (i : ℕ) → i < length z → in_zone (grow f n z) i ≡ (in_zone z i || f (n + i))
unfolding grow
grow_from f n [] i h = absurd (omega arith)
grow_from f n (b ∷ bs) zero h = let e : n ≡ n + 0 = omega arith in ap (λ k. b || f k) e
grow_from f n (b ∷ bs) (suc i) h = let e : n + 1 + i ≡ n + suc i = omega arith in grow_from f (n + 1) bs i (omega arith) ∙ ap (λ k. in_zone bs i || f k) e

pub grow_at : (f : ℕ → Bool) (z : List Bool) (i : ℕ) → i < length z → in_zone (grow f 0 z) i ≡ (in_zone z i || f i)
grow_at f z i h = grow_from f 0 z i h ∙ ap (λ k. in_zone z i || f k) (zero-add i)

-- a node of a zone is one of its places
pub zone_inside : (z : List Bool) (i : ℕ) → in_zone z i ≡ true → i < length z
zone_inside z i e = ⊎_elim (λ h. h) (λ h. absurd (false≢true (sym (get_or_past z i false h) ∙ e))) (cases_lt i (length z))

pub grow_cases : (f : ℕ → Bool) (z : List Bool) (i : ℕ) → in_zone (grow f 0 z) i ≡ true → (in_zone z i ≡ true) ⊎ (f i ≡ true)
grow_cases f z i e = or_cases (in_zone z i) (f i) (sym (grow_at f z i (let l = zone_inside (grow f 0 z) i e in let m = length_grow f 0 z in omega arith)) ∙ e)

pub grow_keeps : (f : ℕ → Bool) (z : List Bool) (i : ℕ) → in_zone z i ≡ true → in_zone (grow f 0 z) i ≡ true
grow_keeps f z i e = grow_at f z i (zone_inside z i e) ∙ or_left (in_zone z i) (f i) e

-- ---- counting

count : List Bool → ℕ
count [] = 0
count (b ∷ bs) = cond b 1 0 + count bs

count_length : (z : List Bool) → count z ≤ length z
unfolding count
count_length [] = omega arith
count_length (true ∷ bs) = let h = count_length bs in omega arith
count_length (false ∷ bs) = let h = count_length bs in omega arith

grown : (f : ℕ → Bool) (n : ℕ) (z : List Bool) → (grow f n z ≡ z) ⊎ (count z < count (grow f n z))
unfolding grow count
grown f n [] = inl refl
grown f n (b ∷ bs) = go b (f n) (grown f (n + 1) bs)
  where
    go : (b c : Bool) → (grow f (n + 1) bs ≡ bs) ⊎ (count bs < count (grow f (n + 1) bs))
        → ((b || c) ∷ grow f (n + 1) bs ≡ b ∷ bs) ⊎ (cond b 1 0 + count bs < cond (b || c) 1 0 + count (grow f (n + 1) bs))
    go true c (inl e) = inl (ap (λ z. true ∷ z) e)
    go true c (inr h) = inr (omega arith)
    go false true (inl e) = let s = ap count e in inr (omega arith)
    go false true (inr h) = inr (omega arith)
    go false false (inl e) = inl (ap (λ z. false ∷ z) e)
    go false false (inr h) = inr (omega arith)

-- ---- a zone that grows by a test of itself

module _ (g : List Bool → ℕ → Bool) where
  abbrev turn : List Bool → List Bool
  turn z = grow (g z) 0 z

  stays_still : (k : ℕ) (z : List Bool) → turn z ≡ z → repeated turn k z ≡ z
  unfolding repeated
  stays_still zero z e = refl
  stays_still (suc k) z e = ap (repeated turn k) e ∙ stays_still k z e

  pub length_turns : (k : ℕ) (z : List Bool) → length (repeated turn k z) ≡ length z
  unfolding repeated
  length_turns zero z = refl
  length_turns (suc k) z = length_turns k (turn z) ∙ length_grow (g z) 0 z

  still_or_more : (k : ℕ) (z : List Bool) → (turn (repeated turn k z) ≡ repeated turn k z) ⊎ (k + count z ≤ count (repeated turn k z))
  unfolding repeated
  still_or_more zero z = inr (omega arith)
  still_or_more (suc k) z = go (grown (g z) 0 z) (still_or_more k (turn z))
    where
      go : (turn z ≡ z) ⊎ (count z < count (turn z)) → (turn (repeated turn k (turn z)) ≡ repeated turn k (turn z)) ⊎ (k + count (turn z) ≤ count (repeated turn k (turn z)))
          → (turn (repeated turn k (turn z)) ≡ repeated turn k (turn z)) ⊎ (suc k + count z ≤ count (repeated turn k (turn z)))
      go (inl e) ih = inl (ap turn (at e) ∙ e ∙ sym (at e))
        where
          at : turn z ≡ z → repeated turn k (turn z) ≡ z
          at e = ap (repeated turn k) e ∙ stays_still k z e
      go (inr h) (inl s) = inl s
      go (inr h) (inr m) = inr (omega arith)

  pub turns_close : (k : ℕ) (z : List Bool) → length z ≡ k → turn (repeated turn k z) ≡ repeated turn k z
  turns_close k z e = go (still_or_more k z) (grown (g (repeated turn k z)) 0 (repeated turn k z))
    where
      go : (turn (repeated turn k z) ≡ repeated turn k z) ⊎ (k + count z ≤ count (repeated turn k z))
          → (turn (repeated turn k z) ≡ repeated turn k z) ⊎ (count (repeated turn k z) < count (turn (repeated turn k z)))
          → turn (repeated turn k z) ≡ repeated turn k z
      go (inl s) r = s
      go (inr m) (inl s) = s
      go (inr m) (inr h) =
          let a = count_length (turn (repeated turn k z)) in
          let b = length_grow (g (repeated turn k z)) 0 (repeated turn k z) in
          let c = length_turns k z in absurd (omega arith)

  -- so what passes the test is in the zone
  pub turns_closed : (k : ℕ) (z : List Bool) → length z ≡ k → (i : ℕ) → i < k → g (repeated turn k z) i ≡ true → in_zone (repeated turn k z) i ≡ true
  turns_closed k z e i h t =
      ap (λ y. in_zone y i) (sym (turns_close k z e)) ∙ grow_at (g (repeated turn k z)) (repeated turn k z) i (let l = length_turns k z in omega arith)
      ∙ or_right (in_zone (repeated turn k z) i) (g (repeated turn k z) i) t

  pub turns_keep : (P : ℕ → Type 0) (n k : ℕ) (z : List Bool) → length z ≡ n → ((i : ℕ) → in_zone z i ≡ true → P i)
      → ((y : List Bool) (i : ℕ) → i < n → ((j : ℕ) → in_zone y j ≡ true → P j) → g y i ≡ true → P i) → (i : ℕ) → in_zone (repeated turn k z) i ≡ true → P i
  unfolding repeated
  turns_keep P n zero z len first step i e = first i e
  turns_keep P n (suc k) z len first step i e =
      turns_keep P n k (turn z) (length_grow (g z) 0 z ∙ len) (λ j q. ⊎_elim (first j) (step z j (let l = zone_inside (turn z) j q in let m = length_grow (g z) 0 z in omega arith) first) (grow_cases (g z) z j q)) step i e

  pub turns_hold : (k : ℕ) (z : List Bool) (i : ℕ) → in_zone z i ≡ true → in_zone (repeated turn k z) i ≡ true
  unfolding repeated
  turns_hold zero z i e = e
  turns_hold (suc k) z i e = turns_hold k (turn z) i (grow_keeps (g z) z i e)

-- ---- what the tests tell

pub weightless_tells : (z : List Bool) (r : ℕ) (xs : List Reach) → weightless_into z r xs ≡ true → (x : Reach) × In x xs × (weight r x ≡ 0) × (in_zone z x.node ≡ true)
unfolding weightless_into
weightless_tells z r [] e = absurd (false≢true e)
weightless_tells z r (x ∷ xs) e = ⊎_elim
    (λ h. let b = and_parts (eqb (weight r x) 0) (in_zone z x.node) h in (x, inl refl, eqb-true (weight r x) 0 b.0, b.1))
    (λ h. let t = weightless_tells z r xs h in (t.0, inr t.1, t.2, t.3))
    (or_cases (eqb (weight r x) 0 && in_zone z x.node) (weightless_into z r xs) e)

pub weightless_from : (z : List Bool) (r : ℕ) (xs : List Reach) (x : Reach) → In x xs → weight r x ≡ 0 → in_zone z x.node ≡ true → weightless_into z r xs ≡ true
unfolding weightless_into
weightless_from z r [] x i w e = absurd i
weightless_from z r (y ∷ ys) x i w e = ⊎_elim
    (λ q. or_left (eqb (weight r y) 0 && in_zone z y.node) (weightless_into z r ys) (and_from _ _ (eq-eqb (weight r y) 0 (ap (weight r) q ∙ w)) (ap (λ (t : Reach). in_zone z t.node) q ∙ e)))
    (λ j. or_right (eqb (weight r y) 0 && in_zone z y.node) (weightless_into z r ys) (weightless_from z r ys x j w e)) i

is_node_some : (o : Option ℕ) (n : ℕ) → is_node o n ≡ true → o ≡ Some n
is_node_some None n e = absurd (false≢true e)
is_node_some (Some m) n e = ap Some (eqb-true m n e)

pub leads_tells : (es : List Edges) (z : List Bool) (n : ℕ) → leads_in es z n ≡ true → (e : Edges) × In e es × (e.source ≡ Some n) × (weightless_into z e.left e.reaches ≡ true)
unfolding leads_in
leads_tells [] z n h = absurd (false≢true h)
leads_tells (e ∷ es) z n h = ⊎_elim
    (λ q. let b = and_parts (is_node e.source n) (weightless_into z e.left e.reaches) q in (e, inl refl, is_node_some e.source n b.0, b.1))
    (λ q. let t = leads_tells es z n q in (t.0, inr t.1, t.2, t.3))
    (or_cases (is_node e.source n && weightless_into z e.left e.reaches) (leads_in es z n) h)

pub leads_from : (es : List Edges) (z : List Bool) (n : ℕ) (e : Edges) → In e es → e.source ≡ Some n → weightless_into z e.left e.reaches ≡ true → leads_in es z n ≡ true
unfolding leads_in
leads_from [] z n e i s w = absurd i
leads_from (f ∷ fs) z n e i s w = ⊎_elim
    (λ q. or_left (is_node f.source n && weightless_into z f.left f.reaches) (leads_in fs z n)
    (subst (λ (t : Edges). (is_node t.source n && weightless_into z t.left t.reaches) ≡ true) (sym q) (and_from _ _ (ap (λ o. is_node o n) s ∙ eq-eqb n n refl) w)))
    (λ j. or_right (is_node f.source n && weightless_into z f.left f.reaches) (leads_in fs z n) (leads_from fs z n e j s w)) i

pub runs_tells : (xs : List Reach) (n : ℕ) → runs_to xs n ≡ true → (x : Reach) × In x xs × (x.node ≡ n)
unfolding runs_to
runs_tells [] n e = absurd (false≢true e)
runs_tells (x ∷ xs) n e = ⊎_elim (λ h. (x, inl refl, eqb-true x.node n h)) (λ h. let t = runs_tells xs n h in (t.0, inr t.1, t.2)) (or_cases (eqb x.node n) (runs_to xs n) e)

pub runs_from : (xs : List Reach) (x : Reach) → In x xs → runs_to xs x.node ≡ true
unfolding runs_to
runs_from [] x i = absurd i
runs_from (y ∷ ys) x i = ⊎_elim (λ q. or_left (eqb y.node x.node) (runs_to ys x.node) (eq-eqb _ _ (ap (λ (t : Reach). t.node) q))) (λ j. or_right (eqb y.node x.node) (runs_to ys x.node) (runs_from ys x j)) i

pub led_from : (es : List Edges) (z : List Bool) (e : Edges) (x : Reach) → In e es → starts z e.source ≡ true → In x e.reaches → led_to es z x.node ≡ true
unfolding led_to
led_from [] z e x i s j = absurd i
led_from (f ∷ fs) z e x i s j = ⊎_elim
    (λ q. or_left (starts z f.source && runs_to f.reaches x.node) (led_to fs z x.node)
    (subst (λ (t : Edges). (starts z t.source && runs_to t.reaches x.node) ≡ true) (sym q) (and_from _ _ s (runs_from e.reaches x j))))
    (λ k. or_right (starts z f.source && runs_to f.reaches x.node) (led_to fs z x.node) (led_from fs z e x k s j)) i

-- ---- the goal zone

module _ (rx : Relaxed) (es : List Edges) (some_node : 1 ≤ rx.nodes) where
  only_goal : (i : ℕ) → in_zone (set (replicate rx.nodes false) (goal rx) true) i ≡ true → i ≡ goal rx
  only_goal i e = ⊎_elim (λ q. q) (λ ne. absurd (false≢true (sym (replicate_at rx.nodes i false) ∙ sym (get_or-set_other (replicate rx.nodes false) (goal rx) i true false ne) ∙ e))) (cases_eq i (goal rx))

  first_long : length (set (replicate rx.nodes false) (goal rx) true) ≡ rx.nodes
  first_long = length-set (replicate rx.nodes false) (goal rx) true ∙ length-replicate rx.nodes false

  pub goal_in : in_zone (goal_zone rx es) (goal rx) ≡ true
  unfolding goal_zone
  goal_in = turns_hold (leads_in es) rx.nodes _ (goal rx) (get_or-set_same (replicate rx.nodes false) (goal rx) true false (let l = length-replicate rx.nodes false in omega arith))

  pub goal_zone_keeps : (P : ℕ → Type 0) → P (goal rx) → ((z : List Bool) (i : ℕ) → i < rx.nodes → ((j : ℕ) → in_zone z j ≡ true → P j) → leads_in es z i ≡ true → P i) → (i : ℕ) → in_zone (goal_zone rx es) i ≡ true → P i
  unfolding goal_zone
  goal_zone_keeps P g step i e = turns_keep (leads_in es) P rx.nodes rx.nodes (set (replicate rx.nodes false) (goal rx) true) first_long (λ j q. subst P (sym (only_goal j q)) g) step i e

  pub goal_zone_closed : (i : ℕ) → i < rx.nodes → leads_in es (goal_zone rx es) i ≡ true → in_zone (goal_zone rx es) i ≡ true
  unfolding goal_zone
  goal_zone_closed i h t = turns_closed (leads_in es) rx.nodes (set (replicate rx.nodes false) (goal rx) true) first_long i h t

-- ---- the start zone

module _ (rx : Relaxed) (es : List Edges) (near : List Bool) (long : length rx.holds ≡ rx.nodes) where
  abbrev joins : List Bool → ℕ → Bool
  joins z n = not (in_zone near n) && led_to es z n

  pub held_in : (i : ℕ) → in_zone rx.holds i ≡ true → in_zone (start_zone rx es near) i ≡ true
  unfolding start_zone
  held_in i e = turns_hold joins rx.nodes rx.holds i e

  pub start_apart : ((i : ℕ) → in_zone rx.holds i ≡ true → in_zone near i ≡ true → ⊥) → (i : ℕ) → in_zone (start_zone rx es near) i ≡ true → in_zone near i ≡ true → ⊥
  unfolding start_zone
  start_apart h i e n = turns_keep joins (λ j. in_zone near j ≡ true → ⊥) rx.nodes rx.nodes rx.holds long h (λ z j _ _ t k. true≢false (sym k ∙ open' (in_zone near j) (and_parts (not (in_zone near j)) (led_to es z j) t).0)) i e n
    where
      open' : (b : Bool) → not b ≡ true → b ≡ false
      open' true e = absurd (false≢true e)
      open' false e = refl

  pub start_closed : (e : Edges) (x : Reach) → In e es → starts (start_zone rx es near) e.source ≡ true → In x e.reaches → x.node < rx.nodes → in_zone near x.node ≡ false → in_zone (start_zone rx es near) x.node ≡ true
  unfolding start_zone
  start_closed e x i s j h n = turns_closed joins rx.nodes rx.holds long x.node h (and_from _ _ (ap not n) (led_from es _ e x i s j))

-- ---- zones, in whatever order they are found

-- two zones of one length with the same nodes are the same
same_zone : (y z : List Bool) → length y ≡ length z → Within y z → Within z y → y ≡ z
same_zone y z l a b = same_lists y z l each
  where
    pick : (n : ℕ) (c d : Bool) → in_zone y n ≡ c → in_zone z n ≡ d → in_zone y n ≡ in_zone z n
    pick n true d e f = e ∙ sym (a n e)
    pick n false true e f = b n f ∙ sym f
    pick n false false e f = e ∙ sym f

    each : (n : ℕ) (d : Bool) → n < length y → get_or y n d ≡ get_or z n d
    each n d h = get_or_default y n d false h ∙ pick n (in_zone y n) (in_zone z n) refl refl ∙ sym (get_or_default z n d false (omega arith))

weightless_more : (y z : List Bool) → Within y z → (r : ℕ) (xs : List Reach) → weightless_into y r xs ≡ true → weightless_into z r xs ≡ true
weightless_more y z w r xs t = let x = weightless_tells y r xs t in weightless_from z r xs x.0 x.1 x.2 (w x.0.node x.3)

-- a node that leads into a part of a zone leads into the zone
pub leads_more : (es : List Edges) (y z : List Bool) → Within y z → (n : ℕ) → leads_in es y n ≡ true → leads_in es z n ≡ true
leads_more es y z w n t = let e = leads_tells es y n t in leads_from es z n e.0 e.1 e.2 (weightless_more y z w e.0.left e.0.reaches e.3)

starts_more : (y z : List Bool) → Within y z → (o : Option ℕ) → starts y o ≡ true → starts z o ≡ true
starts_more y z w None t = refl
starts_more y z w (Some n) t = w n t

pub led_tells : (es : List Edges) (z : List Bool) (n : ℕ) → led_to es z n ≡ true → (e : Edges) × In e es × (starts z e.source ≡ true) × (runs_to e.reaches n ≡ true)
unfolding led_to
led_tells [] z n h = absurd (false≢true h)
led_tells (e ∷ es) z n h = ⊎_elim
    (λ q. let b = and_parts (starts z e.source) (runs_to e.reaches n) q in (e, inl refl, b.0, b.1))
    (λ q. let t = led_tells es z n q in (t.0, inr t.1, t.2, t.3))
    (or_cases (starts z e.source && runs_to e.reaches n) (led_to es z n) h)

pub led_more : (es : List Edges) (y z : List Bool) → Within y z → (n : ℕ) → led_to es y n ≡ true → led_to es z n ≡ true
led_more es y z w n t =
    let e = led_tells es y n t in
    let x = runs_tells e.0.reaches n e.3 in
    subst (λ m. led_to es z m ≡ true) x.2 (led_from es z e.0 x.0 e.1 (starts_more y z w e.0.source e.2) x.1)

pub goal_zone_long : (rx : Relaxed) (es : List Edges) → 1 ≤ rx.nodes → length (goal_zone rx es) ≡ rx.nodes
unfolding goal_zone
goal_zone_long rx es h = length_turns (leads_in es) rx.nodes (set (replicate rx.nodes false) (goal rx) true) ∙ first_long rx es h

pub start_zone_long : (rx : Relaxed) (es : List Edges) (near : List Bool) → length rx.holds ≡ rx.nodes → length (start_zone rx es near) ≡ rx.nodes
unfolding start_zone
start_zone_long rx es near h = length_turns (joins rx es near h) rx.nodes rx.holds ∙ h

pub goal_zone_only : GoalZoneOnly
goal_zone_only rx es some_node zone c w = same_zone zone (goal_zone rx es) (c.long ∙ sym (goal_zone_long rx es some_node)) w
    (goal_zone_keeps rx es some_node (λ m. in_zone zone m ≡ true) c.begins (λ z m h ih l. c.closed m h (leads_more es z zone ih m l)))

pub start_zone_only : StartZoneOnly
unfolding start_zone
start_zone_only rx es near long zone c w = same_zone zone (start_zone rx es near) (c.long ∙ sym (start_zone_long rx es near long)) w
    (turns_keep (joins rx es near long) (λ m. in_zone zone m ≡ true) rx.nodes rx.nodes rx.holds long c.begins (λ z m h ih t.
    let b = and_parts (not (in_zone near m)) (led_to es z m) t in
    c.closed m h (not-true (in_zone near m) b.0) (led_more es z zone ih m b.1)))
