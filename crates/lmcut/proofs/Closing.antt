-- Zones that spread until nothing changes, and the goal zone.
use Rattle.std.proofs.Common.{◌≡◌, ℕ, zero, suc, ◌+◌, ◌-◌, ◌/◌, ◌<◌, ◌≤◌, Bool, true, eqb, ltb, List, get_or, is_some, Some, None, Option, sym, refl, ap, ◌∙◌, subst, inl, inr, ⊎_elim, one-mul, arith, MatchOption}
use lib.Bits.{bit_or, or_add_and}
use Rattle.std.proofs.lemmas.Nat.{div_below, le-div, and_le_r}
use Rattle.std.proofs.lemmas.Bool.{cases_lt, eq-eqb, ne_eqb, lt-ltb, le-ltb, or_cases, or_left, or_right, false≢true}
use Rattle.task.specs.States.{fact_holds}
use Rattle.task.proofs.Words.{holds_or}
use Rattle.landmarks.specs.Laws.{In, Within, GoalClosed}
use Rattle.landmarks.specs.Relaxed.{Relaxed, goal}
use Rattle.landmarks.specs.Rounds.{Edges, in_zone, weightless_into, leads_in, goal_zone}
use Rattle.landmarks.proofs.Zones.{zone_inside, leads_tells, leads_from, goal_in, goal_zone_closed, goal_zone_only}
use Rattle.lmcut.specs.Drawn.{edges_at, edges_from, edges_in, zone_of}
use Rattle.lmcut.specs.Questions.{reaches_from, relaxed_of}
use Rattle.lmcut.specs.Spreading.{Closed, Spreads, Stepped, Leads}
use Rattle.lmcut.specs.declared.question.Edge.{Edge}
use Rattle.lmcut.specs.declared.question.Question.{Question}
use Rattle.lmcut.proofs.Paying.{edges_in_from}
use Rattle.lmcut.proofs.Prepared.{no_bit}
use Rattle.lmcut.proofs.Zoned.{zone_long, zone_at, zone_goal}

-- ---- steps

abbrev pub Monotone : (List Bool → ℕ → Bool) → Type 0
Monotone g = (y z : List Bool) → Within y z → (i : ℕ) → g y i ≡ true → g z i ≡ true

pub spreads_same : (g : List Bool → ℕ → Bool) (N : ℕ) (z : List Bool) → Spreads g N z z
spreads_same g N z = record { keeps = λ i e. e; within = λ y c s i e. s i e }

pub spreads_on : (g : List Bool → ℕ → Bool) (N : ℕ) (x y z : List Bool) → Spreads g N x y → Spreads g N y z → Spreads g N x z
spreads_on g N x y z a b = record { keeps = λ i e. b.keeps i (a.keeps i e); within = λ w c s i e. b.within w c (a.within w c s) i e }

module _ (q : Question) (goal : Bool) (g : List Bool → ℕ → Bool) where
  pub unchanged : (H : List Bool → Type 0) (w : ℕ) → H (zone_of q goal w) → Stepped q goal g H w w
  unchanged H w h = record { spreads = spreads_same g q.nodes (zone_of q goal w); more = omega arith; still = λ _. h }

  -- one step after another
  pub stepped_on : (H K L : List Bool → Type 0) (u v w : ℕ) → Stepped q goal g H u v → Stepped q goal g K v w → (H (zone_of q goal w) → K (zone_of q goal w) → L (zone_of q goal w)) → Stepped q goal g L u w
  stepped_on H K L u v w s t both = record {
    spreads = spreads_on g q.nodes (zone_of q goal u) (zone_of q goal v) (zone_of q goal w) s.spreads t.spreads;
    more = let a = s.more in let b = t.more in omega arith;
    still = λ e.
        let a = s.more in
        let b = t.more in
        let here : v ≡ w = omega arith in
        both (subst (λ x. H (zone_of q goal x)) here (s.still (omega arith))) (t.still (sym here));
  }

  pub stepped_like : (H K : List Bool → Type 0) (u v : ℕ) → (H (zone_of q goal v) → K (zone_of q goal v)) → Stepped q goal g H u v → Stepped q goal g K u v
  stepped_like H K u v f s = record { spreads = s.spreads; more = s.more; still = λ e. f (s.still e) }

  -- the nodes of a word that pass the test are added
  pub added : (H : List Bool → Type 0) → Monotone g → 1 ≤ q.nodes → (w v : ℕ) → ((n : ℕ) → n + 1 < q.nodes → fact_holds v n ≡ true → g (zone_of q goal w) n ≡ true) → (bit_or w v ≡ w → H (zone_of q goal w)) → Stepped q goal g H w (bit_or w v)
  added H mono some w v pass rest = record {
    spreads = record { keeps = kept; within = only };
    more = let s = or_add_and w v in let l = and_le_r w v in omega arith;
    still = λ e. subst (λ x. H (zone_of q goal x)) (sym e) (rest e);
  }
    where
      inner : (x i : ℕ) → in_zone (zone_of q goal x) i ≡ true → i < q.nodes
      inner x i e = let l = zone_long q goal x some in let h = zone_inside (zone_of q goal x) i e in omega arith

      -- the goal node is in both zones or in none
      end : (x y i : ℕ) → i < q.nodes → q.nodes ≤ i + 1 → in_zone (zone_of q goal x) i ≡ in_zone (zone_of q goal y) i
      end x y i h l = let e : i ≡ q.nodes - 1 = omega arith in subst (λ j. in_zone (zone_of q goal x) j ≡ in_zone (zone_of q goal y) j) (sym e) (zone_goal q goal x some ∙ sym (zone_goal q goal y some))

      kept : Within (zone_of q goal w) (zone_of q goal (bit_or w v))
      kept i e = ⊎_elim
          (λ h. zone_at q goal (bit_or w v) some i h ∙ holds_or w v i ∙ or_left (fact_holds w i) (fact_holds v i) (sym (zone_at q goal w some i h) ∙ e))
          (λ h. end (bit_or w v) w i (inner w i e) h ∙ e)
          (cases_lt (i + 1) q.nodes)

      only : (z : List Bool) → Closed g q.nodes z → Within (zone_of q goal w) z → Within (zone_of q goal (bit_or w v)) z
      only z c s i e = ⊎_elim
          (λ h. ⊎_elim
          (λ o. s i (zone_at q goal w some i h ∙ o))
          (λ o. c i (inner (bit_or w v) i e) (mono (zone_of q goal w) z s i (pass i h o)))
          (or_cases (fact_holds w i) (fact_holds v i) (sym (holds_or w v i) ∙ sym (zone_at q goal (bit_or w v) some i h) ∙ e)))
          (λ h. s i (end w (bit_or w v) i (inner (bit_or w v) i e) h ∙ e))
          (cases_lt (i + 1) q.nodes)

-- a word that does not change has what was added
pub has_added : (w v n : ℕ) → bit_or w v ≡ w → fact_holds v n ≡ true → fact_holds w n ≡ true
has_added w v n e t = ap (λ x. fact_holds x n) (sym e) ∙ holds_or w v n ∙ or_right (fact_holds w n) (fact_holds v n) t

-- ---- edges of weight 0

pub none≢some : (e : Edge) → None ≡ Some e → ⊥
none≢some e h = false≢true (ap is_some h)

pub some_same : (x e : Edge) (P : Edge → Type 0) → Some x ≡ Some e → P x → P e
some_same x e P h p = subst (λ o. MatchOption o ⊥ P) h p

pub weightless_zero : (m k : ℕ) → 1 ≤ k → eqb (m / k) 0 ≡ ltb m k
weightless_zero m k h = ⊎_elim
    (λ l. let d = div_below m k 1 h (let o = one-mul k in omega arith) in eq-eqb (m / k) 0 (omega arith) ∙ sym (lt-ltb m k l))
    (λ l. let d = le-div 1 m k h (let o = one-mul k in omega arith) in ne_eqb (m / k) 0 (λ z. omega arith) ∙ sym (le-ltb m k l)) (cases_lt m k)

-- ---- the goal zone

pub from_edges : (q : Question) (rs : List ℕ) (ss : List (Option ℕ)) (s k : ℕ) (e : Edges) → In e (edges_from q rs ss s k) → (a : ℕ) × (s ≤ a) × (a < s + k) × (edges_at q rs ss a ≡ e)
unfolding edges_from
from_edges q rs ss s zero e i = absurd i
from_edges q rs ss s (suc k) e (inl z) = (s, omega arith, omega arith, z)
from_edges q rs ss s (suc k) e (inr j) = let r = from_edges q rs ss (s + 1) k e j in let l = r.1 in let m = r.2 in (r.0, omega arith, omega arith, r.3)

-- an action that leads on gives its chosen need
pub leads_source : (q : Question) (rs : List ℕ) (ss : List (Option ℕ)) (z : List Bool) (a n : ℕ) → a < q.actions → get_or ss a None ≡ Some n → weightless_into z (get_or rs a 0) (reaches_from q a 0 q.nodes) ≡ true → leads_in (edges_in q rs ss) z n ≡ true
leads_source q rs ss z a n h s t = leads_from (edges_in q rs ss) z n (edges_at q rs ss a) (edges_in_from q rs ss 0 q.actions a (omega arith) (omega arith)) s t

abbrev pub Led : Question → List ℕ → List (Option ℕ) → ℕ → List Bool → Type 0
Led q rs ss i z = (a : ℕ) → a < i → Leads q rs ss a z

pub led_closed : (q : Question) (rs : List ℕ) (ss : List (Option ℕ)) (i : ℕ) (z : List Bool) → q.actions ≤ i → Led q rs ss i z → Closed (leads_in (edges_in q rs ss)) q.nodes z
led_closed q rs ss i z h l n _ t =
    let e = leads_tells (edges_in q rs ss) z n t in
    let f = from_edges q rs ss 0 q.actions e.0 e.1 in
    let m = f.2 in
    l f.0 (omega arith) n (ap (λ (w : Edges). w.source) f.3 ∙ e.2) (ap (λ (w : Edges). weightless_into z w.left w.reaches) f.3 ∙ e.3)

pub relaxed_nodes : (q : Question) → (relaxed_of q).nodes ≡ q.nodes
unfolding relaxed_of
relaxed_nodes q = refl

module _ (q : Question) (rs : List ℕ) (ss : List (Option ℕ)) (w : ℕ) (some : 1 ≤ q.nodes)
    (spreads : Spreads (leads_in (edges_in q rs ss)) q.nodes (zone_of q true 0) (zone_of q true w)) (closed : Closed (leads_in (edges_in q rs ss)) q.nodes (zone_of q true w)) where
  abbrev rx : Relaxed
  rx = relaxed_of q

  abbrev es : List Edges
  es = edges_in q rs ss

  some_node : 1 ≤ rx.nodes
  some_node = let e = relaxed_nodes q in omega arith

  same_goal : q.nodes - 1 ≡ goal rx
  same_goal = ap (λ n. n - 1) (sym (relaxed_nodes q))

  first_only : (i : ℕ) → in_zone (zone_of q true 0) i ≡ true → i ≡ q.nodes - 1
  first_only i e =
      let l = zone_long q true 0 some in
      let h = zone_inside (zone_of q true 0) i e in
      ⊎_elim (λ k. absurd (false≢true (sym (no_bit i) ∙ sym (zone_at q true 0 some i k) ∙ e))) (λ k. omega arith) (cases_lt (i + 1) q.nodes)

  shut : GoalClosed rx es (zone_of q true w)
  shut = record {
    long = zone_long q true w some ∙ sym (relaxed_nodes q);
    begins = ap (in_zone (zone_of q true w)) (sym same_goal) ∙ zone_goal q true w some;
    closed = λ n h t. closed n (let e = relaxed_nodes q in omega arith) t;
  }

  pub goal_zone_is : (i : ℕ) → in_zone (zone_of q true w) i ≡ in_zone (goal_zone rx es) i
  goal_zone_is i = ap (λ z. in_zone z i) (goal_zone_only rx es some_node (zone_of q true w) shut
      (spreads.within (goal_zone rx es)
      (λ n h t. goal_zone_closed rx es some_node n (let e = relaxed_nodes q in omega arith) t)
      (λ n e. ap (in_zone (goal_zone rx es)) (first_only n e ∙ same_goal) ∙ goal_in rx es some_node)))
