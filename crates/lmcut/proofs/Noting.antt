-- The landmark records of a round, action by action: an action that paid has one.
use Rattle.std.proofs.Common.{◌≡◌, ℕ, suc, ◌+◌, ◌-◌, ◌<◌, ◌≤◌, cond, eqb, ltb, Bor, List, [], ◌∷◌, ◌++◌, length, get_or, set, sym, refl, ap, ◌∙◌, ap₂, ⊎_elim, arith}
use Rattle.std.specs.List.{zip, enumerate_from, flat_map}
use Rattle.std.proofs.lemmas.List.{append-nil, append_assoc, length-append, flat_map_more, get_or_default}
use Rattle.std.proofs.lemmas.List.FromFn.{length-enumerate_from, get_or-enumerate_from}
use Rattle.std.proofs.lemmas.Slice.Zip.{length-zip, get_or-zip}
use Rattle.std.proofs.lemmas.Bool.{cases_eq, eq-eqb, ne_eqb, lt-ltb, le-ltb, cond-true, cond-false}
use Rattle.landmarks.specs.Rounds.{Crossing, charge_of, crosses, grounds_of}
use Rattle.landmarks.specs.declared.Ground.{Ground}
use Rattle.landmarks.proofs.Landmarks.{no_crossing}
use Rattle.lmcut.specs.Totalled.{laid}
use Rattle.lmcut.proofs.Laying.{laid_push}

-- an action's index, what was left of its cost and what is left
abbrev pub Share : Type 0
Share = ℕ × (ℕ × ℕ)

abbrev pub told : ℕ × (Bor ℕ × Bor ℕ) → Share
told p = (p.0, (p.1.0.now, p.1.1.now))

-- the shares of all actions
abbrev pub shares : List ℕ → List ℕ → List Share
shares bs ls = enumerate_from 0 (zip bs ls)

abbrev pub ground_of : ℕ → ℕ → Share → Ground
ground_of k μ p = record { round = k; weight = μ; number = p.0 + 1; charge = p.1.0 - p.1.1 }

-- the records of an action: one if it paid
abbrev pub noted_at : ℕ → ℕ → Share → List Ground
noted_at k μ p = cond (eqb (p.1.0 - p.1.1) 0) [] (ground_of k μ p ∷ [])

-- the records of the actions so far are written after those that a buffer holds, as far as there is room
pub record Noting (k μ : ℕ) (ps : List Share) (old : List Ground) (count : ℕ) (records : List Ground) (all : ℕ) : Type 0 where
  pub few : length (flat_map (noted_at k μ) ps) ≤ length ps
  pub counted : all ≡ count + length (flat_map (noted_at k μ) ps)
  pub written : (gs buffer : List Ground) → count ≡ length gs → old ≡ laid gs buffer → records ≡ laid (gs ++ flat_map (noted_at k μ) ps) buffer

module _ (k μ : ℕ) (ps : List Share) (old : List Ground) (count : ℕ) (records : List Ground) (all : ℕ) (w : Noting k μ ps old count records all) (p : Share) where
  -- an action that paid nothing
  pub noting_free : p.1.0 - p.1.1 ≡ 0 → Noting k μ (ps ++ p ∷ []) old count records all
  noting_free e = record {
    few = (let f = w.few in let l = length-append ps (p ∷ []) in let s = ap length same in omega arith);
    counted = (let c = w.counted in let s = ap length same in omega arith);
    written = λ gs buffer c o. w.written gs buffer c o ∙ ap (λ hs. laid (gs ++ hs) buffer) (sym same);
  }
    where
      same : flat_map (noted_at k μ) (ps ++ p ∷ []) ≡ flat_map (noted_at k μ) ps
      same = sym (flat_map_more (noted_at k μ) [] ps p) ∙ ap (λ gs. flat_map (noted_at k μ) ps ++ gs) (cond-true (eqb (p.1.0 - p.1.1) 0) [] (ground_of k μ p ∷ []) (eq-eqb (p.1.0 - p.1.1) 0 e)) ∙ append-nil (flat_map (noted_at k μ) ps)

  -- an action that paid
  pub noting_paid : (p.1.0 - p.1.1 ≡ 0 → ⊥) → Noting k μ (ps ++ p ∷ []) old count (set records all (ground_of k μ p)) (all + 1)
  noting_paid ne = record {
    few = (let f = w.few in let l = length-append ps (p ∷ []) in let m = length-append before (g ∷ []) in let s = ap length same in omega arith);
    counted = (let c = w.counted in let m = length-append before (g ∷ []) in let s = ap length same in omega arith);
    written = λ gs buffer c o.
        let l = length-append gs before in
        let n : all ≡ length (gs ++ before) = (let d = w.counted in omega arith) in
        ap₂ (λ rs j. set rs j g) (w.written gs buffer c o) n ∙ sym (laid_push (gs ++ before) g buffer) ∙ ap (λ l. laid l buffer) (append_assoc gs before (g ∷ []) ∙ ap (λ hs. gs ++ hs) (sym same));
  }
    where
      g : Ground
      g = ground_of k μ p

      before : List Ground
      before = flat_map (noted_at k μ) ps

      same : flat_map (noted_at k μ) (ps ++ p ∷ []) ≡ before ++ g ∷ []
      same = sym (flat_map_more (noted_at k μ) [] ps p) ∙ ap (λ gs. before ++ gs) (cond-false (eqb (p.1.0 - p.1.1) 0) [] (g ∷ []) (ne_eqb (p.1.0 - p.1.1) 0 ne))

-- an action crosses the cut just where it is charged, and that is its share
pub record Charged (μ : ℕ) (c : Crossing) (b l : ℕ) : Type 0 where
  pub paid : b - l ≡ charge_of μ c
  pub crossed : crosses c.edges ≡ ltb 0 (charge_of μ c)

-- where this is so of each action, the records are those of the cut
pub noted_all : (k μ m : ℕ) (bs ls : List ℕ) (cs : List Crossing) → length bs ≡ length cs → length bs ≤ length ls → ((i : ℕ) → i < length bs → Charged μ (get_or cs i no_crossing) (get_or bs i 0) (get_or ls i 0))
    → flat_map (noted_at k μ) (enumerate_from m (zip bs ls)) ≡ grounds_of k μ (m + 1) cs
unfolding grounds_of
noted_all k μ m [] ls [] e h each = refl
noted_all k μ m [] ls (c ∷ cs) e h each = absurd (omega arith)
noted_all k μ m (b ∷ bs) ls [] e h each = absurd (omega arith)
noted_all k μ m (b ∷ bs) [] (c ∷ cs) e h each = absurd (omega arith)
noted_all k μ m (b ∷ bs) (l ∷ ls) (c ∷ cs) e h each = ap₂ ◌++◌ head (noted_all k μ (m + 1) bs ls cs (omega arith) (omega arith) (λ i j. each (suc i) (omega arith))) ∙ last
  where
    n : ℕ
    n = charge_of μ c

    g : Ground
    g = record { round = k; weight = μ; number = m + 1; charge = n }

    tail : List Ground
    tail = grounds_of k μ (m + 1 + 1) cs

    first : Charged μ c b l
    first = each 0 (omega arith)

    head : noted_at k μ (m, (b, l)) ≡ cond (eqb n 0) [] (g ∷ [])
    head = ap (λ x. cond (eqb x 0) [] (record { round = k; weight = μ; number = m + 1; charge = x } ∷ [])) first.paid

    last : cond (eqb n 0) [] (g ∷ []) ++ tail ≡ cond (crosses c.edges) (g ∷ tail) tail
    last = ⊎_elim
        (λ z. ap (λ gs. gs ++ tail) (cond-true (eqb n 0) [] (g ∷ []) (eq-eqb n 0 z)) ∙ sym (cond-false (crosses c.edges) (g ∷ tail) tail (first.crossed ∙ le-ltb 0 n (omega arith))))
        (λ z. ap (λ gs. gs ++ tail) (cond-false (eqb n 0) [] (g ∷ []) (ne_eqb n 0 z)) ∙ sym (cond-true (crosses c.edges) (g ∷ tail) tail (first.crossed ∙ lt-ltb 0 n (omega arith))))
        (cases_eq n 0)

pub length-shares : (bs ls : List ℕ) → length bs ≤ length ls → length (shares bs ls) ≡ length bs
length-shares bs ls h = length-enumerate_from 0 (zip bs ls) ∙ length-zip bs ls ∙ omega arith

-- what a turn of the loop reads
pub share_at : (bs ls : List ℕ) (n : ℕ) (p : Share) → length bs ≤ length ls → (n < length (shares bs ls)) × (p ≡ get_or (shares bs ls) n p) → (n < length bs) × ((p.1.0 ≡ get_or bs n 0) × (p.1.1 ≡ get_or ls n 0))
share_at bs ls n p h t =
    let e = length-shares bs ls h in
    let inside : n < length bs = let k = t.0 in omega arith in
    let k : n < length (zip bs ls) = (let m = length-zip bs ls in omega arith) in
    let z : p ≡ (0 + n, (get_or bs n p.1.0, get_or ls n p.1.1)) = t.1 ∙ get_or-enumerate_from 0 (zip bs ls) n p k ∙ ap (λ (q : ℕ × ℕ). (0 + n, q)) (get_or-zip bs ls n p.1 inside (omega arith)) in
    (inside, (ap (λ (q : Share). q.1.0) z ∙ get_or_default bs n p.1.0 0 inside, ap (λ (q : Share). q.1.1) z ∙ get_or_default ls n p.1.1 0 (omega arith)))
