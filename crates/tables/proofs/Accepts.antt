-- A task is accepted exactly when its tables keep the rules.
use Rattle.std.proofs.Common.{◌≡◌, ℕ, ◌+◌, ◌^◌, ◌<◌, ◌≤◌, Bool, true, false, cond, not, ◌&&◌, T, eqb, leb, ◌⊎◌, List, [], ◌∷◌, length, ℤ, pos, nat_abs, ◌≤ℤ◌, is_some, is_ok, Some, None, Decides, Option, refl, ap, ◌∙◌, inl, inr, ⊎_elim, arith}
use lib.Signed.{le_z}
use Rattle.std.proofs.lemmas.Bool.{true≢false, leb-true, le-leb, lt-ltb, eqb-true, ne_eqb, eqb-false, and_from, or_parts, or_from, not-true, not_from_false, cond_both, cases_eq}
use Rattle.std.proofs.lemmas.Bool.Decides.{nat_tests, Decides-and, Decides-or, Decides-eqb, Decides-ltb}
use Rattle.std.proofs.lemmas.Float.{T_from_true}
use Rattle.std.specs.List.{AllByRecursion}
use Rattle.tables.specs.Chains.{Visit, link, missing, visits, links_of, chain}
use Rattle.tables.specs.Check.{told, ◌or◌, unless, owned, at_link, among, also, quantity_keeps, kind_fits, subject_fits, amount_fits, next_fits, names_quantity, link_fault, visits_fault, chain_fault, each_fault, sizes_fault, quantity_fault, condition_fault, move_fault, first_fault, accepted}
use Rattle.tables.specs.Problem.{Problem}
use Rattle.tables.specs.Rules.{QuantityKeeps, KindOf, LinkKeeps, VisitKeeps, quantities_of, Once, ChainKeeps, ConditionKeeps, MoveKeeps, Keeps}
use Rattle.tables.specs.declared.Quantity as quantity
use Rattle.tables.specs.declared.Condition as condition
use Rattle.tables.specs.declared.Move as action
use Rattle.tables.specs.declared.Link.{Link}
use Rattle.tables.specs.declared.Role.{Role}
use Rattle.tables.specs.declared.Role.TheVariants.{Terms, Needs, Effects}
use Rattle.tables.specs.declared.fault.LinkFault.{LinkFault}
use Rattle.tables.specs.declared.fault.ChainFault.{ChainFault}
use Rattle.tables.specs.declared.fault.TaskFault.{TaskFault}
use Rattle.tables.proofs.Checked.{some_none, or_none, unless_none, or_skip, passed, next_cases, tests_pass}

-- no fault is told exactly where a fact holds
abbrev pub Clear : {F : Type 0} → Option F → Type 0 → Type 0
Clear o P = (o ≡ None → P) × (P → o ≡ None)

clear_unless : {F P : Type 0} (t : Bool) (f : F) → Decides t P → Clear (unless t f) P
clear_unless t f d = (λ e. d.0 (unless_none t f e), λ h. ap (λ b. unless b f) (d.1 h))

clear_or : {F P Q : Type 0} (a b : Option F) → Clear a P → Clear b Q → Clear (a or b) (P × Q)
clear_or a b c d = (λ e. let h = or_none a b e in (c.0 h.0, d.0 h.1), λ h. or_skip a b (c.1 h.0) ∙ d.1 h.1)

clear_like : {F P Q : Type 0} (a : Option F) → (P → Q) → (Q → P) → Clear a P → Clear a Q
clear_like a f g c = (λ e. f (c.0 e), λ h. c.1 (g h))

clear_owned : {P : Type 0} (o : Option ChainFault) (w : ChainFault → TaskFault) → Clear o P → Clear (owned w o) P
clear_owned None w c = (λ _. c.0 refl, λ _. refl)
clear_owned (Some f) w c = (λ e. absurd (some_none e), λ h. absurd (some_none (c.1 h)))

clear_link : {P : Type 0} (o : Option LinkFault) (n : ℕ) → Clear o P → Clear (at_link n o) P
clear_link None n c = (λ _. c.0 refl, λ _. refl)
clear_link (Some f) n c = (λ e. absurd (some_none e), λ h. absurd (some_none (c.1 h)))

clear_each : {X : Type 0} (f : ℕ → X → Option TaskFault) (P : X → Type 0) → ((k : ℕ) (x : X) → Clear (f k x) (P x)) → (k : ℕ) (xs : List X) → Clear (each_fault f k xs) (AllByRecursion P xs)
unfolding each_fault
clear_each f P c k [] = (λ _. tt, λ _. refl)
clear_each f P c k (x ∷ xs) = clear_or (f k x) (each_fault f (k + 1) xs) (c k x) (clear_each f P c (k + 1) xs)

-- ---- tests

decides_nat_le : (a b : ℕ) → Decides (leb a b) (a ≤ b)
decides_nat_le a b = (leb-true a b, le-leb a b)

from-T : (b : Bool) → T b → b ≡ true
from-T true t = refl
from-T false t = absurd t

pub decides_int_le : (a b : ℤ) → Decides (le_z a b) (a ≤ℤ b)
decides_int_le a b = (λ e. record { le = T_from_true (le_z a b) e }, λ h. from-T (le_z a b) h.le)

decides_quantity : (q : quantity.Quantity) → Decides (quantity_keeps q) (QuantityKeeps q)
decides_quantity q =
    let d = Decides-and _ _ (Decides-and _ _ (Decides-and _ _ (decides_nat_le (nat_abs q.lowest) 100000) (decides_nat_le (nat_abs q.highest) 100000)) (decides_nat_le (nat_abs q.start) 100000)) (Decides-and _ _ (decides_int_le q.lowest q.start) (decides_int_le q.start q.highest)) in (
      λ e. let h = d.0 e in record { lowest = h.0.0.0; highest = h.0.0.1; start = h.0.1; above = h.1.0; below = h.1.1 },
      λ h. d.1 (((h.lowest, h.highest), h.start), (h.above, h.below)),
    )

decides_kind : (r : Role) (k : ℕ) → Decides (kind_fits r k) (KindOf r k)
decides_kind Terms k = Decides-eqb k 1
decides_kind Needs k = Decides-or _ _ (Decides-eqb k 2) (Decides-eqb k 3)
decides_kind Effects k = Decides-and _ _ (decides_nat_le 4 k) (decides_nat_le k 6)

pub decides_names : (k : ℕ) → Decides (names_quantity k) ((k ≡ 1) ⊎ (k ≡ 6))
decides_names k = Decides-or _ _ (Decides-eqb k 1) (Decides-eqb k 6)

kind_range : (r : Role) (k : ℕ) → KindOf r k → (1 ≤ k) × (k ≤ 6)
kind_range Terms k h = (omega arith, omega arith)
kind_range Needs k h = ⊎_elim (λ e. (omega arith, omega arith)) (λ e. (omega arith, omega arith)) h
kind_range Effects k h = (omega arith, omega arith)

-- what the tests of a link's subject and amount say, and what makes them pass
module _ (p : Problem) (r : Role) (k s : ℕ) (a : ℤ) where
  told_quantity : subject_fits p k s ≡ true → (k ≡ 1) ⊎ (k ≡ 6) → (1 ≤ s) × (s ≤ length p.quantities)
  told_quantity t h = (grind (arith, nat_tests), grind (arith, nat_tests))

  told_condition : subject_fits p k s ≡ true → k ≡ 3 → (1 ≤ s) × (s ≤ length p.conditions)
  told_condition t h = (grind (arith, nat_tests), grind (arith, nat_tests))

  told_fact : subject_fits p k s ≡ true → (k ≡ 2) ⊎ ((k ≡ 4) ⊎ (k ≡ 5)) → s < p.head.facts
  told_fact t h = grind (arith, nat_tests)

  told_weight : amount_fits k a ≡ true → k ≡ 1 → (1 ≤ nat_abs a) × (nat_abs a ≤ 10)
  told_weight t h = (grind (arith, nat_tests), grind (arith, nat_tests))

  told_change : amount_fits k a ≡ true → k ≡ 6 → (1 ≤ nat_abs a) × (nat_abs a ≤ 200000)
  told_change t h = (grind (arith, nat_tests), grind (arith, nat_tests))

  subject_told : 1 ≤ k → k ≤ 6 → ((k ≡ 1) ⊎ (k ≡ 6) → (1 ≤ s) × (s ≤ length p.quantities)) → (k ≡ 3 → (1 ≤ s) × (s ≤ length p.conditions)) → ((k ≡ 2) ⊎ ((k ≡ 4) ⊎ (k ≡ 5)) → s < p.head.facts) → subject_fits p k s ≡ true
  subject_told low high q c f = cond_both (names_quantity k) _ _ (λ b. b ≡ true)
      (λ e. let h = q ((decides_names k).0 e) in and_from _ _ (le-leb 1 s h.0) (le-leb s _ h.1))
      (λ n. cond_both (eqb k 3) _ _ (λ b. b ≡ true)
      (λ e. let h = c (eqb-true k 3 e) in and_from _ _ (le-leb 1 s h.0) (le-leb s _ h.1))
      (λ e. lt-ltb s _ (f (fact_kind n e))))
    where
      fact_kind : names_quantity k ≡ false → eqb k 3 ≡ false → (k ≡ 2) ⊎ ((k ≡ 4) ⊎ (k ≡ 5))
      fact_kind n e =
          let h = or_parts (eqb k 1) (eqb k 6) n in
          let n1 = eqb-false k 1 h.0 in
          let n6 = eqb-false k 6 h.1 in
          let n3 = eqb-false k 3 e in
          ⊎_elim inl (λ n2. inr (⊎_elim inl (λ n4. inr (omega arith)) (cases_eq k 4))) (cases_eq k 2)

  amount_told : (k ≡ 1 → (1 ≤ nat_abs a) × (nat_abs a ≤ 10)) → (k ≡ 6 → (1 ≤ nat_abs a) × (nat_abs a ≤ 200000)) → amount_fits k a ≡ true
  amount_told w c = cond_both (eqb k 1) _ _ (λ b. b ≡ true)
      (λ e. let h = w (eqb-true k 1 e) in and_from _ _ (le-leb 1 _ h.0) (le-leb _ 10 h.1))
      (λ _. cond_both (eqb k 6) _ _ (λ b. b ≡ true)
      (λ e. let h = c (eqb-true k 6 e) in and_from _ _ (le-leb 1 _ h.0) (le-leb _ 200000 h.1))
      (λ _. refl))

-- ---- links and chains

-- whether a link names a quantity that was named before it
abbrev Fresh : Bool → ℕ → Type 0
Fresh before k = (names_quantity k && before) ≡ false

record LinkTold (p : Problem) (r : Role) (before : Bool) (n : ℕ) (l : Link) : Type 0 where
  keeps : LinkKeeps p r n l
  fresh : Fresh before l.kind

clear_fault : (p : Problem) (r : Role) (before : Bool) (n : ℕ) (l : Link) → Clear (link_fault p r before n l) (LinkTold p r before n l)
clear_fault p r before n l = (there, back)
  where
    there : link_fault p r before n l ≡ None → LinkTold p r before n l
    there e =
        let t = passed p r before n l e in
        record {
          keeps = record {
            kind = (decides_kind r l.kind).0 t.kind;
            quantity = told_quantity p r l.kind l.subject l.amount t.subject;
            condition = told_condition p r l.kind l.subject l.amount t.subject;
            fact = told_fact p r l.kind l.subject l.amount t.subject;
            weight = told_weight p r l.kind l.subject l.amount t.amount;
            change = told_change p r l.kind l.subject l.amount t.amount;
            next = next_cases n l.next t.next;
          };
          fresh = not-true _ t.fresh;
        }

    back : LinkTold p r before n l → link_fault p r before n l ≡ None
    back t =
        let k = t.keeps in
        let range = kind_range r l.kind k.kind in
        let next : next_fits n l.next ≡ true = (Decides-or _ _ (Decides-eqb l.next 0) (Decides-ltb n l.next)).1 k.next in
        let subject = subject_told p r l.kind l.subject l.amount range.0 range.1 k.quantity k.condition k.fact in
        let amount = amount_told p r l.kind l.subject l.amount k.weight k.change in
        tests_pass _ _ _ _ _ ((decides_kind r l.kind).1 k.kind) subject amount (not_from_false _ t.fresh) next

-- each link of a list names no quantity that was named before it
abbrev Apart : List ℕ → List Link → Type 0
Apart named [] = Unit {0}
Apart named (l ∷ ls) = Fresh (among named l.subject) l.kind × Apart (also l named) ls

clear_visits : (p : Problem) (r : Role) (named : List ℕ) (vs : List Visit) → Clear (visits_fault p r named vs) (AllByRecursion (VisitKeeps p r) vs × Apart named (links_of vs))
unfolding visits_fault links_of
clear_visits p r named [] = (λ _. (tt, tt), λ _. refl)
clear_visits p r named (missing n ∷ vs) = (λ e. absurd (some_none e), λ h. absurd h.0.0)
clear_visits p r named (link n l ∷ vs) =
    clear_like _
    (λ h. ((h.0.keeps, h.1.0), (h.0.fresh, h.1.1)))
    (λ h. (record { keeps = h.0.0; fresh = h.1.0 }, (h.0.1, h.1.1)))
    (clear_or _ _ (clear_link _ n (clear_fault p r (among named l.subject) n l)) (clear_visits p r (also l named) vs))

-- so no quantity is named twice, and the other way round
abbrev Others : List ℕ → List ℕ → Type 0
Others named qs = AllByRecursion (λ q. among named q ≡ false) qs

others_cons : (s : ℕ) (named qs : List ℕ) → Others (s ∷ named) qs → AllByRecursion (λ q. s ≡ q → ⊥) qs × Others named qs
others_cons s named [] h = (tt, tt)
others_cons s named (q ∷ qs) h =
    let t = or_parts (eqb s q) (among named q) h.0 in
    let rest = others_cons s named qs h.1 in
    ((eqb-false s q t.0, rest.0), (t.1, rest.1))

cons_others : (s : ℕ) (named qs : List ℕ) → AllByRecursion (λ q. s ≡ q → ⊥) qs → Others named qs → Others (s ∷ named) qs
cons_others s named [] a o = tt
cons_others s named (q ∷ qs) a o = (or_from (eqb s q) (among named q) (ne_eqb s q a.0) o.0, cons_others s named qs a.1 o.1)

others_none : (qs : List ℕ) → Others [] qs
others_none [] = tt
others_none (q ∷ qs) = (refl, others_none qs)

apart_once : (named : List ℕ) (ls : List Link) → Apart named ls → Once (quantities_of ls) × Others named (quantities_of ls)
unfolding quantities_of
apart_once named [] h = (tt, tt)
apart_once named (l ∷ ls) h = go (names_quantity l.kind) h.0 (apart_once (also l named) ls h.1)
  where
    go : (b : Bool) → (b && among named l.subject) ≡ false → Once (quantities_of ls) × Others (cond b (l.subject ∷ named) named) (quantities_of ls)
        → Once (cond b (l.subject ∷ quantities_of ls) (quantities_of ls)) × Others named (cond b (l.subject ∷ quantities_of ls) (quantities_of ls))
    go true f ih = let o = others_cons l.subject named (quantities_of ls) ih.1 in ((o.0, ih.0), (f, o.1))
    go false f ih = ih

once_apart : (named : List ℕ) (ls : List Link) → Once (quantities_of ls) → Others named (quantities_of ls) → Apart named ls
unfolding quantities_of
once_apart named [] h o = tt
once_apart named (l ∷ ls) h o = let g = go (names_quantity l.kind) h o in (g.0, once_apart (also l named) ls g.1 g.2)
  where
    go : (b : Bool) → Once (cond b (l.subject ∷ quantities_of ls) (quantities_of ls)) → Others named (cond b (l.subject ∷ quantities_of ls) (quantities_of ls))
        → ((b && among named l.subject) ≡ false) × Once (quantities_of ls) × Others (cond b (l.subject ∷ named) named) (quantities_of ls)
    go true h o = (o.0, h.1, cons_others l.subject named (quantities_of ls) h.0 o.1)
    go false h o = (refl, h, o)

clear_chain : (p : Problem) (r : Role) (n : ℕ) → Clear (chain_fault p r n) (ChainKeeps p r n)
unfolding chain_fault
clear_chain p r n =
    clear_like _
    (λ h. record { met = h.0; once = (apart_once [] (chain p.links n) h.1).0 })
    (λ h. (h.met, once_apart [] (chain p.links n) h.once (others_none _)))
    (clear_visits p r [] (visits p.links n))

-- ---- tables

clear_sizes : (p : Problem) → Clear (sizes_fault p) ((p.head.facts ≤ 64) × ((length p.quantities ≤ 16) × ((length p.conditions ≤ 64) × ((length p.moves ≤ 256) × ((length p.links ≤ 4096) × (p.head.start < 2 ^ p.head.facts))))))
clear_sizes p =
    clear_or _ _ (clear_unless _ _ (decides_nat_le _ 64)) (clear_or _ _ (clear_unless _ _ (decides_nat_le _ 16)) (clear_or _ _ (clear_unless _ _ (decides_nat_le _ 64))
    (clear_or _ _ (clear_unless _ _ (decides_nat_le _ 256)) (clear_or _ _ (clear_unless _ _ (decides_nat_le _ 4096)) (clear_unless _ _ (Decides-ltb _ _))))))

clear_condition : (p : Problem) (k : ℕ) (c : condition.Condition) → Clear (condition_fault p k c) (ConditionKeeps p c)
clear_condition p k c =
    clear_like _
    (λ h. record { kind = h.0; bound = h.1.0; terms = h.1.1 })
    (λ h. (h.kind, (h.bound, h.terms)))
    (clear_or _ _ (clear_unless _ _ (decides_nat_le _ 1)) (clear_or _ _ (clear_unless _ _ (decides_nat_le _ _)) (clear_owned _ _ (clear_chain p Terms c.terms))))

clear_move : (p : Problem) (k : ℕ) (m : action.Move) → Clear (move_fault p k m) (MoveKeeps p m)
clear_move p k m =
    clear_like _
    (λ h. record { cost_low = h.0.0; cost_high = h.0.1; needs = h.1.0; effects = h.1.1 })
    (λ h. ((h.cost_low, h.cost_high), (h.needs, h.effects)))
    (clear_or _ _ (clear_unless _ _ (Decides-and _ _ (decides_int_le (pos 0) m.cost) (decides_nat_le _ 10000))) (clear_or _ _ (clear_owned _ _ (clear_chain p Needs m.needs)) (clear_owned _ _ (clear_chain p Effects m.effects))))

pub clear_tables : (p : Problem) → Clear (first_fault p) (Keeps p)
unfolding first_fault
clear_tables p =
    clear_like _
    (λ h. record { facts = h.0.0; few_quantities = h.0.1.0; few_conditions = h.0.1.1.0; few_moves = h.0.1.1.1.0; few_links = h.0.1.1.1.1.0; start = h.0.1.1.1.1.1; quantities = h.1.0; conditions = h.1.1.0; moves = h.1.1.1.0; goal = h.1.1.1.1 })
    (λ h. ((h.facts, (h.few_quantities, (h.few_conditions, (h.few_moves, (h.few_links, h.start))))), (h.quantities, (h.conditions, (h.moves, h.goal)))))
    (clear_or _ _ (clear_sizes p) (clear_or _ _ (clear_each quantity_fault QuantityKeeps (λ k q. clear_unless _ _ (decides_quantity q)) 1 p.quantities)
    (clear_or _ _ (clear_each (condition_fault p) (ConditionKeeps p) (clear_condition p) 1 p.conditions)
    (clear_or _ _ (clear_each (move_fault p) (MoveKeeps p) (clear_move p) 1 p.moves) (clear_owned _ _ (clear_chain p Needs p.head.goal))))))

-- accepted, as a truth value
pub decides_accepted : (p : Problem) → Decides (accepted p) (Keeps p)
unfolding accepted
decides_accepted p = (λ e. (clear_tables p).0 (none_from (first_fault p) (not-true _ e)), λ h. ap (λ o. not (is_some o)) ((clear_tables p).1 h))
  where
    none_from : (o : Option TaskFault) → is_some o ≡ false → o ≡ None
    none_from None e = refl
    none_from (Some f) e = absurd (true≢false e)

pub told_accepts : (p : Problem) → is_ok (told (first_fault p)) ≡ accepted p
unfolding accepted
told_accepts p = go (first_fault p)
  where
    go : (o : Option TaskFault) → is_ok (told o) ≡ not (is_some o)
    go None = refl
    go (Some f) = refl
