-- What effects set and add, link by link.
use Rattle.std.proofs.Common.{◌≡◌, ℕ, ◌+◌, ◌-◌, ◌*◌, ◌^◌, ◌<◌, ◌≤◌, true, false, ◌&&◌, eqb, List, [], length, get_or, set, replicate, ℤ, pos, ◌+ℤ◌, nat_abs, fold, sym, refl, ap, ◌∙◌, subst, ap₂, inr, ⊎_elim, arith, w32, w64, SFits, to_z, of_z}
use lib.Bits.{bit_or}
use lib.IntN.{+ℤ_assoc, +ℤ_idl, +ℤ_idr}
use Rattle.std.proofs.lemmas.Nat.{mul-le}
use Rattle.std.proofs.lemmas.List.{length-set, get_or-set_same, get_or-set_other}
use Rattle.std.proofs.lemmas.Int.{to_z-of_z}
use Rattle.std.proofs.lemmas.Bool.{eq-eqb, ne_eqb, and_from, and_left, and_right, cond-true, cond-false, cases_eq}
use Rattle.tables.specs.Chains.{chain}
use Rattle.tables.specs.Problem.{Problem}
use Rattle.tables.specs.Rules.{ChainKeeps, LinkFits, Keeps}
use Rattle.tables.specs.declared.Link.{Link}
use Rattle.tables.specs.declared.Role.TheVariants.{Effects}
use Rattle.task.specs.Meaning.{change}
use Rattle.task.specs.States.{noted, made}
use Rattle.task.specs.Walk.{steps_left}
use Rattle.task.proofs.Along.{Going, Gone, going_start}
use Rattle.task.proofs.Effects.{noted_fits}
use Rattle.task.proofs.Ints.{nat_abs_add, size_fits64, fits32_64}
use Rattle.landmarks.proofs.Orders.{replicate_at}
use Rattle.lmcut.specs.Prepared.{Changes}

pub record Added (whole ls : List Link) (n : ℕ) (sets : ℕ) (cs : List ℤ) (p : Problem) : Type 0 where
  pub going : Going p Effects ls n
  pub sets_left : fold (noted 4) sets (chain ls n) ≡ made whole
  pub sets_fit : sets < 2 ^ 64
  pub long : length cs ≡ 16
  pub left : (q : ℕ) → 1 ≤ q → q ≤ 16 → get_or cs (q - 1) (pos 0) +ℤ change (chain ls n) q ≡ change whole q
  pub small : (i : ℕ) → nat_abs (get_or cs i (pos 0)) + steps_left ls n * 200000 ≤ 4096 * 200000

pub added_start : (p : Problem) (first : ℕ) (ls : List Link) (n : ℕ) → Keeps p → ChainKeeps p Effects first → ls ≡ p.links → n ≡ first → Added (chain p.links first) ls n 0 (replicate 16 (pos 0)) p
added_start p first ls n t k l a =
    let g = going_start p Effects first ls n t k l a in
    let same = ap₂ chain l a in
    record {
      going = g;
      sets_left = ap made same;
      sets_fit = omega arith;
      long = refl;
      left = λ q h u. ap (λ z. z +ℤ change (chain ls n) q) (zeros (q - 1)) ∙ +ℤ_idl (change (chain ls n) q) ∙ ap (λ es. change es q) same;
      small = λ i. let m = mul-le (steps_left ls n) 200000 4096 200000 g.short (omega arith) in subst (λ z. nat_abs z + steps_left ls n * 200000 ≤ 4096 * 200000) (sym (zeros i)) (omega arith);
    }
  where
    zeros : (i : ℕ) → get_or (replicate 16 (pos 0)) i (pos 0) ≡ pos 0
    zeros i = replicate_at 16 i (pos 0)

-- a link that changes a quantity names one of the sixteen
pub added_quantity : (p : Problem) (l : Link) → Keeps p → LinkFits p Effects l → l.kind ≡ 6 → (1 ≤ l.subject) × (l.subject ≤ 16)
added_quantity p l t f k = let q = f.1.quantity (inr k) in (q.0, omega (arith, q.1, t.few_quantities))

module _ (p : Problem) (whole ls : List Link) (n : ℕ) (ls' : List Link) (n' : ℕ) (sets : ℕ) (cs : List ℤ) (l : Link) (w : Added whole ls n sets cs p) (g : Gone p Effects l ls n ls' n') where
  fewer : (x : ℕ) → x + steps_left ls n * 200000 ≤ 4096 * 200000 → x + steps_left ls' n' * 200000 ≤ 4096 * 200000
  fewer x h = let m : steps_left ls' n' * 200000 ≤ steps_left ls n * 200000 = mul-le _ 200000 _ 200000 (let f = g.fewer in omega arith) (omega arith) in omega arith

  next_sets : (b : ℕ) → noted 4 sets l ≡ b → fold (noted 4) b (chain ls' n') ≡ made whole
  next_sets b e = ap (λ x. fold (noted 4) x (chain ls' n')) (sym e) ∙ sym (ap (fold (noted 4) sets) g.first) ∙ w.sets_left

  change_skip : (q : ℕ) → (eqb l.kind 6 && eqb l.subject q) ≡ false → change (chain ls n) q ≡ change (chain ls' n') q
  unfolding change
  change_skip q e = ap (λ es. change es q) g.first ∙ cond-false _ _ _ e

  change_take : (q : ℕ) → (eqb l.kind 6 && eqb l.subject q) ≡ true → change (chain ls n) q ≡ l.amount +ℤ change (chain ls' n') q
  unfolding change
  change_take q e = ap (λ es. change es q) g.first ∙ cond-true _ _ _ e

  same_changes : (l.kind ≡ 6 → ⊥) → (q : ℕ) → 1 ≤ q → q ≤ 16 → get_or cs (q - 1) (pos 0) +ℤ change (chain ls' n') q ≡ change whole q
  same_changes k q h u = ap (λ z. get_or cs (q - 1) (pos 0) +ℤ z) (sym (change_skip q (and_left _ _ (ne_eqb _ 6 k)))) ∙ w.left q h u

  pub added_set : l.kind ≡ 4 → l.subject < 64 → Added whole ls' n' (bit_or sets (2 ^ l.subject)) cs p
  added_set k h = record {
    going = g.rest;
    sets_left = next_sets _ (cond-true (eqb l.kind 4) _ _ (eq-eqb _ 4 k));
    sets_fit = noted_fits sets l.subject w.sets_fit h;
    long = w.long;
    left = same_changes (λ e. omega arith);
    small = λ i. fewer (nat_abs (get_or cs i (pos 0))) (w.small i);
  }

  pub added_other : (l.kind ≡ 4 → ⊥) → (l.kind ≡ 6 → ⊥) → Added whole ls' n' sets cs p
  added_other k k6 = record {
    going = g.rest;
    sets_left = next_sets _ (cond-false (eqb l.kind 4) _ _ (ne_eqb _ 4 k));
    sets_fit = w.sets_fit;
    long = w.long;
    left = same_changes k6;
    small = λ i. fewer (nat_abs (get_or cs i (pos 0))) (w.small i);
  }

  -- a link that changes a quantity
  module _ (k : l.kind ≡ 6) where
    added_size : nat_abs (get_or cs (l.subject - 1) (pos 0) +ℤ l.amount) + steps_left ls' n' * 200000 ≤ 4096 * 200000
    added_size =
        let a = nat_abs_add (get_or cs (l.subject - 1) (pos 0)) l.amount in
        let s = w.small (l.subject - 1) in
        let h = (g.fits.1.change k).1 in
        let m : (steps_left ls' n' + 1) * 200000 ≤ steps_left ls n * 200000 = mul-le _ 200000 _ 200000 (let f = g.fewer in omega arith) (omega arith) in
        omega arith

    module _ {z : ℤ} (f : SFits w32 l.amount) (e : z ≡ to_z w32 (of_z w32 l.amount)) where
      plain : to_z w64 (of_z w64 (get_or cs (l.subject - 1) (pos 0))) +ℤ to_z w64 (of_z w64 z) ≡ get_or cs (l.subject - 1) (pos 0) +ℤ l.amount
      plain = ap₂ ◌+ℤ◌
          (to_z-of_z w64 (get_or cs (l.subject - 1) (pos 0)) (size_fits64 (get_or cs (l.subject - 1) (pos 0)) (let h = w.small (l.subject - 1) in omega arith)))
          (ap (λ x. to_z w64 (of_z w64 x)) (e ∙ to_z-of_z w32 l.amount f) ∙ to_z-of_z w64 l.amount (fits32_64 l.amount f))

      -- the sum as the code's bits have it fits, and is the sum
      pub added_fits : SFits w64 (to_z w64 (of_z w64 (get_or cs (l.subject - 1) (pos 0))) +ℤ to_z w64 (of_z w64 z))
      added_fits = subst (SFits w64) (sym plain) (size_fits64 (get_or cs (l.subject - 1) (pos 0) +ℤ l.amount) (let h = added_size in omega arith))

      pub added_sum : to_z w64 (of_z w64 (to_z w64 (of_z w64 (get_or cs (l.subject - 1) (pos 0))) +ℤ to_z w64 (of_z w64 z))) ≡ get_or cs (l.subject - 1) (pos 0) +ℤ l.amount
      added_sum = to_z-of_z w64 _ added_fits ∙ plain

    pub added_change : Keeps p → Added whole ls' n' sets (set cs (l.subject - 1) (get_or cs (l.subject - 1) (pos 0) +ℤ l.amount)) p
    added_change t = record {
      going = g.rest;
      sets_left = next_sets _ (cond-false (eqb l.kind 4) _ _ (ne_eqb _ 4 (λ e. omega arith)));
      sets_fit = w.sets_fit;
      long = length-set cs (l.subject - 1) _ ∙ w.long;
      left = λ q a b. ⊎_elim (hit q a b) (miss q a b) (cases_eq l.subject q);
      small = λ i. ⊎_elim (here i) (there i) (cases_eq i (l.subject - 1));
    }
      where
        one : 1 ≤ l.subject
        one = (added_quantity p l t g.fits k).0

        few : l.subject ≤ 16
        few = (added_quantity p l t g.fits k).1

        inside : l.subject - 1 < length cs
        inside = let s = w.long in let a = one in let b = few in omega arith

        hit : (q : ℕ) → 1 ≤ q → q ≤ 16 → l.subject ≡ q → get_or (set cs (l.subject - 1) (get_or cs (l.subject - 1) (pos 0) +ℤ l.amount)) (q - 1) (pos 0) +ℤ change (chain ls' n') q ≡ change whole q
        hit q a b e =
            ap (λ m. get_or (set cs (l.subject - 1) (get_or cs (l.subject - 1) (pos 0) +ℤ l.amount)) (m - 1) (pos 0) +ℤ change (chain ls' n') m) (sym e)
            ∙ ap (λ z. z +ℤ change (chain ls' n') l.subject) (get_or-set_same cs (l.subject - 1) _ (pos 0) inside)
            ∙ +ℤ_assoc (get_or cs (l.subject - 1) (pos 0)) l.amount (change (chain ls' n') l.subject)
            ∙ ap (λ z. get_or cs (l.subject - 1) (pos 0) +ℤ z) (sym (change_take l.subject (and_from _ _ (eq-eqb _ 6 k) (eq-eqb l.subject l.subject refl))))
            ∙ w.left l.subject one few ∙ ap (change whole) e

        miss : (q : ℕ) → 1 ≤ q → q ≤ 16 → (l.subject ≡ q → ⊥) → get_or (set cs (l.subject - 1) (get_or cs (l.subject - 1) (pos 0) +ℤ l.amount)) (q - 1) (pos 0) +ℤ change (chain ls' n') q ≡ change whole q
        miss q a b e =
            let o = one in
            ap₂ ◌+ℤ◌ (get_or-set_other cs (l.subject - 1) (q - 1) _ (pos 0) (λ z. e (omega arith))) (sym (change_skip q (and_right _ _ (ne_eqb _ _ e)))) ∙ w.left q a b

        here : (i : ℕ) → i ≡ l.subject - 1 → nat_abs (get_or (set cs (l.subject - 1) (get_or cs (l.subject - 1) (pos 0) +ℤ l.amount)) i (pos 0)) + steps_left ls' n' * 200000 ≤ 4096 * 200000
        here i e = subst (λ z. nat_abs z + steps_left ls' n' * 200000 ≤ 4096 * 200000) (sym (ap (λ m. get_or (set cs (l.subject - 1) (get_or cs (l.subject - 1) (pos 0) +ℤ l.amount)) m (pos 0)) e ∙ get_or-set_same cs (l.subject - 1) _ (pos 0) inside)) added_size

        there : (i : ℕ) → (i ≡ l.subject - 1 → ⊥) → nat_abs (get_or (set cs (l.subject - 1) (get_or cs (l.subject - 1) (pos 0) +ℤ l.amount)) i (pos 0)) + steps_left ls' n' * 200000 ≤ 4096 * 200000
        there i e = subst (λ z. nat_abs z + steps_left ls' n' * 200000 ≤ 4096 * 200000) (sym (get_or-set_other cs (l.subject - 1) i _ (pos 0) e)) (fewer _ (w.small i))

pub added_end : (p : Problem) (whole ls : List Link) (n sets : ℕ) (cs : List ℤ) → Added whole ls n sets cs p → chain ls n ≡ [] → (sets ≡ made whole) × Changes cs whole
unfolding change
added_end p whole ls n sets cs w e = (
  sym (ap (fold (noted 4) sets) e) ∙ w.sets_left,
  record {
    long = w.long;
    is = λ q a b. sym (+ℤ_idr (get_or cs (q - 1) (pos 0))) ∙ ap (λ es. get_or cs (q - 1) (pos 0) +ℤ change es q) (sym e) ∙ w.left q a b;
    small = λ i. let h = w.small i in omega arith;
  },
)
