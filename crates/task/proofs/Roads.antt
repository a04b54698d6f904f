-- A chain of an accepted task as the list of its links.
use Rattle.std.proofs.Common.{◌≡◌, ℕ, ◌+◌, ◌*◌, ◌<◌, ◌≤◌, ◌&&◌, List, [], ◌∷◌, length, get_or, fold, ℤ, pos, ◌+ℤ◌, ◌^◌, nat_abs, Option, w64, SFits, arith, sym, refl, ap, ◌∙◌, subst, subst₂}
use Rattle.std.proofs.ByRecursion.{All-get_or}
use Rattle.std.proofs.lemmas.Iterator.{YieldsList, YieldsList-from_any_map}
use Rattle.std.proofs.lemmas.Iterator.Consumers.{YieldsList-from_shown}
use Rattle.std.proofs.lemmas.Iterator.Adapters.{at_most_from_yields_List}
use Rattle.std.proofs.lemmas.List.{length-map}
use Rattle.std.proofs.lemmas.Nat.{mul-le}
use Rattle.std.specs.Iterator.{Yields, Drains}
use Rattle.std.specs.Iterator.Runs.{YieldsRun, EachRunFrom}
use Rattle.std.specs.Iterator.Adapters.{map_source, map_callee, map_steps}
use Rattle.std.specs.declared.iter.Map.{Map}
use Rattle.std.specs.Fn.{Called}
use denote.Param.Members.{Mut}
use Rattle.task.proofs.Ints.{nat_abs_add, size_fits64}
use Rattle.std.specs.List.{AllByRecursion, list_all}
use Rattle.tables.specs.Chains.{chain}
use Rattle.tables.specs.Problem.{Problem}
use Rattle.tables.specs.Rules.{LinkFits, ChainKeeps}
use Rattle.tables.specs.declared.Link.{Link}
use Rattle.tables.specs.declared.Role.{Role}
use Rattle.task.specs.States.{need_holds, all_hold}
use Rattle.task.specs.declared.state.State.{State}
use Rattle.task.specs.Walk.{Walkable, Stepped}
use Rattle.task.specs.declared.chain.Chain.{Chain}
use Rattle.task.proofs.Along.{keeps_walk, keeps_fit}

-- a walk gives the links of the chain, in order
pub chain_road : (s : Chain) → YieldsList (λ a r b. Stepped a.links.now a.at r b.links.now b.at) (λ l. l) s (chain s.links.now s.at)
unfolding Stepped
chain_road = YieldsList-from_shown _ _ (λ s. chain s.links.now s.at) (λ s t e. ap length e.1) (λ s l t e. e.1 ∙ ap (λ ls. l ∷ chain ls t.at) (sym e.0))

module _ (p : Problem) (r : Role) (first : ℕ) (k : ChainKeeps p r first) where
  -- a chain that keeps the rules can be walked, and its links fit its role
  pub can_walk : (s : Chain) → s.links.now ≡ p.links → s.at ≡ first → Walkable s.links.now s.at
  can_walk s l a = subst₂ Walkable (sym l) (sym a) (keeps_walk p r first k)

  pub link_fits : (s : Chain) → s.links.now ≡ p.links → s.at ≡ first → (x : Link) (i : ℕ) → i < length (chain s.links.now s.at) → x ≡ get_or (chain s.links.now s.at) i x → LinkFits p r x
  link_fits s l a x i h e = subst (LinkFits p r) (sym e) (All-get_or (LinkFits p r) (chain s.links.now s.at) i x h (subst₂ (λ ks n. AllByRecursion (LinkFits p r) (chain ks n)) (sym l) (sym a) (keeps_fit p r first k)))

-- every need holds, as the library's test of a list
pub all_hold_list : (p : Problem) (s : State) (ls : List Link) → list_all (need_holds p s) ls ≡ all_hold p s ls
all_hold_list p s [] = refl
all_hold_list p s (l ∷ ls) = ap (λ b. need_holds p s l && b) (all_hold_list p s ls)

-- ---- the sum of what a `map` gives, where each call's number is small and the source has few items

module _ {S A B F : Type 0} (steps : S → Option A → S → Type 0) (v : A → B) (g : Mut F (A × Unit {0}) ℤ) (f : F) (limit : ℕ) (k : (x : A) (r : ℤ) (q : F) → Called g f (x, tt) r q → (q ≡ f) × (nat_abs r ≤ limit)) where
  added_size : (u : Map S F) (xs : List ℤ) (t : Map S F) → map_callee u ≡ f → Yields (map_steps steps g) u xs t → (sum : ℤ) → nat_abs (fold ◌+ℤ◌ sum xs) ≤ nat_abs sum + length xs * limit
  added_size u [] t e y sum = omega arith
  added_size u (z ∷ xs) t e y sum =
      let c = k y.1.0 z (map_callee y.0) (subst (λ h. Called g h (y.1.0, tt) z (map_callee y.0)) e y.1.2) in
      omega (arith, added_size y.0 xs t c.0 y.2 (sum +ℤ z), c.1, nat_abs_add sum z)

  module _ (u : Map S F) (all : List B) (n : ℕ) (road : YieldsList steps v (map_source u) all) (few : length all ≤ n) (e : map_callee u ≡ f) where
    front_size : (xs : List ℤ) (t : Map S F) → Yields (map_steps steps g) u xs t → nat_abs (fold ◌+ℤ◌ (pos 0) xs) ≤ n * limit
    front_size xs t y =
        let short = (at_most_from_yields_List (YieldsList-from_any_map g road) (subst (λ m. m ≤ n) (sym (length-map all (λ _. tt))) few)).runs xs t y in
        omega (arith, added_size u xs t e y (pos 0), mul-le (length xs) limit n limit short (omega arith))

    pub sum_fits : n * limit < 2 ^ 63 → EachRunFrom (map_steps steps g) u (λ p. SFits w64 (fold ◌+ℤ◌ (pos 0) p.items))
    unfolding YieldsRun
    sum_fits h = λ p _ at. size_fits64 _ (omega (arith, h, front_size p.items p.gave.0.0 (subst (λ w. Yields (map_steps steps g) w p.items p.gave.0.0) at p.gave.0.1)))

    pub sum_size : (r : ℤ) → ((xs : List ℤ) × (Unit {0} → Drains (map_steps steps g) u xs) × (r ≡ fold ◌+ℤ◌ (pos 0) xs)) → nat_abs r ≤ n * limit
    sum_size r h = let d = h.1 tt in subst (λ z. nat_abs z ≤ n * limit) (sym h.2) (front_size h.0 d.1.0 d.1.1)
