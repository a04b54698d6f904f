-- One turn: the lowest node leaves the open nodes, and the actions that are due make their offers.
use Rattle.std.proofs.Common.{◌≡◌, ℕ, ◌+◌, ◌*◌, ◌<◌, ◌≤◌, true, List, get_or, Bor, sym, ap, ◌∙◌, subst, subst₂, ⊎_elim, arith}
use Rattle.task.specs.States.{fact_holds}
use Rattle.std.proofs.lemmas.Bool.{cases_eq}
use Rattle.lmcut.specs.Questions.{Fits}
use Rattle.lmcut.specs.Drawn.{Modest}
use Rattle.lmcut.specs.Valued.{infinite, most_weight, ready_at, fires_at, ReachedTo, Begun, Opened, Valued}
use Rattle.lmcut.specs.Queued.{NoneWaits, Taken}
use Rattle.lmcut.specs.Settled.{Kept}
use Rattle.lmcut.specs.declared.left.Left.{Left}
use Rattle.lmcut.specs.declared.question.Question.{Question}
use Rattle.lmcut.specs.declared.node.Node.{Node}
use Rattle.lmcut.specs.declared.values.Settling.{Settling}
use Rattle.lmcut.proofs.Prepared.{dropped_less}
use Rattle.lmcut.proofs.Settling.{Lowest, NoneLow, Going, none_due, top_most, next_most, going_fired, going_next, going_start, going_valued}

pub none_low : (xs : List ℕ) (w nodes : ℕ) → NoneWaits xs w nodes → NoneLow xs w nodes
none_low xs w nodes none n l t = ⊎_elim (λ e. omega arith) (λ ne. absurd (none n (record { inside = l; waits = t; finite = ne }))) (cases_eq (get_or xs n 0) infinite)

module _ (q : Question) (rs xs : List ℕ) (w top : ℕ) (f : Fits q) (g : Going q rs xs w top none_due) (x : Node) (v : ℕ) (t : Taken xs w q.nodes x v) where
  turn_lowest : Lowest xs w q.nodes x.number
  turn_lowest = record { inside = t.waits.inside; waits = t.waits.waits; finite = t.waits.finite; least = least }
    where
      least : (n : ℕ) → n + 1 < q.nodes → fact_holds w n ≡ true → get_or xs x.number 0 ≤ get_or xs n 0
      least n l o =
          let e = t.value in
          ⊎_elim
          (λ i. let m = top_most q rs xs w top none_due f g in let k = t.waits.inside in ⊎_elim (λ y. omega arith) (λ y. omega arith) (g.sized x.number (omega arith)))
          (λ ne. let k = t.least n (record { inside = l; waits = o; finite = ne }) in omega arith)
          (cases_eq (get_or xs n 0) infinite)

  pub turn_inside : x.number < 128
  turn_inside = let l = t.waits.inside in let k = f.few_nodes in omega arith

  pub turn_small : x.value ≤ 129 * most_weight
  turn_small = let e = t.value in let l = next_most q rs xs w top x.number f g turn_lowest in omega arith

  pub turn_less : v < w
  turn_less = subst (λ y. y < w) (sym t.gone) (dropped_less w x.number t.waits.waits)

  pub turn_going : Modest rs → (ys : List ℕ) → ReachedTo q rs (fires_at q v x.number) x.value q.actions xs ys → Going q rs ys v x.value none_due
  turn_going small ys r =
      let next = going_next q rs xs w top x.number g turn_lowest in
      let there = subst (λ y. Going q rs xs y (get_or xs x.number 0) (fires_at q y x.number)) (sym t.gone) next in
      let here = subst (λ y. Going q rs xs v y (fires_at q v x.number)) (sym t.value) there in
      going_fired q rs xs ys v x.value (fires_at q v x.number) f small here r

-- ---- the same of the struct that holds what is found so far

-- a struct has a question and what is left of its costs, and its values are being found
abbrev pub Turning : Question → List ℕ → Settling → Type 0
Turning q rs s = (s.asked.question.now ≡ q) × (s.left.now.of ≡ rs) × ((top : ℕ) × Going q rs s.values.now s.open_nodes top none_due)

module _ (q : Question) (rs : List ℕ) (f : Fits q) (small : Modest rs) where
  pub turning_start : (s t : Settling) → s.asked.question.now ≡ q → s.left.now.of ≡ rs → Begun q s.values.now → Opened q s.open_nodes → Kept s t
      → ReachedTo s.asked.question.now s.left.now.of (ready_at s.asked.question.now s.open_nodes) 0 s.asked.question.now.actions s.values.now t.values.now → Turning q rs t
  turning_start s t a b begun opened k r =
      let w = s.open_nodes in
      let here = subst₂ (λ p ls. ReachedTo p ls (ready_at p w) 0 p.actions s.values.now t.values.now) a b r in
      let going = going_fired q rs s.values.now t.values.now w 0 (ready_at q w) f small (going_start q rs s.values.now w f begun opened) here in
      (ap (λ (x : Bor Question). x.now) k.question ∙ a, ap (λ (x : Bor Left). x.now.of) k.left ∙ b, (0, subst (λ v. Going q rs t.values.now v 0 none_due) (sym k.open_nodes) going))

  module _ (s : Settling) (g : Turning q rs s) where
    pub turning_end : NoneWaits s.values.now s.open_nodes s.asked.question.now.nodes → Valued q rs s.values.now
    turning_end none = going_valued q rs s.values.now s.open_nodes g.2.0 f small g.2.1 (none_low s.values.now s.open_nodes q.nodes (subst (λ (p : Question). NoneWaits s.values.now s.open_nodes p.nodes) g.0 none))

    module _ (x : Node) (v : ℕ) (t : Taken s.values.now s.open_nodes s.asked.question.now.nodes x v) where
      taken : Taken s.values.now s.open_nodes q.nodes x v
      taken = subst (λ (p : Question). Taken s.values.now s.open_nodes p.nodes x v) g.0 t

      pub turning_inside : x.number < 128
      turning_inside = turn_inside q rs s.values.now s.open_nodes g.2.0 f g.2.1 x v taken

      pub turning_small : x.value ≤ 129 * most_weight
      turning_small = turn_small q rs s.values.now s.open_nodes g.2.0 f g.2.1 x v taken

      pub turning_less : v < s.open_nodes
      turning_less = turn_less q rs s.values.now s.open_nodes g.2.0 f g.2.1 x v taken

    pub turning_next : (x : Node) (t u : Settling) → t.asked.question ≡ s.asked.question → t.left ≡ s.left → t.values.now ≡ s.values.now → Taken s.values.now s.open_nodes s.asked.question.now.nodes x t.open_nodes → Kept t u
        → ReachedTo t.asked.question.now t.left.now.of (fires_at t.asked.question.now t.open_nodes x.number) x.value t.asked.question.now.actions t.values.now u.values.now → Turning q rs u
    turning_next x t u a b c out k r =
        let w = t.open_nodes in
        let qs = ap (λ (y : Bor Question). y.now) a ∙ g.0 in
        let ls = ap (λ (y : Bor Left). y.now.of) b ∙ g.1 in
        let there = subst₂ (λ p es. ReachedTo p es (fires_at p w x.number) x.value p.actions t.values.now u.values.now) qs ls r in
        let here = subst (λ xs. ReachedTo q rs (fires_at q w x.number) x.value q.actions xs u.values.now) c there in
        let going = turn_going q rs s.values.now s.open_nodes g.2.0 f g.2.1 x w (taken x w out) small u.values.now here in
        (ap (λ (y : Bor Question). y.now) k.question ∙ qs, ap (λ (y : Bor Left). y.now.of) k.left ∙ ls, (x.value, subst (λ y. Going q rs u.values.now y x.value none_due) (sym k.open_nodes) going))
