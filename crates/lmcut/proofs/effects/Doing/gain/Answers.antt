use Rattle.std.proofs.Common.{◌≡◌, ◌-◌, ◌≤◌, get_or, ℤ, pos, ◌+ℤ◌, ◌*ℤ◌, nat_abs, fold, sym, ap, ◌∙◌, subst, ap₂, arith, w32, w64, SFits, to_z, of_z, rules}
use Rattle.std.proofs.lemmas.Int.{to_z-of_z}
use Rattle.tables.specs.declared.Role.TheVariants.{Terms}
use Rattle.task.specs.Tasks.{problem}
use Rattle.task.proofs.Along.{going_step, going_end, term_of, kept_rules}
use Rattle.task.proofs.Ints.{product_size, size_fits64, fits32_64}
use Rattle.lmcut.specs.Prepared.{weigh}
use Rattle.lmcut.proofs.Weighing.{Weighed, weighed_start, weighed_step, weighed_size, step_limit}
use Rattle.lmcut.proofs.effects.Doing.gain.Goals as goal

pub loop-link-init : goal.loop-link-init
loop-link-init c =
    let it = c.into_iter-link-iterator.ensures.into_iter_gives in
    let links = ap (λ k. k.links.now) it ∙ c.new-link-items.ensures.0 ∙ ap (λ t. t.links.now) c.tables.ensures in
    let s = weighed_start (problem c.args.task.now) c.args.first c.args.self.now.changes _ _ (kept_rules c.args.task.now) c.requires links (ap (λ k. k.at) it ∙ c.new-link-items.ensures.1) in
    (s.going.can, tt, s)

pub overflow_sub-sum : goal.overflow_sub-sum
overflow_sub-sum c =
    let e = c.in-Some.ensures in
    let g = going_step _ Terms c.in-Some.link _ _ _ _ c.loop-link.invariant.2.going e.steps (e.goes.on tt) in
    (term_of _ _ (kept_rules c.args.task.now) g.fits).0

pub bounds-self-link : goal.bounds-self-link
bounds-self-link c =
    let e = c.in-Some.ensures in
    let g = going_step _ Terms c.in-Some.link _ _ _ _ c.loop-link.invariant.2.going e.steps (e.goes.on tt) in
    let q = term_of _ _ (kept_rules c.args.task.now) g.fits in
    omega (arith, q.0, q.1)

-- the product as the code's bits have it, and its size
product : (a v fa : ℤ) → SFits w32 a → nat_abs a ≤ 10 → nat_abs v ≤ 819200000 → fa ≡ to_z w32 (of_z w32 a)
    → (to_z w64 (of_z w64 fa) *ℤ to_z w64 (of_z w64 v) ≡ a *ℤ v) × (nat_abs (a *ℤ v) ≤ step_limit)
product a v fa f k h e =
    let ia : to_z w64 (of_z w64 fa) ≡ a = ap (λ z. to_z w64 (of_z w64 z)) (e ∙ to_z-of_z w32 a f) ∙ to_z-of_z w64 a (fits32_64 a f) in
    let iv : to_z w64 (of_z w64 v) ≡ v = to_z-of_z w64 v (size_fits64 v (omega arith)) in
    (ap₂ ◌*ℤ◌ ia iv, product_size a v 10 819200000 k h)

pub overflow_mul-sum : goal.overflow_mul-sum
overflow_mul-sum c =
    let e = c.in-Some.ensures in
    let g = going_step _ Terms c.in-Some.link _ _ _ _ c.loop-link.invariant.2.going e.steps (e.goes.on tt) in
    let f : SFits w32 c.in-Some.link.amount = search rules in
    let v = get_or c.args.self.now.changes (c.in-Some.link.subject - 1) (pos 0) in
    let p = product c.in-Some.link.amount v c.from.result f (term_of _ _ (kept_rules c.args.task.now) g.fits).2 (c.args.self.now.small (c.in-Some.link.subject - 1)) c.from.ensures in
    subst (SFits w64) (sym p.0) (size_fits64 (c.in-Some.link.amount *ℤ v) (let h = p.1 in omega arith))

pub overflow_add-sum : goal.overflow_add-sum
overflow_add-sum c =
    let e = c.in-Some.ensures in
    let l = c.in-Some.link in
    let cs = c.args.self.now.changes in
    let w = subst (Weighed (problem c.args.task.now) c.args.first cs c.loop-link.link-iterator.links.now c.loop-link.link-iterator.at) c.loop-link.sum-is c.loop-link.invariant.2 in
    let g = going_step _ Terms l _ _ _ _ w.going e.steps (e.goes.on tt) in
    let f : SFits w32 l.amount = search rules in
    let p = product l.amount (get_or cs (l.subject - 1) (pos 0)) c.from.result f (term_of _ _ (kept_rules c.args.task.now) g.fits).2 (c.args.self.now.small (l.subject - 1)) c.from.ensures in
    let fp = size_fits64 (l.amount *ℤ get_or cs (l.subject - 1) (pos 0)) (let h = p.1 in omega arith) in
    let same = ap₂ ◌+ℤ◌ c.loop-link.sum-is (ap (λ z. to_z w64 (of_z w64 z)) p.0 ∙ to_z-of_z w64 (l.amount *ℤ get_or cs (l.subject - 1) (pos 0)) fp) in
    subst (SFits w64) (sym same) (size_fits64 (weigh cs c.loop-link.sum l) (let h = weighed_size _ _ cs _ _ _ _ _ l w g p.1 in omega (arith, h)))

pub loop-link-preserved : goal.loop-link-preserved
loop-link-preserved c =
    let e = c.in-Some.ensures in
    let l = c.in-Some.link in
    let cs = c.args.self.now.changes in
    let w = subst (Weighed (problem c.args.task.now) c.args.first cs c.loop-link.link-iterator.links.now c.loop-link.link-iterator.at) c.loop-link.sum-is c.loop-link.invariant.2 in
    let g = going_step _ Terms l _ _ _ _ w.going e.steps (e.goes.on tt) in
    let f : SFits w32 l.amount = search rules in
    let p = product l.amount (get_or cs (l.subject - 1) (pos 0)) c.from.result f (term_of _ _ (kept_rules c.args.task.now) g.fits).2 (c.args.self.now.small (l.subject - 1)) c.from.ensures in
    let fp = size_fits64 (l.amount *ℤ get_or cs (l.subject - 1) (pos 0)) (let h = p.1 in omega arith) in
    let same = ap₂ ◌+ℤ◌ c.loop-link.sum-is (ap (λ z. to_z w64 (of_z w64 z)) p.0 ∙ to_z-of_z w64 (l.amount *ℤ get_or cs (l.subject - 1) (pos 0)) fp) in
    let fs = size_fits64 (weigh cs c.loop-link.sum l) (let h = weighed_size _ _ cs _ _ _ _ _ l w g p.1 in omega (arith, h)) in
    let all = ap (λ z. to_z w64 (of_z w64 z)) same ∙ to_z-of_z w64 (weigh cs c.loop-link.sum l) fs in
    let s = weighed_step _ _ cs _ _ _ _ _ l w g p.1 in
    (s.going.can, tt, subst (Weighed (problem c.args.task.now) c.args.first cs c.next.new.self.links.now c.next.new.self.at) (sym all) s)

pub returns : goal.returns
returns c =
    let e = going_end _ _ _ _ c.in-None.ensures.steps in
    sym (ap (fold (weigh c.args.self.now.changes) _) e) ∙ c.loop-link.invariant.2.left
