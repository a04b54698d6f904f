-- The sum of weight × change over a chain of terms, link by link.
use Rattle.std.proofs.Common.{◌≡◌, ℕ, ◌+◌, ◌-◌, ◌*◌, ◌≤◌, List, get_or, ℤ, pos, ◌*ℤ◌, nat_abs, fold, sym, ap, ◌∙◌, ap₂, arith}
use Rattle.std.proofs.lemmas.Nat.{mul-le}
use Rattle.tables.specs.Chains.{chain}
use Rattle.tables.specs.Problem.{Problem}
use Rattle.tables.specs.Rules.{ChainKeeps, Keeps}
use Rattle.tables.specs.declared.Link.{Link}
use Rattle.tables.specs.declared.Role.TheVariants.{Terms}
use Rattle.task.specs.Walk.{steps_left}
use Rattle.task.proofs.Along.{Going, Gone, going_start}
use Rattle.task.proofs.Ints.{nat_abs_add}
use Rattle.lmcut.specs.Prepared.{weigh, weighed}

-- one term moves the sum by at most this much
abbrev pub step_limit : ℕ
step_limit = 8192000000

pub record Weighed (p : Problem) (first : ℕ) (cs : List ℤ) (ls : List Link) (n : ℕ) (sum : ℤ) : Type 0 where
  pub going : Going p Terms ls n
  pub left : fold (weigh cs) sum (chain ls n) ≡ weighed cs (chain p.links first)
  pub small : nat_abs sum + steps_left ls n * step_limit ≤ 4096 * step_limit

pub weighed_start : (p : Problem) (first : ℕ) (cs : List ℤ) (ls : List Link) (n : ℕ) → Keeps p → ChainKeeps p Terms first → ls ≡ p.links → n ≡ first → Weighed p first cs ls n (pos 0)
weighed_start p first cs ls n t k l a =
    let g = going_start p Terms first ls n t k l a in
    record {
      going = g;
      left = ap₂ (λ ks m. weighed cs (chain ks m)) l a;
      small = omega (arith, mul-le (steps_left ls n) step_limit 4096 step_limit g.short (omega arith));
    }

module _ (p : Problem) (first : ℕ) (cs : List ℤ) (ls : List Link) (n : ℕ) (ls' : List Link) (n' : ℕ) (sum : ℤ) (l : Link) (w : Weighed p first cs ls n sum) (g : Gone p Terms l ls n ls' n') (h : nat_abs (l.amount *ℤ get_or cs (l.subject - 1) (pos 0)) ≤ step_limit) where
  pub weighed_size : nat_abs (weigh cs sum l) + steps_left ls' n' * step_limit ≤ 4096 * step_limit
  weighed_size =
      let a = nat_abs_add sum (l.amount *ℤ get_or cs (l.subject - 1) (pos 0)) in
      let m : (steps_left ls' n' + 1) * step_limit ≤ steps_left ls n * step_limit = mul-le _ step_limit _ step_limit (omega (arith, g.fewer)) (omega arith) in
      omega (arith, a, m, h, w.small)

  pub weighed_step : Weighed p first cs ls' n' (weigh cs sum l)
  weighed_step = record { going = g.rest; left = sym (ap (fold (weigh cs) sum) g.first) ∙ w.left; small = weighed_size }
