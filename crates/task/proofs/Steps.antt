-- Steps of a walk that comes to its end.
use Rattle.std.proofs.Common.{◌≡◌, ℕ, ◌-◌, ◌<◌, ◌≤◌, ◌⊎◌, List, [], ◌∷◌, length, get_or, ap, ◌∙◌, subst, ⊎_elim}
use Rattle.std.proofs.lemmas.Bool.{cases_lt}
use Rattle.std.specs.List.{AllByRecursion}
use Rattle.tables.specs.Chains.{links_of, chain}
use Rattle.task.specs.Walk.{Leads, Walkable}
use Rattle.tables.specs.declared.Link.{Link}
use Rattle.tables.proofs.Walks.{visits_none, visits_missing, visits_at, visits_on}

pub chain_none : (ls : List Link) (n : ℕ) → n ≡ 0 → chain ls n ≡ []
unfolding links_of
chain_none ls n e = ap links_of (visits_none ls n e)

pub walk_within : (ls : List Link) (n : ℕ) → Walkable ls n → n ≤ length ls
unfolding Walkable
walk_within ls n w = ⊎_elim (λ h. absurd (subst (AllByRecursion Leads) (visits_missing ls n h) w).0) (λ h. h) (cases_lt (length ls) n)

pub record Stepping (ls : List Link) (n : ℕ) (l : Link) : Type 0 where
  pub leads : (l.next ≡ 0) ⊎ (n < l.next)
  pub rest : Walkable ls l.next
  pub first : chain ls n ≡ l ∷ chain ls l.next

pub walk_step : (ls : List Link) (n : ℕ) (d : Link) → 0 < n → Walkable ls n → Stepping ls n (get_or ls (n - 1) d)
unfolding Walkable links_of
walk_step ls n d q w =
    let l = get_or ls (n - 1) d in
    let h = walk_within ls n w in
    let a = subst (AllByRecursion Leads) (visits_at ls n d q h) w in
    let on = visits_on ls n l.next a.0 in
    record {
      leads = a.0;
      rest = subst (AllByRecursion Leads) on a.1;
      first = ap links_of (visits_at ls n d q h) ∙ ap (λ vs. l ∷ links_of vs) on;
    }
