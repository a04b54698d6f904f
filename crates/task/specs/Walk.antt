-- A walk of a chain, link by link.
--   Leads       a visit is of a link, whose next is 0 or a later link
--   Walkable    every link that the walk from a number meets is in the table, and leads to a later link or to none
--   Stepped     one step of the walk: at the end nothing, else the chain's first link, with the rest to come
--   steps_left  at most how many links are to come
use Rattle.std.specs.Prelude.{◌≡◌, ℕ, ◌+◌, ◌-◌, ◌<◌, cond, ◌⊎◌, List, [], ◌∷◌, length, Option, MatchOption, ◌==◌}
use Rattle.std.specs.List.{AllByRecursion}
use Rattle.tables.specs.Chains.{Visit, link, missing, visits, chain}
use Rattle.tables.specs.declared.Link.{Link}

abbrev pub Leads : Visit → Type 0
Leads (link n l) = (l.next ≡ 0) ⊎ (n < l.next)
Leads (missing n) = ⊥

unfoldable pub Walkable : List Link → ℕ → Type 0
Walkable ls n = AllByRecursion Leads (visits ls n)

unfoldable pub Stepped : List Link → ℕ → Option Link → List Link → ℕ → Type 0
Stepped ls n r ls' n' = (ls' ≡ ls) × MatchOption r (chain ls n ≡ []) (λ l. chain ls n ≡ l ∷ chain ls n')

abbrev pub steps_left : List Link → ℕ → ℕ
steps_left ls n = cond (n == 0) 0 (length ls + 1 - n)
