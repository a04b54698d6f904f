-- Chains: lists of links in the link table, each naming the next by its number, 0 at the end.
--   Visit        what a walk meets: a link of the table under its number, or a number that the table lacks
--   visits_from  the walk to number n through the rest of a table whose first link has number k
--   visits       the walk from number n through the whole table
--   links_of     the links that a walk meets
--   chain        the links of the chain whose first link has number n, in order; none where n is 0
-- A walk goes through the table once, from its front: at the number that it looks for it takes the link and looks for that
-- link's next. A next that is not above its own link is behind the walk, and is never met.
use Rattle.std.specs.Prelude.{ℕ, ◌+◌, cond, List, [], ◌∷◌, ◌==◌, nat_eq}
use Rattle.tables.specs.declared.Link.{Link}

pub data Visit : Type 0 where
  link : ℕ → Link → Visit
  missing : ℕ → Visit

unfoldable pub visits_from : ℕ → List Link → ℕ → List Visit
visits_from k [] n = cond (n == 0) [] (missing n ∷ [])
visits_from k (l ∷ ls) n =
    let here = nat_eq k n in
    let rest = visits_from (k + 1) ls (cond here l.next n) in
    cond here (link k l ∷ rest) rest

abbrev pub visits : List Link → ℕ → List Visit
visits ls n = visits_from 1 ls n

unfoldable pub links_of : List Visit → List Link
links_of [] = []
links_of (link k l ∷ vs) = l ∷ links_of vs
links_of (missing n ∷ vs) = links_of vs

abbrev pub chain : List Link → ℕ → List Link
chain ls n = links_of (visits ls n)
