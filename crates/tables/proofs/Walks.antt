-- Walks of chains: what the code may step over, and what it meets at a number.
use Rattle.std.proofs.Common.{◌≡◌, ℕ, zero, suc, ◌+◌, ◌-◌, ◌<◌, ◌≤◌, cond, eqb, ◌⊎◌, List, [], ◌∷◌, length, get_or, slice_get, drop, Some, sym, refl, ap, ◌∙◌, inl, inr, ⊎_elim, add-zero, arith}
use Rattle.std.proofs.lemmas.List.{drop_more, drop_all}
use Rattle.std.proofs.lemmas.Option.{slice_get_within, get_or_from_slice_get}
use Rattle.std.proofs.lemmas.Bool.{eq-eqb, ne_eqb, cond_both}
use Rattle.tables.specs.Chains.{link, missing, visits_from, visits}
use Rattle.tables.specs.declared.Link.{Link}

-- the walk at the link that it looks for, and at any other
pub visits_here : (k : ℕ) (l : Link) (ls : List Link) → visits_from k (l ∷ ls) k ≡ link k l ∷ visits_from (k + 1) ls l.next
unfolding visits_from
visits_here k l ls = rw (eq-eqb k k refl)

pub visits_past : (k : ℕ) (l : Link) (ls : List Link) (n : ℕ) → (k ≡ n → ⊥) → visits_from k (l ∷ ls) n ≡ visits_from (k + 1) ls n
unfolding visits_from
visits_past k l ls n h = rw (ne_eqb k n h)

-- links before the number that is looked for may be stepped over
pub visits_skip : (j : ℕ) (k : ℕ) (ls : List Link) (n : ℕ) → 0 < k → (n ≡ 0) ⊎ (k + j ≤ n) → visits_from k ls n ≡ visits_from (k + j) (drop j ls) n
unfolding visits_from
visits_skip zero k ls n h o = rw add-zero
visits_skip (suc j) k [] n h o = refl
visits_skip (suc j) k (l ∷ ls) n h o =
    let ne : k ≡ n → ⊥ = λ e. ⊎_elim (λ z. omega arith) (λ z. omega arith) o in
    let o' : (n ≡ 0) ⊎ ((k + 1) + j ≤ n) = ⊎_elim inl (λ z. inr (omega arith)) o in
    let e : (k + 1) + j ≡ k + suc j = omega arith in
    visits_past k l ls n ne ∙ visits_skip j (k + 1) ls n (omega arith) o' ∙ ap (λ m. visits_from m (drop j ls) n) e

-- nothing is met from 0, and only the number itself past the table
pub visits_none : (ls : List Link) (n : ℕ) → n ≡ 0 → visits ls n ≡ []
unfolding visits_from
visits_none ls n e =
    visits_skip (length ls) 1 ls n (omega arith) (inl e)
    ∙ ap (λ xs. visits_from (1 + length ls) xs n) (drop_all (length ls) ls (omega arith))
    ∙ rw (eq-eqb n 0 e)

pub visits_missing : (ls : List Link) (n : ℕ) → length ls < n → visits ls n ≡ missing n ∷ []
unfolding visits_from
visits_missing ls n h =
    let ne : n ≡ 0 → ⊥ = omega arith in
    visits_skip (length ls) 1 ls n (omega arith) (inr (omega arith))
    ∙ ap (λ xs. visits_from (1 + length ls) xs n) (drop_all (length ls) ls (omega arith))
    ∙ rw (ne_eqb n 0 ne)

-- at a number of the table the link is met, and the walk goes on behind it
pub visits_at : (ls : List Link) (n : ℕ) (d : Link) → 0 < n → n ≤ length ls → visits ls n ≡ link n (get_or ls (n - 1) d) ∷ visits_from (n + 1) (drop n ls) (get_or ls (n - 1) d).next
visits_at ls n d p h =
    let e : 1 + (n - 1) ≡ n = omega arith in
    let e' : (n - 1) + 1 ≡ n = omega arith in
    let lt : n - 1 < length ls = omega arith in
    visits_skip (n - 1) 1 ls n (omega arith) (inr (omega arith))
    ∙ ap (λ m. visits_from m (drop (n - 1) ls) n) e
    ∙ ap (λ xs. visits_from n xs n) (drop_more ls (n - 1) d lt ∙ ap (λ m. get_or ls (n - 1) d ∷ drop m ls) e')
    ∙ visits_here n (get_or ls (n - 1) d) (drop n ls)

-- behind link n the walk is that of the whole table, if it looks for a later link or for none
pub visits_on : (ls : List Link) (n m : ℕ) → (m ≡ 0) ⊎ (n < m) → visits_from (n + 1) (drop n ls) m ≡ visits ls m
visits_on ls n m o =
    let o' : (m ≡ 0) ⊎ (1 + n ≤ m) = ⊎_elim inl (λ z. inr (omega arith)) o in
    let e : n + 1 ≡ 1 + n = omega arith in
    ap (λ k. visits_from k (drop n ls) m) e ∙ sym (visits_skip n 1 ls m (omega arith) o')

pub visits_met : (ls : List Link) (n : ℕ) (l : Link) → slice_get ls (n - 1) ≡ Some l → 0 < n → visits ls n ≡ link n l ∷ visits_from (n + 1) (drop n ls) l.next
visits_met ls n l met q =
    let inside = slice_get_within ls (n - 1) l met in
    visits_at ls n l q (omega (arith, inside)) ∙ ap (λ x. link n x ∷ visits_from (n + 1) (drop n ls) x.next) (get_or_from_slice_get ls (n - 1) l l met)

-- a walk of a table comes to its end: each step is later in the table, or the last
pub walk_falls : (len at next : ℕ) → 0 < at → at ≤ len → (next ≡ 0) ⊎ (at < next) → cond (eqb next 0) 0 (len + 1 - next) < cond (eqb at 0) 0 (len + 1 - at)
walk_falls len at next q h o =
    let ne : at ≡ 0 → ⊥ = omega arith in
    rw (ne_eqb at 0 ne) (⊎_elim
    (λ z. rw (eq-eqb next 0 z) (omega arith))
    (λ z. cond_both (eqb next 0) 0 (len + 1 - next) (λ m. m < len + 1 - at) (λ _. omega arith) (λ _. omega arith))
    o)
