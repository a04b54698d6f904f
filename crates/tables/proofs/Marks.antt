-- A small set of quantities as sixteen marks, beside the list of the quantities named so far.
use Rattle.std.proofs.Common.{◌≡◌, ℕ, ◌+◌, ◌-◌, ◌<◌, ◌≤◌, Bool, true, false, ◌||◌, eqb, List, [], ◌∷◌, length, get_or, set, replicate, sym, ap, ◌∙◌, ⊎_elim, arith}
use Rattle.std.proofs.lemmas.List.{get_or-set_same, get_or-set_other, get_or-replicate}
use Rattle.std.proofs.lemmas.Bool.{eq-eqb, ne_eqb, cases_eq}
use Rattle.tables.specs.Check.{among}

-- mark q - 1 is set exactly where quantity q is named
abbrev pub Marks : List Bool → List ℕ → Type 0
Marks seen named = (q : ℕ) → q < 16 → get_or seen q false ≡ among named (q + 1)

pub marks_none : Marks (replicate 16 false) []
marks_none q h = get_or-replicate 16 q false false h

pub marks_also : (seen : List Bool) (named : List ℕ) (q : ℕ) → length seen ≡ 16 → 1 ≤ q → q ≤ 16 → Marks seen named → Marks (set seen (q - 1) true) (q ∷ named)
marks_also seen named q l p h m k hk = ⊎_elim same other (cases_eq k (q - 1))
  where
    same : k ≡ q - 1 → get_or (set seen (q - 1) true) k false ≡ eqb q (k + 1) || among named (k + 1)
    same e =
        let lt : q - 1 < length seen = omega arith in
        ap (λ i. get_or (set seen (q - 1) true) i false) e ∙ get_or-set_same seen (q - 1) true false lt ∙ sym (ap (λ b. b || among named (k + 1)) (eq-eqb q (k + 1) (omega arith)))

    other : (k ≡ q - 1 → ⊥) → get_or (set seen (q - 1) true) k false ≡ eqb q (k + 1) || among named (k + 1)
    other ne = get_or-set_other seen (q - 1) k true false ne ∙ m k hk ∙ sym (ap (λ b. b || among named (k + 1)) (ne_eqb q (k + 1) (λ e. ne (omega arith))))
