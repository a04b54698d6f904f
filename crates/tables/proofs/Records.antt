-- The check of a table's records, one by one: what is left of them begins with a record, or is none.
use Rattle.std.proofs.Common.{◌≡◌, ℕ, ◌+◌, List, [], ◌∷◌, Some, None, Option, sym, ap, ◌∙◌}
use Rattle.tables.specs.Check.{each_fault, ◌or◌}
use Rattle.tables.specs.declared.fault.TaskFault.{TaskFault}

module _ {X : Type 0} (f : ℕ → X → Option TaskFault) (k : ℕ) (xs : List X) where
  pub each_none : xs ≡ [] → each_fault f k xs ≡ None
  unfolding each_fault
  each_none done = ap (each_fault f k) done

  module _ (x : X) (rest : List X) (first : xs ≡ x ∷ rest) where
    -- the first record's fault is told, and the others are looked at only where it has none
    pub each_here : (e : TaskFault) → f k x ≡ Some e → each_fault f k xs ≡ Some e
    unfolding each_fault
    each_here e is = ap (each_fault f k) first ∙ ap (λ o. o or each_fault f (k + 1) rest) is

    pub each_later : f k x ≡ None → each_fault f (k + 1) rest ≡ each_fault f k xs
    unfolding each_fault
    each_later is = sym (ap (λ o. o or each_fault f (k + 1) rest) is) ∙ sym (ap (each_fault f k) first)
