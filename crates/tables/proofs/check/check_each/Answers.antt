use Rattle.std.proofs.Common.{rules, ◌≡◌, ◌+◌, None, Some, Err, [], ◌∷◌, sym, ap, ◌∙◌, ⊎_elim}
use Rattle.std.proofs.lemmas.List.{nil_from_length}
use Rattle.tables.specs.Check.{told, each_fault}
use Rattle.tables.proofs.Checked.{told_err, told_ok}
use Rattle.tables.proofs.Records.{each_none, each_here, each_later}
use Rattle.tables.proofs.check.check_each.Goals as goal

pub loop-number-init : goal.loop-number-init
loop-number-init g c = (search rules, λ fault h. search rules)

pub loop-number-preserved : goal.loop-number-preserved
loop-number-preserved g c =
    let first : c.loop-number.number-iterator.b.rest.now ≡ c.in-Some.«record».now ∷ c.next.new.self.b.rest.now = search rules in
    let at : c.in-Some.number ≡ c.loop-number.number-iterator.a.start = search rules in
    let on : c.next.new.self.a.start ≡ c.loop-number.number-iterator.a.start + 1 = search rules in (
      search rules,
      λ fault h.
          let passed : fault c.loop-number.number-iterator.a.start c.in-Some.«record».now ≡ None = ap (λ n. fault n c.in-Some.«record».now) (sym at) ∙ told_ok _ (sym (h _ _ _ c.check.ensures) ∙ c.in_ok-check.was) in
          ap (λ n. each_fault fault n c.next.new.self.b.rest.now) on ∙ each_later fault _ _ _ _ first passed ∙ c.loop-number.invariant.1 fault h,
    )

pub returns-in_err-check : goal.returns-in_err-check
returns-in_err-check g c fault h =
    let first : c.loop-number.number-iterator.b.rest.now ≡ c.in-Some.«record».now ∷ c.next.new.self.b.rest.now = search rules in
    let at : c.in-Some.number ≡ c.loop-number.number-iterator.a.start = search rules in
    let failed : fault c.loop-number.number-iterator.a.start c.in-Some.«record».now ≡ Some c.in_err-check.field-0.0 = ap (λ n. fault n c.in-Some.«record».now) (sym at) ∙ told_err _ _ (sym (h _ _ _ c.check.ensures) ∙ c.in_err-check.was) in
    let is : c.from_residual.result ≡ Err c.in_err-check.field-0.0 = search rules in
    is ∙ sym (ap told (sym (c.loop-number.invariant.1 fault h) ∙ each_here fault _ _ _ _ first _ failed))

pub returns : goal.returns
returns g c fault h =
    let done : c.loop-number.number-iterator.b.rest.now ≡ [] = ⊎_elim (λ s. absurd (search rules)) (λ s. nil_from_length _ s.1.0) c.in-None.ensures.steps in
    sym (ap told (sym (c.loop-number.invariant.1 fault h) ∙ each_none fault _ _ done))
