use Rattle.std.proofs.Common.{◌≡◌, ℕ, ◌+◌, ◌*◌, ◌<◌, Some, get_or, set, subst, arith, rules}
use Rattle.lmcut.specs.Bitwise.{ActionStep}
use Rattle.lmcut.proofs.Bitwise.{action_some, action_none}
use Rattle.lmcut.proofs.bits.ActionBitsIterator.next.Goals as goal

pub returns-then-self-ne0-clause-steps : goal.returns-then-self-ne0-clause-steps
returns-then-self-ne0-clause-steps c =
    let ws = c.args.self.now.words in
    let e : 128 * 0 + c.take_lowest.result ≡ c.take_lowest.result = omega arith in
    subst (λ n. ActionStep ws (Some n) (set ws 0 c.take_lowest.new.word)) e
    (action_some ws 0 c.take_lowest.result c.take_lowest.new.word (search rules) (omega arith) (λ k h. absurd (omega arith)) c.take_lowest.ensures.lowest c.take_lowest.ensures.rest)

pub returns-then-self-ne0-2-clause-steps : goal.returns-then-self-ne0-2-clause-steps
returns-then-self-ne0-2-clause-steps c =
    let ws = c.args.self.now.words in
    let zeros : (k : ℕ) → k < 1 → get_or ws k 0 ≡ 0 = λ k h. search rules in
    action_some ws 1 c.take_lowest-then-self-ne0-2.result c.take_lowest-then-self-ne0-2.new.word (search rules) (omega arith) zeros c.take_lowest-then-self-ne0-2.ensures.lowest c.take_lowest-then-self-ne0-2.ensures.rest

pub returns-then-self-ne0-3-clause-steps : goal.returns-then-self-ne0-3-clause-steps
returns-then-self-ne0-3-clause-steps c =
    let ws = c.args.self.now.words in
    let zeros : (k : ℕ) → k < 2 → get_or ws k 0 ≡ 0 = λ k h. search rules in
    action_some ws 2 c.take_lowest-then-self-ne0-3.result c.take_lowest-then-self-ne0-3.new.word (search rules) (omega arith) zeros c.take_lowest-then-self-ne0-3.ensures.lowest c.take_lowest-then-self-ne0-3.ensures.rest

pub returns-clause-steps : goal.returns-clause-steps
returns-clause-steps c =
    let ws = c.args.self.now.words in
    let zeros : (k : ℕ) → k < 3 → get_or ws k 0 ≡ 0 = λ k h. search rules in
    action_none ws ws (search rules) zeros
