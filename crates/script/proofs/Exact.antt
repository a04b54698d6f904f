-- What an answer says tells the answer, but for how landmark records are held.
--   has_records   an answer tells landmark records
--   plain         the answer that says so, where no landmark records are told
--   plain_seen    an answer that tells none is the one that says what it says
--   seen_plain    an answer that says what tells some answer is that answer
--   seen_exact    an answer that says what one without landmark records says is that one
use Rattle.std.proofs.Common.{◌≡◌, Bool, true, false, Option, Some, None, refl, ap, sym, ◌∙◌}
use Rattle.std.proofs.lemmas.Bool.{true≢false}
use Rattle.std.proofs.lemmas.Option.{same_Some, none-some}
use Rattle.script.specs.Said.{Said, Accepted, RefusedTask, Cost, RefusedPlan, AtLeast, Dead, Grounds, RefusedSearch, NothingAccepted, NotServed, BadLine, seen}
use Rattle.script.specs.declared.answer.Answer.{Answer}
use Rattle.script.specs.declared.answer.Answer.TheVariants as answer

abbrev pub has_records : Answer → Bool
has_records (answer.Grounds records) = true
has_records _ = false

abbrev plain : Said → Option Answer
plain Accepted = Some answer.Accepted
plain (RefusedTask fault) = Some (answer.RefusedTask fault)
plain (Cost cost) = Some (answer.Cost cost)
plain (RefusedPlan fault) = Some (answer.RefusedPlan fault)
plain (AtLeast n) = Some (answer.AtLeast n)
plain Dead = Some answer.Dead
plain (Grounds records) = None
plain (RefusedSearch fault) = Some (answer.RefusedSearch fault)
plain NothingAccepted = Some answer.NothingAccepted
plain NotServed = Some answer.NotServed
plain (BadLine line) = Some (answer.BadLine line)

pub seen_plain : (a b : Answer) → plain (seen a) ≡ Some b → a ≡ b
seen_plain answer.Accepted b e = same_Some _ _ e
seen_plain (answer.RefusedTask fault) b e = same_Some _ _ e
seen_plain (answer.Cost cost) b e = same_Some _ _ e
seen_plain (answer.RefusedPlan fault) b e = same_Some _ _ e
seen_plain (answer.AtLeast n) b e = same_Some _ _ e
seen_plain answer.Dead b e = same_Some _ _ e
seen_plain (answer.Grounds records) b e = absurd (none-some _ e)
seen_plain (answer.RefusedSearch fault) b e = same_Some _ _ e
seen_plain answer.NothingAccepted b e = same_Some _ _ e
seen_plain answer.NotServed b e = same_Some _ _ e
seen_plain (answer.BadLine line) b e = same_Some _ _ e

plain_seen : (a : Answer) → has_records a ≡ false → plain (seen a) ≡ Some a
plain_seen answer.Accepted none = refl
plain_seen (answer.RefusedTask fault) none = refl
plain_seen (answer.Cost cost) none = refl
plain_seen (answer.RefusedPlan fault) none = refl
plain_seen (answer.AtLeast n) none = refl
plain_seen answer.Dead none = refl
plain_seen (answer.Grounds records) none = absurd (true≢false none)
plain_seen (answer.RefusedSearch fault) none = refl
plain_seen answer.NothingAccepted none = refl
plain_seen answer.NotServed none = refl
plain_seen (answer.BadLine line) none = refl

pub seen_exact : (a b : Answer) → has_records b ≡ false → seen a ≡ seen b → a ≡ b
seen_exact a b none same = seen_plain a b (ap plain same ∙ plain_seen b none)
