-- The numbers of the kinds of links and conditions, and what a number names.
--   kind_number    a kind of link as a number
--   sense_number   a kind of condition as a number
--   NamesKind      the answer is the kind of link with a number, or that no kind has it
--   NamesSense     the answer is the kind of condition with a number, or that no kind has it
use Rattle.std.specs.Prelude.{◌≡◌, ℕ, ◌<◌, ◌⊎◌, Result, MatchResult}
use Rattle.tables.specs.declared.kind.LinkKind.{LinkKind}
use Rattle.tables.specs.declared.kind.LinkKind.TheVariants.{Term, Fact, Condition, Set, Clear, Change}
use Rattle.tables.specs.declared.kind.Sense.{Sense}
use Rattle.tables.specs.declared.kind.Sense.TheVariants.{AtLeast, MoreThan}
use Rattle.tables.specs.declared.kind.UnknownKind.{UnknownKind}

abbrev pub kind_number : LinkKind → ℕ
kind_number Term = 1
kind_number Fact = 2
kind_number Condition = 3
kind_number Set = 4
kind_number Clear = 5
kind_number Change = 6

abbrev pub sense_number : Sense → ℕ
sense_number AtLeast = 0
sense_number MoreThan = 1

abbrev pub NamesKind : ℕ → Result LinkKind UnknownKind → Type 0
NamesKind number r = MatchResult r (λ kind. kind_number kind ≡ number) (λ e. (e.0 ≡ number) × ((number ≡ 0) ⊎ (6 < number)))

abbrev pub NamesSense : ℕ → Result Sense UnknownKind → Type 0
NamesSense number r = MatchResult r (λ sense. sense_number sense ≡ number) (λ e. (e.0 ≡ number) × (1 < number))
