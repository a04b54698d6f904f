-- What a line says.
--   Field        the next word is read by a rule as a value, and then so much is left
--   Natural      the next word is a number that an unsigned field of so many bits holds
--   Integer      the next word is a number that a signed field of a width holds
--   Three        all the words that are left are three fields
--   CostField    what a field for costs holds of a written cost: what is past the field is held as the field's greatest number
--   record_word  the first word of a line that has a record for a table
--   Written      the words after it are the record's fields, in order
--   Integers     the next words are the numbers of a list
--   Moves        all the words that are left are the numbers of a list of moves
--   StateWritten all the words that are left are a word of facts and sixteen values
--   IsLaterWord  a first word is known, and not served yet
--   EstWritten   the words that are left are the name of an estimator and a record
--   Unserved     a first word and the words after it ask for LM-cut
--   Directs      a first word and the words after it say a directive
--   Reads        a text is read as what it does for a block
--   Says         a line with a number says what it is read as, or is malformed
use Rattle.std.specs.Prelude.{◌≡◌, ℕ, Bool, true, false, List, [], ◌∷◌, Ok, codes, vec_items, ℤ, pos, ◌≤ℤ◌, ◌<ℤ◌, ◌⊎◌, Result}
use Rattle.std.specs.Int.{Width, w32, w64}
use Rattle.std.specs.Str.Parse.{ParsesUnsigned, ParsesSigned}
use Rattle.task.specs.declared.state.State.{State}
use Rattle.script.specs.Names.{name_of, needs_lmcut}
use Rattle.script.specs.Unread.{Blank, Next}
use Rattle.script.specs.declared.directive.Directive.{Directive}
use Rattle.script.specs.declared.directive.Directive.TheVariants.{Accept, Check, Est, Grounds, Later, Malformed}
use Rattle.script.specs.declared.directive.Line.{Line}
use Rattle.script.specs.declared.directive.Line.TheVariants as line
use Rattle.script.specs.declared.estimators.Asked.{Asked}
use Rattle.script.specs.declared.records.Record.{Record}
use Rattle.script.specs.declared.records.Record.TheVariants.{Head, Quantity, Condition, Move, Link}
use Rattle.script.specs.declared.words.LineFault.{LineFault}

abbrev pub Field : {X E : Type 0} → (List ℕ → Result X E → Type 0) → List ℕ → X → List ℕ → Type 0
Field rule s x left = (word : List ℕ) × Next s word left × rule word (Ok x)

abbrev pub Natural : ℕ → List ℕ → ℕ → List ℕ → Type 0
Natural bits = Field {E = LineFault} (ParsesUnsigned bits 10)

abbrev pub Integer : Width → List ℕ → ℤ → List ℕ → Type 0
Integer width = Field {E = LineFault} (ParsesSigned width 10)

abbrev pub Three : {A B C : Type 0} → (List ℕ → A → List ℕ → Type 0) → (List ℕ → B → List ℕ → Type 0) → (List ℕ → C → List ℕ → Type 0) → List ℕ → A → B → C → Type 0
Three FieldA FieldB FieldC s a b c = (t : List ℕ) × (u : List ℕ) × (v : List ℕ) × FieldA s a t × FieldB t b u × FieldC u c v × Blank v

abbrev pub CostField : ℤ → ℤ → Type 0
CostField written cost = ((written ≤ℤ pos 2147483647) × (cost ≡ written)) ⊎ ((pos 2147483647 <ℤ written) × (written ≤ℤ pos 4294967295) × (cost ≡ pos 2147483647))

abbrev pub record_word : Record → List ℕ
record_word (Head h) = codes "head"
record_word (Quantity q) = codes "q"
record_word (Condition c) = codes "c"
record_word (Move m) = codes "m"
record_word (Link l) = codes "l"

abbrev pub Written : List ℕ → Record → Type 0
Written s (Head h) = Three (Natural 32) (Natural 64) (Natural 32) s h.facts h.start h.goal
Written s (Quantity q) = Three (Integer w32) (Integer w32) (Integer w32) s q.lowest q.highest q.start
Written s (Condition c) = Three (Natural 32) (Integer w32) (Natural 32) s c.kind c.bound c.terms
Written s (Move m) = (written : ℤ) × CostField written m.cost × Three (Integer w64) (Natural 32) (Natural 32) s written m.needs m.effects
Written s (Link l) = (t : List ℕ) × Natural 32 s l.kind t × Three (Natural 32) (Integer w32) (Natural 32) t l.subject l.amount l.next

abbrev pub Integers : List ℕ → List ℤ → List ℕ → Type 0
Integers s [] left = s ≡ left
Integers s (x ∷ xs) left = (t : List ℕ) × Integer w32 s x t × Integers t xs left

abbrev pub Moves : List ℕ → List ℕ → Type 0
Moves s [] = Blank s
Moves s (m ∷ ms) = (t : List ℕ) × Natural 32 s m t × Moves t ms

abbrev pub StateWritten : List ℕ → State → Type 0
StateWritten s state = (t : List ℕ) × (left : List ℕ) × Natural 64 s state.facts t × Integers t state.values left × Blank left

abbrev pub IsLaterWord : List ℕ → Type 0
IsLaterWord name =
    (name ≡ codes "open") ⊎ ((name ≡ codes "advance") ⊎ ((name ≡ codes "bound") ⊎ ((name ≡ codes "plan") ⊎ ((name ≡ codes "rows") ⊎ (name ≡ codes "lines")))))

abbrev pub EstWritten : List ℕ → Asked → State → Type 0
EstWritten s asked state = (t : List ℕ) × Next s (name_of asked) t × StateWritten t state

abbrev pub Unserved : List ℕ → List ℕ → Type 0
Unserved name left = (name ≡ codes "grounds") ⊎ ((name ≡ codes "est") × ((asked : Asked) × (state : State) × (needs_lmcut asked ≡ true) × EstWritten left asked state))

abbrev pub Directs : Bool → List ℕ → List ℕ → Directive → Type 0
Directs lmcut name left Accept = (name ≡ codes "accept") × Blank left
Directs lmcut name left (Check list) = (name ≡ codes "check") × Moves left (vec_items list)
Directs lmcut name left (Est asked state) = (name ≡ codes "est") × (lmcut ≡ false → needs_lmcut asked ≡ false) × EstWritten left asked state
Directs lmcut name left (Grounds room state) = (name ≡ codes "grounds") × (lmcut ≡ true) × ((t : List ℕ) × Natural 64 left room t × StateWritten t state)
Directs lmcut name left Later = IsLaterWord name ⊎ ((lmcut ≡ false) × Unserved name left)
Directs lmcut name left (Malformed n) = ⊥

abbrev pub Reads : Bool → List ℕ → Line → Type 0
Reads lmcut s line.Blank = Blank s
Reads lmcut s (line.Fill filled) = (left : List ℕ) × Next s (record_word filled) left × Written left filled
Reads lmcut s (line.Ask directive) = (name : List ℕ) × (left : List ℕ) × Next s name left × Directs lmcut name left directive
Reads lmcut s line.End = (left : List ℕ) × Next s (codes "end") left × Blank left

abbrev pub Says : Bool → ℕ → List ℕ → Line → Type 0
Says lmcut n s said = (said ≡ line.Ask (Malformed n)) ⊎ Reads lmcut s said
