-- What is read off the tables of a task, at a state, for a question.
--   weigh          a sum with the weight of a term times the change of its quantity added
--   weighed        that sum over terms, the changes given as sixteen numbers
--   Changes        sixteen numbers are what effects add to the quantities, and they are small
--   Word           the bits of a word are the nodes of a list
--   gain_at        what effects add to the sum of the condition at an index
--   Standing       which nodes hold at a state, and the shortfalls of the conditions that do not
--   Row            the nodes that effects reach, as a word, and their gains on the conditions among these
--   Blank          the costs, needs, reaches and gains of a question are 0, and no action is marked
--   Prepared       a question is that of a problem and a state
use Rattle.std.specs.Prelude.{◌≡◌, ℕ, ◌+◌, ◌-◌, ◌<◌, ◌≤◌, Bool, true, false, not, ◌&&◌, List, [], length, take, replicate, ℤ, pos, ◌+ℤ◌, ◌*ℤ◌, fold, slice_index, slice_index_or, unsigned_abs}
use Rattle.tables.specs.Chains.{chain}
use Rattle.tables.specs.Problem.{Problem}
use Rattle.tables.specs.declared.Link.{Link}
use Rattle.task.specs.Meaning.{names, change}
use Rattle.task.specs.States.{fact_holds, condition_at, move_at, condition_holds}
use Rattle.task.specs.declared.state.State.{State}
use Rattle.landmarks.specs.Laws.{In}
use Rattle.landmarks.specs.Relaxed.{shortfall, gain_of, needs_of, raises, node_count, nodes_hold}
use Rattle.lmcut.specs.Marked.{unmarked, Needing}
use Rattle.lmcut.specs.declared.question.Question.{Question}

abbrev pub weigh : List ℤ → ℤ → Link → ℤ
weigh changes sum l = sum +ℤ (l.amount *ℤ slice_index_or changes (l.subject - 1) (pos 0))

abbrev pub weighed : List ℤ → List Link → ℤ
weighed changes terms = fold (weigh changes) (pos 0) terms

pub record Changes (changes : List ℤ) (es : List Link) : Type 0 where
  pub long : length changes ≡ 16
  pub is : (q : ℕ) → 1 ≤ q → q ≤ 16 → slice_index_or changes (q - 1) (pos 0) ≡ change es q
  pub small : (i : ℕ) → unsigned_abs (slice_index_or changes i (pos 0)) ≤ 819200000

pub record Word (w : ℕ) (ns : List ℕ) : Type 0 where
  pub set : (n : ℕ) → In n ns → fact_holds w n ≡ true
  pub only : (n : ℕ) → fact_holds w n ≡ true → In n ns

abbrev pub gain_at : Problem → List Link → ℕ → ℤ
gain_at p es c = gain_of (chain p.links (condition_at p (c + 1)).terms) es

pub record Standing (p : Problem) (s : State) (holds : List Bool) (shorts : List ℕ) : Type 0 where
  pub long : length holds ≡ 129
  pub held : take (node_count p) holds ≡ nodes_hold p s
  pub lacks : (c : ℕ) → c < length p.conditions → condition_holds p s (condition_at p (c + 1)) ≡ false → slice_index shorts c ≡ shortfall p s (condition_at p (c + 1))

pub record Row (p : Problem) (s : State) (es : List Link) (reach : ℕ) (gains : List ℕ) : Type 0 where
  pub facts : (k : ℕ) → k < p.head.facts → fact_holds reach k ≡ (names 4 es k && not (fact_holds s.facts k))
  pub conditions : (c : ℕ) → c < length p.conditions → fact_holds reach (p.head.facts + c) ≡ (raises (gain_at p es c) && not (condition_holds p s (condition_at p (c + 1))))
  pub raised : (c : ℕ) → c < length p.conditions → fact_holds reach (p.head.facts + c) ≡ true → slice_index gains c ≡ unsigned_abs (gain_at p es c)
  pub inside : (n : ℕ) → fact_holds reach n ≡ true → n < p.head.facts + length p.conditions

pub record Blank (q : Question) : Type 0 where
  pub costs : q.costs ≡ replicate 257 0
  pub needs : q.needs ≡ replicate 257 0
  pub reach : q.reach ≡ replicate 257 0
  pub needing : q.needing ≡ unmarked
  pub reaching : q.reaching ≡ unmarked
  pub gains : q.gains ≡ replicate 256 (replicate {A = ℕ} 64 0)

pub record Prepared (p : Problem) (s : State) (q : Question) : Type 0 where
  pub facts : q.facts ≡ p.head.facts
  pub nodes : q.nodes ≡ node_count p
  pub actions : q.actions ≡ length p.moves + 1
  pub standing : Standing p s q.holds q.shorts
  pub costs : (i : ℕ) → i < length p.moves → slice_index q.costs i ≡ unsigned_abs (move_at p (i + 1)).cost
  pub no_costs : (i : ℕ) → length p.moves ≤ i → slice_index q.costs i ≡ 0
  pub needs : (i : ℕ) → i < length p.moves → Word (slice_index q.needs i) (needs_of p (move_at p (i + 1)).needs)
  pub goal : Word (slice_index q.needs (length p.moves)) (needs_of p p.head.goal)
  pub rows : (i : ℕ) → i < length p.moves → Row p s (chain p.links (move_at p (i + 1)).effects) (slice_index q.reach i) (slice_index_or q.gains i [])
  pub no_reach : (i : ℕ) → length p.moves ≤ i → slice_index q.reach i ≡ 0
  pub no_needs : (i : ℕ) → length p.moves < i → slice_index q.needs i ≡ 0
  pub needing : Needing q.needs q.needing
  pub reaching : Needing q.reach q.reaching
