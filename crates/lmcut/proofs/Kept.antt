-- What stays while values are found, over several calls.
use Rattle.std.proofs.Common.{ℕ, List, Bor, ◌∙◌, subst}
use Rattle.lmcut.specs.Settled.{Kept}
use Rattle.lmcut.specs.declared.left.Left.{Left}
use Rattle.lmcut.specs.declared.question.Question.{Question}
use Rattle.lmcut.specs.declared.values.Settling.{Settling}

pub kept_more : (s t u : Settling) → Kept s t → Kept t u → Kept s u
kept_more s t u k l = record { question = l.question ∙ k.question; left = l.left ∙ k.left; open_nodes = l.open_nodes ∙ k.open_nodes }

-- what holds of what is kept, before
pub kept_back : (P : Question → List ℕ → ℕ → Type 0) (s t : Settling) → Kept s t → P t.asked.question.now t.left.now.of t.open_nodes → P s.asked.question.now s.left.now.of s.open_nodes
kept_back P s t k p =
    subst (λ (r : Bor Question). P r.now s.left.now.of s.open_nodes) k.question
    (subst (λ (r : Bor Left). P t.asked.question.now r.now.of s.open_nodes) k.left (subst (P t.asked.question.now t.left.now.of) k.open_nodes p))
