use Rattle.std.proofs.lemmas.Bool.{false≢true}
use Rattle.script.specs.Unread.{unread}
use Rattle.script.proofs.Apart.{apart}
use Rattle.script.proofs.words.Words.finish.Goals as goal

pub returns-in-Some-clause-exact : goal.returns-in-Some-clause-exact
returns-in-Some-clause-exact c =
    (λ e. absurd (false≢true e), λ b. absurd (apart (unread c.args.self) c.in-Some.field-0.now (unread c.word.new.self) c.in-Some.ensures b))
