-- Worked examples of LM-cut.
--   pads      a quantity from 0 to 20 at 0; a big move of cost 5 adds 5, a small one of cost 3 adds 2; the goal is at least 7
--   no_pads   the same without moves
--   climb     v from 0 to 20 at 0; B of cost 10 adds 1, C of cost 1 needs v at least 5 and adds 1; the goal is v at least 10
--   Worked    what LM-cut answers at the start of each, and its landmark records
use Rattle.std.specs.Prelude.{◌≡◌, ℕ, List, [], ◌∷◌, ℤ, pos}
use Rattle.tables.specs.Problem.{Problem}
use Rattle.task.specs.States.{start_state}
use Rattle.tables.specs.declared.Link.{Link}
use Rattle.tables.specs.declared.Move.{Move}
use Rattle.landmarks.specs.Rounds.{estimate, grounds}
use Rattle.landmarks.specs.declared.Ground.{Ground}
use Rattle.estimate.specs.declared.estimate.Estimate.TheVariants.{Dead as dead, AtLeast as at_least}

abbrev pub link : ℕ → ℕ → ℤ → ℕ → Link
link k s a n = record { kind = k; subject = s; amount = a; next = n }

abbrev pub pads_with : List Move → Problem
pads_with ms = record {
  head = record { facts = 0; start = 0; goal = 1 };
  quantities = record { lowest = pos 0; highest = pos 20; start = pos 0 } ∷ [];
  conditions = record { kind = 0; bound = pos 7; terms = 2 } ∷ [];
  moves = ms;
  links = link 3 1 (pos 0) 0 ∷ link 1 1 (pos 1) 0 ∷ link 6 1 (pos 5) 0 ∷ link 6 1 (pos 2) 0 ∷ [];
}

abbrev pub pads : Problem
pads = pads_with (record { cost = pos 5; needs = 0; effects = 3 } ∷ record { cost = pos 3; needs = 0; effects = 4 } ∷ [])

abbrev pub no_pads : Problem
no_pads = pads_with []

abbrev pub climb : Problem
climb = record {
  head = record { facts = 0; start = 0; goal = 1 };
  quantities = record { lowest = pos 0; highest = pos 20; start = pos 0 } ∷ [];
  conditions = record { kind = 0; bound = pos 10; terms = 2 } ∷ record { kind = 0; bound = pos 5; terms = 2 } ∷ [];
  moves = record { cost = pos 10; needs = 0; effects = 4 } ∷ record { cost = pos 1; needs = 3; effects = 4 } ∷ [];
  links = link 3 1 (pos 0) 0 ∷ link 1 1 (pos 1) 0 ∷ link 3 2 (pos 0) 0 ∷ link 6 1 (pos 1) 0 ∷ [];
}

abbrev pub ground_of : ℕ → ℕ → ℕ → ℕ → Ground
ground_of k w m c = record { round = k; weight = w; number = m; charge = c }

pub record Worked : Type 0 where
  pub pads_answer : estimate pads (start_state pads) ≡ at_least 7
  pub pads_records : grounds pads (start_state pads) ≡ ground_of 1 35280 1 25200 ∷ ground_of 1 35280 2 10080 ∷ []
  pub no_pads_answer : estimate no_pads (start_state no_pads) ≡ dead
  pub climb_answer : estimate climb (start_state climb) ≡ at_least 55
  pub climb_records : grounds climb (start_state climb) ≡ ground_of 1 50400 1 5040 ∷ ground_of 1 50400 2 5040 ∷ ground_of 2 226800 1 45360 ∷ []
