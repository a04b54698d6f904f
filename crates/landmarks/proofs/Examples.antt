-- The worked examples, by computation.
use Rattle.std.proofs.Common.{refl}
use Rattle.tables.specs.Chains.{visits_from, links_of}
use Rattle.task.specs.Meaning.{names, change}
use Rattle.task.specs.States.{condition_holds, values_fit, is_state, start_state}
use Rattle.landmarks.specs.Relaxed.{fact_reaches, condition_reaches, facts_hold, relaxed}
use Rattle.landmarks.specs.Rounds.{repeated, loaded, largest, offer, best, swept_from, values, chosen, grow, weightless_into, leads_in, goal_zone, runs_to, led_to, start_zone, cut, lightest, lightest_of, charge, grounds_of, rounds, pairs, outcome, estimate, grounds}
use Rattle.landmarks.specs.Worked.{Worked}

pub worked : Worked
unfolding estimate grounds is_state values_fit start_state relaxed outcome rounds pairs loaded values repeated swept_from best offer largest cut goal_zone start_zone chosen grow leads_in weightless_into led_to runs_to lightest lightest_of charge grounds_of condition_holds visits_from links_of names change fact_reaches condition_reaches facts_hold
worked = record { pads_answer = refl; pads_records = refl; no_pads_answer = refl; climb_answer = refl; climb_records = refl }
