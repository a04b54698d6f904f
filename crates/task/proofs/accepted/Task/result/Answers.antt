use Rattle.std.proofs.Common.{◌≡◌, ℕ, true, Option, sym, ap, ◌∙◌}
use Rattle.tables.specs.Chains.{chain}
use Rattle.task.specs.Meaning.{MovesMean}
use Rattle.task.specs.States.{is_state, all_hold, after_effects, result_of}
use Rattle.task.specs.Tasks.{problem}
use Rattle.task.specs.declared.accepted.Task.{Task}
use Rattle.task.specs.declared.state.State.{State}
use Rattle.task.proofs.Keep.{moves_mean}
use Rattle.task.proofs.Along.{kept_rules, move_found}
use Rattle.task.proofs.Results.{result_no_move, result_no_needs, result_needs}
use Rattle.task.proofs.accepted.Task.result.Goals as goal

-- the result is the one of the definition, whose moves mean what they should
full : (t : Task) (s : State) (m : ℕ) (r : Option State) → r ≡ result_of (problem t) s m → record { is : r ≡ result_of (problem t) s m; means : is_state (problem t) s ≡ true → MovesMean (problem t) s m }
full t s m r e = record { is = e; means = λ h. moves_mean (problem t) (kept_rules t) s h m }

pub returns-in_err-action : goal.returns-in_err-action
returns-in_err-action c = full c.args.self.now _ _ _ (c.from_residual.ensures ∙ sym (result_no_move _ _ _ c.in_err-action.ensures))

pub needs_hold-requires : goal.needs_hold-requires
needs_hold-requires c = (move_found c.args.self.now _ _ c.in_ok-action.ensures).needs

pub effected-requires : goal.effected-requires
effected-requires c = (move_found c.args.self.now _ _ c.in_ok-action.ensures).effects

pub returns-then-not-needs_hold : goal.returns-then-not-needs_hold
returns-then-not-needs_hold c =
    let p = problem c.args.self.now in
    full c.args.self.now _ _ _ (sym (result_no_needs _ _ c.args.number (ap (λ m. all_hold p c.args.state.now (chain p.links m.needs)) (sym (c.in_ok-action.ensures.2 _)) ∙ sym c.if-not-needs_hold.ensures)))

pub returns : goal.returns
returns c =
    let p = problem c.args.self.now in
    let s = c.args.state.now in
    let e = c.in_ok-action.ensures in
    full c.args.self.now _ _ _ (c.effected.ensures ∙ ap (λ m. after_effects p s (chain p.links m.effects)) (e.2 _)
    ∙ sym (result_needs _ _ c.args.number e.0 e.1 (ap (λ m. all_hold p s (chain p.links m.needs)) (sym (e.2 _)) ∙ sym c.if-not-needs_hold.ensures)))
