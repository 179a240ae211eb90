use Rattle.std.proofs.Common.{◌∙◌, ap, ap₂, ℕ, Bool, Option}
use Rattle.std.specs.Option.{option_copied}
use Rattle.fr_base.specs.declared.node_row.NodeRow.{NodeRow}
use Rattle.fr_base.specs.declared.state.State.{State}
use Rattle.fr_trace.specs.Cycles.{kept_of}
use Rattle.fr_verdict.specs.Breach.{sender_is_away}
use Rattle.fr_check.specs.Allowed.{limits_by, silent_by}
use Rattle.fr_check.specs.declared.deviations.Allowed.{Allowed}
use Rattle.fr_check.specs.declared.deviations.Limits.{Limits}
use Rattle.fr_check.proofs.deviations.allowed_in.Goals as goal

pub returns-clause-value : goal.returns-clause-value
returns-clause-value c =
    let receiver : Option NodeRow = option_copied c.args.receiver in
    let sender = c.sender_row-sender.ensures.value in
    ap (λ (n : ℕ). let allowed : Allowed = record { slot = n; away = c.is_away_by-away.result; silent = c.silent_by.result; limits = c.limits_by.result } in allowed) c.slot.view_is
    ∙ ap (λ (away : Bool). let allowed : Allowed = record { slot = c.args.slot; away = away; silent = c.silent_by.result; limits = c.limits_by.result } in allowed) c.is_away_by-away.ensures
    ∙ ap₂ (λ (state : Option State) (limits : Option Limits). let allowed : Allowed = record { slot = c.args.slot; away = sender_is_away c.args.params.now c.args.trace.now (kept_of c.args.cycle.now) c.args.slot; silent = state; limits = limits } in allowed)
    (c.silent_by.ensures ∙ ap₂ (λ (away : Bool) (s : Option NodeRow). silent_by away s receiver) c.is_away_by-away.ensures sender)
    (c.limits_by.ensures.value ∙ ap (λ (s : Option NodeRow). limits_by c.args.params.now c.args.odd c.args.slot s receiver) sender)
