use Rattle.std.proofs.Common.{◌≡◌, ◌∙◌, rules, ℤ, pos, ◌+ℤ◌, ◌*ℤ◌, FitsSigned, w32, w64, ap, ap₂, sym, subst}
use Rattle.std.proofs.lemmas.Int.{to_z-of_z}
use Rattle.fr_base.specs.Within.{IsBetween, IsWithin}
use Rattle.fr_base.proofs.Products.{below_longest}
use Rattle.fr_time.specs.Position.{even_position, grid_for}
use Rattle.fr_time.specs.Slots.{action_point_of, IsEarly}
use Rattle.fr_air.proofs.Fitting.{back, early-back, early-due, early-fit, early-fits, early-within, few-within, length-back, ticks-back}
use Rattle.fr_air.proofs.instants.early_due_at.Goals as goal

pub action_point-requires : goal.action_point-requires
action_point-requires c = c.requires.slot

pub early_position-position-requires-clause-rate : goal.early_position-position-requires-clause-rate
early_position-position-requires-clause-rate c =
    let rate : FitsSigned w32 c.args.sender.now.rate = search rules in
    subst (IsWithin c.args.files.now.params.rate_limit) (sym (to_z-of_z w32 c.args.sender.now.rate rate)) c.requires.row.rate

pub early_position-position-requires-clause-early : goal.early_position-position-requires-clause-early
early_position-position-requires-clause-early c =
    let action = c.action_point in
    back (IsEarly c.args.files.now.params) action.result (early-fit action.result action.ensures.early.from action.ensures.early.to) action.ensures.early

pub ticks_of-requires-clause-microticks : goal.ticks_of-requires-clause-microticks
ticks_of-requires-clause-microticks c =
    let position = c.early_position-position in
    few-within position.result c.args.sender.now.length position.ensures.within.low position.ensures.within.high c.requires.row.timed.length

pub ticks_of-requires-clause-length : goal.ticks_of-requires-clause-length
ticks_of-requires-clause-length c =
    let position = c.early_position-position in
    length-back position.result c.args.sender.now.length position.ensures.within.low position.ensures.within.high c.requires.row.timed.length

-- the ticks after the start
after_lem : (c : goal.After-ticks_of) → (c.ticks_of.result ≡ even_position (grid_for c.args.files.now.params) c.args.sender.now.rate (pos (action_point_of c.args.files.now.params c.args.turn.now.slot)) *ℤ c.args.sender.now.length)
    × IsBetween (pos 0) (pos 1_050_000_000_000) c.ticks_of.result
after_lem c =
    let p = c.args.files.now.params in
    let sender = c.args.sender.now in
    let action = c.action_point in
    let position = c.early_position-position in
    let long = c.requires.row.timed.length in
    let rate : FitsSigned w32 sender.rate = search rules in
    let at : position.result ≡ even_position (grid_for p) sender.rate (pos (action_point_of p c.args.turn.now.slot)) =
    position.ensures.value
    ∙ ap₂ (even_position (grid_for p)) (to_z-of_z w32 sender.rate rate)
    (to_z-of_z w64 action.result (early-fit action.result action.ensures.early.from action.ensures.early.to) ∙ action.ensures.value) in
    let is : c.ticks_of.result ≡ position.result *ℤ sender.length =
    c.ticks_of.ensures.value ∙ ticks-back position.result sender.length position.ensures.within.low position.ensures.within.high long in (
      is ∙ ap (λ (x : ℤ). x *ℤ sender.length) at,
      subst (IsBetween (pos 0) (pos 1_050_000_000_000)) (sym is) (below_longest position.result sender.length long 700000 position.ensures.within),
    )

pub overflow_add-result : goal.overflow_add-result
overflow_add-result c = early-fits c.args.sender.now.start c.ticks_of.result c.requires.start (after_lem c).1

pub returns-clause-due : goal.returns-clause-due
returns-clause-due c =
    let start = c.args.sender.now.start in
    let ticks = after_lem c in record {
      value = early-back start c.ticks_of.result c.requires.start ticks.1 ∙ ap (λ (x : ℤ). start +ℤ x) ticks.0;
      within = early-due _ (early-within start c.ticks_of.result c.requires.start ticks.1);
    }

pub returns-clause-early : goal.returns-clause-early
returns-clause-early c = early-within c.args.sender.now.start c.ticks_of.result c.requires.start (after_lem c).1
