use Rattle.std.proofs.Common.{◌≡◌, ◌∙◌, ℕ, pos, Option, Some, None, ap, sym, refl}
use Rattle.std.specs.Option.{option_map}
use Rattle.fr_base.specs.Within.{IsWithin}
use Rattle.fr_script.specs.Events.{event_seen}
use Rattle.fr_air.proofs.Caught.{caught-sent, nothing-sent}
use Rattle.fr_air.proofs.Fitting.{back, caught-fits}
use Rattle.fr_air.specs.Files.{setting_in}
use Rattle.fr_air.specs.Listening.{frame_with}
use Rattle.fr_air.specs.Turns.{frame_of_turn}
use Rattle.fr_air.proofs.catching.catch_sent.Goals as goal

pub caught_at-arrival-requires-clause-slot : goal.caught_at-arrival-requires-clause-slot
caught_at-arrival-requires-clause-slot c = c.requires.slot

pub caught_at-arrival-requires-clause-row : goal.caught_at-arrival-requires-clause-row
caught_at-arrival-requires-clause-row c = c.requires.row

pub caught_at-arrival-requires-clause-start : goal.caught_at-arrival-requires-clause-start
caught_at-arrival-requires-clause-start c = c.requires.start

pub catch-requires-clause-sends : goal.catch-requires-clause-sends
catch-requires-clause-sends c = c.requires.sends

pub catch-requires-clause-arrival : goal.catch-requires-clause-arrival
catch-requires-clause-arrival c =
    let arrival = c.caught_at-arrival in
    back (IsWithin (pos 900_000_000_000_000_000)) arrival.result (caught-fits arrival.result arrival.ensures.within) arrival.ensures.within

pub returns-in-Some-clause-caught : goal.returns-in-Some-clause-caught
returns-in-Some-clause-caught c =
    let a = c.args in
    let arrival = c.caught_at-arrival in
    let bit = c.in-Some.bit in
    let frame = frame_of_turn a.files.now a.turn.now a.sending.now in
    caught-sent (setting_in a.files.now) a.turn.now a.row.now frame a.listener.now c.id.result c.id-2.result (event_seen c.at-event.result) c.id.ensures c.id-2.ensures c.at-event.ensures.value
    arrival.result bit c.catch.new.listener (caught-fits arrival.result arrival.ensures.within) arrival.ensures.value
    (sym (c.arrived.ensures frame) ∙ ap (option_map (λ (b : Option ℕ). frame_with b frame)) c.in-Some.is) c.catch.ensures.caught

pub returns-in-Some-clause-stays : goal.returns-in-Some-clause-stays
returns-in-Some-clause-stays c = c.catch.ensures.stays

pub returns-in_default-clause-caught : goal.returns-in_default-clause-caught
returns-in_default-clause-caught c =
    let a = c.args in
    let frame = frame_of_turn a.files.now a.turn.now a.sending.now in
    nothing-sent (setting_in a.files.now) a.turn.now a.row.now frame a.listener.now c.id.result c.id-2.result (event_seen c.at-event.result) c.id.ensures c.id-2.ensures c.at-event.ensures.value
    (sym (c.arrived.ensures frame) ∙ ap (option_map (λ (b : Option ℕ). frame_with b frame)) c.in_default.is)

pub returns-in_default-clause-stays : goal.returns-in_default-clause-stays
returns-in_default-clause-stays c = refl
