use Rattle.std.proofs.Common.{◌≡◌, ◌∙◌, ℕ, ℤ, List, Option, Some, None, ap, sym, refl}
use Rattle.std.specs.Option.{option_map}
use Rattle.fr_script.specs.Events.{event_seen}
use Rattle.fr_air.proofs.Fitting.{back, comes-within, fits-within}
use Rattle.fr_air.proofs.Listening.{carried_frame, carried_short, nothing_comes, sent_comes}
use Rattle.fr_air.specs.Files.{setting_in}
use Rattle.fr_air.specs.Listening.{frame_with}
use Rattle.fr_air.specs.Sending.{carried, sent_with, ComesAs, IsDue}
use Rattle.fr_air.specs.declared.turn.Coming.{Coming}
use Rattle.fr_air.proofs.offering.sent_to.Goals as goal

pub sent_at-arrival-requires : goal.sent_at-arrival-requires
sent_at-arrival-requires c = back (IsDue c.args.files.now c.args.turn.now c.args.sender.now) c.args.due c.ranges.due c.requires.due

pub returns-in-Some : goal.returns-in-Some
returns-in-Some c frame =
    let a = c.args in
    let arrival = c.sent_at-arrival in
    let within = comes-within arrival.result arrival.ensures.within in
    let bit = c.in-Some.bit in
    let P : ℤ → Type 0 = λ at. ComesAs a.turn.now frame (sent_with (setting_in a.files.now) a.turn.now a.sender.now frame a.receiver) (let coming : Coming = record { arrival = at; bytes = carried bit } in Some coming) in
    rw (c.carried.ensures)
    (back P arrival.result (fits-within arrival.result within)
    (sent_comes (setting_in a.files.now) a.turn.now a.sender.now frame a.receiver arrival.result (event_seen c.at-event.result) (carried bit) c.at-event.ensures.value
    (sym (c.arrived.ensures frame) ∙ ap (option_map (λ (b : Option ℕ). frame_with b frame)) c.in-Some.is ∙ ap Some (carried_frame bit frame)) (carried_short bit) arrival.ensures.value within))

pub returns-in-None : goal.returns-in-None
returns-in-None c frame =
    let a = c.args in
    nothing_comes (setting_in a.files.now) a.turn.now a.sender.now frame a.receiver (event_seen c.at-event.result) c.at-event.ensures.value
    (sym (c.arrived.ensures frame) ∙ ap (option_map (λ (b : Option ℕ). frame_with b frame)) c.in-None.is)
