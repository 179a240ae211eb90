use Rattle.std.proofs.Common.{◌≡◌, ◌∙◌, ℕ, ℤ, pos, w64, ap, sym, subst}
use Rattle.std.proofs.lemmas.Int.{to_z-of_z}
use Rattle.fr_base.specs.Within.{IsWithin}
use Rattle.fr_frame.specs.Reading.{read_as}
use Rattle.fr_node.specs.Receptions.{received_as}
use Rattle.fr_node.specs.View.{node_row_of}
use Rattle.fr_reception.specs.Answers.{answer_of}
use Rattle.fr_air.proofs.Fitting.{back}
use Rattle.fr_air.specs.Sending.{offer_at}
use Rattle.fr_air.proofs.hearing.hear_frame.Goals as goal

pub hear_received-requires-clause-receives : goal.hear_received-requires-clause-receives
hear_received-requires-clause-receives c = c.requires.hears.receives

pub hear_received-requires-clause-arrival : goal.hear_received-requires-clause-arrival
hear_received-requires-clause-arrival c = back (IsWithin (pos 4_000_000_000_000_000_000)) c.args.arrival c.ranges.arrival c.requires.arrival

pub returns : goal.returns
returns c frame made =
    let a = c.args in
    let t = a.turn.now in
    let p = a.files.now.params in
    let heard = c.hear_received in
    let own : a.reception.now ≡ received_as p a.node.now.cycle t.slot (read_as t.channel frame) =
    made ∙ ap (λ (cycle : ℕ). received_as p cycle t.slot (read_as t.channel frame)) (sym c.requires.hears.ready.in_cycle) in
    let P : ℤ → Type 0 = λ at. heard.result ≡ answer_of p a.node.now.cycle (node_row_of a.node.now) (offer_at t at frame) in
    record { answer = subst P (to_z-of_z w64 a.arrival c.ranges.arrival) (heard.ensures.answer frame own); after = heard.ensures.after; rest = heard.ensures.rest; fits = heard.ensures.fits }
