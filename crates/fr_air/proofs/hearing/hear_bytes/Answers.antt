use Rattle.std.proofs.Common.{◌≡◌, ℤ, pos, w64, subst}
use Rattle.std.proofs.lemmas.Int.{to_z-of_z}
use Rattle.fr_base.specs.Within.{IsWithin}
use Rattle.fr_node.specs.View.{node_row_of}
use Rattle.fr_reception.specs.Answers.{answer_of}
use Rattle.fr_air.proofs.Fitting.{back}
use Rattle.fr_air.specs.Sending.{offer_at}
use Rattle.fr_air.proofs.hearing.hear_bytes.Goals as goal

pub hear-requires-clause-receives : goal.hear-requires-clause-receives
hear-requires-clause-receives c = c.requires.hears.receives

pub hear-requires-clause-arrival : goal.hear-requires-clause-arrival
hear-requires-clause-arrival c = back (IsWithin (pos 4_000_000_000_000_000_000)) c.args.arrival c.ranges.arrival c.requires.arrival

pub returns : goal.returns
returns c =
    let a = c.args in
    let P : ℤ → Type 0 = λ at. c.hear.result ≡ answer_of a.files.now.params a.node.now.cycle (node_row_of a.node.now) (offer_at a.turn.now at a.bytes.now) in
    record { answer = subst P (to_z-of_z w64 a.arrival c.ranges.arrival) c.hear.ensures.answer; after = c.hear.ensures.after; rest = c.hear.ensures.rest; fits = c.hear.ensures.fits }
