use Rattle.std.proofs.Common.{◌≡◌, ℤ, pos, List, ℕ, FitsSigned, w64, to_z, of_z, sym, subst, refl}
use Rattle.std.proofs.lemmas.Int.{to_z-of_z}
use Rattle.fr_base.specs.Within.{IsWithin}
use Rattle.fr_node.specs.View.{NodeView}
use Rattle.fr_reception.specs.declared.heard.Heard.{Heard}
use Rattle.fr_air.proofs.Fitting.{back, fits-within}
use Rattle.fr_air.proofs.Staying.{stays-same}
use Rattle.fr_air.specs.Memory.{frame_at}
use Rattle.fr_air.specs.Sending.{bytes_by, offer_at, AreShort}
use Rattle.fr_air.specs.Turns.{HasAnswered}
use Rattle.fr_air.specs.declared.files.RunInputs.{RunInputs}
use Rattle.fr_air.specs.declared.turn.Bytes.{Bytes}
use Rattle.fr_air.specs.declared.turn.Turn.{Turn}
use Rattle.fr_air.proofs.hearing.answer.Goals as goal

-- an arrival is read back
arrives : (arrival : ℤ) → IsWithin (pos 4_000_000_000_000_000_000) arrival → IsWithin (pos 4_000_000_000_000_000_000) (to_z w64 (of_z w64 arrival))
arrives arrival within = back (IsWithin (pos 4_000_000_000_000_000_000)) arrival (fits-within arrival within) within

-- what was answered to these bytes is answered to what comes
answered : (f : RunInputs) (turn : Turn) (before node : NodeView) (heard : Heard) (arrival : ℤ) (frame : List ℕ) (comes bytes : Bytes) → IsWithin (pos 4_000_000_000_000_000_000) arrival → comes ≡ bytes →
    HasAnswered f turn (offer_at turn (to_z w64 (of_z w64 arrival)) (bytes_by frame bytes)) before node heard → HasAnswered f turn (offer_at turn arrival (bytes_by frame comes)) before node heard
answered f turn before node heard arrival frame comes bytes within is answers =
    let P : Bytes → Type 0 = λ b. HasAnswered f turn (offer_at turn arrival (bytes_by frame b)) before node heard in
    let Q : ℤ → Type 0 = λ at. HasAnswered f turn (offer_at turn at (bytes_by frame bytes)) before node heard in
    subst P (sym is) (subst Q (to_z-of_z w64 arrival (fits-within arrival within)) answers)

pub hear_frame-requires-clause-hears : goal.hear_frame-requires-clause-hears
hear_frame-requires-clause-hears c = c.requires.hears

pub hear_frame-requires-clause-arrival : goal.hear_frame-requires-clause-arrival
hear_frame-requires-clause-arrival c = arrives c.args.coming.now.arrival c.requires.coming.arrival

pub hear_flipped-requires-clause-hears : goal.hear_flipped-requires-clause-hears
hear_flipped-requires-clause-hears c = c.requires.hears

pub hear_flipped-requires-clause-arrival : goal.hear_flipped-requires-clause-arrival
hear_flipped-requires-clause-arrival c = arrives c.args.coming.now.arrival c.requires.coming.arrival

pub hear_flipped-requires-clause-stands : goal.hear_flipped-requires-clause-stands
hear_flipped-requires-clause-stands c = c.requires.stands

pub hear_copy-requires-clause-hears : goal.hear_copy-requires-clause-hears
hear_copy-requires-clause-hears c = c.requires.hears

pub hear_copy-requires-clause-arrival : goal.hear_copy-requires-clause-arrival
hear_copy-requires-clause-arrival c = arrives c.args.coming.now.arrival c.requires.coming.arrival

pub hear_copy-requires-clause-bytes : goal.hear_copy-requires-clause-bytes
hear_copy-requires-clause-bytes c = subst AreShort c.in-Said.is c.requires.coming.short

pub hear_copy-requires-clause-spare : goal.hear_copy-requires-clause-spare
hear_copy-requires-clause-spare c = c.requires.stands.spare

pub hear_copy-requires-clause-whole : goal.hear_copy-requires-clause-whole
hear_copy-requires-clause-whole c = c.requires.stands.whole

pub returns-in-Frame-clause-answered : goal.returns-in-Frame-clause-answered
returns-in-Frame-clause-answered c =
    let a = c.args in
    answered a.files.now a.turn.now a.node.now c.hear_frame.new.node c.hear_frame.result a.coming.now.arrival (frame_at a.pool.now a.cell.now a.bytes) a.coming.now.bytes _ c.requires.coming.arrival c.in-Frame.is
    (c.hear_frame.ensures (frame_at a.pool.now a.cell.now a.bytes) c.requires.reception)

pub returns-in-Frame-clause-stays : goal.returns-in-Frame-clause-stays
returns-in-Frame-clause-stays c = stays-same c.args.pool.now

pub returns-in-Flipped-clause-answered : goal.returns-in-Flipped-clause-answered
returns-in-Flipped-clause-answered c =
    let a = c.args in
    answered a.files.now a.turn.now a.node.now c.hear_flipped.new.node c.hear_flipped.result a.coming.now.arrival (frame_at a.pool.now a.cell.now a.bytes) a.coming.now.bytes _ c.requires.coming.arrival c.in-Flipped.is c.hear_flipped.ensures.answered

pub returns-in-Flipped-clause-stays : goal.returns-in-Flipped-clause-stays
returns-in-Flipped-clause-stays c = c.hear_flipped.ensures.stays

pub returns-in-Said-clause-answered : goal.returns-in-Said-clause-answered
returns-in-Said-clause-answered c =
    let a = c.args in
    answered a.files.now a.turn.now a.node.now c.hear_copy.new.node c.hear_copy.result a.coming.now.arrival (frame_at a.pool.now a.cell.now a.bytes) a.coming.now.bytes _ c.requires.coming.arrival c.in-Said.is c.hear_copy.ensures.answered

pub returns-in-Said-clause-stays : goal.returns-in-Said-clause-stays
returns-in-Said-clause-stays c = c.hear_copy.ensures.stays
