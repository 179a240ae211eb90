use Rattle.std.proofs.Common.{ℕ, List, [], ◌∷◌, refl, subst, sym}
use Rattle.std.specs.Prelude.{codes}
use Rattle.fr_base.specs.declared.channel.Channel.{Channel}
use Rattle.fr_text.proofs.Commands.{refused_behind, stops_next}
use Rattle.fr_text.specs.Files.{Files, StopsIn, text}
use Rattle.fr_text.specs.Loading.{any_file, unread_text}
use Rattle.fr_text.specs.declared.told.Told.{Told}
use Rattle.fr_answer.specs.FrameAnswer.{IsFrameLine, IsNoFrameSaid, frame_files}
use Rattle.fr_answer.specs.FrameText.{fault_text}
use Rattle.fr_answer.proofs.frame.answer_frame.Goals as goal

abbrev end : Channel → List ℕ → Files
end channel bytes = text (IsFrameLine channel bytes) (IsNoFrameSaid channel bytes)

pub returns-clause-ends : goal.returns-clause-ends
returns-clause-ends g c =
    let said : IsNoFrameSaid c.args.channel c.deref.result.now (fault_text (codes "frame: ") c.in-Err.fault) =
    record { fault = c.in-Err.fault; no_frame = c.in-Err.ensures.only; first = c.in-Err.ensures.fault; shown = refl } in
    let items : List ℕ = c.in_ok-bytes.bytes.items in
    let P : List ℕ → Type 0 = λ bytes. IsNoFrameSaid c.args.channel bytes (fault_text (codes "frame: ") c.in-Err.fault) in
    let Q : Told → Type 0 = λ why. StopsIn (frame_files c.args.channel) [] (c.args.file.now ∷ []) (g.S.Shelf.state c.args.shelf.now) (g.S.Shelf.state c.loaded.new.shelf) why in
    subst Q (sym c.no_frame.ensures)
    (stops_next any_file (unread_text (codes "frame")) (end c.args.channel) c.args.file.now [] _ _ _ _ _ c.in_ok-bytes.ensures.later c.in_ok-bytes.ensures.accepted (refused_behind (IsFrameLine c.args.channel items) (IsNoFrameSaid c.args.channel items) [] _ _ (subst P c.deref.ensures.value said)))
