use Rattle.std.specs.Prelude.{IfSome}
use Rattle.std.proofs.Common.{◌≡◌, ℕ, ◌+◌, ◌^◌, ◌<◌, ◌≤◌, ◌∙◌, ◌++◌, length, take, Option, subst, sym, arith}
use Rattle.std.proofs.lemmas.List.Elements.{All-from_get_or}
use Rattle.fr_base.specs.Device.{IsEnded}
use Rattle.fr_capture.specs.View.{IsCompleted}
use Rattle.fr_capture.specs.CaptureText.{line_at}
use Rattle.fr_capture.proofs.Going.{OneMore, completed, completed_moves, ended_at, going_cut, going_more, going_none, going_on, going_over, going_shown, piece-length, piece_of}
use Rattle.fr_capture.proofs.feeding.put_frames.Goals as goal

pub loop-done-init : goal.loop-done-init
loop-done-init g c = going_none c.args.capture.now.channel c.args.capture.now c.args.bytes.now c.args.waiting.now.bytes (g.O.Sink.state c.args.out.now) c.requires.none c.requires.fresh

pub add-requires : goal.add-requires
add-requires g c = subst IsEnded (sym (c.bytes.ensures ∙ c.frame_line.ensures)) (ended_at c.in-Some.place c.frame.result.header c.frame.result.frame_crc)

pub returns-in_err-add-in-Some : goal.returns-in_err-add-in-Some
returns-in_err-add-in-Some g c =
    let whole : IsCompleted c.loop-done.capture c.feed-fed.new.self (take c.feed-fed.result.used (piece_of c.args.bytes.now c.loop-done.done c.piece_end-end.result)) c.in-Some.place = subst (λ (at : Option ℕ). IfSome at (IsCompleted c.loop-done.capture c.feed-fed.new.self (take c.feed-fed.result.used (piece_of c.args.bytes.now c.loop-done.done c.piece_end-end.result)))) c.in-Some.is c.feed-fed.ensures.found in
    let more : OneMore c.args.capture.now.channel c.loop-done.capture c.feed-fed.new.self c.args.bytes.now (c.loop-done.invariant.fed ++ take c.feed-fed.result.used (piece_of c.args.bytes.now c.loop-done.done c.piece_end-end.result)) (line_at c.in-Some.place c.frame.result.header c.frame.result.frame_crc) c.loop-done.invariant.stands.frames (c.loop-done.done + c.feed-fed.result.used) = completed c.args.capture.now.channel c.loop-done.capture c.feed-fed.new.self c.args.bytes.now c.loop-done.done c.piece_end-end.result c.loop-done.count c.feed-fed.result.used c.in-Some.place (g.O.Sink.state c.args.out.now) (g.O.Sink.state c.loop-done.out) c.loop-done.invariant (omega (arith, c.piece_end-end.ensures.later)) c.piece_end-end.ensures.within c.feed-fed.ensures.used.0 c.feed-fed.ensures.goes_on c.feed-fed.ensures.channel whole c.frame.result.header c.frame.result.payload.now c.frame.result.header_crc c.frame.result.frame_crc c.frame.ensures in
    let text : c.bytes.result.now ≡ (line_at c.in-Some.place c.frame.result.header c.frame.result.frame_crc) = c.bytes.ensures ∙ c.frame_line.ensures in
    going_cut c.args.capture.now.channel c.loop-done.capture c.feed-fed.new.self c.args.bytes.now (c.loop-done.invariant.fed ++ take c.feed-fed.result.used (piece_of c.args.bytes.now c.loop-done.done c.piece_end-end.result)) (line_at c.in-Some.place c.frame.result.header c.frame.result.frame_crc) c.loop-done.invariant.stands.frames (c.loop-done.done + c.feed-fed.result.used)
    (g.O.Sink.state c.args.out.now) (g.O.Sink.state c.loop-done.out) (g.O.Sink.state c.add.new.out) _ c.from_residual.result (All-from_get_or (λ b. b < 2 ^ 8) c.args.bytes.now 0 (λ i below. omega (arith, c.type_inv.bytes i))) more c.loop-done.invariant.put (rw text at c.in_err-add-in-Some.ensures) c.from_residual.ensures.0

pub overflow_add-count : goal.overflow_add-count
overflow_add-count g c =
    omega (arith, c.loop-done.invariant.few, c.loop-done.invariant.within, c.requires.room)

pub loop-done-smaller-in-Some : goal.loop-done-smaller-in-Some
loop-done-smaller-in-Some g c =
    let whole : IsCompleted c.loop-done.capture c.feed-fed.new.self (take c.feed-fed.result.used (piece_of c.args.bytes.now c.loop-done.done c.piece_end-end.result)) c.in-Some.place = subst (λ (at : Option ℕ). IfSome at (IsCompleted c.loop-done.capture c.feed-fed.new.self (take c.feed-fed.result.used (piece_of c.args.bytes.now c.loop-done.done c.piece_end-end.result)))) c.in-Some.is c.feed-fed.ensures.found in
    let some : 0 < length (piece_of c.args.bytes.now c.loop-done.done c.piece_end-end.result) = piece-length c.args.bytes.now c.loop-done.done c.piece_end-end.result c.piece_end-end.ensures.later c.piece_end-end.ensures.within in
    let used : 1 ≤ c.feed-fed.result.used = completed_moves c.loop-done.capture c.feed-fed.new.self (piece_of c.args.bytes.now c.loop-done.done c.piece_end-end.result) c.feed-fed.result.used c.in-Some.place whole c.frame.result.header c.frame.result.payload.now c.frame.result.header_crc c.frame.result.frame_crc c.frame.ensures c.feed-fed.ensures.channel (c.feed-fed.ensures.moves some) in
    omega (arith, used, c.loop-done-test.true)

pub loop-done-preserved-in-Some : goal.loop-done-preserved-in-Some
loop-done-preserved-in-Some g c =
    let whole : IsCompleted c.loop-done.capture c.feed-fed.new.self (take c.feed-fed.result.used (piece_of c.args.bytes.now c.loop-done.done c.piece_end-end.result)) c.in-Some.place = subst (λ (at : Option ℕ). IfSome at (IsCompleted c.loop-done.capture c.feed-fed.new.self (take c.feed-fed.result.used (piece_of c.args.bytes.now c.loop-done.done c.piece_end-end.result)))) c.in-Some.is c.feed-fed.ensures.found in
    let some : 0 < length (piece_of c.args.bytes.now c.loop-done.done c.piece_end-end.result) = piece-length c.args.bytes.now c.loop-done.done c.piece_end-end.result c.piece_end-end.ensures.later c.piece_end-end.ensures.within in
    let used : 1 ≤ c.feed-fed.result.used = completed_moves c.loop-done.capture c.feed-fed.new.self (piece_of c.args.bytes.now c.loop-done.done c.piece_end-end.result) c.feed-fed.result.used c.in-Some.place whole c.frame.result.header c.frame.result.payload.now c.frame.result.header_crc c.frame.result.frame_crc c.frame.ensures c.feed-fed.ensures.channel (c.feed-fed.ensures.moves some) in
    let more : OneMore c.args.capture.now.channel c.loop-done.capture c.feed-fed.new.self c.args.bytes.now (c.loop-done.invariant.fed ++ take c.feed-fed.result.used (piece_of c.args.bytes.now c.loop-done.done c.piece_end-end.result)) (line_at c.in-Some.place c.frame.result.header c.frame.result.frame_crc) c.loop-done.invariant.stands.frames (c.loop-done.done + c.feed-fed.result.used) = completed c.args.capture.now.channel c.loop-done.capture c.feed-fed.new.self c.args.bytes.now c.loop-done.done c.piece_end-end.result c.loop-done.count c.feed-fed.result.used c.in-Some.place (g.O.Sink.state c.args.out.now) (g.O.Sink.state c.loop-done.out) c.loop-done.invariant (omega (arith, c.piece_end-end.ensures.later)) c.piece_end-end.ensures.within c.feed-fed.ensures.used.0 c.feed-fed.ensures.goes_on c.feed-fed.ensures.channel whole c.frame.result.header c.frame.result.payload.now c.frame.result.header_crc c.frame.result.frame_crc c.frame.ensures in
    let text : c.bytes.result.now ≡ (line_at c.in-Some.place c.frame.result.header c.frame.result.frame_crc) = c.bytes.ensures ∙ c.frame_line.ensures in
    going_more c.args.capture.now.channel c.loop-done.capture c.feed-fed.new.self c.args.bytes.now (c.loop-done.invariant.fed ++ take c.feed-fed.result.used (piece_of c.args.bytes.now c.loop-done.done c.piece_end-end.result)) (line_at c.in-Some.place c.frame.result.header c.frame.result.frame_crc) c.loop-done.invariant.stands.frames c.loop-done.done (c.loop-done.done + c.feed-fed.result.used) c.loop-done.count
    (g.O.Sink.state c.args.out.now) (g.O.Sink.state c.loop-done.out) (g.O.Sink.state c.add.new.out) more c.loop-done.invariant.counted c.loop-done.invariant.few (omega (arith, used)) c.loop-done.invariant.put (rw text at c.in_ok-add-in-Some.ensures)

pub returns-then-done-end : goal.returns-then-done-end
returns-then-done-end g c =
    going_shown c.args.capture.now.channel c.loop-done.capture c.feed-fed.new.self c.args.bytes.now c.loop-done.done c.piece_end-end.result c.feed-fed.result.used c.loop-done.count (g.O.Sink.state c.args.out.now) (g.O.Sink.state c.loop-done.out)
    (going_on c.args.capture.now.channel c.loop-done.capture c.feed-fed.new.self c.args.bytes.now c.loop-done.done c.piece_end-end.result c.loop-done.count c.feed-fed.result.used (g.O.Sink.state c.args.out.now) (g.O.Sink.state c.loop-done.out) c.loop-done.invariant (omega (arith, c.piece_end-end.ensures.later)) c.piece_end-end.ensures.within c.feed-fed.ensures.used.0 c.feed-fed.ensures.goes_on c.feed-fed.ensures.channel (c.feed-fed.ensures.none c.in-None.is))
    (omega (arith, c.piece_end-end.ensures.later)) c.piece_end-end.ensures.within c.if-done-end.true (c.feed-fed.ensures.none c.in-None.is)

pub loop-done-smaller : goal.loop-done-smaller
loop-done-smaller g c = omega (arith, c.if-done-end.false, c.piece_end-end.ensures.later, c.loop-done-test.true)

pub loop-done-preserved : goal.loop-done-preserved
loop-done-preserved g c =
    going_on c.args.capture.now.channel c.loop-done.capture c.feed-fed.new.self c.args.bytes.now c.loop-done.done c.piece_end-end.result c.loop-done.count c.feed-fed.result.used (g.O.Sink.state c.args.out.now) (g.O.Sink.state c.loop-done.out) c.loop-done.invariant (omega (arith, c.piece_end-end.ensures.later)) c.piece_end-end.ensures.within c.feed-fed.ensures.used.0 c.feed-fed.ensures.goes_on c.feed-fed.ensures.channel (c.feed-fed.ensures.none c.in-None.is)

pub returns : goal.returns
returns g c = going_over c.args.capture.now.channel c.loop-done.capture c.args.bytes.now c.loop-done.done c.loop-done.count (g.O.Sink.state c.args.out.now) (g.O.Sink.state c.loop-done.out) c.loop-done.invariant c.loop-done-test.false
