-- What was fed so far and what was put, and how the text goes on.
use Rattle.std.specs.Prelude.{All, codes}
use Rattle.std.specs.Fmt.{decimal}
use Rattle.std.proofs.Common.{◌≡◌, ℕ, zero, suc, ◌+◌, ◌-◌, ◌^◌, ◌≤◌, ◌<◌, List, [], ◌∷◌, ◌++◌, length, take, drop, Option, Some, None, Result, Ok, Err, refl, ap, sym, ◌∙◌, subst, inl, inr, ◌⊎◌, lit<, arith, length-append, length-drop, append_assoc, append-nil, take-append-drop}
use Rattle.std.specs.Result.{IsErr}
use Rattle.std.proofs.Math.Seq.{take-add, take-append_seam}
use Rattle.std.proofs.lemmas.List.{take-take, take_all, length-take-le}
use Rattle.fr_base.specs.Device.{IsEnded, Puts, Sunk}
use Rattle.fr_base.specs.declared.sink.PutFault.{PutFault}
use Rattle.fr_base.specs.declared.channel.Channel.{Channel}
use Rattle.fr_base.proofs.Putting.{cut, then}
use Rattle.fr_crc.specs.Computed.{frame_crc_of}
use Rattle.fr_crc.proofs.Existence.{a_header_crc, a_frame_crc}
use Rattle.fr_crc.proofs.Unique.{header_crc_is_one, frame_crc_is_one}
use Rattle.fr_crc.specs.Crc.{IsFrameCrc}
use Rattle.fr_frame.specs.declared.header.Header.{Header}
use Rattle.fr_frame.specs.Frame.{IsFrame, IsFrameWith, header_bytes}
use Rattle.fr_frame.specs.Reading.{body_from, crc_of}
use Rattle.fr_capture.specs.declared.fault.CaptureFault.{CaptureFault}
use Rattle.fr_capture.specs.declared.fault.CaptureFault.TheVariants as fault
use Rattle.fr_capture.specs.Frames.{AreFrames, AreFrom, Found}
use Rattle.fr_capture.specs.Rest.{ShowsFault, IsLasting, fault_in}
use Rattle.fr_capture.specs.View.{CaptureView, IsCompleted, IsEndOf, IsStopped, IsUnfinished, StandsFor, unread_bytes}
use Rattle.fr_capture.specs.Walk.{frames_in, why_no_frame}
use Rattle.fr_capture.proofs.Beginning.{fault_of_few, no_fault}
use Rattle.fr_capture.proofs.Filling.{nothing_begins, stopped_stays, whole_frames}
use Rattle.fr_capture.proofs.Standing.{frames_are, frames_are_one, front_of_frames, rest_begins_none, stand_more}
use Rattle.fr_capture.proofs.Walking.{frames_found}
use Rattle.fr_program.specs.Gathered.{Gathers, PutsOn}
use Rattle.fr_program.proofs.Gathering.{gathers_end, gathers_none, gathers_then}
use Rattle.fr_text.specs.Numerals.{hexadecimal}
use Rattle.fr_capture.specs.CaptureText.{PutsFrames, WasFed, capture_text, closed_by, closing_text, found_line, frames_text, fresh_capture, line_at, shown_text}

-- what a capture was fed of bytes so far, and what was put of their frames, or waits
pub record Going (channel : Channel) (capture : CaptureView) (bytes waits : List ℕ) (done count : ℕ) (before after : Sunk) : Type 0 where
  pub within : done ≤ length bytes
  pub same : capture.channel ≡ channel
  pub fed : List ℕ
  pub fed_is : fed ≡ take done bytes
  pub stands : StandsFor capture fed
  pub counted : count ≡ length stands.frames
  pub few : count ≤ done
  pub put : PutsOn [] waits before after (frames_text channel stands.frames)

-- the lines of some frames and of others after them
frames_text-append : (channel : Channel) (frames others : List Found) → frames_text channel (frames ++ others) ≡ frames_text channel frames ++ frames_text channel others
frames_text-append channel [] others = refl
frames_text-append channel (f ∷ frames) others =
    ap (λ (xs : List ℕ). found_line channel f ++ xs) (frames_text-append channel frames others) ∙ sym (append_assoc (found_line channel f) (frames_text channel frames) (frames_text channel others))

pub going_none : (channel : Channel) (capture : CaptureView) (bytes waits : List ℕ) (at : Sunk) → waits ≡ [] → capture ≡ fresh_capture channel → Going channel capture bytes waits 0 0 at at
going_none channel capture bytes waits at none is = subst (λ (c : CaptureView). Going channel c bytes waits 0 0 at at) (sym is) (record {
  within = omega arith;
  same = refl;
  fed = [];
  fed_is = refl;
  stands = record { frames = []; are = frames_are channel [] [] [] refl (nothing_begins channel); placed = refl };
  counted = refl;
  few = omega arith;
  put = subst (λ (l : List ℕ). PutsOn [] l at at []) (sym none) (gathers_none [] at);
})

-- the bytes that are used of the next piece
used_of : (bytes : List ℕ) (done end used : ℕ) → end ≤ length bytes → used ≤ length (take (end - done) (drop done bytes)) → done ≤ end →
    (take done bytes ++ take used (take (end - done) (drop done bytes)) ≡ take (done + used) bytes) × (done + used ≤ end)
used_of bytes done end used within few later =
    let left : length (drop done bytes) ≡ length bytes - done = length-drop done bytes in
    let long : length (take (end - done) (drop done bytes)) ≡ end - done = length-take-le (end - done) (drop done bytes) (omega arith) in (
      ap (λ (xs : List ℕ). take done bytes ++ xs) (take-take used (end - done) (drop done bytes) (omega arith)) ∙ sym (take-add done used bytes),
      omega arith,
    )

-- where no frame was completed, the frames are the same
pub still : (before after : CaptureView) (bytes taken : List ℕ) → (is : StandsFor before bytes) → (they : StandsFor after (bytes ++ taken)) → after.channel ≡ before.channel → unread_bytes after ≡ unread_bytes before ++ taken → they.frames ≡ is.frames
still before after bytes taken is they channel rest =
    let are : AreFrames before.channel (bytes ++ taken) they.frames (unread_bytes before ++ taken) =
    subst (λ (xs : List ℕ). AreFrames before.channel (bytes ++ taken) they.frames xs) rest (subst (λ (ch : Channel). AreFrames ch (bytes ++ taken) they.frames (unread_bytes after)) channel they.are) in
    let placed : after.place + length (unread_bytes before ++ taken) ≡ length (bytes ++ taken) = ap (λ (xs : List ℕ). after.place + length xs) (sym rest) ∙ they.placed in
    let mine : AreFrames before.channel (bytes ++ taken) is.frames (unread_bytes before ++ taken) =
    frames_are before.channel is.frames (bytes ++ taken) (unread_bytes before ++ taken) (stand_more before.channel 0 is.frames bytes (unread_bytes before) taken is.are.stand)
    (rest_begins_none before.channel (bytes ++ taken) (unread_bytes before ++ taken) they.frames after.place placed are) in
    (frames_are_one before.channel (bytes ++ taken) they.frames is.frames (unread_bytes before ++ taken) (unread_bytes before ++ taken) are mine).0

-- the frame that was completed
one_more : (before after : CaptureView) (bytes taken payload : List ℕ) (header : Header) → (is : StandsFor before bytes) → (they : StandsFor after (bytes ++ taken)) → after.channel ≡ before.channel →
    IsFrame before.channel header payload (unread_bytes before ++ taken) → they.frames ≡ is.frames ++ record { place = before.place; header = header; payload = payload } ∷ []
one_more before after bytes taken payload header is they channel frame =
    (frames_are_one before.channel (bytes ++ taken) they.frames _ (unread_bytes after) [] (subst (λ (ch : Channel). AreFrames ch (bytes ++ taken) they.frames (unread_bytes after)) channel they.are)
    (whole_frames before bytes taken payload header is frame)).0

-- the frame CRC of a frame is the one of its bytes
pub crc_is : (channel : Channel) (header : Header) (payload : List ℕ) (a b : ℕ) (bytes : List ℕ) → IsFrameWith channel header payload a b bytes → b ≡ frame_crc_of channel (body_from header payload)
crc_is channel h payload a b bytes is =
    let head : a ≡ crc_of h = header_crc_is_one h.sync h.startup h.id h.words a (crc_of h) is.header_right (a_header_crc h.sync h.startup h.id h.words) in
    let right : IsFrameCrc channel (body_from h payload) b = subst (λ (crc : ℕ). IsFrameCrc channel (header_bytes h crc ++ payload) b) head is.frame_right in
    frame_crc_is_one channel (body_from h payload) b (frame_crc_of channel (body_from h payload)) right (a_frame_crc channel (body_from h payload))

-- the bytes of the next piece
abbrev pub piece_of : List ℕ → ℕ → ℕ → List ℕ
piece_of bytes done end = take (end - done) (drop done bytes)

pub piece-length : (bytes : List ℕ) (done end : ℕ) → done < end → end ≤ length bytes → 0 < length (piece_of bytes done end)
piece-length bytes done end later within =
    let left : length (drop done bytes) ≡ length bytes - done = length-drop done bytes in
    let long : length (piece_of bytes done end) ≡ end - done = length-take-le (end - done) (drop done bytes) (omega arith) in
    omega (arith, long)

-- it was fed, and no frame was completed
pub going_on : {waits : List ℕ} (channel : Channel) (capture after : CaptureView) (bytes : List ℕ) (done end count used : ℕ) (a b : Sunk) → (going : Going channel capture bytes waits done count a b) → done ≤ end → end ≤ length bytes →
    used ≤ length (piece_of bytes done end) → ((bs : List ℕ) → StandsFor capture bs → StandsFor after (bs ++ take used (piece_of bytes done end))) → after.channel ≡ capture.channel →
    IsUnfinished capture after (piece_of bytes done end) used → Going channel after bytes waits (done + used) count a b
going_on {waits = waits} channel capture after bytes done end count used a b going later within few goes_on same unfinished =
    let taken : List ℕ = take used (piece_of bytes done end) in
    let they : StandsFor after (going.fed ++ taken) = goes_on going.fed going.stands in
    let part = used_of bytes done end used within few later in
    let frames : they.frames ≡ going.stands.frames = still capture after going.fed taken going.stands they same unfinished.kept in
    record {
      within = omega (arith, part.1, within);
      same = same ∙ going.same;
      fed = going.fed ++ taken;
      fed_is = ap (λ (xs : List ℕ). xs ++ taken) going.fed_is ∙ part.0;
      stands = they;
      counted = going.counted ∙ ap length (sym frames);
      few = omega (arith, going.few);
      put = subst (λ (fs : List Found). PutsOn [] waits a b (frames_text channel fs)) (sym frames) going.put;
    }

-- the text of one frame more
one_line_more : (channel : Channel) (frames others : List Found) (found : Found) (line : List ℕ) → others ≡ frames ++ found ∷ [] → line ≡ found_line channel found → frames_text channel others ≡ frames_text channel frames ++ line
one_line_more channel frames others found line is shown =
    ap (frames_text channel) is
    ∙ frames_text-append channel frames (found ∷ [])
    ∙ ap (λ (xs : List ℕ). frames_text channel frames ++ xs) (append-nil (found_line channel found) ∙ sym shown)

-- what is known where a frame was completed
pub record OneMore (channel : Channel) (capture after : CaptureView) (bytes fed line : List ℕ) (frames : List Found) (done : ℕ) : Type 0 where
  pub within : done ≤ length bytes
  pub same : after.channel ≡ channel
  pub fed_is : fed ≡ take done bytes
  pub stands : StandsFor after fed
  pub long : length stands.frames ≡ length frames + 1
  pub text : frames_text channel stands.frames ≡ frames_text channel frames ++ line

pub completed : {waits : List ℕ} (channel : Channel) (capture after : CaptureView) (bytes : List ℕ) (done end count used place : ℕ) (a b : Sunk) → (going : Going channel capture bytes waits done count a b) → done ≤ end → end ≤ length bytes →
    used ≤ length (piece_of bytes done end) → ((bs : List ℕ) → StandsFor capture bs → StandsFor after (bs ++ take used (piece_of bytes done end))) → after.channel ≡ capture.channel →
    IsCompleted capture after (take used (piece_of bytes done end)) place → (header : Header) (payload : List ℕ) (header_crc crc : ℕ) → IsFrameWith after.channel header payload header_crc crc after.kept →
    OneMore channel capture after bytes (going.fed ++ take used (piece_of bytes done end)) (line_at place header crc) going.stands.frames (done + used)
completed channel capture after bytes done end count used place a b going later within few goes_on same whole header payload header_crc crc frame =
    let taken : List ℕ = take used (piece_of bytes done end) in
    let they : StandsFor after (going.fed ++ taken) = goes_on going.fed going.stands in
    let part = used_of bytes done end used within few later in
    let found : Found = record { place = capture.place; header = header; payload = payload } in
    let on_channel : IsFrameWith capture.channel header payload header_crc crc after.kept = subst (λ (ch : Channel). IsFrameWith ch header payload header_crc crc after.kept) same frame in
    let there : IsFrameWith capture.channel header payload header_crc crc (unread_bytes capture ++ taken) = subst (λ (xs : List ℕ). IsFrameWith capture.channel header payload header_crc crc xs) whole.kept on_channel in
    let frames : they.frames ≡ going.stands.frames ++ found ∷ [] = one_more capture after going.fed taken payload header going.stands they same (header_crc, (crc, there)) in
    let told : crc ≡ frame_crc_of channel (body_from header payload) =
    crc_is capture.channel header payload header_crc crc (unread_bytes capture ++ taken) there ∙ ap (λ (ch : Channel). frame_crc_of ch (body_from header payload)) going.same in
    let shown : line_at place header crc ≡ found_line channel found =
    ap (λ (n : ℕ). line_at n header crc) whole.at ∙ ap (λ (n : ℕ). line_at capture.place header n) told in
    record {
      within = omega (arith, part.1, within);
      same = same ∙ going.same;
      fed_is = ap (λ (xs : List ℕ). xs ++ taken) going.fed_is ∙ part.0;
      stands = they;
      long = ap length frames ∙ length-append going.stands.frames (found ∷ []);
      text = one_line_more channel going.stands.frames they.frames found (line_at place header crc) frames shown;
    }

-- a byte was used where a frame was completed
pub completed_moves : (capture after : CaptureView) (piece : List ℕ) (used place : ℕ) → IsCompleted capture after (take used piece) place → (header : Header) (payload : List ℕ) (header_crc crc : ℕ) →
    IsFrameWith after.channel header payload header_crc crc after.kept → after.channel ≡ capture.channel → (1 ≤ used) ⊎ ShowsFault capture.channel (unread_bytes capture) → 1 ≤ used
completed_moves capture after piece (suc used) place whole header payload header_crc crc frame same moves = omega arith
completed_moves capture after piece zero place whole header payload header_crc crc frame same (inl some) = some
completed_moves capture after piece zero place whole header payload header_crc crc frame same (inr shows) =
    let kept : after.kept ≡ unread_bytes capture = whole.kept ∙ append-nil (unread_bytes capture) in
    let there : IsFrame capture.channel header payload (unread_bytes capture) =
    (header_crc, (crc, subst (λ (ch : Channel). IsFrameWith ch header payload header_crc crc (unread_bytes capture)) same (subst (λ (xs : List ℕ). IsFrameWith after.channel header payload header_crc crc xs) kept frame))) in
    let none : fault_in capture.channel (unread_bytes capture) ≡ None = ap (fault_in capture.channel) (sym (append-nil (unread_bytes capture))) ∙ no_fault capture.channel header payload (unread_bytes capture) [] there in
    let both : Some shows.fault ≡ None = sym shows.shown ∙ none in
    absurd cc

-- its line was put
pub going_more : {v w : List ℕ} (channel : Channel) (capture after : CaptureView) (bytes fed line : List ℕ) (frames : List Found) (done next count : ℕ) (a b c : Sunk) → OneMore channel capture after bytes fed line frames next →
    count ≡ length frames → count ≤ done → done + 1 ≤ next → PutsOn [] v a b (frames_text channel frames) → Gathers (Ok tt) v w b c line → Going channel after bytes w next (count + 1) a c
going_more {w = w} channel capture after bytes fed line frames done next count a b c more counted few later so_far put = record {
  within = more.within;
  same = more.same;
  fed = fed;
  fed_is = more.fed_is;
  stands = more.stands;
  counted = omega (arith, counted, more.long);
  few = omega arith;
  put = subst (λ (text : List ℕ). PutsOn [] w a c text) (sym more.text) (gathers_then (Ok tt) so_far put).whole;
}

-- the line of a frame ends with a line feed
pub ended_at : (place : ℕ) (h : Header) (crc : ℕ) → IsEnded (line_at place h crc)
ended_at place h crc = record {
  front = codes "at " ++ decimal place ++ codes " id " ++ decimal h.id ++ codes " words " ++ decimal h.words ++ codes " cycle " ++ decimal h.cycle ++ codes " crc " ++ hexadecimal 6 crc;
  ended = refl;
}

-- ---- the whole text
pub whole_text : (channel : Channel) (bytes rest : List ℕ) (frames : List Found) → All (λ b. b < 2 ^ 8) bytes → AreFrames channel bytes frames rest → capture_text channel bytes ≡ shown_text channel bytes frames rest
whole_text channel bytes rest frames small are =
    let same = frames_are_one channel bytes (frames_in channel bytes).frames frames (frames_in channel bytes).rest rest (frames_found channel bytes small) are in
    ap (λ (fs : List Found). shown_text channel bytes fs (frames_in channel bytes).rest) same.0 ∙ ap (λ (xs : List ℕ). shown_text channel bytes frames xs) same.1

-- the text begins with the lines of the frames so far
begins_text : (channel : Channel) (capture : CaptureView) (bytes fed : List ℕ) (done : ℕ) → All (λ b. b < 2 ^ 8) bytes → capture.channel ≡ channel → fed ≡ take done bytes → (stands : StandsFor capture fed) →
    (more : List ℕ) × (capture_text channel bytes ≡ frames_text channel stands.frames ++ more)
begins_text channel capture bytes fed done small same fed_is stands =
    let all = frames_in channel bytes in
    let found : AreFrames channel bytes all.frames all.rest = frames_found channel bytes small in
    let are : AreFrames channel fed stands.frames (unread_bytes capture) = subst (λ (ch : Channel). AreFrames ch fed stands.frames (unread_bytes capture)) same stands.are in
    let joined : fed ++ drop done bytes ≡ bytes = ap (λ (xs : List ℕ). xs ++ drop done bytes) fed_is ∙ take-append-drop done bytes in
    let stand = subst (λ (xs : List ℕ). AreFrom channel 0 stands.frames xs (unread_bytes capture ++ drop done bytes)) joined (stand_more channel 0 stands.frames fed (unread_bytes capture) (drop done bytes) are.stand) in
    let part = front_of_frames channel 0 stands.frames all.frames bytes (unread_bytes capture ++ drop done bytes) all.rest (found.longest stands.frames (unread_bytes capture ++ drop done bytes) stand) stand found.stand in
    let end : List ℕ = closing_text (length all.frames) (closed_by (length bytes - length all.rest) (why_no_frame channel all.rest)) in (
      frames_text channel part.0 ++ end,
      ap (λ (fs : List Found). frames_text channel fs ++ end) part.1
          ∙ ap (λ (xs : List ℕ). xs ++ end) (frames_text-append channel stands.frames part.0)
          ∙ append_assoc (frames_text channel stands.frames) (frames_text channel part.0) end,
    )

-- a put failed
pub going_cut : {v w : List ℕ} (channel : Channel) (capture after : CaptureView) (bytes fed line : List ℕ) (frames : List Found) (next : ℕ) (a b c : Sunk) (why : PutFault) (result : Result ℕ PutFault) → All (λ b. b < 2 ^ 8) bytes →
    OneMore channel capture after bytes fed line frames next → PutsOn [] v a b (frames_text channel frames) → Gathers (Err why) v w b c line → IsErr result → PutsFrames after channel bytes w a c result
going_cut channel capture after bytes fed line frames next a b c why (Ok count) small more so_far put is = absurd cc
going_cut channel capture after bytes fed line frames next a b c why (Err other) small more so_far put is =
    let whole = begins_text channel after bytes fed next small more.same more.fed_is more.stands in
    let text : capture_text channel bytes ≡ (frames_text channel frames ++ line) ++ whole.0 = whole.1 ∙ ap (λ (xs : List ℕ). xs ++ whole.0) more.text in
    let failed : Puts (Err why) a c (frames_text channel frames ++ line) = (gathers_then (Err why) so_far put).failed in
    subst (λ (xs : List ℕ). Puts (Err other) a c xs) (sym text) (cut (Err other) whole.0 failed refl)

-- all was fed
pub going_over : {waits : List ℕ} (channel : Channel) (capture : CaptureView) (bytes : List ℕ) (done count : ℕ) (a b : Sunk) → (going : Going channel capture bytes waits done count a b) → length bytes ≤ done → WasFed channel capture bytes waits a b count
going_over channel capture bytes done count a b going all = record {
  same = going.same;
  fed = going.fed;
  behind = [];
  cut = sym (append-nil going.fed ∙ going.fed_is ∙ take_all done bytes all);
  stands = going.stands;
  over = inl refl;
  counted = going.counted;
  put = going.put;
}

-- a fault is shown
pub going_shown : {waits : List ℕ} (channel : Channel) (before capture : CaptureView) (bytes : List ℕ) (done end used count : ℕ) (a b : Sunk) → (going : Going channel capture bytes waits (done + used) count a b) → done ≤ end → end ≤ length bytes → done + used < end →
    IsUnfinished before capture (piece_of bytes done end) used → WasFed channel capture bytes waits a b count
going_shown channel before capture bytes done end used count a b going later within less unfinished = record {
  same = going.same;
  fed = going.fed;
  behind = drop (done + used) bytes;
  cut = sym (ap (λ (xs : List ℕ). xs ++ drop (done + used) bytes) going.fed_is ∙ take-append-drop (done + used) bytes);
  stands = going.stands;
  over = shows unfinished.why;
  counted = going.counted;
  put = going.put;
}
  where
    shows : (used ≡ length (piece_of bytes done end)) ⊎ ShowsFault capture.channel (unread_bytes capture) → (drop (done + used) bytes ≡ []) ⊎ ShowsFault capture.channel (unread_bytes capture)
    shows (inr shown) = inr shown
    shows (inl all) =
        let left : length (drop done bytes) ≡ length bytes - done = length-drop done bytes in
        let long : length (piece_of bytes done end) ≡ end - done = length-take-le (end - done) (drop done bytes) (omega arith) in
        absurd (omega (arith, all, long, less, later))

-- ---- how it ends
mended : (channel : Channel) (told : CaptureFault) → fault_in channel [] ≡ Some told → IsLasting told → ⊥
mended channel told is lasting =
    let few : fault_in channel [] ≡ Some (fault.Cut 8 0) = fault_of_few channel [] (lit< tt) in
    let same : fault.Cut 8 0 ≡ told = cc in
    subst IsLasting (sym same) lasting

stopped_text : (channel : Channel) (bytes : List ℕ) (place : ℕ) (told : CaptureFault) → All (λ b. b < 2 ^ 8) bytes → (s : IsStopped channel bytes place told) →
    capture_text channel bytes ≡ frames_text channel s.frames ++ closing_text (length s.frames) (Err (place, told))
stopped_text channel bytes place told small s =
    whole_text channel bytes s.rest s.frames small s.are
    ∙ ap (λ (o : Option CaptureFault). frames_text channel s.frames ++ closing_text (length s.frames) (closed_by (length bytes - length s.rest) o)) (reason_is s.rest s.some s.first)
    ∙ ap (λ (n : ℕ). frames_text channel s.frames ++ closing_text (length s.frames) (Err (n, told))) (omega (arith, s.placed))
  where
    reason_is : (xs : List ℕ) → 1 ≤ length xs → fault_in channel xs ≡ Some told → why_no_frame channel xs ≡ Some told
    reason_is [] some is = absurd (omega arith)
    reason_is (x ∷ xs) some is = is

whole_is_text : (channel : Channel) (bytes : List ℕ) (frames : List Found) → All (λ b. b < 2 ^ 8) bytes → AreFrames channel bytes frames [] →
    capture_text channel bytes ≡ frames_text channel frames ++ closing_text (length frames) (Ok (length bytes))
whole_is_text channel bytes frames small are =
    whole_text channel bytes [] frames small are ∙ ap (λ (n : ℕ). frames_text channel frames ++ closing_text (length frames) (Ok n)) (omega arith)

-- a stop of the same bytes
here : (channel : Channel) (fed bytes : List ℕ) (place : ℕ) (told : CaptureFault) → (s : IsStopped channel fed place told) → bytes ≡ fed → (t : IsStopped channel bytes place told) × (t.frames ≡ s.frames)
here channel fed bytes place told s all = subst (λ (xs : List ℕ). (t : IsStopped channel xs place told) × (t.frames ≡ s.frames)) (sym all) (s, refl)

-- a stop before others
there : (channel : Channel) (fed behind bytes rest : List ℕ) (place : ℕ) (told : CaptureFault) → (s : IsStopped channel fed place told) → bytes ≡ fed ++ behind → (shown : ShowsFault channel rest) → s.rest ≡ rest →
    (t : IsStopped channel bytes place told) × (t.frames ≡ s.frames)
there channel fed behind bytes rest place told s cut shown same =
    let both : Some shown.fault ≡ Some told = sym shown.shown ∙ ap (fault_in channel) (sym same) ∙ s.first in
    let one : shown.fault ≡ told = cc in
    subst (λ (xs : List ℕ). (t : IsStopped channel xs place told) × (t.frames ≡ s.frames)) (sym cut) (stopped_stays channel fed behind place told s (subst IsLasting one shown.lasting))

-- the capture was fed, and its end is told: this is the text
pub closes : {waits : List ℕ} (channel : Channel) (capture : CaptureView) (bytes : List ℕ) (a b : Sunk) (count : ℕ) (end : Result ℕ (ℕ × CaptureFault)) → All (λ b. b < 2 ^ 8) bytes → (fed : WasFed channel capture bytes waits a b count) →
    ((bs : List ℕ) → StandsFor capture bs → IsEndOf capture.channel bs end) → capture_text channel bytes ≡ frames_text channel fed.stands.frames ++ closing_text count end
closes channel capture bytes a b count end small fed ends =
    subst (λ (ch : Channel). capture_text ch bytes ≡ frames_text ch fed.stands.frames ++ closing_text count end) fed.same
    (closed end (ends fed.fed fed.stands) ∙ ap (λ (n : ℕ). frames_text capture.channel fed.stands.frames ++ closing_text n end) (sym fed.counted))
  where
    closed : (e : Result ℕ (ℕ × CaptureFault)) → IsEndOf capture.channel fed.fed e → capture_text capture.channel bytes ≡ frames_text capture.channel fed.stands.frames ++ closing_text (length fed.stands.frames) e
    closed (Ok n) w =
        let same = frames_are_one capture.channel fed.fed fed.stands.frames w.frames (unread_bytes capture) [] fed.stands.are w.are in
        let none : fed.behind ≡ [] = elim fed.over [
          | inl over ↦ over
          | inr shown ↦ absurd (mended capture.channel shown.fault (ap (fault_in capture.channel) (sym same.1) ∙ shown.shown) shown.lasting)
        ] in
        let all : bytes ≡ fed.fed = fed.cut ∙ ap (λ (xs : List ℕ). fed.fed ++ xs) none ∙ append-nil fed.fed in
        let are : AreFrames capture.channel bytes fed.stands.frames [] =
        subst (λ (xs : List ℕ). AreFrames capture.channel xs fed.stands.frames []) (sym all) (subst (λ (xs : List ℕ). AreFrames capture.channel fed.fed fed.stands.frames xs) same.1 fed.stands.are) in
        whole_is_text capture.channel bytes fed.stands.frames small are
        ∙ ap (λ (k : ℕ). frames_text capture.channel fed.stands.frames ++ closing_text (length fed.stands.frames) (Ok k)) (ap length all ∙ sym w.counted)
    closed (Err stop) s =
        let same = frames_are_one capture.channel fed.fed s.frames fed.stands.frames s.rest (unread_bytes capture) s.are fed.stands.are in
        let told : (t : IsStopped capture.channel bytes stop.0 stop.1) × (t.frames ≡ s.frames) = elim fed.over [
          | inl over ↦ here capture.channel fed.fed bytes stop.0 stop.1 s (fed.cut ∙ ap (λ (xs : List ℕ). fed.fed ++ xs) over ∙ append-nil fed.fed)
          | inr shown ↦ there capture.channel fed.fed fed.behind bytes (unread_bytes capture) stop.0 stop.1 s fed.cut shown same.1
        ] in
        stopped_text capture.channel bytes stop.0 stop.1 small told.0
        ∙ ap (λ (fs : List Found). frames_text capture.channel fs ++ closing_text (length fs) (Err stop)) (told.1 ∙ same.0)

-- what waited was put, and the last lines were, too
pub printed : {waits : List ℕ} (channel : Channel) (capture : CaptureView) (bytes : List ℕ) (a b m c : Sunk) (count : ℕ) (end : Result ℕ (ℕ × CaptureFault)) (result : Result (Unit {0}) PutFault) → All (λ b. b < 2 ^ 8) bytes → (fed : WasFed channel capture bytes waits a b count) →
    ((bs : List ℕ) → StandsFor capture bs → IsEndOf capture.channel bs end) → Puts (Ok tt) b m waits → Puts result m c (closing_text count end) → Puts result a c (capture_text channel bytes)
printed channel capture bytes a b m c count end result small fed ends put last =
    subst (λ (text : List ℕ). Puts result a c text) (sym (closes channel capture bytes a b count end small fed ends)) (then result (gathers_end (Ok tt) fed.put put) last)

-- what waited was not put whole
pub unprinted : {waits : List ℕ} {fault : PutFault} (channel : Channel) (capture : CaptureView) (bytes : List ℕ) (a b c : Sunk) (count : ℕ) (result : Result (Unit {0}) PutFault) → All (λ b. b < 2 ^ 8) bytes → (fed : WasFed channel capture bytes waits a b count) →
    Puts (Err fault) b c waits → IsErr result → Puts result a c (capture_text channel bytes)
unprinted {fault = fault} channel capture bytes a b c count result small fed put is =
    let taken : fed.fed ≡ take (length fed.fed) bytes = sym (ap (take (length fed.fed)) fed.cut ∙ take-append_seam fed.fed fed.behind) in
    let whole = begins_text channel capture bytes fed.fed (length fed.fed) small fed.same taken fed.stands in
    subst (λ (xs : List ℕ). Puts result a c xs) (sym whole.1) (cut result whole.0 (gathers_end (Err fault) fed.put put) is)
