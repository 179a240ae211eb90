-- What a feed makes of the bytes that a capture stands for.
use Rattle.std.specs.Prelude.{IfSome}
use Rattle.std.proofs.lemmas.List.{length-take-le}
use Rattle.std.proofs.Common.{◌≡◌, ℕ, ◌+◌, ◌*◌, ◌≤◌, ◌<◌, List, [], ◌∷◌, ◌++◌, length, take, zero, suc, ◌⊎◌, Option, Some, None, refl, ap, sym, ◌∙◌, subst, inl, inr, arith, length-append, append-nil}
use Rattle.fr_base.specs.declared.channel.Channel.{Channel}
use Rattle.fr_frame.specs.declared.header.Header.{Header}
use Rattle.fr_frame.specs.Frame.{IsFrame}
use Rattle.fr_frame.specs.Reading.{payload_in}
use Rattle.fr_frame.proofs.Exact.{lengths_fit}
use Rattle.fr_capture.specs.declared.fault.CaptureFault.{CaptureFault}
use Rattle.fr_capture.specs.declared.reading.Checks.{Checks}
use Rattle.fr_capture.specs.Frames.{AreFrames, Found}
use Rattle.fr_capture.specs.Rest.{IsLasting, ShowsFault, fault_in, wanted}
use Rattle.fr_capture.specs.View.{CaptureView, HasFault, IsCapture, IsChecked, IsCompleted, IsOpen, IsStopped, IsUnfinished, StandsFor, rest_after, unread_bytes}
use Rattle.fr_capture.proofs.Beginning.{no_fault, none_begins, none_opened, shown, shows_full, stays, wanted_more}
use Rattle.fr_capture.proofs.Standing.{frames_are, frames_are_one, stand_more, stand_one}

-- no frame begins no bytes
pub nothing_begins : (channel : Channel) (h : Header) (payload front behind : List ℕ) → IsFrame channel h payload front → [] ≡ front ++ behind → ⊥
nothing_begins channel h payload front behind is cut =
    let long : 0 ≡ length front + length behind = ap length cut ∙ length-append front behind in
    let n : length front ≡ 8 + 2 * h.words = (lengths_fit channel h payload front is).0 in
    omega (arith, long, n)

-- the bytes behind the last frame are still no frame
pub goes_open : (before after : CaptureView) (bytes taken : List ℕ) → StandsFor before bytes → after.channel ≡ before.channel → after.place ≡ before.place → unread_bytes after ≡ unread_bytes before ++ taken →
    IsOpen before.channel (unread_bytes before ++ taken) → StandsFor after (bytes ++ taken)
goes_open before after bytes taken is channel place kept opened =
    let all : List ℕ = unread_bytes before ++ taken in
    let are : AreFrames before.channel (bytes ++ taken) is.frames all =
    frames_are before.channel is.frames (bytes ++ taken) all (stand_more before.channel 0 is.frames bytes (unread_bytes before) taken is.are.stand) (none_begins before.channel all opened) in
    let P : List ℕ → Type 0 = λ (xs : List ℕ). AreFrames before.channel (bytes ++ taken) is.frames xs in
    let Q : Channel → Type 0 = λ (ch : Channel). AreFrames ch (bytes ++ taken) is.frames (unread_bytes after) in
    record {
      frames = is.frames;
      are = subst Q (sym channel) (subst P (sym kept) are);
      placed = rw (place, kept, length-append bytes taken, length-append (unread_bytes before) taken) (omega (arith, is.placed));
    }

-- they are one frame more
pub whole_frames : (before : CaptureView) (bytes taken payload : List ℕ) (header : Header) → (is : StandsFor before bytes) → IsFrame before.channel header payload (unread_bytes before ++ taken) →
    AreFrames before.channel (bytes ++ taken) (is.frames ++ record { place = before.place; header = header; payload = payload } ∷ []) []
whole_frames before bytes taken payload header is frame =
    let all : List ℕ = unread_bytes before ++ taken in
    let found : Found = record { place = before.place; header = header; payload = payload } in
    let both : length (bytes ++ taken) ≡ length bytes + length taken = length-append bytes taken in
    let long : length all ≡ length (unread_bytes before) + length taken = length-append (unread_bytes before) taken in
    frames_are before.channel (is.frames ++ found ∷ []) (bytes ++ taken) []
    (stand_one before.channel 0 is.frames (bytes ++ taken) all all [] found (stand_more before.channel 0 is.frames bytes (unread_bytes before) taken is.are.stand) (omega (arith, is.placed, both, long)) frame (sym (append-nil all)))
    (nothing_begins before.channel)

pub goes_whole : (before after : CaptureView) (checks : Checks) (bytes taken : List ℕ) → StandsFor before bytes → after.channel ≡ before.channel → unread_bytes after ≡ [] →
    IsChecked before.channel checks (unread_bytes before ++ taken) → after.place ≡ before.place + length (unread_bytes before ++ taken) → StandsFor after (bytes ++ taken)
goes_whole before after checks bytes taken is channel none whole place =
    let all : List ℕ = unread_bytes before ++ taken in
    let payload : List ℕ = payload_in checks.header all in
    let found : Found = record { place = before.place; header = checks.header; payload = payload } in
    let both : length (bytes ++ taken) ≡ length bytes + length taken = length-append bytes taken in
    let long : length all ≡ length (unread_bytes before) + length taken = length-append (unread_bytes before) taken in
    let are : AreFrames before.channel (bytes ++ taken) (is.frames ++ found ∷ []) [] = whole_frames before bytes taken payload checks.header is (checks.header_crc, (checks.frame_crc, whole)) in
    let P : List ℕ → Type 0 = λ (xs : List ℕ). AreFrames before.channel (bytes ++ taken) (is.frames ++ found ∷ []) xs in
    let Q : Channel → Type 0 = λ (ch : Channel). AreFrames ch (bytes ++ taken) (is.frames ++ found ∷ []) (unread_bytes after) in
    let gone : length (unread_bytes after) ≡ 0 = ap length none in
    record {
      frames = is.frames ++ found ∷ [];
      are = subst Q (sym channel) (subst P (sym none) are);
      placed = omega (arith, is.placed, both, long, place, gone);
    }

-- a fault that lasts stays, and the frames before it
pub stopped_stays : (channel : Channel) (bytes more : List ℕ) (place : ℕ) (told : CaptureFault) → (is : IsStopped channel bytes place told) → IsLasting told → (after : IsStopped channel (bytes ++ more) place told) × (after.frames ≡ is.frames)
stopped_stays channel bytes more place told is lasting =
    let first : fault_in channel (is.rest ++ more) ≡ Some told = stays channel is.rest more told is.first lasting in
    let none : (h : Header) (payload front behind : List ℕ) → IsFrame channel h payload front → is.rest ++ more ≡ front ++ behind → ⊥ =
    λ (h : Header) (payload front behind : List ℕ) (frame : IsFrame channel h payload front) (cut : is.rest ++ more ≡ front ++ behind).
    some_is_none (sym first ∙ ap (fault_in channel) cut ∙ no_fault channel h payload front behind frame) in (
      record {
        frames = is.frames;
        rest = is.rest ++ more;
        are = frames_are channel is.frames (bytes ++ more) (is.rest ++ more) (stand_more channel 0 is.frames bytes is.rest more is.are.stand) none;
        some = rw (length-append is.rest more) (omega (arith, is.some));
        placed = rw (length-append bytes more, length-append is.rest more) (omega (arith, is.placed));
        first = first;
      },
      refl,
    )
  where
    some_is_none : {A : Type 0} {a : A} → Some a ≡ None → ⊥
    some_is_none is = absurd cc

-- ---- one feed
abbrev pub viewed : Channel → ℕ → List ℕ → Option Checks → CaptureView
viewed channel place kept whole = record { channel = channel; place = place; kept = kept; whole = whole }

-- what is behind the last frame and what was taken
behind_is : (kept anew filled taken : List ℕ) (whole : Option Checks) → anew ≡ rest_after kept whole → filled ≡ anew ++ taken → filled ≡ rest_after kept whole ++ taken
behind_is kept anew filled taken whole start fill = fill ∙ ap (λ (xs : List ℕ). xs ++ taken) start

opened_is : (channel : Channel) (filled slice : List ℕ) → slice ≡ filled → length filled ≤ wanted filled → HasFault channel slice → IsOpen channel filled
opened_is channel filled slice same short none = record { short = short; none = subst (HasFault channel) same none }

pub fed_open : (before : CaptureView) (channel : Channel) (place : ℕ) (kept anew filled slice taken : List ℕ) (whole next : Option Checks) → viewed channel place kept whole ≡ before →
    anew ≡ rest_after kept whole → filled ≡ anew ++ taken → length filled ≤ wanted filled → slice ≡ filled → HasFault channel slice → next ≡ None →
    (bytes : List ℕ) → StandsFor before bytes → StandsFor (viewed channel place filled next) (bytes ++ taken)
fed_open before channel place kept anew filled slice taken whole next view start fill short same none is bytes stands =
    let now : CaptureView = viewed channel place kept whole in
    let all : filled ≡ rest_after kept whole ++ taken = behind_is kept anew filled taken whole start fill in
    goes_open now (viewed channel place filled next) bytes taken (subst (λ (c : CaptureView). StandsFor c bytes) (sym view) stands) refl refl
    (ap (rest_after filled) is ∙ all) (subst (IsOpen channel) all (opened_is channel filled slice same short none))

pub fed_unfinished : (before : CaptureView) (channel : Channel) (place : ℕ) (kept anew filled slice piece : List ℕ) (used : ℕ) (whole next : Option Checks) → viewed channel place kept whole ≡ before →
    anew ≡ rest_after kept whole → filled ≡ anew ++ take used piece → length filled ≤ wanted filled → slice ≡ filled → HasFault channel slice → next ≡ None →
    (used ≡ length piece) ⊎ (length filled ≡ wanted filled) → IsUnfinished before (viewed channel place filled next) piece used
fed_unfinished before channel place kept anew filled slice piece used whole next view start fill short same none is enough =
    subst (λ (c : CaptureView). IsUnfinished c (viewed channel place filled next) piece used) view
    (record {
      kept = ap (rest_after filled) is ∙ behind_is kept anew filled (take used piece) whole start fill;
      place = refl;
      no_frame = is;
      why = why enough;
    })
  where
    why : (used ≡ length piece) ⊎ (length filled ≡ wanted filled) → (used ≡ length piece) ⊎ ShowsFault channel (rest_after filled next)
    why (inl all) = inl all
    why (inr full) = inr (subst (ShowsFault channel) (sym (ap (rest_after filled) is)) (shown channel filled (opened_is channel filled slice same short none) full))

-- what is behind the last frame is no frame
behind_opened : (channel : Channel) (kept : List ℕ) (whole : Option Checks) → IsCapture channel kept whole → IsOpen channel (rest_after kept whole)
behind_opened channel kept None is = is
behind_opened channel kept (Some checks) is = none_opened channel [] refl

pub fed_moves : (before : CaptureView) (channel : Channel) (place : ℕ) (kept anew filled piece : List ℕ) (used : ℕ) (whole : Option Checks) → viewed channel place kept whole ≡ before →
    IsCapture channel kept whole → anew ≡ rest_after kept whole → filled ≡ anew ++ take used piece → (used ≡ length piece) ⊎ (length filled ≡ wanted filled) →
    0 < length piece → (1 ≤ used) ⊎ ShowsFault before.channel (unread_bytes before)
fed_moves before channel place kept anew filled piece (suc used) whole view holds start fill enough some = inl (omega arith)
fed_moves before channel place kept anew filled piece zero whole view holds start fill (inl all) some = absurd (omega arith)
fed_moves before channel place kept anew filled piece zero whole view holds start fill (inr full) some =
    let same : filled ≡ rest_after kept whole = behind_is kept anew filled (take 0 piece) whole start fill ∙ append-nil (rest_after kept whole) in
    let wide : length (rest_after kept whole) ≡ wanted (rest_after kept whole) = subst (λ (xs : List ℕ). length xs ≡ wanted xs) same full in
    inr (subst (λ (c : CaptureView). ShowsFault c.channel (unread_bytes c)) view (shown channel (rest_after kept whole) (behind_opened channel kept whole holds) wide))

pub fed_whole : (before : CaptureView) (channel : Channel) (place : ℕ) (kept anew filled slice again taken : List ℕ) (whole next : Option Checks) (checks : Checks) → viewed channel place kept whole ≡ before →
    anew ≡ rest_after kept whole → filled ≡ anew ++ taken → slice ≡ filled → again ≡ filled → IfSome next (λ found. IsChecked channel found slice) → next ≡ Some checks →
    (bytes : List ℕ) → StandsFor before bytes → StandsFor (viewed channel (place + length again) filled next) (bytes ++ taken)
fed_whole before channel place kept anew filled slice again taken whole next checks view start fill same twice found is bytes stands =
    let now : CaptureView = viewed channel place kept whole in
    let all : filled ≡ rest_after kept whole ++ taken = behind_is kept anew filled taken whole start fill in
    let checked : IsChecked channel checks slice = subst (λ (o : Option Checks). IfSome o (λ found. IsChecked channel found slice)) is found in
    goes_whole now (viewed channel (place + length again) filled next) checks bytes taken (subst (λ (c : CaptureView). StandsFor c bytes) (sym view) stands) refl
    (ap (rest_after filled) is) (subst (IsChecked channel checks) (same ∙ all) checked) (ap (λ (xs : List ℕ). place + length xs) (twice ∙ all))

-- a capture that was fed nothing stands for no bytes
pub none_stands : (channel : Channel) (kept : List ℕ) → kept ≡ [] → StandsFor (viewed channel 0 kept None) []
none_stands channel kept none =
    subst (λ (xs : List ℕ). StandsFor (viewed channel 0 xs None) []) (sym none)
    (record { frames = []; are = frames_are channel [] [] [] refl (nothing_begins channel); placed = refl })

-- where a fault is shown no byte is taken
pub fed_stuck : (before : CaptureView) (channel : Channel) (place : ℕ) (kept anew filled piece : List ℕ) (used : ℕ) (whole : Option Checks) → viewed channel place kept whole ≡ before →
    IsCapture channel kept whole → anew ≡ rest_after kept whole → filled ≡ anew ++ take used piece → length filled ≤ wanted filled → used ≤ length piece →
    ShowsFault before.channel (unread_bytes before) → used ≡ 0
fed_stuck before channel place kept anew filled piece used whole view holds start fill short within shows =
    let rest : List ℕ = rest_after kept whole in
    let here : ShowsFault channel rest = subst (λ (c : CaptureView). ShowsFault c.channel (unread_bytes c)) (sym view) shows in
    let full = shows_full channel rest (behind_opened channel kept whole holds) here in
    let all : filled ≡ rest ++ take used piece = behind_is kept anew filled (take used piece) whole start fill in
    let same : wanted filled ≡ wanted rest = ap wanted all ∙ wanted_more rest (take used piece) full.0 in
    let long : length filled ≡ length rest + length (take used piece) = ap length all ∙ length-append rest (take used piece) in
    let taken : length (take used piece) ≡ used = length-take-le used piece within in
    let wide : wanted rest ≡ length rest = full.1 in
    omega (arith, short, same, long, taken, wide)

-- a frame that was completed comes behind those before
pub last_frame : (before after : CaptureView) (bytes taken : List ℕ) (place : ℕ) → (was : StandsFor before bytes) → after.channel ≡ before.channel → IsCompleted before after taken place → (is : StandsFor after (bytes ++ taken))
    → IfSome after.whole (λ checks. is.frames ≡ was.frames ++ record { place = place; header = checks.header; payload = payload_in checks.header after.kept } ∷ [])
last_frame before after bytes taken place was same done is = by after.whole done.frame
  where
    by : (o : Option Checks) → IfSome o (λ checks. IsChecked after.channel checks after.kept)
        → IfSome o (λ checks. is.frames ≡ was.frames ++ record { place = place; header = checks.header; payload = payload_in checks.header after.kept } ∷ [])
    by None none = tt
    by (Some checks) checked =
        let payload : List ℕ = payload_in checks.header after.kept in
        let there : IsFrame after.channel checks.header payload after.kept = (checks.header_crc, (checks.frame_crc, checked)) in
        let mine : IsFrame before.channel checks.header payload after.kept = subst (λ (ch : Channel). IsFrame ch checks.header payload after.kept) same there in
        let frame : IsFrame before.channel checks.header payload (unread_bytes before ++ taken) = subst (λ (xs : List ℕ). IsFrame before.channel checks.header payload xs) done.kept mine in
        let are : AreFrames before.channel (bytes ++ taken) is.frames (unread_bytes after) = subst (λ (ch : Channel). AreFrames ch (bytes ++ taken) is.frames (unread_bytes after)) same is.are in
        let last : ℕ → Found = λ p. record { place = p; header = checks.header; payload = payload } in
        (frames_are_one before.channel (bytes ++ taken) is.frames (was.frames ++ last before.place ∷ []) (unread_bytes after) [] are (whole_frames before bytes taken payload checks.header was frame)).0
        ∙ ap (λ (p : ℕ). was.frames ++ last p ∷ []) (sym done.at)
