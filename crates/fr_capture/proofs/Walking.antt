-- What is found by going from frame to frame are the frames of the bytes.
use Rattle.std.specs.Prelude.{All}
use Rattle.std.proofs.Common.{◌≡◌, ℕ, zero, suc, ◌+◌, ◌-◌, ◌*◌, ◌^◌, ◌≤◌, ◌<◌, true, nat_lt, List, ◌++◌, length, take, drop, Option, Some, None, Result, Ok, Err, refl, ap, sym, ◌∙◌, subst, inl, inr, arith, length-drop, take-append-drop}
use Rattle.std.proofs.lemmas.Bool.{cases_Bool, ltb-true, ltb-false}
use Rattle.std.proofs.lemmas.List.{length-take-le, drop-take, take-take, nil_from_length}
use Rattle.std.proofs.lemmas.List.Elements.{All-take, All-drop}
use Rattle.fr_base.specs.declared.channel.Channel.{Channel}
use Rattle.fr_frame.specs.declared.header.Header.{Header}
use Rattle.fr_frame.specs.declared.fault.FrameFault.{FrameFault}
use Rattle.fr_frame.specs.Frame.{IsFrame}
use Rattle.fr_frame.specs.Reading.{header_of, payload_in, read_as}
use Rattle.fr_frame.proofs.Exact.{read_frame}
use Rattle.fr_frame.proofs.Fronts.{front_read}
use Rattle.fr_capture.specs.declared.fault.CaptureFault.{CaptureFault}
use Rattle.fr_capture.specs.Frames.{AreFrom, AreFrames}
use Rattle.fr_capture.specs.Rest.{fault_in, has_right_header, size_of, whole_fault}
use Rattle.fr_capture.specs.Walk.{FramesSoFar, frames_in, found_or, after_frames}
use Rattle.fr_capture.proofs.Beginning.{fault_of_few, fault_of_wrong, fault_of_cut, fault_of_read, no_fault}
use Rattle.fr_capture.proofs.Filling.{nothing_begins}
use Rattle.fr_capture.proofs.Standing.{NoneBegins, frames_are}

some_is_none : {A : Type 0} {a : A} (o : Option A) → o ≡ Some a → o ≡ None → ⊥
some_is_none o is none = let both : Some _ ≡ None = sym is ∙ none in absurd cc

-- what is read as whole without a fault is a header
read_is_ok : (r : Result Header FrameFault) → whole_fault r ≡ None → (h : Header) × (r ≡ Ok h)
read_is_ok (Ok h) none = (h, refl)
read_is_ok (Err why) none = absurd cc

-- the payload lies in the frame's bytes
same_payload : (xs : List ℕ) → payload_in (header_of xs) (take (size_of xs) xs) ≡ payload_in (header_of xs) xs
same_payload xs =
    let w : ℕ = 2 * (header_of xs).words in
    let size : 8 + w ≡ 5 + (3 + w) = omega arith in
    ap (λ (k : ℕ). take w (drop 5 (take k xs))) size ∙ ap (take w) (drop-take 5 (3 + w) xs) ∙ take-take w (3 + w) (drop 5 xs) (omega arith)

-- bytes without a fault begin with a frame
pub begins : (channel : Channel) (bytes : List ℕ) → All (λ b. b < 2 ^ 8) bytes → fault_in channel bytes ≡ None →
    (size_of bytes ≤ length bytes) × IsFrame channel (header_of bytes) (payload_in (header_of bytes) bytes) (take (size_of bytes) bytes)
begins channel bytes small none = elim (cases_Bool (nat_lt (length bytes) 5)) [
  | inl few ↦ absurd (some_is_none (fault_in channel bytes) (fault_of_few channel bytes (ltb-true (length bytes) 5 few)) none)
  | inr more ↦
      let enough : 5 ≤ length bytes = ltb-false (length bytes) 5 more in
      elim (cases_Bool (has_right_header bytes)) [
        | inr wrong ↦ absurd (some_is_none (fault_in channel bytes) (fault_of_wrong channel bytes enough wrong) none)
        | inl right ↦ elim (cases_Bool (nat_lt (length bytes) (size_of bytes))) [
          | inl cut ↦ absurd (some_is_none (fault_in channel bytes) (fault_of_cut channel bytes enough right (ltb-true (length bytes) (size_of bytes) cut)) none)
          | inr whole ↦ begins_whole channel bytes small enough right (ltb-false (length bytes) (size_of bytes) whole) none
        ]
      ]
]
  where
    begins_whole : (channel : Channel) (bytes : List ℕ) → All (λ b. b < 2 ^ 8) bytes → 5 ≤ length bytes → has_right_header bytes ≡ true → size_of bytes ≤ length bytes → fault_in channel bytes ≡ None →
        (size_of bytes ≤ length bytes) × IsFrame channel (header_of bytes) (payload_in (header_of bytes) bytes) (take (size_of bytes) bytes)
    begins_whole channel bytes small enough right whole none =
        let front : List ℕ = take (size_of bytes) bytes in
        let behind : List ℕ = drop (size_of bytes) bytes in
        let read = read_is_ok (read_as channel front) (sym (fault_of_read channel bytes enough right whole) ∙ none) in
        let frame : IsFrame channel read.0 (payload_in read.0 front) front = read_frame channel front read.0 (All-take (λ b. b < 2 ^ 8) (size_of bytes) bytes small) read.1 in
        let joined : front ++ behind ≡ bytes = take-append-drop (size_of bytes) bytes in
        let head : header_of bytes ≡ read.0 = ap header_of (sym joined) ∙ (front_read channel read.0 (payload_in read.0 front) front behind frame).0 in
        (whole, subst (λ (p : List ℕ). IsFrame channel (header_of bytes) p front) (same_payload bytes) (subst (λ (h : Header). IsFrame channel h (payload_in h front) front) (sym head) frame))

-- the frame that begins the bytes, and frames that stand behind it
stands_by : (channel : Channel) (place : ℕ) (bytes : List ℕ) (next : List ℕ → FramesSoFar) → All (λ b. b < 2 ^ 8) bytes → (o : Option CaptureFault) → fault_in channel bytes ≡ o →
    ((behind : List ℕ) → All (λ b. b < 2 ^ 8) behind → AreFrom channel (place + size_of bytes) (next behind).frames behind (next behind).rest) →
    AreFrom channel place (found_or o place bytes next).frames bytes (found_or o place bytes next).rest
stands_by channel place bytes next small (Some why) is rest = refl
stands_by channel place bytes next small None is rest =
    let first = begins channel bytes small is in
    let size : ℕ = size_of bytes in
    let behind : List ℕ = drop size bytes in
    let long : length (take size bytes) ≡ size = length-take-le size bytes first.0 in (
      take size bytes,
      (
        behind,
        (
          record { placed = refl; frame = first.1; cut = sym (take-append-drop size bytes) },
          subst (λ (k : ℕ). AreFrom channel (place + k) (next behind).frames behind (next behind).rest) (sym long) (rest behind (All-drop (λ b. b < 2 ^ 8) size bytes small)),
        ),
      ),
    )

-- the frames that are found stand one after the other
pub walk_stands : (n : ℕ) (channel : Channel) (place : ℕ) (bytes : List ℕ) → All (λ b. b < 2 ^ 8) bytes → AreFrom channel place (after_frames n channel place bytes).frames bytes (after_frames n channel place bytes).rest
unfolding after_frames
walk_stands zero channel place bytes small = refl
walk_stands (suc n) channel place bytes small =
    stands_by channel place bytes (λ behind. after_frames n channel (place + size_of bytes) behind) small (fault_in channel bytes) refl
    (λ behind few. walk_stands n channel (place + size_of bytes) behind few)

ends_by : (channel : Channel) (place : ℕ) (bytes : List ℕ) (next : List ℕ → FramesSoFar) → (o : Option CaptureFault) → fault_in channel bytes ≡ o →
    NoneBegins channel (next (drop (size_of bytes) bytes)).rest → NoneBegins channel (found_or o place bytes next).rest
ends_by channel place bytes next (Some why) is rest = λ h payload front behind frame cut.
    some_is_none (fault_in channel bytes) is (ap (fault_in channel) cut ∙ no_fault channel h payload front behind frame)
ends_by channel place bytes next None is rest = rest

-- and no frame stands behind them
pub walk_ends : (n : ℕ) (channel : Channel) (place : ℕ) (bytes : List ℕ) → length bytes ≤ n → NoneBegins channel (after_frames n channel place bytes).rest
unfolding after_frames
walk_ends zero channel place bytes few = λ h payload front behind is cut. nothing_begins channel h payload front behind is (sym (nil_from_length bytes (omega arith)) ∙ cut)
walk_ends (suc n) channel place bytes few =
    let size : ℕ = size_of bytes in
    let long : length (drop size bytes) ≡ length bytes - size = length-drop size bytes in
    ends_by channel place bytes (λ behind. after_frames n channel (place + size) behind) (fault_in channel bytes) refl
    (walk_ends n channel (place + size) (drop size bytes) (omega arith))

-- they are the frames of the bytes
pub frames_found : (channel : Channel) (bytes : List ℕ) → All (λ b. b < 2 ^ 8) bytes → AreFrames channel bytes (frames_in channel bytes).frames (frames_in channel bytes).rest
frames_found channel bytes small =
    frames_are channel (frames_in channel bytes).frames bytes (frames_in channel bytes).rest (walk_stands (length bytes) channel 0 bytes small) (walk_ends (length bytes) channel 0 bytes (omega arith))
