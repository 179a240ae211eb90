-- A file of bytes, and a recording, define one status.
use Rattle.std.proofs.Common.{◌≡◌, ℕ, ◌<◌, ◌^◌, ◌⊎◌, inl, inr, List, Result, Ok, Err, refl, sym, subst}
use Rattle.std.specs.Prelude.{All, codes}
use Rattle.fr_base.specs.declared.channel.Channel.{Channel}
use Rattle.fr_frame.specs.Fault.{IsFirstFault}
use Rattle.fr_frame.specs.Frame.{IsFrame, IsNoFrame}
use Rattle.fr_frame.specs.Reading.{payload_in, read_as}
use Rattle.fr_frame.specs.declared.fault.FrameFault.{FrameFault}
use Rattle.fr_frame.specs.declared.header.Header.{Header}
use Rattle.fr_text.specs.Defined.{AreOctets, DefinesOneStatus}
use Rattle.fr_text.specs.Kind.{HasOneAnswer, HasSomeAnswer}
use Rattle.fr_text.specs.Loading.{any_file}
use Rattle.fr_text.proofs.Defining.{one_status, some_status}
use Rattle.fr_text.proofs.Shelves.{any_one}
use Rattle.fr_answer.specs.FrameAnswer.{IsFrameLine, IsNoFrameSaid, frame_files}
use Rattle.fr_answer.specs.FrameText.{fault_text, frame_line}
use Rattle.fr_capture.specs.CaptureAnswer.{IsCaptureText, capture_files}
use Rattle.fr_capture.specs.CaptureText.{capture_text}
use Rattle.fr_capture.specs.Frames.{AreFrames}
use Rattle.fr_capture.specs.Walk.{frames_in}
use Rattle.fr_nm.specs.Files.{vectors_file}
use Rattle.fr_nm.specs.NmAnswer.{nm_files}
use Rattle.fr_nm.specs.Text.{nm_text}

any_some : HasSomeAnswer any_file
any_some bytes = (Ok bytes, (λ e. absurd cc), refl)

-- what bytes are read as is there
abbrev pub FrameIsThere : Type 0
FrameIsThere = (channel : Channel) (bytes : List ℕ) (header : Header) → All (λ b. b < 2 ^ 8) bytes → read_as channel bytes ≡ Ok header → IsFrame channel header (payload_in header bytes) bytes

abbrev pub FaultIsThere : Type 0
FaultIsThere = (channel : Channel) (bytes : List ℕ) (fault : FrameFault) → All (λ b. b < 2 ^ 8) bytes → read_as channel bytes ≡ Err fault → IsFirstFault channel bytes fault

-- and bytes with a fault are no frame
abbrev pub FaultIsNoFrame : Type 0
FaultIsNoFrame = (channel : Channel) (bytes : List ℕ) (fault : FrameFault) → IsFirstFault channel bytes fault → IsNoFrame channel bytes

-- bytes are a frame or have a first fault
frame_or_fault : FrameIsThere → FaultIsThere → FaultIsNoFrame → (channel : Channel) (bytes : List ℕ) → AreOctets bytes
    → ((written : List ℕ) × IsFrameLine channel bytes written) ⊎ ((said : List ℕ) × IsNoFrameSaid channel bytes said)
frame_or_fault frame fault none channel bytes octets = by (read_as channel bytes) refl
  where
    by : (r : Result Header FrameFault) → read_as channel bytes ≡ r → ((written : List ℕ) × IsFrameLine channel bytes written) ⊎ ((said : List ℕ) × IsNoFrameSaid channel bytes said)
    by (Ok header) e =
        let is = frame channel bytes header octets e in
        inl (
          frame_line channel header (payload_in header bytes) is.0 is.1.0,
          record { header = header; payload = payload_in header bytes; header_crc = is.0; frame_crc = is.1.0; frame = is.1.1; shown = refl },
        )
    by (Err why) e =
        let is = fault channel bytes why octets e in
        inr (fault_text (codes "frame: ") why, record { fault = why; no_frame = none channel bytes why is; first = is; shown = refl })

pub frame_status : FrameIsThere → FaultIsThere → FaultIsNoFrame → (channel : Channel) → DefinesOneStatus (frame_files channel) 1
frame_status frame fault none channel = record {
  one = one_status (frame_files channel) (any_one, λ bytes written said is no. no.no_frame is.header is.payload (is.header_crc, (is.frame_crc, is.frame)));
  some = some_status (frame_files channel) 1 (any_some, λ bytes value octets accepted. (refl, here bytes value octets accepted.accepted));
} where
  here : (bytes value : List ℕ) → AreOctets bytes → value ≡ bytes → ((written : List ℕ) × IsFrameLine channel value written) ⊎ ((said : List ℕ) × IsNoFrameSaid channel value said)
  here bytes value octets same = frame_or_fault frame fault none channel value (subst AreOctets (sym same) octets)

-- the frames of a recording are found
abbrev pub FramesAreFound : Type 0
FramesAreFound = (channel : Channel) (bytes : List ℕ) → All (λ b. b < 2 ^ 8) bytes → AreFrames channel bytes (frames_in channel bytes).frames (frames_in channel bytes).rest

pub capture_status : FramesAreFound → (channel : Channel) → DefinesOneStatus (capture_files channel) 1
capture_status found channel = record {
  one = one_status (capture_files channel) (any_one, λ bytes written said is never. never);
  some = some_status (capture_files channel) 1 (any_some, λ bytes value octets accepted. (refl, inl (capture_text channel value, here bytes value octets accepted.accepted)));
} where
  here : (bytes value : List ℕ) → AreOctets bytes → value ≡ bytes → IsCaptureText channel value (capture_text channel value)
  here bytes value octets same = record {
    frames = (frames_in channel value).frames;
    rest = (frames_in channel value).rest;
    are = found channel value (subst AreOctets (sym same) octets);
    shown = refl;
  }

pub nm_status : ((width : ℕ) → HasOneAnswer (vectors_file width)) → ((width : ℕ) → HasSomeAnswer (vectors_file width)) → (width : ℕ) → DefinesOneStatus (nm_files width) 1
nm_status one some width = record {
  one = one_status (nm_files width) (one width, λ vectors written said is never. never);
  some = some_status (nm_files width) 1 (some width, λ bytes vectors octets accepted. (refl, inl (nm_text vectors, refl)));
}
