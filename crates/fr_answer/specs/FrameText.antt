-- The line of a frame, and the words for the first fault of bytes that are none.
use Rattle.std.specs.Prelude.{ℕ, Bool, true, false, List, [], ◌∷◌, ◌++◌, codes}
use Rattle.std.specs.List.{flat_map}
use Rattle.std.specs.Fmt.{decimal}
use Rattle.fr_base.specs.Channels.{letter}
use Rattle.fr_base.specs.declared.channel.Channel.{Channel}
use Rattle.fr_frame.specs.declared.fault.FrameFault.{FrameFault}
use Rattle.fr_frame.specs.declared.fault.FrameFault.TheVariants.{Short, HeaderCrc, Length, FrameCrc, ZeroId, StartupNotSync}
use Rattle.fr_frame.specs.declared.header.Header.{Header}
use Rattle.fr_text.specs.Numerals.{hexadecimal}
use Rattle.fr_text.specs.Pieces.{line}

-- an indicator as a digit
abbrev pub digit : Bool → List ℕ
digit false = codes "0"
digit true = codes "1"

-- the payload in hexadecimal, two digits a byte, or a dash where there is none
abbrev pub payload_text : List ℕ → List ℕ
payload_text [] = codes "-"
payload_text (byte ∷ bytes) = flat_map (hexadecimal 2) (byte ∷ bytes)

-- the line of a frame on a channel: ID, payload length in words, cycle count, the five indicators, both CRCs, the payload
abbrev pub frame_line : Channel → Header → List ℕ → ℕ → ℕ → List ℕ
frame_line channel h payload header_crc frame_crc = line (
    codes "frame " ++ letter channel ++ codes " id " ++ decimal h.id ++ codes " words " ++ decimal h.words ++ codes " cycle " ++ decimal h.cycle
    ++ codes " reserved " ++ digit h.reserved ++ codes " preamble " ++ digit h.preamble ++ codes " null " ++ digit h.null_bit
    ++ codes " sync " ++ digit h.sync ++ codes " startup " ++ digit h.startup
    ++ codes " header " ++ hexadecimal 3 header_crc ++ codes " crc " ++ hexadecimal 6 frame_crc ++ codes " payload " ++ payload_text payload
    )

-- the first fault of bytes that are no frame, after a text in front
abbrev pub fault_text : List ℕ → FrameFault → List ℕ
fault_text front (Short given) = front ++ codes "short " ++ decimal given
fault_text front (HeaderCrc kept computed) = front ++ codes "header crc kept " ++ hexadecimal 3 kept ++ codes " computed " ++ hexadecimal 3 computed
fault_text front (Length stated given) = front ++ codes "length stated " ++ decimal stated ++ codes " given " ++ decimal given
fault_text front (FrameCrc kept computed) = front ++ codes "frame crc kept " ++ hexadecimal 6 kept ++ codes " computed " ++ hexadecimal 6 computed
fault_text front ZeroId = front ++ codes "zero id"
fault_text front StartupNotSync = front ++ codes "startup without sync"
