-- What a sink over a stream has.
use Rattle.std.specs.Prelude.{ℕ, None}
use Rattle.fr_base.specs.Device.{Sunk}
use Rattle.fr_program.specs.declared.adapters.StreamSink.{StreamSink}

-- the stream
abbrev pub stream_of : {W : Type 0} → StreamSink W → W
stream_of sink = sink.stream

-- how many faults were counted
abbrev pub stream_faults : {W : Type 0} → StreamSink W → ℕ
stream_faults sink = sink.faults

-- it tells no bytes and no puts
abbrev pub stream_state : {W : Type 0} → StreamSink W → Sunk
stream_state sink = record { written = None; faults = stream_faults sink; puts = None }
