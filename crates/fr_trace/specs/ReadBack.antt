-- The text of a trace is read back.
use Rattle.std.specs.Prelude.{◌≡◌, ℕ, List}
use Rattle.fr_cluster.specs.Sane.{IsSane}
use Rattle.fr_cluster.specs.Values.{Values}
use Rattle.fr_trace.specs.Files.{IsTraceFile}
use Rattle.fr_trace.specs.Fits.{TraceFits}
use Rattle.fr_trace.specs.Lasting.{IsTrace}
use Rattle.fr_trace.specs.Text.{text_of}
use Rattle.fr_trace.specs.Trace.{TraceView}

-- bytes are accepted as a file of a trace, and stand for that trace and for no other
pub record IsReadBack (p : Values) (t : TraceView) (bytes : List ℕ) : Type 0 where
  pub accepted : IsTraceFile p t bytes
  pub alone : (u : TraceView) → IsTraceFile p u bytes → u ≡ t

-- so are those of the text of each trace that fits the parameters of its cluster
abbrev pub TextsAreReadBack : Type 0
TextsAreReadBack = (p : Values) (t : TraceView) → IsSane p → IsTrace t → TraceFits p t → IsReadBack p t (text_of t)
