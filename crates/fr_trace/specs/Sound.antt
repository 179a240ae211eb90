-- What holds of a trace that is read.
use Rattle.fr_cluster.specs.Values.{Values}
use Rattle.fr_trace.specs.Fits.{TraceFits}
use Rattle.fr_trace.specs.Lasting.{IsTrace}
use Rattle.fr_trace.specs.Trace.{TraceView}

-- it is one, and it fits the parameters of its cluster
pub record IsSoundTrace (p : Values) (t : TraceView) : Type 0 where
  pub is : IsTrace t
  pub fits : TraceFits p t
