-- The verdict on a recorded trace as a text, line by line.
use Rattle.std.specs.Prelude.{ℕ, List, ◌++◌, codes, length}
use Rattle.std.specs.Fmt.{decimal}
use Rattle.fr_bound.specs.Bounds.{precision_of}
use Rattle.fr_cluster.specs.Values.{Values}
use Rattle.fr_coverage.specs.Phrases.{precision_text, skew_text, sync_text}
use Rattle.fr_text.specs.Pieces.{line}
use Rattle.fr_trace.specs.Trace.{TraceView}
use Rattle.fr_verdict.specs.declared.unlawful.Verdict.{Verdict}

-- how many nodes the cluster has, how many of them the trace names arbitrary, and over how many double cycles it goes
abbrev pub counts_text : Values → TraceView → List ℕ
counts_text p t =
    codes "trace nodes " ++ decimal (length p.nodes) ++ codes " arbitrary " ++ decimal (length t.arbitrary) ++ codes " doubles " ++ decimal t.doubles

-- the precision, the first double cycle in sync, and the greatest skew with its first place
abbrev pub verdict_text : Values → TraceView → Verdict → List ℕ
verdict_text p t v =
    line (counts_text p t)
    ++ line (precision_text (precision_of p))
    ++ line (sync_text v.synced)
    ++ line (skew_text v.skew v.cycle v.macrotick)
