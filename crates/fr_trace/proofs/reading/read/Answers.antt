use Rattle.std.proofs.Common.{◌≤◌, ◌-◌, ◌^◌, length, sym, subst, arith}
use Rattle.fr_cluster.specs.Sane.{IsSane}
use Rattle.fr_text.specs.Records.{records_of}
use Rattle.fr_text.proofs.Left.{records_of-few}
use Rattle.fr_trace.proofs.Answering.{answers-fit, answers-read}
use Rattle.fr_trace.proofs.reading.read.Goals as goal

pub read_records-requires : goal.read_records-requires
read_records-requires c = λ q sane same. c.new.ensures q

pub trace_of-requires : goal.trace_of-requires
trace_of-requires c =
    let sane : IsSane c.args.params.now = subst IsSane c.params.view_is c.params.invariant in
    (records_of c.args.bytes.now, c.in-Ok.ensures.filled.stands c.args.params.now sane (sym c.in-Ok.ensures.filled.same))

pub returns-clause-reads : goal.returns-clause-reads
returns-clause-reads c =
    let p = c.args.params.now in
    let sane : IsSane p = subst IsSane c.params.view_is c.params.invariant in
    let stands = c.in-Ok.ensures.filled.stands p sane (sym c.in-Ok.ensures.filled.same) in
    let few = records_of-few c.args.bytes.now in
    let small : length (records_of c.args.bytes.now) ≤ 2 ^ 64 - 1 = omega arith in
    answers-read p c.args.bytes.now c.trace_of.result c.in-Ok.ensures.filled.accepted small (c.trace_of.ensures (records_of c.args.bytes.now) stands)

pub returns-clause-fits : goal.returns-clause-fits
returns-clause-fits c =
    let p = c.args.params.now in
    let sane : IsSane p = subst IsSane c.params.view_is c.params.invariant in
    let stands = c.in-Ok.ensures.filled.stands p sane (sym c.in-Ok.ensures.filled.same) in
    answers-fit p (records_of c.args.bytes.now) c.trace_of.result (c.trace_of.ensures (records_of c.args.bytes.now) stands)
