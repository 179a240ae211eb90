use Rattle.std.proofs.Common.{◌*◌, ℕ, List, Some, ap, sym, ◌∙◌, subst, arith}
use Rattle.fr_cluster.specs.Sane.{IsSane}
use Rattle.fr_trace.specs.Draft.{CanEnd, IsProperHead, over_of, part_of}
use Rattle.fr_trace.specs.Files.{TraceStandsFor}
use Rattle.fr_trace.specs.Fits.{TraceFits}
use Rattle.fr_trace.specs.Lasting.{IsTrace}
use Rattle.fr_trace.specs.Said.{history_said}
use Rattle.fr_trace.specs.Trace.{TraceView}
use Rattle.fr_trace.specs.declared.trace.TracedJoin.{TracedJoin}
use Rattle.fr_trace.proofs.Ending.{can-end, few-over, is-trace, trace-fits}
use Rattle.fr_trace.proofs.reading.whole_trace.Goals as goal

pub fill-requires : goal.fill-requires
fill-requires c =
    let few = few-over c.args.params.now c.args.draft c.requires.0 c.args.doubles c.requires.1.holds c.requires.1.told in
    omega (arith, few)

pub into_trace-requires : goal.into_trace-requires
into_trace-requires c =
    let p = c.args.params.now in
    let d = c.args.draft in
    let e = c.fill.new.self in
    let n = c.args.doubles in
    let w = c.requires.1 in
    let sane : IsSane p = subst IsSane c.params.view_is c.params.invariant in
    let filled = c.in-Ok.ensures.filled in
    let head : IsProperHead p (Some n) d.arbitrary.items d.joins.items = subst (λ o. IsProperHead p o d.arbitrary.items d.joins.items) w.told w.holds.sound.head in
    let can : CanEnd p d.arbitrary.items d.joins.items (2 * n) (over_of e) (part_of e) = filled.sound p d.arbitrary.items d.joins.items sane (can-end p d c.requires.0 n sane w) in
    let base = is-trace p n d.arbitrary.items d.joins.items (over_of e) sane head c.in-Ok.ensures.all can.over in
    let P : List ℕ → List TracedJoin → Type 0 = λ l joins. IsTrace (record { doubles = n; arbitrary = l; joins = joins; history = over_of e }) in
    subst (λ joins. P e.arbitrary.items joins) (sym filled.head.joins) (subst (λ l. P l d.joins.items) (sym filled.head.named) base)

pub returns : goal.returns
returns c = λ records w.
    let p = c.args.params.now in
    let d = c.args.draft in
    let e = c.fill.new.self in
    let n = c.args.doubles in
    let sane : IsSane p = subst IsSane c.params.view_is c.params.invariant in
    let filled = c.in-Ok.ensures.filled in
    let head : IsProperHead p (Some n) d.arbitrary.items d.joins.items = subst (λ o. IsProperHead p o d.arbitrary.items d.joins.items) w.told w.holds.sound.head in
    let can : CanEnd p d.arbitrary.items d.joins.items (2 * n) (over_of e) (part_of e) = filled.sound p d.arbitrary.items d.joins.items sane (can-end p d records n sane w) in
    let said = filled.said records (record { over = w.holds.over; part = w.holds.part; none_later = w.holds.none_later }) in
    let t : TraceView = record { doubles = n; arbitrary = e.arbitrary.items; joins = e.joins.items; history = over_of e } in
    let stands : TraceStandsFor t records = record {
      doubles = sym w.holds.doubles ∙ w.told;
      arbitrary = filled.head.named ∙ w.holds.named;
      joins = filled.head.joins ∙ w.holds.joins;
      history = said.over ∙ ap (history_said records) c.in-Ok.ensures.all;
    }
    in
    let P : List ℕ → List TracedJoin → Type 0 = λ l joins. TraceFits p (record { doubles = n; arbitrary = l; joins = joins; history = over_of e }) in
    let fits : TraceFits p t =
    subst (λ joins. P e.arbitrary.items joins) (sym filled.head.joins) (subst (λ l. P l d.joins.items) (sym filled.head.named) (trace-fits p n d.arbitrary.items d.joins.items (over_of e) head can.over))
    in
    (w.whole, subst (λ (x : TraceView). TraceStandsFor x records) (sym c.into_trace.ensures) stands, subst (TraceFits p) (sym c.into_trace.ensures) fits)
