use Rattle.std.proofs.Common.{◌≡◌, ◌<◌, List, ap, length, arith}
use Rattle.fr_history.specs.History.{History}
use Rattle.fr_trace.specs.Draft.{over_of}
use Rattle.fr_trace.proofs.Ending.{filled-more}
use Rattle.fr_trace.proofs.Keeping.{history-length}
use Rattle.fr_trace.proofs.draft.Draft.fill.Goals as goal

pub loop-self-smaller : goal.loop-self-smaller
loop-self-smaller c =
    let a = history-length c.end_cycle.new.self.cycles.items in
    let b = history-length c.loop-self.self.cycles.items in
    let long = ap (λ (h : History). length h) c.in_ok-end_cycle.ensures.over in
    let v = ap (λ (l : List _). length l) c.as_slice.ensures.value in
    let lt = c.loop-self-test.true in
    omega (arith, a, b, long, v, lt)

pub loop-self-preserved : goal.loop-self-preserved
loop-self-preserved c =
    let b = history-length c.loop-self.self.cycles.items in
    let v = ap (λ (l : List _). length l) c.as_slice.ensures.value in
    let test = c.loop-self-test.true in
    let lt : length (over_of c.loop-self.self) < c.args.cycles = omega (arith, b, v, test) in
    filled-more c.args.self.now c.loop-self.self c.end_cycle.new.self c.args.cycles c.loop-self.invariant lt c.in_ok-end_cycle.ensures

pub returns-clause-all : goal.returns-clause-all
returns-clause-all c =
    let b = history-length c.loop-self.self.cycles.items in
    let v = ap (λ (l : List _). length l) c.as_slice.ensures.value in
    let test = c.loop-self-test.false in
    let few = c.loop-self.invariant.few in
    let all : length (over_of c.loop-self.self) ≡ c.args.cycles = omega (arith, b, v, test, few) in
    all
