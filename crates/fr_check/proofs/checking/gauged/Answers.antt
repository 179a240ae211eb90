use Rattle.std.proofs.Common.{◌≡◌, ℕ, ◌+◌, ◌*◌, ◌<◌, ◌≤◌, ◌∙◌, List, None, Some, get_or, length, refl, sym, subst, take, arith}
use Rattle.std.proofs.lemmas.List.{length-take, take_all}
use Rattle.std.proofs.lemmas.List.Elements.{All-take}
use Rattle.fr_cluster.specs.Values.{Values}
use Rattle.fr_history.specs.Gauged.{GaugeHolds}
use Rattle.fr_history.specs.History.{History}
use Rattle.fr_trace.specs.Cycles.{history_by, kept_of}
use Rattle.fr_trace.specs.Items.{first_number, items_in}
use Rattle.fr_trace.specs.declared.trace.TracedCycle.{TracedCycle}
use Rattle.fr_verdict.specs.Sound.{AreSound, IsSound}
use Rattle.fr_check.specs.Controls.{Hold}
use Rattle.fr_check.specs.Corrections.{AreLatest}
use Rattle.fr_check.specs.Followed.{followed_by}
use Rattle.fr_verdict.specs.Search.{first_from}
use Rattle.fr_check.proofs.Gathering.{breach_is, found_at, gauge_foretells, gauge_none, hold_none, latest_none, passed_more, passed_none, taken_more}
use Rattle.fr_check.proofs.checking.gauged.Goals as goal

-- a cycle among those of a sound trace, and those before it
sound_at : (p : Values) (cycles : List TracedCycle) (n : ℕ) (cycle : TracedCycle) → AreSound p cycles → n < length cycles → cycle ≡ get_or cycles n cycle → IsSound p (kept_of cycle)
sound_at p cycles n cycle sound lt is = subst (λ (each : TracedCycle). IsSound p (kept_of each)) (sym is) (sound n cycle lt)

sound_before : (p : Values) (cycles : List TracedCycle) (n : ℕ) → AreSound p cycles → AreSound p (take n cycles)
sound_before p cycles n sound = All-take (λ (each : TracedCycle). IsSound p (kept_of each)) n cycles sound

few_before : (cycles : List TracedCycle) (n : ℕ) → n < length cycles → length cycles ≤ 200_000 → length (take n cycles) < 200_000
few_before cycles n lt few = omega (arith, length-take n cycles)

pub loop-n-init : goal.loop-n-init
loop-n-init c =
    let p = c.args.params.now in
    let t = c.args.trace.now in
    let most = c.first_number-number.ensures.most in
    let none = passed_none p t (first_number t) in
    ((none.0, c.first_number-number.ensures.value ∙ none.1), (omega arith, (hold_none p c.new-controls.result c.new-controls.ensures, (latest_none p c.new-corrections.result, gauge_none p t c.new-gauge.result c.new-gauge.ensures))))

pub returns-in-Err-clause-found : goal.returns-in-Err-clause-found
returns-in-Err-clause-found c =
    let p = c.args.params.now in
    let t = c.args.trace.now in
    let cycles = c.sound_cycles-cycles.result.now in
    let lt : c.loop-n.n < length cycles = omega arith in
    breach_is p t (first_number t) cycles (Some c.in-Err.breach) refl c.sound_cycles-cycles.ensures.history
    (found_at p t (first_number t) c.loop-n.number cycles c.loop-n.n c.index-cycles-n.result c.in-Err.breach lt c.index-cycles-n.is c.loop-n.invariant.0 c.in-Err.ensures.found)

pub reach-requires-clause-behind : goal.reach-requires-clause-behind
reach-requires-clause-behind c = sound_before c.args.params.now c.sound_cycles-cycles.result.now c.loop-n.n c.sound_cycles-cycles.ensures.sound

pub reach-requires-clause-cycle : goal.reach-requires-clause-cycle
reach-requires-clause-cycle c =
    let lt : c.loop-n.n < length c.sound_cycles-cycles.result.now = omega arith in
    sound_at c.args.params.now c.sound_cycles-cycles.result.now c.loop-n.n c.index-cycles-n.result c.sound_cycles-cycles.ensures.sound lt c.index-cycles-n.is

pub reach-requires-clause-latest : goal.reach-requires-clause-latest
reach-requires-clause-latest c = c.loop-n.invariant.1.1.1.0

pub pass_cycle-requires-clause-few : goal.pass_cycle-requires-clause-few
pass_cycle-requires-clause-few c =
    let lt : c.loop-n.n < length c.sound_cycles-cycles.result.now = omega arith in
    few_before c.sound_cycles-cycles.result.now c.loop-n.n lt c.sound_cycles-cycles.ensures.few

pub pass_cycle-requires-clause-behind : goal.pass_cycle-requires-clause-behind
pass_cycle-requires-clause-behind c = sound_before c.args.params.now c.sound_cycles-cycles.result.now c.loop-n.n c.sound_cycles-cycles.ensures.sound

pub pass_cycle-requires-clause-cycle : goal.pass_cycle-requires-clause-cycle
pass_cycle-requires-clause-cycle c =
    let lt : c.loop-n.n < length c.sound_cycles-cycles.result.now = omega arith in
    sound_at c.args.params.now c.sound_cycles-cycles.result.now c.loop-n.n c.index-cycles-n.result c.sound_cycles-cycles.ensures.sound lt c.index-cycles-n.is

pub pass_cycle-requires-clause-hold : goal.pass_cycle-requires-clause-hold
pass_cycle-requires-clause-hold c = c.loop-n.invariant.1.1.0

pub pass_cycle-requires-clause-latest : goal.pass_cycle-requires-clause-latest
pass_cycle-requires-clause-latest c = c.reach.ensures.latest

pub pass_cycle-requires-clause-here : goal.pass_cycle-requires-clause-here
pass_cycle-requires-clause-here c = c.reach.ensures.here

pub pass-requires : goal.pass-requires
pass-requires c =
    let lt : c.loop-n.n < length c.sound_cycles-cycles.result.now = omega arith in
    (sound_at c.args.params.now c.sound_cycles-cycles.result.now c.loop-n.n c.index-cycles-n.result c.sound_cycles-cycles.ensures.sound lt c.index-cycles-n.is).ascend

pub gather-requires-clause-cycle : goal.gather-requires-clause-cycle
gather-requires-clause-cycle c =
    let lt : c.loop-n.n < length c.sound_cycles-cycles.result.now = omega arith in
    sound_at c.args.params.now c.sound_cycles-cycles.result.now c.loop-n.n c.index-cycles-n.result c.sound_cycles-cycles.ensures.sound lt c.index-cycles-n.is

pub gather-requires-clause-few : goal.gather-requires-clause-few
gather-requires-clause-few c =
    let lt : c.loop-n.n < length c.sound_cycles-cycles.result.now = omega arith in
    few_before c.sound_cycles-cycles.result.now c.loop-n.n lt c.sound_cycles-cycles.ensures.few

pub gather-requires-clause-holds : goal.gather-requires-clause-holds
gather-requires-clause-holds c = c.loop-n.invariant.1.1.1.1

pub pass_cycle-requires-clause-foretells : goal.pass_cycle-requires-clause-foretells
pass_cycle-requires-clause-foretells c =
    gauge_foretells c.args.params.now c.args.trace.now c.loop-n.gauge c.sound_cycles-cycles.result.now c.loop-n.n c.synced-synced.result c.sound_cycles-cycles.ensures.history c.synced-synced.ensures c.loop-n.invariant.1.1.1.1

pub loop-n-preserved : goal.loop-n-preserved
loop-n-preserved c =
    let p = c.args.params.now in
    let t = c.args.trace.now in
    let cycles = c.sound_cycles-cycles.result.now in
    let lt : c.loop-n.n < length cycles = omega arith in
    let grown = taken_more cycles c.loop-n.n c.index-cycles-n.result lt c.index-cycles-n.is in
    let before : c.loop-n.number ≤ 130 + 9_000_000 * c.loop-n.n = c.loop-n.invariant.1.0 in
    let step = c.in-Ok.ensures.most in (
      passed_more p t (first_number t) c.loop-n.number c.in-Ok.next cycles c.loop-n.n c.index-cycles-n.result lt c.index-cycles-n.is c.loop-n.invariant.0 c.in-Ok.ensures.none c.in-Ok.ensures.next,
      (
        omega arith,
        (
          subst (λ (h : History). Hold p h c.pass.new.self) (sym grown) (c.pass.ensures p c.reach.ensures.here c.loop-n.invariant.1.1.0),
          (subst (λ (h : History). AreLatest p h c.reach.new.self) (sym grown) c.reach.ensures.here, subst (λ (h : History). GaugeHolds p c.gather.new.gauge (followed_by t h)) (sym grown) c.gather.ensures),
        ),
      ),
    )

pub returns-clause-none : goal.returns-clause-none
returns-clause-none c =
    let p = c.args.params.now in
    let t = c.args.trace.now in
    let cycles = c.sound_cycles-cycles.result.now in
    let done : length cycles ≤ c.loop-n.n = omega arith in
    breach_is p t (first_number t) cycles None refl c.sound_cycles-cycles.ensures.history
    (subst (λ (cs : List TracedCycle). first_from p t (first_number t) (items_in (history_by cs)) ≡ None) (take_all c.loop-n.n cycles done) c.loop-n.invariant.0.0)

pub returns-clause-holds : goal.returns-clause-holds
returns-clause-holds c =
    let p = c.args.params.now in
    let t = c.args.trace.now in
    let cycles = c.sound_cycles-cycles.result.now in
    let done : length cycles ≤ c.loop-n.n = omega arith in
    let all : GaugeHolds p c.loop-n.gauge (followed_by t (history_by cycles)) =
    subst (λ (cs : List TracedCycle). GaugeHolds p c.loop-n.gauge (followed_by t (history_by cs))) (take_all c.loop-n.n cycles done) c.loop-n.invariant.1.1.1.1 in
    subst (λ (h : History). GaugeHolds p c.loop-n.gauge (followed_by t h)) c.sound_cycles-cycles.ensures.history all
