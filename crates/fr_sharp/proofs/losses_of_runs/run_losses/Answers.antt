use Rattle.std.proofs.Common.{◌≡◌, ◌∙◌, ℕ, suc, ◌+◌, ◌-◌, Bool, not, refl, ap, arith}
use Rattle.fr_cluster.specs.Values.{Values}
use Rattle.fr_drift.specs.Questions.{doubles_of}
use Rattle.fr_script.specs.View.{ScriptView}
use Rattle.fr_precision.specs.Lengths.{strayed_after}
use Rattle.fr_sharp.specs.LossRuns.{is_borne_of, losses_by, near_in_group, near_passed}
use Rattle.fr_traffic.specs.Reaching.{whole_in}
use Rattle.fr_sharp.specs.LossSteps.{most_lost}
use Rattle.fr_promise.specs.SharpJoining.{group_spread_through}
use Rattle.fr_sharp.specs.SharpStatement.{has_arbitrary}
use Rattle.fr_traffic.specs.Traffic.{heard_in, some_keep, traffic_in}
use Rattle.fr_sharp.specs.declared.losses_of_runs.RunLosses.{RunLosses}
use Rattle.fr_sharp.proofs.LossTold.{group_on, losses_on, no_more_than_one, widest}
use Rattle.fr_sharp.proofs.StrayFits.{stray_on}
use Rattle.fr_sharp.proofs.losses_of_runs.run_losses.Goals as goal

pub loop-passed-init : goal.loop-passed-init
unfolding losses_by strayed_after
loop-passed-init c =
    let none : c.none-losses.result.doubles ≡ 0 = ap (λ (l : RunLosses). l.doubles) c.none-losses.ensures in
    let near : c.none-losses.result.reach ≡ 0 = ap (λ (l : RunLosses). l.reach) c.none-losses.ensures in
    record {
      spread =
          c.first-spread.ensures.spread (λ m. heard_in (traffic_in c.args.params.now c.args.script.now) (c.args.from + m))
          ∙ ap (λ (b : Bool). group_spread_through b c.args.params.now c.args.flutter (λ m. heard_in (traffic_in c.args.params.now c.args.script.now) (c.args.from + m)) 0) c.has_arbitrary.ensures;
      passed = c.first-spread.ensures.passed;
      losses = c.none-losses.ensures;
      strayed = refl;
      little = omega arith;
      few = omega (arith, none);
      most = omega (arith, near);
    }

pub loop-passed-preserved : goal.loop-passed-preserved
loop-passed-preserved c =
    let p : Values = c.args.params.now in
    let s : ScriptView = c.args.script.now in
    let t = c.args.flutter in
    let n = c.loop-passed.passed in
    let from = c.args.from in
    let whole = c.is_whole-whole.result in
    let beside = has_arbitrary p s in
    let was = c.loop-passed.invariant in
    let count = ap (λ (l : RunLosses). l.doubles) c.followed-losses.ensures in
    let few = no_more_than_one whole c.loop-passed.losses.doubles n was.few in
    let far = ap (λ (l : RunLosses). l.reach) c.followed-losses.ensures in
    let most = widest c.loop-passed.losses.reach c.near-near.result most_lost was.most c.near-near.ensures.most in
    record {
      spread = group_on beside p t (λ m. heard_in (traffic_in p s) (from + m)) n c.heard_in-what.result c.loop-passed.spread.spread c.step.new.self.spread c.heard_in-what.ensures was.spread c.step.ensures.spread;
      passed = omega (arith, c.step.ensures.passed, was.passed);
      losses =
          c.followed-losses.ensures
          ∙ losses_on beside p from t (whole_in p s) (heard_in (traffic_in p s)) (is_borne_of p s from t) (near_passed p s from t) n whole c.is_borne_of-trusted.result c.heard_in-what.result c.apart-apart.result c.near-near.result
          c.loop-passed.spread.spread c.loop-passed.losses c.is_whole-whole.ensures (c.is_borne_of-trusted.ensures from t c.is_borne-borne.ensures) c.heard_in-what.ensures was.spread c.apart-apart.ensures.value
          (c.near-near.ensures.value ∙ ap (near_in_group p s (from + n)) was.spread) was.losses;
      strayed =
          stray_on p t (λ m. some_keep (traffic_in p s) (from + m)) n (not c.none_lacks.result) c.loop-passed.strayed c.strayed_on-strayed.result (ap not c.none_lacks.ensures) was.strayed c.strayed_on-strayed.ensures.value;
      little = (let more = c.strayed_on-strayed.ensures.most in let before = was.little in omega (arith, more, before));
      few = omega (arith, count, few);
      most = omega (arith, far, most);
    }

pub returns-clause-value : goal.returns-clause-value
returns-clause-value c =
    let p : Values = c.args.params.now in
    let s : ScriptView = c.args.script.now in
    let value : c.doubles.result ≡ doubles_of c.args.drift.now = c.doubles.ensures.value in
    let count = c.saturating_sub-count.ensures in
    let end : c.loop-passed.passed ≡ doubles_of c.args.drift.now - c.args.from = omega (arith, value, count, c.loop-passed.auto.passed-end, c.loop-passed-test.false) in
    c.loop-passed.invariant.losses
    ∙ ap (λ (n : ℕ). losses_by (has_arbitrary p s) p c.args.from c.args.flutter (whole_in p s) (heard_in (traffic_in p s)) (is_borne_of p s c.args.from c.args.flutter) (near_passed p s c.args.from c.args.flutter) n) end

pub is_borne-borne-requires-clause-strayed : goal.is_borne-borne-requires-clause-strayed
is_borne-borne-requires-clause-strayed c =
    let p : Values = c.args.params.now in
    let s : ScriptView = c.args.script.now in
    let n = c.loop-passed.passed in
    let from = c.args.from in
    let keeps : ℕ → Bool = λ m. some_keep (traffic_in p s) (from + m) in
    let end : n + 1 ≡ suc (from + n) - from = omega arith in
    stray_on p c.args.flutter keeps n (not c.none_lacks.result) c.loop-passed.strayed c.strayed_on-strayed.result (ap not c.none_lacks.ensures) c.loop-passed.invariant.strayed c.strayed_on-strayed.ensures.value
    ∙ ap (strayed_after p c.args.flutter keeps) end
