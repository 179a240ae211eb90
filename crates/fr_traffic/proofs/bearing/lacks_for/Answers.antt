use Rattle.std.proofs.Common.{◌≡◌, ◌∙◌, ◌<◌, ◌≤◌, ◌-◌, ℕ, true, false, ap, sym, arith, rules}
use Rattle.fr_traffic.specs.Traffic.{lacks_values, traffic_with}
use Rattle.fr_traffic.proofs.BearingCounts.{fewer_than, lacking_more, too_few}
use Rattle.fr_traffic.proofs.bearing.lacks_for.Goals as goal

pub returns-then-from-back : goal.returns-then-from-back
returns-then-from-back c =
    let t = traffic_with c.args.nodes.now c.args.script.now in
    let less : c.args.double < c.loop-back.back = search rules in
    let within : c.loop-back.back < c.args.count = search rules in
    too_few t c.args.node.now c.args.double c.args.count (omega (arith, less, within))

pub returns-then-not-lacks_values : goal.returns-then-not-lacks_values
returns-then-not-lacks_values c =
    let t = traffic_with c.args.nodes.now c.args.script.now in
    let short : c.loop-back.back ≤ c.args.double = search rules in
    let within : c.loop-back.back < c.args.count = search rules in
    let hears : c.lacks_values.result ≡ false = search rules in
    let same = ap (λ (double : ℕ). lacks_values t (double - c.loop-back.back) c.args.node.now) c.double.view_is in
    fewer_than t c.args.node.now c.args.double c.loop-back.back c.args.count short within (sym same ∙ sym c.lacks_values.ensures ∙ hears)

pub loop-back-preserved : goal.loop-back-preserved
loop-back-preserved c =
    let t = traffic_with c.args.nodes.now c.args.script.now in
    let short : c.loop-back.back ≤ c.args.double = search rules in
    let lacks : c.lacks_values.result ≡ true = search rules in
    let same = ap (λ (double : ℕ). lacks_values t (double - c.loop-back.back) c.args.node.now) c.double.view_is in
    let more = lacking_more t c.args.node.now c.args.double c.loop-back.back short c.loop-back.invariant (sym same ∙ sym c.lacks_values.ensures ∙ lacks) in
    omega (arith, more)
