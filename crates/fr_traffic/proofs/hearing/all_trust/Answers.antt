use Rattle.std.proofs.Common.{◌≡◌, ◌∙◌, ◌<◌, ◌&&◌, ◌||◌, not, Bool, true, false, length, get_or, sym, ap, ap₂, arith, rules}
use Rattle.std.proofs.lemmas.List.Folds.{list_all_at, list_all_more}
use Rattle.fr_cluster.specs.declared.nodes.NodeSpec.{NodeSpec}
use borrow.Author.Tests.{ltb-false, ltb-true}
use Rattle.fr_traffic.specs.Traffic.{is_trusted, may_receive, traffic_with}
use Rattle.fr_traffic.proofs.hearing.all_trust.Goals.{in-Some+else-not-trusts_begun, in-None}
use Rattle.fr_traffic.proofs.hearing.all_trust.Goals as goal

pub returns-then-not-trusts_begun : goal.returns-then-not-trusts_begun
returns-then-not-trusts_begun c =
    let t = traffic_with c.args.nodes.now c.args.script.now in
    let test : NodeSpec → Bool = λ b. not (may_receive t c.args.double b) || is_trusted c.args.rate t c.args.double b in
    let node : NodeSpec = c.in-Some.node.now in
    let less : c.loop-place.place < length c.args.nodes.now = ltb-true _ _ (sym c.in-Some.ensures.0) in
    let not_one : c.trusts_begun.result ≡ false = search rules in
    let here : test (get_or c.args.nodes.now c.loop-place.place node) ≡ false = ap test (sym c.in-Some.ensures.1) ∙ sym c.trusts_begun.ensures ∙ not_one in
    sym (list_all_at test c.args.nodes.now c.loop-place.place node less here)

pub loop-place-preserved : goal.loop-place-preserved
loop-place-preserved c = elim c.match-get.branch [
  | in-Some+else-not-trusts_begun w ↦
      let t = traffic_with c.args.nodes.now c.args.script.now in
      let test : NodeSpec → Bool = λ b. not (may_receive t c.args.double b) || is_trusted c.args.rate t c.args.double b in
      let node : NodeSpec = w.in-Some.node.now in
      let one : w.trusts_begun.result ≡ true = search rules in
      let here : test (get_or c.args.nodes.now c.loop-place.place node) ≡ true = ap test (sym w.in-Some.ensures.1) ∙ sym w.trusts_begun.ensures ∙ one in
      let less : c.loop-place.place < length c.args.nodes.now = ltb-true _ _ (sym w.in-Some.ensures.0) in
      list_all_more test c.args.nodes.now c.loop-place.place node less ∙ ap₂ (λ (a b : Bool). a && b) c.loop-place.invariant here
  | in-None w ↦
      let high = ltb-false c.loop-place.place (length c.args.nodes.now) (sym w.in-None.ensures.0) in
      absurd (omega (arith, c.len-place-end.ensures))
]
