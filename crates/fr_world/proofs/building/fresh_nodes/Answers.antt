use Rattle.std.proofs.Common.{◌≡◌, ◌∙◌, ◌<◌, ◌≤◌, Bool, false, List, [], length, map, get_or, ap, sym, arith}
use Rattle.std.specs.Prelude.{filter}
use Rattle.std.proofs.lemmas.List.{take_all}
use Rattle.std.proofs.lemmas.Option.{get_or_from_slice_get}
use Rattle.fr_cluster.specs.declared.nodes.NodeSpec.{NodeSpec}
use Rattle.fr_node.specs.View.{NodeView}
use Rattle.fr_cluster.specs.Setting.{Setting, is_correct}
use Rattle.fr_history.specs.Standing.{has_row}
use Rattle.fr_air.specs.Views.{node_of_next}
use Rattle.fr_air.proofs.Placing.{filter_both}
use Rattle.fr_world.proofs.Fresh.{among-known, made-step}
use Rattle.fr_air.specs.Files.{setting_in}
use Rattle.fr_world.specs.World.{is_fresh}
use Rattle.fr_world.proofs.building.fresh_nodes.Goals as goal

pub push_fresh-requires-clause-start : goal.push_fresh-requires-clause-start
push_fresh-requires-clause-start c =
    let specs = c.args.files.now.params.nodes in
    let spec = c.node_at-spec.result.now in
    let lt : c.loop-place.place < length specs = omega arith in
    record { drift_fits = c.requires.drift; known = among-known specs c.loop-place.place spec spec lt (sym (get_or_from_slice_get specs c.loop-place.place spec spec c.node_at-spec.ensures)) }

pub loop-place-preserved : goal.loop-place-preserved
loop-place-preserved c =
    let x : Setting = setting_in c.args.files.now in
    let specs = c.args.files.now.params.nodes in
    let spec = c.node_at-spec.result.now in
    let test : NodeSpec → Bool = λ node. is_fresh x node.id in
    let f : NodeSpec → NodeView = λ node. node_of_next x [] false node.id in
    let lt : c.loop-place.place < length specs = omega arith in
    let at : spec ≡ get_or specs c.loop-place.place spec = sym (get_or_from_slice_get specs c.loop-place.place spec spec c.node_at-spec.ensures) in
    let pushed = c.in_ok-push_fresh.ensures.fresh in
    record {
      nodes_are = made-step test f specs c.loop-place.place spec c.loop-place.nodes.items c.push_fresh.new.nodes.items lt at c.loop-place.invariant.nodes_are pushed.nodes_are;
      fit = pushed.fit;
      early = pushed.early;
      room = omega (arith, c.loop-place.invariant.room, c.push_fresh.ensures.room);
    }

pub returns-clause-fresh : goal.returns-clause-fresh
returns-clause-fresh c =
    let x : Setting = setting_in c.args.files.now in
    let specs = c.args.files.now.params.nodes in
    let done : length specs ≤ c.loop-place.place = omega arith in
    let f : NodeSpec → NodeView = λ node. node_of_next x [] false node.id in
    record {
      nodes_are = c.loop-place.invariant.nodes_are
          ∙ ap (λ (some : List NodeSpec). map f (filter (λ node. is_fresh x node.id) some)) (take_all c.loop-place.place specs done)
          ∙ ap (map f) (filter_both (λ (node : NodeSpec). is_correct x node.id) (λ (node : NodeSpec). has_row x [] node.id) specs);
      fit = c.loop-place.invariant.fit;
      early = c.loop-place.invariant.early;
    }
