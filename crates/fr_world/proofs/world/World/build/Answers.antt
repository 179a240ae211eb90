use Rattle.std.proofs.Common.{◌≡◌, ◌∙◌, List, ap, subst, sym, arith}
use Rattle.std.specs.Prelude.{All}
use Rattle.std.proofs.lemmas.List.Elements.{All-nil}
use Rattle.fr_drift.specs.Files.{DriftFits}
use Rattle.fr_history.specs.Next.{cycles_of}
use Rattle.fr_node.specs.Fits.{NodeFits}
use Rattle.fr_node.specs.View.{NodeView, node_row_of}
use Rattle.fr_air.specs.Listening.{StartsEarly}
use Rattle.fr_air.specs.Memory.{held_after}
use Rattle.fr_world.specs.Stage.{StageView, stage_before}
use Rattle.fr_air.specs.declared.files.RunInputs.{RunInputs}
use Rattle.fr_world.proofs.world.World.build.Goals as goal

pub invariant_of-result : goal.invariant_of-result
unfolding cycles_of held_after
invariant_of-result c =
    let f : RunInputs = record { params = c.args.params; drift = c.in_ok-drift.drift; script = c.args.script } in
    let built : c.in_ok-stage.stage ≡ stage_before c.in_ok-nodes.nodes.items c.in_ok-memory.memory = c.in_ok-stage.ensures in
    let fresh = c.in_ok-nodes.ensures.fresh in
    let nodes = ap (λ (s : StageView). s.nodes) built in
    let followers = ap (λ (s : StageView). s.followers) built in
    let Fit : List NodeView → Type 0 = λ ns. All (NodeFits f.params) ns in
    let Early : List NodeView → Type 0 = λ ns. All (λ (node : NodeView). StartsEarly f 0 (node_row_of node)) ns in
    record {
      drift_fits = subst (DriftFits c.args.params) (sym c.in_ok-drift.ensures) c.requires.drift;
      script_fits = c.requires.script;
      joins = c.joining_nodes_have_references.ensures c.args.params c.args.script c.requires.script;
      stands = record {
        keys_are = c.in_ok-keys.ensures.value;
        nodes_are = nodes ∙ fresh.nodes_are;
        followers_are = followers;
        listeners_are = ap (λ (s : StageView). s.listeners) built;
        fitting = subst Fit (sym nodes) fresh.fit;
        followers_fit = subst Fit (sym followers) (All-nil (NodeFits f.params));
        early = subst Early (sym nodes) fresh.early;
        remembers = ap (λ (s : StageView). s.memory) built ∙ c.in_ok-memory.ensures;
        room = c.in_ok-row.ensures;
      };
      in_run = omega arith;
      latest = λ earlier is. absurd (omega arith);
    }
