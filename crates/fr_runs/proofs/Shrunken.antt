-- The step with free numbers, over a list of nodes.
use Rattle.std.proofs.Common.{◌≡◌}
use Rattle.std.proofs.lemmas.List.Elements.{All-map}
use Rattle.fr_base.specs.declared.node_row.NodeRow.{NodeRow}
use Rattle.fr_base.specs.declared.state.State.TheVariants.{Active}
use Rattle.fr_precision.specs.Step.{IsFollowed, Member}
use Rattle.fr_precision.proofs.Senders.{All-along}
use Rattle.fr_precision.proofs.StepLaws.{next_is_spread, spreads_shrink_lem}
use Rattle.fr_runs.specs.Spread.{SpreadsAreKept}

pub spreads_are_kept_lem : SpreadsAreKept
spreads_are_kept_lem p senders nodes starts lengths reach next_starts next_lengths is shrinks = record {
  uncut = λ node here. (spreads_shrink_lem p senders nodes starts lengths reach node node is here here).uncut;
  range = λ node here. (spreads_shrink_lem p senders nodes starts lengths reach node node is here here).range;
  next =
      λ next_even next_odd followed.
      let Followed : Member → Type 0 = λ node. IsFollowed p node (next_even node) (next_odd node) in (
        All-map (λ (row : NodeRow). row.state ≡ Active) next_even nodes (All-along Followed (λ node. (next_even node).state ≡ Active) nodes (λ node each. each.active_even) followed),
        All-map (λ (row : NodeRow). row.state ≡ Active) next_odd nodes (All-along Followed (λ node. (next_odd node).state ≡ Active) nodes (λ node each. each.active_odd) followed),
        next_is_spread p senders nodes starts lengths reach next_starts next_lengths next_even next_odd is shrinks followed,
      );
}
