use Rattle.std.proofs.Common.{Option, ◌∙◌, ap, arith, length, sym, add-one}
use borrow.Author.Tests.{ltb-true, ltb-false}
use Rattle.fr_coverage.specs.Flutter.{told_of_two}
use Rattle.fr_coverage.specs.declared.gap.Fluttering.{Fluttering}
use Rattle.fr_coverage.proofs.Told.{told-more, told-nil}
use Rattle.fr_coverage.proofs.fluttering.told_among.Goals as goal
use Rattle.fr_coverage.proofs.fluttering.told_among.Goals.{in-Some, in-None}

pub loop-place-init : goal.loop-place-init
loop-place-init g c = record { value = sym (told-nil (g.G.Gauge.gauged c.args.gauge.now)); most = tt }

pub loop-place-preserved : goal.loop-place-preserved
loop-place-preserved g c =
    elim c.match-get.branch [
      | in-Some w ↦
          record {
            value =
                w.told-is ∙ w.told_of_two-told.ensures.value
                ∙ ap (λ (o : Option Fluttering). told_of_two o w.gauge.result) c.loop-place.invariant.value
                ∙ ap (told_of_two _) w.gauge.ensures.value
                ∙ rw add-one
                (sym (told-more (g.G.Gauge.gauged c.args.gauge.now) c.args.nodes.now c.loop-place.place w.in-Some.node.now
                (ltb-true _ _ (sym w.in-Some.ensures.0)) w.in-Some.ensures.1));
            most = rw w.told-is w.told_of_two-told.ensures.most;
          }
      | in-None w ↦
          let high = ltb-false c.loop-place.place (length c.args.nodes.now) (sym w.in-None.ensures.0) in
          absurd (omega (arith, c.len-place-end.ensures))
    ]
