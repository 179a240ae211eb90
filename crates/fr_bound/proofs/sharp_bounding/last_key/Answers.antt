use Rattle.std.proofs.Common.{arith, length, sym, add-one}
use borrow.Author.Tests.{ltb-true, ltb-false}
use Rattle.fr_bound.proofs.SharpNumbers.{last_more, last_none}
use Rattle.fr_bound.proofs.sharp_bounding.last_key.Goals as goal
use Rattle.fr_bound.proofs.sharp_bounding.last_key.Goals.{in-None, in-Some}

pub loop-place-init : goal.loop-place-init
loop-place-init c = record { value = last_none c.args.nodes.now; most = omega arith }

pub loop-place-preserved : goal.loop-place-preserved
loop-place-preserved c =
    elim c.match-get.branch [
      | in-Some w ↦ record {
        value =
            rw (add-one, w.last-is)
            (last_more c.args.nodes.now c.loop-place.place w.in-Some.node.now c.loop-place.last w.later-last.result (ltb-true _ _ (sym w.in-Some.ensures.0)) w.in-Some.ensures.1 c.loop-place.invariant.value w.later-last.ensures.value);
        most = rw w.last-is w.later-last.ensures.most;
      }
      | in-None w ↦
          let high = ltb-false c.loop-place.place (length c.args.nodes.now) (sym w.in-None.ensures.0) in
          absurd (omega (arith, c.len-place-end.ensures))
    ]
