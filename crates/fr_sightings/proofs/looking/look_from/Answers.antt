use Rattle.std.proofs.Common.{◌≡◌, ◌∙◌, ℕ, List, drop, ap, sym, subst}
use Rattle.fr_sightings.specs.Ranges.{AreLogStamps, AreSeenFrom, DoublesAscend}
use Rattle.fr_sightings.specs.Senders.{sightings_in}
use Rattle.fr_sightings.specs.declared.sighting.Sighting.{Sighting}
use Rattle.fr_sightings.proofs.Windows.{IsBehind, ascend-drop, behind-all, timed-drop}
use Rattle.fr_sightings.proofs.looking.look_from.Goals as goal

pub returns : goal.returns
returns c =
    let seen = c.args.seen.now in
    let n = c.count_before.result in
    let behind_is : c.split_at.result.1.now ≡ drop n seen = c.split_at.ensures.back in
    let all : IsBehind c.args.double seen (drop n seen) =
    subst (λ (m : ℕ). IsBehind c.args.double seen (drop m seen)) (sym c.count_before.ensures.value) (behind-all c.args.double seen c.requires) in
    record {
      same = λ later le. ap (λ (l : List Sighting). sightings_in l later) behind_is ∙ all.same later le;
      ascend = subst DoublesAscend (sym behind_is) (ascend-drop n seen c.requires);
      from = subst (AreSeenFrom c.args.double) (sym behind_is) all.from;
      timed = λ l timed. subst (AreLogStamps l) (sym behind_is) (timed-drop l n seen timed);
    }
