use Rattle.std.proofs.Common.{◌≡◌, ◌∙◌, ◌*◌, ◌≤◌, List, ap, sym, subst}
use Rattle.std.proofs.lemmas.List.Elements.{All-weaker}
use Rattle.fr_base.specs.Device.{Puts}
use Rattle.fr_log.specs.Rows.{last_stamp}
use Rattle.fr_log.specs.View.{LogView}
use Rattle.fr_sightings.specs.Ranges.{AreLate}
use Rattle.fr_sightings.specs.Sightings.{IsSighting, OffendingFrames, irregular_of, sightings_of, tally_of, untimely_of}
use Rattle.fr_sightings.specs.declared.sighting.Sighting.{Sighting}
use Rattle.fr_findings.specs.Ground.{ComeInOrder}
use Rattle.fr_findings.specs.Text.{observe_text, text_with}
use Rattle.fr_findings.proofs.Printing.{offending-of}
use Rattle.fr_findings.proofs.observing.write_observed.Goals as goal

in_order : (l : LogView) (frames : List Sighting) → AreLate l frames → ComeInOrder l frames
in_order l frames late = record { numbered = late.numbered; timed = late.timed; ascend = late.ascend }

pub put_told-requires : goal.put_told-requires
put_told-requires g c =
    let p = c.args.params.now in
    let l = c.args.log.now in
    let list = c.args.sightings.now.list in
    record {
      seen = subst (ComeInOrder l) (sym c.as_slice.ensures) (
          record {
            numbered = All-weaker (IsSighting p l) (λ s. s.number ≤ 199_999) (λ s is. is.number) list c.requires.proper;
            timed = All-weaker (IsSighting p l) (λ s. l.unit * s.stamp ≤ last_stamp) (λ s is. is.stamp) list c.requires.proper;
            ascend = c.requires.ascend;
          });
      offending = record {
        untimely = subst (ComeInOrder l) (sym c.untimely.ensures) (in_order l c.args.sightings.now.offending.untimely c.requires.late);
        irregular = subst (ComeInOrder l) (sym c.irregular.ensures) (in_order l c.args.sightings.now.offending.irregular c.requires.irregular);
      };
    }

pub returns : goal.returns
unfolding observe_text
returns g c =
    let p = c.args.params.now in
    let l = c.args.log.now in
    let list_is : c.as_slice.result.now ≡ sightings_of p l = c.as_slice.ensures ∙ c.requires.list in
    let untimely_is : c.untimely.result.now ≡ untimely_of p l = c.untimely.ensures ∙ ap (λ (frames : OffendingFrames). frames.untimely) c.requires.offending in
    let irregular_is : c.irregular.result.now ≡ irregular_of p l = c.irregular.ensures ∙ ap (λ (frames : OffendingFrames). frames.irregular) c.requires.offending in
    let tally_is : c.tally.result ≡ tally_of p l = c.tally.ensures ∙ c.requires.tally in
    subst (Puts c.put_told.result (g.O.Sink.state c.args.out.now) (g.O.Sink.state c.put_told.new.out))
    (λ i. text_with p l (list_is i) (offending-of (untimely_is i) (irregular_is i)) (tally_is i)) c.put_told.ensures
