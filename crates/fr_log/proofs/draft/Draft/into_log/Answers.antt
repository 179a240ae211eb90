use Rattle.std.proofs.Common.{◌≡◌, Some, sym, ◌∙◌}
use Rattle.fr_log.specs.Draft.{number_in_table}
use Rattle.fr_log.specs.declared.rows.HeadNumber.TheVariants as head
use Rattle.fr_log.proofs.Ending.{log-proper, log-stands}
use Rattle.fr_log.proofs.draft.Draft.into_log.Goals as goal

pub returns : goal.returns
returns c = λ done h.
    let unit : number_in_table c.args.self.numbers head.Unit ≡ Some c.in-Some.unit = h.numbers head.Unit ∙ sym (c.number.ensures done h) ∙ c.in-Some.is in
    let drift : number_in_table c.args.self.numbers head.Drift ≡ Some c.in-Some-number.drift = h.numbers head.Drift ∙ sym (c.number-2.ensures done h) ∙ c.in-Some-number.is in
    record {
      limited = sym (c.lacks_delay.ensures done h) ∙ c.if-lacks_delay.false;
      stands = rw c.into_log_of.ensures (log-stands c.args.self done c.in-Some.unit c.in-Some-number.drift h unit drift);
      proper = rw c.into_log_of.ensures (log-proper c.args.self done c.in-Some.unit c.in-Some-number.drift h unit drift);
    }
