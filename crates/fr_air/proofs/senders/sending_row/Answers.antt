use Rattle.std.proofs.Common.{◌≡◌, ◌∙◌, Option, Some, None, ap, sym}
use Rattle.std.specs.Option.{option_copied}
use Rattle.fr_base.specs.declared.node_row.NodeRow.{NodeRow}
use Rattle.fr_history.specs.History.{row_of as row_in}
use Rattle.fr_air.specs.Files.{setting_in}
use Rattle.fr_air.specs.Sending.{sending_row_by, IsEarlyRow}
use Rattle.fr_air.proofs.Among.{found-among}
use Rattle.fr_air.proofs.senders.sending_row.Goals as goal

pub row_if_sends-requires : goal.row_if_sends-requires
row_if_sends-requires c =
    let a = c.args in
    (found-among (IsEarlyRow a.files.now.params) a.rows.now a.id c.in-Some.row.now c.requires (sym c.row_among.ensures ∙ ap option_copied c.in-Some.is)).0

pub returns-in-Some : goal.returns-in-Some
returns-in-Some c =
    let a = c.args in
    let found : row_in a.rows.now a.id ≡ Some c.in-Some.row.now = sym c.row_among.ensures ∙ ap option_copied c.in-Some.is in record {
      row_is = c.row_if_sends.ensures.value ∙ sym (ap (λ (o : Option NodeRow). sending_row_by (setting_in a.files.now) o a.id a.turn.now.channel) found);
      early = c.row_if_sends.ensures.early;
    }

pub returns-in-None : goal.returns-in-None
returns-in-None c =
    let a = c.args in
    let none : row_in a.rows.now a.id ≡ None = sym c.row_among.ensures ∙ ap option_copied c.in-None.is in
    record { row_is = sym (ap (λ (o : Option NodeRow). sending_row_by (setting_in a.files.now) o a.id a.turn.now.channel) none); early = tt }
