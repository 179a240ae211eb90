use Rattle.std.proofs.Common.{◌≡◌, Option, true, false, refl, rules, sym, ap, ◌∙◌}
use Rattle.fr_cold.specs.Reasons.{is_out_of_turn, last_at}
use Rattle.fr_cluster.specs.Questions.{is_known, is_coldstart}
use Rattle.fr_cold.specs.declared.draft.Last.{Last}
use Rattle.fr_cold.proofs.Tables.{draft-switch}
use Rattle.fr_cold.proofs.draft.Draft.take_switch.Goals as goal

pub returns : goal.returns
returns c = record {
  why = λ done h.
      let known : is_known c.args.params.now c.args.row.node ≡ true = search rules in
      let starts : is_coldstart c.args.params.now c.args.row.node ≡ true = search rules in
      let turn : is_out_of_turn (last_at c.args.row.node done) c.args.row ≡ false =
      ap (λ (o : Option Last). is_out_of_turn o c.args.row) (sym (c.get.ensures.value ∙ h.lasts c.args.row.node)) ∙ sym c.is_out_of_turn.ensures ∙ c.if-is_out_of_turn.false in
      rw (known, starts, turn) refl;
  adds = λ done r h e none. draft-switch c.args.self.now c.put.new.rows c.put-2.new.rows done r c.args.row h e (c.in_ok-put.ensures {u = tt}) (c.in_ok-put-2.ensures {u = tt});
}
