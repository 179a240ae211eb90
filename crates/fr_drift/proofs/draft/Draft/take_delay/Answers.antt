use Rattle.std.proofs.Common.{◌≡◌, ◌∙◌, ap, Some, rules}
use mir.Val.{to_z, of_z}
use mir.Syntax.{w64}
use Rattle.std.proofs.lemmas.Int.{to_z-of_z}
use Rattle.fr_drift.specs.Keys.{delay_cmp, delay_key}
use Rattle.fr_drift.specs.Draft.{IsNewEntryPut}
use Rattle.fr_drift.proofs.Tables.{draft-delay_a, draft-delay_b, if_ok-map}
use Rattle.fr_drift.proofs.draft.Draft.take_delay.Goals as goal

pub returns-in-A : goal.returns-in-A
returns-in-A c = record {
  why = search rules;
  adds = λ done r h e.
      let back : to_z w64 (of_z w64 c.args.row.ticks) ≡ c.args.row.ticks = to_z-of_z w64 c.args.row.ticks (search rules) in
      if_ok-map c.put.result _ _
      (λ why puts none.
      let put : IsNewEntryPut delay_cmp c.args.self.now.delays_a c.put.new.rows (delay_key c.args.row.sender c.args.row.receiver c.args.row.from) (to_z w64 (of_z w64 c.args.row.ticks)) =
      puts none
      in
      draft-delay_a c.args.self.now c.put.new.rows done r c.args.row h e (c.in-Some.is ∙ ap Some c.in-A.is) c.requires (rw back at put))
      c.put.ensures.puts;
}

pub returns-in-B : goal.returns-in-B
returns-in-B c = record {
  why = search rules;
  adds = λ done r h e.
      let back : to_z w64 (of_z w64 c.args.row.ticks) ≡ c.args.row.ticks = to_z-of_z w64 c.args.row.ticks (search rules) in
      if_ok-map c.put-in-B.result _ _
      (λ why puts none.
      let put : IsNewEntryPut delay_cmp c.args.self.now.delays_b c.put-in-B.new.rows (delay_key c.args.row.sender c.args.row.receiver c.args.row.from) (to_z w64 (of_z w64 c.args.row.ticks)) =
      puts none
      in
      draft-delay_b c.args.self.now c.put-in-B.new.rows done r c.args.row h e (c.in-Some.is ∙ ap Some c.in-B.is) c.requires (rw back at put))
      c.put-in-B.ensures.puts;
}
