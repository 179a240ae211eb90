use Rattle.std.proofs.Common.{◌≡◌, rules}
use mir.Val.{to_z, of_z}
use mir.Syntax.{w64}
use Rattle.std.proofs.lemmas.Int.{to_z-of_z}
use Rattle.fr_drift.specs.Keys.{length_cmp, length_key}
use Rattle.fr_drift.specs.Draft.{IsNewEntryPut}
use Rattle.fr_drift.proofs.Tables.{draft-length, if_ok-map}
use Rattle.fr_drift.proofs.draft.Draft.take_length.Goals as goal

pub returns : goal.returns
returns c = record {
  why = search rules;
  adds = λ done r h e.
      let back : to_z w64 (of_z w64 c.args.row.ticks) ≡ c.args.row.ticks = to_z-of_z w64 c.args.row.ticks (search rules) in
      if_ok-map c.put.result _ _
      (λ why puts none.
      let put : IsNewEntryPut length_cmp c.args.self.now.lengths c.put.new.rows (length_key c.args.row.node c.args.row.from) (to_z w64 (of_z w64 c.args.row.ticks)) = puts none in
      draft-length c.args.self.now c.put.new.rows done r c.args.row h e c.requires (rw back at put))
      c.put.ensures.puts;
}
