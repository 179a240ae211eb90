use Rattle.std.proofs.Common.{rules}
use Rattle.fr_drift.proofs.Tables.{draft-start, if_ok-map}
use Rattle.fr_drift.proofs.draft.Draft.take_start.Goals as goal

pub returns : goal.returns
returns c = record {
  why = search rules;
  adds = λ done r h e.
      if_ok-map c.put.result _ _
      (λ why puts none. draft-start c.args.self.now c.put.new.rows done r c.args.row h e c.requires (puts none))
      c.put.ensures.puts;
}
