use Rattle.std.proofs.Common.{◌≡◌, None, rules}
use Rattle.fr_cold.proofs.Tables.{draft-cycles}
use Rattle.fr_cold.proofs.draft.Draft.take_cycles.Goals as goal

pub returns : goal.returns
returns c = λ p. record {
  why = search rules;
  adds = λ done r h e none.
      let empty : c.args.self.now.cycles ≡ None = search rules in draft-cycles c.args.self.now done r c.args.count h e c.requires empty;
}
