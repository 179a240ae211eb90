use Rattle.std.proofs.Common.{◌≡◌, None, rules}
use Rattle.fr_drift.proofs.Tables.{draft-doubles}
use Rattle.fr_drift.proofs.draft.Draft.take_doubles.Goals as goal

pub returns : goal.returns
returns c = λ p. record {
  why = search rules;
  adds = λ done r h e none.
      let empty : c.args.self.now.doubles ≡ None = search rules in draft-doubles c.args.self.now done r c.args.count h e c.requires empty;
}
