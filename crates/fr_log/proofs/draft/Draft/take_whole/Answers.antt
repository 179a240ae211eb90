use Rattle.std.proofs.Common.{rules}
use Rattle.fr_log.proofs.Tables.{draft-more, with-whole}
use Rattle.fr_log.proofs.draft.Draft.take_whole.Goals as goal

pub returns : goal.returns
returns c = record {
  params = search rules;
  takes = record {
    why = search rules;
    adds = λ done r h e none. draft-more c.args.self.now _ done r _ h e (with-whole c.args.self.now done h);
  };
}
