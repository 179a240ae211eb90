use Rattle.std.proofs.Common.{◌≡◌, rules, List, None}
use Rattle.fr_text.specs.Records.{FileRecord}
use Rattle.fr_log.specs.Draft.{IsLogDraft}
use Rattle.fr_log.specs.Reasons.{each_reason}
use Rattle.fr_log.proofs.Tables.{draft-more, with-each}
use Rattle.fr_log.proofs.Taken.{each-free, in-order}
use Rattle.fr_log.proofs.draft.Draft.take_each.Goals as goal

pub returns : goal.returns
returns c =
    let why : (done : List FileRecord) → IsLogDraft c.args.self.now done → None ≡ each_reason done c.args.limits = search rules in
    record {
      params = search rules;
      takes = record {
        why = why;
        adds = λ done r h e none.
            let free = each-free done c.args.limits (why done h) in
            draft-more c.args.self.now _ done r _ h e (with-each c.args.self.now done c.args.limits h (in-order c.args.limits free.fits c.requires) free.none);
      };
    }
