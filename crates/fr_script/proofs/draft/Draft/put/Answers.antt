use Rattle.std.proofs.Common.{rules}
use Rattle.fr_script.proofs.Tables.{draft-deed_a, draft-deed_b, free_by, on_ok}
use Rattle.fr_script.proofs.draft.Draft.put.Goals as goal

pub returns-in-A : goal.returns-in-A
returns-in-A c = record {
  params = search rules;
  free = λ done h. rw c.in-A.is (free_by c.put.result _ _ (h.said_a c.args.act.passage) c.put.ensures.free);
  adds = λ done r h e empty.
      on_ok c.put.result
      (draft-deed_a c.args.self.now c.put.new.self done r c.args.act.passage c.args.act.deed h (rw c.in-A.is at e) (rw c.in-A.is at empty) c.requires)
      c.put.ensures.there c.put.ensures.ordered;
}

pub returns-in-B : goal.returns-in-B
returns-in-B c = record {
  params = search rules;
  free = λ done h. rw c.in-B.is (free_by c.put-in-B.result _ _ (h.said_b c.args.act.passage) c.put-in-B.ensures.free);
  adds = λ done r h e empty.
      on_ok c.put-in-B.result
      (draft-deed_b c.args.self.now c.put-in-B.new.self done r c.args.act.passage c.args.act.deed h (rw c.in-B.is at e) (rw c.in-B.is at empty) c.requires)
      c.put-in-B.ensures.there c.put-in-B.ensures.ordered;
}
