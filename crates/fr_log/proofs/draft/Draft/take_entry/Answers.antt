use Rattle.std.proofs.Common.{◌≡◌, rules, Some, Ok, refl, sym, ◌∙◌}
use Rattle.fr_log.specs.Reasons.{entry_said}
use Rattle.fr_log.specs.declared.entry.Entry.{Entry}
use Rattle.fr_log.specs.declared.rows.Row.TheVariants as row
use Rattle.fr_log.proofs.Tables.{draft-more, with-entry}
use Rattle.fr_log.proofs.draft.Draft.take_entry.Goals as goal

pub returns : goal.returns
returns c =
    let x = c.args.row in
    let entry : Entry = record { kind = x.kind; stamp = x.stamp; channel = c.in-Some.channel; bytes = c.in-Some-bytes.bytes } in
    let says : entry_said (Ok (row.Came x)) ≡ Some entry = rw (c.in-Some.is, c.in-Some-bytes.is) refl in
    record {
      params = search rules;
      takes = record {
        why = search rules;
        adds = λ done r h e none.
            draft-more c.args.self.now _ done r _ h e
            (with-entry c.args.self.now _ done entry x h
            (record { numbers = refl; whole = refl; arbitrary = refl; on_a = refl; on_b = refl; each = refl; entries = c.in_ok-push.ensures.items }) says
            (rw c.in-Some-bytes.is at c.requires.bytes) (sym (c.is_beyond_last.ensures done h) ∙ c.if-is_beyond_last.false)
            (sym (c.is_out_of_turn.ensures done h) ∙ c.if-is_out_of_turn.false));
      };
    }
