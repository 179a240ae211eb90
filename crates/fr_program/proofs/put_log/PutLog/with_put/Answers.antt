use Rattle.std.proofs.Common.{◌≡◌, ◌+◌, ◌++◌, ◌∷◌, [], length, length-append, ap, ap₂, ◌∙◌, arith, rules}
use Rattle.fr_program.specs.declared.put_log.PutMark.{PutMark}
use Rattle.fr_program.specs.PutMarks.{lengths_of, puts_by}
use Rattle.fr_program.proofs.PutLogs.{lengths_more, puts_more}
use Rattle.fr_program.proofs.put_log.PutLog.with_put.Goals as goal

pub invariant_of-result : goal.invariant_of-result
invariant_of-result c =
    let mark : PutMark = record { length = length c.args.piece.now; is_whole = c.args.is_whole } in
    let bytes : c.extend_from_slice.new.self.items ≡ c.args.self.bytes.items ++ c.args.piece.now = search rules in
    let marks : c.push.new.self.items ≡ c.args.self.marks.items ++ mark ∷ [] = search rules in
    let long : length c.extend_from_slice.new.self.items ≡ length c.args.self.bytes.items + length c.args.piece.now =
    ap length bytes ∙ length-append c.args.self.bytes.items c.args.piece.now in
    let more : lengths_of c.push.new.self.items ≡ lengths_of c.args.self.marks.items + length c.args.piece.now =
    ap lengths_of marks ∙ lengths_more c.args.self.marks.items mark in
    let even : lengths_of c.args.self.marks.items ≡ length c.args.self.bytes.items = c.args.self.measured in
    record {
      measured = omega (arith, long, more, even);
      bytes_reserved = search rules;
      marks_reserved = search rules;
      bytes_within = search rules;
      marks_within = search rules;
    }

pub returns-clause-added : goal.returns-clause-added
returns-clause-added c =
    let mark : PutMark = record { length = length c.args.piece.now; is_whole = c.args.is_whole } in
    let bytes : c.extend_from_slice.new.self.items ≡ c.args.self.bytes.items ++ c.args.piece.now = search rules in
    let marks : c.push.new.self.items ≡ c.args.self.marks.items ++ mark ∷ [] = search rules in
    ap₂ puts_by marks bytes ∙ puts_more c.args.self.marks.items c.args.self.bytes.items c.args.piece.now c.args.is_whole c.args.self.measured
