use Rattle.std.proofs.Common.{◌≡◌, ◌+◌, ◌≤◌, List, [], ◌∷◌, ◌++◌, length, None, ap, sym, ◌∙◌, arith, append_assoc, length-append}
use Rattle.fr_text.specs.Plain.{fields_of}
use Rattle.fr_text.specs.Records.{FileRecord, records_of}
use Rattle.fr_text.proofs.Cuts.{none-more}
use Rattle.fr_text.proofs.Left.{records_of-few}
use Rattle.fr_text.proofs.filling.read_records.Goals as goal

-- what is done and one record more are no more than all
length-done : (all done left rest : List FileRecord) (x : FileRecord) → all ≡ done ++ left → left ≡ x ∷ rest → length done + 1 ≤ length all
length-done all done left rest x e f = omega (arith, ap length e, ap length f, length-append done left)

-- the record that was read moves from what is left to what is done
moved : (all done left rest : List FileRecord) (x : FileRecord) → all ≡ done ++ left → left ≡ x ∷ rest → all ≡ (done ++ x ∷ []) ++ rest
moved all done left rest x e f = e ∙ ap (λ (xs : List FileRecord). done ++ xs) f ∙ sym (append_assoc done (x ∷ []) rest)

pub overflow_add-number : goal.overflow_add-number
overflow_add-number g c =
    let inv = c.rows.invariant in
    let read = rw c.if-not-found.false at c.in-Ok.ensures.reads in
    let one_more = length-done (records_of c.args.bytes.now) inv.0 c.rows.records c.next.new.self (fields_of c.next.new.row) inv.1 read in
    let few = records_of-few c.args.bytes.now in
    omega arith

pub rows-preserved : goal.rows-preserved
rows-preserved g c =
    let inv = c.rows.invariant in
    let row = fields_of c.next.new.row in
    let read = rw c.if-not-found.false at c.in-Ok.ensures.reads in
    let why = c.in-Ok-None.ensures.takes.why inv.0 inv.3 in
    let reason : g.T.RecordTable.reason c.rows.table inv.0 row ≡ g.T.RecordTable.reason c.args.table.now inv.0 row =
    ap (λ (f : List FileRecord → FileRecord → _). f inv.0 row) inv.5
    in
    let fine : g.T.RecordTable.reason c.args.table.now inv.0 row ≡ None = sym reason ∙ sym why ∙ c.in-Ok-None.field-0-is in (
      inv.0 ++ row ∷ [],
      moved (records_of c.args.bytes.now) inv.0 c.rows.records c.next.new.self row inv.1 read,
      none-more (g.T.RecordTable.reason c.args.table.now) inv.0 row inv.2 fine,
      c.in-Ok-None.ensures.takes.adds inv.0 inv.3 c.in-Ok-None.field-0-is,
      let longer = length-append inv.0 (row ∷ []) in omega (arith, inv.4),
      c.in-Ok-None.ensures.same ∙ inv.5,
    )
