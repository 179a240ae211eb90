use Rattle.std.proofs.Common.{refl, true, sym, ◌∙◌, List, ℕ, Some, Bor}
use Rattle.csv.specs.Records.{fields_of}
use Rattle.fr_text.proofs.Left.{Found, left_by-done, read-found, read-none}
use Rattle.fr_text.proofs.reader.Records.next.Goals as goal

-- the read found a record
found : (c : goal.Else-not-found) → Found (λ (s : Bor (List ℕ)). Some s.now) c.self.inside.reader c.read_byte_record.new.self (fields_of c.read_byte_record.new.row)
found c =
    let reading = c.self.invariant c.if-self.false in
    read-found (λ (s : Bor (List ℕ)). Some s.now) c.self.inside.reader c.read_byte_record.new.self (fields_of c.read_byte_record.new.row) reading
    (rw c.if-not-found.false at (c.in-Ok.ensures.reads reading.untrimmed reading.ready))
    c.in-Ok.ensures.goes c.in-Ok.ensures.flexible (c.in-Ok.ensures.reads_on c.if-not-found.false)

pub returns-then-self-clause-reads : goal.returns-then-self-clause-reads
returns-then-self-clause-reads c = sym c.self.view_is ∙ left_by-done c.self.inside.done _ _ c.if-self.true

pub returns-then-self-clause-ends : goal.returns-then-self-clause-ends
returns-then-self-clause-ends c = λ _. sym c.self.view_is ∙ left_by-done c.self.inside.done _ _ c.if-self.true

pub returns-in_default-clause-stops : goal.returns-in_default-clause-stops
returns-in_default-clause-stops c = left_by-done true _ _ refl

pub invariant_of-self-else-not-found : goal.invariant_of-self-else-not-found
invariant_of-self-else-not-found c = λ _. (found c).reading

pub returns-then-not-found-clause-reads : goal.returns-then-not-found-clause-reads
returns-then-not-found-clause-reads c =
    let reading = c.self.invariant c.if-self.false in
    rw c.if-not-found.true
    (sym c.self.view_is
    ∙ read-none (λ (s : Bor (List ℕ)). Some s.now) c.self.inside.reader c.read_byte_record.new.self (fields_of c.read_byte_record.new.row) reading
    (rw c.if-not-found.true at (c.in-Ok.ensures.reads reading.untrimmed reading.ready))
    c.self.inside.done c.if-self.false)

pub returns-then-not-found-clause-ends : goal.returns-then-not-found-clause-ends
returns-then-not-found-clause-ends c = λ _. left_by-done true _ _ refl

pub returns-else-not-found-clause-reads : goal.returns-else-not-found-clause-reads
returns-else-not-found-clause-reads c = rw c.if-not-found.false (sym c.self.view_is ∙ (found c).left c.self.inside.done c.if-self.false)
