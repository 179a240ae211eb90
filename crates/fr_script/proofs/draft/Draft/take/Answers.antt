use Rattle.fr_script.proofs.draft.Draft.take.Goals as goal

pub returns-in-Arbitrary : goal.returns-in-Arbitrary
returns-in-Arbitrary c =
    let taken = c.take_node.ensures in
    rw c.in-Arbitrary.is (record { params = taken.params; takes = record { why = taken.takes.why; adds = taken.takes.adds } })

pub returns-in-Deed : goal.returns-in-Deed
returns-in-Deed c = rw c.in-Deed.is c.take_deed.ensures
