use Rattle.std.proofs.Common.{◌≡◌, ◌∙◌, ◌-◌, Some, length, slice_get, ap, sym}
use Rattle.std.specs.Option.{option_copied}
use Rattle.fr_sightings.proofs.Windows.{first-last, from-first}
use Rattle.fr_findings.proofs.census.missed_of.Goals as goal

pub missed_between-requires-clause-from : goal.missed_between-requires-clause-from
missed_between-requires-clause-from c =
    let first : slice_get c.args.seen.now 0 ≡ Some c.in-Some.first.now = sym c.first.ensures.value ∙ ap option_copied c.in-Some.is in
    from-first c.args.seen.now c.in-Some.first.now first c.requires.ascend

pub missed_between-requires-clause-first : goal.missed_between-requires-clause-first
missed_between-requires-clause-first c =
    let first : slice_get c.args.seen.now 0 ≡ Some c.in-Some.first.now = sym c.first.ensures.value ∙ ap option_copied c.in-Some.is in
    let last : slice_get c.args.seen.now (length c.args.seen.now - 1) ≡ Some c.in-Some-last.last.now = sym c.last.ensures.value ∙ ap option_copied c.in-Some-last.is in
    first-last c.args.seen.now c.in-Some.first.now c.in-Some-last.last.now first last c.requires.ascend
