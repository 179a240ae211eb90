use Rattle.fr_check.proofs.deviations.action_instant.Goals as goal

pub instant-requires-clause-row : goal.instant-requires-clause-row
instant-requires-clause-row c = record {
  placeable = c.grid_of.ensures.placeable.terms c.args.row.now.rate c.args.row.now.offset c.requires.row.rate c.requires.row.offset;
  timed = c.requires.row.timed;
}
