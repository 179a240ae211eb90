use Rattle.fr_check.proofs.rows.start_behind.Goals as goal

pub sound_row-requires : goal.sound_row-requires
sound_row-requires c = c.in-Some.ensures.last c.args.params.now c.requires
