use Rattle.fr_air.proofs.Deciding.{decided-setting}
use Rattle.fr_air.specs.Files.{setting_in}
use Rattle.fr_air.proofs.files.files_are_lawful.Goals as goal

pub returns : goal.returns
returns c n =
    let f = c.args.files.now in
    c.one_lawful_run.ensures.lawful (setting_in f) n
    (decided-setting f.params f.drift f.script c.sane.ensures c.arbitrary-named.ensures.sane c.events_are_proper.ensures)
