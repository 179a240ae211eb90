use Rattle.fr_promise.proofs.StrayLemmas.{later_strays_less, none_strays, walk_is_held_through}
use Rattle.fr_promise.proofs.among.strays_are_held.Goals as goal

pub returns-clause-held : goal.returns-clause-held
returns-clause-held c = walk_is_held_through

pub returns-clause-later : goal.returns-clause-later
returns-clause-later c = later_strays_less

pub returns-clause-none : goal.returns-clause-none
returns-clause-none c = none_strays
