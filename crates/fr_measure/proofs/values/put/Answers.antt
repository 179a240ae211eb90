use Rattle.std.proofs.Common.{pos}
use Rattle.std.specs.Option.{ForSome}
use Rattle.std.proofs.lemmas.List.Elements.{All-set}
use Rattle.fr_base.specs.Within.{IsWithin}
use Rattle.fr_measure.proofs.ReadBack.{ForSome-read}
use Rattle.fr_measure.proofs.values.put.Goals as goal

pub returns-clause-all_within : goal.returns-clause-all_within
returns-clause-all_within c =
    All-set
    (λ entry. ForSome entry (IsWithin (pos 1000000)))
    _
    _
    _
    (ForSome-read _ c.requires.within)
    c.requires.all_within
