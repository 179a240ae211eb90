use Rattle.std.proofs.Common.{◌≡◌, length, rules}
use Rattle.fr_nm.proofs.Places.{or_twelve}
use Rattle.fr_nm.proofs.vector.or_bytes.Goals as goal

pub returns : goal.returns
returns c =
    let one : length c.args.one ≡ 12 = search rules in
    let other : length c.args.other ≡ 12 = search rules in
    or_twelve c.args.one c.args.other one other
