use Rattle.std.proofs.Common.{rules, ◌≡◌, ◌<◌, Some, None, length, ◌∙◌, arith}
use mir.Val.{to_z, of_z}
use mir.Syntax.{w64}
use Rattle.std.proofs.lemmas.Int.{to_z-of_z}
use Rattle.std.proofs.lemmas.List.{length-set}
use Rattle.fr_params.specs.Draft.{entry}
use Rattle.fr_params.proofs.TableOfTwo.{missing-in, numbers-more, some-is}
use Rattle.fr_params.proofs.reading.all_numbers.Goals as goal

pub returns-in-None-clause-missing : goal.returns-in-None-clause-missing
returns-in-None-clause-missing c =
    let none : entry c.args.values.now c.place_of.result ≡ None = c.in-None.is in
    missing-in c.args.version c.args.values.now c.loop-place.place c.row_name-name.result c.loop-place-test.true c.row_name-name.ensures
    (rw c.place_of.ensures at none) (λ j lt. some-is _ _ (c.loop-place.invariant.taken j lt))

pub loop-place-preserved : goal.loop-place-preserved
loop-place-preserved c =
    let value : to_z w64 (of_z w64 c.in-Some.value) ≡ c.in-Some.value = to_z-of_z w64 c.in-Some.value (search rules) in
    let some : entry c.args.values.now c.place_of.result ≡ Some c.in-Some.value = c.in-Some.is in
    let room : c.loop-place.place < length c.loop-place.numbers = omega (arith, c.loop-place.invariant.long, c.loop-place-test.true) in
    rw value
    (record {
      long = length-set c.loop-place.numbers c.loop-place.place c.in-Some.value ∙ c.loop-place.invariant.long;
      taken =
          numbers-more c.args.version c.args.values.now c.loop-place.numbers c.loop-place.place c.in-Some.value room
          (rw (c.place_of.ensures, c.row_name-name.ensures) at some) c.loop-place.invariant.taken;
    })
