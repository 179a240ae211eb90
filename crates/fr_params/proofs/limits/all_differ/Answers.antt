use Rattle.std.proofs.Common.{take}
use Rattle.std.specs.Prelude.{Contains}
use Rattle.std.proofs.lemmas.List.{get_or_read}
use Rattle.fr_params.proofs.Distinct.{differ-more, differ-not}
use Rattle.fr_params.proofs.limits.all_differ.Goals as goal

pub returns-then-is_among : goal.returns-then-is_among
returns-then-is_among c =
    let key = get_or_read c.args.keys.now c.loop-place.place c.index-keys-place.result c.loop-place-test.true c.index-keys-place.is 0 in
    let there : Contains (take c.loop-place.place c.args.keys.now) c.index-keys-place.result = c.is_among.ensures.0 c.if-is_among.true in (
      λ e. cc e,
      λ all. absurd (differ-not c.args.keys.now c.loop-place.place c.loop-place-test.true (rw key at there) all),
    )

pub loop-place-preserved : goal.loop-place-preserved
loop-place-preserved c =
    let key = get_or_read c.args.keys.now c.loop-place.place c.index-keys-place.result c.loop-place-test.true c.index-keys-place.is 0 in
    differ-more c.args.keys.now c.loop-place.place c.loop-place-test.true c.loop-place.invariant
    (λ there.
    let here : Contains (take c.loop-place.place c.args.keys.now) c.index-keys-place.result = rw key there in
    let yes = c.is_among.ensures.1 here in
    let no = c.if-is_among.false in
    cc)
