use Rattle.std.proofs.Common.{◌≡◌, ℤ, pos, List, ℕ, w64, take, sym, subst}
use Rattle.std.proofs.lemmas.Int.{to_z-of_z}
use Rattle.fr_base.specs.Within.{IsWithin}
use Rattle.fr_pool.specs.Pool.{PoolView, IsOut}
use Rattle.fr_reception.specs.Offers.{flipped}
use Rattle.fr_air.proofs.Fitting.{back}
use Rattle.fr_air.proofs.Staying.{copy-lent, copy-read, few-bytes, front-long, out-kept, out-taken}
use Rattle.fr_air.specs.Memory.{frame_at}
use Rattle.fr_air.specs.Sending.{offer_at}
use Rattle.fr_air.specs.Turns.{HasAnswered}
use Rattle.fr_air.proofs.hearing.hear_flipped.Goals as goal

pub take_spare-copy-requires : goal.take_spare-copy-requires
take_spare-copy-requires c = c.requires.stands.spare

pub copy-requires-clause-from : goal.copy-requires-clause-from
copy-requires-clause-from c = out-kept c.args.pool.now c.take_spare-copy.new.pool c.take_spare-copy.result c.args.cell.now c.take_spare-copy.ensures c.requires.stands.out

pub copy-requires-clause-to : goal.copy-requires-clause-to
copy-requires-clause-to c = out-taken c.args.pool.now c.take_spare-copy.new.pool c.take_spare-copy.result c.take_spare-copy.ensures

pub write-requires : goal.write-requires
write-requires c =
    let P : PoolView → Type 0 = λ pool. IsOut pool c.take_spare-copy.result in
    subst P (sym c.copy.ensures) (out-taken c.args.pool.now c.take_spare-copy.new.pool c.take_spare-copy.result c.take_spare-copy.ensures)

pub flip_front-requires : goal.flip_front-requires
flip_front-requires c = few-bytes c.args.bytes c.write.result.now c.requires.stands.short c.write.ensures.whole

pub read-requires : goal.read-requires
read-requires c =
    let P : PoolView → Type 0 = λ pool. IsOut pool c.take_spare-copy.result in
    subst P (sym c.copy.ensures) (out-taken c.args.pool.now c.take_spare-copy.new.pool c.take_spare-copy.result c.take_spare-copy.ensures)

pub slice_bounds-hear_bytes-end : goal.slice_bounds-hear_bytes-end
slice_bounds-hear_bytes-end c = front-long c.args.bytes c.read.result.now c.requires.stands.short c.read.ensures.whole

pub hear_bytes-heard-requires-clause-hears : goal.hear_bytes-heard-requires-clause-hears
hear_bytes-heard-requires-clause-hears c = c.requires.hears

pub hear_bytes-heard-requires-clause-arrival : goal.hear_bytes-heard-requires-clause-arrival
hear_bytes-heard-requires-clause-arrival c = back (IsWithin (pos 4_000_000_000_000_000_000)) c.args.arrival c.ranges.arrival c.requires.arrival

pub give_back-requires : goal.give_back-requires
give_back-requires c =
    let P : PoolView → Type 0 = λ pool. IsOut pool c.take_spare-copy.result in
    subst P (sym c.copy.ensures) (out-taken c.args.pool.now c.take_spare-copy.new.pool c.take_spare-copy.result c.take_spare-copy.ensures)

pub returns-clause-answered : goal.returns-clause-answered
returns-clause-answered c =
    let a = c.args in
    let k : ℕ = c.take_spare-copy.result in
    let same : take a.bytes c.read.result.now ≡ flipped a.bit (frame_at a.pool.now a.cell.now a.bytes) =
    copy-read a.pool.now c.take_spare-copy.new.pool c.copy.new.self a.cell.now k a.bytes a.bit c.write.result.now c.flip_front.new.bytes c.read.result.now c.take_spare-copy.ensures c.requires.stands
    c.copy.ensures c.write.ensures.bytes c.flip_front.ensures c.read.ensures.bytes in
    let P : ℤ → Type 0 = λ at. HasAnswered a.files.now a.turn.now (offer_at a.turn.now at (take a.bytes c.read.result.now)) a.node.now c.hear_bytes-heard.new.node c.hear_bytes-heard.result in
    let Q : List ℕ → Type 0 = λ heard. HasAnswered a.files.now a.turn.now (offer_at a.turn.now a.arrival heard) a.node.now c.hear_bytes-heard.new.node c.hear_bytes-heard.result in
    subst Q same (subst P (to_z-of_z w64 a.arrival c.ranges.arrival) c.hear_bytes-heard.ensures)

pub returns-clause-stays : goal.returns-clause-stays
returns-clause-stays c =
    copy-lent c.args.pool.now c.take_spare-copy.new.pool c.copy.new.self c.give_back.new.pool c.args.cell.now c.take_spare-copy.result c.flip_front.new.bytes c.take_spare-copy.ensures c.copy.ensures c.give_back.ensures
