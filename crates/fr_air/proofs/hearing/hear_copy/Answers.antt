use Rattle.std.proofs.Common.{◌≡◌, ◌++◌, ℤ, pos, List, ℕ, Some, w64, length, drop, set, take, subst}
use Rattle.std.proofs.lemmas.Int.{to_z-of_z}
use Rattle.std.specs.Prelude.{slice_get}
use Rattle.fr_base.specs.Within.{IsWithin}
use Rattle.fr_pool.specs.Pool.{written_in}
use Rattle.fr_air.proofs.Fitting.{back}
use Rattle.fr_air.proofs.Staying.{few-bytes, front-long, out-taken, read-back, stays-lent, stays-same}
use Rattle.fr_air.specs.Sending.{offer_at}
use Rattle.fr_air.specs.Turns.{HasAnswered}
use Rattle.fr_air.proofs.hearing.hear_copy.Goals as goal

pub take_spare-copy-requires : goal.take_spare-copy-requires
take_spare-copy-requires c = c.requires.spare

pub write-requires : goal.write-requires
write-requires c = out-taken c.args.pool.now c.take_spare-copy.new.pool c.take_spare-copy.result c.take_spare-copy.ensures

pub put_front-requires : goal.put_front-requires
put_front-requires c = few-bytes (length c.args.bytes.now) c.write.result.now c.requires.bytes c.write.ensures.whole

pub read-requires : goal.read-requires
read-requires c = out-taken c.args.pool.now c.take_spare-copy.new.pool c.take_spare-copy.result c.take_spare-copy.ensures

pub slice_bounds-hear_bytes-end : goal.slice_bounds-hear_bytes-end
slice_bounds-hear_bytes-end c = front-long (length c.args.bytes.now) c.read.result.now c.requires.bytes c.read.ensures.whole

pub hear_bytes-heard-requires-clause-hears : goal.hear_bytes-heard-requires-clause-hears
hear_bytes-heard-requires-clause-hears c = c.requires.hears

pub hear_bytes-heard-requires-clause-arrival : goal.hear_bytes-heard-requires-clause-arrival
hear_bytes-heard-requires-clause-arrival c = back (IsWithin (pos 4_000_000_000_000_000_000)) c.args.arrival c.ranges.arrival c.requires.arrival

pub give_back-requires : goal.give_back-requires
give_back-requires c = out-taken c.args.pool.now c.take_spare-copy.new.pool c.take_spare-copy.result c.take_spare-copy.ensures

pub returns-clause-answered : goal.returns-clause-answered
returns-clause-answered c =
    let a = c.args in
    let bytes : List ℕ = a.bytes.now in
    let rest : List ℕ = drop (length bytes) c.write.result.now in
    let read : slice_get (set c.take_spare-copy.new.pool.bytes c.take_spare-copy.result (bytes ++ rest)) c.take_spare-copy.result ≡ Some c.read.result.now =
    subst (λ out. slice_get (set c.take_spare-copy.new.pool.bytes c.take_spare-copy.result out) c.take_spare-copy.result ≡ Some c.read.result.now) c.put_front.ensures c.read.ensures.bytes in
    let same : take (length bytes) c.read.result.now ≡ bytes = read-back a.pool.now c.take_spare-copy.new.pool c.take_spare-copy.result bytes rest c.read.result.now c.take_spare-copy.ensures c.requires.whole read in
    let P : ℤ → Type 0 = λ at. HasAnswered a.files.now a.turn.now (offer_at a.turn.now at (take (length bytes) c.read.result.now)) a.node.now c.hear_bytes-heard.new.node c.hear_bytes-heard.result in
    let Q : List ℕ → Type 0 = λ heard. HasAnswered a.files.now a.turn.now (offer_at a.turn.now a.arrival heard) a.node.now c.hear_bytes-heard.new.node c.hear_bytes-heard.result in
    subst Q same (subst P (to_z-of_z w64 a.arrival c.ranges.arrival) c.hear_bytes-heard.ensures)

pub returns-clause-stays : goal.returns-clause-stays
returns-clause-stays c =
    let taken = c.take_spare-copy in
    stays-lent c.args.pool.now taken.new.pool (written_in taken.result c.put_front.new.out taken.new.pool) c.give_back.new.pool taken.result c.put_front.new.out taken.ensures
    (stays-same (written_in taken.result c.put_front.new.out taken.new.pool)) c.give_back.ensures
