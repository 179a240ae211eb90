use Rattle.std.proofs.Common.{◌≡◌, ◌++◌, ℤ, pos, List, ℕ, Some, w64, length, drop, set, take, sym, subst}
use Rattle.std.proofs.lemmas.Int.{to_z-of_z}
use Rattle.std.specs.Prelude.{slice_get}
use Rattle.fr_base.specs.Within.{IsWithin}
use Rattle.fr_pool.specs.Pool.{written_in}
use Rattle.fr_air.proofs.Fitting.{back}
use Rattle.fr_air.proofs.Remembered.{in-cell}
use Rattle.fr_air.proofs.Staying.{all-read, out-taken, read-back, stays-lent, stays-same}
use Rattle.fr_air.specs.Listening.{after_catch, frame_with}
use Rattle.fr_air.specs.Sending.{offer_at}
use Rattle.fr_air.specs.Turns.{frame_of_turn}
use Rattle.fr_air.proofs.catching.catch_copy.Goals as goal

pub take_spare-copy-requires : goal.take_spare-copy-requires
take_spare-copy-requires c = c.requires.spare

pub write-requires : goal.write-requires
write-requires c = out-taken c.args.pool.now c.take_spare-copy.new.pool c.take_spare-copy.result c.take_spare-copy.ensures

pub write_inverted-count-requires-clause-sends : goal.write_inverted-count-requires-clause-sends
write_inverted-count-requires-clause-sends c = c.requires.sends

pub write_inverted-count-requires-clause-room : goal.write_inverted-count-requires-clause-room
write_inverted-count-requires-clause-room c = in-cell c.args.files.now.params c.sane.ensures c.write.result.now c.write.ensures.whole

pub read-requires : goal.read-requires
read-requires c = out-taken c.args.pool.now c.take_spare-copy.new.pool c.take_spare-copy.result c.take_spare-copy.ensures

pub slice_bounds-catch_bytes-end : goal.slice_bounds-catch_bytes-end
slice_bounds-catch_bytes-end c = all-read c.write_inverted-count.result c.write.result.now c.read.result.now c.write_inverted-count.ensures.within c.write.ensures.whole c.read.ensures.whole

pub catch_bytes-requires : goal.catch_bytes-requires
catch_bytes-requires c = back (IsWithin (pos 900_000_000_000_000_000)) c.args.arrival c.ranges.arrival c.requires.arrival

pub give_back-requires : goal.give_back-requires
give_back-requires c = out-taken c.args.pool.now c.take_spare-copy.new.pool c.take_spare-copy.result c.take_spare-copy.ensures

pub returns-clause-caught : goal.returns-clause-caught
returns-clause-caught c =
    let a = c.args in
    let bytes : List ℕ = frame_with a.bit (frame_of_turn a.files.now a.turn.now a.sending.now) in
    let n : ℕ = c.write_inverted-count.result in
    let rest : List ℕ = drop n c.write.result.now in
    let read : slice_get (set c.take_spare-copy.new.pool.bytes c.take_spare-copy.result (bytes ++ rest)) c.take_spare-copy.result ≡ Some c.read.result.now =
    subst (λ out. slice_get (set c.take_spare-copy.new.pool.bytes c.take_spare-copy.result out) c.take_spare-copy.result ≡ Some c.read.result.now) c.write_inverted-count.ensures.written c.read.ensures.bytes in
    let whole : take (length bytes) c.read.result.now ≡ bytes = read-back a.pool.now c.take_spare-copy.new.pool c.take_spare-copy.result bytes rest c.read.result.now c.take_spare-copy.ensures c.requires.whole read in
    let P : ℕ → Type 0 = λ k. take k c.read.result.now ≡ bytes in
    let same : take n c.read.result.now ≡ bytes = subst P (sym c.write_inverted-count.ensures.count) whole in
    let R : ℤ → Type 0 = λ at. c.catch_bytes.new.listener ≡ after_catch a.turn.now (Some (offer_at a.turn.now at (take n c.read.result.now))) a.listener.now in
    let caught : R a.arrival = subst R (to_z-of_z w64 a.arrival c.ranges.arrival) c.catch_bytes.ensures in
    let Q : List ℕ → Type 0 = λ heard. c.catch_bytes.new.listener ≡ after_catch a.turn.now (Some (offer_at a.turn.now a.arrival heard)) a.listener.now in
    subst Q same caught

pub returns-clause-stays : goal.returns-clause-stays
returns-clause-stays c =
    let taken = c.take_spare-copy in
    stays-lent c.args.pool.now taken.new.pool (written_in taken.result c.write_inverted-count.new.out taken.new.pool) c.give_back.new.pool taken.result c.write_inverted-count.new.out taken.ensures
    (stays-same (written_in taken.result c.write_inverted-count.new.out taken.new.pool)) c.give_back.ensures
