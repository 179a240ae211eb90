-- What becomes of a frame between a sender and a receiver: this program's own model of faults.
use Rattle.std.specs.Prelude.{ℕ, ℤ, List, Option}

-- The regular frame comes; nothing comes; it comes with one bit inverted, counted from 0, the first bit sent; or the
-- sender says a frame of its own, of these bytes or else its regular frame, so many ticks later than expected.
pub data Event : Type 0 where
  Regular : Event
  Silent : Event
  Flip : (bit : ℕ) → Event
  Say : (shift : ℤ) (bytes : Option (List ℕ)) → Event
