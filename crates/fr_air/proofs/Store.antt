-- A stored deviation in a table.
use Rattle.std.proofs.Common.{◌≡◌, ◌≢◌, ℕ, ◌<◌, ◌∙◌, ℤ, Bool, true, false, Option, Some, None, List, length, get_or, set, refl, arith, get_or-set_same, get_or-set_other, length-set}
use Rattle.fr_base.specs.declared.channel.Channel.{Channel}
use Rattle.fr_base.specs.declared.channel.Channel.TheVariants.{A, B}
use Rattle.fr_measure.specs.Readings.{Readings, column, reading, stored}

-- each column has a place for each of the 15 key indexes
pub record IsTable (t : Readings) : Type 0 where
  pub even_a : length t.even_a ≡ 15
  pub even_b : length t.even_b ≡ 15
  pub odd_a : length t.odd_a ≡ 15
  pub odd_b : length t.odd_b ≡ 15

pub stored-table : (t : Readings) (k : ℕ) (o : Bool) (c : Channel) (v : ℤ) → IsTable t → IsTable (stored t k o c v)
stored-table t k false A v is = record { even_a = length-set t.even_a k (Some v) ∙ is.even_a; even_b = is.even_b; odd_a = is.odd_a; odd_b = is.odd_b }
stored-table t k false B v is = record { even_a = is.even_a; even_b = length-set t.even_b k (Some v) ∙ is.even_b; odd_a = is.odd_a; odd_b = is.odd_b }
stored-table t k true A v is = record { even_a = is.even_a; even_b = is.even_b; odd_a = length-set t.odd_a k (Some v) ∙ is.odd_a; odd_b = is.odd_b }
stored-table t k true B v is = record { even_a = is.even_a; even_b = is.even_b; odd_a = is.odd_a; odd_b = length-set t.odd_b k (Some v) ∙ is.odd_b }

set_same : (xs : List (Option ℤ)) (k : ℕ) (v : ℤ) → length xs ≡ 15 → k < 15 → get_or (set xs k (Some v)) k None ≡ Some v
set_same xs k v long below = let lt : k < length xs = omega arith in rw get_or-set_same refl

set_other : (xs : List (Option ℤ)) (k i : ℕ) (v : ℤ) → i ≢ k → get_or (set xs k (Some v)) i None ≡ get_or xs i None
set_other xs k i v differs = let ne : i ≢ k = differs in rw get_or-set_other refl

pub stored_here : (t : Readings) (k : ℕ) (o : Bool) (c : Channel) (v : ℤ) → IsTable t → k < 15 → reading (stored t k o c v) k o c ≡ Some v
stored_here t k false A v is below = set_same t.even_a k v is.even_a below
stored_here t k false B v is below = set_same t.even_b k v is.even_b below
stored_here t k true A v is below = set_same t.odd_a k v is.odd_a below
stored_here t k true B v is below = set_same t.odd_b k v is.odd_b below

pub stored_index : (t : Readings) (k i : ℕ) (o p : Bool) (c d : Channel) (v : ℤ) → i ≢ k → reading (stored t k o c v) i p d ≡ reading t i p d
stored_index t k i false false A A v ne = set_other t.even_a k i v ne
stored_index t k i false false B B v ne = set_other t.even_b k i v ne
stored_index t k i true true A A v ne = set_other t.odd_a k i v ne
stored_index t k i true true B B v ne = set_other t.odd_b k i v ne
stored_index t k i false false A B v ne = refl
stored_index t k i false false B A v ne = refl
stored_index t k i true true A B v ne = refl
stored_index t k i true true B A v ne = refl
stored_index t k i false true A A v ne = refl
stored_index t k i false true A B v ne = refl
stored_index t k i false true B A v ne = refl
stored_index t k i false true B B v ne = refl
stored_index t k i true false A A v ne = refl
stored_index t k i true false A B v ne = refl
stored_index t k i true false B A v ne = refl
stored_index t k i true false B B v ne = refl

-- a deviation on one channel leaves the other, one of one parity the other
pub stored_on_a : (t : Readings) (k i : ℕ) (o : Bool) (v : ℤ) → reading (stored t k o A v) i o B ≡ reading t i o B
stored_on_a t k i false v = refl
stored_on_a t k i true v = refl

pub stored_on_b : (t : Readings) (k i : ℕ) (o : Bool) (v : ℤ) → reading (stored t k o B v) i o A ≡ reading t i o A
stored_on_b t k i false v = refl
stored_on_b t k i true v = refl

pub stored_even : (t : Readings) (k : ℕ) (c d : Channel) (v : ℤ) → column (stored t k false c v) true d ≡ column t true d
stored_even t k A A v = refl
stored_even t k A B v = refl
stored_even t k B A v = refl
stored_even t k B B v = refl

pub stored_odd : (t : Readings) (k : ℕ) (c d : Channel) (v : ℤ) → column (stored t k true c v) false d ≡ column t false d
stored_odd t k A A v = refl
stored_odd t k A B v = refl
stored_odd t k B A v = refl
stored_odd t k B B v = refl
