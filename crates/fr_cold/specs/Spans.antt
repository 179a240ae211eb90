-- Rows that stand under keys in an order: the first of a span of keys.
use Rattle.std.specs.Prelude.{◌≡◌, false, Option, None, IsSome, MatchOption}
use Rattle.std.specs.declared.cmp.Ordering.{Ordering}
use Rattle.std.specs.Ordering.{is_gt}

module _ {K : Type 0} (cmp : K → K → Ordering) where
  -- a key lies from one key to another
  pub record IsFromTo (first last key : K) : Type 0 where
    pub from : is_gt (cmp first key) ≡ false
    pub to : is_gt (cmp key last) ≡ false

  -- there is a row at the key, and none of the span stands before it
  pub record IsFirstRow {V : Type 0} (at : K → Option V) (first last found : K) : Type 0 where
    pub inside : IsFromTo first last found
    pub there : IsSome (at found)
    pub before : (key : K) → IsFromTo first last key → IsSome (at key) → is_gt (cmp found key) ≡ false

  -- the key of the first row of a span of keys, None where it has none
  abbrev pub IsFirstIn : {V : Type 0} → (K → Option V) → K → K → Option K → Type 0
  IsFirstIn at first last found = MatchOption found ((key : K) → IsFromTo first last key → at key ≡ None) (IsFirstRow at first last)
