-- Rows that stand under keys in an order: the last and the first of a span of keys.
use Rattle.std.specs.Prelude.{◌≡◌, false, ℤ, Option, Some, None, IsSome, MatchOption}
use Rattle.std.specs.declared.cmp.Ordering.{Ordering}
use Rattle.std.specs.Ordering.{is_gt, is_lt}

module _ {K : Type 0} (cmp : K → K → Ordering) where
  -- a key lies from one key to another
  pub record IsFromTo (first last key : K) : Type 0 where
    pub from : is_gt (cmp first key) ≡ false
    pub to : is_gt (cmp key last) ≡ false

  -- the row is there, and none of the span stands after it
  pub record IsLastRow (at : K → Option ℤ) (first last : K) (row : K × ℤ) : Type 0 where
    pub inside : IsFromTo first last row.0
    pub there : at row.0 ≡ Some row.1
    pub after : (key : K) → IsFromTo first last key → IsSome (at key) → is_lt (cmp row.0 key) ≡ false

  -- the last row of a span of keys, None where it has none
  abbrev pub IsLastIn : (K → Option ℤ) → K → K → Option (K × ℤ) → Type 0
  IsLastIn at first last found = MatchOption found ((key : K) → IsFromTo first last key → at key ≡ None) (IsLastRow at first last)

  -- there is a row at the key, and none of the span stands before it
  pub record IsFirstRow (at : K → Option ℤ) (first last found : K) : Type 0 where
    pub inside : IsFromTo first last found
    pub there : IsSome (at found)
    pub before : (key : K) → IsFromTo first last key → IsSome (at key) → is_gt (cmp found key) ≡ false

  -- the key of the first row of a span of keys, None where it has none
  abbrev pub IsFirstIn : (K → Option ℤ) → K → K → Option K → Type 0
  IsFirstIn at first last found = MatchOption found ((key : K) → IsFromTo first last key → at key ≡ None) (IsFirstRow at first last)
