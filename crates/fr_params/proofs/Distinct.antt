-- Keys that are all different.
use Rattle.std.proofs.Common.{◌≡◌, ◌≢◌, ℕ, ◌+◌, ◌<◌, List, length, take, sym, ◌∙◌, arith, ◌⊎◌, inl, inr}
use Rattle.std.specs.Prelude.{AllPairs, Contains, get_or}
use Rattle.std.proofs.lemmas.Bool.{cases_eq}
use Rattle.std.proofs.lemmas.List.{get_or-take, get_or_default, length-take}

-- those below a place are all different
abbrev pub DifferBelow : List ℕ → ℕ → Type 0
DifferBelow keys p = (i j : ℕ) (d : ℕ) → i < j → j < p → get_or keys i d ≡ get_or keys j d → ⊥

-- an earlier key that is equal is among the keys before
among : (keys : List ℕ) (p i : ℕ) (d : ℕ) → p < length keys → i < p → get_or keys i d ≡ get_or keys p d → Contains (take p keys) (get_or keys p 0)
among keys p i d room lt e =
    let few = length-take p keys in
    let a = get_or-take p keys i (get_or keys p 0) lt in
    let b = get_or_default keys i (get_or keys p 0) d (omega arith) in
    let c = get_or_default keys p d 0 room in
    (i, omega arith, a ∙ b ∙ e ∙ c)

pub differ-more : (keys : List ℕ) (p : ℕ) → p < length keys → DifferBelow keys p → (Contains (take p keys) (get_or keys p 0) → ⊥) → DifferBelow keys (p + 1)
differ-more keys p room front new i j d lt below e = by (cases_eq j p)
  where
    by : (j ≡ p) ⊎ (j ≡ p → ⊥) → ⊥
    by (inl same) = new (among keys p i d room (omega arith) (rw same at e))
    by (inr ne) = front i j d lt (omega arith) e

pub differ-not : (keys : List ℕ) (p : ℕ) → p < length keys → Contains (take p keys) (get_or keys p 0) → AllPairs (λ a b. a ≢ b) keys → ⊥
differ-not keys p room there all =
    let few = length-take p keys in
    let lt : there.0 < p = omega (arith, there.1) in
    all there.0 p (get_or keys p 0) lt room
    (sym (get_or-take p keys there.0 (get_or keys p 0) lt) ∙ there.2 ∙ get_or_default keys p 0 (get_or keys p 0) room)
