-- A frame that stands in a cell stays there while other cells are taken, written and given back.
use Rattle.std.proofs.Common.{◌≡◌, ◌≢◌, ℕ, ◌<◌, ◌≤◌, ◌-◌, ◌/◌, ◌%◌, ◌^◌, bit_xor, Bool, true, false, List, [], length, take, drop, get_or, ◌++◌, set, Some, refl, ap, sym, subst, ◌∙◌, arith}
use Rattle.std.specs.Prelude.{slice_get}
use Rattle.std.proofs.lemmas.List.{get_or-set_other, get_or-set_same, length-set, length-take-le, set-set, take_at}
use Rattle.std.proofs.lemmas.Option.{get_or_from_slice_get, slice_get-get_or, slice_get_within}
use Rattle.fr_pool.specs.Pool.{PoolView, IsOut, Takes, copied_in, given_back, taken_out, written_in}
use Rattle.fr_reception.specs.Offers.{flipped}
use Rattle.fr_pool.proofs.Returning.{set-returned}
use Rattle.fr_air.specs.Cells.{StandsInCell, Stays}
use Rattle.fr_air.specs.Memory.{frame_at}

-- what is out with one cell changed
pub out-set-same : (out : List Bool) (k : ℕ) (b : Bool) → k < length out → slice_get (set out k b) k ≡ Some b
out-set-same out k b lt =
    let long : k < length (set out k b) = rw length-set lt in
    slice_get-get_or (set out k b) k false long ∙ ap (λ (v : Bool). Some v) (get_or-set_same out k b false lt)

pub out-set-other : (out : List Bool) (k j : ℕ) (b c : Bool) → j ≢ k → slice_get out j ≡ Some c → slice_get (set out k b) j ≡ Some c
out-set-other out k j b c apart is =
    let lt : j < length out = slice_get_within out j c is in
    let long : j < length (set out k b) = rw length-set lt in
    slice_get-get_or (set out k b) j c long ∙ ap (λ (v : Bool). Some v) (get_or-set_other out k j b c apart ∙ get_or_from_slice_get out j c c is)

pub stays-same : (pool : PoolView) → Stays pool pool
stays-same pool = record { out = refl; whole = refl; same = λ cell out. refl }

-- a cell that is taken, written and given back leaves all that was out as it was
pub stays-lent : (old taken after last : PoolView) (cell : ℕ) (written : List ℕ) → Takes old cell taken → Stays (written_in cell written taken) after → last ≡ given_back cell after → Stays old last
stays-lent old taken after last cell written takes stays gave =
    let P : PoolView → Type 0 = λ pool. Stays old pool in
    let Q : PoolView → Type 0 = λ pool. Stays (written_in cell written pool) after in
    let kept : Stays (written_in cell written (taken_out cell old)) after = subst Q takes.taken stays in
    subst P (sym gave) (record {
      out = ap (λ (out : List Bool). set out cell false) kept.out ∙ set-returned old.out cell takes.free;
      whole = kept.whole ∙ length-set old.bytes cell written;
      same = λ other out.
          let apart : other ≢ cell = λ equal.
          let both : Some true ≡ Some false = sym out ∙ ap (slice_get old.out) equal ∙ takes.free in
          cc in
          kept.same other (out-set-other old.out cell other true true apart out) ∙ get_or-set_other old.bytes cell other written [] apart;
    })

-- bytes at the front of a cell
pub front-written : (pool : PoolView) (cell bytes : ℕ) (front rest : List ℕ) → cell < length pool.bytes → length front ≡ bytes → frame_at (written_in cell (front ++ rest) pool) cell bytes ≡ front
front-written pool cell bytes front rest lt long = ap (take bytes) (get_or-set_same pool.bytes cell (front ++ rest) [] lt) ∙ take_at front rest bytes long

-- a cell that is taken is out
pub out-taken : (old taken : PoolView) (cell : ℕ) → Takes old cell taken → IsOut taken cell
out-taken old taken cell takes =
    let P : PoolView → Type 0 = λ pool. IsOut pool cell in
    subst P (sym takes.taken) (out-set-same old.out cell true (slice_get_within old.out cell false takes.free))

-- what is read of a cell that was taken and written is what was written at its front
pub read-back : (old taken : PoolView) (cell : ℕ) (front rest got : List ℕ) → Takes old cell taken → length old.bytes ≡ length old.out → slice_get (set taken.bytes cell (front ++ rest)) cell ≡ Some got → take (length front) got ≡ front
read-back old taken cell front rest got takes whole is =
    let inside : cell < length old.out = slice_get_within old.out cell false takes.free in
    let long : length taken.bytes ≡ length old.bytes = ap (λ (p : PoolView). length p.bytes) takes.taken in
    let lt : cell < length taken.bytes = omega (arith, whole, inside, long) in
    ap (take (length front)) (sym (get_or_from_slice_get (set taken.bytes cell (front ++ rest)) cell got [] is) ∙ get_or-set_same taken.bytes cell (front ++ rest) [] lt)
    ∙ take_at front rest (length front) refl

-- so few bytes have room in a cell
pub few-bytes : (count : ℕ) (cell : List ℕ) → count ≤ 262 → length cell ≡ 264 → count ≤ length cell
few-bytes count cell few whole = omega (arith, few, whole)

-- what is read at the front of a cell
pub front-long : (count : ℕ) (cell : List ℕ) → count ≤ 262 → length cell ≡ 264 → count ≡ length (take count cell)
front-long count cell few whole = sym (length-take-le count cell (few-bytes count cell few whole))

-- what was written in a cell is read of one
pub all-read : (count : ℕ) (written got : List ℕ) → count ≤ length written → length written ≡ 264 → length got ≡ 264 → count ≡ length (take count got)
all-read count written got within one other = sym (length-take-le count got (omega (arith, within, one, other)))

pub front-read : (pool : PoolView) (cell bytes : ℕ) (got : List ℕ) → slice_get pool.bytes cell ≡ Some got → take bytes got ≡ frame_at pool cell bytes
front-read pool cell bytes got is = ap (take bytes) (sym (get_or_from_slice_get pool.bytes cell got [] is))

-- a cell that was out still is once another is taken
pub out-kept : (old taken : PoolView) (cell other : ℕ) → Takes old cell taken → IsOut old other → IsOut taken other
out-kept old taken cell other takes out =
    let apart : other ≢ cell = λ equal.
    let both : Some true ≡ Some false = sym out ∙ ap (slice_get old.out) equal ∙ takes.free in
    cc in
    let P : PoolView → Type 0 = λ pool. IsOut pool other in
    subst P (sym takes.taken) (out-set-other old.out cell other true true apart out)

length-flipped : (bit : ℕ) (bytes : List ℕ) → length (flipped bit bytes) ≡ length bytes
unfolding flipped
length-flipped bit bytes = length-set bytes (bit / 8) (bit_xor (get_or bytes (bit / 8) 0) (2 ^ (7 - bit % 8)))

-- what is read of a cell in which a bit of a copied frame was inverted
pub copy-read : (old taken copied : PoolView) (cell copy bytes bit : ℕ) (whole written got : List ℕ) → Takes old copy taken → StandsInCell old cell bytes → copied ≡ copied_in cell copy taken → slice_get copied.bytes copy ≡ Some whole →
    written ≡ flipped bit (take bytes whole) ++ drop bytes whole → slice_get (set copied.bytes copy written) copy ≡ Some got → take bytes got ≡ flipped bit (frame_at old cell bytes)
copy-read old taken copied cell copy bytes bit whole written got takes stands is has now read =
    let inside : copy < length old.out = slice_get_within old.out copy false takes.free in
    let all : taken.bytes ≡ old.bytes = ap (λ (p : PoolView). p.bytes) takes.taken in
    let lt : copy < length taken.bytes = omega (arith, ap length all, stands.whole, inside) in
    let long : copy < length copied.bytes = omega (arith, ap (λ (p : PoolView). length p.bytes) is, length-set taken.bytes copy (get_or taken.bytes cell []), lt) in
    let stored : get_or copied.bytes copy [] ≡ get_or old.bytes cell [] =
    ap (λ (p : PoolView). get_or p.bytes copy []) is
    ∙ get_or-set_same taken.bytes copy (get_or taken.bytes cell []) [] lt
    ∙ ap (λ (stored : List (List ℕ)). get_or stored cell []) all in
    let frame : take bytes whole ≡ frame_at old cell bytes = ap (take bytes) (sym (get_or_from_slice_get copied.bytes copy whole [] has) ∙ stored) in
    let front : length (flipped bit (take bytes whole)) ≡ bytes = length-flipped bit (take bytes whole) ∙ ap length frame ∙ stands.within in
    ap (take bytes) (sym (get_or_from_slice_get (set copied.bytes copy written) copy got [] read) ∙ get_or-set_same copied.bytes copy written [] long ∙ now)
    ∙ take_at (flipped bit (take bytes whole)) (drop bytes whole) bytes front
    ∙ ap (flipped bit) frame

-- a cell that is taken, copied into, written and given back leaves all that was out as it was
pub copy-lent : (old taken copied last : PoolView) (cell copy : ℕ) (written : List ℕ) → Takes old copy taken → copied ≡ copied_in cell copy taken → last ≡ given_back copy (written_in copy written copied) → Stays old last
copy-lent old taken copied last cell copy written takes is gave =
    let twice : written_in copy written (copied_in cell copy taken) ≡ written_in copy written taken =
    ap (λ (stored : List (List ℕ)). let pool : PoolView = record taken { bytes = stored } in pool) (set-set taken.bytes copy (get_or taken.bytes cell []) written) in
    stays-lent old taken (written_in copy written taken) last copy written takes (stays-same (written_in copy written taken))
    (gave ∙ ap (λ (p : PoolView). given_back copy (written_in copy written p)) is ∙ ap (given_back copy) twice)
