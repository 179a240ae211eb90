-- The record of a number.
use Rattle.std.proofs.Common.{◌≡◌, ℕ, zero, suc, List, [], ◌∷◌, ◌++◌, length, map, Some, Result, Ok, refl, ap, sym, ◌∙◌, arith, append_assoc, length-append}
use Rattle.std.proofs.lemmas.List.{length-map, map-append}
use Rattle.fr_base.specs.declared.reason.Reason.{Reason}
use Rattle.fr_text.specs.Records.{FileRecord, records_of}
use Rattle.fr_trace.specs.Items.{Item, item_in, items_in}
use Rattle.fr_trace.specs.Rows.{trace_row_of}
use Rattle.fr_trace.specs.declared.rows.Row.{Row}
use Rattle.fr_trace.specs.declared.rows.Row.TheVariants as row
use Rattle.fr_trace.specs.declared.trace.TracedJoin.{TracedJoin}
use Rattle.fr_trace.specs.Numbered.{NumbersAreRecords, as_read, row_of_item, rows_of_trace}
use Rattle.fr_trace.proofs.InOrder.{reads_in_order}

-- the items before one, and those behind it
record IsItemCut (items : List Item) (place : ℕ) (item : Item) : Type 0 where
  before : List Item
  after : List Item
  cut : items ≡ before ++ item ∷ after
  counted : length before ≡ place

item-cut : (items : List Item) (place : ℕ) (item : Item) → item_in items place ≡ Some item → IsItemCut items place item
unfolding item_in
item-cut [] place item e = absurd (cc e)
item-cut (x ∷ xs) zero item e = record { before = []; after = xs; cut = let same : x ≡ item = cc e in ap (λ (y : Item). y ∷ xs) same; counted = refl }
item-cut (x ∷ xs) (suc place) item e =
    let rest = item-cut xs place item e in
    record { before = x ∷ rest.before; after = rest.after; cut = ap (λ (l : List Item). x ∷ l) rest.cut; counted = ap suc rest.counted }

-- the records before one that says a row, and those behind it
record IsSaidCut (records : List FileRecord) (place : ℕ) (x : Result Row Reason) : Type 0 where
  before : List FileRecord
  record_at : FileRecord
  after : List FileRecord
  cut : records ≡ before ++ record_at ∷ after
  counted : length before ≡ place
  said : trace_row_of record_at ≡ x

said-cut : (records : List FileRecord) (front : List (Result Row Reason)) (x : Result Row Reason) (back : List (Result Row Reason)) → map trace_row_of records ≡ front ++ x ∷ back
    → IsSaidCut records (length front) x
said-cut [] [] x back e = absurd (cc e)
said-cut [] (f ∷ front) x back e = absurd (cc e)
said-cut (r ∷ rest) [] x back e = record { before = []; record_at = r; after = rest; cut = refl; counted = refl; said = cc e }
said-cut (r ∷ rest) (f ∷ front) x back e =
    let tail : map trace_row_of rest ≡ front ++ x ∷ back = cc e in
    let more = said-cut rest front x back tail in
    record { before = r ∷ more.before; record_at = more.record_at; after = more.after; cut = ap (λ (l : List FileRecord). r ∷ l) more.cut; counted = ap suc more.counted; said = more.said }

pub numbers_are_records : NumbersAreRecords
numbers_are_records p t bytes number item file at =
    let order = reads_in_order p t bytes file in
    let here = item-cut (items_in t.history) at.place item at.found in
    let named : List Row = map (λ node. row.Arbitrary node) t.arbitrary in
    let joined : List Row = map (λ j. row.Join j) t.joins in
    let head : List Row = row.Run t.doubles ∷ named ++ joined in
    let front : List Row = head ++ map row_of_item here.before in
    let items : map row_of_item (items_in t.history) ≡ map row_of_item here.before ++ row_of_item item ∷ map row_of_item here.after =
    ap (λ (l : List Item). map row_of_item l) here.cut ∙ map-append row_of_item here.before (item ∷ here.after)
    in
    let rows : rows_of_trace t ≡ front ++ row_of_item item ∷ map row_of_item here.after =
    ap (λ (l : List Row). head ++ l) items ∙ sym (append_assoc head (map row_of_item here.before) (row_of_item item ∷ map row_of_item here.after))
    in
    let read : map trace_row_of (records_of bytes) ≡ map as_read front ++ Ok (row_of_item item) ∷ map as_read (map row_of_item here.after) =
    order ∙ ap (λ (l : List Row). map as_read l) rows ∙ map-append as_read front (row_of_item item ∷ map row_of_item here.after)
    in
    let found = said-cut (records_of bytes) (map as_read front) (Ok (row_of_item item)) (map as_read (map row_of_item here.after)) read in
    let a = length-map front as_read in
    let b = length-append head (map row_of_item here.before) in
    let c = length-map here.before row_of_item in
    let d = length-map t.arbitrary (λ (node : ℕ). row.Arbitrary node) in
    let e = here.counted in
    let f = found.counted in
    let g = at.counted in
    let k = length-map t.joins (λ (j : TracedJoin). row.Join j) in
    let m = length-append named joined in
    record {
      before = found.before;
      record_at = found.record_at;
      after = found.after;
      cut = found.cut;
      place = omega (arith, a, b, c, d, e, f, g, k, m);
      said = found.said;
    }
