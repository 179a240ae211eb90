-- Each file has an answer: records of which none is refused stand for a script.
use Rattle.std.proofs.Common.{◌≡◌, ◌≢◌, ℕ, zero, suc, ◌<◌, Bool, true, false, cond, List, [], ◌∷◌, length, Option, Some, None, Result, Ok, Err, ap, sym, ◌∙◌, refl, arith, ◌⊎◌, inl, inr}
use Rattle.std.specs.Prelude.{◌&&◌, if◌then◌else◌, slice_index_or, T}
use Rattle.std.specs.Cmp.{eq_by_cmp_equiv}
use Rattle.std.specs.Ordering.{eq_by_cmp, is_lt}
use Rattle.std.specs.declared.cmp.Ordering.{Ordering}
use Rattle.std.specs.declared.cmp.Ordering.TheVariants.{Less, Equal, Greater}
use Rattle.std.specs.List.{AllByRecursion}
use Rattle.std.specs.List.Sorted.{IsStrictlySortedBy}
use Rattle.std.specs.Map.{keys_of}
use Rattle.std.specs.FinMap as map
use Rattle.std.specs.FinMap.{FinMap, get-empty, get-entries, get-insert, is_sorted}
use Rattle.std.specs.FinMap.Entries.{below_all}
use Rattle.fr_base.specs.declared.channel.Channel.{Channel}
use Rattle.fr_base.specs.declared.channel.Channel.TheVariants as channel
use Rattle.fr_base.specs.declared.reason.Reason.{Reason}
use Rattle.fr_text.specs.Records.{FileRecord, records_of}
use Rattle.fr_text.specs.Kind.{HasSomeAnswer, Reads}
use Rattle.fr_text.specs.Refusal.{NoneRefused, FirstRefused}
use Rattle.fr_text.proofs.Cuts.{none-or-first-refused}
use Rattle.fr_cluster.specs.Values.{Values}
use Rattle.fr_text.specs.Fields.{is_channel, or_else, looked_up}
use Rattle.fr_script.specs.Deeds.{DeedsAscend, deed_in, passage_cmp}
use Rattle.fr_script.specs.Rows.{script_row_of}
use Rattle.fr_script.specs.Reasons.{deed_by, deed_said, is_named_in, is_same_passage, join_by, script_reason_after}
use Rattle.fr_script.specs.View.{ScriptView, deeds_on, is_arbitrary, join_of}
use Rattle.fr_script.specs.Files.{ScriptStandsFor, script_file}
use Rattle.fr_script.specs.declared.deeds.Passage.{Passage}
use Rattle.fr_script.specs.declared.deed.Deed.{Deed}
use Rattle.fr_script.specs.declared.rows.Row.{Row}
use Rattle.fr_script.specs.declared.rows.Row.TheVariants as row
use Rattle.fr_script.specs.declared.fault.ScriptFault.{ScriptFault}
use Rattle.fr_script.specs.declared.fault.ScriptFault.TheVariants as fault
use Rattle.fr_script.proofs.Outcomes.{find-lookup, passages_total}
use Rattle.fr_script.proofs.Tables.{is_same-at}

-- the first answers of a function, as a list
answers : {A : Type 0} → (ℕ → A) → ℕ → List A
answers f zero = []
answers f (suc n) = f zero ∷ answers (λ k. f (suc k)) n

length-answers : {A : Type 0} (f : ℕ → A) (n : ℕ) → length (answers f n) ≡ n
unfolding answers
length-answers f zero = refl
length-answers f (suc n) = ap suc (length-answers (λ k. f (suc k)) n)

get_or-answers : {A : Type 0} (d : A) (f : ℕ → A) (n k : ℕ) → k < n → slice_index_or (answers f n) k d ≡ f k
unfolding answers
get_or-answers d f zero k h = absurd (omega arith)
get_or-answers d f (suc n) zero h = refl
get_or-answers d f (suc n) (suc k) h = get_or-answers d (λ k. f (suc k)) n k (omega arith)

-- entries in the order of their keys, by either word for it
first : (a b : Bool) → T (a && b) → T a
first true b h = tt
first false b h = h

second : (a b : Bool) → T (a && b) → T b
second true b h = h
second false b h = absurd h

less : (o : Ordering) → T (is_lt o) → o ≡ Less
less Less h = refl
less Equal h = absurd h
less Greater h = absurd h

all-below : {K V : Type 0} (R : K → K → Ordering) (k : K) (es : List (K × V)) → T (below_all R k es) → AllByRecursion (λ y. R k y ≡ Less) (keys_of es)
all-below R k [] h = tt
all-below R k (e ∷ es) h = (less (R k e.0) (first (is_lt (R k e.0)) (below_all R k es) h), all-below R k es (second (is_lt (R k e.0)) (below_all R k es) h))

pub ordered-keys : {K V : Type 0} (R : K → K → Ordering) (es : List (K × V)) → T (is_sorted R es) → IsStrictlySortedBy R (keys_of es)
unfolding IsStrictlySortedBy
ordered-keys R [] h = tt
ordered-keys R (e ∷ es) h = (all-below R e.0 es (first (below_all R e.0 es) (is_sorted R es) h), ordered-keys R es (second (below_all R e.0 es) (is_sorted R es) h))

-- the deed on a channel that a row says, with its passage
entry_if : Bool → Passage → Option Deed → Option (Passage × Deed)
entry_if true passage None = None
entry_if true passage (Some what) = Some (passage, what)
entry_if false passage what = None

entry : Channel → Result Row Reason → Option (Passage × Deed)
entry ch (Ok (row.Arbitrary node)) = None
entry ch (Ok (row.Deed d)) = entry_if (is_channel ch d.channel) d.passage d.deed
entry ch (Ok (row.Join j)) = None
entry ch (Err why) = None

-- what an entry says of a passage
said_by : Option (Passage × Deed) → Passage → Option Deed
said_by None q = None
said_by (Some e) q = cond (eq_by_cmp passage_cmp q e.0) (Some e.1) None

neither : (b : Bool) → ◌≡◌ {A = Option Deed} (if b then None else None) None
neither true = refl
neither false = refl

said-if : (b : Bool) (passage q : Passage) (what : Option Deed) → (if b && is_same_passage passage q then what else None) ≡ said_by (entry_if b passage what) q
unfolding entry_if said_by
said-if true passage q None = neither (is_same_passage passage q)
said-if true passage q (Some what) =
    ap (λ (b : Bool). cond b (Some what) None) (is_same-at passage q ∙ sym ((eq_by_cmp_equiv passages_total).symm q passage))
said-if false passage q what = refl

said-entry : (ch : Channel) (q : Passage) (x : Result Row Reason) → deed_said ch q x ≡ said_by (entry ch x) q
unfolding entry said_by
said-entry ch q (Ok (row.Arbitrary node)) = refl
said-entry ch q (Ok (row.Deed d)) = said-if (is_channel ch d.channel) d.passage q d.deed
said-entry ch q (Ok (row.Join j)) = refl
said-entry ch q (Err why) = refl

-- the deeds on a channel that the records say, as a finite map: that of a passage is the first said of it
with : Option (Passage × Deed) → FinMap passage_cmp Deed → FinMap passage_cmp Deed
with None m = m
with (Some e) m = map.insert m e.0 e.1

deeds_told : Channel → List FileRecord → FinMap passage_cmp Deed
deeds_told ch [] = map.empty
deeds_told ch (r ∷ rest) = with (entry ch (script_row_of r)) (deeds_told ch rest)

get-with : (o : Option (Passage × Deed)) (m : FinMap passage_cmp Deed) (q : Passage) → map.get (with o m) q ≡ or_else (said_by o q) (map.get m q)
unfolding with said_by
get-with None m q = refl
get-with (Some e) m q = get-insert passages_total m e.0 e.1 q ∙ chosen (eq_by_cmp passage_cmp q e.0) e.1 (map.get m q)
  where
    chosen : (b : Bool) (what : Deed) (o : Option Deed) → cond b (Some what) o ≡ or_else (cond b (Some what) None) o
    chosen true what o = refl
    chosen false what o = refl

get-told : (ch : Channel) (records : List FileRecord) (q : Passage) → map.get (deeds_told ch records) q ≡ deed_by ch q records
unfolding deeds_told looked_up
get-told ch [] q = get-empty passage_cmp q
get-told ch (r ∷ rest) q =
    get-with (entry ch (script_row_of r)) (deeds_told ch rest) q
    ∙ (λ i. or_else (sym (said-entry ch q (script_row_of r)) i) (get-told ch rest q i))

found-told : (ch : Channel) (records : List FileRecord) (q : Passage) → deed_in (map.entries (deeds_told ch records)) q ≡ deed_by ch q records
unfolding deed_in
found-told ch records q =
    sym (get-entries (deeds_told ch records) q ∙ find-lookup passage_cmp q (map.entries (deeds_told ch records)))
    ∙ get-told ch records q

ascending-told : (ch : Channel) (records : List FileRecord) → DeedsAscend (map.entries (deeds_told ch records))
unfolding DeedsAscend
ascending-told ch records = ordered-keys passage_cmp (map.entries (deeds_told ch records)) (map.entries_sorted (deeds_told ch records))

-- the script that records stand for
script_told : List FileRecord → ScriptView
script_told records = record {
  arbitrary = answers (λ node. is_named_in node records) 65;
  joins = answers (λ node. join_by node records) 65;
  on_a = map.entries (deeds_told channel.A records);
  on_b = map.entries (deeds_told channel.B records);
}

stands-told : (records : List FileRecord) → ScriptStandsFor (script_told records) records
unfolding script_told is_arbitrary join_of
stands-told records = record {
  long = length-answers (λ node. is_named_in node records) 65;
  joins_long = length-answers (λ node. join_by node records) 65;
  nodes = λ node low. get_or-answers false (λ node. is_named_in node records) 65 node (omega arith);
  joins = λ node low. get_or-answers None (λ node. join_by node records) 65 node (omega arith);
  deeds = λ ch q. deeds ch q;
  ascending = λ ch. ascending ch;
}
  where
    deeds : (ch : Channel) (q : Passage) → deed_in (deeds_on (script_told records) ch) q ≡ deed_by ch q records
    deeds channel.A q = found-told channel.A records q
    deeds channel.B q = found-told channel.B records q

    ascending : (ch : Channel) → DeedsAscend (deeds_on (script_told records) ch)
    ascending channel.A = ascending-told channel.A records
    ascending channel.B = ascending-told channel.B records

-- a file is accepted, or a record of it is refused
pub reads-some : (p : Values) → HasSomeAnswer (script_file p)
reads-some p bytes = by (none-or-first-refused (script_reason_after p) (records_of bytes))
  where
    by : NoneRefused (script_reason_after p) (records_of bytes) ⊎ ((n : ℕ) × ((why : Reason) × FirstRefused (script_reason_after p) (records_of bytes) n why))
        → (answer : Result ScriptView ScriptFault) × (answer ≢ Err fault.NoMemory) × Reads (script_file p) bytes answer
    by (inl none) = (Ok (script_told (records_of bytes)), λ same. cc same, record { none_refused = none; stands = stands-told (records_of bytes) })
    by (inr first) = (Err (fault.Row first.0 first.1.0), λ same. cc same, first.1.1)
