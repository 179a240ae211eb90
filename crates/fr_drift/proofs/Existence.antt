-- Each file has an answer: records of which none is refused stand for a drift.
use Rattle.std.proofs.Common.{◌≡◌, ◌≢◌, ℕ, ℤ, Bool, true, false, cond, List, [], ◌∷◌, Option, Some, None, Result, Ok, Err, ap, sym, ◌∙◌, refl, ◌⊎◌, inl, inr}
use Rattle.std.specs.Prelude.{◌&&◌, if◌then◌else◌}
use Rattle.std.specs.Cmp.{IsTotalOrder, eq_by_cmp_equiv}
use Rattle.std.specs.Ordering.{nat_cmp, eq_by_cmp}
use Rattle.std.specs.declared.cmp.Ordering.{Ordering}
use Rattle.std.specs.FinMap as map
use Rattle.std.specs.FinMap.{FinMap, get-empty, get-insert}
use Rattle.std.proofs.lemmas.Cmp.{nat_cmp_total}
use Rattle.fr_base.specs.declared.channel.Channel.{Channel}
use Rattle.fr_base.specs.declared.channel.Channel.TheVariants as channel
use Rattle.fr_base.specs.declared.reason.Reason.{Reason}
use Rattle.fr_text.specs.Records.{FileRecord, records_of}
use Rattle.fr_text.specs.Kind.{HasSomeAnswer, Reads}
use Rattle.fr_text.specs.Refusal.{NoneRefused, FirstRefused}
use Rattle.fr_text.proofs.Cuts.{none-or-first-refused}
use Rattle.fr_cluster.specs.Values.{Values}
use Rattle.fr_cluster.specs.Questions.{compensation_of}
use Rattle.fr_text.specs.Fields.{is_channel, or_else, looked_up}
use Rattle.fr_drift.specs.Keys.{delay_cmp, delay_key, length_cmp, length_key}
use Rattle.fr_text.specs.Keys.{found_at}
use Rattle.fr_drift.specs.Rows.{drift_row_of}
use Rattle.fr_drift.specs.Reasons.{drift_reason_after, doubles_at, delay_at, start_in, length_in, delay_in, is_delay_of}
use Rattle.fr_drift.specs.View.{DriftView, compensation_on, delay_rows}
use Rattle.fr_drift.specs.Files.{DriftStandsFor, drift_file}
use Rattle.fr_drift.specs.declared.keys.LengthKey.{LengthKey}
use Rattle.fr_drift.specs.declared.keys.DelayKey.{DelayKey}
use Rattle.fr_drift.specs.declared.rows.Start.{Start}
use Rattle.fr_drift.specs.declared.rows.DelayRow.{DelayRow}
use Rattle.fr_drift.specs.declared.rows.Row.{Row}
use Rattle.fr_drift.specs.declared.rows.Row.TheVariants as row
use Rattle.fr_drift.specs.declared.fault.DriftFault.{DriftFault}
use Rattle.fr_drift.specs.declared.fault.DriftFault.TheVariants as fault
use Rattle.fr_drift.proofs.Tables.{delay-ties, length-ties, start-ties}
use Rattle.fr_drift.proofs.Making.{delay_total, found-entries, length_total, sorted-entries}

-- what the records say of each key, as a finite map: a record says something of one key at most
module _ {K V : Type 0} {R : K → K → Ordering} (total : IsTotalOrder R) (said : K → Result Row Reason → Option V) (one : Result Row Reason → Option (K × V))
    (says : (key : K) (x : Result Row Reason) → said key x ≡ (elim (one x) [ None ↦ None | Some e ↦ cond (eq_by_cmp R key e.0) (Some e.1) None ])) where
  with : Option (K × V) → FinMap R V → FinMap R V
  with None m = m
  with (Some e) m = map.insert m e.0 e.1

  pub gathered : List FileRecord → FinMap R V
  gathered [] = map.empty
  gathered (r ∷ rest) = with (one (drift_row_of r)) (gathered rest)

  get-with : (o : Option (K × V)) (m : FinMap R V) (key : K) → map.get (with o m) key ≡ or_else (elim o [ None ↦ None | Some e ↦ cond (eq_by_cmp R key e.0) (Some e.1) None ]) (map.get m key)
  unfolding with
  get-with None m key = refl
  get-with (Some e) m key = get-insert total m e.0 e.1 key ∙ chosen (eq_by_cmp R key e.0) e.1 (map.get m key)
    where
      chosen : (b : Bool) (v : V) (o : Option V) → cond b (Some v) o ≡ or_else (cond b (Some v) None) o
      chosen true v o = refl
      chosen false v o = refl

  pub get-gathered : (records : List FileRecord) (key : K) → map.get (gathered records) key ≡ looked_up (λ r. said key (drift_row_of r)) records
  unfolding gathered looked_up
  get-gathered [] key = get-empty R key
  get-gathered (r ∷ rest) key =
      get-with (one (drift_row_of r)) (gathered rest) key
      ∙ (λ i. or_else (sym (says key (drift_row_of r)) i) (get-gathered rest key i))

-- the start that a row says, with its node
start_entry : Result Row Reason → Option (ℕ × Start)
start_entry (Ok (row.Doubles n)) = None
start_entry (Ok (row.Start s)) = Some (s.node, s.start)
start_entry (Ok (row.Length l)) = None
start_entry (Ok (row.Delay d)) = None
start_entry (Err why) = None

start-says : (node : ℕ) (x : Result Row Reason) → start_in node x ≡ (elim (start_entry x) [ None ↦ None | Some e ↦ cond (eq_by_cmp nat_cmp node e.0) (Some e.1) None ])
unfolding start_entry
start-says node (Ok (row.Doubles n)) = refl
start-says node (Ok (row.Start s)) = ap (λ (b : Bool). cond b (Some s.start) None) (sym ((eq_by_cmp_equiv nat_cmp_total).symm node s.node ∙ start-ties s.node node))
start-says node (Ok (row.Length l)) = refl
start-says node (Ok (row.Delay d)) = refl
start-says node (Err why) = refl

-- the length that a row says, with its key
length_entry : Result Row Reason → Option (LengthKey × ℤ)
length_entry (Ok (row.Doubles n)) = None
length_entry (Ok (row.Start s)) = None
length_entry (Ok (row.Length l)) = Some (length_key l.node l.from, l.ticks)
length_entry (Ok (row.Delay d)) = None
length_entry (Err why) = None

length-says : (key : LengthKey) (x : Result Row Reason)
    → length_in key.node key.from x ≡ (elim (length_entry x) [ None ↦ None | Some e ↦ cond (eq_by_cmp length_cmp key e.0) (Some e.1) None ])
unfolding length_entry
length-says key (Ok (row.Doubles n)) = refl
length-says key (Ok (row.Start s)) = refl
length-says key (Ok (row.Length l)) =
    ap (λ (b : Bool). cond b (Some l.ticks) None) (sym ((eq_by_cmp_equiv length_total).symm key (length_key l.node l.from) ∙ length-ties l.node l.from key.node key.from))
length-says key (Ok (row.Delay d)) = refl
length-says key (Err why) = refl

-- the delay on a channel that a row says, with its key
delay_entry_if : Bool → DelayRow → Option (DelayKey × ℤ)
delay_entry_if true d = Some (delay_key d.sender d.receiver d.from, d.ticks)
delay_entry_if false d = None

delay_entry : Channel → Result Row Reason → Option (DelayKey × ℤ)
delay_entry ch (Ok (row.Doubles n)) = None
delay_entry ch (Ok (row.Start s)) = None
delay_entry ch (Ok (row.Length l)) = None
delay_entry ch (Ok (row.Delay d)) = delay_entry_if (is_channel ch d.channel) d
delay_entry ch (Err why) = None

delay-says-if : (b : Bool) (d : DelayRow) (key : DelayKey)
    → (if b && is_delay_of key.sender key.receiver key.from d then Some d.ticks else None)
    ≡ (elim (delay_entry_if b d) [ None ↦ None | Some e ↦ cond (eq_by_cmp delay_cmp key e.0) (Some e.1) None ])
unfolding delay_entry_if
delay-says-if true d key =
    ap (λ (b : Bool). cond b (Some d.ticks) None)
    (sym ((eq_by_cmp_equiv delay_total).symm key (delay_key d.sender d.receiver d.from) ∙ delay-ties d.sender d.receiver d.from key.sender key.receiver key.from))
delay-says-if false d key = refl

delay-says : (ch : Channel) (key : DelayKey) (x : Result Row Reason)
    → delay_in key.sender key.receiver ch key.from x ≡ (elim (delay_entry ch x) [ None ↦ None | Some e ↦ cond (eq_by_cmp delay_cmp key e.0) (Some e.1) None ])
unfolding delay_entry
delay-says ch key (Ok (row.Doubles n)) = refl
delay-says ch key (Ok (row.Start s)) = refl
delay-says ch key (Ok (row.Length l)) = refl
delay-says ch key (Ok (row.Delay d)) = delay-says-if (is_channel ch d.channel) d key
delay-says ch key (Err why) = refl

-- what the records say, as finite maps
starts_told : List FileRecord → FinMap nat_cmp Start
starts_told records = gathered nat_cmp_total start_in start_entry start-says records

lengths_told : List FileRecord → FinMap length_cmp ℤ
lengths_told records = gathered length_total (λ key x. length_in key.node key.from x) length_entry length-says records

delays_told : Channel → List FileRecord → FinMap delay_cmp ℤ
delays_told ch records = gathered delay_total (λ key x. delay_in key.sender key.receiver ch key.from x) (delay_entry ch) (delay-says ch) records

-- the drift that records stand for
drift_told : Values → ℕ → List FileRecord → DriftView
drift_told p n records = record {
  doubles = n;
  compensation_a = compensation_of p channel.A;
  compensation_b = compensation_of p channel.B;
  starts = map.entries (starts_told records);
  lengths = map.entries (lengths_told records);
  delays_a = map.entries (delays_told channel.A records);
  delays_b = map.entries (delays_told channel.B records);
}

stands-told : (p : Values) (n : ℕ) (records : List FileRecord) → doubles_at records ≡ Some n → DriftStandsFor p (drift_told p n records) records
unfolding drift_told starts_told lengths_told delays_told
stands-told p n records e = record {
  doubles = e;
  compensation = λ ch. compensations ch;
  starts = λ node. found-entries (starts_told records) node ∙ get-gathered nat_cmp_total start_in start_entry start-says records node;
  lengths = λ node from.
      found-entries (lengths_told records) (length_key node from)
      ∙ get-gathered length_total (λ key x. length_in key.node key.from x) length_entry length-says records (length_key node from);
  delays = λ sender receiver ch from. delays sender receiver ch from;
  order = record {
    starts = sorted-entries (starts_told records);
    lengths = sorted-entries (lengths_told records);
    delays_a = sorted-entries (delays_told channel.A records);
    delays_b = sorted-entries (delays_told channel.B records);
  };
}
  where
    compensations : (ch : Channel) → compensation_on (drift_told p n records) ch ≡ compensation_of p ch
    compensations channel.A = refl
    compensations channel.B = refl

    told : (ch : Channel) (sender receiver from : ℕ) → found_at delay_cmp (map.entries (delays_told ch records)) (delay_key sender receiver from) ≡ delay_at sender receiver ch from records
    told ch sender receiver from =
        found-entries (delays_told ch records) (delay_key sender receiver from)
        ∙ get-gathered delay_total (λ key x. delay_in key.sender key.receiver ch key.from x) (delay_entry ch) (delay-says ch) records (delay_key sender receiver from)

    delays : (sender receiver : ℕ) (ch : Channel) (from : ℕ) → delay_rows (drift_told p n records) sender receiver ch from ≡ delay_at sender receiver ch from records
    delays sender receiver channel.A from = told channel.A sender receiver from
    delays sender receiver channel.B from = told channel.B sender receiver from

-- a file is accepted, or it is refused for a cause
pub reads-some : (p : Values) → HasSomeAnswer (drift_file p)
reads-some p bytes = by (none-or-first-refused (drift_reason_after p) (records_of bytes))
  where
    told : NoneRefused (drift_reason_after p) (records_of bytes) → (o : Option ℕ) → doubles_at (records_of bytes) ≡ o
        → (answer : Result DriftView DriftFault) × (answer ≢ Err fault.NoMemory) × Reads (drift_file p) bytes answer
    told none None e = (Err fault.MissingDoubles, λ same. cc same, record { none_refused = none; missing = e })
    told none (Some n) e = (Ok (drift_told p n (records_of bytes)), λ same. cc same, record { none_refused = none; stands = stands-told p n (records_of bytes) e })

    by : NoneRefused (drift_reason_after p) (records_of bytes) ⊎ ((n : ℕ) × ((why : Reason) × FirstRefused (drift_reason_after p) (records_of bytes) n why))
        → (answer : Result DriftView DriftFault) × (answer ≢ Err fault.NoMemory) × Reads (drift_file p) bytes answer
    by (inl none) = told none (doubles_at (records_of bytes)) refl
    by (inr first) = (Err (fault.Row first.0 first.1.0), λ same. cc same, first.1.1)
