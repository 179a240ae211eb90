-- The files of a run keep the ranges that the trace of the run is asked for.
use Rattle.std.proofs.Common.{◌≡◌, ℕ, ◌≤◌, ◌==◌, ℤ, pos, negsuc, ◌*ℤ◌, ◌≤ℤ◌, Bool, true, false, List, [], ◌∷◌, ◌++◌, length, Option, Some, None, Result, Ok, Err, refl, ap, sym, ◌∙◌, subst, arith}
use Rattle.std.specs.Prelude.{IfSome, IsSome, int_lt, is_some, nat_lt, not, unwrap_or, ◌||◌, ◌&&◌, codes, if◌then◌else◌}
use Rattle.std.specs.Option.{option_map_or}
use Rattle.std.specs.Str.{bytes_eq}
use Rattle.std.proofs.lemmas.Bool.{and_parts}
use Rattle.std.proofs.lemmas.Bool.Decides.{nat_tests}
use Rattle.std.proofs.lemmas.Int.{ints}
use Rattle.fr_midpoint.proofs.Products.{mulz-lez}
use Rattle.fr_base.specs.Channels.{channel_of}
use Rattle.fr_cluster.specs.declared.names.ParamName.TheVariants as name
use Rattle.fr_base.specs.Event.{Event}
use Rattle.fr_base.specs.Event as event
use Rattle.fr_base.specs.Number.{number_of, within}
use Rattle.fr_base.specs.Timed.{IsLength}
use Rattle.fr_base.specs.Within.{IsBetween}
use Rattle.fr_base.specs.declared.channel.Channel.{Channel}
use Rattle.fr_base.specs.declared.channel.Channel.TheVariants as channel
use Rattle.fr_base.specs.declared.numbers.NumberFault.{NumberFault}
use Rattle.fr_base.specs.declared.numbers.NumberFault.TheVariants as fault
use Rattle.fr_base.specs.declared.reason.Reason.{Reason}
use Rattle.fr_base.specs.declared.reason.Reason.TheVariants as reason
use Rattle.fr_cluster.proofs.Elements.{found, kept_filtered}
use Rattle.fr_cluster.specs.Questions.{compensation_of, is_common, key_in, node_of}
use Rattle.fr_cluster.specs.Sane.{IsSane}
use Rattle.fr_cluster.specs.Setting.{is_correct}
use Rattle.fr_cluster.specs.Values.{Values}
use Rattle.fr_cluster.specs.declared.join.Join.{Join}
use Rattle.fr_cluster.specs.declared.nodes.NodeSpec.{NodeSpec}
use Rattle.fr_coverage.specs.Decided.{setting_of}
use Rattle.fr_drift.proofs.Limits.{start-within, zero-within}
use Rattle.fr_drift.proofs.Lines.{held-proper}
use Rattle.fr_drift.specs.Files.{DriftFits, IsRateWithin}
use Rattle.fr_drift.specs.Held.{held}
use Rattle.fr_drift.specs.Questions.{delay_of, doubles_of, length_of, rate_of, start_of}
use Rattle.fr_drift.specs.Reasons.{delay_in, doubles_in, is_delay_of, length_in, start_in}
use Rattle.fr_drift.specs.Rows.{IsProperCount, delay_on, delay_row, doubles_row, drift_file_row, drift_row_of, length_row, length_with, rate_in, short_row, start_row, start_with}
use Rattle.fr_drift.specs.View.{DriftView, compensation_on, delay_rows, length_rows, start_rows}
use Rattle.fr_drift.specs.declared.rows.Row.{Row}
use Rattle.fr_drift.specs.declared.rows.Row.TheVariants as row
use Rattle.fr_drift.specs.declared.rows.Start.{Start}
use Rattle.fr_runs.proofs.Nodes.{node_there}
use Rattle.fr_runs.proofs.Reach.{some_joins_by}
use Rattle.fr_script.proofs.Joining.{fits-join}
use Rattle.fr_script.proofs.Outcomes.{fits-key}
use Rattle.fr_script.specs.Deeds.{passage_of}
use Rattle.fr_script.specs.Events.{event_by, event_of}
use Rattle.fr_script.specs.Files.{ScriptFits}
use Rattle.fr_script.specs.Deed.{is_after_frame, is_say}
use Rattle.fr_script.specs.Reasons.{channel_reason, deed_said, is_misplaced, is_same_passage, knows_both, script_row_reason}
use Rattle.fr_script.specs.Rows.{script_row_of}
use Rattle.fr_script.specs.View.{ScriptView, deed_of, is_arbitrary, join_of}
use Rattle.fr_script.specs.declared.deed.Deed.{Deed}
use Rattle.fr_script.specs.declared.deed.Deed.TheVariants as deed
use Rattle.fr_script.specs.declared.rows.Row.{Row as ScriptRow}
use Rattle.fr_script.specs.declared.rows.Row.TheVariants as script_row
use Rattle.fr_text.specs.Fields.{both_of, field_of, is_blank, is_channel, looked_up, natural_of, natural_within, or_else, or_reason}
use Rattle.fr_text.specs.Records.{FileRecord}
use Rattle.fr_verdict.proofs.RunFits.{runs-are-read-back}
use Rattle.fr_verdict.specs.FileRuns.{FilesKeepRanges, FilesThatNoneJoins, RunsOfFilesAreReadBack}

-- ---- what a row of a drift file says lies in its range

abbrev Says : Result Row Reason → Type 0
Says (Ok (row.Doubles n)) = IsProperCount n
Says (Ok (row.Start t)) = IsBetween (pos 0) (pos 1_000_000_000_000) t.start.ticks
Says (Ok (row.Length l)) = IsLength l.ticks
Says (Ok (row.Delay d)) = d.ticks ≤ℤ pos 1_000_000_000
Says (Err why) = Unit {0}

says-if : (b : Bool) (x y : Result Row Reason) → Says x → Says y → Says (if b then x else y)
says-if true x y f g = f
says-if false x y f g = g

says-short : (fourth fifth : List ℕ) (said : Result Row Reason) → Says said → Says (short_row fourth fifth said)
says-short fourth fifth said f = says-if (is_blank fourth && is_blank fifth) said (Err reason.Shape) f tt

says-read : {A : Type 0} (use_of : A → Result Row Reason) (x : Result A NumberFault) → ((a : A) → Says (use_of a)) → Says (or_reason use_of x)
says-read use_of (Ok a) each = each a
says-read use_of (Err why) each = tt

-- a number that is read lies between its limits
abbrev LiesIn : ℤ → ℤ → Result ℤ NumberFault → Type 0
LiesIn low high (Ok z) = IsBetween low high z
LiesIn low high (Err why) = Unit {0}

lies-if : (low high z : ℤ) (a b : Bool) → int_lt z low ≡ a → int_lt high z ≡ b → LiesIn low high (if a || b then Err fault.OutOfRange else Ok z)
lies-if low high z true b e f = tt
lies-if low high z false true e f = tt
lies-if low high z false false e f = record { low = no-less z low e; high = no-less high z f }
  where
    no-less : (a b : ℤ) → int_lt a b ≡ false → b ≤ℤ a
    no-less a b e = grind (arith, ints, e)

lies-within : (low high : ℤ) (o : Option ℤ) → LiesIn low high (within low high o)
lies-within low high None = tt
lies-within low high (Some z) = lies-if low high z (int_lt z low) (int_lt high z) refl refl

-- and a natural one
abbrev Counts : Result ℕ NumberFault → Type 0
Counts (Ok n) = IsProperCount n
Counts (Err why) = Unit {0}

counts-if : (n : ℕ) (a b : Bool) → nat_lt n 1 ≡ a → nat_lt 100_000 n ≡ b → Counts (if a || b then Err fault.OutOfRange else Ok n)
counts-if n true b e f = tt
counts-if n false true e f = tt
counts-if n false false e f = record { from = no-less n 1 e; to = no-less 100_000 n f }
  where
    no-less : (a b : ℕ) → nat_lt a b ≡ false → b ≤ a
    no-less a b e = grind (arith, nat_tests, e)

counts-within : (o : Option ℤ) → Counts (natural_within 1 100_000 o)
counts-within None = tt
counts-within (Some (pos n)) = counts-if n (nat_lt n 1) (nat_lt 100_000 n) refl refl
counts-within (Some (negsuc n)) = tt

says-doubles : (x : Result ℕ NumberFault) → Counts x → Says (or_reason (λ n. Ok (row.Doubles n)) x)
says-doubles (Ok n) f = f
says-doubles (Err why) f = tt

says-start : (node : Result ℕ NumberFault) (ticks rate : Result ℤ NumberFault) → LiesIn (pos 0) (pos 1_000_000_000_000) ticks → Says (or_reason start_with (both_of node (both_of ticks rate)))
says-start (Ok n) (Ok z) (Ok r) f = f
says-start (Ok n) (Ok z) (Err why) f = tt
says-start (Ok n) (Err fault.NotDigits) r f = tt
says-start (Ok n) (Err fault.OutOfRange) (Ok r) f = tt
says-start (Ok n) (Err fault.OutOfRange) (Err why) f = tt
says-start (Err fault.NotDigits) z r f = tt
says-start (Err fault.OutOfRange) z r f = out (both_of z r)
  where
    out : (x : Result (ℤ × ℤ) NumberFault) → Says (or_reason start_with (both_of (Err fault.OutOfRange) x))
    out (Ok q) = tt
    out (Err why) = tt

says-length : (node from : Result ℕ NumberFault) (ticks : Result ℤ NumberFault) → LiesIn (pos 500_000) (pos 1_500_000) ticks → Says (or_reason length_with (both_of node (both_of from ticks)))
says-length (Ok n) (Ok from) (Ok z) f = f
says-length (Ok n) (Ok from) (Err why) f = tt
says-length (Ok n) (Err fault.NotDigits) z f = tt
says-length (Ok n) (Err fault.OutOfRange) (Ok z) f = tt
says-length (Ok n) (Err fault.OutOfRange) (Err why) f = tt
says-length (Err fault.NotDigits) from z f = tt
says-length (Err fault.OutOfRange) from z f = out (both_of from z)
  where
    out : (x : Result (ℕ × ℤ) NumberFault) → Says (or_reason length_with (both_of (Err fault.OutOfRange) x))
    out (Ok q) = tt
    out (Err why) = tt

says-delay : (ch : Option Channel) (nodes : Result (ℕ × ℕ) NumberFault) (from : Result ℕ NumberFault) (ticks : Result ℤ NumberFault) → LiesIn (pos 0) (pos 1_000_000_000) ticks
    → Says (or_reason (delay_on ch) (both_of nodes (both_of from ticks)))
says-delay ch (Ok n) (Ok from) (Ok z) f = f.high
says-delay ch (Ok n) (Ok from) (Err why) f = tt
says-delay ch (Ok n) (Err fault.NotDigits) z f = tt
says-delay ch (Ok n) (Err fault.OutOfRange) (Ok z) f = tt
says-delay ch (Ok n) (Err fault.OutOfRange) (Err why) f = tt
says-delay ch (Err fault.NotDigits) from z f = tt
says-delay ch (Err fault.OutOfRange) from z f = out (both_of from z)
  where
    out : (x : Result (ℕ × ℤ) NumberFault) → Says (or_reason (delay_on ch) (both_of (Err fault.OutOfRange) x))
    out (Ok q) = tt
    out (Err why) = tt

says-row : (r : FileRecord) → Says (drift_row_of r)
unfolding drift_row_of
says-row r =
    let kind = field_of r 0 in
    let first = field_of r 1 in
    let second = field_of r 2 in
    let third = field_of r 3 in
    let fourth = field_of r 4 in
    let fifth = field_of r 5 in
    says-if (length r == 6) (drift_file_row kind first second third fourth fifth) (Err reason.Shape)
    (says-if (bytes_eq kind (codes "doubles")) (short_row second third (short_row fourth fifth (doubles_row first))) _
    (says-short second third (short_row fourth fifth (doubles_row first))
    (says-short fourth fifth (doubles_row first) (says-doubles (natural_of 1 100_000 first) (counts-within (number_of first)))))
    (says-if (bytes_eq kind (codes "start")) (short_row fourth fifth (start_row first second third)) _
    (says-short fourth fifth (start_row first second third)
    (says-start (natural_of 1 64 first) (within (pos 0) (pos 1_000_000_000_000) (number_of second)) (rate_in third) (lies-within (pos 0) (pos 1_000_000_000_000) (number_of second))))
    (says-if (bytes_eq kind (codes "length")) (short_row fourth fifth (length_row first second third)) _
    (says-short fourth fifth (length_row first second third)
    (says-length (natural_of 1 64 first) (natural_of 0 199_999 second) (within (pos 500_000) (pos 1_500_000) (number_of third)) (lies-within (pos 500_000) (pos 1_500_000) (number_of third))))
    (says-if (bytes_eq kind (codes "delay")) (delay_row first second third fourth fifth) (Err reason.UnknownName)
    (says-delay (channel_of third) (both_of (natural_of 1 64 first) (natural_of 1 64 second)) (natural_of 0 199_999 fourth) (within (pos 0) (pos 1_000_000_000) (number_of fifth))
    (lies-within (pos 0) (pos 1_000_000_000) (number_of fifth)))
    tt))))
    tt

-- ---- so is what is looked up in all of them

looked-by : {A : Type 0} (what : FileRecord → Option A) (P : A → Type 0) (r : FileRecord) (rest : List FileRecord) (v : A) → ((r : FileRecord) (v : A) → what r ≡ Some v → P v) → (o : Option A)
    → what r ≡ o → or_else o (looked_up what rest) ≡ Some v → (looked_up what rest ≡ Some v → P v) → P v
looked-by what P r rest v each None is e more = more e
looked-by what P r rest v each (Some w) is e more = each r v (is ∙ e)

looked : {A : Type 0} (what : FileRecord → Option A) (P : A → Type 0) → ((r : FileRecord) (v : A) → what r ≡ Some v → P v) → (records : List FileRecord) (v : A) → looked_up what records ≡ Some v → P v
unfolding looked_up
looked what P each [] v e = absurd (cc e)
looked what P each (r ∷ rest) v e = looked-by what P r rest v each (what r) refl e (λ more. looked what P each rest v more)

taken : {A : Type 0} (b : Bool) (x v : A) → (if b then Some x else None) ≡ Some v → x ≡ v
taken true x v e = cc e
taken false x v e = absurd (cc e)

doubles-by : (x : Result Row Reason) (n : ℕ) → Says x → doubles_in x ≡ Some n → IsProperCount n
doubles-by (Ok (row.Doubles m)) n f e = let same : m ≡ n = cc e in subst IsProperCount same f
doubles-by (Ok (row.Start t)) n f e = absurd (cc e)
doubles-by (Ok (row.Length l)) n f e = absurd (cc e)
doubles-by (Ok (row.Delay d)) n f e = absurd (cc e)
doubles-by (Err why) n f e = absurd (cc e)

start-by : (node : ℕ) (x : Result Row Reason) (v : Start) → Says x → start_in node x ≡ Some v → IsBetween (pos 0) (pos 1_000_000_000_000) v.ticks
start-by node (Ok (row.Doubles m)) v f e = absurd (cc e)
start-by node (Ok (row.Start t)) v f e = subst (λ (s : Start). IsBetween (pos 0) (pos 1_000_000_000_000) s.ticks) (taken (t.node == node) t.start v e) f
start-by node (Ok (row.Length l)) v f e = absurd (cc e)
start-by node (Ok (row.Delay d)) v f e = absurd (cc e)
start-by node (Err why) v f e = absurd (cc e)

length-by : (node from : ℕ) (x : Result Row Reason) (v : ℤ) → Says x → length_in node from x ≡ Some v → IsLength v
length-by node from (Ok (row.Doubles m)) v f e = absurd (cc e)
length-by node from (Ok (row.Start t)) v f e = absurd (cc e)
length-by node from (Ok (row.Length l)) v f e = subst IsLength (taken ((l.node == node) && (l.from == from)) l.ticks v e) f
length-by node from (Ok (row.Delay d)) v f e = absurd (cc e)
length-by node from (Err why) v f e = absurd (cc e)

delay-by : (sender receiver : ℕ) (ch : Channel) (from : ℕ) (x : Result Row Reason) (v : ℤ) → Says x → delay_in sender receiver ch from x ≡ Some v → v ≤ℤ pos 1_000_000_000
delay-by sender receiver ch from (Ok (row.Doubles m)) v f e = absurd (cc e)
delay-by sender receiver ch from (Ok (row.Start t)) v f e = absurd (cc e)
delay-by sender receiver ch from (Ok (row.Length l)) v f e = absurd (cc e)
delay-by sender receiver ch from (Ok (row.Delay d)) v f e =
    subst (λ (z : ℤ). z ≤ℤ pos 1_000_000_000) (taken (is_channel ch d.channel && is_delay_of sender receiver from d) d.ticks v e) f
delay-by sender receiver ch from (Err why) v f e = absurd (cc e)

abbrev IsShort : ℤ → Type 0
IsShort ticks = ticks ≤ℤ pos 1_000_000_000

module _ (p : Values) (d : DriftView) (fits : DriftFits p d) where
  doubles-proper : IsProperCount (doubles_of d)
  unfolding doubles_of
  doubles-proper = looked (λ r. doubles_in (drift_row_of r)) IsProperCount (λ r n is. doubles-by (drift_row_of r) n (says-row r) is) fits.records d.doubles fits.stands.doubles

  start-proper : (node : ℕ) → IsBetween (pos 0) (pos 1_000_000_000_000) (start_of d node)
  unfolding start_of
  start-proper node = by (start_rows d node) refl
    where
      by : (o : Option Start) → start_rows d node ≡ o → IsBetween (pos 0) (pos 1_000_000_000_000) (option_map_or (λ s. s.ticks) o (pos 0))
      by None is = record { low = omega (arith, ints); high = omega (arith, ints) }
      by (Some s) is =
          looked (λ r. start_in node (drift_row_of r)) (λ v. IsBetween (pos 0) (pos 1_000_000_000_000) v.ticks) (λ r v told. start-by node (drift_row_of r) v (says-row r) told) fits.records s (sym (fits.stands.starts node) ∙ is)

  rate-proper : IsSane p → (node : ℕ) → IsRateWithin p (rate_of d node)
  unfolding rate_of
  rate-proper sane node = by (start_rows d node) refl
    where
      by : (o : Option Start) → start_rows d node ≡ o → IsRateWithin p (option_map_or (λ s. s.rate) o (pos 0))
      by None is = zero-within p sane
      by (Some s) is = start-within p node s fits.records fits.none_refused (sym (fits.stands.starts node) ∙ is)

  length-proper : (node cycle : ℕ) → IsLength (length_of d node cycle)
  unfolding length_of
  length-proper node cycle = out (held (length_rows d node) cycle) (held-proper IsLength (length_rows d node) cycle rows)
    where
      out : (o : Option ℤ) → IfSome o IsLength → IsLength (unwrap_or o (pos 1_000_000))
      out None f = record { low = omega (arith, ints); high = omega (arith, ints) }
      out (Some v) f = f

      rows : (from : ℕ) → IfSome (length_rows d node from) IsLength
      rows from = by (length_rows d node from) refl
        where
          by : (o : Option ℤ) → length_rows d node from ≡ o → IfSome o IsLength
          by None is = tt
          by (Some v) is = looked (λ r. length_in node from (drift_row_of r)) IsLength (λ r w told. length-by node from (drift_row_of r) w (says-row r) told) fits.records v (sym (fits.stands.lengths node from) ∙ is)

  -- the compensation of a channel, as ticks, where no row says how long a frame is on its way
  default-proper : IsSane p → (ch : Channel) → (compensation_on d ch *ℤ pos 1_000_000) ≤ℤ pos 1_000_000_000
  default-proper sane ch = subst (λ (u : ℤ). (u *ℤ pos 1_000_000) ≤ℤ pos 1_000_000_000) (sym (fits.stands.compensation ch)) (by ch)
    where
      few : (u : ℤ) → u ≤ℤ pos 200 → (u *ℤ pos 1_000_000) ≤ℤ pos 1_000_000_000
      few u le =
          let most = mulz-lez u (pos 200) (pos 1_000_000) le (omega (arith, ints)) in
          step (u *ℤ pos 1_000_000) most
        where
          step : (z : ℤ) → z ≤ℤ pos 200_000_000 → z ≤ℤ pos 1_000_000_000
          step z h = omega (arith, ints, h)

      by : (ch : Channel) → (compensation_of p ch *ℤ pos 1_000_000) ≤ℤ pos 1_000_000_000
      by channel.A = few p.compensation_a (sane.ranges name.pDelayCompensationA).1
      by channel.B = few p.compensation_b (sane.ranges name.pDelayCompensationB).1

  delay-proper : IsSane p → (sender receiver : ℕ) (ch : Channel) (cycle : ℕ) → delay_of d sender receiver ch cycle ≤ℤ pos 1_000_000_000
  unfolding delay_of
  delay-proper sane sender receiver ch cycle = out (held (delay_rows d sender receiver ch) cycle) (held-proper IsShort (delay_rows d sender receiver ch) cycle rows)
    where
      out : (o : Option ℤ) → IfSome o IsShort → unwrap_or o (compensation_on d ch *ℤ pos 1_000_000) ≤ℤ pos 1_000_000_000
      out None f = default-proper sane ch
      out (Some v) f = f

      rows : (from : ℕ) → IfSome (delay_rows d sender receiver ch from) IsShort
      rows from = by (delay_rows d sender receiver ch from) refl
        where
          by : (o : Option ℤ) → delay_rows d sender receiver ch from ≡ o → IfSome o IsShort
          by None is = tt
          by (Some v) is =
              looked (λ r. delay_in sender receiver ch from (drift_row_of r)) IsShort (λ r w told. delay-by sender receiver ch from (drift_row_of r) w (says-row r) told) fits.records v (sym (fits.stands.delays sender receiver ch from) ∙ is)

-- ---- what a script lets arbitrary nodes say

-- what is looked up stands in a record after those before it
record IsToldAt {A : Type 0} (what : FileRecord → Option A) (records : List FileRecord) (x : A) : Type 0 where
  before : List FileRecord
  told : FileRecord
  after : List FileRecord
  cut : records ≡ before ++ told ∷ after
  says : what told ≡ Some x

told-head : {A : Type 0} (what : FileRecord → Option A) (r : FileRecord) (rest : List FileRecord) (x : A) (o : Option A) → what r ≡ o → or_else o (looked_up what rest) ≡ Some x
    → (looked_up what rest ≡ Some x → IsToldAt what rest x) → IsToldAt what (r ∷ rest) x
told-head what r rest x (Some y) e h later = record { before = []; told = r; after = rest; cut = refl; says = e ∙ h }
told-head what r rest x None e h later =
    let w = later h in
    record { before = r ∷ w.before; told = w.told; after = w.after; cut = ap (λ (xs : List FileRecord). r ∷ xs) w.cut; says = w.says }

told-look : {A : Type 0} (what : FileRecord → Option A) (records : List FileRecord) (x : A) → looked_up what records ≡ Some x → IsToldAt what records x
unfolding looked_up
told-look what [] x h = absurd (cc h)
told-look what (r ∷ rest) x h = told-head what r rest x (what r) refl h (λ e. told-look what rest x e)

not-refused : (b : Bool) (why : Reason) (o : Option Reason) → (if b then Some why else o) ≡ None → (b ≡ false) × (o ≡ None)
not-refused true why o h = absurd (cc h)
not-refused false why o h = (refl, h)

not-true : (b : Bool) → not b ≡ false → b ≡ true
not-true true e = refl
not-true false e = absurd (cc e)

equal-of : (m n : ℕ) → (m == n) ≡ true → m ≡ n
equal-of m n h = grind (arith, nat_tests)

-- a channel that a row names
named-channel : (ch : Channel) (o : Option Channel) → is_channel ch o ≡ true → o ≡ Some ch
named-channel ch None e = absurd (cc e)
named-channel channel.A (Some channel.A) e = refl
named-channel channel.A (Some channel.B) e = absurd (cc e)
named-channel channel.B (Some channel.A) e = absurd (cc e)
named-channel channel.B (Some channel.B) e = refl

-- a deed that is not refused is done between nodes that have the channel in common
deed-row : (p : Values) (before : List FileRecord) (ch : Channel) (sender receiver cycle : ℕ) (what : Deed) (x : Result ScriptRow Reason) → deed_said ch (passage_of sender receiver cycle) x ≡ Some what
    → script_row_reason p before x ≡ None → is_common p sender receiver ch ≡ true
deed-row p before ch sender receiver cycle what (Ok (script_row.Arbitrary node)) says none = absurd (cc says)
deed-row p before ch sender receiver cycle what (Ok (script_row.Join j)) says none = absurd (cc says)
deed-row p before ch sender receiver cycle what (Err why) says none = absurd (cc says)
deed-row p before ch sender receiver cycle what (Ok (script_row.Deed d)) says none =
    by (is_channel ch d.channel && is_same_passage d.passage (passage_of sender receiver cycle)) refl says
  where
    common : d.channel ≡ Some ch → d.passage.sender ≡ sender → d.passage.receiver ≡ receiver → is_common p sender receiver ch ≡ true
    common on from to =
        let one = not-refused (is_after_frame p d.deed) reason.OutOfRange _ none in
        let two = not-refused (not (knows_both p d.passage)) reason.UnknownNode _ one.1 in
        let three = sym (ap (channel_reason p before d.passage d.deed) on) ∙ two.1 in
        let four = not-refused (is_misplaced before d.passage (is_say d.deed)) reason.Role _ three in
        let five = not-refused (not (is_common p d.passage.sender d.passage.receiver ch)) reason.Link _ four.1 in
        sym (λ i. is_common p (from i) (to i) ch) ∙ not-true (is_common p d.passage.sender d.passage.receiver ch) five.0

    by : (b : Bool) → (is_channel ch d.channel && is_same_passage d.passage (passage_of sender receiver cycle)) ≡ b → (if b then d.deed else None) ≡ Some what → is_common p sender receiver ch ≡ true
    by false is e = absurd (cc e)
    by true is e =
        let both = and_parts (is_channel ch d.channel) (is_same_passage d.passage (passage_of sender receiver cycle)) is in
        let ends = and_parts ((d.passage.sender == sender) && (d.passage.receiver == receiver)) (d.passage.cycle == cycle) both.1 in
        let nodes = and_parts (d.passage.sender == sender) (d.passage.receiver == receiver) ends.0 in
        common (named-channel ch d.channel both.0) (equal-of d.passage.sender sender nodes.0) (equal-of d.passage.receiver receiver nodes.1)

-- only a deed that says something says it
said-deed : (b : Bool) (o : Option Deed) (shift : ℤ) (bytes : Option (List ℕ)) → event_by b o ≡ event.Say shift bytes → o ≡ Some (deed.Say shift bytes)
said-deed true None shift bytes h = absurd (cc h)
said-deed true (Some deed.Lose) shift bytes h = absurd (cc h)
said-deed true (Some (deed.Flip bit)) shift bytes h = absurd (cc h)
said-deed true (Some (deed.Say other said)) shift bytes h = let a : other ≡ shift = cc h in let b : said ≡ bytes = cc h in λ i. Some (deed.Say (a i) (b i))
said-deed false None shift bytes h = absurd (cc h)
said-deed false (Some deed.Lose) shift bytes h = absurd (cc h)
said-deed false (Some (deed.Flip bit)) shift bytes h = absurd (cc h)
said-deed false (Some (deed.Say other said)) shift bytes h = absurd (cc h)

said-in-common : (p : Values) (s : ScriptView) (cycle sender receiver : ℕ) (ch : Channel) (shift : ℤ) (bytes : Option (List ℕ)) → ScriptFits p s → event_of s cycle sender receiver ch ≡ event.Say shift bytes
    → is_common p sender receiver ch ≡ true
unfolding event_of deed_of
said-in-common p s cycle sender receiver ch shift bytes f h =
    let what = said-deed (is_arbitrary s sender) (deed_of s cycle sender receiver ch) shift bytes h in
    let passage = passage_of sender receiver cycle in
    let cut = told-look (λ r. deed_said ch passage (script_row_of r)) f.records (deed.Say shift bytes) (sym (f.stands.deeds ch passage) ∙ what) in
    deed-row p cut.before ch sender receiver cycle (deed.Say shift bytes) (script_row_of cut.told) cut.says (f.none_refused cut.before cut.told cut.after cut.cut)

-- ---- where no correct node joins, none does

pub none-joins : FilesThatNoneJoins
none-joins p d s node fits alone = by (join_of s node) refl
  where
    by_node : (join : Join) → join_of s node ≡ Some join → (o : Option NodeSpec) → node_of p node ≡ o → IsSome o → is_arbitrary s node ≡ false → join_of s node ≡ None
    by_node join at None is some correct = absurd (cc some)
    by_node join at (Some spec) is some correct =
        let there = found (λ (n : NodeSpec). n.id == node) p.nodes spec is in
        let same : spec.id ≡ node = equal-of spec.id node there.0 in
        let right : is_correct (setting_of p d s) spec.id ≡ true = ap (is_correct (setting_of p d s)) same ∙ ap (λ (b : Bool). not b) correct in
        let among = kept_filtered (λ (n : NodeSpec). is_correct (setting_of p d s) n.id) p.nodes spec there.1 right in
        let joins = some_joins_by (setting_of p d s) spec join among (ap (join_of s) same ∙ at) in
        absurd (cc (joins, alone))

    by : (o : Option Join) → join_of s node ≡ o → join_of s node ≡ None
    by None at = at
    by (Some join) at =
        let proper = fits-join p s fits node join at in
        by_node join at (node_of p node) refl proper.known proper.correct

pub files-keep-ranges : FilesKeepRanges
files-keep-ranges p d s sane drift script =
    let count = doubles-proper p d drift in
    record {
      sane = sane;
      doubles_from = count.from;
      doubles_to = count.to;
      starts = start-proper p d drift;
      rates = λ node. let rate = rate-proper p d drift sane node in record { low = rate.from; high = rate.to };
      lengths = length-proper p d drift;
      keyed = λ node there arbitrary.
          sym (ap (λ (o : Option NodeSpec). is_some (key_in o)) (node_there p node sane there)) ∙ fits-key p s node.id script arbitrary;
      heard = λ cycle sender receiver ch shift bytes arbitrary says. said-in-common p s cycle sender receiver ch shift bytes script says;
      joins = λ node join at.
          let proper = fits-join p s script node join at in
          record {
            known = proper.known;
            correct = proper.correct;
            known_reference = proper.known_reference;
            correct_reference = proper.correct_reference;
            key = proper.key;
            other = proper.other;
            stays = proper.stays;
            channel = proper.channel;
            common = proper.common;
            double = proper.double;
            delays = λ sender cycle ch. delay-proper p d drift sane sender node ch cycle;
          };
    }

pub runs-of-files-are-read-back : RunsOfFilesAreReadBack
runs-of-files-are-read-back p d s h sane drift script lawful whole =
    runs-are-read-back (setting_of p d s) h (files-keep-ranges p d s sane drift script) lawful whole
