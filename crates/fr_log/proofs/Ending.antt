-- The log of tables that hold all records.
use Rattle.std.proofs.Common.{◌≡◌, ℕ, ◌≤◌, false, List, Option, Some, None, Result, Ok, Err, ap, sym, ◌∙◌, subst, arith}
use Rattle.std.specs.Prelude.{◌%◌, ◌==◌, IfOk, IfSome, unwrap_or}
use Rattle.std.proofs.lemmas.Bool.Decides.{nat_tests}
use Rattle.std.proofs.lemmas.Nat.{mod_below}
use Rattle.std.proofs.lemmas.Option.{IfSome_then}
use Rattle.fr_base.specs.declared.channel.Channel.{Channel}
use Rattle.fr_base.specs.declared.channel.Channel.TheVariants as channel
use Rattle.fr_text.specs.Kind.{Reads}
use Rattle.fr_text.specs.Records.{FileRecord, records_of}
use Rattle.fr_text.specs.Refusal.{NoneRefused}
use Rattle.fr_cluster.specs.Values.{Values}
use Rattle.fr_log.specs.Draft.{EndsLog, IsLogDraft, IsTakenNumber, log_drafted, number_in_table}
use Rattle.fr_log.specs.Files.{IsSoundLog, LogStandsFor, log_file}
use Rattle.fr_log.specs.Numbers.{IsHeadNumber}
use Rattle.fr_log.specs.Reasons.{delay_limits_by, log_reason_after}
use Rattle.fr_log.specs.View.{IsEvenCycle, IsLog, LogView, is_arbitrary_in, own_limits}
use Rattle.fr_log.specs.declared.draft.Draft.{Draft}
use Rattle.fr_log.specs.declared.fault.LogFault.{LogFault}
use Rattle.fr_log.specs.declared.fault.LogFault.TheVariants as fault
use Rattle.fr_log.specs.declared.rows.HeadNumber.{HeadNumber}
use Rattle.fr_log.specs.declared.rows.HeadNumber.TheVariants as head

-- a number that some record says, and one that none need say
said-number : (d : Draft) (done : List FileRecord) (name : HeadNumber) (n : ℕ) → IsLogDraft d done → number_in_table d.numbers name ≡ Some n → IsHeadNumber name n
said-number d done name n h is =
    let taken : IfSome (Some n) (IsTakenNumber name) = subst (λ (o : Option ℕ). IfSome o (IsTakenNumber name)) is (h.proper.numbers name) in
    taken.range

error-number : (o : Option ℕ) → IfSome o (IsTakenNumber head.Error) → IsHeadNumber head.Error (unwrap_or o 0)
error-number None h = record { from = omega arith; to = omega arith }
error-number (Some n) h = h.range

lost-number : (o : Option ℕ) → IfSome o (IsTakenNumber head.Lost) → IsHeadNumber head.Lost (unwrap_or o 0)
lost-number None h = record { from = omega arith; to = omega arith }
lost-number (Some n) h = h.range

even-of : (n : ℕ) → (n % 2 == 1) ≡ false → n % 2 ≡ 0
even-of n h =
    let below = mod_below n 2 (omega arith) in
    let not : n % 2 ≡ 1 → ⊥ = grind (arith, nat_tests) in
    omega (arith, below, not)

even-cycle : (n : ℕ) → IsTakenNumber head.Since n → IsEvenCycle n
even-cycle n taken = record { even = even-of n taken.fits; most = taken.range.to }

pub last-cycle : (d : Draft) (done : List FileRecord) → IsLogDraft d done → IfSome (number_in_table d.numbers head.Since) (λ n. n ≤ 199_998)
last-cycle d done h = IfSome_then (number_in_table d.numbers head.Since) (h.proper.numbers head.Since) (λ n taken. taken.range.to)

pub log-proper : (d : Draft) (done : List FileRecord) (unit drift : ℕ) → IsLogDraft d done → number_in_table d.numbers head.Unit ≡ Some unit → number_in_table d.numbers head.Drift ≡ Some drift
    → IsLog (log_drafted d unit drift)
log-proper d done unit drift h is_unit is_drift = record {
  unit = said-number d done head.Unit unit h is_unit;
  drift = said-number d done head.Drift drift h is_drift;
  error = error-number (number_in_table d.numbers head.Error) (h.proper.numbers head.Error);
  jitter = IfSome_then (number_in_table d.numbers head.Jitter) (h.proper.numbers head.Jitter) (λ n taken. taken.range);
  flutter = IfSome_then (number_in_table d.numbers head.Flutter) (h.proper.numbers head.Flutter) (λ n taken. taken.range);
  lost = lost-number (number_in_table d.numbers head.Lost) (h.proper.numbers head.Lost);
  since = IfSome_then (number_in_table d.numbers head.Since) (h.proper.numbers head.Since) even-cycle;
  arbitrary_long = h.arbitrary_long;
  on_a_long = h.on_a_long;
  on_b_long = h.on_b_long;
  on_a = h.proper.on_a;
  on_b = h.proper.on_b;
  each = h.proper.each;
  entries = h.proper.entries unit is_unit;
  ascending = h.proper.ascending;
}

pub log-stands : (d : Draft) (done : List FileRecord) (unit drift : ℕ) → IsLogDraft d done → number_in_table d.numbers head.Unit ≡ Some unit → number_in_table d.numbers head.Drift ≡ Some drift
    → LogStandsFor (log_drafted d unit drift) done
unfolding is_arbitrary_in own_limits
log-stands d done unit drift h is_unit is_drift = record {
  unit = sym (h.numbers head.Unit) ∙ is_unit;
  drift = sym (h.numbers head.Drift) ∙ is_drift;
  error = ap (λ (o : Option ℕ). unwrap_or o 0) (h.numbers head.Error);
  jitter = h.numbers head.Jitter;
  flutter = h.numbers head.Flutter;
  lost = ap (λ (o : Option ℕ). unwrap_or o 0) (h.numbers head.Lost);
  since = h.numbers head.Since;
  whole = h.whole;
  arbitrary_long = h.arbitrary_long;
  on_a_long = h.on_a_long;
  on_b_long = h.on_b_long;
  arbitrary = h.arbitrary;
  limits = limits;
  each = h.each;
  entries = h.entries;
}
  where
    limits : (node : ℕ) (ch : Channel) → node ≤ 64 → own_limits (log_drafted d unit drift) node ch ≡ delay_limits_by node ch done
    limits node channel.A low = h.on_a node low
    limits node channel.B low = h.on_b node low

-- ---- the answer of the reader

pub ends-reads : (p : Values) (bytes : List ℕ) (r : Result LogView LogFault) → NoneRefused (log_reason_after p) (records_of bytes) → EndsLog p (records_of bytes) r → Reads (log_file p) bytes r
ends-reads p bytes (Ok l) none h = record { none_refused = none; limited = h.limited; stands = h.stands }
ends-reads p bytes (Err (fault.Row number why)) none h = absurd h
ends-reads p bytes (Err fault.MissingUnit) none h = record { none_refused = none; missing = h }
ends-reads p bytes (Err fault.MissingDrift) none h = record { none_refused = none; unit = h.unit; missing = h.missing }
ends-reads p bytes (Err fault.MissingDelay) none h = record { none_refused = none; unit = h.unit; drift = h.drift; missing = h.missing }
ends-reads p bytes (Err fault.NoMemory) none h = tt

pub ends-sound : (p : Values) (bytes : List ℕ) (r : Result LogView LogFault) → NoneRefused (log_reason_after p) (records_of bytes) → EndsLog p (records_of bytes) r → IfOk r (IsSoundLog p)
ends-sound p bytes (Ok l) none h = record {
  fits = record { records = records_of bytes; none_refused = none; limited = h.limited; stands = h.stands };
  proper = h.proper;
}
ends-sound p bytes (Err why) none h = tt
