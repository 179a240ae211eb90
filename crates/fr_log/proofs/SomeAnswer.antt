-- Each log file has an answer: records of which none is refused stand for a log, or something is missing.
use Rattle.std.proofs.Common.{◌≡◌, ◌≢◌, ℕ, zero, suc, ◌<◌, ◌≤◌, Bool, true, false, List, [], ◌∷◌, length, Option, Some, None, Result, Ok, Err, ap, refl, arith, ◌⊎◌, inl, inr}
use Rattle.std.specs.Prelude.{slice_index_or, unwrap_or}
use Rattle.fr_base.specs.declared.channel.Channel.{Channel}
use Rattle.fr_base.specs.declared.channel.Channel.TheVariants as channel
use Rattle.fr_base.specs.declared.reason.Reason.{Reason}
use Rattle.fr_text.specs.Kind.{HasSomeAnswer, Reads}
use Rattle.fr_text.specs.Records.{FileRecord, records_of}
use Rattle.fr_text.specs.Refusal.{FirstRefused, NoneRefused}
use Rattle.fr_text.proofs.Cuts.{none-or-first-refused}
use Rattle.fr_cluster.specs.Values.{Values}
use Rattle.fr_log.specs.Files.{LogStandsFor, lacks_delay, log_file}
use Rattle.fr_log.specs.Reasons.{delay_limits_by, each_by, entries_by, is_arbitrary_by, is_log_whole, log_reason_after, number_by}
use Rattle.fr_log.specs.View.{LogView, is_arbitrary_in, own_limits}
use Rattle.fr_log.specs.declared.fault.LogFault.{LogFault}
use Rattle.fr_log.specs.declared.fault.LogFault.TheVariants as fault
use Rattle.fr_log.specs.declared.rows.DelayLimits.{DelayLimits}
use Rattle.fr_log.specs.declared.rows.HeadNumber.TheVariants as head

-- the first answers of a function, as a list
answers : {A : Type 0} → (ℕ → A) → ℕ → List A
answers f zero = []
answers f (suc n) = f zero ∷ answers (λ k. f (suc k)) n

length-answers : {A : Type 0} (f : ℕ → A) (n : ℕ) → length (answers f n) ≡ n
unfolding answers
length-answers f zero = refl
length-answers f (suc n) = ap suc (length-answers (λ k. f (suc k)) n)

get_or-answers : {A : Type 0} (d : A) (f : ℕ → A) (n k : ℕ) → k < n → slice_index_or (answers f n) k d ≡ f k
unfolding answers
get_or-answers d f zero k h = absurd (omega arith)
get_or-answers d f (suc n) zero h = refl
get_or-answers d f (suc n) (suc k) h = get_or-answers d (λ k. f (suc k)) n k (omega arith)

no-limits : Option DelayLimits
no-limits = None

-- the log that records stand for
log_told : ℕ → ℕ → List FileRecord → LogView
log_told unit drift records = record {
  unit = unit;
  drift = drift;
  error = unwrap_or (number_by head.Error records) 0;
  jitter = number_by head.Jitter records;
  flutter = number_by head.Flutter records;
  lost = unwrap_or (number_by head.Lost records) 0;
  since = number_by head.Since records;
  whole = is_log_whole records;
  arbitrary = answers (λ node. is_arbitrary_by node records) 65;
  on_a = answers (λ node. delay_limits_by node channel.A records) 65;
  on_b = answers (λ node. delay_limits_by node channel.B records) 65;
  each = each_by records;
  entries = entries_by records;
}

stands-told : (unit drift : ℕ) (records : List FileRecord) → number_by head.Unit records ≡ Some unit → number_by head.Drift records ≡ Some drift → LogStandsFor (log_told unit drift records) records
unfolding log_told is_arbitrary_in own_limits no-limits
stands-told unit drift records is_unit is_drift = record {
  unit = is_unit;
  drift = is_drift;
  error = refl;
  jitter = refl;
  flutter = refl;
  lost = refl;
  since = refl;
  whole = refl;
  arbitrary_long = length-answers (λ node. is_arbitrary_by node records) 65;
  on_a_long = length-answers (λ node. delay_limits_by node channel.A records) 65;
  on_b_long = length-answers (λ node. delay_limits_by node channel.B records) 65;
  arbitrary = λ node low. get_or-answers false (λ n. is_arbitrary_by n records) 65 node (omega arith);
  limits = limits;
  each = refl;
  entries = refl;
}
  where
    limits : (node : ℕ) (ch : Channel) → node ≤ 64 → own_limits (log_told unit drift records) node ch ≡ delay_limits_by node ch records
    limits node channel.A low = get_or-answers no-limits (λ n. delay_limits_by n channel.A records) 65 node (omega arith)
    limits node channel.B low = get_or-answers no-limits (λ n. delay_limits_by n channel.B records) 65 node (omega arith)

-- an answer that is not want of memory
abbrev IsAnswered : Values → List ℕ → Type 0
IsAnswered p bytes = (answer : Result LogView LogFault) × (answer ≢ Err fault.NoMemory) × Reads (log_file p) bytes answer

by-delay : (p : Values) (bytes : List ℕ) (unit drift : ℕ) (b : Bool) → NoneRefused (log_reason_after p) (records_of bytes) → number_by head.Unit (records_of bytes) ≡ Some unit
    → number_by head.Drift (records_of bytes) ≡ Some drift → lacks_delay p (records_of bytes) ≡ b → IsAnswered p bytes
by-delay p bytes unit drift true none is_unit is_drift e =
    (Err fault.MissingDelay, λ same. cc same, record { none_refused = none; unit = rw is_unit refl; drift = rw is_drift refl; missing = e })
by-delay p bytes unit drift false none is_unit is_drift e = (
  Ok (log_told unit drift (records_of bytes)),
  λ same. cc same,
  record { none_refused = none; limited = e; stands = stands-told unit drift (records_of bytes) is_unit is_drift },
)

by-drift : (p : Values) (bytes : List ℕ) (unit : ℕ) (o : Option ℕ) → NoneRefused (log_reason_after p) (records_of bytes) → number_by head.Unit (records_of bytes) ≡ Some unit
    → number_by head.Drift (records_of bytes) ≡ o → IsAnswered p bytes
by-drift p bytes unit None none is_unit e = (Err fault.MissingDrift, λ same. cc same, record { none_refused = none; unit = rw is_unit refl; missing = e })
by-drift p bytes unit (Some drift) none is_unit e = by-delay p bytes unit drift (lacks_delay p (records_of bytes)) none is_unit e refl

by-unit : (p : Values) (bytes : List ℕ) (o : Option ℕ) → NoneRefused (log_reason_after p) (records_of bytes) → number_by head.Unit (records_of bytes) ≡ o → IsAnswered p bytes
by-unit p bytes None none e = (Err fault.MissingUnit, λ same. cc same, record { none_refused = none; missing = e })
by-unit p bytes (Some unit) none e = by-drift p bytes unit (number_by head.Drift (records_of bytes)) none e refl

-- a file is accepted, or it is refused for a cause
pub reads-some : (p : Values) → HasSomeAnswer (log_file p)
reads-some p bytes = by (none-or-first-refused (log_reason_after p) (records_of bytes))
  where
    by : NoneRefused (log_reason_after p) (records_of bytes) ⊎ ((n : ℕ) × ((why : Reason) × FirstRefused (log_reason_after p) (records_of bytes) n why)) → IsAnswered p bytes
    by (inl none) = by-unit p bytes (number_by head.Unit (records_of bytes)) none refl
    by (inr first) = (Err (fault.Row first.0 first.1.0), λ same. cc same, first.1.1)
