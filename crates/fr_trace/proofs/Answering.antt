-- What reading a trace may answer is one answer, but for want of memory, and there is one.
use Rattle.std.proofs.Common.{◌≡◌, ◌≢◌, ◌⊎◌, inl, inr, ℕ, ◌*◌, ◌-◌, ◌^◌, ◌≤◌, arith, Bool, true, false, List, length, Option, Some, None, Result, Ok, Err, ap, sym, ◌∙◌, refl}
use Rattle.std.specs.Prelude.{IfOk, min}
use Rattle.fr_base.specs.declared.reason.Reason.{Reason}
use Rattle.fr_cluster.specs.Values.{Values}
use Rattle.fr_text.specs.Kind.{HasOneAnswer, HasSomeAnswer, Reads}
use Rattle.fr_text.specs.Records.{FileRecord, records_of}
use Rattle.fr_text.specs.Refusal.{FirstRefused, NoneRefused}
use Rattle.fr_text.proofs.Cuts.{first-same, none-or-first-refused, refused-none}
use Rattle.fr_trace.specs.Draft.{AnswersFor}
use Rattle.fr_trace.specs.Fits.{TraceFits}
use Rattle.fr_trace.specs.Files.{TraceStandsFor, is_whole, is_whole_by, trace_file}
use Rattle.fr_trace.specs.Reasons.{trace_reason_after}
use Rattle.fr_trace.specs.Said.{history_said, joins_at, named_at, traced_doubles_at}
use Rattle.fr_trace.specs.Trace.{TraceView}
use Rattle.fr_trace.specs.declared.fault.TraceFault.{TraceFault}
use Rattle.fr_trace.specs.declared.fault.TraceFault.TheVariants as fault

some-same : (n m : ℕ) → Some n ≡ Some m → n ≡ m
some-same n m e = cc e

pub stands-same : (t u : TraceView) (records : List FileRecord) → TraceStandsFor t records → TraceStandsFor u records → t ≡ u
stands-same t u records a b =
    let doubles : t.doubles ≡ u.doubles = some-same t.doubles u.doubles (sym a.doubles ∙ b.doubles) in
    let arbitrary : t.arbitrary ≡ u.arbitrary = a.arbitrary ∙ sym b.arbitrary in
    let history : t.history ≡ u.history = a.history ∙ ap (λ (n : ℕ). history_said records (2 * n)) doubles ∙ sym b.history in
    let joins : t.joins ≡ u.joins = a.joins ∙ sym b.joins in
    λ i. record { doubles = doubles i; arbitrary = arbitrary i; joins = joins i; history = history i }

whole-not : {P : Type 0} (b : Bool) → b ≡ true → b ≡ false → P
whole-not true e f = absurd (cc f)
whole-not false e f = absurd (cc e)

pub reads-same : (p : Values) → HasOneAnswer (trace_file p)
reads-same p bytes (Ok t) (Ok u) na nb f g = ap Ok (stands-same t u (records_of bytes) f.stands g.stands)
reads-same p bytes (Ok t) (Err (fault.Row n why)) na nb f g = absurd (refused-none (trace_reason_after p) (records_of bytes) n why g f.none_refused)
reads-same p bytes (Ok t) (Err (fault.Incomplete rows)) na nb f g = whole-not (is_whole p (records_of bytes)) f.whole g.missing
reads-same p bytes (Ok t) (Err fault.NoMemory) na nb f g = absurd (nb refl)
reads-same p bytes (Err (fault.Row n why)) (Ok u) na nb f g = absurd (refused-none (trace_reason_after p) (records_of bytes) n why f g.none_refused)
reads-same p bytes (Err (fault.Row n why)) (Err (fault.Row m other)) na nb f g =
    let same = first-same (trace_reason_after p) (records_of bytes) n m why other f g in
    let a : n ≡ m = same.0 in let b : why ≡ other = same.1 in λ i. Err (fault.Row (a i) (b i))
reads-same p bytes (Err (fault.Row n why)) (Err (fault.Incomplete rows)) na nb f g = absurd (refused-none (trace_reason_after p) (records_of bytes) n why f g.none_refused)
reads-same p bytes (Err (fault.Row n why)) (Err fault.NoMemory) na nb f g = absurd (nb refl)
reads-same p bytes (Err (fault.Incomplete rows)) (Ok u) na nb f g = whole-not (is_whole p (records_of bytes)) g.whole f.missing
reads-same p bytes (Err (fault.Incomplete rows)) (Err (fault.Row n why)) na nb f g = absurd (refused-none (trace_reason_after p) (records_of bytes) n why g f.none_refused)
reads-same p bytes (Err (fault.Incomplete rows)) (Err (fault.Incomplete other)) na nb f g = let same : rows ≡ other = f.counted ∙ sym g.counted in λ i. Err (fault.Incomplete (same i))
reads-same p bytes (Err (fault.Incomplete rows)) (Err fault.NoMemory) na nb f g = absurd (nb refl)
reads-same p bytes (Err fault.NoMemory) b na nb f g = absurd (na refl)

-- a file is accepted, or it is refused for a cause
pub reads-some : (p : Values) → HasSomeAnswer (trace_file p)
reads-some p bytes = by (none-or-first-refused (trace_reason_after p) (records_of bytes))
  where
    told : NoneRefused (trace_reason_after p) (records_of bytes) → (b : Bool) → is_whole p (records_of bytes) ≡ b → (o : Option ℕ) → traced_doubles_at (records_of bytes) ≡ o
        → (answer : Result TraceView TraceFault) × (answer ≢ Err fault.NoMemory) × Reads (trace_file p) bytes answer
    told none false e o is = (Err (fault.Incomplete (length (records_of bytes))), λ same. cc same, record { none_refused = none; missing = e; counted = refl })
    told none true e None is = absurd (let no = sym e ∙ ap (is_whole_by p (records_of bytes)) is in cc no)
    told none true e (Some n) is =
        let t : TraceView = record { doubles = n; arbitrary = named_at (records_of bytes); joins = joins_at (records_of bytes); history = history_said (records_of bytes) (2 * n) } in
        (Ok t, λ same. cc same, record { none_refused = none; whole = e; stands = record { doubles = is; arbitrary = refl; joins = refl; history = refl } })

    by : NoneRefused (trace_reason_after p) (records_of bytes) ⊎ ((n : ℕ) × ((why : Reason) × FirstRefused (trace_reason_after p) (records_of bytes) n why))
        → (answer : Result TraceView TraceFault) × (answer ≢ Err fault.NoMemory) × Reads (trace_file p) bytes answer
    by (inl none) = told none (is_whole p (records_of bytes)) refl (traced_doubles_at (records_of bytes)) refl
    by (inr first) = (Err (fault.Row first.0 first.1.0), λ same. cc same, first.1.1)

-- an answer to the records of a file is one to the file
min-is : (n : ℕ) → n ≤ 2 ^ 64 - 1 → min n (2 ^ 64 - 1) ≡ n
min-is n le = omega arith

pub answers-read : (p : Values) (bytes : List ℕ) (result : Result TraceView TraceFault) → NoneRefused (trace_reason_after p) (records_of bytes) → length (records_of bytes) ≤ 2 ^ 64 - 1
    → AnswersFor p (records_of bytes) result → Reads (trace_file p) bytes result
answers-read p bytes (Ok t) none small a = record { none_refused = none; whole = a.0; stands = a.1 }
answers-read p bytes (Err (fault.Row n why)) none small a = absurd a
answers-read p bytes (Err (fault.Incomplete rows)) none small a = record { none_refused = none; missing = a.0; counted = a.1 ∙ min-is (length (records_of bytes)) small }
answers-read p bytes (Err fault.NoMemory) none small a = tt

pub answers-fit : (p : Values) (records : List FileRecord) (result : Result TraceView TraceFault) → AnswersFor p records result → IfOk result (TraceFits p)
answers-fit p records (Ok t) a = a.2
answers-fit p records (Err why) a = tt
