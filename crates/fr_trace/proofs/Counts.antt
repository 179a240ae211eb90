-- A number of double cycles that a record says is not 0.
use Rattle.std.proofs.Common.{◌≡◌, ℕ, ℤ, pos, negsuc, ◌≤◌, Bool, true, false, List, length, Option, Some, None, Result, Ok, Err, refl, arith}
use Rattle.std.specs.Prelude.{codes, nat_lt, ◌==◌, ◌||◌, ◌&&◌, if◌then◌else◌}
use Rattle.std.specs.Str.{bytes_eq}
use Rattle.std.proofs.lemmas.Bool.Decides.{nat_tests}
use Rattle.fr_base.specs.Channels.{channel_of}
use Rattle.fr_base.specs.Number.{number_of}
use Rattle.fr_base.specs.declared.numbers.NumberFault.{NumberFault}
use Rattle.fr_base.specs.declared.numbers.NumberFault.TheVariants as fault
use Rattle.fr_base.specs.declared.reason.Reason.{Reason}
use Rattle.fr_base.specs.declared.reason.Reason.TheVariants as reason
use Rattle.fr_base.specs.declared.state.State.{State}
use Rattle.fr_text.specs.Fields.{both_of, field_of, is_blank, natural_of, natural_within, or_reason}
use Rattle.fr_text.specs.Records.{FileRecord}
use Rattle.fr_trace.specs.Rows.{are_blank, traced_arbitrary_row, clock_named, clock_with, dev_row, heard_row, traced_join_row, join_with, run_row, span_in, state_of, terms_in, trace_file_row, trace_row_of, value_in}
use Rattle.fr_trace.specs.declared.rows.Row.{Row}
use Rattle.fr_trace.specs.declared.rows.Row.TheVariants as row

-- a count that is said is 1 at least; other rows say none
abbrev pub IsCounted : Result Row Reason → Type 0
IsCounted (Ok (row.Run n)) = 1 ≤ n
IsCounted (Ok (row.Arbitrary node)) = Unit {0}
IsCounted (Ok (row.Join j)) = Unit {0}
IsCounted (Ok (row.Clock cycle clock)) = Unit {0}
IsCounted (Ok (row.Heard heard)) = Unit {0}
IsCounted (Err why) = Unit {0}

choice : (b : Bool) (x y : Result Row Reason) → IsCounted x → IsCounted y → IsCounted (if b then x else y)
choice true x y hx hy = hx
choice false x y hx hy = hy

run-number : (o : Option ℤ) → IsCounted (or_reason (λ n. Ok (row.Run n)) (natural_within 1 100_000 o))
run-number None = tt
run-number (Some (negsuc n)) = tt
run-number (Some (pos n)) = by (nat_lt n 1 || nat_lt 100_000 n) refl
  where
    by : (b : Bool) → (nat_lt n 1 || nat_lt 100_000 n) ≡ b → IsCounted (or_reason (λ n. Ok (row.Run n)) (if b then Err fault.OutOfRange else Ok n))
    by true e = tt
    by false e = grind (arith, nat_tests, e)

arbitrary-number : (x : Result ℕ NumberFault) → IsCounted (or_reason (λ n. Ok (row.Arbitrary n)) x)
arbitrary-number (Ok n) = tt
arbitrary-number (Err why) = tt

join-number : (x : Result ((ℕ × ℕ) × ℕ) NumberFault) → IsCounted (or_reason join_with x)
join-number (Ok numbers) = tt
join-number (Err why) = tt

clock-number : (state : State) (x : Result ((ℕ × ℕ) × ((ℤ × ℤ) × (ℤ × ℤ))) NumberFault) → IsCounted (or_reason (clock_with state) x)
clock-number state (Ok numbers) = tt
clock-number state (Err why) = tt

clock-number-named : (cycle node start len rate offset : List ℕ) (o : Option State) → IsCounted (clock_named cycle node start len rate offset o)
clock-number-named cycle node start len rate offset None = tt
clock-number-named cycle node start len rate offset (Some state) =
    clock-number state (both_of (both_of (natural_of 0 199_999 cycle) (natural_of 1 64 node)) (both_of (span_in start len) (terms_in rate offset)))

heard-number : (x : Result ((ℕ × ℕ) × (ℕ × ℤ)) NumberFault) (channel : List ℕ) → IsCounted (or_reason (dev_row (channel_of channel)) x)
heard-number (Ok numbers) channel = tt
heard-number (Err why) channel = tt

kind-number : (k a b c d e f g : List ℕ) → IsCounted (trace_file_row k a b c d e f g)
kind-number k a b c d e f g =
    choice (bytes_eq k (codes "run")) _ _ (choice (are_blank b c d && are_blank e f g) (run_row a) (Err reason.Shape) (run-number (number_of a)) tt)
    (choice (bytes_eq k (codes "arbitrary")) _ _ (choice (are_blank b c d && are_blank e f g) (traced_arbitrary_row a) (Err reason.Shape) (arbitrary-number (natural_of 1 64 a)) tt)
    (choice (bytes_eq k (codes "join")) _ _
    (choice (are_blank d e f && is_blank g) (traced_join_row a b c) (Err reason.Shape) (join-number (both_of (both_of (natural_of 1 64 a) (natural_of 1 64 b)) (natural_of 0 99_999 c))) tt)
    (choice (bytes_eq k (codes "cycle")) _ _ (clock-number-named a b c d e f (state_of g))
    (choice (bytes_eq k (codes "dev")) _ _
    (choice (is_blank f && is_blank g) (heard_row a b c d e) (Err reason.Shape) (heard-number (both_of (both_of (natural_of 0 199_999 a) (natural_of 1 64 b)) (both_of (natural_of 1 1023 c) (value_in e))) d) tt)
    tt))))

pub counted : (r : FileRecord) → IsCounted (trace_row_of r)
unfolding trace_row_of
counted r =
    choice (length r == 8) _ (Err reason.Shape)
    (kind-number (field_of r 0) (field_of r 1) (field_of r 2) (field_of r 3) (field_of r 4) (field_of r 5) (field_of r 6) (field_of r 7)) tt
