-- The numbers of a row that a record says lie in their ranges.
use Rattle.std.proofs.Common.{◌≡◌, ℕ, ℤ, pos, negsuc, ◌≤◌, ◌≤ℤ◌, Bool, true, false, List, Option, Some, None, Result, Ok, Err, refl, subst, arith, length}
use Rattle.std.specs.Prelude.{if◌then◌else◌, int_lt, nat_lt, ◌||◌, not, ◌==◌, codes, IfOk, IfSome}
use Rattle.std.specs.Str.{bytes_eq}
use Rattle.std.proofs.lemmas.Int.{ints}
use borrow.Author.Tests.{ltb-false}
use Rattle.fr_base.specs.Number.{number_of, within}
use Rattle.fr_base.specs.declared.numbers.NumberFault.{NumberFault}
use Rattle.fr_base.specs.declared.numbers.NumberFault.TheVariants as fault
use Rattle.fr_base.specs.declared.reason.Reason.{Reason}
use Rattle.fr_base.specs.declared.reason.Reason.TheVariants as reason
use Rattle.fr_text.specs.Records.{FileRecord}
use Rattle.fr_text.specs.Fields.{both_of, field_of, is_blank, natural_of, natural_within, or_reason}
use Rattle.fr_params.specs.Names.{name_of}
use Rattle.fr_cluster.specs.Ranges.{greatest, least, InRange}
use Rattle.fr_cluster.specs.declared.names.ParamName.{ParamName}
use Rattle.fr_params.specs.declared.names.Version.{Version}
use Rattle.fr_params.specs.Rows.{IsProperParamRow, channels_of, key_of, named_row, node_on, param_node_row, param_row_of, slot_row, slot_with, some_key, version_row}
use Rattle.fr_params.specs.declared.rows.Row.{Row}
use Rattle.fr_params.specs.declared.rows.Row.TheVariants as row

-- a number that is read lies in its range
within-range : (low high : ℤ) (o : Option ℤ) → IfOk (within low high o) (λ z. (low ≤ℤ z) × (z ≤ℤ high))
within-range low high None = tt
within-range low high (Some z) = by (int_lt z low) (int_lt high z) refl refl
  where
    by : (a b : Bool) → int_lt z low ≡ a → int_lt high z ≡ b → IfOk {E = NumberFault} (if a || b then Err fault.OutOfRange else Ok z) (λ y. (low ≤ℤ y) × (y ≤ℤ high))
    by true b e f = tt
    by false true e f = tt
    by false false e f = (grind (arith, ints), grind (arith, ints))

abbrev Lies : ℕ → ℕ → ℕ → Type 0
Lies low high n = (low ≤ n) × (n ≤ high)

natural-range : (low high : ℕ) (o : Option ℤ) → IfOk (natural_within low high o) (Lies low high)
natural-range low high None = tt
natural-range low high (Some (negsuc n)) = tt
natural-range low high (Some (pos n)) = by (nat_lt n low) (nat_lt high n) refl refl
  where
    by : (a b : Bool) → nat_lt n low ≡ a → nat_lt high n ≡ b → IfOk {E = NumberFault} (if a || b then Err fault.OutOfRange else Ok n) (Lies low high)
    by true b e f = tt
    by false true e f = tt
    by false false e f = (ltb-false n low e, ltb-false high n f)

lies : (low high : ℕ) (text : List ℕ) → IfOk (natural_of low high text) (Lies low high)
lies low high text = natural-range low high (number_of text)

-- what holds of numbers holds of what is made of them
read-ok : {A : Type 0} (Q : A → Type 0) (make : A → Result Row Reason) (x : Result A NumberFault) → IfOk x Q → ((a : A) → Q a → IfOk (make a) IsProperParamRow)
    → IfOk (or_reason make x) IsProperParamRow
read-ok Q make (Ok a) f each = each a f
read-ok Q make (Err why) f each = tt

both-ok : {A B : Type 0} (P : A → Type 0) (Q : B → Type 0) (x : Result A NumberFault) (y : Result B NumberFault) → IfOk x P → IfOk y Q → IfOk (both_of x y) (λ p. P p.0 × Q p.1)
both-ok P Q (Ok a) (Ok b) f g = (f, g)
both-ok P Q (Ok a) (Err why) f g = tt
both-ok P Q (Err fault.NotDigits) y f g = tt
both-ok P Q (Err fault.OutOfRange) (Ok b) f g = tt
both-ok P Q (Err fault.OutOfRange) (Err why) f g = tt

if-ok : (b : Bool) (x y : Result Row Reason) → IfOk x IsProperParamRow → IfOk y IsProperParamRow → IfOk (if b then x else y) IsProperParamRow
if-ok true x y f g = f
if-ok false x y f g = g

version-proper : (text : List ℕ) → IfOk (version_row text) IsProperParamRow
version-proper text =
    read-ok (λ z. (pos 2 ≤ℤ z) × (z ≤ℤ pos 2)) (λ z. Ok row.Version) (within (pos 2) (pos 2) (number_of text)) (within-range (pos 2) (pos 2) (number_of text)) (λ z h. tt)

named-proper : (o : Option ParamName) (text : List ℕ) → IfOk (named_row text o) IsProperParamRow
named-proper None text = tt
named-proper (Some n) text =
    read-ok (InRange n) (λ v. Ok (row.Param n v)) (within (pos (least n)) (pos (greatest n)) (number_of text)) (within-range (pos (least n)) (pos (greatest n)) (number_of text)) (λ v h. h)

abbrev IsKey : Option ℕ → Type 0
IsKey key = IfSome key (Lies 1 1023)

some-key : (x : Result ℕ NumberFault) → IfOk x (Lies 1 1023) → IfOk (some_key x) IsKey
some-key (Ok n) h = h
some-key (Err why) h = tt

key-proper : (text : List ℕ) → IfOk (key_of text) IsKey
key-proper text = by (is_blank text)
  where
    by : (b : Bool) → IfOk (if b then Ok None else some_key (natural_of 1 1023 text)) IsKey
    by true = tt
    by false = some-key (natural_of 1 1023 text) (lies 1 1023 text)

abbrev AreNodeNumbers : ℕ × (Option ℕ × ℕ) → Type 0
AreNodeNumbers numbers = Lies 1 64 numbers.0 × (IsKey numbers.1.0 × Lies 0 1 numbers.1.1)

on-proper : (o : Option (Bool × Bool)) (numbers : ℕ × (Option ℕ × ℕ)) → AreNodeNumbers numbers → IfOk (node_on o numbers) IsProperParamRow
on-proper None numbers h = tt
on-proper (Some on) numbers h = record { from = h.0.0; to = h.0.1; key = h.1.0 }

node-proper : (id key channels coldstart : List ℕ) → IfOk (param_node_row id key channels coldstart) IsProperParamRow
node-proper id key channels coldstart =
    read-ok AreNodeNumbers (node_on (channels_of channels)) (both_of (natural_of 1 64 id) (both_of (key_of key) (natural_of 0 1 coldstart)))
    (both-ok (Lies 1 64) (λ (p : Option ℕ × ℕ). IsKey p.0 × Lies 0 1 p.1) (natural_of 1 64 id) (both_of (key_of key) (natural_of 0 1 coldstart)) (lies 1 64 id)
    (both-ok IsKey (Lies 0 1) (key_of key) (natural_of 0 1 coldstart) (key-proper key) (lies 0 1 coldstart)))
    (λ numbers h. on-proper (channels_of channels) numbers h)

abbrev AreSlotNumbers : (ℕ × ℕ) × (ℕ × ℕ) → Type 0
AreSlotNumbers numbers = (Lies 1 1023 numbers.0.0 × Lies 1 64 numbers.0.1) × (Lies 0 63 numbers.1.0 × Lies 1 64 numbers.1.1)

slot-proper : (slot node base repetition : List ℕ) → IfOk (slot_row slot node base repetition) IsProperParamRow
slot-proper slot node base repetition =
    read-ok AreSlotNumbers slot_with (both_of (both_of (natural_of 1 1023 slot) (natural_of 1 64 node)) (both_of (natural_of 0 63 base) (natural_of 1 64 repetition)))
    (both-ok (λ (p : ℕ × ℕ). Lies 1 1023 p.0 × Lies 1 64 p.1) (λ (p : ℕ × ℕ). Lies 0 63 p.0 × Lies 1 64 p.1)
    (both_of (natural_of 1 1023 slot) (natural_of 1 64 node)) (both_of (natural_of 0 63 base) (natural_of 1 64 repetition))
    (both-ok (Lies 1 1023) (Lies 1 64) (natural_of 1 1023 slot) (natural_of 1 64 node) (lies 1 1023 slot) (lies 1 64 node))
    (both-ok (Lies 0 63) (Lies 1 64) (natural_of 0 63 base) (natural_of 1 64 repetition) (lies 0 63 base) (lies 1 64 repetition)))
    (λ numbers h. record {
      from = h.0.0.0;
      to = h.0.0.1;
      node_from = h.0.1.0;
      node_to = h.0.1.1;
      base_to = h.1.0.1;
      repetition_from = h.1.1.0;
      repetition_to = h.1.1.1;
    })

proper : (version : Version) (r : FileRecord) → IfOk (param_row_of version r) IsProperParamRow
unfolding param_row_of
proper version r =
    if-ok (length r == 5) _ (Err reason.Shape)
    (if-ok (bytes_eq (field_of r 0) (codes "version")) _ _
    (if-ok (not (is_blank (field_of r 2)) || not (is_blank (field_of r 3)) || not (is_blank (field_of r 4))) (Err reason.Shape) (version_row (field_of r 1)) tt (version-proper (field_of r 1)))
    (if-ok (bytes_eq (field_of r 0) (codes "param")) _ _
    (if-ok (not (is_blank (field_of r 3)) || not (is_blank (field_of r 4))) (Err reason.Shape) _ tt (named-proper (name_of version (field_of r 1)) (field_of r 2)))
    (if-ok (bytes_eq (field_of r 0) (codes "node")) _ _ (node-proper (field_of r 1) (field_of r 2) (field_of r 3) (field_of r 4))
    (if-ok (bytes_eq (field_of r 0) (codes "slot")) _ (Err reason.UnknownName) (slot-proper (field_of r 1) (field_of r 2) (field_of r 3) (field_of r 4)) tt))))
    tt

pub proper-row : (version : Version) (r : FileRecord) (said : Row) → param_row_of version r ≡ Ok said → IsProperParamRow said
proper-row version r said e = let P : Result Row Reason → Type 0 = λ x. IfOk x IsProperParamRow in subst P e (proper version r)
