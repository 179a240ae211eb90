-- Each file has an answer: records of which none is refused lack a name, fail a constraint, or stand for parameters.
use Rattle.std.proofs.Common.{◌≡◌, ◌≢◌, ℕ, ℤ, zero, suc, pos, ◌<◌, List, map, Option, Some, None, Result, Ok, Err, ◌⊎◌, inl, inr, ap, sym, ◌∙◌, refl, arith, zero-add, subst}
use Rattle.std.specs.Prelude.{IsSome, unwrap_or}
use Rattle.std.specs.List.{range_with_len}
use Rattle.std.proofs.lemmas.Bool.{cases_eq}
use Rattle.std.proofs.lemmas.List.FromFn.{get_or-map-range_with_len}
use Rattle.fr_base.specs.declared.reason.Reason.{Reason}
use Rattle.fr_text.specs.Records.{FileRecord, records_of}
use Rattle.fr_text.specs.Kind.{HasSomeAnswer, Reads}
use Rattle.fr_text.specs.Refusal.{NoneRefused, FirstRefused}
use Rattle.fr_text.proofs.Cuts.{none-or-first-refused}
use Rattle.fr_cluster.specs.Numbers.{values_in}
use Rattle.fr_cluster.specs.Values.{Values, amount}
use Rattle.fr_cluster.specs.Constraints.{ConstraintHolds, FirstFails, key_slots}
use Rattle.fr_cluster.specs.declared.names.ParamName.{ParamName}
use Rattle.fr_params.specs.declared.names.Version.TheVariants.{Two}
use Rattle.fr_cluster.proofs.Figures.{figure-values_in}
use Rattle.fr_params.specs.Reasons.{param_reason_after}
use Rattle.fr_params.specs.Versions.{name_at, row_name, version_of}
use Rattle.fr_params.specs.Files.{IsMissing, ParamsStandFor, params_file, nodes_said, slots_said, value_named}
use Rattle.fr_params.specs.declared.fault.ParamFault.{ParamFault}
use Rattle.fr_params.specs.declared.fault.ParamFault.TheVariants as fault
use Rattle.fr_params.proofs.Deciding.{all-hold, first-failing}
use Rattle.fr_params.proofs.TableOfTwo.{earlier-at, index, index-lt, known-at, number-at, row-at}

-- below a number each has a value, or there is a first that has none
first-none : (f : ℕ → Option ℤ) (n : ℕ) → ((k : ℕ) → k < n → IsSome (f k)) ⊎ ((k : ℕ) × (k < n) × (f k ≡ None) × ((j : ℕ) → j < k → IsSome (f j)))
first-none f zero = inl (λ k lt. absurd (omega arith))
first-none f (suc n) = by (first-none f n)
  where
    at : (o : Option ℤ) → f n ≡ o → ((k : ℕ) → k < n → IsSome (f k)) → ((k : ℕ) → k < suc n → IsSome (f k)) ⊎ ((k : ℕ) × (k < suc n) × (f k ≡ None) × ((j : ℕ) → j < k → IsSome (f j)))
    at None e all = inr (n, omega arith, e, all)
    at (Some x) e all = inl (λ k lt. here k lt (cases_eq k n))
      where
        here : (k : ℕ) → k < suc n → (k ≡ n) ⊎ (k ≡ n → ⊥) → IsSome (f k)
        here k lt (inl same) = rw (ap f same ∙ e) refl
        here k lt (inr ne) = all k (omega (arith, ne))

    by : ((k : ℕ) → k < n → IsSome (f k)) ⊎ ((k : ℕ) × (k < n) × (f k ≡ None) × ((j : ℕ) → j < k → IsSome (f j)))
        → ((k : ℕ) → k < suc n → IsSome (f k)) ⊎ ((k : ℕ) × (k < suc n) × (f k ≡ None) × ((j : ℕ) → j < k → IsSome (f j)))
    by (inl all) = at (f n) refl all
    by (inr h) = inr (h.0, omega (arith, h.1), h.2, h.3)

there : (o : Option ℤ) → IsSome o → o ≡ Some (unwrap_or o (pos 0))
there None s = cc s
there (Some z) s = refl

-- what the records say of the row that has a number of the table of version 2
row_value : List FileRecord → ℕ → Option ℤ
row_value records k = value_named (row_name (version_of records) (name_at k)) records

-- the numbers that records say, and what they stand for
numbers_told : List FileRecord → List ℤ
numbers_told records = map (λ k. unwrap_or (row_value records k) (pos 0)) (range_with_len 0 20)

params_told : List FileRecord → Values
params_told records = values_in (numbers_told records) (nodes_said records) (slots_said records)

stands-told : (records : List FileRecord) → ((k : ℕ) → k < 20 → IsSome (row_value records k)) → ParamsStandFor (params_told records) records
unfolding params_told numbers_told row_value
stands-told records all = record {
  figures = λ n e.
      let few = index-lt n in
      let here : name_at (index n) ≡ n = row-at Two n e in
      ap (λ (m : ParamName). value_named (row_name (version_of records) m) records) (sym here)
      ∙ there (value_named (row_name (version_of records) (name_at (index n))) records) (all (index n) few)
      ∙ ap (λ (z : ℤ). Some z)
      (sym (get_or-map-range_with_len (λ k. unwrap_or (value_named (row_name (version_of records) (name_at k)) records) (pos 0)) 0 20 (index n) (index n) (pos 0) few (zero-add (index n)))
      ∙ sym (number-at (numbers_told records) n e)
      ∙ sym (figure-values_in (numbers_told records) (nodes_said records) (slots_said records) n));
  nodes = refl;
  slots = refl;
}

-- the first row that is missing is that of the first missing name
missing-first : (records : List FileRecord) (k : ℕ) → NoneRefused param_reason_after records → k < 20 → row_value records k ≡ None
    → ((j : ℕ) → j < k → IsSome (row_value records j)) → IsMissing (row_name (version_of records) (name_at k)) records
unfolding row_value
missing-first records k none few missing earlier = record {
  none_refused = none;
  known = known-at (version_of records) k few;
  missing = missing;
  earlier = λ n e lt.
      let less = earlier-at (version_of records) k n few e lt in
      let here : row_name (version_of records) (name_at (index n)) ≡ n = row-at (version_of records) n e in
      let P : ParamName → Type 0 = λ m. IsSome (value_named m records) in
      subst P here (earlier (index n) less);
}

-- a file is accepted, or it is refused for a cause
pub reads-some : HasSomeAnswer params_file
reads-some bytes = by (none-or-first-refused param_reason_after (records_of bytes))
  where
    checked : NoneRefused param_reason_after (records_of bytes) → (p : Values) → ParamsStandFor p (records_of bytes)
        → ((k : ℕ) → k < 9 → ConstraintHolds k (amount p) (key_slots p.nodes) p.slots) ⊎ ((k : ℕ) × FirstFails k (amount p) (key_slots p.nodes) p.slots)
        → (answer : Result Values ParamFault) × (answer ≢ Err fault.NoMemory) × Reads params_file bytes answer
    checked none p stands (inl all) =
        (Ok p, λ same. cc same, record { none_refused = none; stands = stands; constraints = all-hold (amount p) (key_slots p.nodes) p.slots all })
    checked none p stands (inr found) =
        (Err (fault.Constraint found.0), λ same. cc same, record { values = p; none_refused = none; stands = stands; fails = found.1 })

    listed : NoneRefused param_reason_after (records_of bytes)
        → ((k : ℕ) → k < 20 → IsSome (row_value (records_of bytes) k))
        ⊎ ((k : ℕ) × (k < 20) × (row_value (records_of bytes) k ≡ None) × ((j : ℕ) → j < k → IsSome (row_value (records_of bytes) j)))
        → (answer : Result Values ParamFault) × (answer ≢ Err fault.NoMemory) × Reads params_file bytes answer
    listed none (inl all) =
        let p = params_told (records_of bytes) in
        checked none p (stands-told (records_of bytes) all) (first-failing 9 (amount p) (key_slots p.nodes) p.slots)
    listed none (inr found) = (
      Err (fault.Missing (row_name (version_of (records_of bytes)) (name_at found.0))),
      λ same. cc same,
      missing-first (records_of bytes) found.0 none found.1 found.2 found.3,
    )

    by : NoneRefused param_reason_after (records_of bytes) ⊎ ((n : ℕ) × ((why : Reason) × FirstRefused param_reason_after (records_of bytes) n why))
        → (answer : Result Values ParamFault) × (answer ≢ Err fault.NoMemory) × Reads params_file bytes answer
    by (inl none) = listed none (first-none (row_value (records_of bytes)) 20)
    by (inr first) = (Err (fault.Row first.0 first.1.0), λ same. cc same, first.1.1)
