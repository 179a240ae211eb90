-- Each file has an answer: records of which none is refused stand for a power file.
use Rattle.std.proofs.Common.{◌≡◌, ◌≢◌, ℕ, Bool, true, false, cond, List, [], ◌∷◌, Option, Some, None, Result, Ok, Err, ap, sym, ◌∙◌, refl, ◌⊎◌, inl, inr}
use Rattle.std.specs.Prelude.{◌==◌, ◌&&◌, if◌then◌else◌}
use Rattle.std.specs.Cmp.{eq_by_cmp_equiv}
use Rattle.std.specs.FinMap as map
use Rattle.std.specs.FinMap.{FinMap, get-empty, get-insert}
use Rattle.fr_base.specs.declared.reason.Reason.{Reason}
use Rattle.fr_text.specs.Records.{FileRecord, records_of}
use Rattle.fr_text.specs.Kind.{HasSomeAnswer, Reads}
use Rattle.fr_text.specs.Refusal.{NoneRefused, FirstRefused}
use Rattle.fr_text.specs.Fields.{or_else}
use Rattle.fr_text.proofs.Cuts.{none-or-first-refused}
use Rattle.fr_text.proofs.Lookups.{or_else-none}
use Rattle.fr_cluster.specs.Values.{Values}
use Rattle.fr_cold.specs.declared.state.Switch.{Switch}
use Rattle.fr_cold.specs.Keys.{power_cmp, power_key}
use Rattle.fr_cold.specs.Rows.{power_row_of}
use Rattle.fr_cold.specs.Reasons.{cycles_at, last_given, power_reason_after, switch_at, switch_in}
use Rattle.fr_cold.specs.View.{PowerView}
use Rattle.fr_cold.specs.Files.{PowerStandsFor, power_file}
use Rattle.fr_cold.specs.declared.keys.PowerKey.{PowerKey}
use Rattle.fr_cold.specs.declared.rows.Row.{Row}
use Rattle.fr_cold.specs.declared.rows.Row.TheVariants as row
use Rattle.fr_cold.specs.declared.fault.PowerFault.{PowerFault}
use Rattle.fr_cold.specs.declared.fault.PowerFault.TheVariants as fault
use Rattle.fr_cold.proofs.Tables.{key-ties}
use Rattle.fr_cold.proofs.Making.{found-entries, power_total, sorted-entries}

-- the switch that a row says is put into a map
with : Result Row Reason → FinMap power_cmp Switch → FinMap power_cmp Switch
with (Ok (row.Cycles n)) m = m
with (Ok (row.Switched s)) m = map.insert m (power_key s.at s.node) s.switch
with (Err why) m = m

get-with : (x : Result Row Reason) (m : FinMap power_cmp Switch) (key : PowerKey) → map.get (with x m) key ≡ or_else (switch_in key.at key.node x) (map.get m key)
unfolding with
get-with (Ok (row.Cycles n)) m key = refl
get-with (Ok (row.Switched s)) m key =
    get-insert power_total m (power_key s.at s.node) s.switch key
    ∙ ap (λ (b : Bool). cond b (Some s.switch) (map.get m key)) ((eq_by_cmp_equiv power_total).symm key (power_key s.at s.node) ∙ key-ties s.at s.node key.at key.node)
    ∙ chosen ((s.at == key.at) && (s.node == key.node)) s.switch (map.get m key)
  where
    chosen : (b : Bool) (how : Switch) (o : Option Switch) → cond b (Some how) o ≡ or_else (if b then Some how else None) o
    chosen true how o = refl
    chosen false how o = refl
get-with (Err why) m key = refl

-- what the records say of each key, as a finite map: the later ones first
gathered : FinMap power_cmp Switch → List FileRecord → FinMap power_cmp Switch
gathered m [] = m
gathered m (r ∷ rest) = gathered (with (power_row_of r) m) rest

or_else-assoc : {A : Type 0} (a b c : Option A) → or_else (or_else a b) c ≡ or_else a (or_else b c)
or_else-assoc None b c = refl
or_else-assoc (Some x) b c = refl

get-gathered : (m : FinMap power_cmp Switch) (records : List FileRecord) (key : PowerKey)
    → map.get (gathered m records) key ≡ or_else (switch_at key.at key.node records) (map.get m key)
unfolding gathered last_given
get-gathered m [] key = refl
get-gathered m (r ∷ rest) key =
    get-gathered (with (power_row_of r) m) rest key
    ∙ ap (λ (o : Option Switch). or_else (switch_at key.at key.node rest) o) (get-with (power_row_of r) m key)
    ∙ sym (or_else-assoc (switch_at key.at key.node rest) (switch_in key.at key.node (power_row_of r)) (map.get m key))

told : List FileRecord → FinMap power_cmp Switch
told records = gathered map.empty records

get-told : (records : List FileRecord) (key : PowerKey) → map.get (told records) key ≡ switch_at key.at key.node records
unfolding told
get-told records key =
    get-gathered map.empty records key
    ∙ ap (λ (o : Option Switch). or_else (switch_at key.at key.node records) o) (get-empty power_cmp key)
    ∙ or_else-none (switch_at key.at key.node records)

power_told : ℕ → List FileRecord → PowerView
power_told n records = record { cycles = n; switches = map.entries (told records) }

stands-told : (n : ℕ) (records : List FileRecord) → cycles_at records ≡ Some n → PowerStandsFor (power_told n records) records
unfolding power_told
stands-told n records e = record {
  cycles = e;
  switches = λ at node. found-entries (told records) (power_key at node) ∙ get-told records (power_key at node);
  order = sorted-entries (told records);
}

-- a file is accepted, or it is refused for a cause
pub reads-some : (p : Values) → HasSomeAnswer (power_file p)
reads-some p bytes = by (none-or-first-refused (power_reason_after p) (records_of bytes))
  where
    answered : NoneRefused (power_reason_after p) (records_of bytes) → (o : Option ℕ) → cycles_at (records_of bytes) ≡ o
        → (answer : Result PowerView PowerFault) × (answer ≢ Err fault.NoMemory) × Reads (power_file p) bytes answer
    answered none None e = (Err fault.MissingCycles, λ same. cc same, record { none_refused = none; missing = e })
    answered none (Some n) e = (Ok (power_told n (records_of bytes)), λ same. cc same, record { none_refused = none; stands = stands-told n (records_of bytes) e })

    by : NoneRefused (power_reason_after p) (records_of bytes) ⊎ ((n : ℕ) × ((why : Reason) × FirstRefused (power_reason_after p) (records_of bytes) n why))
        → (answer : Result PowerView PowerFault) × (answer ≢ Err fault.NoMemory) × Reads (power_file p) bytes answer
    by (inl none) = answered none (cycles_at (records_of bytes)) refl
    by (inr first) = (Err (fault.Row first.0 first.1.0), λ same. cc same, first.1.1)
