-- What reading a file may answer is one answer, but for want of memory.
use Rattle.std.proofs.Common.{◌≡◌, ℕ, List, Some, None, Ok, Err, ap, sym, ◌∙◌, refl}
use Rattle.std.specs.Ordering.{nat_cmp}
use Rattle.std.specs.FinMap.{IsAntisymmetric}
use Rattle.std.proofs.lemmas.Map.Lookups.{exact_pairs, exact_unsigned}
use Rattle.fr_text.specs.Records.{FileRecord, records_of}
use Rattle.fr_text.specs.Kind.{HasOneAnswer}
use Rattle.fr_text.proofs.Cuts.{first-same, refused-none}
use Rattle.fr_cluster.specs.Values.{Values}
use Rattle.fr_cold.specs.Keys.{power_cmp}
use Rattle.fr_cold.specs.Reasons.{cycles_at, power_reason_after}
use Rattle.fr_cold.specs.View.{PowerView}
use Rattle.fr_cold.specs.Files.{PowerStandsFor, power_file}
use Rattle.fr_cold.specs.declared.fault.PowerFault.TheVariants as fault
use Rattle.fr_cold.proofs.Making.{power_total, same-rows}

some-same : {A : Type 0} (x y : A) → Some x ≡ Some y → x ≡ y
some-same x y e = cc e

-- keys that compare alike are one
power_exact : IsAntisymmetric power_cmp
power_exact a b h =
    let pair : ◌≡◌ {A = ℕ × ℕ} (a.at, a.node) (b.at, b.node) = exact_pairs nat_cmp nat_cmp exact_unsigned exact_unsigned (a.at, a.node) (b.at, b.node) h in
    λ i. record { at = (pair i).0; node = (pair i).1 }

-- records stand for one value
stands-same : (v w : PowerView) (records : List FileRecord) → PowerStandsFor v records → PowerStandsFor w records → v ≡ w
stands-same v w records f g = λ i. record { cycles = cycles i; switches = switches i }
  where
    cycles : v.cycles ≡ w.cycles
    cycles = some-same v.cycles w.cycles (sym f.cycles ∙ g.cycles)

    switches : v.switches ≡ w.switches
    switches = same-rows power_total power_exact v.switches w.switches f.order g.order (λ key. f.switches key.at key.node ∙ sym (g.switches key.at key.node))

stands-missing : (v : PowerView) (records : List FileRecord) → PowerStandsFor v records → cycles_at records ≡ None → ⊥
stands-missing v records f none = let there = f.cycles in cc

-- two answers to one file are the same, but for want of memory
pub reads-same : (p : Values) → HasOneAnswer (power_file p)
reads-same p bytes (Ok d) (Ok e) na nb f g = ap (λ (v : PowerView). Ok v) (stands-same d e (records_of bytes) f.stands g.stands)
reads-same p bytes (Ok d) (Err (fault.Row n why)) na nb f g = absurd (refused-none (power_reason_after p) (records_of bytes) n why g f.none_refused)
reads-same p bytes (Ok d) (Err fault.MissingCycles) na nb f g = absurd (stands-missing d (records_of bytes) f.stands g.missing)
reads-same p bytes (Ok d) (Err fault.NoMemory) na nb f g = absurd (nb refl)
reads-same p bytes (Err (fault.Row n why)) (Ok e) na nb f g = absurd (refused-none (power_reason_after p) (records_of bytes) n why f g.none_refused)
reads-same p bytes (Err (fault.Row n why)) (Err (fault.Row m other)) na nb f g = let same = first-same (power_reason_after p) (records_of bytes) n m why other f g in cc
reads-same p bytes (Err (fault.Row n why)) (Err fault.MissingCycles) na nb f g = absurd (refused-none (power_reason_after p) (records_of bytes) n why f g.none_refused)
reads-same p bytes (Err (fault.Row n why)) (Err fault.NoMemory) na nb f g = absurd (nb refl)
reads-same p bytes (Err fault.MissingCycles) (Ok e) na nb f g = absurd (stands-missing e (records_of bytes) g.stands f.missing)
reads-same p bytes (Err fault.MissingCycles) (Err (fault.Row n why)) na nb f g = absurd (refused-none (power_reason_after p) (records_of bytes) n why g f.none_refused)
reads-same p bytes (Err fault.MissingCycles) (Err fault.MissingCycles) na nb f g = refl
reads-same p bytes (Err fault.MissingCycles) (Err fault.NoMemory) na nb f g = absurd (nb refl)
reads-same p bytes (Err fault.NoMemory) b na nb f g = absurd (na refl)
