-- What reading a file may answer is one answer, but for want of memory.
use Rattle.std.proofs.Common.{◌≡◌, ℕ, List, Some, None, Ok, Err, ap, sym, ◌∙◌, refl}
use Rattle.std.specs.Ordering.{nat_cmp}
use Rattle.std.specs.FinMap.{IsAntisymmetric, nat_cmp-IsAntisymmetric}
use Rattle.std.proofs.lemmas.Cmp.{nat_cmp_total}
use Rattle.std.proofs.lemmas.Map.Lookups.{exact_pairs, exact_unsigned}
use Rattle.fr_base.specs.declared.channel.Channel.TheVariants as channel
use Rattle.fr_text.specs.Records.{FileRecord, records_of}
use Rattle.fr_text.specs.Kind.{HasOneAnswer}
use Rattle.fr_text.proofs.Cuts.{first-same, refused-none}
use Rattle.fr_cluster.specs.Values.{Values}
use Rattle.fr_drift.specs.Keys.{delay_cmp, length_cmp, length_key}
use Rattle.fr_drift.specs.Reasons.{drift_reason_after, doubles_at}
use Rattle.fr_drift.specs.View.{DriftView}
use Rattle.fr_drift.specs.Files.{DriftStandsFor, drift_file}
use Rattle.fr_drift.specs.declared.fault.DriftFault.TheVariants as fault
use Rattle.fr_drift.proofs.Making.{delay_total, length_total, same-rows}

some-same : {A : Type 0} (x y : A) → Some x ≡ Some y → x ≡ y
some-same x y e = cc e

-- keys that compare alike are one
length_exact : IsAntisymmetric length_cmp
length_exact a b h =
    let pair : ◌≡◌ {A = ℕ × ℕ} (a.node, a.from) (b.node, b.from) = exact_pairs nat_cmp nat_cmp exact_unsigned exact_unsigned (a.node, a.from) (b.node, b.from) h in
    λ i. record { node = (pair i).0; from = (pair i).1 }

delay_exact : IsAntisymmetric delay_cmp
delay_exact a b h =
    let rest = exact_pairs nat_cmp nat_cmp exact_unsigned exact_unsigned in
    let pair : ◌≡◌ {A = ℕ × (ℕ × ℕ)} (a.sender, (a.receiver, a.from)) (b.sender, (b.receiver, b.from)) =
    exact_pairs nat_cmp (λ (x y : ℕ × ℕ). length_cmp (length_key x.0 x.1) (length_key y.0 y.1)) exact_unsigned rest (a.sender, (a.receiver, a.from)) (b.sender, (b.receiver, b.from)) h
    in
    λ i. record { sender = (pair i).0; receiver = (pair i).1.0; from = (pair i).1.1 }

-- records stand for one drift against the same parameters
pub stands-same : (p : Values) (d e : DriftView) (records : List FileRecord) → DriftStandsFor p d records → DriftStandsFor p e records → d ≡ e
stands-same p d e records f g = λ i. record {
  doubles = doubles i;
  compensation_a = a i;
  compensation_b = b i;
  starts = starts i;
  lengths = lengths i;
  delays_a = delays_a i;
  delays_b = delays_b i;
}
  where
    doubles : d.doubles ≡ e.doubles
    doubles = some-same d.doubles e.doubles (sym f.doubles ∙ g.doubles)

    a : d.compensation_a ≡ e.compensation_a
    a = f.compensation channel.A ∙ sym (g.compensation channel.A)

    b : d.compensation_b ≡ e.compensation_b
    b = f.compensation channel.B ∙ sym (g.compensation channel.B)

    starts : d.starts ≡ e.starts
    starts = same-rows nat_cmp_total nat_cmp-IsAntisymmetric d.starts e.starts f.order.starts g.order.starts (λ node. f.starts node ∙ sym (g.starts node))

    lengths : d.lengths ≡ e.lengths
    lengths = same-rows length_total length_exact d.lengths e.lengths f.order.lengths g.order.lengths (λ key. f.lengths key.node key.from ∙ sym (g.lengths key.node key.from))

    delays_a : d.delays_a ≡ e.delays_a
    delays_a =
        same-rows delay_total delay_exact d.delays_a e.delays_a f.order.delays_a g.order.delays_a
        (λ key. f.delays key.sender key.receiver channel.A key.from ∙ sym (g.delays key.sender key.receiver channel.A key.from))

    delays_b : d.delays_b ≡ e.delays_b
    delays_b =
        same-rows delay_total delay_exact d.delays_b e.delays_b f.order.delays_b g.order.delays_b
        (λ key. f.delays key.sender key.receiver channel.B key.from ∙ sym (g.delays key.sender key.receiver channel.B key.from))

stands-missing : (p : Values) (d : DriftView) (records : List FileRecord) → DriftStandsFor p d records → doubles_at records ≡ None → ⊥
stands-missing p d records f none = let there = f.doubles in cc

-- two answers to one file are the same, but for want of memory
pub reads-same : (p : Values) → HasOneAnswer (drift_file p)
reads-same p bytes (Ok d) (Ok e) na nb f g = ap (λ (v : DriftView). Ok v) (stands-same p d e (records_of bytes) f.stands g.stands)
reads-same p bytes (Ok d) (Err (fault.Row n why)) na nb f g = absurd (refused-none (drift_reason_after p) (records_of bytes) n why g f.none_refused)
reads-same p bytes (Ok d) (Err fault.MissingDoubles) na nb f g = absurd (stands-missing p d (records_of bytes) f.stands g.missing)
reads-same p bytes (Ok d) (Err fault.NoMemory) na nb f g = absurd (nb refl)
reads-same p bytes (Err (fault.Row n why)) (Ok e) na nb f g = absurd (refused-none (drift_reason_after p) (records_of bytes) n why f g.none_refused)
reads-same p bytes (Err (fault.Row n why)) (Err (fault.Row m other)) na nb f g = let same = first-same (drift_reason_after p) (records_of bytes) n m why other f g in cc
reads-same p bytes (Err (fault.Row n why)) (Err fault.MissingDoubles) na nb f g = absurd (refused-none (drift_reason_after p) (records_of bytes) n why f g.none_refused)
reads-same p bytes (Err (fault.Row n why)) (Err fault.NoMemory) na nb f g = absurd (nb refl)
reads-same p bytes (Err fault.MissingDoubles) (Ok e) na nb f g = absurd (stands-missing p e (records_of bytes) g.stands f.missing)
reads-same p bytes (Err fault.MissingDoubles) (Err (fault.Row n why)) na nb f g = absurd (refused-none (drift_reason_after p) (records_of bytes) n why g f.none_refused)
reads-same p bytes (Err fault.MissingDoubles) (Err fault.MissingDoubles) na nb f g = refl
reads-same p bytes (Err fault.MissingDoubles) (Err fault.NoMemory) na nb f g = absurd (nb refl)
reads-same p bytes (Err fault.NoMemory) b na nb f g = absurd (na refl)
