-- What reading a log may answer is one answer, but for want of memory.
use Rattle.std.proofs.Common.{◌≡◌, ℕ, ◌≤◌, true, false, List, Option, Some, None, Ok, Err, ap, sym, ◌∙◌, refl, arith}
use Rattle.std.specs.Prelude.{IsSome}
use Rattle.std.proofs.lemmas.List.{ext_get_or}
use Rattle.std.proofs.lemmas.Option.{same_Some}
use Rattle.fr_base.specs.declared.channel.Channel.TheVariants as channel
use Rattle.fr_text.specs.Kind.{HasOneAnswer}
use Rattle.fr_text.specs.Records.{FileRecord, records_of}
use Rattle.fr_text.proofs.Cuts.{first-same, refused-none}
use Rattle.fr_cluster.specs.Values.{Values}
use Rattle.fr_log.specs.Files.{LogStandsFor, log_file}
use Rattle.fr_log.specs.Reasons.{log_reason_after}
use Rattle.fr_log.specs.View.{LogView, is_arbitrary_in, own_limits}
use Rattle.fr_log.specs.declared.fault.LogFault.TheVariants as fault
use Rattle.fr_log.specs.declared.rows.DelayLimits.{DelayLimits}

nodes-same : (l m : LogView) (records : List FileRecord) → LogStandsFor l records → LogStandsFor m records → l.arbitrary ≡ m.arbitrary
unfolding is_arbitrary_in
nodes-same l m records f g =
    ext_get_or false l.arbitrary m.arbitrary (f.arbitrary_long ∙ sym g.arbitrary_long)
    (λ i below. let low : i ≤ 64 = omega (arith, f.arbitrary_long) in f.arbitrary i low ∙ sym (g.arbitrary i low))

no-limits : Option DelayLimits
no-limits = None

on_a-same : (l m : LogView) (records : List FileRecord) → LogStandsFor l records → LogStandsFor m records → l.on_a ≡ m.on_a
unfolding own_limits no-limits
on_a-same l m records f g =
    ext_get_or no-limits l.on_a m.on_a (f.on_a_long ∙ sym g.on_a_long)
    (λ i below. let low : i ≤ 64 = omega (arith, f.on_a_long) in f.limits i channel.A low ∙ sym (g.limits i channel.A low))

on_b-same : (l m : LogView) (records : List FileRecord) → LogStandsFor l records → LogStandsFor m records → l.on_b ≡ m.on_b
unfolding own_limits no-limits
on_b-same l m records f g =
    ext_get_or no-limits l.on_b m.on_b (f.on_b_long ∙ sym g.on_b_long)
    (λ i below. let low : i ≤ 64 = omega (arith, f.on_b_long) in f.limits i channel.B low ∙ sym (g.limits i channel.B low))

-- records stand for one log
pub stands-same : (l m : LogView) (records : List FileRecord) → LogStandsFor l records → LogStandsFor m records → l ≡ m
stands-same l m records f g =
    let unit : l.unit ≡ m.unit = same_Some l.unit m.unit (sym f.unit ∙ g.unit) in
    let drift : l.drift ≡ m.drift = same_Some l.drift m.drift (sym f.drift ∙ g.drift) in
    let error : l.error ≡ m.error = f.error ∙ sym g.error in
    let jitter : l.jitter ≡ m.jitter = f.jitter ∙ sym g.jitter in
    let flutter : l.flutter ≡ m.flutter = f.flutter ∙ sym g.flutter in
    let lost : l.lost ≡ m.lost = f.lost ∙ sym g.lost in
    let since : l.since ≡ m.since = f.since ∙ sym g.since in
    let whole : l.whole ≡ m.whole = f.whole ∙ sym g.whole in
    let arbitrary = nodes-same l m records f g in
    let on_a = on_a-same l m records f g in
    let on_b = on_b-same l m records f g in
    let each : l.each ≡ m.each = f.each ∙ sym g.each in
    let entries : l.entries ≡ m.entries = f.entries ∙ sym g.entries in
    λ i. record {
      unit = unit i;
      drift = drift i;
      error = error i;
      jitter = jitter i;
      flutter = flutter i;
      lost = lost i;
      since = since i;
      whole = whole i;
      arbitrary = arbitrary i;
      on_a = on_a i;
      on_b = on_b i;
      each = each i;
      entries = entries i;
    }

-- what is there is not missing
not-missing : (o : Option ℕ) (n : ℕ) → o ≡ None → o ≡ Some n → ⊥
not-missing o n none some = let no : None ≡ Some n = sym none ∙ some in cc no

not-there : (o : Option ℕ) → o ≡ None → IsSome o → ⊥
not-there None none some = cc some
not-there (Some n) none some = cc none

-- two answers to one file are the same, but for want of memory
pub reads-same : (p : Values) → HasOneAnswer (log_file p)
reads-same p bytes (Ok l) (Ok m) na nb f g = ap (λ (v : LogView). Ok v) (stands-same l m (records_of bytes) f.stands g.stands)
reads-same p bytes (Ok l) (Err (fault.Row n why)) na nb f g = absurd (refused-none (log_reason_after p) (records_of bytes) n why g f.none_refused)
reads-same p bytes (Ok l) (Err fault.MissingUnit) na nb f g = absurd (not-missing _ l.unit g.missing f.stands.unit)
reads-same p bytes (Ok l) (Err fault.MissingDrift) na nb f g = absurd (not-missing _ l.drift g.missing f.stands.drift)
reads-same p bytes (Ok l) (Err fault.MissingDelay) na nb f g = let no : false ≡ true = sym f.limited ∙ g.missing in cc no
reads-same p bytes (Ok l) (Err fault.NoMemory) na nb f g = absurd (nb refl)
reads-same p bytes (Err (fault.Row n why)) (Ok m) na nb f g = absurd (refused-none (log_reason_after p) (records_of bytes) n why f g.none_refused)
reads-same p bytes (Err (fault.Row n why)) (Err (fault.Row m other)) na nb f g = let same = first-same (log_reason_after p) (records_of bytes) n m why other f g in cc
reads-same p bytes (Err (fault.Row n why)) (Err fault.MissingUnit) na nb f g = absurd (refused-none (log_reason_after p) (records_of bytes) n why f g.none_refused)
reads-same p bytes (Err (fault.Row n why)) (Err fault.MissingDrift) na nb f g = absurd (refused-none (log_reason_after p) (records_of bytes) n why f g.none_refused)
reads-same p bytes (Err (fault.Row n why)) (Err fault.MissingDelay) na nb f g = absurd (refused-none (log_reason_after p) (records_of bytes) n why f g.none_refused)
reads-same p bytes (Err (fault.Row n why)) (Err fault.NoMemory) na nb f g = absurd (nb refl)
reads-same p bytes (Err fault.MissingUnit) (Ok m) na nb f g = absurd (not-missing _ m.unit f.missing g.stands.unit)
reads-same p bytes (Err fault.MissingUnit) (Err (fault.Row n why)) na nb f g = absurd (refused-none (log_reason_after p) (records_of bytes) n why g f.none_refused)
reads-same p bytes (Err fault.MissingUnit) (Err fault.MissingUnit) na nb f g = refl
reads-same p bytes (Err fault.MissingUnit) (Err fault.MissingDrift) na nb f g = absurd (not-there _ f.missing g.unit)
reads-same p bytes (Err fault.MissingUnit) (Err fault.MissingDelay) na nb f g = absurd (not-there _ f.missing g.unit)
reads-same p bytes (Err fault.MissingUnit) (Err fault.NoMemory) na nb f g = absurd (nb refl)
reads-same p bytes (Err fault.MissingDrift) (Ok m) na nb f g = absurd (not-missing _ m.drift f.missing g.stands.drift)
reads-same p bytes (Err fault.MissingDrift) (Err (fault.Row n why)) na nb f g = absurd (refused-none (log_reason_after p) (records_of bytes) n why g f.none_refused)
reads-same p bytes (Err fault.MissingDrift) (Err fault.MissingUnit) na nb f g = absurd (not-there _ g.missing f.unit)
reads-same p bytes (Err fault.MissingDrift) (Err fault.MissingDrift) na nb f g = refl
reads-same p bytes (Err fault.MissingDrift) (Err fault.MissingDelay) na nb f g = absurd (not-there _ f.missing g.drift)
reads-same p bytes (Err fault.MissingDrift) (Err fault.NoMemory) na nb f g = absurd (nb refl)
reads-same p bytes (Err fault.MissingDelay) (Ok m) na nb f g = let no : false ≡ true = sym g.limited ∙ f.missing in cc no
reads-same p bytes (Err fault.MissingDelay) (Err (fault.Row n why)) na nb f g = absurd (refused-none (log_reason_after p) (records_of bytes) n why g f.none_refused)
reads-same p bytes (Err fault.MissingDelay) (Err fault.MissingUnit) na nb f g = absurd (not-there _ g.missing f.unit)
reads-same p bytes (Err fault.MissingDelay) (Err fault.MissingDrift) na nb f g = absurd (not-there _ g.missing f.drift)
reads-same p bytes (Err fault.MissingDelay) (Err fault.MissingDelay) na nb f g = refl
reads-same p bytes (Err fault.MissingDelay) (Err fault.NoMemory) na nb f g = absurd (nb refl)
reads-same p bytes (Err fault.NoMemory) b na nb f g = absurd (na refl)
