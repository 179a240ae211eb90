-- What contracts see of a drift file.
use Rattle.std.specs.Prelude.{ℕ, ℤ, refl, Option, List}
use Rattle.std.specs.Ordering.{nat_cmp}
use Rattle.std.specs.Coded.{Coded, code_by, coded×, coded_list, coded_ℕ, coded_ℤ}
use Rattle.fr_base.specs.declared.channel.Channel.{Channel}
use Rattle.fr_base.specs.declared.channel.Channel.TheVariants as channel
use Rattle.fr_drift.specs.Keys.{coded_delay_key, coded_length_key, delay_cmp, delay_key, length_cmp, length_key}
use Rattle.fr_text.specs.Keys.{found_at}
use Rattle.fr_drift.specs.declared.keys.DelayKey.{DelayKey}
use Rattle.fr_drift.specs.declared.keys.LengthKey.{LengthKey}
use Rattle.fr_drift.specs.declared.rows.Start.{Start}

-- the double cycles of the run, the compensation of each channel, the starts by node, and the rows of lengths
-- and delays by what they are about and the cycle from which on they hold: each list in the order of its keys
pub record DriftView : Type 0 where
  pub doubles : ℕ
  pub compensation_a : ℤ
  pub compensation_b : ℤ
  pub starts : List (ℕ × Start)
  pub lengths : List (LengthKey × ℤ)
  pub delays_a : List (DelayKey × ℤ)
  pub delays_b : List (DelayKey × ℤ)

abbrev pub coded_start : Coded Start
coded_start = code_by (ℤ × ℤ) (coded× coded_ℤ coded_ℤ) (λ s. (s.ticks, s.rate)) (λ p. record { ticks = p.0; rate = p.1 }) (λ _. refl)

-- a view as a tuple
abbrev pub coded_view : Coded DriftView
coded_view =
    code_by
    (ℕ × (ℤ × (ℤ × (List (ℕ × Start) × (List (LengthKey × ℤ) × (List (DelayKey × ℤ) × List (DelayKey × ℤ)))))))
    (coded× coded_ℕ (coded× coded_ℤ (coded× coded_ℤ (coded× (coded_list (coded× coded_ℕ coded_start))
    (coded× (coded_list (coded× coded_length_key coded_ℤ)) (coded× (coded_list (coded× coded_delay_key coded_ℤ)) (coded_list (coded× coded_delay_key coded_ℤ))))))))
    (λ d. (d.doubles, (d.compensation_a, (d.compensation_b, (d.starts, (d.lengths, (d.delays_a, d.delays_b)))))))
    (λ t. record {
      doubles = t.0;
      compensation_a = t.1.0;
      compensation_b = t.1.1.0;
      starts = t.1.1.1.0;
      lengths = t.1.1.1.1.0;
      delays_a = t.1.1.1.1.1.0;
      delays_b = t.1.1.1.1.1.1;
    })
    (λ _. refl)

-- the compensation of a channel, in microticks
abbrev pub compensation_on : DriftView → Channel → ℤ
compensation_on d channel.A = d.compensation_a
compensation_on d channel.B = d.compensation_b

-- the rows of delays on a channel
abbrev pub delays_on : DriftView → Channel → List (DelayKey × ℤ)
delays_on d channel.A = d.delays_a
delays_on d channel.B = d.delays_b

-- the row of a node's start
abbrev pub start_rows : DriftView → ℕ → Option Start
start_rows d node = found_at nat_cmp d.starts node

-- the rows of a node's lengths, and of a link's delays on a channel, by the cycle from which on they hold
abbrev pub length_rows : DriftView → ℕ → ℕ → Option ℤ
length_rows d node from = found_at length_cmp d.lengths (length_key node from)

abbrev pub delay_rows : DriftView → ℕ → ℕ → Channel → ℕ → Option ℤ
delay_rows d sender receiver ch from = found_at delay_cmp (delays_on d ch) (delay_key sender receiver from)
