-- Rows of a drift file and the answers of a drift, computed.
use Rattle.std.proofs.Common.{◌≡◌, pos, negsuc, [], ◌∷◌, None, Ok, Err, true, refl}
use Rattle.std.specs.Prelude.{codes}
use Rattle.std.specs.FinMap.{is_sorted}
use Rattle.fr_base.specs.declared.channel.Channel.TheVariants as channel
use Rattle.fr_base.specs.declared.reason.Reason.TheVariants as reason
use Rattle.fr_drift.specs.Keys.{delay_key, length_cmp, length_key}
use Rattle.fr_drift.specs.Held.{held}
use Rattle.fr_drift.specs.Rows.{rate_in, drift_row_of}
use Rattle.fr_drift.specs.View.{DriftView}
use Rattle.fr_drift.specs.Questions.{doubles_of, start_of, rate_of, length_of, delay_of}
use Rattle.fr_drift.specs.declared.rows.Row.TheVariants as row

-- a start, and a rate term that no cluster allows
a_start : drift_row_of (codes "start" ∷ codes "2" ∷ codes "2500000" ∷ codes "-7" ∷ [] ∷ [] ∷ []) ≡ Ok (row.Start (record { node = 2; start = record { ticks = pos 2_500_000; rate = negsuc 6 } }))
unfolding drift_row_of rate_in
a_start = refl

a_wide_rate : drift_row_of (codes "start" ∷ codes "2" ∷ codes "0" ∷ codes "2001" ∷ [] ∷ [] ∷ []) ≡ Err reason.OutOfRange
unfolding drift_row_of rate_in
a_wide_rate = refl

-- a channel that is none is said, and not refused by itself
a_delay : drift_row_of (codes "delay" ∷ codes "1" ∷ codes "2" ∷ codes "C" ∷ codes "0" ∷ codes "500001" ∷ []) ≡ Ok (row.Delay (record { sender = 1; receiver = 2; channel = None; from = 0; ticks = pos 500_001 }))
unfolding drift_row_of
a_delay = refl

a_long_record : drift_row_of (codes "doubles" ∷ codes "1" ∷ [] ∷ [] ∷ [] ∷ codes "0" ∷ []) ≡ Err reason.Shape
unfolding drift_row_of
a_long_record = refl

-- a drift of two rows of a node and two of a link
abbrev drift : DriftView
drift = record {
  doubles = 2;
  compensation_a = pos 3;
  compensation_b = pos 3;
  starts = (2, record { ticks = pos 12; rate = negsuc 80 }) ∷ [];
  lengths = (length_key 1 4, pos 700_000) ∷ (length_key 1 9, pos 600_000) ∷ [];
  delays_a = (delay_key 1 3 2, pos 400) ∷ (delay_key 1 3 7, pos 500) ∷ [];
  delays_b = [];
}

run : doubles_of drift ≡ 2
unfolding doubles_of
run = refl

starts : (start_of drift 2 ∷ start_of drift 1 ∷ []) ≡ (pos 12 ∷ pos 0 ∷ [])
unfolding start_of
starts = refl

rates : (rate_of drift 2 ∷ rate_of drift 1 ∷ []) ≡ (negsuc 80 ∷ pos 0 ∷ [])
unfolding rate_of
rates = refl

lengths : (length_of drift 1 3 ∷ length_of drift 1 4 ∷ length_of drift 1 8 ∷ length_of drift 1 9 ∷ length_of drift 2 9 ∷ []) ≡ (pos 1_000_000 ∷ pos 700_000 ∷ pos 700_000 ∷ pos 600_000 ∷ pos 1_000_000 ∷ [])
unfolding length_of held
lengths = refl

delays : (delay_of drift 1 3 channel.A 1 ∷ delay_of drift 1 3 channel.A 6 ∷ delay_of drift 1 3 channel.A 7 ∷ delay_of drift 1 3 channel.B 7 ∷ delay_of drift 3 1 channel.A 7 ∷ [])
    ≡ (pos 3_000_000 ∷ pos 400 ∷ pos 500 ∷ pos 3_000_000 ∷ pos 3_000_000 ∷ [])
unfolding delay_of held
delays = refl

in_order : is_sorted length_cmp drift.lengths ≡ true
in_order = refl
