-- The delays that are kept at hand.
use Rattle.std.specs.Prelude.{ℕ, ◌+◌, ◌*◌, ◌<◌, ◌≤◌, ◌≡◌, pos, List, length, slice_index_or, All}
use Rattle.fr_base.specs.Within.{IsBetween}
use Rattle.fr_base.specs.declared.channel.Channel.{Channel}
use Rattle.fr_base.specs.declared.channel.Channel.TheVariants.{A, B}
use Rattle.fr_drift.specs.Questions.{delay_of}
use Rattle.fr_drift.specs.View.{DriftView}
use Rattle.fr_air.specs.declared.kept.Kept.{Kept}
use Rattle.fr_drift.specs.Rows.{most_link_delay}

-- where a link's delay on a channel is kept
abbrev pub place_of : ℕ → ℕ → Channel → ℕ
place_of sender receiver A = sender * 65 + receiver
place_of sender receiver B = 4225 + (sender * 65 + receiver)

-- nothing is kept of a link
abbrev pub none_kept : Kept
none_kept = record { until = 0; ticks = pos 0 }

-- what is kept of a link is its delay in each cycle before that one
pub record DelaysAreKept (drift : DriftView) (kept : List Kept) : Type 0 where
  pub long : length kept ≡ 8450
  pub within : All (λ k. IsBetween (pos 0) (pos most_link_delay) k.ticks) kept
  pub delays : (sender receiver : ℕ) (channel : Channel) (cycle : ℕ) → sender ≤ 64 → receiver ≤ 64
      → cycle < (slice_index_or kept (place_of sender receiver channel) none_kept).until
      → (slice_index_or kept (place_of sender receiver channel) none_kept).ticks ≡ delay_of drift sender receiver channel cycle
