-- What is gathered of cycles and of whether a node follows in them: their first double cycle in sync in which none does.
use Rattle.std.proofs.Common.{◌≡◌, ℕ, suc, Bool, true, false, not, Option, Some, None, [], ◌∷◌, length, refl, ap, ◌∙◌, ◌==◌}
use Rattle.fr_cluster.specs.Values.{Values}
use Rattle.fr_skew.specs.Gauge.{GaugeView, next_sync}
use Rattle.fr_skew.specs.Sync.{sync_bounds_of}
use Rattle.fr_history.specs.Gauged.{FollowedRecord, GaugeHolds, first_free_sync_of, followed_at, last_even_followed, last_even_of, told_only}
use Rattle.fr_history.specs.History.{History}
use Rattle.fr_history.specs.Skew.{greatest_skew_of}
use Rattle.fr_history.proofs.Gauged.{first_free-next}
use Rattle.fr_history.specs.Cycles.{Cycle, Cycles, cycle_at, told_of}
use Rattle.fr_history.specs.Unfollowed.{first_unfollowed_sync_of, followed_of, is_none}

pub followed_length : (h : Cycles) → length (followed_of h) ≡ length h
followed_length [] = refl
followed_length (c ∷ h) = ap suc (followed_length h)

pub records_followed : (h : Cycles) → told_only (followed_of h) ≡ told_of h
records_followed [] = refl
records_followed (c ∷ h) = ap (λ (t : History). c.told ∷ t) (records_followed h)

-- what is gathered of a cycle, if it is there
abbrev pub seen : Option Cycle → Option FollowedRecord
seen None = None
seen (Some c) = Some (record { told = c.told; following = not (is_none c.followers) })

followed_at_by : (c : Cycle) (h : Cycles) (n : ℕ) (b : Bool) → (length h == n) ≡ b → followed_at (followed_of h) n ≡ seen (cycle_at h n) → followed_at (followed_of (c ∷ h)) n ≡ seen (cycle_at (c ∷ h) n)
unfolding followed_at cycle_at
followed_at_by c h n true here after = rw (followed_length h, here) refl
followed_at_by c h n false other after = rw (followed_length h, other) after

pub followed_at_is : (h : Cycles) (n : ℕ) → followed_at (followed_of h) n ≡ seen (cycle_at h n)
unfolding followed_at cycle_at
followed_at_is [] n = refl
followed_at_is (c ∷ h) n = followed_at_by c h n (length h == n) refl (followed_at_is h n)

-- that of some cycles and one more
pub first_unfollowed-next : (p : Values) (c : Cycle) (h : Cycles)
    → first_unfollowed_sync_of p (c ∷ h)
    ≡ next_sync (sync_bounds_of p) (length h) (last_even_of (followed_of h)) (last_even_followed (followed_of h)) c.told.rows (not (is_none c.followers)) (first_unfollowed_sync_of p h)
unfolding first_unfollowed_sync_of
first_unfollowed-next p c h =
    let r : FollowedRecord = record { told = c.told; following = not (is_none c.followers) } in
    let next = λ (n : ℕ) (first : Option ℕ). next_sync (sync_bounds_of p) n (last_even_of (followed_of h)) (last_even_followed (followed_of h)) c.told.rows (not (is_none c.followers)) first in
    first_free-next p r (followed_of h) ∙ ap (λ (n : ℕ). next n (first_free_sync_of p (followed_of h))) (followed_length h)

-- ---- what a gauge that holds them tells

pub gathered_counted : (p : Values) (g : GaugeView) (h : Cycles) → GaugeHolds p g (followed_of h) → g.added ≡ length h
gathered_counted p g h held = held.counted ∙ followed_length h

pub gathered_greatest : (p : Values) (g : GaugeView) (h : Cycles) → GaugeHolds p g (followed_of h) → g.greatest ≡ greatest_skew_of p (told_of h)
gathered_greatest p g h held = held.greatest ∙ ap (greatest_skew_of p) (records_followed h)

pub gathered_synced : (p : Values) (g : GaugeView) (h : Cycles) → GaugeHolds p g (followed_of h) → g.synced ≡ first_unfollowed_sync_of p h
unfolding first_unfollowed_sync_of
gathered_synced p g h held = held.synced
