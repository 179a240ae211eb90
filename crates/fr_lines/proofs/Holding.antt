-- A report that held some cycles holds them and one more, and tells of them.
use Rattle.std.proofs.Common.{◌≡◌, ℕ, suc, Bool, not, pos, arith, List, ◌∷◌, [], length, Option, Some, None, refl, ap, sym, subst, ◌∙◌}
use Rattle.std.proofs.lemmas.Int.{ints}
use Rattle.fr_base.specs.Counts.{no_counts}
use Rattle.fr_base.specs.declared.cycle_row.CycleRow.{CycleRow}
use Rattle.fr_base.specs.declared.dev.Dev.{Dev}
use Rattle.fr_base.specs.declared.node_row.NodeRow.{NodeRow}
use Rattle.fr_cluster.specs.Values.{Values}
use Rattle.fr_skew.specs.Gauge.{fresh_gauge}
use Rattle.fr_skew.specs.declared.peak.Peak.{Peak}
use Rattle.fr_history.specs.Gauged.{FollowedRecord}
use Rattle.fr_history.specs.History.{Record}
use Rattle.fr_history.specs.Recorded.{recorded}
use Rattle.fr_history.specs.Skew.{IsGreatestSkew}
use Rattle.fr_history.proofs.Gauged.{gauge_holds_more, gauge_holds_none}
use Rattle.fr_history.proofs.Greatest.{greatest_is_found}
use Rattle.fr_history.specs.Cycles.{Cycle, Cycles, told_of}
use Rattle.fr_history.specs.Unfollowed.{followed_of, is_none}
use Rattle.fr_history.proofs.FollowedSync.{followed_length, gathered_counted, gathered_greatest, gathered_synced}
use Rattle.fr_history.proofs.UnfollowedSync.{first_unfollowed_sync_is, never_unfollowed_sync}
use Rattle.fr_lines.specs.Held.{IsGreatestTold, IsSyncTold, ReportHolds, ReportView, TellsOf, last_odd_of, with_cycle}
use Rattle.fr_lines.specs.Sums.{cuts_of, totals_of}

pub holds_none : (p : Values) → ReportHolds p (record { gauge = fresh_gauge p; odd = []; sums = no_counts; cut = 0 }) []
unfolding last_odd_of cuts_of totals_of
holds_none p = record { gauge = gauge_holds_none p; odd = refl; sums = refl; cut = refl }

told_length : (h : Cycles) → length (told_of h) ≡ length h
told_length [] = refl
told_length (c ∷ h) = ap suc (told_length h)

-- the same with the record and the flag that a row has beside it
holds_recorded : (p : Values) (report : ReportView) (row : CycleRow) (followers : List NodeRow) (devs : List Dev) (h : Cycles) → row.cycle ≡ report.gauge.added → ReportHolds p report h
    → ReportHolds p (with_cycle report row (not (is_none followers))) (record { told = recorded row; followers = followers; follower_devs = devs } ∷ h)
unfolding last_odd_of cuts_of totals_of
holds_recorded p report row followers devs h next held =
    let r : FollowedRecord = record { told = recorded row; following = not (is_none followers) } in
    record {
      gauge = gauge_holds_more p report.gauge (followed_of h) r held.gauge;
      odd = rw (next ∙ gathered_counted p report.gauge h held.gauge, told_length h, held.odd) refl;
      sums = rw held.sums refl;
      cut = rw held.cut refl;
    }

pub holds_more : (p : Values) (report : ReportView) (row : CycleRow) (following : Bool) (c : Cycle) (h : Cycles) → row.cycle ≡ report.gauge.added → TellsOf row following c → ReportHolds p report h
    → ReportHolds p (with_cycle report row following) (c ∷ h)
holds_more p report row following c h next tells held =
    let P : Record → Type 0 = λ r. ReportHolds p (with_cycle report row (not (is_none c.followers))) (record { told = r; followers = c.followers; follower_devs = c.follower_devs } ∷ h) in
    let Q : Bool → Type 0 = λ b. ReportHolds p (with_cycle report row b) (c ∷ h) in
    subst Q (sym tells.follows) (subst P (sym tells.told) (holds_recorded p report row c.followers c.follower_devs h next held))

pub tells_greatest : (p : Values) (report : ReportView) (h : Cycles) (peak : Peak) → report.gauge.greatest ≡ Some peak → ReportHolds p report h → IsGreatestSkew p (told_of h) peak.skew peak.cycle peak.macrotick
tells_greatest p report h peak is held = greatest_is_found p (told_of h) peak (sym (gathered_greatest p report.gauge h held.gauge) ∙ is)

pub tells_sync : (report : ReportView) (synced : Option ℕ) → synced ≡ report.gauge.synced → IsSyncTold report synced
tells_sync report None is = λ p h double held. never_unfollowed_sync p h (sym (gathered_synced p report.gauge h held.gauge) ∙ sym is) double
tells_sync report (Some double) is = λ p h held. first_unfollowed_sync_is p h double (sym (gathered_synced p report.gauge h held.gauge) ∙ sym is)

pub greatest_is_told : (report : ReportView) (peak : Peak) → report.gauge.greatest ≡ Some peak → IsGreatestTold report peak.skew peak.cycle (pos peak.macrotick)
greatest_is_told report peak is = record { from = omega (arith, ints); value = is; held = λ p h held. tells_greatest p report h peak is held }
