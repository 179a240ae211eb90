-- The worked log is read of its run, whose nodes start near each other, and its numbers are sure.
use Rattle.std.proofs.Common.{◌≡◌, ℕ, zero, suc, ◌*◌, ◌<◌, ◌≤◌, false, true, None, ℤ, pos, All, refl, inl, subst, arith}
use Rattle.std.specs.Prelude.{◌+ℤ◌, ◌-ℤ◌, ◌*ℤ◌, ◌≤ℤ◌, Contains}
use Rattle.std.proofs.lemmas.Int.{ints}
use Rattle.std.proofs.lemmas.List.Elements.{All-contains, All-weaker}
use Rattle.fr_base.specs.Within.{IsBetween}
use Rattle.fr_base.specs.declared.node_row.NodeRow.{NodeRow}
use Rattle.fr_bound.specs.Checks.{left_of}
use Rattle.fr_cluster.specs.Setting.{IsSetting, Setting}
use Rattle.fr_midpoint.proofs.Products.{mulz-subz}
use Rattle.fr_precision.proofs.Worked.{two}
use Rattle.fr_time.specs.Cycles.{double_cycle_of}
use Rattle.fr_history.specs.Cycles.{Cycle, cycle_at}
use Rattle.fr_history.specs.Lawful.{IsLawful}
use Rattle.fr_history.specs.Next.{cycles_of}
use Rattle.fr_runs.specs.Numbers.{HasDouble}
use Rattle.fr_runs.proofs.Parts.{cycle_within}
use Rattle.fr_log.specs.View.{delay_limits_of, is_arbitrary_in, own_limits}
use Rattle.fr_course.specs.Course.{breadth_of}
use Rattle.fr_sightings.specs.Senders.{observer_of}
use Rattle.fr_sightings.specs.Sure.{are_numbers_sure}
use Rattle.fr_seen.specs.LogSeen.{IsLogSeen}
use Rattle.fr_seen.specs.Observed.{IsSentIn, SentFrame, stamped_apart}
use Rattle.fr_seen_runs.specs.InTime.{KeepsDrift, StartsLieNear, arrives_at}
use Rattle.fr_seen_runs.specs.WorkedLog.{no_delays, seen_cluster, seen_cycle, seen_cycles, seen_log, seen_row, seen_run, true_clock}
use Rattle.fr_seen_runs.specs.WorkedReading.{WorkedReading}
use Rattle.fr_seen.proofs.SendersApart.{all_within}
use Rattle.fr_seen_runs.proofs.Starts.{same_cycle}
use Rattle.fr_seen_runs.proofs.WorkedCycles.{cycles_are, run_is_setting, run_is_timed}
use Rattle.fr_seen_runs.proofs.WorkedSeen.{log_is, log_is_seen}

-- a clock that is never off
drift_kept : (z z2 x x2 b y : ℤ) → y ≡ z2 -ℤ z → (pos 1 *ℤ z) ≤ℤ ((pos 1 *ℤ x) +ℤ pos 0) → ((pos 1 *ℤ x) +ℤ pos 0) ≤ℤ (pos 1 *ℤ (z +ℤ b))
    → (pos 1 *ℤ z2) ≤ℤ ((pos 1 *ℤ x2) +ℤ pos 0) → ((pos 1 *ℤ x2) +ℤ pos 0) ≤ℤ (pos 1 *ℤ (z2 +ℤ b))
    → IsBetween ((pos 1_000_000 *ℤ (x2 -ℤ x)) -ℤ (pos 1_000_000 *ℤ b)) ((pos 1_000_000 *ℤ (x2 -ℤ x)) +ℤ (pos 1_000_000 *ℤ b)) (pos 1_000_000 *ℤ y)
drift_kept z z2 x x2 b y is c d e f = record { low = low z z2 x x2 b y is c f; high = high z z2 x x2 b y is d e }
  where
    low : (z z2 x x2 b y : ℤ) → y ≡ z2 -ℤ z → (pos 1 *ℤ z) ≤ℤ ((pos 1 *ℤ x) +ℤ pos 0) → ((pos 1 *ℤ x2) +ℤ pos 0) ≤ℤ (pos 1 *ℤ (z2 +ℤ b))
        → ((pos 1_000_000 *ℤ (x2 -ℤ x)) -ℤ (pos 1_000_000 *ℤ b)) ≤ℤ (pos 1_000_000 *ℤ y)
    low z z2 x x2 b y is c f = omega (arith, ints)

    high : (z z2 x x2 b y : ℤ) → y ≡ z2 -ℤ z → ((pos 1 *ℤ x) +ℤ pos 0) ≤ℤ (pos 1 *ℤ (z +ℤ b)) → (pos 1 *ℤ z2) ≤ℤ ((pos 1 *ℤ x2) +ℤ pos 0)
        → (pos 1_000_000 *ℤ y) ≤ℤ ((pos 1_000_000 *ℤ (x2 -ℤ x)) +ℤ (pos 1_000_000 *ℤ b))
    high z z2 x x2 b y is d e = omega (arith, ints)

module _ (o : IsLogSeen seen_run seen_cycles 0 no_delays true_clock (seen_log None false)) where
  keeps_drift : (frame later : SentFrame) → Contains o.sent frame → Contains o.sent later → KeepsDrift seen_run (observer_of (seen_log None false)) frame later
  keeps_drift frame later here there =
      let one = o.seen.read frame (double_cycle_of frame.cycle) here (inl refl) in
      let two = o.seen.read later (double_cycle_of later.cycle) there (inl refl) in
      drift_kept (pos 40_000 *ℤ frame.frame.stamp) (pos 40_000 *ℤ later.frame.stamp) (arrives_at seen_run frame) (arrives_at seen_run later) (breadth_of (observer_of (seen_log None false)))
      (stamped_apart (observer_of (seen_log None false)) frame later) (mulz-subz later.frame.stamp frame.frame.stamp (pos 40_000)) one.from one.to two.from two.to

numbers_are_sure : are_numbers_sure seen_cluster (seen_log None false) ≡ true
unfolding are_numbers_sure is_arbitrary_in delay_limits_of own_limits
numbers_are_sure = refl

-- ---- its starts lie near each other

even_near : (cycle : ℕ) → ((seen_row 1 cycle).start -ℤ (seen_row 2 cycle).start) ≤ℤ pos (left_of 3 seen_cluster)
    → ((seen_row 2 cycle).start -ℤ (seen_row 1 cycle).start) ≤ℤ pos (left_of 3 seen_cluster) → StartsLieNear seen_cluster (seen_cycle cycle).told.rows
even_near cycle one other =
    all_within (pos (left_of 3 seen_cluster)) (λ (row : NodeRow). row.start) (seen_cycle cycle).told.rows
    (λ a b here there.
    All-contains (Near a) (seen_cycle cycle).told.rows b
    (All-contains (λ (r : NodeRow). All (Near r) (seen_cycle cycle).told.rows) (seen_cycle cycle).told.rows a
    (two (λ (r : NodeRow). All (Near r) (seen_cycle cycle).told.rows) (seen_row 1 cycle) (seen_row 2 cycle)
    (two (Near (seen_row 1 cycle)) (seen_row 1 cycle) (seen_row 2 cycle) (none (left_of 3 seen_cluster) (seen_row 1 cycle).start) one)
    (two (Near (seen_row 2 cycle)) (seen_row 1 cycle) (seen_row 2 cycle) other (none (left_of 3 seen_cluster) (seen_row 2 cycle).start)))
    here) there)
  where
    Near : NodeRow → NodeRow → Type 0
    Near a b = (a.start -ℤ b.start) ≤ℤ pos (left_of 3 seen_cluster)

    none : (n : ℕ) (z : ℤ) → (z -ℤ z) ≤ℤ pos n
    none n z = omega (arith, ints)

starts_are_near : (double : ℕ) (even odd : Cycle) → 0 ≤ double → HasDouble seen_cycles double even odd → StartsLieNear seen_cluster even.told.rows
unfolding cycle_at
starts_are_near zero even odd from has =
    subst (λ (c : Cycle). StartsLieNear seen_cluster c.told.rows) (same_cycle (seen_cycle 0) even has.has_even)
    (even_near 0 (record { le = tt }) (record { le = tt }))
starts_are_near (suc zero) even odd from has =
    subst (λ (c : Cycle). StartsLieNear seen_cluster c.told.rows) (same_cycle (seen_cycle 2) even has.has_even)
    (even_near 2 (record { le = tt }) (record { le = tt }))
starts_are_near (suc (suc n)) even odd from has = absurd (behind n (cycle_within seen_cycles (suc (2 * suc (suc n))) odd has.has_odd))
  where
    behind : (n : ℕ) → suc (2 * suc (suc n)) < 4 → ⊥
    behind n less = omega (arith, less)

pub worked_reading_is : ((x : Setting) (n : ℕ) → IsSetting x → IsLawful x (cycles_of x n)) → WorkedReading
worked_reading_is lawful =
    let run_lawful = subst (λ h. IsLawful seen_run h) cycles_are (lawful seen_run 4 run_is_setting) in
    let timed = run_is_timed run_lawful in
    let o = log_is_seen None false in
    record {
      read =
          record {
            run =
                record {
                  timed = timed;
                  whole = refl;
                  log = log_is None false tt;
                  read =
                      record {
                        sent = o.sent;
                        read =
                            record {
                              whole_base = o.seen.whole_base;
                              within_drift = o.seen.within_drift;
                              sent = o.seen.sent;
                              read = o.seen.read;
                              jitter = o.seen.jitter;
                              once = o.seen.once;
                              keeps_drift = λ frame later here there after. keeps_drift o frame later here there;
                            };
                        told = o.told;
                        limits = o.limits;
                        first = o.first;
                      };
                };
            near = record { near = starts_are_near };
            behind = All-weaker (IsSentIn seen_run seen_cycles 0) (λ (sent : SentFrame). 0 ≤ double_cycle_of sent.cycle) (λ sent is. omega arith) o.sent o.seen.sent;
          };
      sure = numbers_are_sure;
    }
