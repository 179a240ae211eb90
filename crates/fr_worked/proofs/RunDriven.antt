-- The run whose clocks begin together and are driven apart: what is stated of it, and its skew, computed from the definitions.
use Rattle.std.proofs.Common.{◌≡◌, ℕ, suc, ◌*◌, ◌%◌, ◌<◌, ◌≤◌, ◌==◌, Bool, true, false, ℤ, pos, [], ◌∷◌, Some, length, refl, inl, lit≤, lit<, arith, if◌then◌else◌}
use Rattle.std.specs.Prelude.{◌+ℤ◌, ◌-ℤ◌, ◌*ℤ◌, ◌≤ℤ◌, Contains}
use Rattle.std.proofs.lemmas.Int.{ints}
use Rattle.std.proofs.lemmas.List.Elements.{All-contains, All-nil}
use Rattle.fr_base.specs.Within.{IsBetween, IsWithin}
use Rattle.fr_base.specs.declared.channel.Channel.{Channel}
use Rattle.fr_base.specs.declared.channel.Channel.TheVariants.{A, B}
use Rattle.fr_cluster.specs.Questions.{has_channel}
use Rattle.fr_cluster.specs.Ranges.{InRange}
use Rattle.fr_cluster.specs.Sane.{IsSane}
use Rattle.fr_cluster.specs.Setting.{IsSetting, Setting, correct_nodes}
use Rattle.fr_cluster.specs.Values.{figure}
use Rattle.fr_cluster.specs.declared.names.ParamName.{ParamName}
use Rattle.fr_cluster.specs.declared.names.ParamName.TheVariants as name
use Rattle.fr_cluster.specs.declared.nodes.NodeSpec.{NodeSpec}
use Rattle.fr_cluster.specs.declared.nodes.SlotSpec.{SlotSpec}
use Rattle.fr_precision.specs.Reception.{IsDelay}
use Rattle.fr_history.specs.Cycles.{told_of}
use Rattle.fr_history.specs.History.{record_at}
use Rattle.fr_history.specs.Lawful.{IsLawful}
use Rattle.fr_history.specs.Next.{cycles_of}
use Rattle.fr_history.specs.Skew.{skew_at}
use Rattle.fr_history.specs.Worked.{on_a}
use Rattle.fr_history.proofs.Computing.{on_cycles, on_told}
use Rattle.fr_runs.specs.Stated.{all_cycles}
use Rattle.fr_runs.proofs.Nodes.{correct_node}
use Rattle.fr_worked.specs.DrivenRun.{delay_to_1, delay_to_3, delay_to_4, driven_cluster, driven_delay, driven_micro, driven_rate, driven_run, driven_start, DrivenRunBegins, DrivenRunReaches}
use Rattle.fr_precision.specs.Lengths.{IsAboutCycle}
use Rattle.fr_sharp.specs.SettlingHistories.{AreStatedNear}
use Rattle.fr_bound.specs.SharpBounds.{last_of, sharp_lambda, sharp_near, sharp_pi}
use Rattle.fr_bound.specs.SharpChecks.{sharp_holds_of}
use Rattle.fr_runs.specs.SharpHistories.{IsSteadyRun}
use Rattle.fr_runs.specs.SteadyRuns.{IsSteadySetting}
use Rattle.fr_promise.proofs.RunCycles.{stated_runs_are_steady}
use Rattle.fr_sharp.proofs.RunStated.{stated_runs_begin_in_sharp_sync}
use Rattle.fr_promise.proofs.SharpWorked.{four}
use Rattle.fr_promise.proofs.SharpWorked as four_nodes
use Rattle.fr_promise.proofs.CheckNumbers.{one_to_five}

-- ---- its parameters are those of a cluster

in_range : (n : ParamName) → InRange n (figure driven_cluster n)
in_range name.gMacroPerCycle = (record { le = tt }, record { le = tt })
in_range other = (record { le = tt }, record { le = tt })

pub is_sane : IsSane driven_cluster
is_sane = record {
  ranges = in_range;
  constraints = record {
    whole_cycle = refl;
    acts_in_slot = lit< tt;
    corrects_after = (lit< tt, lit< tt);
    leaves_microticks = lit≤ tt;
    passive_first = lit≤ tt;
    sync_nodes = (lit≤ tt, lit≤ tt);
    own_slots = (
      four (λ key. key ≤ 4) 1 2 3 4 (lit≤ tt) (lit≤ tt) (lit≤ tt) (lit≤ tt),
      four_nodes.is_sane.constraints.own_slots.1,
    );
    free_slots = All-nil (λ (slot : SlotSpec). (slot.slot ≤ 4) × (Contains (1 ∷ 2 ∷ 3 ∷ 4 ∷ []) slot.slot → ⊥));
  };
  lists = four_nodes.is_sane.lists;
}

-- ---- its delays, of which none is further from the compensation than stated

IsProper : ℤ → Type 0
IsProper delay = IsBetween (pos 500_000) (pos 1_500_000) delay

either : (test : Bool) (a b : ℤ) → IsProper a → IsProper b → IsProper (if test then a else b)
either true a b one other = one
either false a b one other = other

delays_to_1 : (sender : ℕ) (even : Bool) → IsProper (delay_to_1 sender even)
unfolding IsProper
delays_to_1 sender even =
    either (sender == 2) (if even then pos 1_000_000 else pos 955_539) (if sender == 3 then (if even then pos 912_024 else pos 500_000) else pos 1_000_000)
    (either even (pos 1_000_000) (pos 955_539) (record { low = record { le = tt }; high = record { le = tt } }) (record { low = record { le = tt }; high = record { le = tt } }))
    (
    either (sender == 3) (if even then pos 912_024 else pos 500_000) (pos 1_000_000)
    (either even (pos 912_024) (pos 500_000) (record { low = record { le = tt }; high = record { le = tt } }) (record { low = record { le = tt }; high = record { le = tt } }))
    (record { low = record { le = tt }; high = record { le = tt } })
    )

delays_to_3 : (sender : ℕ) (even : Bool) → IsProper (delay_to_3 sender even)
unfolding IsProper
delays_to_3 sender even =
    either (sender == 4) (pos 500_000) (if even then pos 500_000 else pos 1_500_000) (record { low = record { le = tt }; high = record { le = tt } })
    (either even (pos 500_000) (pos 1_500_000) (record { low = record { le = tt }; high = record { le = tt } }) (record { low = record { le = tt }; high = record { le = tt } }))

delays_to_4 : (sender : ℕ) (even : Bool) → IsProper (delay_to_4 sender even)
unfolding IsProper
delays_to_4 sender even =
    either even (pos 1_500_000) (if sender == 3 then pos 574_534 else pos 500_000) (record { low = record { le = tt }; high = record { le = tt } })
    (either (sender == 3) (pos 574_534) (pos 500_000) (record { low = record { le = tt }; high = record { le = tt } }) (record { low = record { le = tt }; high = record { le = tt } }))

nominal_is : IsProper (pos 1_000_000)
unfolding IsProper
nominal_is = record { low = record { le = tt }; high = record { le = tt } }

delays_proper : (sender receiver : ℕ) (even : Bool) → IsProper (driven_delay sender receiver even)
delays_proper sender receiver even =
    either (receiver == 1) (delay_to_1 sender even) (if receiver == 3 then delay_to_3 sender even else (if receiver == 4 then delay_to_4 sender even else pos 1_000_000)) (delays_to_1 sender even)
    (
    either (receiver == 3) (delay_to_3 sender even) (if receiver == 4 then delay_to_4 sender even else pos 1_000_000) (delays_to_3 sender even)
    (either (receiver == 4) (delay_to_4 sender even) (pos 1_000_000) (delays_to_4 sender even) nominal_is)
    )

from_proper : (delay : ℤ) → IsProper delay → (pos 500_000 ≤ℤ delay) × (delay ≤ℤ pos 1_500_000)
unfolding IsProper
from_proper delay is = (is.low, is.high)

near_nominal : (delay : ℤ) → IsProper delay → IsWithin (pos 500_000) (delay -ℤ pos 1_000_000)
near_nominal delay is =
    let both = from_proper delay is in
    let low = both.0 in
    let high = both.1 in
    record { low = omega (arith, ints, low, high); high = omega (arith, ints, low, high) }

stated_delay : (channel : Channel) (delay : ℤ) → IsProper delay → IsDelay driven_cluster channel delay
stated_delay A delay is = near_nominal delay is
stated_delay B delay is = near_nominal delay is

flutters_little : (late early : ℤ) → IsProper late → IsProper early → IsWithin (pos 1_000_000) (late -ℤ early)
flutters_little late early one other =
    let first = from_proper late one in
    let second = from_proper early other in
    let a = first.0 in
    let b = first.1 in
    let c = second.0 in
    let d = second.1 in
    record { low = omega (arith, ints, a, b, c, d); high = omega (arith, ints, a, b, c, d) }

-- ---- what is stated of it

pub on_channel : (some : NodeSpec) → Contains (correct_nodes driven_run) some → has_channel (Some some) A ≡ true
on_channel some there =
    All-contains (λ (n : NodeSpec). has_channel (Some n) A ≡ true) driven_cluster.nodes some
    (four (λ (n : NodeSpec). has_channel (Some n) A ≡ true) (on_a 1) (on_a 2) (on_a 3) (on_a 4) refl refl refl refl) (correct_node driven_run some there).there

micro_within : (a b c : Bool) → IsBetween (pos 999_800) (pos 1_000_200) (driven_micro a b c)
micro_within true b c = record { low = record { le = tt }; high = record { le = tt } }
micro_within false true c = record { low = record { le = tt }; high = record { le = tt } }
micro_within false false true = record { low = record { le = tt }; high = record { le = tt } }
micro_within false false false = record { low = record { le = tt }; high = record { le = tt } }

itself : (a : ℤ) → IsWithin (pos 0) (a -ℤ a)
itself a = record { low = omega (arith, ints); high = omega (arith, ints) }

covered : IsSteadySetting driven_run 1_000_000
covered = record {
  timed = record {
    sane = is_sane;
    few = inl (refl, lit≤ tt);
    least = λ some cycle there late within. (micro_within (some.id == 1) (some.id == 2) (some.id == 3)).low;
    most = λ some cycle there late within. (micro_within (some.id == 1) (some.id == 2) (some.id == 3)).high;
    changes = λ some cycle there late within. itself (driven_micro (some.id == 1) (some.id == 2) (some.id == 3));
    delays = λ sender receiver slot channel cycle linked share late within.
        stated_delay channel (driven_delay sender.id receiver.id (cycle % 2 == 0)) (delays_proper sender.id receiver.id (cycle % 2 == 0));
    flutters = λ sender receiver slot channel double linked share late within.
        flutters_little (driven_delay sender.id receiver.id (suc (2 * double) % 2 == 0)) (driven_delay sender.id receiver.id (2 * double % 2 == 0))
        (delays_proper sender.id receiver.id (suc (2 * double) % 2 == 0)) (delays_proper sender.id receiver.id (2 * double % 2 == 0));
  };
  links = λ double late within sender receiver slot linked. record {
    channel = A;
    share = record { by_sender = on_channel sender linked.sends; by_receiver = on_channel receiver linked.hears };
    even = refl;
    odd = refl;
  };
}

setting : IsSetting driven_run
setting = record { sane = is_sane; bytes = λ cycle sender receiver channel. tt }

-- ---- its starts and first lengths

apart : (low high : ℤ) (bound : ℕ) (a b : ℤ) → (high -ℤ low) ≤ℤ pos bound → IsBetween low high a → IsBetween low high b → IsWithin (pos bound) (a -ℤ b)
apart low high bound a b near one other =
    let a_low = one.low in
    let a_high = one.high in
    let b_low = other.low in
    let b_high = other.high in
    record { low = omega (arith, ints, near, a_low, a_high, b_low, b_high); high = omega (arith, ints, near, a_low, a_high, b_low, b_high) }

start_within : (a b c : Bool) → IsBetween (pos 0) (pos 1_400_000) (driven_start a b c)
start_within true b c = record { low = record { le = tt }; high = record { le = tt } }
start_within false true c = record { low = record { le = tt }; high = record { le = tt } }
start_within false false true = record { low = record { le = tt }; high = record { le = tt } }
start_within false false false = record { low = record { le = tt }; high = record { le = tt } }

abbrev length_by : Bool → Bool → Bool → ℤ
length_by a b c = (pos 200_000 +ℤ driven_rate a b c) *ℤ driven_micro a b c

length_within : (a b c : Bool) → IsBetween (pos 199_999_000_000) (pos 200_001_000_000) (length_by a b c)
length_within true b c = record { low = record { le = tt }; high = record { le = tt } }
length_within false true c = record { low = record { le = tt }; high = record { le = tt } }
length_within false false true = record { low = record { le = tt }; high = record { le = tt } }
length_within false false false = record { low = record { le = tt }; high = record { le = tt } }

about_cycle : (z : ℤ) → IsBetween (pos 199_999_000_000) (pos 200_001_000_000) z → IsAboutCycle driven_cluster (pos 0) z
about_cycle z is =
    let low = is.low in
    let high = is.high in
    record { low = wider_low z low; high = wider_high z high }
  where
    wider_low : (z : ℤ) → pos 199_999_000_000 ≤ℤ z → (pos 199_960_000_000 -ℤ pos 0) ≤ℤ z
    wider_low z low = omega (arith, ints, low)

    wider_high : (z : ℤ) → z ≤ℤ pos 200_001_000_000 → z ≤ℤ (pos 200_040_000_000 +ℤ pos 0)
    wider_high z high = omega (arith, ints, high)

stated_near : AreStatedNear driven_run (sharp_pi false driven_cluster 1_000_000) (sharp_lambda false driven_cluster 1_000_000)
stated_near = record {
  starts = λ one other here there.
      apart (pos 0) (pos 1_400_000) (sharp_pi false driven_cluster 1_000_000) (driven_start (one.id == 1) (one.id == 2) (one.id == 3)) (driven_start (other.id == 1) (other.id == 2) (other.id == 3))
      (record { le = tt }) (start_within (one.id == 1) (one.id == 2) (one.id == 3)) (start_within (other.id == 1) (other.id == 2) (other.id == 3));
  lengths = λ one other here there.
      apart (pos 199_999_000_000) (pos 200_001_000_000) (sharp_lambda false driven_cluster 1_000_000) (length_by (one.id == 1) (one.id == 2) (one.id == 3)) (length_by (other.id == 1) (other.id == 2) (other.id == 3))
      (record { le = tt }) (length_within (one.id == 1) (one.id == 2) (one.id == 3)) (length_within (other.id == 1) (other.id == 2) (other.id == 3));
  about = λ some there. about_cycle (length_by (some.id == 1) (some.id == 2) (some.id == 3)) (length_within (some.id == 1) (some.id == 2) (some.id == 3));
}

five_checks : (k : ℕ) → 1 ≤ k → k ≤ 5 → sharp_holds_of k 1_000_000 (sharp_near false driven_cluster 1_000_000) driven_cluster ≡ true
unfolding last_of
five_checks = one_to_five (λ k. sharp_holds_of k 1_000_000 (sharp_near false driven_cluster 1_000_000) driven_cluster) refl refl refl refl refl

-- ---- what comes of it

driven_skew : skew_at driven_cluster (told_of (all_cycles driven_run)) 7 4_772 ≡ pos 40_747_671
unfolding on_told on_cycles cycles_of record_at
driven_skew = refl

pub driven_run_reaches : DrivenRunReaches
driven_run_reaches = (driven_skew, lit≤ tt)

module _ (lawful : (x : Setting) (n : ℕ) → IsSetting x → IsLawful x (cycles_of x n)) (long : (x : Setting) (n : ℕ) → length (cycles_of x n) ≡ n) where
  steady : IsSteadyRun false driven_run 1_000_000 (all_cycles driven_run)
  steady = stated_runs_are_steady lawful long false driven_run 0 1_000_000 setting covered refl refl

pub driven_run_begins : ((x : Setting) (n : ℕ) → IsSetting x → IsLawful x (cycles_of x n)) → ((x : Setting) (n : ℕ) → length (cycles_of x n) ≡ n) → DrivenRunBegins
driven_run_begins lawful long = record {
  together = λ one other here there.
      apart (pos 0) (pos 1_400_000) 1_400_000 (driven_start (one.id == 1) (one.id == 2) (one.id == 3)) (driven_start (other.id == 1) (other.id == 2) (other.id == 3)) (record { le = tt })
      (start_within (one.id == 1) (one.id == 2) (one.id == 3)) (start_within (other.id == 1) (other.id == 2) (other.id == 3));
  run = steady lawful long;
  checks = five_checks;
  in_sync = stated_runs_begin_in_sharp_sync false driven_run 1_000_000 (all_cycles driven_run) (steady lawful long) stated_near (lit≤ tt);
}
