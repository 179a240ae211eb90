-- The premises of the laws of histories are met by the worked run, without an arbitrary node and beside node 4 as one, whatever that
-- says.
use Rattle.std.proofs.Common.{◌≡◌, ℕ, zero, suc, ◌+◌, ◌*◌, ◌/◌, ◌%◌, ◌<◌, ◌≤◌, ◌==◌, Bool, true, false, ◌&&◌, ℤ, pos, Some, length, refl, sym, subst, inl, inr, lit≤, arith, if◌then◌else◌}
use Rattle.std.specs.Prelude.{◌-ℤ◌, ◌*ℤ◌, ◌≤ℤ◌, Contains}
use Rattle.std.proofs.lemmas.Int.{ints}
use Rattle.std.proofs.lemmas.List.Elements.{All-contains}
use Rattle.fr_base.specs.Event.{Event}
use Rattle.fr_base.specs.Event.Event.{Regular}
use Rattle.fr_base.specs.Within.{IsWithin}
use Rattle.fr_base.specs.declared.channel.Channel.{Channel}
use Rattle.fr_base.specs.declared.channel.Channel.TheVariants.{A, B}
use Rattle.fr_cluster.specs.Questions.{has_channel}
use Rattle.fr_cluster.specs.Setting.{IsSetting, SaysBytes, Setting, correct_nodes, is_correct}
use Rattle.fr_cluster.specs.declared.nodes.NodeSpec.{NodeSpec}
use Rattle.fr_midpoint.specs.Receivers.{AreFew}
use Rattle.fr_precision.specs.Reception.{IsDelay}
use Rattle.fr_precision.specs.Round.{sync_count}
use Rattle.fr_history.specs.Cycles.{some_joins}
use Rattle.fr_history.specs.Lawful.{IsLawful}
use Rattle.fr_history.specs.Next.{cycles_of}
use Rattle.fr_history.specs.Worked.{on_a as spec}
use Rattle.fr_runs.specs.Stated.{all_cycles}
use Rattle.fr_runs.specs.Supplied.{stays_on}
use Rattle.fr_runs.proofs.Nodes.{correct_node}
use Rattle.fr_runs.specs.Flutter.{FluttersWithin}
use Rattle.fr_precision.specs.Lengths.{IsAboutCycle}
use Rattle.fr_sharp.specs.SettlingHistories.{AreStatedNear}
use Rattle.fr_bound.specs.SharpBounds.{last_of, sharp_lambda, sharp_near, sharp_pi, sharp_precision}
use Rattle.fr_bound.specs.SharpChecks.{sharp_holds_of, SharpChecksHold}
use Rattle.fr_runs.specs.SharpHistories.{CyclesKeepApart, IsInSharpSyncAt, IsSteadyRun, StaysInSharpSyncAt}
use Rattle.fr_runs.specs.SteadyRuns.{IsSteadySetting, MayHaveArbitrary}
use Rattle.fr_sharp.specs.WorkedRun.{delay_in_turn, micro_by, start_by, steady_cluster, steady_run, walking_run, OfBytes, OlderChecksFail, Said, SteadyPrecisions, SteadyRunKeepsPrecision, SteadyRunMeetsPremises, WalkingRunStaysInSharpSync}
use Rattle.fr_promise.proofs.RunCycles.{histories_keep_sharp_precision, stated_runs_are_steady}
use Rattle.fr_sharp.proofs.RunStated.{stated_runs_begin_in_sharp_sync}
use Rattle.fr_promise.proofs.RunSync.{histories_keep_sharp_sync_lem}
use Rattle.fr_promise.proofs.SharpWorked.{checks, four, is_sane}
use Rattle.fr_promise.proofs.CheckNumbers.{two_to_five}

-- ---- what is stated of it

pub on_a : (said : Said) (beside : Bool) (some : NodeSpec) → Contains (correct_nodes (steady_run said beside)) some → has_channel (Some some) A ≡ true
on_a said beside some there =
    All-contains (λ (n : NodeSpec). has_channel (Some n) A ≡ true) steady_cluster.nodes some
    (four (λ (n : NodeSpec). has_channel (Some n) A ≡ true) (spec 1) (spec 2) (spec 3) (spec 4) refl refl refl refl) (correct_node (steady_run said beside) some there).there

pub few : (said : Said) (beside : Bool) → AreFew (sync_count steady_cluster (λ id. is_correct (steady_run said beside) id && stays_on (steady_run said beside) id)) (sync_count steady_cluster (steady_run said beside).is_arbitrary)
few said false = inl (refl, lit≤ tt)
few said true = inr (inl (refl, lit≤ tt))

least_micro : (one two : Bool) → pos 999_900 ≤ℤ micro_by one two
least_micro true two = record { le = tt }
least_micro false true = record { le = tt }
least_micro false false = record { le = tt }

most_micro : (one two : Bool) → micro_by one two ≤ℤ pos 1_000_100
most_micro true two = record { le = tt }
most_micro false true = record { le = tt }
most_micro false false = record { le = tt }

pub itself : (a : ℤ) → IsWithin (pos 0) (a -ℤ a)
itself a = record { low = omega (arith, ints); high = omega (arith, ints) }

stated_delay : (channel : Channel) (early : Bool) → IsDelay steady_cluster channel (delay_in_turn early)
stated_delay A true = record { low = record { le = tt }; high = record { le = tt } }
stated_delay A false = record { low = record { le = tt }; high = record { le = tt } }
stated_delay B true = record { low = record { le = tt }; high = record { le = tt } }
stated_delay B false = record { low = record { le = tt }; high = record { le = tt } }

same_double : (double : ℕ) → suc (2 * double) / 2 ≡ 2 * double / 2
same_double double = omega arith

flutters : (said : Said) (beside : Bool) → FluttersWithin (steady_run said beside) 0 0
flutters said beside sender receiver slot channel double linked share late within =
    let At : ℕ → Type 0 = λ half. IsWithin (pos 0) (delay_in_turn (half % 2 == 0) -ℤ delay_in_turn (2 * double / 2 % 2 == 0)) in
    subst At (sym (same_double double)) (itself (delay_in_turn (2 * double / 2 % 2 == 0)))

-- a correct node's frames come as they are
pub regular : (said : Said) (beside : Bool) (sender : NodeSpec) (cycle receiver : ℕ) → Contains (correct_nodes (steady_run said beside)) sender → (steady_run said beside).event cycle sender.id receiver A ≡ Regular
regular said beside sender cycle receiver there = let correct = (correct_node (steady_run said beside) sender there).correct in rw correct refl

covered : (said : Said) (beside : Bool) → IsSteadySetting (steady_run said beside) 0
covered said beside = record {
  timed = record {
    sane = is_sane;
    few = few said beside;
    least = λ some cycle there late within. least_micro (some.id == 1) (some.id == 2);
    most = λ some cycle there late within. most_micro (some.id == 1) (some.id == 2);
    changes = λ some cycle there late within. itself (micro_by (some.id == 1) (some.id == 2));
    delays = λ sender receiver slot channel cycle linked share late within. stated_delay channel (cycle / 2 % 2 == 0);
    flutters = flutters said beside;
  };
  links = λ double late within sender receiver slot linked. record {
    channel = A;
    share = record { by_sender = on_a said beside sender linked.sends; by_receiver = on_a said beside receiver linked.hears };
    even = regular said beside sender (2 * double) receiver.id linked.sends;
    odd = regular said beside sender (suc (2 * double)) receiver.id linked.sends;
  };
}

may : (said : Said) (beside : Bool) → MayHaveArbitrary beside (steady_run said beside)
may said false = refl
may said true = tt

pub none_joins : (said : Said) (beside : Bool) → some_joins (steady_run said beside) ≡ false
none_joins said false = refl
none_joins said true = refl

-- ---- its starts and its first lengths

pub near_starts : (a b c d : Bool) → IsWithin (pos 18_000_000) (start_by a b -ℤ start_by c d)
near_starts true b true d = record { low = record { le = tt }; high = record { le = tt } }
near_starts true b false true = record { low = record { le = tt }; high = record { le = tt } }
near_starts true b false false = record { low = record { le = tt }; high = record { le = tt } }
near_starts false true true d = record { low = record { le = tt }; high = record { le = tt } }
near_starts false true false true = record { low = record { le = tt }; high = record { le = tt } }
near_starts false true false false = record { low = record { le = tt }; high = record { le = tt } }
near_starts false false true d = record { low = record { le = tt }; high = record { le = tt } }
near_starts false false false true = record { low = record { le = tt }; high = record { le = tt } }
near_starts false false false false = record { low = record { le = tt }; high = record { le = tt } }

abbrev length_by : Bool → Bool → ℤ
length_by a b = pos 200_000 *ℤ micro_by a b

pub near_lengths : (a b c d : Bool) → IsWithin (pos 4_000_000) (length_by a b -ℤ length_by c d)
near_lengths true b true d = record { low = record { le = tt }; high = record { le = tt } }
near_lengths true b false true = record { low = record { le = tt }; high = record { le = tt } }
near_lengths true b false false = record { low = record { le = tt }; high = record { le = tt } }
near_lengths false true true d = record { low = record { le = tt }; high = record { le = tt } }
near_lengths false true false true = record { low = record { le = tt }; high = record { le = tt } }
near_lengths false true false false = record { low = record { le = tt }; high = record { le = tt } }
near_lengths false false true d = record { low = record { le = tt }; high = record { le = tt } }
near_lengths false false false true = record { low = record { le = tt }; high = record { le = tt } }
near_lengths false false false false = record { low = record { le = tt }; high = record { le = tt } }

pub in_its_range : (a b : Bool) → IsAboutCycle steady_cluster (pos 0) (length_by a b)
in_its_range true b = record { low = record { le = tt }; high = record { le = tt } }
in_its_range false true = record { low = record { le = tt }; high = record { le = tt } }
in_its_range false false = record { low = record { le = tt }; high = record { le = tt } }

wider_than : (a b : ℕ) (z : ℤ) → a ≤ b → IsWithin (pos a) z → IsWithin (pos b) z
wider_than a b z le near = record { low = omega (arith, ints, le, near.low); high = omega (arith, ints, le, near.high) }

takes_starts : (beside : Bool) → 18_000_000 ≤ sharp_pi beside steady_cluster 0
takes_starts false = lit≤ tt
takes_starts true = lit≤ tt

takes_lengths : (beside : Bool) → 4_000_000 ≤ sharp_lambda beside steady_cluster 0
takes_lengths false = lit≤ tt
takes_lengths true = lit≤ tt

stated_near : (said : Said) (beside : Bool) → AreStatedNear (steady_run said beside) (sharp_pi beside steady_cluster 0) (sharp_lambda beside steady_cluster 0)
stated_near said beside = record {
  starts = λ one other here there.
      wider_than 18_000_000 (sharp_pi beside steady_cluster 0) (start_by (one.id == 1) (one.id == 2) -ℤ start_by (other.id == 1) (other.id == 2)) (takes_starts beside)
      (near_starts (one.id == 1) (one.id == 2) (other.id == 1) (other.id == 2));
  lengths = λ one other here there.
      wider_than 4_000_000 (sharp_lambda beside steady_cluster 0) (length_by (one.id == 1) (one.id == 2) -ℤ length_by (other.id == 1) (other.id == 2)) (takes_lengths beside)
      (near_lengths (one.id == 1) (one.id == 2) (other.id == 1) (other.id == 2));
  about = λ some there. in_its_range (some.id == 1) (some.id == 2);
}

-- ---- what comes of it

pub five_checks : (beside : Bool) (k : ℕ) → 1 ≤ k → k ≤ 5 → sharp_holds_of k 0 (sharp_near beside steady_cluster 0) steady_cluster ≡ true
five_checks beside zero from to = absurd (omega (arith, from))
five_checks beside (suc zero) from to = refl
five_checks beside (suc (suc k)) from to = checks beside (suc (suc k)) (omega arith) to

pub of_bytes : (says : Bool) (event : Event) → SaysBytes event → SaysBytes (if says then event else Regular)
of_bytes true event is = is
of_bytes false event is = tt

setting : (said : Said) (beside : Bool) → OfBytes said → IsSetting (steady_run said beside)
setting said beside bytes = record {
  sane = is_sane;
  bytes = λ cycle sender receiver channel. of_bytes (beside && (sender == 4)) (said cycle sender receiver channel) (bytes cycle sender receiver channel);
}

pub older_checks_fail : OlderChecksFail
older_checks_fail = (refl, refl, refl)

pub steady_precisions : SteadyPrecisions
steady_precisions = (refl, refl, refl)

module _ (said : Said) (bytes : OfBytes said) (lawful : (x : Setting) (n : ℕ) → IsSetting x → IsLawful x (cycles_of x n)) (long : (x : Setting) (n : ℕ) → length (cycles_of x n) ≡ n) where
  steady : (beside : Bool) → IsSteadyRun beside (steady_run said beside) 0 (all_cycles (steady_run said beside))
  steady beside = stated_runs_are_steady lawful long beside (steady_run said beside) 0 0 (setting said beside bytes) (covered said beside) (may said beside) (none_joins said beside)

  in_sync : (beside : Bool) → IsInSharpSyncAt beside steady_cluster 0 (pos 0) (all_cycles (steady_run said beside)) 0
  in_sync beside = stated_runs_begin_in_sharp_sync beside (steady_run said beside) 0 (all_cycles (steady_run said beside)) (steady beside) (stated_near said beside) (lit≤ tt)

  kept : (beside : Bool) → CyclesKeepApart (steady_run said beside) (all_cycles (steady_run said beside)) 0 (sharp_precision beside steady_cluster 0)
  kept beside = (histories_keep_sharp_precision beside (steady_run said beside) 0 0 (all_cycles (steady_run said beside)) 0 (steady beside) (lit≤ tt) (five_checks beside) (in_sync beside)).cycles

  stays : (beside : Bool) (passed : ℕ) → passed < 3 → StaysInSharpSyncAt beside (steady_run said beside) 0 (all_cycles (steady_run said beside)) 0 passed
  stays beside passed within =
      let short : 0 + passed < 3 = omega (arith, within) in
      histories_keep_sharp_sync_lem beside (steady_run said beside) 0 0 (all_cycles (steady_run said beside)) 0 (steady beside) (lit≤ tt) (checks beside) (in_sync beside) passed short

pub steady_run_keeps_precision : ((x : Setting) (n : ℕ) → IsSetting x → IsLawful x (cycles_of x n)) → ((x : Setting) (n : ℕ) → length (cycles_of x n) ≡ n) → SteadyRunKeepsPrecision
steady_run_keeps_precision lawful long said beside bytes = (in_sync said bytes lawful long beside, kept said bytes lawful long beside)

pub steady_run_meets_premises : ((x : Setting) (n : ℕ) → IsSetting x → IsLawful x (cycles_of x n)) → ((x : Setting) (n : ℕ) → length (cycles_of x n) ≡ n) → SteadyRunMeetsPremises
steady_run_meets_premises lawful long said beside bytes = (steady said bytes lawful long beside, five_checks beside, stays said bytes lawful long beside)

-- ---- the run that walks

pub turns : (double : ℕ) → (2 * double % 2 ≡ 0) × (suc (2 * double) % 2 ≡ 1)
turns double = (omega arith, omega arith)

walking_flutters : FluttersWithin walking_run 0 10_000_000
walking_flutters sender receiver slot channel double linked share late within =
    let At : ℕ → ℕ → Type 0 = λ late early. IsWithin (pos 10_000_000) (delay_in_turn (late == 0) -ℤ delay_in_turn (early == 0)) in
    subst (λ (late : ℕ). At late (2 * double % 2)) (sym (turns double).1) (subst (At 1) (sym (turns double).0) (record { low = record { le = tt }; high = record { le = tt } }))

walking_on_a : (some : NodeSpec) → Contains (correct_nodes walking_run) some → has_channel (Some some) A ≡ true
walking_on_a some there =
    All-contains (λ (n : NodeSpec). has_channel (Some n) A ≡ true) steady_cluster.nodes some
    (four (λ (n : NodeSpec). has_channel (Some n) A ≡ true) (spec 1) (spec 2) (spec 3) (spec 4) refl refl refl refl) (correct_node walking_run some there).there

walking_covered : IsSteadySetting walking_run 10_000_000
walking_covered = record {
  timed = record {
    sane = is_sane;
    few = inl (refl, lit≤ tt);
    least = λ some cycle there late within. least_micro (some.id == 1) (some.id == 2);
    most = λ some cycle there late within. most_micro (some.id == 1) (some.id == 2);
    changes = λ some cycle there late within. itself (micro_by (some.id == 1) (some.id == 2));
    delays = λ sender receiver slot channel cycle linked share late within. stated_delay channel (cycle % 2 == 0);
    flutters = walking_flutters;
  };
  links = λ double late within sender receiver slot linked. record {
    channel = A;
    share = record { by_sender = walking_on_a sender linked.sends; by_receiver = walking_on_a receiver linked.hears };
    even = refl;
    odd = refl;
  };
}

walking_setting : IsSetting walking_run
walking_setting = record { sane = is_sane; bytes = λ cycle sender receiver channel. tt }

walking_near : AreStatedNear walking_run (sharp_pi false steady_cluster 10_000_000) (sharp_lambda false steady_cluster 10_000_000)
walking_near = record {
  starts = λ one other here there.
      wider_than 18_000_000 (sharp_pi false steady_cluster 10_000_000) (start_by (one.id == 1) (one.id == 2) -ℤ start_by (other.id == 1) (other.id == 2)) (lit≤ tt)
      (near_starts (one.id == 1) (one.id == 2) (other.id == 1) (other.id == 2));
  lengths = λ one other here there.
      wider_than 4_000_000 (sharp_lambda false steady_cluster 10_000_000) (length_by (one.id == 1) (one.id == 2) -ℤ length_by (other.id == 1) (other.id == 2)) (lit≤ tt)
      (near_lengths (one.id == 1) (one.id == 2) (other.id == 1) (other.id == 2));
  about = λ some there. in_its_range (some.id == 1) (some.id == 2);
}

walking_checks : SharpChecksHold 10_000_000 (sharp_near false steady_cluster 10_000_000) steady_cluster
unfolding last_of
walking_checks = two_to_five (λ k. sharp_holds_of k 10_000_000 (sharp_near false steady_cluster 10_000_000) steady_cluster) refl refl refl refl

module _ (lawful : (x : Setting) (n : ℕ) → IsSetting x → IsLawful x (cycles_of x n)) (long : (x : Setting) (n : ℕ) → length (cycles_of x n) ≡ n) where
  walks_steadily : IsSteadyRun false walking_run 10_000_000 (all_cycles walking_run)
  walks_steadily = stated_runs_are_steady lawful long false walking_run 0 10_000_000 walking_setting walking_covered refl refl

  walks_in_sync : (passed : ℕ) → passed < 3 → StaysInSharpSyncAt false walking_run 10_000_000 (all_cycles walking_run) 0 passed
  walks_in_sync passed within =
      let short : 0 + passed < 3 = omega (arith, within) in
      let first = stated_runs_begin_in_sharp_sync false walking_run 10_000_000 (all_cycles walking_run) walks_steadily walking_near (lit≤ tt) in
      histories_keep_sharp_sync_lem false walking_run 0 10_000_000 (all_cycles walking_run) 0 walks_steadily (lit≤ tt) walking_checks first passed short

pub walking_run_stays_in_sharp_sync : ((x : Setting) (n : ℕ) → IsSetting x → IsLawful x (cycles_of x n)) → ((x : Setting) (n : ℕ) → length (cycles_of x n) ≡ n) → WalkingRunStaysInSharpSync
unfolding last_of
walking_run_stays_in_sharp_sync lawful long = (refl, refl, walks_steadily lawful long, walks_in_sync lawful long)
