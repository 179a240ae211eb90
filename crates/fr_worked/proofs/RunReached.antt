-- The runs that reach nearly all of the sharper precision: what is stated of them, and their skew, computed from the
-- definitions.
use Rattle.std.proofs.Common.{◌≡◌, ℕ, suc, ◌*◌, ◌==◌, Bool, true, false, ◌&&◌, ℤ, pos, length, refl, lit≤}
use Rattle.std.specs.Prelude.{◌-ℤ◌, ◌*ℤ◌, ◌≤ℤ◌, ◌+ℤ◌}
use Rattle.fr_base.specs.Within.{IsWithin}
use Rattle.fr_base.specs.declared.channel.Channel.{Channel}
use Rattle.fr_base.specs.declared.channel.Channel.TheVariants.{A, B}
use Rattle.fr_cluster.specs.Setting.{IsSetting, Setting}
use Rattle.fr_precision.specs.Reception.{IsDelay}
use Rattle.fr_history.specs.Cycles.{told_of}
use Rattle.fr_history.specs.History.{record_at}
use Rattle.fr_history.specs.Lawful.{IsLawful}
use Rattle.fr_history.specs.Next.{cycles_of}
use Rattle.fr_history.specs.Skew.{skew_at}
use Rattle.fr_history.proofs.Computing.{on_cycles, on_told}
use Rattle.fr_runs.specs.Stated.{all_cycles}
use Rattle.fr_precision.specs.Lengths.{IsAboutCycle}
use Rattle.fr_worked.specs.ReachedRun.{far_micro, far_rate, far_start, reaching_run, ReachesAlone, ReachesBeside}
use Rattle.fr_sharp.specs.SettlingHistories.{AreStatedNear}
use Rattle.fr_bound.specs.SharpBounds.{sharp_lambda, sharp_pi}
use Rattle.fr_runs.specs.SharpHistories.{IsInSharpSyncAt, IsSteadyRun}
use Rattle.fr_runs.specs.SteadyRuns.{IsSteadySetting, MayHaveArbitrary}
use Rattle.fr_sharp.specs.WorkedRun.{steady_cluster, OfBytes, Said}
use Rattle.fr_promise.proofs.RunCycles.{stated_runs_are_steady}
use Rattle.fr_sharp.proofs.RunStated.{stated_runs_begin_in_sharp_sync}
use Rattle.fr_worked.proofs.RunWorked.{few, five_checks, itself, none_joins, of_bytes, on_a, regular}
use Rattle.fr_promise.proofs.SharpWorked.{is_sane}

-- ---- what is stated of them

nominal_delay : (channel : Channel) → IsDelay steady_cluster channel (pos 7_000_000)
nominal_delay A = record { low = record { le = tt }; high = record { le = tt } }
nominal_delay B = record { low = record { le = tt }; high = record { le = tt } }

least_micro : (beside first : Bool) → pos 999_900 ≤ℤ far_micro beside first
least_micro false true = record { le = tt }
least_micro false false = record { le = tt }
least_micro true true = record { le = tt }
least_micro true false = record { le = tt }

most_micro : (beside first : Bool) → far_micro beside first ≤ℤ pos 1_000_100
most_micro false true = record { le = tt }
most_micro false false = record { le = tt }
most_micro true true = record { le = tt }
most_micro true false = record { le = tt }

covered : (said : Said) (beside : Bool) → IsSteadySetting (reaching_run said beside) 0
covered said beside = record {
  timed = record {
    sane = is_sane;
    few = few said beside;
    least = λ some cycle there late within. least_micro beside (some.id == 1);
    most = λ some cycle there late within. most_micro beside (some.id == 1);
    changes = λ some cycle there late within. itself (far_micro beside (some.id == 1));
    delays = λ sender receiver slot channel cycle linked share late within. nominal_delay channel;
    flutters = λ sender receiver slot channel double linked share late within. itself (pos 7_000_000);
  };
  links = λ double late within sender receiver slot linked. record {
    channel = A;
    share = record { by_sender = on_a said beside sender linked.sends; by_receiver = on_a said beside receiver linked.hears };
    even = regular said beside sender (2 * double) receiver.id linked.sends;
    odd = regular said beside sender (suc (2 * double)) receiver.id linked.sends;
  };
}

may : (said : Said) (beside : Bool) → MayHaveArbitrary beside (reaching_run said beside)
may said false = refl
may said true = tt

setting : (said : Said) (beside : Bool) → OfBytes said → IsSetting (reaching_run said beside)
setting said beside bytes = record {
  sane = is_sane;
  bytes = λ cycle sender receiver channel. of_bytes (beside && (sender == 4)) (said cycle sender receiver channel) (bytes cycle sender receiver channel);
}

-- ---- their starts and first lengths: as far apart as sharp sync takes them

far_starts : (beside one other : Bool) → IsWithin (pos (sharp_pi beside steady_cluster 0)) (far_start beside one -ℤ far_start beside other)
far_starts false true true = record { low = record { le = tt }; high = record { le = tt } }
far_starts false true false = record { low = record { le = tt }; high = record { le = tt } }
far_starts false false true = record { low = record { le = tt }; high = record { le = tt } }
far_starts false false false = record { low = record { le = tt }; high = record { le = tt } }
far_starts true true true = record { low = record { le = tt }; high = record { le = tt } }
far_starts true true false = record { low = record { le = tt }; high = record { le = tt } }
far_starts true false true = record { low = record { le = tt }; high = record { le = tt } }
far_starts true false false = record { low = record { le = tt }; high = record { le = tt } }

abbrev far_length : Bool → Bool → ℤ
far_length beside first = (pos 200_000 +ℤ far_rate first) *ℤ far_micro beside first

far_lengths : (beside one other : Bool) → IsWithin (pos (sharp_lambda beside steady_cluster 0)) (far_length beside one -ℤ far_length beside other)
far_lengths false true true = record { low = record { le = tt }; high = record { le = tt } }
far_lengths false true false = record { low = record { le = tt }; high = record { le = tt } }
far_lengths false false true = record { low = record { le = tt }; high = record { le = tt } }
far_lengths false false false = record { low = record { le = tt }; high = record { le = tt } }
far_lengths true true true = record { low = record { le = tt }; high = record { le = tt } }
far_lengths true true false = record { low = record { le = tt }; high = record { le = tt } }
far_lengths true false true = record { low = record { le = tt }; high = record { le = tt } }
far_lengths true false false = record { low = record { le = tt }; high = record { le = tt } }

in_its_range : (beside first : Bool) → IsAboutCycle steady_cluster (pos 0) (far_length beside first)
in_its_range false true = record { low = record { le = tt }; high = record { le = tt } }
in_its_range false false = record { low = record { le = tt }; high = record { le = tt } }
in_its_range true true = record { low = record { le = tt }; high = record { le = tt } }
in_its_range true false = record { low = record { le = tt }; high = record { le = tt } }

stated_near : (said : Said) (beside : Bool) → AreStatedNear (reaching_run said beside) (sharp_pi beside steady_cluster 0) (sharp_lambda beside steady_cluster 0)
stated_near said beside = record {
  starts = λ one other here there. far_starts beside (one.id == 1) (other.id == 1);
  lengths = λ one other here there. far_lengths beside (one.id == 1) (other.id == 1);
  about = λ some there. in_its_range beside (some.id == 1);
}

-- ---- what comes of it

alone_skew : (said : Said) → skew_at (reaching_run said false).params (told_of (all_cycles (reaching_run said false))) 1 3536 ≡ pos 34_783_678
unfolding on_told on_cycles cycles_of record_at
alone_skew said = refl

beside_skew : (said : Said) → skew_at (reaching_run said true).params (told_of (all_cycles (reaching_run said true))) 1 3536 ≡ pos 97_597_613
unfolding on_told on_cycles cycles_of record_at
beside_skew said = refl

module _ (said : Said) (bytes : OfBytes said) (lawful : (x : Setting) (n : ℕ) → IsSetting x → IsLawful x (cycles_of x n)) (long : (x : Setting) (n : ℕ) → length (cycles_of x n) ≡ n) where
  steady : (beside : Bool) → IsSteadyRun beside (reaching_run said beside) 0 (all_cycles (reaching_run said beside))
  steady beside = stated_runs_are_steady lawful long beside (reaching_run said beside) 0 0 (setting said beside bytes) (covered said beside) (may said beside) (none_joins said beside)

  in_sync : (beside : Bool) → IsInSharpSyncAt beside steady_cluster 0 (pos 0) (all_cycles (reaching_run said beside)) 0
  in_sync beside = stated_runs_begin_in_sharp_sync beside (reaching_run said beside) 0 (all_cycles (reaching_run said beside)) (steady beside) (stated_near said beside) (lit≤ tt)

pub reaches_alone : ((x : Setting) (n : ℕ) → IsSetting x → IsLawful x (cycles_of x n)) → ((x : Setting) (n : ℕ) → length (cycles_of x n) ≡ n) → ReachesAlone
reaches_alone lawful long said bytes = record {
  run = steady said bytes lawful long false;
  checks = five_checks false;
  in_sync = in_sync said bytes lawful long false;
  reached = alone_skew said;
  nearly = lit≤ tt;
}

pub reaches_beside : ((x : Setting) (n : ℕ) → IsSetting x → IsLawful x (cycles_of x n)) → ((x : Setting) (n : ℕ) → length (cycles_of x n) ≡ n) → ReachesBeside
reaches_beside lawful long said bytes = record {
  run = steady said bytes lawful long true;
  checks = five_checks true;
  in_sync = in_sync said bytes lawful long true;
  reached = beside_skew said;
  nearly = lit≤ tt;
}
