-- The run that begins at the edge of sync: it is covered and in sync, and its skew, computed from the definitions.
use Rattle.std.proofs.Common.{◌≡◌, ◌==◌, ◌<◌, ℕ, Bool, true, false, pos, Some, length, refl, inl, lit≤, arith, if◌then◌else◌}
use Rattle.std.specs.Prelude.{neg_ℤ, Contains}
use Rattle.std.proofs.lemmas.List.Elements.{All-contains}
use Rattle.fr_base.specs.Within.{IsWithin}
use Rattle.fr_base.specs.declared.channel.Channel.{Channel}
use Rattle.fr_base.specs.declared.channel.Channel.TheVariants.{A, B}
use Rattle.fr_bound.specs.Checks.{holds_of, AllChecksHold}
use Rattle.fr_cluster.specs.Setting.{IsSetting, Setting}
use Rattle.fr_cluster.specs.declared.nodes.NodeSpec.{NodeSpec}
use Rattle.fr_precision.specs.Reception.{IsDelay}
use Rattle.fr_precision.proofs.Worked.{two}
use Rattle.fr_history.specs.Cycles.{told_of}
use Rattle.fr_history.specs.History.{record_at}
use Rattle.fr_history.specs.Lawful.{IsLawful}
use Rattle.fr_history.specs.Next.{cycles_of}
use Rattle.fr_history.specs.Skew.{skew_at}
use Rattle.fr_history.specs.Unfollowed.{first_unfollowed_sync_of, IsUnfollowedSyncAt}
use Rattle.fr_history.specs.Worked.{on_a}
use Rattle.fr_history.proofs.Computing.{on_cycles, on_told}
use Rattle.fr_runs.specs.Links.{IsCarried, IsLinked}
use Rattle.fr_runs.specs.Stated.{IsCoveredRun, all_cycles}
use Rattle.fr_runs.specs.Supplied.{IsCoveredByFiles}
use Rattle.fr_runs.specs.Whole.{IsUnfollowedRun}
use Rattle.fr_runs.proofs.Covers.{coverage_suffices}
use Rattle.fr_promise.specs.Statement.{KeepsPrecision}
use Rattle.fr_promise.proofs.Promising.{runs_keep_precision}
use Rattle.fr_worked.specs.Edge.{edge_run}
use Rattle.fr_worked.proofs.Sane.{cluster_sane, nodes_from}
use Rattle.fr_promise.proofs.CheckNumbers.{one_to_five}

edge_setting : IsSetting edge_run
unfolding nodes_from
edge_setting = record { sane = cluster_sane false 2 (omega arith) (omega arith); bytes = λ cycle sender receiver channel. tt }

checks_hold : AllChecksHold edge_run.params
checks_hold = one_to_five (λ k. holds_of k edge_run.params) refl refl refl refl refl

no_delay : (channel : Channel) → IsDelay edge_run.params channel (pos 0)
no_delay A = record { low = record { le = tt }; high = record { le = tt } }
no_delay B = record { low = record { le = tt }; high = record { le = tt } }

on_channel : (node : NodeSpec) → Contains edge_run.params.nodes node → node.on_a ≡ true
on_channel node among =
    All-contains (λ (n : NodeSpec). n.on_a ≡ true) edge_run.params.nodes node
    (two (λ (n : NodeSpec). n.on_a ≡ true) (on_a 1) (on_a 2) refl refl) among

is_carried : (sender receiver : NodeSpec) (slot double : ℕ) → IsLinked edge_run sender receiver slot → double < 1 → IsCarried edge_run sender receiver double
is_carried sender receiver slot double link less = record {
  channel = A;
  share = record { by_sender = on_channel sender link.sends; by_receiver = on_channel receiver link.hears };
  even = refl;
  odd = refl;
}

is_covered : IsCoveredByFiles edge_run
is_covered = record {
  sane = edge_setting.sane;
  checks = checks_hold;
  join_checks = λ joins. absurd (cc);
  few = inl (refl, lit≤ tt);
  least = λ node cycle among less. record { le = tt };
  most = λ node cycle among less. record { le = tt };
  changes = λ node cycle among less. record { low = record { le = tt }; high = record { le = tt } };
  referenced = record {
    references = λ node join among is. absurd (cc);
    delays = λ sender receiver slot channel cycle sends hears key other by_sender by_receiver less. no_delay channel;
  };
  links = is_carried;
}

rate_within : (second : Bool) → IsWithin (pos 81) (if second then pos 15 else neg_ℤ (pos 15))
rate_within true = record { low = record { le = tt }; high = record { le = tt } }
rate_within false = record { low = record { le = tt }; high = record { le = tt } }

pub edge_is_stated : IsCoveredRun edge_run
edge_is_stated = record {
  setting = edge_setting;
  covered = is_covered;
  rates = λ node among. rate_within (node.id == 2);
  starts = λ joins. absurd (cc);
}

pub edge_unfollowed : first_unfollowed_sync_of edge_run.params (all_cycles edge_run) ≡ Some 0
unfolding on_told on_cycles cycles_of
edge_unfollowed = refl

pub edge_skew : skew_at edge_run.params (told_of (all_cycles edge_run)) 1 4_667 ≡ pos 249_032_800
unfolding on_told on_cycles cycles_of record_at
edge_skew = refl

pub edge_is_kept : ((x : Setting) (n : ℕ) → IsSetting x → IsLawful x (cycles_of x n)) → ((x : Setting) (n : ℕ) → length (cycles_of x n) ≡ n) → IsUnfollowedSyncAt edge_run.params (all_cycles edge_run) 0
    → KeepsPrecision edge_run (all_cycles edge_run) 0
edge_is_kept lawful long unfollowed =
    let run : IsUnfollowedRun edge_run (all_cycles edge_run) 0 = record {
      covered = coverage_suffices edge_run is_covered;
      rates = edge_is_stated.rates;
      starts = edge_is_stated.starts;
      lawful = lawful edge_run 2 edge_setting;
      whole = long edge_run 2;
      unfollowed = unfollowed;
    } in
    runs_keep_precision edge_run (all_cycles edge_run) 0 run
