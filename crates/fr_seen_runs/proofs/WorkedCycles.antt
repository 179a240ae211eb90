-- The worked run that a log is seen of: its cycles, that it is timed and steady, and that it begins in sync by the sharper bounds.
use Rattle.std.proofs.Common.{◌≡◌, ℕ, ◌*◌, pos, true, false, Some, IsSome, [], ◌∷◌, refl, sym, subst, inl, lit≤}
use Rattle.std.specs.Prelude.{Contains}
use Rattle.std.proofs.lemmas.List.Elements.{All-contains}
use Rattle.fr_base.specs.declared.channel.Channel.{Channel}
use Rattle.fr_base.specs.declared.channel.Channel.TheVariants.{A, B}
use Rattle.fr_skew.specs.Sync.{are_in_sync_by_even}
use Rattle.fr_cluster.specs.Sane.{IsSane}
use Rattle.fr_cluster.specs.Setting.{IsSetting}
use Rattle.fr_cluster.specs.Values.{amount}
use Rattle.fr_cluster.specs.declared.names.ParamName.TheVariants as name
use Rattle.fr_cluster.specs.declared.nodes.NodeSpec.{NodeSpec}
use Rattle.fr_precision.specs.Reception.{IsDelay}
use Rattle.fr_precision.proofs.Worked.{is_sane, two}
use Rattle.fr_history.specs.Lawful.{IsLawful}
use Rattle.fr_history.specs.Next.{cycles_of, next_cycle}
use Rattle.fr_history.specs.Worked.{on_a}
use Rattle.fr_history.specs.Cycles.{Cycle, cycle_at}
use Rattle.fr_history.specs.History.{row_of}
use Rattle.fr_history.proofs.Computing.{on_cycles, on_told}
use Rattle.fr_runs.proofs.Parts.{even_is}
use Rattle.fr_runs.specs.Links.{IsCarried, IsLinked}
use Rattle.fr_sharp.specs.JudgedSteps.{synced_as}
use Rattle.fr_promise.specs.SharpTested.{first_free_of, first_sharp_sync_of}
use Rattle.fr_runs.specs.SteadyRuns.{IsSteadySetting}
use Rattle.fr_promise.proofs.FreeLemmas.{first_sharp_sync_is}
use Rattle.fr_sharp.proofs.JudgedLaws.{sharp_sync_is_known_lem}
use Rattle.fr_seen.specs.RunRows.{IsTimedRun}
use Rattle.fr_seen_runs.specs.WorkedLog.{seen_cluster, seen_cycle, seen_cycles, seen_run}
use Rattle.fr_runs.specs.SharpHistories.{EachHasRow, IsKnownAt}

-- ---- its cycles

pub cluster_is_sane : IsSane seen_cluster
cluster_is_sane = is_sane

pub run_is_setting : IsSetting seen_run
run_is_setting = record { sane = cluster_is_sane; bytes = λ cycle sender receiver channel. tt }

cycle_0_is : next_cycle seen_run [] ≡ seen_cycle 0
unfolding on_cycles
cycle_0_is = refl

cycle_1_is : next_cycle seen_run (seen_cycle 0 ∷ []) ≡ seen_cycle 1
unfolding on_cycles
cycle_1_is = refl

cycle_2_is : next_cycle seen_run (seen_cycle 1 ∷ seen_cycle 0 ∷ []) ≡ seen_cycle 2
unfolding on_cycles
cycle_2_is = refl

cycle_3_is : next_cycle seen_run (seen_cycle 2 ∷ seen_cycle 1 ∷ seen_cycle 0 ∷ []) ≡ seen_cycle 3
unfolding on_cycles
cycle_3_is = refl

pub cycles_are : cycles_of seen_run 4 ≡ seen_cycles
unfolding cycles_of
cycles_are = Prim.rw (cycle_0_is, cycle_1_is, cycle_2_is, cycle_3_is) refl

-- ---- it is timed

pub run_is_timed : IsLawful seen_run seen_cycles → IsTimedRun seen_run seen_cycles
run_is_timed lawful = record {
  sane = cluster_is_sane;
  rates = λ node among. record { low = record { le = tt }; high = record { le = tt } };
  lawful = lawful;
  within = lit≤ tt;
  least = λ node cycle among less. record { le = tt };
  most = λ node cycle among less. record { le = tt };
  changes = λ node cycle among less. record { low = record { le = tt }; high = record { le = tt } };
}

-- ---- it is steady

-- by how much delays flutter at most, where the log does not state it
abbrev pub seen_flutter : ℕ
seen_flutter = 2 * amount seen_cluster name.xDelayError

no_delay : (channel : Channel) → IsDelay seen_cluster channel (pos 0)
no_delay A = record { low = record { le = tt }; high = record { le = tt } }
no_delay B = record { low = record { le = tt }; high = record { le = tt } }

-- what holds of each of its nodes
pub each_node : (P : NodeSpec → Type 0) → P (on_a 1) → P (on_a 2) → (node : NodeSpec) → Contains seen_cluster.nodes node → P node
each_node P one other node among = All-contains P seen_cluster.nodes node (two P (on_a 1) (on_a 2) one other) among

pub on_channel : (node : NodeSpec) → Contains seen_cluster.nodes node → node.on_a ≡ true
on_channel node among =
    each_node (λ (n : NodeSpec). n.on_a ≡ true) refl refl node among

is_carried : (sender receiver : NodeSpec) (slot double : ℕ) → IsLinked seen_run sender receiver slot → IsCarried seen_run sender receiver double
is_carried sender receiver slot double link = record {
  channel = A;
  share = record { by_sender = on_channel sender link.sends; by_receiver = on_channel receiver link.hears };
  even = refl;
  odd = refl;
}

pub run_is_steady : IsSteadySetting seen_run seen_flutter
run_is_steady = record {
  timed = record {
    sane = cluster_is_sane;
    few = inl (refl, lit≤ tt);
    least = λ node cycle among late less. record { le = tt };
    most = λ node cycle among late less. record { le = tt };
    changes = λ node cycle among late less. record { low = record { le = tt }; high = record { le = tt } };
    delays = λ sender receiver slot channel cycle link share late less. no_delay channel;
    flutters = λ sender receiver slot channel double link share late less. record { low = record { le = tt }; high = record { le = tt } };
  };
  links = λ double late less sender receiver slot link. is_carried sender receiver slot double link;
}

-- each node has a key slot, and so a value of its own
pub has_key : (node : NodeSpec) → Contains seen_cluster.nodes node → IsSome node.key
has_key node among = each_node (λ (n : NodeSpec). IsSome n.key) refl refl node among

-- ---- it begins in sync, and each node has a row

first_sync : first_sharp_sync_of false seen_cluster seen_flutter seen_cycles ≡ Some 0
unfolding on_told first_free_of are_in_sync_by_even
first_sync = refl

pub first_is_known : IsKnownAt seen_run seen_cycles 0 (synced_as false seen_cluster seen_flutter 0)
first_is_known =
    sharp_sync_is_known_lem false seen_run seen_flutter 0 seen_cycles 0 (first_sharp_sync_is false seen_cluster seen_flutter seen_cycles 0 first_sync).unfollowed.synced

pub first_has_rows : EachHasRow seen_run seen_cycles 0
unfolding cycle_at
first_has_rows node correct earlier even odd is =
    let same : even ≡ seen_cycle 0 = some_same even (seen_cycle 0) (sym (even_is seen_cycles 0 earlier even odd is)) in
    subst (λ (c : Cycle). IsSome (row_of c.told.rows node.id)) (sym same)
    (each_node (λ (n : NodeSpec). IsSome (row_of (seen_cycle 0).told.rows n.id)) refl refl node correct)
  where
    some_same : (one other : Cycle) → Some one ≡ Some other → one ≡ other
    some_same one other is = cc is
