-- The premises of the laws of listening are met: in a worked cluster a node listens to node 1, with a microtick that is 100
-- ticks longer. The laws do not ask for nodes without key slots, so the cluster names those with one alone.
use Rattle.std.proofs.Common.{◌≡◌, ℕ, ℤ, pos, negsuc, [], ◌∷◌, All, refl, lit≤, lit<}
use Rattle.std.specs.Prelude.{◌≤ℤ◌}
use Rattle.std.proofs.lemmas.List.Elements.{All-cons, All-nil}
use Rattle.fr_base.specs.declared.channel.Channel.TheVariants.{A}
use Rattle.fr_base.specs.declared.node_row.NodeRow.{NodeRow}
use Rattle.fr_base.specs.Within.{IsWithin}
use Rattle.fr_cluster.specs.Ranges.{InRange}
use Rattle.fr_cluster.specs.Sane.{IsSane}
use Rattle.fr_cluster.specs.Values.{Values, figure}
use Rattle.fr_cluster.specs.declared.names.ParamName.{ParamName}
use Rattle.fr_cluster.specs.declared.names.ParamName.TheVariants as name
use Rattle.fr_reception.specs.Listening.{Caught, caught_micros, first_rate_of, first_start_of}
use Rattle.fr_bound.specs.Bounds.{reach_of}
use Rattle.fr_precision.specs.Rows.{HasProperMicro, Lasts}
use Rattle.fr_precision.specs.Reception.{LeavesRoom}
use Rattle.fr_precision.proofs.Worked as step
use Rattle.fr_precision.proofs.Worked.{row}
use Rattle.fr_runs.specs.Listening.{IsCaught}
use Rattle.fr_runs.proofs.FirstStart.{first_start_is_natural, first_start_is_near}
use Rattle.fr_runs.proofs.Checked.{last_checks_suffice, seventh_check_suffices, sixth_check_suffices}
use Rattle.fr_runs.proofs.Listened.{first_rate_is_within}

-- wider limits of both terms, and a later action point
abbrev pub cluster : Values
cluster = record step.cluster { action_offset = pos 12; offset_limit = pos 454; rate_limit = pos 84 }

in_range : (n : ParamName) → InRange n (figure cluster n)
in_range name.gMacroPerCycle = (record { le = tt }, record { le = tt })
in_range other = (record { le = tt }, record { le = tt })

pub is_sane : IsSane cluster
is_sane = record {
  ranges = in_range;
  constraints = record {
    whole_cycle = refl;
    acts_in_slot = lit< tt;
    corrects_after = (lit< tt, lit< tt);
    leaves_microticks = lit≤ tt;
    passive_first = lit≤ tt;
    sync_nodes = (lit≤ tt, lit≤ tt);
    own_slots = step.is_sane.constraints.own_slots;
    free_slots = step.is_sane.constraints.free_slots;
  };
  lists = step.is_sane.lists;
}

pub one : {X : Type 0} (P : X → Type 0) (x : X) → P x → All P (x ∷ [])
one P x here = All-cons P x [] here (All-nil P)

-- ---- node 5 listens to node 1

abbrev pub reference_even : NodeRow
reference_even = row 1 0 (pos 0)

abbrev pub reference_odd : NodeRow
reference_odd = row 1 200_000_000_000 (pos 0)

-- the frames come without a delay, 480 microticks after the starts of both cycles
abbrev pub caught : Caught
caught = record {
  slot = 1;
  channel = A;
  early = pos 480_000_000;
  late = pos 200_480_000_000;
  even_length = pos 1_000_100;
  odd_length = pos 1_000_100;
}

-- the rate is 20 microticks below, and the start 950,100 ticks after the end of node 1's odd cycle
listened : (caught_micros caught ≡ pos 199_980) × (first_rate_of cluster caught ≡ negsuc 19) × (first_start_of cluster caught ≡ pos 400_000_950_100)
listened = (refl, refl, refl)

-- a delay counts as a late start
delayed : first_start_of cluster (record caught { early = pos 480_300_000; late = pos 200_480_300_000 }) ≡ pos 400_001_250_100
delayed = refl

pub micro : (number start : ℕ) (offset : ℤ) → HasProperMicro cluster (row number start offset)
micro number start offset = record { least = record { le = tt }; most = record { le = tt } }

pub lasts : (number start : ℕ) (offset : ℤ) → Lasts cluster (row number start offset)
lasts number start offset = record { some = record { lt = tt }; most = record { le = tt } }

pub is_caught : IsCaught cluster caught reference_even reference_odd
is_caught = record {
  slot_from = lit≤ tt;
  slot_to = lit≤ tt;
  regular = record {
    double = record { follows = refl; same_rate = refl; no_offset = refl };
    rate_within = record { low = record { le = tt }; high = record { le = tt } };
    even_micro = micro 1 0 (pos 0);
    odd_micro = micro 1 200_000_000_000 (pos 0);
    steady = record { low = record { le = tt }; high = record { le = tt } };
  };
  proper = (record { le = tt }, record { le = tt });
  early_delay = record { low = record { le = tt }; high = record { le = tt } };
  late_delay = record { low = record { le = tt }; high = record { le = tt } };
  even_least = record { le = tt };
  even_most = record { le = tt };
  odd_least = record { le = tt };
  odd_most = record { le = tt };
  steady = record { low = record { le = tt }; high = record { le = tt } };
}

rate_within : IsWithin (pos 84) (negsuc 19)
rate_within = first_rate_is_within cluster caught reference_even reference_odd is_sane (sixth_check_suffices cluster refl) is_caught

start_near : IsWithin (pos 4_500_600) (pos 950_100)
start_near = first_start_is_near cluster caught reference_even reference_odd is_sane (sixth_check_suffices cluster refl) is_caught

start_natural : pos 0 ≤ℤ pos 400_000_950_100
start_natural =
    first_start_is_natural cluster caught reference_even reference_odd is_sane (sixth_check_suffices cluster refl) (seventh_check_suffices cluster refl) is_caught
    (record { le = tt }, record { le = tt }) (record { le = tt })

room : LeavesRoom cluster (pos (reach_of cluster))
room = last_checks_suffice cluster is_sane refl refl
