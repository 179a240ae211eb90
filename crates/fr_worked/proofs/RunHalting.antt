-- The run of three perfect clocks that all halt: what is stated of it, and its cycles, computed from the definitions.
use Rattle.std.proofs.Common.{◌≡◌, ℕ, ◌*◌, ◌%◌, ◌<◌, ◌≤◌, ◌==◌, Bool, true, false, pos, [], ◌∷◌, Some, length, replicate, refl, sym, ◌∙◌, subst, inl, lit≤, lit<}
use Rattle.std.specs.Prelude.{◌-ℤ◌, Contains}
use Rattle.std.proofs.lemmas.List.Elements.{All-contains, All-nil}
use Rattle.fr_base.specs.Within.{IsWithin}
use Rattle.fr_base.specs.declared.channel.Channel.{Channel}
use Rattle.fr_base.specs.declared.channel.Channel.TheVariants.{A, B}
use Rattle.fr_base.specs.declared.state.State.{State}
use Rattle.fr_base.specs.declared.state.State.TheVariants.{Active, Halt}
use Rattle.fr_cluster.specs.Questions.{has_channel}
use Rattle.fr_cluster.specs.Ranges.{InRange}
use Rattle.fr_cluster.specs.Sane.{IsSane}
use Rattle.fr_cluster.specs.Setting.{IsSetting, Setting, correct_nodes}
use Rattle.fr_cluster.specs.Values.{figure}
use Rattle.fr_cluster.specs.declared.names.ParamName.{ParamName}
use Rattle.fr_cluster.specs.declared.names.ParamName.TheVariants as name
use Rattle.fr_cluster.specs.declared.nodes.NodeSpec.{NodeSpec}
use Rattle.fr_cluster.specs.declared.nodes.SlotSpec.{SlotSpec}
use Rattle.fr_cluster.proofs.Elements.{Contains-here}
use Rattle.fr_precision.specs.Reception.{IsDelay}
use Rattle.fr_history.specs.Cycles.{told_of}
use Rattle.fr_history.specs.Lawful.{IsLawful}
use Rattle.fr_history.specs.Next.{cycles_of}
use Rattle.fr_history.specs.Terms.{status_in}
use Rattle.fr_history.specs.Worked.{on_a}
use Rattle.fr_history.proofs.Computing.{on_cycles}
use Rattle.fr_runs.specs.Stated.{all_cycles}
use Rattle.fr_runs.proofs.Nodes.{correct_node}
use Rattle.fr_runs.specs.Flutter.{FluttersWithin}
use Rattle.fr_worked.specs.HaltingRun.{halting_cluster, halting_run, rates_and_cuts, walked, CyclesKeepApartUnchecked, HaltingRunBegins, HaltingRunWalks}
use Rattle.fr_sharp.specs.SettlingHistories.{AreStatedNear}
use Rattle.fr_bound.specs.SharpBounds.{last_of, sharp_lambda, sharp_near, sharp_pi}
use Rattle.fr_bound.specs.SharpChecks.{sharp_holds_of, SharpChecksHold}
use Rattle.fr_runs.specs.SharpHistories.{IsInSharpSyncAt, IsSteadyRun}
use Rattle.fr_runs.specs.SteadyRuns.{IsSteadySetting}
use Rattle.fr_sharp.specs.WorkedRun.{delay_in_turn}
use Rattle.fr_promise.proofs.RunCycles.{stated_runs_are_steady}
use Rattle.fr_sharp.proofs.RunStated.{stated_runs_begin_in_sharp_sync}
use Rattle.fr_worked.proofs.RunWorked.{turns}
use Rattle.fr_promise.proofs.SharpWorked.{three}
use Rattle.fr_worked.proofs.Begun as joined
use Rattle.fr_promise.proofs.CheckNumbers.{two_to_five}

-- ---- its parameters are those of a cluster

in_range : (n : ParamName) → InRange n (figure halting_cluster n)
in_range name.gMacroPerCycle = (record { le = tt }, record { le = tt })
in_range other = (record { le = tt }, record { le = tt })

is_sane : IsSane halting_cluster
is_sane = record {
  ranges = in_range;
  constraints = record {
    whole_cycle = refl;
    acts_in_slot = lit< tt;
    corrects_after = (lit< tt, lit< tt);
    leaves_microticks = lit≤ tt;
    passive_first = lit≤ tt;
    sync_nodes = (lit≤ tt, lit≤ tt);
    own_slots = (
      three (λ key. key ≤ 91) 1 2 3 (lit≤ tt) (lit≤ tt) (lit≤ tt),
      joined.is_sane.constraints.own_slots.1,
    );
    free_slots = All-nil (λ (slot : SlotSpec). (slot.slot ≤ 91) × (Contains (1 ∷ 2 ∷ 3 ∷ []) slot.slot → ⊥));
  };
  lists = joined.is_sane.lists;
}

-- ---- what is stated of it

on_channel : (some : NodeSpec) → Contains (correct_nodes halting_run) some → has_channel (Some some) A ≡ true
on_channel some there =
    All-contains (λ (n : NodeSpec). has_channel (Some n) A ≡ true) halting_cluster.nodes some
    (three (λ (n : NodeSpec). has_channel (Some n) A ≡ true) (on_a 1) (on_a 2) (on_a 3) refl refl refl) (correct_node halting_run some there).there

stated_delay : (channel : Channel) (early : Bool) → IsDelay halting_cluster channel (delay_in_turn early)
stated_delay A true = record { low = record { le = tt }; high = record { le = tt } }
stated_delay A false = record { low = record { le = tt }; high = record { le = tt } }
stated_delay B true = record { low = record { le = tt }; high = record { le = tt } }
stated_delay B false = record { low = record { le = tt }; high = record { le = tt } }

flutters : FluttersWithin halting_run 0 10_000_000
flutters sender receiver slot channel double linked share late within =
    let At : ℕ → ℕ → Type 0 = λ late early. IsWithin (pos 10_000_000) (delay_in_turn (late == 0) -ℤ delay_in_turn (early == 0)) in
    subst (λ (late : ℕ). At late (2 * double % 2)) (sym (turns double).1) (subst (At 1) (sym (turns double).0) (record { low = record { le = tt }; high = record { le = tt } }))

covered : IsSteadySetting halting_run 10_000_000
covered = record {
  timed = record {
    sane = is_sane;
    few = inl (refl, lit≤ tt);
    least = λ some cycle there late within. record { le = tt };
    most = λ some cycle there late within. record { le = tt };
    changes = λ some cycle there late within. record { low = record { le = tt }; high = record { le = tt } };
    delays = λ sender receiver slot channel cycle linked share late within. stated_delay channel (cycle % 2 == 0);
    flutters = flutters;
  };
  links = λ double late within sender receiver slot linked. record {
    channel = A;
    share = record { by_sender = on_channel sender linked.sends; by_receiver = on_channel receiver linked.hears };
    even = refl;
    odd = refl;
  };
}

setting : IsSetting halting_run
setting = record { sane = is_sane; bytes = λ cycle sender receiver channel. tt }

stated_near : AreStatedNear halting_run (sharp_pi false halting_cluster 10_000_000) (sharp_lambda false halting_cluster 10_000_000)
stated_near = record {
  starts = λ one other here there. record { low = record { le = tt }; high = record { le = tt } };
  lengths = λ one other here there. record { low = record { le = tt }; high = record { le = tt } };
  about = λ some there. record { low = record { le = tt }; high = record { le = tt } };
}

other_checks : SharpChecksHold 10_000_000 (sharp_near false halting_cluster 10_000_000) halting_cluster
unfolding last_of
other_checks = two_to_five (λ k. sharp_holds_of k 10_000_000 (sharp_near false halting_cluster 10_000_000) halting_cluster) refl refl refl refl

-- ---- what comes of it

rates_walk : rates_and_cuts (all_cycles halting_run) ≡ replicate 3 (pos 80, 1) ∷ replicate 3 (pos 80, 0) ∷ walked 10
unfolding on_cycles cycles_of walked
rates_walk = refl

abbrev state_of : ℕ → State
state_of node = (status_in halting_cluster (told_of (all_cycles halting_run)) node).state

all_halt : (state_of 1 ≡ Halt) × (state_of 2 ≡ Halt) × (state_of 3 ≡ Halt)
unfolding on_cycles cycles_of
all_halt = (refl, refl, refl)

pub halting_run_walks : HaltingRunWalks
halting_run_walks =
    (rates_walk, three (λ (node : NodeSpec). state_of node.id ≡ Halt) (on_a 1) (on_a 2) (on_a 3) all_halt.0 all_halt.1 all_halt.2)

module _ (lawful : (x : Setting) (n : ℕ) → IsSetting x → IsLawful x (cycles_of x n)) (long : (x : Setting) (n : ℕ) → length (cycles_of x n) ≡ n) where
  steady : IsSteadyRun false halting_run 10_000_000 (all_cycles halting_run)
  steady = stated_runs_are_steady lawful long false halting_run 0 10_000_000 setting covered refl refl

  in_sync : IsInSharpSyncAt false halting_cluster 10_000_000 (pos 0) (all_cycles halting_run) 0
  in_sync = stated_runs_begin_in_sharp_sync false halting_run 10_000_000 (all_cycles halting_run) steady stated_near (lit≤ tt)

pub halting_run_begins : ((x : Setting) (n : ℕ) → IsSetting x → IsLawful x (cycles_of x n)) → ((x : Setting) (n : ℕ) → length (cycles_of x n) ≡ n) → HaltingRunBegins
unfolding last_of
halting_run_begins lawful long = (refl, other_checks, refl, steady lawful long, in_sync lawful long)

-- active and halted are two states
two_states : (state : State) → state ≡ Active → state ≡ Halt → ⊥
two_states state active halted = absurd (let same : Active ≡ Halt = sym active ∙ halted in cc)

pub first_check_is_needed : ((x : Setting) (n : ℕ) → IsSetting x → IsLawful x (cycles_of x n)) → ((x : Setting) (n : ℕ) → length (cycles_of x n) ≡ n) → CyclesKeepApartUnchecked → ⊥
first_check_is_needed lawful long keep =
    let kept = keep false halting_run 10_000_000 (all_cycles halting_run) 0 (steady lawful long) other_checks (in_sync lawful long) in
    two_states (state_of 1) (kept.after (on_a 1) (Contains-here (on_a 1) (on_a 2 ∷ on_a 3 ∷ []))) all_halt.0
