-- The files of the worked runs.
use Rattle.std.specs.Prelude.{ℕ, ℤ, pos, Bool, false, List, [], ◌∷◌, Option, None, flat_map, nat_lt, replicate, if◌then◌else◌}
use Rattle.fr_base.specs.Event.{Event}
use Rattle.fr_base.specs.Event.Event.{Silent}
use Rattle.fr_base.specs.declared.channel.Channel.{Channel}
use Rattle.fr_base.specs.declared.channel.Channel.TheVariants.{A, B}
use Rattle.fr_cluster.specs.declared.join.Join.{Join}
use Rattle.fr_drift.specs.View.{DriftView}
use Rattle.fr_script.specs.Deeds.{passage_of}
use Rattle.fr_script.specs.View.{ScriptView}
use Rattle.fr_script.specs.declared.deed.Deed.{Deed}
use Rattle.fr_script.specs.declared.deed.Deed.TheVariants.{Say}
use Rattle.fr_script.specs.declared.deeds.Passage.{Passage}

-- a row of a script on channel A, or else what becomes of a frame that no row names
abbrev pub only_on_a : Event → Event → Channel → Event
only_on_a event other A = event
only_on_a event other B = other

-- rows of a script that say something in both cycles of the first double cycle on channel A
abbrev pub said_first : Event → ℕ → Channel → Event
said_first event cycle channel = if nat_lt cycle 2 then only_on_a event Silent channel else Silent

-- a drift file of so many double cycles without rows: all clocks start at 0 and run alike, and no frame takes time
abbrev pub steady_drift : ℕ → DriftView
steady_drift doubles = record {
  doubles = doubles;
  compensation_a = pos 0;
  compensation_b = pos 0;
  starts = [];
  lengths = [];
  delays_a = [];
  delays_b = [];
}

-- the marks of the numbers up to 64, where no node is arbitrary
abbrev pub no_arbitrary : List Bool
no_arbitrary = replicate 65 false

-- no node joins
abbrev pub no_join : Option Join
no_join = None

abbrev pub no_joins : List (Option Join)
no_joins = replicate 65 no_join

-- a script without rows: all nodes are correct
abbrev pub plain_script : ScriptView
plain_script = record { arbitrary = no_arbitrary; joins = no_joins; on_a = []; on_b = [] }

-- the rows by which an arbitrary node says its regular frame to receivers in the first double cycle, so many ticks late
abbrev pub says_to : ℕ → ℤ → List ℕ → List (Passage × Deed)
says_to sender shift receivers =
    flat_map (λ receiver. (passage_of sender receiver 0, Say shift None) ∷ (passage_of sender receiver 1, Say shift None) ∷ []) receivers
