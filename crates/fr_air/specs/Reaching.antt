-- What is known of a cycle before its slots: that what each node sends comes to all others inside of its slots, and how
-- many nodes hear on each channel.
use Rattle.std.specs.Prelude.{◌≡◌, ℕ, ◌<◌, ◌≤◌, Bool, true, false, not, ◌&&◌, List, All, AllPairs, count_by, length, Some}
use Rattle.fr_base.specs.Event.Event.{Regular}
use Rattle.fr_base.specs.States.{is_active, is_halted}
use Rattle.fr_base.specs.declared.channel.Channel.{Channel}
use Rattle.fr_base.specs.declared.channel.Channel.TheVariants.{A, B}
use Rattle.fr_base.specs.declared.node_row.NodeRow.{NodeRow}
use Rattle.fr_cluster.specs.Setting.{Setting}
use Rattle.fr_history.specs.Offers.{is_on}
use Rattle.fr_air.specs.Files.{setting_in}
use Rattle.fr_air.specs.Lines.{ComesInside}
use Rattle.fr_air.specs.Sending.{sending_row_in}
use Rattle.fr_air.specs.declared.files.RunInputs.{RunInputs}
use Rattle.fr_air.specs.declared.reach.Reach.{Reach}
use Rattle.fr_air.specs.declared.turn.Air.{Air}

-- what a sender sends in each static slot on a channel comes to a receiver inside of the slot, and nothing is done to it
pub record ReachesOn (f : RunInputs) (cycle : ℕ) (sender receiver : NodeRow) (channel : Channel) : Type 0 where
  pub regular : (setting_in f).event cycle sender.node receiver.node channel ≡ Regular
  pub inside : ComesInside f.params sender receiver ((setting_in f).delay sender.node receiver.node channel cycle)

-- whether a node hears on a channel: it is not halted, and has the channel
abbrev pub listens : Setting → Channel → NodeRow → Bool
listens x channel receiver = not (is_halted receiver.state) && is_on x receiver.node channel

-- how many do
abbrev pub how_many_listen : Setting → Channel → List NodeRow → ℕ
how_many_listen x channel rows = count_by (listens x channel) rows

-- how many are known to
abbrev pub listening_on : Reach → Channel → ℕ
listening_on reach A = reach.on_a
listening_on reach B = reach.on_b

-- if the receiver is not halted
abbrev pub Reaches : RunInputs → ℕ → NodeRow → Channel → NodeRow → Type 0
Reaches f cycle sender channel receiver =
    is_halted receiver.state ≡ false → ReachesOn f cycle sender receiver channel

-- whether a node with this row sends on a channel: it is active, and has the channel
abbrev pub can_send : Setting → Channel → NodeRow → Bool
can_send x channel sender = is_active sender.state && is_on x sender.node channel

-- all of these receivers, on each channel on which the sender sends
abbrev pub ReachesAll : RunInputs → ℕ → List NodeRow → NodeRow → Type 0
ReachesAll f cycle receivers sender =
    (channel : Channel) → can_send (setting_in f) channel sender ≡ true → All (Reaches f cycle sender channel) receivers

-- rows of different nodes, in ascending order
pub record AreRowsApart (rows : List NodeRow) : Type 0 where
  pub ascending : AllPairs (λ a b. a.node < b.node) rows
  pub few : length rows ≤ 64

-- all that these nodes send comes to all of them inside of its slots, and so many of them hear on each channel
pub record IsWholeReach (f : RunInputs) (cycle : ℕ) (rows : List NodeRow) (reach : Reach) : Type 0 where
  pub apart : AreRowsApart rows
  pub all : All (ReachesAll f cycle rows) rows
  pub listening : (channel : Channel) → listening_on reach channel ≡ how_many_listen (setting_in f) channel rows

-- what is known of a cycle with these rows: nothing, where it is not whole
abbrev pub IsReach : RunInputs → ℕ → List NodeRow → Reach → Type 0
IsReach f cycle rows reach = reach.whole ≡ true → IsWholeReach f cycle rows reach

-- the sender of a frame on the air has this row among these
abbrev pub SendsAmong : RunInputs → Air → List NodeRow → NodeRow → Type 0
SendsAmong f air rows row = sending_row_in (setting_in f) rows air.sender.now.node air.turn.now.channel ≡ Some row
