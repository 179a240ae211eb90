-- The senders of a log, as rows of its text: of each how many frames were seen on each of its channels, the first and the
-- last cycle with one, and how many cycles of the log have none.
use Rattle.std.specs.Prelude.{ℕ, ◌+◌, ◌-◌, ◌*◌, nat_le, length, Bool, true, false, List, [], ◌∷◌, ◌++◌, codes, Option, Some, None, is_none, ◌==◌, ◌&&◌, if◌then◌else◌}
use Rattle.std.specs.Fmt.{decimal}
use Rattle.std.specs.List.{count_by, find, flat_map, fold, range_with_len, slice_get, sum_by}
use Rattle.std.specs.Option.{option_map}
use Rattle.fr_base.specs.Channels.{letter}
use Rattle.fr_base.specs.Rows.{channel_rank}
use Rattle.fr_base.specs.declared.channel.Channel.{Channel}
use Rattle.fr_base.specs.declared.channel.Channel.TheVariants.{A, B}
use Rattle.fr_cluster.specs.Values.{Values}
use Rattle.fr_cluster.specs.declared.nodes.NodeSpec.{NodeSpec}
use Rattle.fr_log.specs.View.{LogView}
use Rattle.fr_sightings.specs.Senders.{double_of, first_stamp, own_slot, sightings_in}
use Rattle.fr_sightings.specs.declared.sighting.Sighting.{Sighting}
use Rattle.fr_observe.specs.Observing.{known_count, row}

-- whether a sighting is that of a node on a channel
abbrev pub is_from : ℕ → Channel → Sighting → Bool
is_from node ch s = (s.node == node) && (channel_rank s.channel == channel_rank ch)

-- how many there are, and the cycles of the first and of the last
unfoldable pub frames_from : List Sighting → ℕ → Channel → ℕ
frames_from seen node ch = count_by (is_from node ch) seen

unfoldable pub first_frame_from : List Sighting → ℕ → Channel → Option ℕ
first_frame_from seen node ch = option_map (λ s. s.number) (find (is_from node ch) seen)

abbrev pub later_frame_from : ℕ → Channel → Option ℕ → Sighting → Option ℕ
later_frame_from node ch last s = if is_from node ch s then Some s.number else last

unfoldable pub last_frame_from : List Sighting → ℕ → Channel → Option ℕ
last_frame_from seen node ch = fold (later_frame_from node ch) None seen

-- a cycle of the log, from that of its first sighting to that of its last, has none
abbrev pub is_of_log : ℕ → ℕ → ℕ → Bool
is_of_log first last cycle = nat_le first cycle && nat_le cycle last

abbrev pub lacks_in : ℕ → ℕ → List Sighting → ℕ → Channel → ℕ → ℕ
lacks_in first last here node ch cycle =
    if is_of_log first last cycle && is_none (first_stamp here node ch cycle) then 1 else 0

-- how many such cycles there are: of a double cycle, of some double cycles, and of those from the first sighting to the last
unfoldable pub lacks_both : ℕ → ℕ → List Sighting → ℕ → Channel → ℕ → ℕ
lacks_both first last here node ch double =
    lacks_in first last here node ch (2 * double) + lacks_in first last here node ch (2 * double + 1)

abbrev pub lacks_at : ℕ → ℕ → List Sighting → ℕ → Channel → ℕ → ℕ
lacks_at first last seen node ch double = lacks_both first last (sightings_in seen double) node ch double

unfoldable pub missed_among : ℕ → ℕ → List Sighting → ℕ → Channel → List ℕ → ℕ
missed_among first last seen node ch doubles = sum_by (lacks_at first last seen node ch) doubles

abbrev pub missed_by : Option Sighting → Option Sighting → List Sighting → ℕ → Channel → ℕ
missed_by None last seen node ch = 0
missed_by (Some first) None seen node ch = 0
missed_by (Some first) (Some last) seen node ch =
    missed_among first.number last.number seen node ch
    (range_with_len (double_of first) (double_of last + 1 - double_of first))

unfoldable pub missed_of : List Sighting → ℕ → Channel → ℕ
missed_of seen node ch = missed_by (slice_get seen 0) (slice_get seen (length seen - 1)) seen node ch

unfoldable pub census_row : List Sighting → ℕ → Channel → List ℕ
census_row seen node ch =
    row (codes "sender")
    (
    decimal node ∷ letter ch ∷ decimal (frames_from seen node ch) ∷ known_count (first_frame_from seen node ch)
    ∷ known_count (last_frame_from seen node ch) ∷ decimal (missed_of seen node ch) ∷ [] ∷ []
    )

-- each correct node with a key slot, on each of its channels
abbrev pub census_row_if : List Sighting → ℕ → Channel → Bool → List ℕ
census_row_if seen node ch false = []
census_row_if seen node ch true = census_row seen node ch

abbrev pub own_rows : List Sighting → NodeSpec → Option ℕ → List ℕ
own_rows seen node None = []
own_rows seen node (Some slot) = census_row_if seen node.id A node.on_a ++ census_row_if seen node.id B node.on_b

unfoldable pub census_rows : LogView → List Sighting → NodeSpec → List ℕ
census_rows l seen node = own_rows seen node (own_slot l node)

unfoldable pub census_text : Values → LogView → List Sighting → List ℕ
census_text p l seen = flat_map (census_rows l seen) p.nodes
