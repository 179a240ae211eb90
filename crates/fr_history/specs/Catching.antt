-- What a listening node catches of its reference in two cycles, and what it begins to follow with.
use Rattle.std.specs.Prelude.{◌≡◌, ℕ, suc, ◌*◌, ◌==◌, pos, ℤ, true, not, ◌||◌, List, [], ◌∷◌, length, Option, Some, None, option_and_then, if◌then◌else◌}
use Rattle.fr_base.specs.declared.channel.Channel.{Channel}
use Rattle.fr_base.specs.declared.channel.Channel.TheVariants.{A, B}
use Rattle.fr_base.specs.declared.node_row.NodeRow.{NodeRow}
use Rattle.fr_base.specs.declared.state.State.TheVariants.{Passive}
use Rattle.fr_cluster.specs.Questions.{own_key}
use Rattle.fr_reception.specs.Listening.{Caught, caught_by, first_or, good_arrival, kept_if}
use Rattle.fr_reception.specs.Offers.{Offer}
use Rattle.fr_time.specs.Senders.{sender_of}
use Rattle.fr_time.specs.declared.senders.Sending.{Sending}
use Rattle.fr_history.specs.History.{row_of}
use Rattle.fr_history.specs.Offers.{active_offer, is_on}
use Rattle.fr_cluster.specs.declared.join.Join.{Join}
use Rattle.fr_cluster.specs.Setting.{Setting}
use Rattle.fr_history.specs.Cycles.{Cycle, Cycles}

-- the row that stands for a listening node, which has no clock yet: what a correct node offers to it asks for its number
-- alone
abbrev pub listening_row : ℕ → NodeRow
listening_row node =
    record { node = node; start = pos 0; length = pos 0; rate = pos 0; offset = pos 0; state = Passive; cut = 0 }

-- what the sender of a slot offers to a listening node, where it is another node and a correct one; nothing that an arbitrary
-- node says is offered to it
abbrev pub sender_offers : Setting → ℕ → List NodeRow → ℕ → ℕ → Channel → Sending → Option Offer
sender_offers x cycle rows node slot channel sending =
    if (sending.node == node) || x.is_arbitrary sending.node then None
    else active_offer x cycle sending (row_of rows sending.node) (listening_row node) slot channel

-- what is offered to a listening node in a slot of a cycle on a channel: nothing where it has not the channel
abbrev pub listener_offer : Setting → ℕ → List NodeRow → ℕ → ℕ → Channel → Option Offer
listener_offer x cycle rows node slot channel =
    if not (is_on x node channel) then None
    else option_and_then (sender_offers x cycle rows node slot channel) (sender_of x.params slot cycle)

-- the arrival of a good offer of the reference, in its key slot in a cycle on a channel, by the rows of that cycle
unfoldable pub caught_arrival : Setting → ℕ → List NodeRow → ℕ → ℕ → Channel → Option ℤ
caught_arrival x cycle rows node slot channel =
    option_and_then (good_arrival slot) (listener_offer x cycle rows node slot channel)

-- so in a slot of an arbitrary node nothing is caught, whatever it says
abbrev pub ArbitraryNodesAreNotCaught : Type 0
ArbitraryNodesAreNotCaught =
    (x : Setting) (cycle : ℕ) (rows : List NodeRow) (node slot : ℕ) (channel : Channel) (sending : Sending)
    → sender_of x.params slot cycle ≡ Some sending → x.is_arbitrary sending.node ≡ true
    → caught_arrival x cycle rows node slot channel ≡ None

-- both arrivals on a channel, if both cycles have one; the cycle is the even one
unfoldable pub caught_in_run : Setting → ℕ → Cycle → Cycle → ℕ → ℕ → Channel → Option Caught
caught_in_run x cycle even odd node slot channel =
    caught_by slot channel (x.microtick node cycle) (x.microtick node (suc cycle))
    (caught_arrival x cycle even.told.rows node slot channel) (caught_arrival x (suc cycle) odd.told.rows node slot channel)

-- on channel A, or else on channel B
abbrev pub caught_of : Setting → ℕ → Cycle → Cycle → ℕ → ℕ → Option Caught
caught_of x cycle even odd node slot =
    first_or (caught_in_run x cycle even odd node slot A) (caught_in_run x cycle even odd node slot B)

-- the same where a node begins to follow with it
abbrev pub caught_by_slot : Setting → ℕ → Cycle → Cycle → ℕ → ℕ → Option Caught
caught_by_slot x cycle even odd node slot = option_and_then (kept_if x.params) (caught_of x cycle even odd node slot)

-- what a node begins to follow with behind some cycles: they end with the double cycle in which it listens
unfoldable pub begins_with : Setting → Cycles → ℕ → Join → Option Caught
begins_with x [] node join = None
begins_with x (odd ∷ []) node join = None
begins_with x (odd ∷ even ∷ h) node join =
    if length h == 2 * join.double
    then option_and_then (caught_by_slot x (length h) even odd node) (own_key x.params join.reference)
    else None
