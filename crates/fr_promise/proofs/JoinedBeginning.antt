-- A node that listens in a double cycle of a run that nodes join begins to follow behind it.
use Rattle.std.proofs.Common.{◌≡◌, ℕ, suc, ◌*◌, ◌==◌, true, cond, pos, Some, None, ◌∷◌, length, refl, ap, sym, ◌∙◌, subst}
use Rattle.std.specs.Prelude.{◌≤ℤ◌, Contains, option_and_then}
use Rattle.fr_base.specs.Event.Event.{Regular}
use Rattle.fr_base.specs.declared.channel.Channel.{Channel}
use Rattle.fr_base.specs.declared.state.State.TheVariants.{Active}
use Rattle.fr_cluster.specs.Questions.{own_key}
use Rattle.fr_cluster.specs.Setting.{Setting, correct_nodes}
use Rattle.fr_cluster.specs.declared.join.Join.{Join}
use Rattle.fr_cluster.specs.declared.nodes.NodeSpec.{NodeSpec}
use Rattle.fr_reception.specs.Listening.{kept_if, suffices}
use Rattle.fr_history.specs.Catching.{begins_with, caught_by_slot}
use Rattle.fr_history.specs.Standing.{row_nodes}
use Rattle.fr_history.specs.History.{row_for}
use Rattle.fr_runs.proofs.Rows.{each_row, has_row as row_there}
use Rattle.fr_runs.specs.Links.{IsCarried}
use Rattle.fr_runs.specs.References.{IsReference}
use Rattle.fr_runs.specs.SteadyRuns.{IsWhole}
use Rattle.fr_runs.proofs.Beginning.{arrives, caught_both, has_caught, same_test, HasCaught}
use Rattle.fr_runs.proofs.Catches.{caught_either, caught_from, reference_key}
use Rattle.fr_promise.specs.SharpJoined.{FollowedListenersBegin, IsReferenceCarried, JoinedListenersBegin}
use Rattle.fr_promise.specs.SharpJoining.{sharp_group_spread}
use Rattle.fr_promise.proofs.JoinedDoubles.{joined_part}
use Rattle.fr_runs.proofs.RowsSupplied.{timed_rows_from}
use Rattle.fr_promise.proofs.SharpCatches.{both_caught, reference_listened, IsOf}
use Rattle.fr_promise.proofs.SharpListened.{sharp_catches_suffice}

pub followed_listeners_begin : FollowedListenersBegin
unfolding begins_with
followed_listeners_begin x from flutter h double earlier even odd now beyond node join part have behind d takes g there at listens carries natural =
    let p = x.params in
    let s = timed_rows_from x from flutter h part double behind earlier even odd d in
    let counted = s.counted in
    let ref : IsReference x node join = have node join there at in
    let reference : NodeSpec = ref.reference in
    let slot : ℕ = ref.slot in
    let l = reference_listened x flutter beyond earlier even odd double node join s g.rows there ref in
    let key = reference_key x node join s.covered.sane ref in
    let carried : IsCarried x reference node double = carries ref in
    let channel : Channel = carried.channel in
    let even_regular : x.event (length earlier) reference.id node.id channel ≡ Regular = ap (λ (n : ℕ). x.event n reference.id node.id channel) counted ∙ carried.even in
    let odd_regular : x.event (suc (length earlier)) reference.id node.id channel ≡ Regular = ap (λ (n : ℕ). x.event (suc n) reference.id node.id channel) counted ∙ carried.odd in
    let early =
    arrives x (length earlier) even.told.rows reference node slot channel l.early carried.share
    (each_row (row_nodes x earlier) even.told.rows (λ row. row.state ≡ Active) reference s.two.even_rows.nodes l.among g.active_even)
    (row_there (row_nodes x earlier) even.told.rows reference s.two.even_rows.nodes l.among).number even_regular in
    let late =
    arrives x (suc (length earlier)) odd.told.rows reference node slot channel l.late carried.share
    (each_row (row_nodes x earlier) odd.told.rows (λ row. row.state ≡ Active) reference s.two.odd_rows.nodes l.among g.active_odd)
    (row_there (row_nodes x earlier) odd.told.rows reference s.two.odd_rows.nodes l.among).number odd_regular in
    let caught : HasCaught x (length earlier) even odd node.id slot =
    has_caught x (length earlier) even odd node.id slot channel (caught_from x (length earlier) node.id slot channel early.at late.at)
    (caught_both x (length earlier) even odd node.id slot channel early late) in
    let of : IsOf x flutter beyond earlier even odd reference node slot caught.caught =
    caught_either x (length earlier) even odd node.id slot (IsOf x flutter beyond earlier even odd reference node slot) (both_caught x flutter beyond earlier even odd double reference node slot l)
    caught.caught caught.is in
    let Starts : ℕ → Type 0 = λ id. pos 0 ≤ℤ (row_for even.told.rows id).start in
    let enough : suffices p caught.caught ≡ true =
    sharp_catches_suffice p flutter beyond caught.caught (row_for even.told.rows reference.id) (row_for odd.told.rows reference.id) s.covered.sane takes of.caught
    (subst Starts (sym ref.named) natural) in
    let twice : length earlier ≡ 2 * join.double = counted ∙ ap (λ (n : ℕ). 2 * n) (sym listens) in
    let now : (length earlier == 2 * join.double) ≡ true = same_test (length earlier) (2 * join.double) twice in
    let begun : begins_with x (odd ∷ even ∷ earlier) node.id join ≡ Some caught.caught =
    ap (λ b. cond b (option_and_then (caught_by_slot x (length earlier) even odd node.id) (own_key p join.reference)) None) now
    ∙ ap (option_and_then (caught_by_slot x (length earlier) even odd node.id)) key
    ∙ ap (option_and_then (kept_if p)) caught.is
    ∙ ap (λ b. cond b (Some caught.caught) None) enough in
    rw begun refl

-- where all is heard so are the frames of its reference
pub whole_carries : (x : Setting) (double : ℕ) (node : NodeSpec) (join : Join) → IsWhole x double → Contains (correct_nodes x) node → IsReferenceCarried x node join double
whole_carries x double node join whole there ref =
    whole ref.reference node ref.slot (record { sends = ref.correct; hears = there; key = ref.key; other = ref.other })

pub joined_listeners_begin : JoinedListenersBegin
joined_listeners_begin beside x from flutter h double earlier even odd beyond node join w behind d takes g there at listens natural =
    let part = joined_part beside x from flutter h w in
    let within = (timed_rows_from x from flutter h part double behind earlier even odd d).within in
    followed_listeners_begin x from flutter h double earlier even odd (sharp_group_spread beside x.params flutter) beyond node join part w.referenced behind d takes g there at listens
    (whole_carries x double node join (w.covered.links double behind within) there) natural
