-- What a node that joins catches of its reference in a run whose delays flutter little.
use Rattle.std.proofs.Common.{◌≡◌, ℕ, suc, ◌*◌, ◌<◌, ◌≤◌, ◌==◌, true, false, ℤ, pos, ◌-ℤ◌, Some, ◌∷◌, length, refl, ap, sym, ◌∙◌, subst, arith}
use Rattle.std.specs.Prelude.{Contains}
use Rattle.fr_base.specs.declared.channel.Channel.{Channel}
use Rattle.fr_cluster.specs.Sane.{IsSane}
use Rattle.fr_cluster.specs.Setting.{Setting, correct_nodes}
use Rattle.fr_cluster.specs.declared.nodes.NodeSpec.{NodeSpec}
use Rattle.fr_time.specs.Position.{grid_for}
use Rattle.fr_reception.specs.Listening.{Caught}
use Rattle.fr_history.specs.Offers.{is_on}
use Rattle.fr_history.specs.Catching.{begins_with, caught_arrival}
use Rattle.fr_cluster.specs.declared.join.Join.{Join}
use Rattle.fr_history.specs.Cycles.{Cycle, Cycles}
use Rattle.fr_history.specs.Standing.{has_row, has_row_by, row_nodes}
use Rattle.fr_cluster.proofs.Elements.{kept_filtered}
use Rattle.fr_runs.proofs.Rows.{each_row, has_row as row_there}
use Rattle.fr_runs.proofs.Nodes.{IsKeySlot, correct_node, node_there}
use Rattle.fr_base.specs.Within.{IsWithin}
use Rattle.fr_bound.specs.Sync.{cycle_length_of}
use Rattle.fr_time.specs.Instant.{instant_of}
use Rattle.fr_time.specs.Slots.{action_point_of}
use Rattle.fr_precision.specs.Reception.{IsDelay}
use Rattle.fr_history.specs.History.{row_for}
use Rattle.fr_runs.specs.Links.{IsLinked, Share}
use Rattle.fr_runs.specs.References.{HaveReferences, IsReference}
use Rattle.fr_runs.proofs.Catches.{begun_with, came, caught_from, reference_key, Listens, listened_slot}
use Rattle.fr_precision.specs.Lengths.{IsAboutCycle}
use Rattle.fr_promise.specs.SharpListening.{IsCaughtSharply}
use Rattle.fr_promise.specs.SharpFollowing.{AreRowsAbout, CatchesAreSharp, IsCaughtOf}
use Rattle.fr_runs.proofs.Links.{on_channel}
use Rattle.fr_runs.proofs.RowsSupplied.{lawful_rows_from, row_regular, LawfulRows}

-- on a channel that both have
share_of : (x : Setting) (reference node : NodeSpec) (channel : Channel) → IsSane x.params → Contains (correct_nodes x) reference → Contains (correct_nodes x) node → is_on x reference.id channel ≡ true
    → is_on x node.id channel ≡ true → Share reference node channel
share_of x reference node channel sane sends hears sent heard = record {
  by_sender = sym (on_channel x reference.id reference channel refl (node_there x.params reference sane (correct_node x reference sends).there)) ∙ sent;
  by_receiver = sym (on_channel x node.id node channel refl (node_there x.params node sane (correct_node x node hears).there)) ∙ heard;
}

-- ---- both

-- a node listens to a reference in a double cycle whose lengths lie so
pub record ListensIn (x : Setting) (flutter : ℕ) (beyond : ℤ) (h : Cycles) (even odd : Cycle) (double : ℕ) (reference node : NodeSpec) (slot : ℕ) : Type 0 where
  pub rows : LawfulRows x flutter h even odd double
  pub lie : AreRowsAbout x beyond even
  pub among : Contains (row_nodes x h) reference
  pub key : reference.key ≡ Some slot
  pub there : Contains (correct_nodes x) node
  pub linked : IsLinked x reference node slot
  pub early : Listens x (length h) even.told.rows reference node slot
  pub late : Listens x (suc (length h)) odd.told.rows reference node slot

-- it was caught of the reference's rows, and has the node's own lengths
pub record IsOf (x : Setting) (flutter : ℕ) (beyond : ℤ) (h : Cycles) (even odd : Cycle) (reference node : NodeSpec) (slot : ℕ) (c : Caught) : Type 0 where
  pub slot_is : slot ≡ c.slot
  pub caught : IsCaughtSharply x.params flutter beyond c (row_for even.told.rows reference.id) (row_for odd.told.rows reference.id)
  pub even_length : c.even_length ≡ x.microtick node.id (length h)
  pub odd_length : c.odd_length ≡ x.microtick node.id (suc (length h))

module _ (x : Setting) (flutter : ℕ) (beyond : ℤ) (h : Cycles) (even odd : Cycle) (double : ℕ) (reference node : NodeSpec) (slot : ℕ) (l : ListensIn x flutter beyond h even odd double reference node slot) where
  pub both_caught : (channel : Channel) (early late : ℤ)
      → caught_arrival x (length h) even.told.rows node.id slot channel ≡ Some early → caught_arrival x (suc (length h)) odd.told.rows node.id slot channel ≡ Some late
      → IsOf x flutter beyond h even odd reference node slot (caught_from x (length h) node.id slot channel early late)
  unfolding caught_arrival
  both_caught channel early late first second =
      let s = l.rows in
      let counted = s.counted in
      let within = s.within in
      let covered = s.covered in
      let less : length h < 2 * x.doubles = omega (arith, counted, within) in
      let more : suc (length h) < 2 * x.doubles = omega (arith, counted, within) in
      let behind : 2 * double ≤ length h = omega (arith, counted) in
      let after : 2 * double ≤ suc (length h) = omega (arith, counted) in
      let from = row_there (row_nodes x h) even.told.rows reference s.two.even_rows.nodes l.among in
      let from_odd = row_there (row_nodes x h) odd.told.rows reference s.two.odd_rows.nodes l.among in
      let slots : IsKeySlot x.params slot = listened_slot x (length h) even.told.rows reference node slot l.early in
      let one = came x (length h) even.told.rows reference node slot channel false early l.early from.number first in
      let other = came x (suc (length h)) odd.told.rows reference node slot channel true late l.late from_odd.number second in
      let share = share_of x reference node channel covered.sane l.linked.sends l.there one.sends one.hears in
      let delay : ℕ → ℤ = λ n. x.delay reference.id node.id channel n in
      let Flutters : ℕ → Type 0 = λ n. IsWithin (pos flutter) (delay (suc n) -ℤ delay n) in
      let flutters : Flutters (length h) = subst Flutters (sym counted) (covered.flutters reference node slot channel double l.linked share (omega arith) within) in
      let Early : ℤ → Type 0 = λ v. IsWithin (pos flutter) (delay (suc (length h)) -ℤ v) in
      let Late : ℤ → Type 0 = λ v. IsWithin (pos flutter) (v -ℤ (early -ℤ instant_of (grid_for x.params) (row_for even.told.rows reference.id) false (pos (action_point_of x.params slot)))) in
      record {
        slot_is = refl;
        caught = record {
          slot_from = slots.from;
          slot_to = slots.to;
          regular = row_regular x flutter h even odd double s l.lie.rates reference l.among;
          about = each_row (row_nodes x h) even.told.rows (λ row. IsAboutCycle x.params beyond (cycle_length_of x.params row)) reference s.two.even_rows.nodes l.among l.lie.about;
          delay = subst (IsDelay x.params channel) (sym other.delay) (covered.delays reference node slot channel (suc (length h)) l.linked share after more);
          flutters = subst Late (sym other.delay) (subst Early (sym one.delay) flutters);
          even_least = covered.least node (length h) l.there behind less;
          even_most = covered.most node (length h) l.there behind less;
          odd_least = covered.least node (suc (length h)) l.there after more;
          odd_most = covered.most node (suc (length h)) l.there after more;
          steady = covered.changes node (length h) l.there behind more;
        };
        even_length = refl;
        odd_length = refl;
      }

-- ---- the reference of a node that joins

pub reference_listened : (x : Setting) (flutter : ℕ) (beyond : ℤ) (h : Cycles) (even odd : Cycle) (double : ℕ) (node : NodeSpec) (join : Join)
    → LawfulRows x flutter h even odd double → AreRowsAbout x beyond even → Contains (correct_nodes x) node → (ref : IsReference x node join)
    → ListensIn x flutter beyond h even odd double ref.reference node ref.slot
reference_listened x flutter beyond h even odd double node join s lie there ref =
    let reference = ref.reference in
    let counted = s.counted in
    let within = s.within in
    let has : has_row x h reference.id ≡ true = ap (has_row_by x h reference.id) ref.stays in
    let among : Contains (row_nodes x h) reference = kept_filtered (λ (n : NodeSpec). has_row x h n.id) (correct_nodes x) reference ref.correct has in
    let linked : IsLinked x reference node ref.slot = record { sends = ref.correct; hears = there; key = ref.key; other = ref.other } in
    let sends_on = λ (channel : Channel). on_channel x reference.id reference channel refl (node_there x.params reference s.covered.sane (correct_node x reference ref.correct).there) in
    let hears_on = λ (channel : Channel). on_channel x node.id node channel refl (node_there x.params node s.covered.sane (correct_node x node there).there) in
    let delays = λ (cycle : ℕ) (late : 2 * double ≤ cycle) (less : cycle < 2 * x.doubles) (channel : Channel) (sends : is_on x reference.id channel ≡ true) (hears : is_on x node.id channel ≡ true).
    s.covered.delays reference node ref.slot channel cycle linked (record { by_sender = sym (sends_on channel) ∙ sends; by_receiver = sym (hears_on channel) ∙ hears }) late less in
    record {
      rows = s;
      lie = lie;
      among = among;
      key = ref.key;
      there = there;
      linked = linked;
      early = record {
        sane = s.covered.sane;
        sends = ref.correct;
        hears = there;
        key = ref.key;
        other = ref.other;
        row = (row_there (row_nodes x h) even.told.rows reference s.two.even_rows.nodes among).is;
        delays = delays (length h) (omega (arith, counted)) (omega (arith, counted, within));
      };
      late = record {
        sane = s.covered.sane;
        sends = ref.correct;
        hears = there;
        key = ref.key;
        other = ref.other;
        row = (row_there (row_nodes x h) odd.told.rows reference s.two.odd_rows.nodes among).is;
        delays = delays (suc (length h)) (omega (arith, counted)) (omega (arith, counted, within));
      };
    }

pub caught_at : (x : Setting) (flutter : ℕ) (beyond : ℤ) (h : Cycles) (even odd : Cycle) (double : ℕ) (node : NodeSpec) (join : Join) (c : Caught)
    → LawfulRows x flutter h even odd double → AreRowsAbout x beyond even → HaveReferences x → Contains (correct_nodes x) node → x.join node.id ≡ Some join
    → begins_with x (odd ∷ even ∷ h) node.id join ≡ Some c → IsCaughtOf x flutter beyond h even odd node join c
unfolding begins_with
caught_at x flutter beyond h even odd double node join c s lie r there at is =
    let ref : IsReference x node join = r node join there at in
    let l = reference_listened x flutter beyond h even odd double node join s lie there ref in
    let key = reference_key x node join s.covered.sane ref in
    let of : IsOf x flutter beyond h even odd ref.reference node ref.slot c =
    begun_with x (length h) even odd node.id ref.slot (IsOf x flutter beyond h even odd ref.reference node ref.slot)
    (both_caught x flutter beyond h even odd double ref.reference node ref.slot l) join.reference c (length h == 2 * join.double) key is in
    record {
      reference = ref.reference;
      named = ref.named;
      among = l.among;
      key = ref.key ∙ ap (λ (s : ℕ). Some s) of.slot_is;
      caught = of.caught;
      even_length = of.even_length;
      odd_length = of.odd_length;
    }

pub catches_are_sharp : CatchesAreSharp
catches_are_sharp x from flutter h earlier even odd double beyond node join c w late d r lie there at is =
    caught_at x flutter beyond earlier even odd double node join c (lawful_rows_from x from flutter h w double late earlier even odd d) lie r there at is
