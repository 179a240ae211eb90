-- A node goes on fitting its cluster.
use Rattle.std.proofs.Common.{◌≡◌, ◌≢◌, ℕ, Bool, true, false, cond, List, get_or, replicate, Option, Some, None, ℤ, inl, inr, refl, ap, sym, ◌∙◌, pos, arith}
use Rattle.std.proofs.lemmas.Bool.{cases_lt, cond_both}
use Rattle.std.proofs.lemmas.List.{get_or-replicate, get_or_past}
use Rattle.fr_base.specs.declared.channel.Channel.{Channel}
use Rattle.fr_base.specs.declared.channel.Channel.TheVariants.{A, B}
use Rattle.std.proofs.lemmas.Int.{ints}
use Rattle.fr_base.specs.declared.node_row.NodeRow.{NodeRow}
use Rattle.fr_base.specs.Timed.{IsTimed}
use Rattle.fr_cluster.specs.Values.{Values}
use Rattle.fr_cluster.specs.declared.names.ParamName.TheVariants as name
use Rattle.fr_time.specs.Instant.{KeepsLimits}
use Rattle.fr_node.specs.Fits.{NodeFits}
use Rattle.fr_node.specs.View.{NodeView, node_row_of}
use Rattle.fr_cluster.specs.Questions.{index_in, key_index_of, own_index, own_key}
use Rattle.fr_time.specs.Cycles.{is_odd}
use Rattle.fr_measure.specs.Readings.{Readings, no_readings, reading}
use Rattle.fr_cluster.proofs.KeyIndexes.{index_is_own}

-- a column with nothing in it
abbrev empty_column : List (Option ℤ)
empty_column = replicate 15 None

none_there : (index : ℕ) → get_or empty_column index None ≡ None
none_there index = elim (cases_lt index 15) [
  | inl within ↦ get_or-replicate 15 index None None within
  | inr past ↦ get_or_past empty_column index None past
]

pub none_read : (index : ℕ) (odd : Bool) (channel : Channel) → reading no_readings index odd channel ≡ None
none_read index false A = none_there index
none_read index false B = none_there index
none_read index true A = none_there index
none_read index true B = none_there index

-- where an even cycle begins with nothing, what was not there is not there
pub still_none : (table new : Readings) (cycle index : ℕ) (odd : Bool) (channel : Channel) → new ≡ cond (is_odd cycle) table no_readings → reading table index odd channel ≡ None → reading new index odd channel ≡ None
still_none table new cycle index odd channel is none =
    ap (λ (t : Readings). reading t index odd channel) is
    ∙ cond_both (is_odd cycle) table no_readings (λ t. reading t index odd channel ≡ None) (λ kept. none) (λ cleared. none_read index odd channel)

-- a slot that is not a node's own key slot has another place
pub other_index : (p : Values) (id slot index at : ℕ) → own_index p id ≡ Some index → key_index_of p slot ≡ Some at → own_key p id ≢ Some slot → index ≢ at
other_index p id slot index at own there other same = among (own_key p id) refl own
  where
    among : (key : Option ℕ) → own_key p id ≡ key → index_in p key ≡ Some index → ⊥
    among None is nothing = cc
    among (Some key) is found = other (is ∙ ap Some (index_is_own p key slot index found (there ∙ ap Some (sym same))))

-- the row of a node without a correction is one of its cluster
pub plain_row : (p : Values) (node : NodeView) (row : NodeRow) → NodeFits p node → row ≡ node_row_of node → IsTimed row → KeepsLimits p row
plain_row p node row fits is timed =
    let limit = fits.sane.ranges name.pOffsetCorrectionOut in
    let none : row.offset ≡ pos 0 = ap (λ (r : NodeRow). r.offset) is in
    let same : row.rate ≡ node.rate = ap (λ (r : NodeRow). r.rate) is in
    record {
      timed = timed;
      rate = record { low = rw same fits.rate.low; high = rw same fits.rate.high };
      offset = record { low = omega (arith, ints, none, limit.0); high = omega (arith, ints, none, limit.0) };
    }
