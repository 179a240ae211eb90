-- The offset term of each cycle of a run lies within its limit.
use Rattle.std.proofs.Common.{◌≡◌, ℕ, ◌==◌, Bool, true, false, Option, Some, None, ℤ, pos, neg_ℤ, ◌∷◌, sym, subst, arith}
use Rattle.std.specs.Prelude.{◌≤ℤ◌, if◌then◌else◌}
use Rattle.std.proofs.lemmas.Int.{ints}
use Rattle.std.proofs.lemmas.List.Elements.{All-contains}
use Rattle.fr_base.specs.Within.{IsWithin}
use Rattle.fr_base.specs.declared.node_row.NodeRow.{NodeRow}
use Rattle.fr_cluster.specs.Questions.{own_index}
use Rattle.fr_cluster.specs.Sane.{IsSane}
use Rattle.fr_cluster.specs.Setting.{Setting}
use Rattle.fr_cluster.specs.Values.{Values}
use Rattle.fr_cluster.specs.declared.names.ParamName.TheVariants as name
use Rattle.fr_cluster.proofs.Elements.{found}
use Rattle.fr_midpoint.specs.Midpoint.{midpoint_of}
use Rattle.fr_measure.specs.Deviations.{offset_values_by}
use Rattle.fr_correct.specs.Terms.{offset_term_at}
use Rattle.fr_correct.proofs.There.{term_lies_within}
use Rattle.fr_history.specs.Cycles.{Cycle, Cycles, told_of}
use Rattle.fr_history.specs.History.{row_of}
use Rattle.fr_history.specs.Rows.{is_corrected, offset_after}
use Rattle.fr_history.specs.Terms.{latest_devs, offset_term_in}
use Rattle.fr_runs.specs.Numbers.{HasDouble}
use Rattle.fr_seen.specs.RunRows.{IsTimedRun}
use Rattle.fr_seen.proofs.RunLaws.{cut_at, two_at}

pub limit_from : (p : Values) → IsSane p → pos 0 ≤ℤ p.offset_limit
limit_from p sane = let range = sane.ranges name.pOffsetCorrectionOut in omega (arith, ints, range.0)

none_within : (limit : ℤ) → pos 0 ≤ℤ limit → IsWithin limit (pos 0)
none_within limit from = record { low = below limit from; high = from }
  where
    below : (a : ℤ) → pos 0 ≤ℤ a → neg_ℤ a ≤ℤ pos 0
    below a h = omega (arith, ints)

term_within : (limit : ℤ) (mid : Option ℤ) → pos 0 ≤ℤ limit → IsWithin limit (offset_term_at limit mid).value
term_within limit None from = none_within limit from
term_within limit (Some mid) from = term_lies_within limit mid from

-- corrected or not
either_within : (limit value : ℤ) (corrected : Bool) → pos 0 ≤ℤ limit → IsWithin limit value → IsWithin limit (if corrected then value else pos 0)
either_within limit value true from within = within
either_within limit value false from within = none_within limit from

pub offset_within : (x : Setting) (h : Cycles) (double node : ℕ) (even odd : Cycle) (row : NodeRow) → IsTimedRun x h → HasDouble h double even odd
    → row_of odd.told.rows node ≡ Some row → IsWithin x.params.offset_limit row.offset
offset_within x h double node even odd row run has is =
    let p = x.params in
    let cut = cut_at h double even odd has in
    let two = two_at x h double even odd run has cut in
    let before = told_of (even ∷ cut.earlier) in
    let here = found (λ (r : NodeRow). r.node == node) odd.told.rows row is in
    let given = All-contains (λ (r : NodeRow). r.offset ≡ offset_after p before odd.told r) odd.told.rows row two.odd_runs.rows.offsets here.1 in
    let from = limit_from p run.sane in
    subst (IsWithin p.offset_limit) (sym given)
    (
    either_within p.offset_limit (offset_term_in p before odd.told.devs row.node).value (is_corrected before row) from
    (term_within p.offset_limit (midpoint_of (offset_values_by p (latest_devs before) odd.told.devs row.node (own_index p row.node))) from)
    )
