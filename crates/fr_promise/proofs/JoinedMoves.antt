-- A run that nodes join: a double cycle and the next one, as a step in which no term is cut.
use Rattle.std.proofs.Common.{ℕ, suc, ℤ, ◌∷◌, length, arith}
use Rattle.fr_base.specs.declared.node_row.NodeRow.{NodeRow}
use Rattle.fr_cluster.specs.Setting.{Setting}
use Rattle.fr_cluster.specs.Values.{Values}
use Rattle.fr_precision.specs.Round.{Hearer}
use Rattle.fr_history.specs.Cycles.{Cycle, Cycles}
use Rattle.fr_runs.specs.Hearers.{member_from}
use Rattle.fr_runs.specs.References.{HaveReferences}
use Rattle.fr_runs.specs.Succession.{IsSucceeded}
use Rattle.fr_runs.proofs.Moved.{IsUncutStep, MicrosFit, Moves}
use Rattle.fr_precision.specs.Lengths.{IsNextEven}
use Rattle.fr_promise.specs.SharpJoining.{GroupSpread}
use Rattle.fr_promise.specs.SharpJoined.{IsFollowedDouble, IsFollowedKept}
use Rattle.fr_promise.specs.SharpListening.{RateTakesIn}
use Rattle.fr_runs.proofs.RowsSupplied.{proper_in, steady_in, LawfulRows}

-- a double cycle whose group comes to so much, and the next one
pub record IsFollowedStep (x : Setting) (flutter : ℕ) (now to : GroupSpread) (apart : ℕ) (reach beyond next : ℤ) (h : Cycles) (even odd even2 odd2 : Cycle) (double : ℕ) : Type 0 where
  pub joined : IsFollowedDouble x now beyond h even odd double
  pub referenced : HaveReferences x
  pub rows : LawfulRows x flutter h even odd double
  pub later : LawfulRows x flutter (odd ∷ even ∷ h) even2 odd2 (suc double)
  pub succeeded : IsSucceeded x h even odd double
  pub joins : RateTakesIn x.params flutter beyond
  pub kept : IsFollowedKept x flutter to apart reach beyond next h even odd double

pub next_even_of : (p : Values) (n : Hearer) (even odd : NodeRow) → Moves p n even odd → IsNextEven p n.odd (member_from p n).rate_term even
next_even_of p n even odd is = record { rate = is.next.even_rate; micro = is.next.even_micro; steady = is.next.even_steady }

module _
    (x : Setting) (flutter : ℕ) (now to : GroupSpread) (apart : ℕ) (reach beyond next : ℤ) (h : Cycles) (even odd even2 odd2 : Cycle) (double : ℕ)
    (s : IsFollowedStep x flutter now to apart reach beyond next h even odd even2 odd2 double) where
  -- clocks run by their laws
  micros : MicrosFit x double
  micros =
      let more = s.later.within in
      let covered = s.rows.covered in
      record {
        proper =
            λ node cycle row correct from to is.
            let proper = proper_in x double flutter node cycle row.length covered correct from (omega (arith, to, more)) is in
            record { least = proper.0; most = proper.1 };
        steady = λ node cycle row later correct from to is later_is. steady_in x double flutter node cycle row.length later.length covered correct from (omega (arith, to, more)) is later_is;
      }

  pub uncut_by : IsUncutStep x h even odd even2 odd2 double
  uncut_by = record {
    micros = micros;
    counted = s.rows.counted;
    two = s.rows.two;
    next = s.later.two;
    succeeded = s.succeeded;
    active_even = s.joined.active_even;
    active_odd = s.joined.active_odd;
    fresh = s.joined.fresh;
    offset = s.kept.uncut;
    rate = λ node here. (s.kept.range node here).uncut;
  }
