-- A double cycle in which a node without a key slot may hear nothing: it keeps its rate and its end, and is borne as one whose terms lie
-- within their limits.
use Rattle.std.specs.Prelude.{◌≡◌, ◌≤ℤ◌, ◌<◌, ℕ, ℤ, pos, Bool, true, false, List, [], ◌∷◌, All, Contains}
use Rattle.fr_base.specs.declared.Outcome.{Outcome}
use Rattle.fr_base.specs.declared.Outcome.TheVariants.{Within, Missing, Exceeded}
use Rattle.fr_base.specs.declared.state.State.TheVariants.{Active}
use Rattle.fr_cluster.specs.Setting.{Setting, correct_nodes}
use Rattle.fr_cluster.specs.Values.{amount}
use Rattle.fr_cluster.specs.declared.names.ParamName.TheVariants as name
use Rattle.fr_cluster.specs.declared.nodes.NodeSpec.{NodeSpec}
use Rattle.fr_correct.specs.declared.term.Term.{Term}
use Rattle.fr_history.specs.Cycles.{Cycle, Cycles, told_of}
use Rattle.fr_history.specs.Skew.{skew_at}
use Rattle.fr_history.specs.Terms.{status_in}
use Rattle.fr_precision.specs.Step.{Member}
use Rattle.fr_runs.specs.Links.{cycle_in}
use Rattle.fr_runs.specs.Numbers.{offset_term_told, rate_term_told}
use Rattle.fr_runs.specs.Rounds.{IsDoubleOf}
use Rattle.fr_runs.specs.SharpHistories.{KeepsApart}
use Rattle.fr_traffic.specs.Traffic.{is_deaf, none_lacks, traffic_of}

-- a term that is missing, as one within its limit; and a node without offset values, as one with its own value alone
abbrev pub borne_outcome : Outcome → Outcome
borne_outcome Within = Within
borne_outcome Missing = Within
borne_outcome Exceeded = Exceeded

abbrev pub borne_term : Term → Term
borne_term term = record { value = term.value; before = term.before; outcome = borne_outcome term.outcome }

abbrev pub borne_values : List ℤ → List ℤ
borne_values [] = pos 0 ∷ []
borne_values (value ∷ values) = value ∷ values

abbrev pub borne : Member → Member
borne node = record {
  even = node.even;
  odd = node.odd;
  offsets = borne_values node.offsets;
  rates = node.rates;
  offset_term = borne_term node.offset_term;
  rate_term = borne_term node.rate_term;
}

-- how a double cycle ends through losses: the terms of each correct node lie within their limits, or are missing where it has no value
-- of that kind; no row tells a cut; and each is active behind it
pub record EndsThrough (x : Setting) (double : ℕ) (earlier : Cycles) (even odd : Cycle) : Type 0 where
  pub offset_within :
      (node : NodeSpec) → Contains (correct_nodes x) node → is_deaf false (traffic_of x) double node ≡ false
      → (offset_term_told x even odd node).outcome ≡ Within
  pub offset_missing :
      (node : NodeSpec) → Contains (correct_nodes x) node → is_deaf false (traffic_of x) double node ≡ true
      → (offset_term_told x even odd node).outcome ≡ Missing
  pub rate_within :
      (node : NodeSpec) → Contains (correct_nodes x) node → is_deaf true (traffic_of x) double node ≡ false
      → (rate_term_told x even odd node).outcome ≡ Within
  pub rate_missing :
      (node : NodeSpec) → Contains (correct_nodes x) node → is_deaf true (traffic_of x) double node ≡ true
      → (rate_term_told x even odd node).outcome ≡ Missing
  pub uncut_even : All (λ row. row.cut ≡ 0) even.told.rows
  pub uncut_odd : All (λ row. row.cut ≡ 0) odd.told.rows
  pub active :
      (node : NodeSpec) → Contains (correct_nodes x) node
      → (status_in x.params (told_of (odd ∷ even ∷ earlier)) node.id).state ≡ Active

-- in a double cycle no corresponding macroticks lie further apart than this, in ticks, and it ends so
pub record KeepsThrough (x : Setting) (h : Cycles) (double apart : ℕ) : Type 0 where
  pub skew :
      (macrotick : ℕ) (is_odd : Bool) → macrotick < amount x.params name.gMacroPerCycle
      → skew_at x.params (told_of h) (cycle_in is_odd double) macrotick ≤ℤ pos apart
  pub ends : (earlier : Cycles) (even odd : Cycle) → IsDoubleOf h double earlier even odd → EndsThrough x double earlier even odd

-- where no node lacks values in it, no term is missing
abbrev pub ThroughIsApart : Type 0
ThroughIsApart =
    (x : Setting) (h : Cycles) (double apart : ℕ)
    → KeepsThrough x h double apart → none_lacks (traffic_of x) double ≡ true → KeepsApart x h double apart
