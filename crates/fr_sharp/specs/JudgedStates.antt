-- A state of what is known that is carried from one double cycle to the next: met with what is seen of each, and stepped where what was
-- met is judged. What is met is then known of the history, and a judged double cycle goes on so.
use Rattle.std.specs.Prelude.{◌≡◌, ◌+◌, ◌<◌, ◌≤◌, ℕ, suc, Option, Some}
use Rattle.fr_cluster.specs.Setting.{Setting}
use Rattle.fr_cluster.specs.Values.{Values}
use Rattle.fr_bound.specs.Judged.{known_after, met_with, IsJudgedDouble}
use Rattle.fr_bound.specs.declared.judging.Heard.{Heard}
use Rattle.fr_bound.specs.declared.judging.Known.{Known}
use Rattle.fr_history.specs.Cycles.{Cycles}
use Rattle.fr_sharp.specs.JudgedSteps.{GoesOnJudged, IsHeardIn}
use Rattle.fr_runs.specs.SharpHistories.{IsKnownAt, IsStatedRunFrom}

-- what is known of one is the step of what was met before it, and that is judged
pub record IsSteppedFrom (p : Values) (flutter : ℕ) (what : Heard) (before : Option Known) (next : Known) : Type 0 where
  pub met : Known
  pub is : before ≡ Some met
  pub judged : IsJudgedDouble p flutter met
  pub stepped : next ≡ known_after what p flutter met

-- such a state, by double cycle, with what is heard in each and what is seen of each; it may end and begin anew
abbrev pub CarriesKnown : Values → ℕ → (ℕ → Heard) → (ℕ → Option Known) → (ℕ → Option Known) → Type 0
CarriesKnown p flutter what seen known =
    (k : ℕ) (next : Known) → known (suc k) ≡ Some next → IsSteppedFrom p flutter (what k) (met_with (known k) (seen k)) next

-- of the double cycles of a history from one on: what is known of the first, what is seen of each, and what is heard in each
pub record AreKnownFrom (x : Setting) (h : Cycles) (from : ℕ) (what : ℕ → Heard) (seen known : ℕ → Option Known) : Type 0 where
  pub first : (some : Known) → known 0 ≡ Some some → IsKnownAt x h from some
  pub each : (k : ℕ) (some : Known) → from + k < x.doubles → seen k ≡ Some some → IsKnownAt x h (from + k) some
  pub heard : (k : ℕ) → from + k < x.doubles → IsHeardIn (what k) x (from + k)

abbrev pub CarriedIsKnown : Type 0
CarriedIsKnown =
    (x : Setting) (from flutter : ℕ) (h : Cycles) (double : ℕ) (what : ℕ → Heard) (seen known : ℕ → Option Known)
    → IsStatedRunFrom x from flutter h → from ≤ double → CarriesKnown x.params flutter what seen known → AreKnownFrom x h double what seen known
    → (k : ℕ) (met : Known) → double + k < x.doubles → met_with (known k) (seen k) ≡ Some met
    → IsKnownAt x h (double + k) met × (IsJudgedDouble x.params flutter met → GoesOnJudged (what k) x flutter h (double + k) met)
