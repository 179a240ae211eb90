-- The law of `within`: exactly where each double cycle from the first judged one on is judged, and all rows of these but the last say so.
use Rattle.std.specs.Prelude.{◌≡◌, true, false, All, List, [], ◌∷◌, ◌++◌}
use Rattle.std.specs.List.{flat_map}
use Rattle.fr_cluster.specs.Values.{Values}
use Rattle.fr_log.specs.View.{LogView}
use Rattle.fr_observe.specs.declared.says.Says.{Says}
use Rattle.fr_observe.specs.declared.says.Says.TheVariants.{Within}
use Rattle.fr_findings.specs.Outcomes.{DoubleStands, log_standings}
use Rattle.fr_findings.specs.Verdict.{verdict_of}
use Rattle.fr_findings.specs.declared.progress.Reach.{Reach}
use Rattle.fr_findings.specs.declared.verdict.Partly.{Partly}
use Rattle.fr_findings.specs.declared.verdict.Verdict.TheVariants as verdict

-- behind double cycles that are not judged come some that are, to the end; each of their rows says within but the last, which no double
-- cycle behind it tells
pub record AllSayWithin (told : List DoubleStands) : Type 0 where
  pub before : List DoubleStands
  pub first : DoubleStands
  pub others : List DoubleStands
  pub parts : told ≡ before ++ (first ∷ others)
  pub unjudged : All (λ d. d.standing.is_judged ≡ false) before
  pub judged : All (λ d. d.standing.is_judged ≡ true) (first ∷ others)
  pub front : List Says
  pub last : Says
  pub rows : flat_map (λ d. d.says) (first ∷ others) ≡ front ++ (last ∷ [])
  pub within : All (λ says. says ≡ Within) front
  pub untold : last ≡ Within → ⊥

abbrev pub WithinSaysWithin : Type 0
WithinSaysWithin =
    (p : Values) (l : LogView) (reach : Reach) → verdict_of p l ≡ verdict.Within reach → AllSayWithin (log_standings p l)

-- and where the verdict is partly it is not so
abbrev pub PartlyIsElse : Type 0
PartlyIsElse = (p : Values) (l : LogView) (part : Partly) → verdict_of p l ≡ verdict.Partly part → AllSayWithin (log_standings p l) → ⊥
