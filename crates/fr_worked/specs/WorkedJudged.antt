-- A worked run whose first double cycle is judged by numbers of its own, which are less than those of sharp sync; what is then known
-- of the next one by what is heard, in ticks; and numbers that are judged far from sharp sync, and some that are not.
use Rattle.std.specs.Prelude.{◌≡◌, ℕ, Bool, false, true}
use Rattle.fr_bound.specs.Judged.{apart_through, known_after, IsJudgedDouble}
use Rattle.fr_bound.specs.declared.judging.Heard.{Heard}
use Rattle.fr_bound.specs.declared.judging.Heard.TheVariants as heard
use Rattle.fr_bound.specs.declared.judging.Known.{Known}
use Rattle.fr_runs.specs.Stated.{all_cycles}
use Rattle.fr_sharp.specs.JudgedSteps.{GoesOnJudged}
use Rattle.fr_sharp.specs.WorkedRun.{steady_cluster, steady_run, OfBytes, Said}
use Rattle.fr_runs.specs.SharpHistories.{IsKnownAt}

abbrev pub known_with : ℕ → ℕ → ℕ → Known
known_with starts lengths beyond = record { spread = record { starts = starts; lengths = lengths }; beyond = beyond }

-- what is known of the first double cycle of the worked run
abbrev pub worked_known : Known
worked_known = known_with 18_000_000 4_000_000 0

-- the next one, where all is heard without arbitrary nodes, beside them, and where anything may be lost; and how far macroticks lie
-- apart
abbrev pub WorkedNumbersGoOn : Type 0
WorkedNumbersGoOn =
    (known_after heard.Clean steady_cluster 0 worked_known ≡ known_with 17_001_700 7_000_698 0)
    × (known_after heard.Meeting steady_cluster 0 worked_known ≡ known_with 28_501_750 9_000_698 0)
    × (known_after heard.Poor steady_cluster 0 worked_known ≡ known_with 39_001_700 10_000_598 0)
    × (apart_through heard.Clean steady_cluster 0 worked_known ≡ 28_000_200)
    × (apart_through heard.Meeting steady_cluster 0 worked_known ≡ 29_501_850)
    × (apart_through heard.Poor steady_cluster 0 worked_known ≡ 40_001_800)

-- numbers that no double cycle in sharp sync has are judged too, and their lengths come back to the range by 999,901 ticks; starts for
-- which the third check fails are not, nor lengths that the rate limit cannot follow
abbrev pub far_known : Known
far_known = known_with 60_000_000 10_000_000 300_000_000

abbrev pub FarNumbersAreJudged : Type 0
FarNumbersAreJudged =
    IsJudgedDouble steady_cluster 0 worked_known × IsJudgedDouble steady_cluster 0 far_known
    × (known_after heard.Clean steady_cluster 0 far_known ≡ known_with 23_001_700 7_000_698 299_000_099)
    × (IsJudgedDouble steady_cluster 0 (known_with 120_000_000 4_000_000 0) → ⊥)
    × (IsJudgedDouble steady_cluster 0 (known_with 18_000_000 4_000_000 600_000_000) → ⊥)

-- of the run so much is known, without an arbitrary node and beside node 4 as one, whatever that says; and it goes on so
abbrev pub heard_beside : Bool → Heard
heard_beside false = heard.Clean
heard_beside true = heard.Meeting

abbrev pub WorkedRunGoesOn : Type 0
WorkedRunGoesOn =
    (said : Said) (beside : Bool) → OfBytes said
    → IsKnownAt (steady_run said beside) (all_cycles (steady_run said beside)) 0 worked_known
    × GoesOnJudged (heard_beside beside) (steady_run said beside) 0 (all_cycles (steady_run said beside)) 0 worked_known
