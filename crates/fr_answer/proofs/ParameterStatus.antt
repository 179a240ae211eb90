-- A parameter file defines one status, whatever is asked of it.
use Rattle.std.proofs.Common.{◌≡◌, ℕ, ◌≤◌, List, inl, refl}
use Rattle.fr_bound.specs.Settling.{most_stated}
use Rattle.fr_cluster.specs.Values.{Values}
use Rattle.fr_params.specs.Files.{params_file}
use Rattle.fr_params.specs.Told.{params_says}
use Rattle.fr_params.specs.Texts.{upgraded_text}
use Rattle.fr_params.specs.UpgradeAnswer.{IsUpgrade, upgrade_files}
use Rattle.fr_params.specs.Upgrades.{AcceptedAreSane, FilesAreUpgraded}
use Rattle.fr_sharp.specs.MeetingCosts.{SomeMeetingCost}
use Rattle.fr_sharp.specs.LossCosts.{SomeCrossingCost, SomeLongest, SomeLossCost, SomeSecondCost}
use Rattle.fr_text.specs.Defined.{DefinesOneStatus}
use Rattle.fr_text.specs.Files.{IsNeverSaid, file, text}
use Rattle.fr_text.specs.Kind.{AreBytes, HasOneAnswer, HasSomeAnswer}
use Rattle.fr_text.proofs.Defining.{one_status, some_status}
use Rattle.fr_answer.specs.BoundAnswer.{bound_files, join_files, sharp_files, sharp_join_files}
use Rattle.fr_answer.specs.BoundText.{bound_text, with_join_text}
use Rattle.fr_answer.specs.declared.bound_lost.LossFigures.{LossFigures}
use Rattle.fr_answer.specs.LossAnswer.{IsLossText, loss_files}
use Rattle.fr_answer.specs.LossText.{loss_text}
use Rattle.fr_answer.specs.SettleAnswer.{IsSettling, IsSharpSettling, settle_files, sharp_settle_files}
use Rattle.fr_answer.specs.SettleText.{settle_text}
use Rattle.fr_answer.specs.SharpSettleText.{sharp_settle_text}
use Rattle.fr_answer.specs.SharpJoinText.{sharp_with_join_text}
use Rattle.fr_answer.specs.SharpText.{sharp_text}
use Rattle.fr_answer.proofs.Settlings.{some_settling, some_ways}

-- a text of the parameters in a file that nothing is said against, of which there is one
of_params : (IsText : Values → List ℕ → Type 0) → HasOneAnswer params_file → HasSomeAnswer params_file
    → ((bytes : List ℕ) (p : Values) → AreBytes params_file bytes p → (written : List ℕ) × IsText p written)
    → DefinesOneStatus (file params_file params_says (λ p. text (IsText p) IsNeverSaid)) 1
of_params IsText one some written = record {
  one = one_status (file params_file params_says (λ p. text (IsText p) IsNeverSaid)) (one, λ p wrote said is never. never);
  some = some_status (file params_file params_says (λ p. text (IsText p) IsNeverSaid)) 1 (some, λ bytes p octets accepted. (refl, inl (written bytes p accepted)));
}

pub bound_status : HasOneAnswer params_file → HasSomeAnswer params_file → DefinesOneStatus bound_files 1
bound_status one some = of_params (λ p written. written ≡ bound_text p) one some (λ bytes p accepted. (bound_text p, refl))

pub join_status : HasOneAnswer params_file → HasSomeAnswer params_file → DefinesOneStatus join_files 1
join_status one some = of_params (λ p written. written ≡ with_join_text p) one some (λ bytes p accepted. (with_join_text p, refl))

pub sharp_status : HasOneAnswer params_file → HasSomeAnswer params_file → (flutter : ℕ) → DefinesOneStatus (sharp_files flutter) 1
sharp_status one some flutter = of_params (λ p written. written ≡ sharp_text p flutter) one some (λ bytes p accepted. (sharp_text p flutter, refl))

pub sharp_join_status : HasOneAnswer params_file → HasSomeAnswer params_file → (flutter : ℕ) → DefinesOneStatus (sharp_join_files flutter) 1
sharp_join_status one some flutter =
    of_params (λ p written. written ≡ sharp_with_join_text p flutter) one some (λ bytes p accepted. (sharp_with_join_text p flutter, refl))

pub loss_status : HasOneAnswer params_file → HasSomeAnswer params_file → AcceptedAreSane → SomeLossCost → SomeCrossingCost → SomeSecondCost → SomeMeetingCost → SomeLongest → (flutter count : ℕ) → 1 ≤ count → DefinesOneStatus (loss_files flutter count) 1
loss_status one some sane row crossing second meeting longest flutter count from =
    of_params (λ p. IsLossText p flutter count) one some
    (λ bytes p accepted.
    let proper = sane p bytes accepted.accepted in
    let costs = row p flutter count proper from in
    let crossed = crossing p flutter count proper from in
    let others = second p flutter proper in
    let meets = meeting p flutter proper in
    let most = longest p flutter proper in
    let figures : LossFigures = record { row = costs.0; crossing = crossed.0; second = others.0; meeting = meets.0; longest = most.0 } in
    (loss_text p flutter count figures, record { figures = figures; are = record { row = costs.1; crossing = crossed.1; second = others.1; meeting = meets.1; longest = most.1 }; shown = refl }))

pub upgrade_status : HasOneAnswer params_file → HasSomeAnswer params_file → FilesAreUpgraded → DefinesOneStatus upgrade_files 1
upgrade_status one some upgraded =
    of_params IsUpgrade one some (λ bytes p accepted. (upgraded_text p, record { shown = refl; upgraded = upgraded p bytes accepted.accepted }))

pub settle_status : HasOneAnswer params_file → HasSomeAnswer params_file → (start rate : ℕ) → start ≤ most_stated → rate ≤ most_stated → DefinesOneStatus (settle_files start rate) 1
settle_status one some start rate from to =
    of_params (λ p. IsSettling p start rate) one some
    (λ bytes p accepted. let found = some_settling p start rate from to in (settle_text start rate found.0, record { settling = found.0; is = found.1; shown = refl }))

pub sharp_settle_status : HasOneAnswer params_file → HasSomeAnswer params_file → (start rate flutter : ℕ) → start ≤ most_stated → rate ≤ most_stated → DefinesOneStatus (sharp_settle_files start rate flutter) 1
sharp_settle_status one some start rate flutter from to =
    of_params (λ p. IsSharpSettling p start rate flutter) one some
    (λ bytes p accepted. let found = some_ways p start rate flutter from to in (sharp_settle_text start rate flutter found.0, record { ways = found.0; are = found.1; shown = refl }))
