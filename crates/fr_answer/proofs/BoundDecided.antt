-- The bytes of a file decide its bounds.
use Rattle.std.proofs.Common.{◌≡◌, ℕ, ℤ, true, false, pos, Option, ap, sym, ◌∙◌, subst, arith}
use Rattle.std.specs.Prelude.{◌≤ℤ◌, nat_abs}
use Rattle.std.proofs.lemmas.Int.{ints}
use Rattle.fr_cluster.specs.Values.{Values}
use Rattle.fr_bound.specs.Settling.{IsPeakTo, IsSettleVerdict}
use Rattle.fr_bound.specs.declared.settling.Settling.{Settling}
use Rattle.fr_bound.proofs.Settled.{one_double, one_peak, one_verdict}
use Rattle.fr_params.specs.Files.{params_file}
use Rattle.fr_promise.specs.declared.way.SharpWay.{SharpWay}
use Rattle.fr_sharp.specs.LossCosts.{OneCrossingCost, OneLongest, OneLossCost, OneSecondCost}
use Rattle.fr_sharp.specs.declared.loss_costs.CrossingCost.{CrossingCost}
use Rattle.fr_sharp.specs.declared.loss_costs.LossCost.{LossCost}
use Rattle.fr_sharp.specs.declared.loss_costs.SecondCost.{SecondCost}
use Rattle.fr_sharp.specs.declared.meeting_costs.MeetingCost.{MeetingCost}
use Rattle.fr_sharp.specs.MeetingCosts.{OneMeetingCost}
use Rattle.fr_promise.specs.SharpWay.{OneSharpWay}
use Rattle.fr_text.specs.Kind.{HasOneAnswer}
use Rattle.fr_text.specs.Files.{IsDecided}
use Rattle.fr_text.proofs.Commands.{decided}
use Rattle.fr_answer.specs.BoundAnswer.{bound_files, join_files, sharp_files, sharp_join_files}
use Rattle.fr_answer.specs.declared.bound_lost.LossFigures.{LossFigures}
use Rattle.fr_answer.specs.LossAnswer.{loss_files}
use Rattle.fr_answer.specs.LossText.{loss_text}
use Rattle.fr_answer.specs.SettleAnswer.{IsSettlingFor, settle_files, sharp_settle_files}
use Rattle.fr_answer.specs.SettleText.{settle_text}
use Rattle.fr_answer.specs.SharpSettleText.{sharp_settle_text}

pub one_bounds : HasOneAnswer params_file → IsDecided bound_files
one_bounds one = decided bound_files (one, λ p written again is more. is ∙ sym more)

pub one_join_bounds : HasOneAnswer params_file → IsDecided join_files
one_join_bounds one = decided join_files (one, λ p written again is more. is ∙ sym more)

pub one_sharp_bounds : HasOneAnswer params_file → (flutter : ℕ) → IsDecided (sharp_files flutter)
one_sharp_bounds one flutter = decided (sharp_files flutter) (one, λ p written again is more. is ∙ sym more)

pub one_sharp_join_bounds : HasOneAnswer params_file → (flutter : ℕ) → IsDecided (sharp_join_files flutter)
one_sharp_join_bounds one flutter = decided (sharp_join_files flutter) (one, λ p written again is more. is ∙ sym more)

same_figures : (one other : LossFigures) → one.row ≡ other.row → one.crossing ≡ other.crossing → one.second ≡ other.second → one.meeting ≡ other.meeting → one.longest ≡ other.longest → one ≡ other
same_figures one other row crossing second meeting longest =
    let made : LossCost → CrossingCost → SecondCost → MeetingCost → Option ℕ → LossFigures = λ a c b m n. record { row = a; crossing = c; second = b; meeting = m; longest = n } in
    ap (λ (a : LossCost). made a one.crossing one.second one.meeting one.longest) row ∙ ap (λ (c : CrossingCost). made other.row c one.second one.meeting one.longest) crossing
    ∙ ap (λ (b : SecondCost). made other.row other.crossing b one.meeting one.longest) second
    ∙ ap (λ (m : MeetingCost). made other.row other.crossing other.second m one.longest) meeting ∙ ap (made other.row other.crossing other.second other.meeting) longest

pub one_losses : HasOneAnswer params_file → OneLossCost → OneCrossingCost → OneSecondCost → OneMeetingCost → OneLongest → (flutter count : ℕ) → IsDecided (loss_files flutter count)
one_losses one row crossing second meeting longest flutter count =
    decided (loss_files flutter count) (
      one,
      λ p written again is more.
          let figures : is.figures ≡ more.figures =
          same_figures is.figures more.figures (row p flutter count is.figures.row more.figures.row is.are.row more.are.row)
          (crossing p flutter count is.figures.crossing more.figures.crossing is.are.crossing more.are.crossing) (second p flutter is.figures.second more.figures.second is.are.second more.are.second)
          (meeting p flutter is.figures.meeting more.figures.meeting is.are.meeting more.are.meeting) (longest p flutter is.figures.longest more.figures.longest is.are.longest more.are.longest) in
          is.shown ∙ ap (loss_text p flutter count) figures ∙ sym more.shown,
    )

-- numbers that are not negative are the same where their amounts are
same_amount : (a b : ℤ) → pos 0 ≤ℤ a → pos 0 ≤ℤ b → nat_abs a ≡ nat_abs b → a ≡ b
same_amount a b from also same = omega (arith, ints)

same_settling : (one other : Settling) → one.doubles ≡ other.doubles → one.peak ≡ other.peak → one.failed ≡ other.failed → one ≡ other
same_settling one other doubles peak failed =
    let made : ℕ → ℤ → Option (ℕ × ℤ × ℤ) → Settling = λ a b c. record { doubles = a; peak = b; failed = c } in
    ap (λ (a : ℕ). made a one.peak one.failed) doubles ∙ ap (λ (b : ℤ). made other.doubles b one.failed) peak ∙ ap (made other.doubles other.peak) failed

one_settling_for : (p : Values) (start rate : ℕ) (one other : Settling) → IsSettlingFor p start rate one → IsSettlingFor p start rate other → one ≡ other
one_settling_for p start rate one other here there =
    let doubles : one.doubles ≡ other.doubles = one_double p start rate one.doubles other.doubles here.settles there.settles in
    let peak_too : IsPeakTo p start rate one.doubles (nat_abs other.peak) = subst (λ (n : ℕ). IsPeakTo p start rate n (nat_abs other.peak)) (sym doubles) there.peak in
    let amounts : nat_abs one.peak ≡ nat_abs other.peak = one_peak p start rate one.doubles (nat_abs one.peak) (nat_abs other.peak) here.peak peak_too in
    let verdict : IsSettleVerdict p (nat_abs one.peak) other.failed = subst (λ (n : ℕ). IsSettleVerdict p n other.failed) (sym amounts) there.failed in
    same_settling one other doubles (same_amount one.peak other.peak here.from there.from amounts) (one_verdict p (nat_abs one.peak) one.failed other.failed here.failed verdict)

pub one_way : HasOneAnswer params_file → (start rate : ℕ) → IsDecided (settle_files start rate)
one_way one start rate =
    decided (settle_files start rate) (one, λ p written again is more. is.shown ∙ ap (settle_text start rate) (one_settling_for p start rate is.settling more.settling is.is more.is) ∙ sym more.shown)

same_ways : (one other : SharpWay × SharpWay) → one.0 ≡ other.0 → one.1 ≡ other.1 → one ≡ other
same_ways one other alone beside =
    let made : SharpWay → SharpWay → SharpWay × SharpWay = λ a b. (a, b) in
    ap (λ (a : SharpWay). made a one.1) alone ∙ ap (made other.0) beside

pub one_sharper_way : HasOneAnswer params_file → OneSharpWay → (start rate flutter : ℕ) → IsDecided (sharp_settle_files start rate flutter)
one_sharper_way one way start rate flutter =
    decided (sharp_settle_files start rate flutter) (
      one,
      λ p written again is more.
          let ways : is.ways ≡ more.ways =
          same_ways is.ways more.ways (way false p flutter start rate is.ways.0 more.ways.0 is.are.alone more.are.alone) (way true p flutter start rate is.ways.1 more.ways.1 is.are.beside more.are.beside) in
          is.shown ∙ ap (sharp_settle_text start rate flutter) ways ∙ sym more.shown,
    )
