-- Whatever words ask for, the bytes of its files define one status.
use Rattle.std.proofs.Common.{ℕ, ◌≤◌}
use Rattle.fr_base.specs.declared.channel.Channel.{Channel}
use Rattle.fr_bound.specs.Settling.{most_stated}
use Rattle.fr_capture.specs.CaptureAnswer.{capture_files}
use Rattle.fr_check.specs.CheckAnswer.{check_files}
use Rattle.fr_cold.specs.ColdAnswer.{cold_files}
use Rattle.fr_nm.specs.NmAnswer.{nm_files}
use Rattle.fr_params.specs.UpgradeAnswer.{upgrade_files}
use Rattle.fr_report.specs.Files.{run_files}
use Rattle.fr_report.specs.TraceAnswer.{IsTraceText}
use Rattle.fr_answer.specs.BoundAnswer.{bound_files, join_files, sharp_files, sharp_join_files}
use Rattle.fr_answer.specs.FrameAnswer.{frame_files}
use Rattle.fr_answer.specs.LossAnswer.{loss_files}
use Rattle.fr_answer.specs.Request.{bound, bound_join, bound_lost, bound_sharp, bound_sharp_join, most_stated_lost, capture, check, cold, frame, make, nm, run, settle, settle_sharp, trace, upgrade}
use Rattle.fr_answer.specs.RunAnswer.{IsKeptRunText}
use Rattle.fr_answer.specs.SettleAnswer.{settle_files, sharp_settle_files}
use Rattle.fr_answer.specs.Statuses.{HasOneStatusEach}
use Rattle.fr_report.proofs.MadeStatus.{OneReport}
use Rattle.fr_text.specs.Defined.{DefinesOneStatus}
use Rattle.fr_text.proofs.RowsRead.{natural_read}

-- so it is of each command
pub record Commands : Type 0 where
  pub frames : (channel : Channel) → DefinesOneStatus (frame_files channel) 1
  pub bounds : DefinesOneStatus bound_files 1
  pub joins : DefinesOneStatus join_files 1
  pub sharps : (flutter : ℕ) → DefinesOneStatus (sharp_files flutter) 1
  pub sharp_joins : (flutter : ℕ) → DefinesOneStatus (sharp_join_files flutter) 1
  pub losses : (flutter count : ℕ) → 1 ≤ count → DefinesOneStatus (loss_files flutter count) 1
  pub upgrades : DefinesOneStatus upgrade_files 1
  pub settles : (start rate : ℕ) → start ≤ most_stated → rate ≤ most_stated → DefinesOneStatus (settle_files start rate) 1
  pub sharp_settles : (start rate flutter : ℕ) → start ≤ most_stated → rate ≤ most_stated → DefinesOneStatus (sharp_settle_files start rate flutter) 1
  pub runs : DefinesOneStatus (run_files IsKeptRunText) 3
  pub makes : OneReport
  pub captures : (channel : Channel) → DefinesOneStatus (capture_files channel) 1
  pub vectors : (width : ℕ) → DefinesOneStatus (nm_files width) 1
  pub startups : DefinesOneStatus cold_files 2
  pub traces : DefinesOneStatus (run_files IsTraceText) 3
  pub checks : DefinesOneStatus check_files 2

pub each_request : Commands → HasOneStatusEach
each_request commands words (frame channel file) asks = commands.frames channel
each_request commands words (bound file) asks = commands.bounds
each_request commands words (bound_join file) asks = commands.joins
each_request commands words (bound_sharp file flutter) asks = commands.sharps flutter
each_request commands words (bound_sharp_join file flutter) asks = commands.sharp_joins flutter
each_request commands words (bound_lost file flutter count) asks = commands.losses flutter count (natural_read 1 most_stated_lost asks.count_text count asks.count_is).0
each_request commands words (upgrade file) asks = commands.upgrades
each_request commands words (settle file start rate) asks =
    commands.settles start rate (natural_read 0 most_stated asks.start_text start asks.start_is).1 (natural_read 0 most_stated asks.rate_text rate asks.rate_is).1
each_request commands words (settle_sharp file start rate flutter) asks =
    commands.sharp_settles start rate flutter (natural_read 0 most_stated asks.start_text start asks.start_is).1 (natural_read 0 most_stated asks.rate_text rate asks.rate_is).1
each_request commands words (run names) asks = commands.runs
each_request commands words (make seed doubles) asks =
    let made = natural_read 1 10_000 asks.doubles_text doubles asks.doubles_is in commands.makes seed doubles (record { from = made.0; to = made.1 })
each_request commands words (capture channel file) asks = commands.captures channel
each_request commands words (nm width file) asks = commands.vectors width
each_request commands words (cold params power) asks = commands.startups
each_request commands words (trace names) asks = commands.traces
each_request commands words (check params recorded) asks = commands.checks
