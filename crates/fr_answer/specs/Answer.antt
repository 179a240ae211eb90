-- The command of each request, and the program.
use Rattle.std.specs.Prelude.{codes}
use Rattle.fr_program.specs.Command.{Command}
use Rattle.fr_program.specs.Program.{Program}
use Rattle.fr_report.specs.Files.{run_command}
use Rattle.fr_answer.specs.BoundAnswer.{bound_command, join_command, sharp_command, sharp_join_command}
use Rattle.fr_answer.specs.RunAnswer.{kept_run_command}
use Rattle.fr_answer.specs.SettleAnswer.{settle_command, sharp_settle_command}
use Rattle.fr_capture.specs.CaptureAnswer.{capture_command}
use Rattle.fr_check.specs.CheckAnswer.{check_command}
use Rattle.fr_cold.specs.ColdAnswer.{cold_command}
use Rattle.fr_answer.specs.FrameAnswer.{frame_command}
use Rattle.fr_answer.specs.LossAnswer.{loss_command}
use Rattle.fr_nm.specs.NmAnswer.{nm_command}
use Rattle.fr_report.specs.MakeAnswer.{make_command}
use Rattle.fr_report.specs.TraceAnswer.{IsTraceText}
use Rattle.fr_params.specs.UpgradeAnswer.{upgrade_command}
use Rattle.fr_answer.specs.Request.{Asked, AsksFor, frame, bound, bound_join, bound_sharp, bound_sharp_join, bound_lost, upgrade, settle, settle_sharp, run, capture, nm, cold, make, trace, check}

-- the files of what was asked for, and what may be written of them
abbrev pub command_of : Asked → Command
command_of (frame channel file) = frame_command channel file
command_of (bound file) = bound_command file
command_of (bound_join file) = join_command file
command_of (bound_sharp file flutter) = sharp_command file flutter
command_of (bound_sharp_join file flutter) = sharp_join_command file flutter
command_of (bound_lost file flutter count) = loss_command file flutter count
command_of (upgrade file) = upgrade_command file
command_of (settle file start rate) = settle_command file start rate
command_of (settle_sharp file start rate flutter) = sharp_settle_command file start rate flutter
command_of (run names) = kept_run_command names
command_of (make seed doubles) = make_command seed doubles
command_of (capture channel file) = capture_command channel file
command_of (nm width file) = nm_command width file
command_of (cold params power) = cold_command params power
command_of (trace names) = run_command IsTraceText names
command_of (check params recorded) = check_command params recorded

-- the program of these words, which are all but `observe`, `help`, `version`, `sharp` of `run` and of `check`, and `power` of `settle`
abbrev pub core_program : Program Asked
core_program = record { asks_for = AsksFor; command_of = command_of; usage = codes "usage: flexray COMMAND WORDS" }
