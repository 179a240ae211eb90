use Rattle.std.proofs.Common.{arith}
use Rattle.fr_part_tests.proofs.Fed.{more_fed, none_fed}
use Rattle.fr_part_tests.proofs.capture.fed_by_bytes.Goals as goal

pub loop-done-init : goal.loop-done-init
loop-done-init c = none_fed c.new-capture.result c.new-capture.ensures.stands

pub loop-done-preserved : goal.loop-done-preserved
loop-done-preserved c =
    more_fed c.loop-done.capture c.feed-fed.new.self c.loop-done.done c.feed-fed.result.used _ c.loop-done.invariant c.feed-fed.ensures.goes_on c.feed-fed.ensures.used.0 (omega arith)
