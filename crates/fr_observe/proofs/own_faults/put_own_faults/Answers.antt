use Rattle.fr_observe.specs.Faults.{own_faults}
use Rattle.fr_observe.proofs.Told.{told_cut, told_cut_three, told_cut_two, told_then}
use Rattle.fr_observe.proofs.own_faults.put_own_faults.Goals as goal

pub returns-in_err-put_clocks : goal.returns-in_err-put_clocks
unfolding own_faults
returns-in_err-put_clocks g c = told_cut_three _ _ _ _ c.in_err-put_clocks.ensures c.from_residual.ensures.0

pub returns-in_err-put_of_senders : goal.returns-in_err-put_of_senders
unfolding own_faults
returns-in_err-put_of_senders g c =
    told_cut_two _ _ _ (told_then _ c.in_ok-put_clocks.ensures c.in_err-put_of_senders.ensures) c.from_residual-in_err-put_of_senders.ensures.0

pub returns-in_err-put_twice : goal.returns-in_err-put_twice
unfolding own_faults
returns-in_err-put_twice g c =
    told_cut _ _ (told_then _ (told_then _ c.in_ok-put_clocks.ensures c.in_ok-put_of_senders.ensures) c.in_err-put_twice.ensures)
    c.from_residual-in_err-put_twice.ensures.0

pub returns : goal.returns
unfolding own_faults
returns g c =
    told_then _ (told_then _ (told_then _ c.in_ok-put_clocks.ensures c.in_ok-put_of_senders.ensures) c.in_ok-put_twice.ensures) c.put_late.ensures
