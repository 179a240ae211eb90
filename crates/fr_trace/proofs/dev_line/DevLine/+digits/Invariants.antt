use Rattle.fr_trace.proofs.dev_line.DevLine.+digits.Given as goal

abbrev pub decreases-digits : goal.decreases-digits
decreases-digits l = l.value
