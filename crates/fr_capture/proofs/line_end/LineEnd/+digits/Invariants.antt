use Rattle.fr_capture.proofs.line_end.LineEnd.+digits.Given as goal

abbrev pub decreases-digits : goal.decreases-digits
decreases-digits l = l.value
