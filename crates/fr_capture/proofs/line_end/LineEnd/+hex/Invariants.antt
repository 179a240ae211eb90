use Rattle.fr_capture.proofs.line_end.LineEnd.+hex.Given as goal

abbrev pub decreases-hex : goal.decreases-hex
decreases-hex l = l.digits
