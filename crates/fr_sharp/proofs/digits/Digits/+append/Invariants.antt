use Rattle.fr_sharp.proofs.digits.Digits.+append.Given as goal

abbrev pub decreases-append : goal.decreases-append
decreases-append l = l.value
