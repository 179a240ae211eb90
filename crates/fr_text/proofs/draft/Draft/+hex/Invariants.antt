use Rattle.fr_text.proofs.draft.Draft.+hex.Given as goal

abbrev pub decreases-hex : goal.decreases-hex
decreases-hex l = l.digits
