use Rattle.fr_text.proofs.draft.Draft.+natural.Given as goal

abbrev pub decreases-natural : goal.decreases-natural
decreases-natural l = l.value
