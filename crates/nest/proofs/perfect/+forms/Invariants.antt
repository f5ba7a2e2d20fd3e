use Rattle.nest.proofs.perfect.+forms.Given as goal

abbrev pub decreases-forms : goal.decreases-forms
decreases-forms l = l.depth
