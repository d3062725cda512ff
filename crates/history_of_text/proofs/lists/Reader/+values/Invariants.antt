use Rattle.history_of_text.proofs.lists.Reader.+values.Given as goal

abbrev pub decreases-value : goal.decreases-value
decreases-value l = l.depth

abbrev pub decreases-values : goal.decreases-values
decreases-values l = l.depth
