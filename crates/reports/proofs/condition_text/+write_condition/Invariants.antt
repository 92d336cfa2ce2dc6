use Rattle.reports.proofs.condition_text.+write_condition.Given as goal

abbrev pub decreases-write_condition : goal.decreases-write_condition
decreases-write_condition g l = l.depth
