use Rattle.assignment_search.proofs.child.new_end.Goals as goal

pub returns-then-is_dead_end : goal.returns-then-is_dead_end
returns-then-is_dead_end c = c.is_dead_end.ensures.value.0 c.if-is_dead_end.true
