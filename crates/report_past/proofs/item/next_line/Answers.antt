use Rattle.std.proofs.Common.{inl, inr}
use Rattle.report_past.proofs.item.next_line.Goals as goal

pub returns-in_default-clause-none : goal.returns-in_default-clause-none
returns-in_default-clause-none c = inl c.in_default.ensures

pub returns-in-None-clause-none : goal.returns-in-None-clause-none
returns-in-None-clause-none c = inr (c.in-Some.line.now, c.in-Some.after.now, c.in-Some.ensures.0, c.in-Some.ensures.1, c.in-None.ensures)

pub returns-in-Some-read_next-clause-first : goal.returns-in-Some-read_next-clause-first
returns-in-Some-read_next-clause-first c = (c.in-Some.ensures.0, c.in-Some.ensures.1, c.in-Some-read_next.ensures)
