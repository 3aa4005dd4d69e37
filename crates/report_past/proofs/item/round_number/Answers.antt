use Rattle.std.proofs.Common.{subst}
use Rattle.report_audit.specs.declared.lines.next.NextLine.{NextLine}
use Rattle.report_audit.specs.declared.lines.next.NextLine.TheVariants.{Round}
use Rattle.report_audit.specs.lines.Next.{IsNextLine}
use Rattle.report_past.proofs.ItemLeftLemmas.{no_done, no_entry}
use Rattle.report_past.proofs.item.round_number.Goals as goal

pub returns-in-Some-Round : goal.returns-in-Some-Round
returns-in-Some-Round c = subst (λ (x : NextLine). IsNextLine x c.args.line.now) c.in-Some-Round.field-0-is c.in-Some-Round.ensures

pub returns-in-Some-Done : goal.returns-in-Some-Done
returns-in-Some-Done c = λ n is.
    no_done c.a_line_is_of_one_kind.ensures c.args.line.now n is c.in-Some-Done.field-0-0
    (subst (λ (x : NextLine). IsNextLine x c.args.line.now) c.in-Some-Done.field-0-is c.in-Some-Done.ensures)

pub returns-in-Some-Entry : goal.returns-in-Some-Entry
returns-in-Some-Entry c = λ n is.
    no_entry c.a_line_is_of_one_kind.ensures c.args.line.now n is c.in-Some-Entry.field-0-0
    (subst (λ (x : NextLine). IsNextLine x c.args.line.now) c.in-Some-Entry.field-0-is c.in-Some-Entry.ensures)

pub returns-in-None : goal.returns-in-None
returns-in-None c = λ n is. c.in-None.ensures (Round n) is
