use Rattle.std.proofs.Common.{sym, ◌∙◌}
use Rattle.report_past.proofs.RowLeftLemmas.{only_row, unfit, unread, untold}
use Rattle.report_past.proofs.TakeLemmas.{none_of}
use Rattle.report_past.proofs.row.take_row.Goals as goal

pub returns-in_default-clause-none : goal.returns-in_default-clause-none
returns-in_default-clause-none c = λ _.
    unread c.args.line.now c.read_command.result c.read_command.ensures.exact c.args.book.now c.args.open.now c.in_default.is

pub returns-then-not-may_come-clause-none : goal.returns-then-not-may_come-clause-none
returns-then-not-may_come-clause-none c = λ _.
    unfit c.args.line.now c.read_command.result c.read_command.ensures.exact c.args.book.now c.args.open.now c.in-Some.lane c.in-Some.command c.in-Some.is
    c.may_come.result c.is_some.result c.is_some.ensures c.may_come.ensures c.if-not-may_come.true

pub returns-in-Ok-true-clause-row : goal.returns-in-Ok-true-clause-row
returns-in-Ok-true-clause-row c = λ _.
    let may = c.may_come.ensures.0 c.if-not-may_come.false in
    let told = c.in-Ok-true.ensures.told c.in-Ok-true.field-0-test in
    record {
      lane = c.in-Some.lane;
      command = c.in-Some.command;
      reply = told.0;
      sealed = c.in_ok-sealed.sealed;
      within = may.0;
      stands = may.1;
      free = λ zero. none_of c.args.open.now (sym c.is_some.ensures ∙ may.2 zero);
      applied = told.1;
      sealed_is = c.in_ok-sealed.ensures.snapshot;
      now_is = c.put_up.ensures;
      line_is = told.2;
      only = only_row c.args.line.now c.read_command.result c.read_command.ensures.exact c.in-Some.lane c.in-Some.command c.in-Some.is;
    }

pub returns-in-Ok-false-clause-none : goal.returns-in-Ok-false-clause-none
returns-in-Ok-false-clause-none c = λ _.
    untold c.args.line.now c.read_command.result c.read_command.ensures.exact c.args.book.now c.args.open.now c.in-Some.lane c.in-Some.command c.in-Some.is
    (c.in-Ok-false.ensures.untold c.in-Ok-false.field-0-test)
