use Rattle.std.proofs.Common.{sym, subst, ◌∙◌, arith}
use Rattle.report_audit.proofs.Common.{IsNextLine, NextLine}
use Rattle.report_audit.proofs.report.EntryLemmas.{StandsAfter, beyond, close_read, command_read, no_entry, other_close, other_command, pending_at, wrong_block}
use Rattle.report_audit.proofs.report.entry.take_entry.Goals as goal

pub returns-in_default : goal.returns-in_default
returns-in_default g c = no_entry c.requires.within c.args.between.line.now c.args.between.next c.in_default.not-Entry c.requires.form

pub returns-then-lane-ge16 : goal.returns-then-lane-ge16
returns-then-lane-ge16 g c =
    beyond c.requires.within c.args.between.line.now c.in-Entry.lane (subst (λ (x : NextLine). IsNextLine x c.args.between.line.now) c.in-Entry.is
    c.requires.form) c.if-lane-ge16.true

pub returns-in-Some-2 : goal.returns-in-Some-2
returns-in-Some-2 g c = λ text has.
    let takes = rw c.in-Some-2.is at c.in_ok-reply-in-None.ensures in
    command_read c.requires.within c.args.between.line.now c.in-Entry.lane (subst (λ (x : NextLine). IsNextLine x c.args.between.line.now) c.in-Entry.is
    c.requires.form) (omega (arith, c.if-lane-ge16.false))
    c.audit_command.new.book c.in-Some-2.next c.in-Some-2.reply (pending_at c.args.lanes.now c.in-Entry.lane c.from-place.result c.from-place.ensures
    c.progress_of.result c.progress_of.ensures _ c.in-None.is) takes
    c.put_up.new.sealed c.put_up.ensures c.take.new.self (subst (StandsAfter c.args.round.now c.args.lanes.now c.take.new.self c.in-Some-2.reply)
    c.from-place.ensures c.take.ensures.stands)
    text c.args.between.after.now has

pub returns-in-None-2 : goal.returns-in-None-2
returns-in-None-2 g c =
    let other = rw c.in-None-2.is at c.in_ok-reply-in-None.ensures in
    other_command c.requires.within c.args.between.line.now c.in-Entry.lane (subst (λ (x : NextLine). IsNextLine x c.args.between.line.now) c.in-Entry.is
    c.requires.form) other

pub returns-in-Ok-Some : goal.returns-in-Ok-Some
returns-in-Ok-Some g c = λ text has.
    let takes = rw (rw c.in-Ok-Some.is at c.in-Ok-Some.field-0-is) at c.in-Ok-Some.ensures in
    close_read c.requires.within c.args.between.line.now c.in-Entry.lane (subst (λ (x : NextLine). IsNextLine x c.args.between.line.now) c.in-Entry.is
    c.requires.form) (omega (arith, c.if-lane-ge16.false))
    c.in-Some-take.snapshot c.in-Some._batch (pending_at c.args.lanes.now c.in-Entry.lane c.from-place.result c.from-place.ensures c.progress_of.result
    c.progress_of.ensures _ c.in-Some.is)
    (sym c.take-in-Some.ensures.value ∙ c.in-Some-take.is) c.in-Ok-Some.rest.now c.audit_close-closed.new.book c.args.between.after.now takes
    c.take-in-Ok-Some.new.self
    (subst (StandsAfter c.args.round.now c.args.lanes.now c.take-in-Ok-Some.new.self _) c.from-place.ensures c.take-in-Ok-Some.ensures.stands)
    c.take-in-Some.new.self c.take-in-Some.ensures.after text has

pub returns-in-Ok-None : goal.returns-in-Ok-None
returns-in-Ok-None g c =
    let other = rw (rw c.in-Ok-None.is at c.in-Ok-None.field-0-is) at c.in-Ok-None.ensures in
    other_close c.requires.within c.args.between.line.now c.in-Entry.lane (subst (λ (x : NextLine). IsNextLine x c.args.between.line.now) c.in-Entry.is
    c.requires.form) (omega (arith, c.if-lane-ge16.false))
    c.in-Some-take.snapshot c.in-Some._batch (pending_at c.args.lanes.now c.in-Entry.lane c.from-place.result c.from-place.ensures c.progress_of.result
    c.progress_of.ensures _ c.in-Some.is)
    (sym c.take-in-Some.ensures.value ∙ c.in-Some-take.is) other

pub returns-in-Err : goal.returns-in-Err
returns-in-Err g c = λ some text has.
    wrong_block c.requires.within c.args.between.line.now c.in-Entry.lane (subst (λ (x : NextLine). IsNextLine x c.args.between.line.now) c.in-Entry.is
    c.requires.form) (omega (arith, c.if-lane-ge16.false))
    c.in-Some-take.snapshot c.in-Some._batch (pending_at c.args.lanes.now c.in-Entry.lane c.from-place.result c.from-place.ensures c.progress_of.result
    c.progress_of.ensures _ c.in-Some.is)
    (sym c.take-in-Some.ensures.value ∙ c.in-Some-take.is) c.in-Err.refusal c.args.between.after.now some c.in-Err.ensures text has
