use Rattle.std.proofs.Common.{◌≡◌, None, sym, subst, refl, ◌∙◌}
use Rattle.request_book.specs.Book.{IsApplied, next_position}
use Rattle.request_book.specs.declared.values.journal.Entry.{Entry}
use Rattle.dispatch_report.specs.Round.{entry_text}
use Rattle.live_dispatch.specs.Desk.{DeskView, HasEntered, IsDesk, IsSameDesk, OutputsView, outputs_seen}
use Rattle.live_dispatch.specs.work.Telling.{WroteLast}
use Rattle.live_dispatch.proofs.DeskLemmas.{desk-entered, desk-replied, none_of}
use Rattle.live_dispatch.proofs.desk.Desk.enter.Goals as goal

pub invariant_of-self : goal.invariant_of-self
invariant_of-self g c =
    let old : DeskView = record {
      book = c.self.inside.book;
      proof = c.self.inside.proof;
      opened = g.J.Opening.opened;
      now = outputs_seen g.K.Sink.written g.K.Sink.faults g.N.Notifier.told g.N.Notifier.faults g.N.Notifier.steady c.self.inside.outputs.sink
          c.self.inside.outputs.notifiers.items;
      fault = c.self.inside.fault;
    } in
    let now : OutputsView = outputs_seen g.K.Sink.written g.K.Sink.faults g.N.Notifier.told g.N.Notifier.faults g.N.Notifier.steady
    c.write_last-self-inside.new.sink c.write_last-self-inside.new.notifiers.items in
    let e : Entry = record { lane = c.args.lane; command = c.args.command; reply = c.in-Ok-apply.reply } in
    let applied : IsApplied old.book c.args.lane c.args.command c.in-Ok-apply.reply c.apply.new.self = c.in-Ok-apply.ensures.applied in
    let whole : old.fault ≡ None = none_of old.fault (sym c.is_some.ensures ∙ c.if-is_some.false) in
    let wrote = c.write_last-self-inside.ensures.wrote old.book.entries e (c.entries.ensures.entries ∙ applied.entries) in
    let at : WroteLast c.write_last-self-inside.result (entry_text old.proof (next_position old.book.first old.book.entries) e) c.deref.result.now
    c.in-Ok-apply.reply old.now now =
    rw c.next_position-position.ensures at wrote in
    desk-entered old c.args.lane c.args.command c.in-Ok-apply.reply c.apply.new.self now c.self.invariant whole c.entries.ensures.kept applied
    c.deref.result.now (c.deref.ensures.value ∙ c.in-Ok.ensures.notices) c.write_last-self-inside.ensures.never_falls c.write_last-self-inside.result at

pub returns-in-Ok-apply-clause-entered : goal.returns-in-Ok-apply-clause-entered
returns-in-Ok-apply-clause-entered g c =
    let now : OutputsView = outputs_seen g.K.Sink.written g.K.Sink.faults g.N.Notifier.told g.N.Notifier.faults g.N.Notifier.steady
    c.write_last-self-inside.new.sink c.write_last-self-inside.new.notifiers.items in
    let opened : OutputsView = g.J.Opening.opened in
    let new : DeskView = record { book = c.apply.new.self; proof = c.self.inside.proof; opened = opened; now = now; fault = c.write_last-self-inside.result } in
    let was : OutputsView = outputs_seen g.K.Sink.written g.K.Sink.faults g.N.Notifier.told g.N.Notifier.faults g.N.Notifier.steady c.self.inside.outputs.sink
    c.self.inside.outputs.notifiers.items in
    subst (λ (old : DeskView). HasEntered old c.args.lane c.args.command (record { reply = c.in-Ok-apply.reply; snapshot = c.in-Ok.snapshot }) new)
    c.self.view_is
    (desk-replied (record { book = c.self.inside.book; proof = c.self.inside.proof; opened = opened; now = was; fault = c.self.inside.fault })
    new c.args.lane c.args.command c.in-Ok-apply.reply c.in-Ok.snapshot c.self.invariant.book c.entries.ensures.kept c.in-Ok-apply.ensures.applied
    c.in-Ok.ensures.sealed refl refl)

pub returns-in-Ok-apply-clause-kept : goal.returns-in-Ok-apply-clause-kept
returns-in-Ok-apply-clause-kept g c = invariant_of-self g c

pub returns-then-is_some-clause-kept : goal.returns-then-is_some-clause-kept
returns-then-is_some-clause-kept g c = subst IsDesk c.self.view_is c.self.invariant

pub returns-clause-kept : goal.returns-clause-kept
returns-clause-kept g c = subst IsDesk c.self.view_is c.self.invariant

pub returns-in-Ok-clause-refused : goal.returns-in-Ok-clause-refused
returns-in-Ok-clause-refused g c =
    let new : DeskView = record {
      book = c.apply.new.self;
      proof = c.self.inside.proof;
      opened = g.J.Opening.opened;
      now = outputs_seen g.K.Sink.written g.K.Sink.faults g.N.Notifier.told g.N.Notifier.faults g.N.Notifier.steady c.self.inside.outputs.sink
          c.self.inside.outputs.notifiers.items;
      fault = c.self.inside.fault;
    } in
    subst (λ (old : DeskView). IsSameDesk old new) c.self.view_is (record {
      book = c.in-Err-apply.ensures.unchanged;
      proof = refl;
      opened = refl;
      now =
          refl;
      fault = refl;
    })
