use Rattle.std.proofs.Common.{◌≤◌, ap, subst, ◌∙◌}
use Rattle.live_dispatch.proofs.CloseLemmas.{close-stopped, closed-to}
use Rattle.live_dispatch.specs.Desk.{DeskView, OutputsView, desk_of, outputs_seen}
use Rattle.live_dispatch.specs.work.Closing.{HasEnteredOr}
use Rattle.live_dispatch.proofs.caught.close_in.Goals as goal

pub returns-in-Ok-clause-closed : goal.returns-in-Ok-clause-closed
returns-in-Ok-clause-closed g c = λ settings roads batch outcome same is good.
    let before : OutputsView = outputs_seen g.K.Sink.written g.K.Sink.faults g.N.Notifier.told g.N.Notifier.faults g.N.Notifier.steady c.args.outputs.sink
    c.args.outputs.notifiers.items in
    let parts = c.into_parts-book.result in
    let now : OutputsView = outputs_seen g.K.Sink.written g.K.Sink.faults g.N.Notifier.told g.N.Notifier.faults g.N.Notifier.steady parts.1.sink
    parts.1.notifiers.items in
    closed-to settings roads batch outcome c.args.book before good c.requires.empty.0 c.requires.empty.1 c.of-desk.result c.enter_close-entered.new.desk
    c.enter_close-entered.result parts.0 c.cut_batch.new.book g.J.Opening.opened now parts.2
    (c.of-desk.ensures.desk ∙ ap (λ proof. desk_of c.args.book proof before) same)
    (subst (λ command. HasEnteredOr c.enter_close-entered.result c.of-desk.result command c.enter_close-entered.new.desk) is
    c.enter_close-entered.ensures.entered)
    c.into_parts-book.ensures.kept c.into_parts-book.ensures.parts c.in-Ok.field-0 c.in-Ok.ensures

pub returns-in-Err-clause-closed : goal.returns-in-Err-clause-closed
returns-in-Err-clause-closed g c = λ settings roads batch outcome same is good.
    let before : OutputsView = outputs_seen g.K.Sink.written g.K.Sink.faults g.N.Notifier.told g.N.Notifier.faults g.N.Notifier.steady c.args.outputs.sink
    c.args.outputs.notifiers.items in
    let parts = c.into_parts-book.result in
    let now : OutputsView = outputs_seen g.K.Sink.written g.K.Sink.faults g.N.Notifier.told g.N.Notifier.faults g.N.Notifier.steady parts.1.sink
    parts.1.notifiers.items in
    close-stopped settings roads batch outcome c.args.book before good c.requires.empty.0 c.requires.empty.1 c.of-desk.result c.enter_close-entered.new.desk
    c.enter_close-entered.result parts.0 c.cut_batch.new.book g.J.Opening.opened now parts.2
    (c.of-desk.ensures.desk ∙ ap (λ proof. desk_of c.args.book proof before) same)
    (subst (λ command. HasEnteredOr c.enter_close-entered.result c.of-desk.result command c.enter_close-entered.new.desk) is
    c.enter_close-entered.ensures.entered)
    c.into_parts-book.ensures.kept c.into_parts-book.ensures.parts c.in-Err.fault c.in-Err.ensures

pub returns-in-Ok-clause-never_falls : goal.returns-in-Ok-clause-never_falls
returns-in-Ok-clause-never_falls g c =
    let parts = c.into_parts-book.result in
    let now : OutputsView = outputs_seen g.K.Sink.written g.K.Sink.faults g.N.Notifier.told g.N.Notifier.faults g.N.Notifier.steady parts.1.sink
    parts.1.notifiers.items in
    subst (λ (o : OutputsView). o.sink.faults ≤ now.sink.faults) c.requires.opened
    (subst (λ (d : DeskView). d.opened.sink.faults ≤ d.now.sink.faults) c.into_parts-book.ensures.parts c.into_parts-book.ensures.kept.never_falls)

pub returns-in-Err-clause-never_falls : goal.returns-in-Err-clause-never_falls
returns-in-Err-clause-never_falls g c =
    let parts = c.into_parts-book.result in
    let now : OutputsView = outputs_seen g.K.Sink.written g.K.Sink.faults g.N.Notifier.told g.N.Notifier.faults g.N.Notifier.steady parts.1.sink
    parts.1.notifiers.items in
    subst (λ (o : OutputsView). o.sink.faults ≤ now.sink.faults) c.requires.opened
    (subst (λ (d : DeskView). d.opened.sink.faults ≤ d.now.sink.faults) c.into_parts-book.ensures.parts c.into_parts-book.ensures.kept.never_falls)
