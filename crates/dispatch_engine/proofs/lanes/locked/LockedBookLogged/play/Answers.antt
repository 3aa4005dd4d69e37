use Rattle.std.proofs.Common.{◌≡◌, subst, ap, arith}
use Rattle.request_book.specs.Book.{BookView, IsApplied, IsBook}
use Rattle.dispatch_engine.specs.lanes.Locked.{snapshot_before}
use Rattle.dispatch_engine.proofs.lemmas.lanes.LockedLemmas.{calls-length, applied-call, applied-fits}
use Rattle.dispatch_engine.proofs.lanes.locked.LockedBookLogged.play.Goals as goal

pub returns-clause-entry : goal.returns-clause-entry
returns-clause-entry c =
    let new : BookView = c.apply.new.self in
    applied-call c.args.self.now new c.args.lane c.args.call c.in-Ok-apply.reply c.in-Ok.snapshot
    (subst IsBook c.self.view_is c.self.invariant)
    (subst (λ (b : BookView). IsApplied b c.args.lane c.args.call c.in-Ok-apply.reply new) c.self.view_is c.in-Ok-apply.ensures.applied)
    (subst (λ (b : BookView). c.in-Ok.snapshot ≡ snapshot_before b.wait b.state c.args.call) c.self.view_is c.in-Ok.ensures.snapshot)

pub returns-clause-fits : goal.returns-clause-fits
returns-clause-fits c =
    let new : BookView = c.apply.new.self in
    applied-fits c.args.self.now new c.args.lane c.args.call c.in-Ok-apply.reply c.in-Ok.snapshot c.entries.ensures.kept
    (subst (λ (b : BookView). IsApplied b c.args.lane c.args.call c.in-Ok-apply.reply new) c.self.view_is c.in-Ok-apply.ensures.applied)
    (subst (λ (b : BookView). c.in-Ok.snapshot ≡ snapshot_before b.wait b.state c.args.call) c.self.view_is c.in-Ok.ensures.snapshot)

pub returns-clause-short : goal.returns-clause-short
returns-clause-short c =
    let new : BookView = c.apply.new.self in
    let long = calls-length new.nodes new.wait new.base new.entries in
    omega (arith, long, c.count_entries-count.ensures.len, c.count_entries-count.ensures.short, ap Rattle.std.proofs.Common.length c.entries.ensures.entries)
