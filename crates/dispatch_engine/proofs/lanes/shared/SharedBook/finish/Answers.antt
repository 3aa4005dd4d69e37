use Rattle.std.proofs.Common.{◌≡◌, List, sym, subst}
use Rattle.request_book.specs.Book.{BookView}
use Rattle.seat_lock.specs.Values.{LockValue}
use Rattle.dispatch_engine.specs.lanes.Shared.{BookPass, IsFinished}
use Rattle.dispatch_engine.proofs.lanes.FinishLemmas.{finished}
use Rattle.dispatch_engine.proofs.lanes.shared.SharedBook.finish.Goals as goal

pub returns-in-Ok-clause-calls : goal.returns-in-Ok-clause-calls
returns-in-Ok-clause-calls c =
    let passes : List BookPass = c.args.passes.items in
    let after : BookView = c.in-Ok.locked in
    let done : (v : LockValue BookView) → c.self.inside.lock ≡ v → IsFinished v.start passes after = λ v is.
    subst (λ (u : LockValue BookView). IsFinished u.start passes after) is (finished c.rounds_join.ensures c.self.inside.lock.start after passes
    c.self.invariant c.into_book.ensures.kept c.in-Ok.ensures.root c.in-Ok.ensures.log) in
    subst (IsFinished c.args.self.start passes) (sym c.into_book.ensures.book) (done c.args.self c.self.view_is)
