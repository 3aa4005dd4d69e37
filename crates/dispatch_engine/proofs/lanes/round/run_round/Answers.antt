use Rattle.std.proofs.Common.{◌≡◌, sym, ap, subst, ◌∙◌}
use Rattle.dispatch_engine.proofs.Common.{IfOk-weaker, BookView, IsBook, IsReady, IsSameRun, IsSharedBy}
use Rattle.dispatch_engine.proofs.lanes.RoundLemmas.{same-ready, same-run}
use Rattle.dispatch_engine.proofs.lanes.round.run_round.Goals as goal

pub run_shared-requires-clause-empty : goal.run_shared-requires-clause-empty
run_shared-requires-clause-empty g c κs within =
    let is : c.in-Ok.shared.start ≡ c.in_ok-book.book = (let a = c.in-Ok.ensures.book.0 in let b = c.in-Ok.shared-is in cc) in
    ap (λ (b : BookView). b.entries) is ∙ c.in_ok-book.ensures.entries ∙ c.requires.empty

pub run_shared-requires-clause-kept : goal.run_shared-requires-clause-kept
run_shared-requires-clause-kept g c κs within =
    let is : c.in-Ok.shared.start ≡ c.in_ok-book.book = (let a = c.in-Ok.ensures.book.0 in let b = c.in-Ok.shared-is in cc) in
    subst IsBook (sym is) c.keeps.ensures

pub run_shared-requires-clause-ready : goal.run_shared-requires-clause-ready
run_shared-requires-clause-ready g c κs within =
    let settings = c.args.solver.now.settings.now in
    let roads = c.args.solver.now.network.now in
    let is : c.in-Ok.shared.start ≡ c.in_ok-book.book = (let a = c.in-Ok.ensures.book.0 in let b = c.in-Ok.shared-is in cc) in
    subst (IsReady settings roads) (sym is) (same-ready settings roads c.args.book c.in_ok-book.book c.in_ok-book.ensures c.requires.ready)

pub run_shared-requires-clause-lanes : goal.run_shared-requires-clause-lanes
run_shared-requires-clause-lanes g c κs within =
    let lanes : c.in-Ok.shared.lanes ≡ c.lanes_in_use.result = (let a = c.in-Ok.ensures.book.1 in let b = c.in-Ok.shared-is in cc) in
    let enough : IsSharedBy c.args.round.now c.lanes_in_use.result =
    record {
      kept = c.lanes_in_use.ensures.kept;
      some = c.lanes_in_use.ensures.some.0;
      few = c.lanes_in_use.ensures.some.1;
      rest = c.lanes_in_use.ensures.rest;
    }
    in
    subst (IsSharedBy c.args.round.now) (sym lanes) enough

pub returns-in-Ok-clause-same : goal.returns-in-Ok-clause-same
returns-in-Ok-clause-same g c =
    let is : c.in-Ok.shared.start ≡ c.in_ok-book.book = (let a = c.in-Ok.ensures.book.0 in let b = c.in-Ok.shared-is in cc) in
    IfOk-weaker c.run_shared.result (IsSameRun c.in-Ok.shared.start) _
    (λ after run. same-run c.args.book c.in_ok-book.book after c.in_ok-book.ensures (subst (λ (b : BookView). IsSameRun b after) is run))
    c.run_shared.ensures.same
