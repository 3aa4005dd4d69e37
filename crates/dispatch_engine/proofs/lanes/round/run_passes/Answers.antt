use Rattle.std.proofs.Common.{◌≡◌, All, true, List, length, map, sym, subst, arith}
use Rattle.dispatch_engine.proofs.Common.{IfOk-weaker, AreAllPasses, HaveRunLanes, LaneWork}
use Rattle.dispatch_engine.proofs.lanes.CrewLemmas.{rest-ready, passes-all, passes-run}
use Rattle.dispatch_engine.proofs.lanes.round.run_passes.Goals as goal

pub work_all-requires-clause-fresh : goal.work_all-requires-clause-fresh
work_all-requires-clause-fresh g c κs within = rest-ready c.args.book.now c.args.passes.items c.requires.passes c.requires.fresh c.requires.lanes.1

pub returns-then-are_done-clause-passes : goal.returns-then-are_done-clause-passes
returns-then-are_done-clause-passes g c =
    let book = c.args.book.now in
    let crew = c.in_ok-crew.crew.items in
    let len : length crew ≡ book.lanes = omega (arith, c.in_ok-crew.ensures.len, c.in_ok-crew.crew.ok.0, c.args.passes.ok.0, c.requires.passes.len) in
    IfOk-weaker c.passes_of.result (λ passes. passes.items ≡ map (λ w. w.pass) crew) _
    (λ passes is. subst (AreAllPasses book) (sym is) (passes-all c.args.solver.now.settings.now c.args.solver.now.network.now c.args.round.now book crew
    c.in_ok-crew.ensures.worked c.in_ok-crew.ensures.order len))
    c.passes_of.ensures

pub returns-then-are_done-clause-run : goal.returns-then-are_done-clause-run
returns-then-are_done-clause-run g c =
    let crew = c.in_ok-crew.crew.items in
    let done : All (λ w. w.done ≡ true) crew = subst (λ (ws : List LaneWork). All (λ w. w.done ≡ true) ws) c.as_slice.ensures.value
    (c.are_done.ensures c.if-are_done.true) in
    IfOk-weaker c.passes_of.result (λ passes. passes.items ≡ map (λ w. w.pass) crew) _
    (λ passes is. subst (HaveRunLanes c.args.solver.now.settings.now c.args.solver.now.network.now c.args.round.now) (sym is)
    (passes-run c.args.solver.now.settings.now c.args.solver.now.network.now c.args.round.now c.args.book.now crew c.in_ok-crew.ensures.worked
    c.in_ok-crew.ensures.order done))
    c.passes_of.ensures
