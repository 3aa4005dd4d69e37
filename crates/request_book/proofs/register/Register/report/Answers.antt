use Rattle.std.proofs.Common.{List, Some, None, refl, sym, ap, ◌∙◌}
use Rattle.request_book.proofs.Common.{Vehicle, Reply, Placed, State, state_of, stands_at}
use Rattle.request_book.proofs.lemmas.register.IndexLemmas.{vehicle-set, IsIndexed-vehicle}
use Rattle.request_book.proofs.lemmas.register.StepLemmas.{report-unknown, report-known}
use Rattle.request_book.proofs.register.Register.report.Goals as goal

pub returns-in_default-clause-stepped : goal.returns-in_default-clause-stepped
returns-in_default-clause-stepped c = report-unknown (state_of c.args.self.now) c.args.nodes.now.names c.args.vehicle c.args.node c.args.time
    c.in_default.ensures

pub returns-in-Some-first_of-clause-stepped : goal.returns-in-Some-first_of-clause-stepped
returns-in-Some-first_of-clause-stepped c =
    let v = c.index.result.now in
    report-known (state_of c.args.self.now) c.args.nodes.now.names c.args.vehicle c.args.node c.args.time v (Some c.in-Some-first_of.refusal) _ _
    (c.in-Some.ensures.1 v ∙ ap Some (sym c.index.ensures)) (sym c.in-Some-first_of.is ∙ c.first_of.ensures) c.unknown_node.ensures c.time_back.ensures

pub returns-in-None-clause-stepped : goal.returns-in-None-clause-stepped
returns-in-None-clause-stepped c =
    let g = c.args.self.now in
    let v = c.index.result.now in
    let changed = vehicle-set (stands_at c.args.node c.args.time) c.args.vehicle c.in-Some.at g.vehicles.items c.index_mut.result.now c.stand.new.vehicle
    c.requires.vehicles c.in-Some.ensures.0 c.in-Some.ensures.1 c.index_mut.ensures.value c.stand.ensures in
    let Made : Type 0 = State × Reply in
    let pair : List Vehicle → Made = λ us. (record (state_of g) { vehicles = us }, Placed) in
    ap pair changed
    ∙ report-known (state_of g) c.args.nodes.now.names c.args.vehicle c.args.node c.args.time v None _ _ (c.in-Some.ensures.1 v ∙ ap Some (sym c.index.ensures))
    (sym c.in-None.is ∙ c.first_of.ensures) c.unknown_node.ensures c.time_back.ensures

pub returns-in-None-clause-indexed : goal.returns-in-None-clause-indexed
returns-in-None-clause-indexed c =
    let g = c.args.self.now in
    let f = stands_at c.args.node c.args.time in
    let changed = vehicle-set f c.args.vehicle c.in-Some.at g.vehicles.items c.index_mut.result.now c.stand.new.vehicle c.requires.vehicles c.in-Some.ensures.0
    c.in-Some.ensures.1 c.index_mut.ensures.value c.stand.ensures in
    IsIndexed-vehicle g _ f c.args.vehicle (λ v. refl) changed c.requires
