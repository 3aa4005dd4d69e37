use Rattle.std.proofs.Common.{◌≡◌, ◌<◌, Bool, List, true, false, length, get_or, refl, sym, ap, ◌∙◌, subst, arith}
use Rattle.bound_checker.proofs.Common.{
  both_ways,
  with_items_is,
  Usable,
  usable_of,
  standing_of,
  IsPathOf,
  Decision,
  Agree,
  agree_back,
  can_branch_agrees,
  coming_of,
}
use Rattle.plan_rules.proofs.lemmas.PathLemmas.{coming_entered, path_push}
use Rattle.bound_checker.proofs.walk.Walk.visit_branch.Goals as goal

pub returns-then-not-can_branch-clause-err : goal.returns-then-not-can_branch-clause-err
returns-then-not-can_branch-clause-err c =
    let g = c.args.graph.now in
    let walk = c.args.self.now in
    let u : Usable = (standing_of g walk.decisions.items).usable in
    let us = c.mark_allowed.new.allowed in
    let long : length us ≡ length g.rows = c.mark_allowed.ensures.len ∙ ap length c.deref_mut.ensures.value ∙ c.requires.ready.allowed in
    let items = with_items_is walk.allowed us (omega (arith, long, c.requires.ready.allowed, walk.allowed.ok.0)) in
    let agree : Agree g (usable_of c.deref.result.now) u = λ k l. ap (λ (xs : List Bool). get_or xs k false) (c.deref.ensures.value ∙ items) ∙
    c.mark_allowed.ensures.allowed k l ∙ ap (λ (p : List Decision). (standing_of g p).usable k) c.as_slice.ensures.value in (
      refl,
      (
        c.args.vehicle,
        c.args.row,
        refl,
        λ can. both_ways _ c.if-not-can_branch.true
            (c.can_branch.ensures.value.1 (can_branch_agrees g u (usable_of c.deref.result.now) c.args.vehicle c.args.row
            (agree_back g (usable_of c.deref.result.now) u agree) can)),
      ),
    )

pub returns-clause-ok : goal.returns-clause-ok
returns-clause-ok c =
    let g = c.args.graph.now in
    let walk = c.args.self.now in
    let u : Usable = (standing_of g walk.decisions.items).usable in
    let us = c.mark_allowed.new.allowed in
    let long : length us ≡ length g.rows = c.mark_allowed.ensures.len ∙ ap length c.deref_mut.ensures.value ∙ c.requires.ready.allowed in
    let items = with_items_is walk.allowed us (omega (arith, long, c.requires.ready.allowed, walk.allowed.ok.0)) in
    let agree : Agree g (usable_of c.deref.result.now) u = λ k l. ap (λ (xs : List Bool). get_or xs k false) (c.deref.ensures.value ∙ items) ∙
    c.mark_allowed.ensures.allowed k l ∙ ap (λ (p : List Decision). (standing_of g p).usable k) c.as_slice.ensures.value in
    let can = can_branch_agrees g (usable_of c.deref.result.now) u c.args.vehicle c.args.row agree (c.can_branch.ensures.value.0 c.if-not-can_branch.false) in
    let row = can.row.row in
    let vehicle : c.args.vehicle < g.vehicles = c.can_branch.ensures.vehicle c.if-not-can_branch.false in
    let entered = c.in_ok-enter.ensures in
    record {
      sound = can;
      coming = ap (λ (b : Bool). coming_of g b c.enter.new.decisions.items) c.requires.running ∙
          coming_entered g walk.decisions.items c.enter.new.decisions.items c.args.vehicle c.args.row entered;
      least = refl;
      ready = record {
        decisions = subst (IsPathOf g) (sym entered) (path_push g walk.decisions.items (record { vehicle = c.args.vehicle; row = c.args.row; alone = true })
            c.requires.ready.decisions (vehicle, row));
        allowed = ap length items ∙ long;
      };
    }
