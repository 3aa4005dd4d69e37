use Rattle.std.proofs.Common.{◌≡◌, Bool, List, false, length, get_or, refl, ap, ◌∙◌, arith}
use Rattle.bound_checker.proofs.Common.{both_ways, with_items_is, Usable, usable_of, standing_of, Decision, Agree, agree_back, dead_end_agrees}
use Rattle.bound_checker.proofs.lemmas.WalkLemmas.{coming_left}
use Rattle.bound_checker.proofs.walk.Walk.visit_dead.Goals as goal

pub returns-then-not-dead-clause-err : goal.returns-then-not-dead-clause-err
returns-then-not-dead-clause-err c =
    let g = c.args.graph.now in
    let walk = c.args.self.now in
    let u : Usable = (standing_of g walk.decisions.items).usable in
    let us = c.mark_allowed.new.allowed in
    let long : length us ≡ length g.rows = c.mark_allowed.ensures.len ∙ ap length c.deref_mut.ensures.value ∙ c.requires.ready.allowed in
    let items = with_items_is walk.allowed us (omega (arith, long, c.requires.ready.allowed, walk.allowed.ok.0)) in
    let agree : Agree g (usable_of c.deref.result.now) u = λ k l. ap (λ (xs : List Bool). get_or xs k false) (c.deref.ensures.value ∙ items) ∙
    c.mark_allowed.ensures.allowed k l ∙ ap (λ (p : List Decision). (standing_of g p).usable k) c.as_slice.ensures.value in (
      refl,
      refl,
      λ dead. both_ways _ c.if-not-dead.true
          (c.in_ok-dead.ensures.1 (dead_end_agrees g u (usable_of c.deref.result.now) (agree_back g (usable_of c.deref.result.now) u agree) dead)),
    )

pub returns-clause-ok : goal.returns-clause-ok
returns-clause-ok c =
    let g = c.args.graph.now in
    let walk = c.args.self.now in
    let u : Usable = (standing_of g walk.decisions.items).usable in
    let us = c.mark_allowed.new.allowed in
    let long : length us ≡ length g.rows = c.mark_allowed.ensures.len ∙ ap length c.deref_mut.ensures.value ∙ c.requires.ready.allowed in
    let items = with_items_is walk.allowed us (omega (arith, long, c.requires.ready.allowed, walk.allowed.ok.0)) in
    let agree : Agree g (usable_of c.deref.result.now) u = λ k l. ap (λ (xs : List Bool). get_or xs k false) (c.deref.ensures.value ∙ items) ∙
    c.mark_allowed.ensures.allowed k l ∙ ap (λ (p : List Decision). (standing_of g p).usable k) c.as_slice.ensures.value in
    record {
      sound = dead_end_agrees g (usable_of c.deref.result.now) u agree (c.in_ok-dead.ensures.0 c.if-not-dead.false);
      coming = coming_left g c.in_ok-more.more walk.decisions.items c.leave.new.decisions.items (c.in_ok-more.ensures.next g);
      least = refl;
      ready = record {
        decisions = c.in_ok-more.ensures.path g c.requires.ready.decisions;
        allowed = ap length items ∙ long;
      };
    }
