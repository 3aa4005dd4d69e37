use Rattle.std.proofs.Common.{◌≡◌, Bool, List, Some, false, length, get_or, ap, ◌∙◌, arith, to_z, of_z}
use Rattle.bound_checker.proofs.Common.{w128, with_items_is, lesser, Usable, usable_of, leaf_value, rounded_up, standing_of, Decision, Agree, leaf_value_agrees}
use Rattle.std.proofs.lemmas.Int.{to_z-of_z}
use Rattle.bound_checker.proofs.LeafLemmas.{small_fits}
use Rattle.bound_checker.proofs.lemmas.WalkLemmas.{coming_left}
use Rattle.bound_checker.proofs.walk.Walk.visit_leaf.Goals as goal

pub returns-clause-ok : goal.returns-clause-ok
returns-clause-ok c =
    let g = c.args.graph.now in
    let walk = c.args.self.now in
    let u : Usable = (standing_of g walk.decisions.items).usable in
    let us = c.mark_allowed.new.allowed in
    let long : length us ≡ length g.rows = c.mark_allowed.ensures.len ∙ ap length c.deref_mut.ensures.value ∙ c.requires.ready.allowed in
    let items = with_items_is walk.allowed us (omega (arith, long, c.requires.ready.allowed, walk.allowed.ok.0)) in
    let agree : Agree g (usable_of c.deref.result.now) u = λ k l. ap (λ (xs : List Bool). get_or xs k false) (c.deref.ensures.value ∙ items) ∙
    c.mark_allowed.ensures.allowed k l ∙ ap (λ (p : List Decision). (standing_of g p).usable k) c.as_slice.ensures.value in
    let ms = c.args.multipliers.now in
    let a : to_z w128 (of_z w128 c.in_ok-shown.shown) ≡ c.in_ok-shown.shown = to_z-of_z w128 c.in_ok-shown.shown
    (small_fits c.in_ok-shown.shown c.in_ok-shown.ensures.small) in
    let b : to_z w128 (of_z w128 c.seconds-value.result) ≡ c.seconds-value.result = to_z-of_z w128 c.seconds-value.result
    (record { sfits = c.seconds-value.type_inv }) in
    let d : to_z w128 (of_z w128 c.lesser.result) ≡ c.lesser.result = to_z-of_z w128 c.lesser.result (record { sfits = c.lesser.type_inv }) in
    let value : c.seconds-value.result ≡ rounded_up (leaf_value g u ms) =
    c.seconds-value.ensures ∙ ap rounded_up (a ∙ c.in_ok-shown.ensures.value ∙ leaf_value_agrees g (usable_of c.deref.result.now) u ms agree) in
    record {
      sound = c.if-multipliers-rider_count.false ∙ c.rider_count.ensures.value;
      coming = coming_left g c.in_ok-more.more walk.decisions.items c.leave.new.decisions.items (c.in_ok-more.ensures.next g);
      least = ap Some (d ∙ c.lesser.ensures.value ∙ ap (lesser walk.least) (b ∙ value));
      ready = record {
        decisions = c.in_ok-more.ensures.path g c.requires.ready.decisions;
        allowed = ap length items ∙ long;
      };
    }
