use Rattle.std.proofs.Common.{◌≡◌, ◌∷◌, [], ◌++◌, ◌+◌, ◌<◌, Bool, true, false, List, length, get_or, take, All, rules, sym, ap, ◌∙◌, subst, arith, take_all}
use Rattle.report_audit.proofs.Common.{
  both_ways,
  take_more,
  with_items_is,
  Usable,
  usable_of,
  standing_of,
  ReadsTo,
  places_read,
  every_row,
  Place,
  Node,
  reads_push,
  places_are,
  Agree,
  agree_back,
  IsFairNode,
  coming_of,
  coming_start,
  path_none,
}
use Rattle.report_audit.proofs.lemmas.points.FaultLemmas.{whole_of_value}
use Rattle.report_audit.proofs.lemmas.points.NodeLemmas.{has_multipliers, fair_agrees, fair_at, sound_at, places_more}
use Rattle.report_audit.proofs.points.nodes.is_fair.Goals as goal

pub loop-node-init : goal.loop-node-init
loop-node-init c = record {
  reads = coming_start c.args.graph.now c.new.result c.new.ensures;
  path = path_none c.args.graph.now c.new.result c.new.ensures;
  sized = omega (arith, c.in_ok-usable.ensures.len, c.in_ok-usable.usable.ok.0, ap length c.rows.ensures.value);
  fair = λ k d l. absurd (omega arith);
}

pub returns-then-walk : goal.returns-then-walk
returns-then-walk c =
    let g = c.args.graph.now in
    let nodes : List Node = c.args.tree.now in
    let i = c.loop-node.node-index in
    let node : Node = c.node-item.result in
    let whole = whole_of_value g nodes c.args.bound.now c.requires in
    let low : i < length nodes = omega (arith, ap length c.nodes-node-items.ensures) in
    let here : node ≡ get_or nodes i node = c.node-item.is ∙ ap (λ (xs : List Node). get_or xs i node) c.nodes-node-items.ensures in
    let ended : ReadsTo g (every_row ∷ []) (take i nodes) [] = subst (λ (b : Bool). ReadsTo g (every_row ∷ []) (take i nodes)
    (coming_of g b c.loop-node.walk.path)) c.if-walk.true c.loop-node.invariant.reads in
    absurd (sound_at g nodes i [] node whole low here ended)

pub is_fair_node-requires-clause-sound : goal.is_fair_node-requires-clause-sound
is_fair_node-requires-clause-sound c =
    let g = c.args.graph.now in
    let nodes : List Node = c.args.tree.now in
    let i = c.loop-node.node-index in
    let node : Node = c.node-item.result in
    let path = c.loop-node.walk.path in
    let u : Usable = (standing_of g path).usable in
    let later : List Usable = (standing_of g path).coming in
    let whole = whole_of_value g nodes c.args.bound.now c.requires in
    let low : i < length nodes = omega (arith, ap length c.nodes-node-items.ensures) in
    let here : node ≡ get_or nodes i node = c.node-item.is ∙ ap (λ (xs : List Node). get_or xs i node) c.nodes-node-items.ensures in
    let reads : ReadsTo g (every_row ∷ []) (take i nodes) (u ∷ later) = subst (λ (b : Bool). ReadsTo g (every_row ∷ []) (take i nodes) (coming_of g b path))
    c.if-walk.false c.loop-node.invariant.reads in
    has_multipliers g u node ((sound_at g nodes i (u ∷ later) node whole low here reads).0)

pub returns-then-not-branch : goal.returns-then-not-branch
returns-then-not-branch c =
    let g = c.args.graph.now in
    let nodes : List Node = c.args.tree.now in
    let bound = c.args.bound.now in
    let i = c.loop-node.node-index in
    let node : Node = c.node-item.result in
    let path = c.loop-node.walk.path in
    let u : Usable = (standing_of g path).usable in
    let later : List Usable = (standing_of g path).coming in
    let whole = whole_of_value g nodes c.args.bound.now c.requires in
    let low : i < length nodes = omega (arith, ap length c.nodes-node-items.ensures) in
    let here : node ≡ get_or nodes i node = c.node-item.is ∙ ap (λ (xs : List Node). get_or xs i node) c.nodes-node-items.ensures in
    let reads : ReadsTo g (every_row ∷ []) (take i nodes) (u ∷ later) = subst (λ (b : Bool). ReadsTo g (every_row ∷ []) (take i nodes) (coming_of g b path))
    c.if-walk.false c.loop-node.invariant.reads in
    let us = c.mark_usable.new.usable in
    let sized = c.loop-node.invariant.sized in
    let long : length us ≡ length g.rows = c.mark_usable.ensures.len ∙ ap length c.deref_mut.ensures.value ∙ sized in
    let items = with_items_is c.loop-node.usable us (omega (arith, long, sized, c.loop-node.usable.ok.0)) in
    let agree : Agree g (usable_of c.deref.result.now) u = λ k l. ap (λ (xs : List Bool). get_or xs k false) (c.deref.ensures.value ∙ items) ∙
    c.mark_usable.ensures.usable k l in (
      λ no. absurd (let f : false ≡ true = no in cc),
      λ fair.
          let read = sym (places_are g nodes fair.tree fair.shape) in
          let own : IsFairNode g bound u node = fair_at g (λ (p : Place). IsFairNode g bound p.usable p.node) nodes i u later node low here reads
          (subst (λ (ps : List Place). All (λ (p : Place). IsFairNode g bound p.usable p.node) ps) read fair.fair) in
          absurd (both_ways _ c.if-not-branch.true
          (c.in_ok-is_fair_node.ensures.1 (fair_agrees g bound u (usable_of c.deref.result.now) node (agree_back g (usable_of c.deref.result.now) u agree)
          own))),
    )

pub loop-node-preserved : goal.loop-node-preserved
loop-node-preserved c =
    let g = c.args.graph.now in
    let nodes : List Node = c.args.tree.now in
    let bound = c.args.bound.now in
    let i = c.loop-node.node-index in
    let node : Node = c.node-item.result in
    let path = c.loop-node.walk.path in
    let u : Usable = (standing_of g path).usable in
    let later : List Usable = (standing_of g path).coming in
    let whole = whole_of_value g nodes c.args.bound.now c.requires in
    let low : i < length nodes = omega (arith, ap length c.nodes-node-items.ensures) in
    let here : node ≡ get_or nodes i node = c.node-item.is ∙ ap (λ (xs : List Node). get_or xs i node) c.nodes-node-items.ensures in
    let reads : ReadsTo g (every_row ∷ []) (take i nodes) (u ∷ later) = subst (λ (b : Bool). ReadsTo g (every_row ∷ []) (take i nodes) (coming_of g b path))
    c.if-walk.false c.loop-node.invariant.reads in
    let sound = (sound_at g nodes i (u ∷ later) node whole low here reads).0 in
    let us = c.mark_usable.new.usable in
    let sized = c.loop-node.invariant.sized in
    let long : length us ≡ length g.rows = c.mark_usable.ensures.len ∙ ap length c.deref_mut.ensures.value ∙ sized in
    let items = with_items_is c.loop-node.usable us (omega (arith, long, sized, c.loop-node.usable.ok.0)) in
    let agree : Agree g (usable_of c.deref.result.now) u = λ k l. ap (λ (xs : List Bool). get_or xs k false) (c.deref.ensures.value ∙ items) ∙
    c.mark_usable.ensures.usable k l in
    let more : take (i + 1) nodes ≡ take i nodes ++ node ∷ [] = take_more nodes i node low ∙ ap (λ (n : Node). take i nodes ++ n ∷ []) (sym here) in
    let new = c.pass.new.self in
    record {
      reads = subst (λ (xs : List Node). ReadsTo g (every_row ∷ []) xs (coming_of g new.ended new.path)) (sym more)
          (subst (λ (us : List Usable). ReadsTo g (every_row ∷ []) (take i nodes ++ node ∷ []) us) (sym (c.in_ok-pass.ensures.next g))
          (reads_push g (take i nodes) node (every_row ∷ []) u later reads sound));
      path = c.in_ok-pass.ensures.path g c.rows.ensures.good sound c.loop-node.invariant.path;
      sized = ap length items ∙ long;
      fair = places_more g (λ (p : Place). IsFairNode g bound p.usable p.node) nodes i u later node low here reads c.loop-node.invariant.fair
          (fair_agrees g bound (usable_of c.deref.result.now) u node agree (c.in_ok-is_fair_node.ensures.0 c.if-not-branch.false));
    }

pub returns : goal.returns
returns c =
    let g = c.args.graph.now in
    let nodes : List Node = c.args.tree.now in
    let i = c.loop-node.node-index in
    let whole : take i nodes ≡ nodes = take_all i nodes (omega (arith, ap length c.nodes-node-items.ensures)) in
    let fair : All (λ p. IsFairNode g c.args.bound.now p.usable p.node) (places_read g nodes) =
    subst (λ (xs : List Node). All (λ p. IsFairNode g c.args.bound.now p.usable p.node) (places_read g xs)) whole c.loop-node.invariant.fair in
    let made = c.requires in
    let placed = subst (λ (ps : List Place). All (λ (p : Place). IsFairNode g c.args.bound.now p.usable p.node) ps) (places_are g nodes made.0 made.1) fair in
    (λ t. record { tree = made.0; shape = made.1; fair = placed }, λ f. search rules)
