use Rattle.std.proofs.Common.{
  ◌≡◌,
  ◌+◌,
  ◌<◌,
  Bool,
  List,
  [],
  ◌∷◌,
  ◌++◌,
  Option,
  ℤ,
  Some,
  length,
  get_or,
  take,
  pos,
  refl,
  sym,
  ap,
  ◌∙◌,
  subst,
  arith,
  to_z,
  of_z,
  take_all,
  unwrap_or,
}
use Rattle.bound_checker.proofs.Common.{
  w128,
  take_more,
  Usable,
  standing_of,
  every_row,
  least_leaf,
  IsTreeOfValue,
  ReadsTo,
  places_read,
  value_read,
  IsWholeTree,
  Node,
  reads_push,
  coming_of,
}
use Rattle.std.proofs.lemmas.Int.{to_z-of_z}
use Rattle.std.proofs.lemmas.Option.{slice_get-get_or}
use Rattle.plan_rules.specs.Plan.{IsBound}
use Rattle.plan_rules.proofs.lemmas.TreeLemmas.{tree_value_bounds}
use Rattle.plan_rules.proofs.lemmas.SearchTreeLemmas.{tree_of_value}
use Rattle.plan_rules.proofs.lemmas.PathLemmas.{coming_start, path_none}
use Rattle.bound_checker.proofs.lemmas.WalkLemmas.{fault_here, least_more}
use Rattle.bound_checker.proofs.checker.check.Goals as goal

pub loop-place-init : goal.loop-place-init
loop-place-init c = record {
  reads = coming_start c.args.graph.now c.new.result.items c.new.ensures.items;
  least = refl;
  ready = record {
    decisions = path_none c.args.graph.now c.new.result.items c.new.ensures.items;
    allowed = omega (arith, c.in_ok-allowed.ensures.len, c.in_ok-allowed.allowed.ok.0, ap length c.rows.ensures.value);
  };
}

pub loop-place-preserved : goal.loop-place-preserved
loop-place-preserved c =
    let g = c.args.graph.now in
    let nodes : List Node = c.args.tree.now in
    let i = c.loop-place.place in
    let node : Node = c.node-item.result in
    let path = c.loop-place.walk.decisions.items in
    let u : Usable = (standing_of g path).usable in
    let later : List Usable = (standing_of g path).coming in
    let low : i < length nodes = omega (arith, ap length c.nodes-node-items.ensures) in
    let here : node ≡ get_or nodes i node = c.node-item.is ∙ ap (λ (xs : List Node). get_or xs i node) c.nodes-node-items.ensures in
    let reads : ReadsTo g (every_row ∷ []) (take i nodes) (u ∷ later) = subst (λ (b : Bool). ReadsTo g (every_row ∷ []) (take i nodes) (coming_of g b path))
    c.if-walk.false c.loop-place.invariant.reads in
    let more : take (i + 1) nodes ≡ take i nodes ++ node ∷ [] = take_more nodes i node low ∙ ap (λ (n : Node). take i nodes ++ n ∷ []) (sym here) in
    let visit = c.in-Ok.ensures.ok in
    let new = c.visit.new.self in
    let pushed = reads_push g (take i nodes) node (every_row ∷ []) u later reads visit.sound in
    record {
      reads = subst (λ (xs : List Node). ReadsTo g (every_row ∷ []) xs (coming_of g new.ended new.decisions.items)) (sym more)
          (subst (λ (us : List Usable). ReadsTo g (every_row ∷ []) (take i nodes ++ node ∷ []) us) (sym visit.coming) pushed);
      least = least_more g nodes i node u later c.loop-place.walk.least new.least more reads c.loop-place.invariant.least visit.least;
      ready = visit.ready;
    }

pub returns-in-Err-clause-fault : goal.returns-in-Err-clause-fault
returns-in-Err-clause-fault c =
    let g = c.args.graph.now in
    let nodes : List Node = c.args.tree.now in
    let i = c.loop-place.place in
    let node : Node = c.node-item.result in
    let path = c.loop-place.walk.decisions.items in
    let u : Usable = (standing_of g path).usable in
    let later : List Usable = (standing_of g path).coming in
    let low : i < length nodes = omega (arith, ap length c.nodes-node-items.ensures) in
    let here : node ≡ get_or nodes i node = c.node-item.is ∙ ap (λ (xs : List Node). get_or xs i node) c.nodes-node-items.ensures in
    let reads : ReadsTo g (every_row ∷ []) (take i nodes) (u ∷ later) = subst (λ (b : Bool). ReadsTo g (every_row ∷ []) (take i nodes) (coming_of g b path))
    c.if-walk.false c.loop-place.invariant.reads in
    fault_here g nodes i u later node c.in-Err.fault reads low (slice_get-get_or nodes i node low ∙ ap Some (sym here)) c.in-Err.ensures.err

pub returns-then-walk-clause-fault : goal.returns-then-walk-clause-fault
returns-then-walk-clause-fault c =
    let g = c.args.graph.now in
    let i = c.loop-place.place in
    record {
      before = subst (λ (b : Bool). ReadsTo g (every_row ∷ []) (take i c.args.tree.now) (coming_of g b c.loop-place.walk.decisions.items)) c.if-walk.true
          c.loop-place.invariant.reads;
      within = omega (arith, ap length c.nodes-node-items.ensures);
    }

pub returns-then-not-walk-clause-fault : goal.returns-then-not-walk-clause-fault
returns-then-not-walk-clause-fault c =
    let g = c.args.graph.now in
    let nodes : List Node = c.args.tree.now in
    let i = c.loop-place.place in
    let path = c.loop-place.walk.decisions.items in
    let whole : take i nodes ≡ nodes = take_all i nodes (omega (arith, ap length c.nodes-node-items.ensures)) in
    let reads = subst (λ (b : Bool). ReadsTo g (every_row ∷ []) (take i nodes) (coming_of g b path)) c.if-not-walk.true c.loop-place.invariant.reads in
    record {
      usable = (standing_of g path).usable;
      later = (standing_of g path).coming;
      before =
          subst (λ (xs : List Node). ReadsTo g (every_row ∷ []) xs ((standing_of g path).usable ∷ (standing_of g path).coming)) whole reads;
    }

pub returns-clause-tree : goal.returns-clause-tree
returns-clause-tree c =
    let g = c.args.graph.now in
    let nodes : List Node = c.args.tree.now in
    let i = c.loop-place.place in
    let whole : take i nodes ≡ nodes = take_all i nodes (omega (arith, ap length c.nodes-node-items.ensures)) in
    let back : to_z w128 (of_z w128 c.unwrap_or.result) ≡ c.unwrap_or.result = to_z-of_z w128 c.unwrap_or.result (record { sfits = c.unwrap_or.type_inv }) in
    let value : to_z w128 (of_z w128 c.unwrap_or.result) ≡ value_read g nodes = back ∙ c.unwrap_or.ensures ∙
    ap (λ (o : Option ℤ). unwrap_or o (pos 0)) (c.loop-place.invariant.least ∙ ap (λ (xs : List Node). least_leaf g (places_read g xs)) whole) in
    let ended : ReadsTo g (every_row ∷ []) (take i nodes) [] = subst (λ (b : Bool). ReadsTo g (every_row ∷ []) (take i nodes)
    (coming_of g b c.loop-place.walk.decisions.items)) c.if-not-walk.false c.loop-place.invariant.reads in
    let sound : IsWholeTree g nodes = subst (λ (xs : List Node). ReadsTo g (every_row ∷ []) xs []) whole ended in
    subst (IsTreeOfValue g nodes) (sym value) (tree_of_value g nodes sound)

pub returns-clause-bound : goal.returns-clause-bound
returns-clause-bound c =
    let g = c.args.graph.now in
    let nodes : List Node = c.args.tree.now in
    let i = c.loop-place.place in
    let whole : take i nodes ≡ nodes = take_all i nodes (omega (arith, ap length c.nodes-node-items.ensures)) in
    let back : to_z w128 (of_z w128 c.unwrap_or.result) ≡ c.unwrap_or.result = to_z-of_z w128 c.unwrap_or.result (record { sfits = c.unwrap_or.type_inv }) in
    let value : to_z w128 (of_z w128 c.unwrap_or.result) ≡ value_read g nodes = back ∙ c.unwrap_or.ensures ∙
    ap (λ (o : Option ℤ). unwrap_or o (pos 0)) (c.loop-place.invariant.least ∙ ap (λ (xs : List Node). least_leaf g (places_read g xs)) whole) in
    let ended : ReadsTo g (every_row ∷ []) (take i nodes) [] = subst (λ (b : Bool). ReadsTo g (every_row ∷ []) (take i nodes)
    (coming_of g b c.loop-place.walk.decisions.items)) c.if-not-walk.false c.loop-place.invariant.reads in
    let sound : IsWholeTree g nodes = subst (λ (xs : List Node). ReadsTo g (every_row ∷ []) xs []) whole ended in
    subst (IsBound g) (sym value) (tree_value_bounds g nodes c.rows.ensures.good sound)
