-- A walk through a tree.
use Rattle.std.proofs.Common.{
  ◌≡◌,
  ℕ,
  ◌+◌,
  ◌<◌,
  Bool,
  true,
  false,
  not,
  List,
  [],
  ◌∷◌,
  ◌++◌,
  length,
  take,
  slice_get,
  Option,
  Some,
  ℤ,
  MatchBool,
  sym,
  ap,
  ◌∙◌,
  subst,
}
use Rattle.bound_checker.proofs.Common.{
  Graph,
  Usable,
  every_row,
  least_leaf,
  with_leaf,
  ReadsTo,
  places_read,
  standing_of,
  Node,
  Decision,
  places_push,
  least_leaf_push,
  coming_of,
  IsNodeFault,
}
use Rattle.plan_rules.specs.declared.node.Node.TheVariants.{Branch, Leaf, Dead}
use Rattle.bound_checker.specs.declared.fault.CheckFault.{CheckFault}
use Rattle.bound_checker.specs.declared.fault.CheckFault.TheVariants.{BadBranch, BadLeaf, BadDead, Unfinished, Extra, OutOfMemory}
use Rattle.bound_checker.specs.Fault.{IsTreeFault, IsReached}

-- what is to come after an end
pub coming_left : (g : Graph) (b : Bool) (old new : List Decision) → MatchBool b ((standing_of g old).coming ≡ (standing_of g new).usable ∷
    (standing_of g new).coming) ((standing_of g old).coming ≡ []) → coming_of g (not b) new ≡ (standing_of g old).coming
coming_left g true old new h = sym h
coming_left g false old new h = sym h

-- a fault of the node where the walk stands is one of the tree
pub fault_here : (g : Graph) (nodes : List Node) (i : ℕ) (usable : Usable) (later : List Usable) (node : Node) (f : CheckFault) →
    ReadsTo g (every_row ∷ []) (take i nodes) (usable ∷ later) → i < length nodes → slice_get nodes i ≡ Some node → IsNodeFault usable g node i f →
    IsTreeFault g nodes f
fault_here g nodes i usable later node (BadBranch j) reads within here h =
    let k = h.1 in
    record {
      usable = usable;
      later = later;
      vehicle = k.0;
      row = k.1;
      reached = subst (λ (q : ℕ). IsReached g nodes q (usable ∷ later) (Branch (k.0) (k.1))) (sym (h.0))
          (record { before = reads; within = within; here = here ∙ ap Some (k.2) });
      wrong = k.3;
    }
fault_here g nodes i usable later node (BadLeaf j) reads within here h =
    let k = h.1 in
    record {
      usable = usable;
      later = later;
      multipliers = k.0;
      reached = subst (λ (q : ℕ). IsReached g nodes q (usable ∷ later) (Leaf (k.0))) (sym (h.0))
          (record { before = reads; within = within; here = here ∙ ap Some (k.1) });
      wrong = k.2;
    }
fault_here g nodes i usable later node (BadDead j) reads within here h = record {
  usable = usable;
  later = later;
  reached = subst (λ (q : ℕ). IsReached g nodes q (usable ∷ later) Dead) (sym (h.0)) (record { before = reads; within = within; here = here ∙ ap Some (h.1) });
  wrong = h.2;
}
fault_here g nodes i usable later node Unfinished reads within here h = absurd h
fault_here g nodes i usable later node (Extra j) reads within here h = absurd h
fault_here g nodes i usable later node OutOfMemory reads within here h = tt

-- one more node, and what its leaf shows
pub least_more : (g : Graph) (nodes : List Node) (i : ℕ) (node : Node) (usable : Usable) (later : List Usable) (old new : Option ℤ) →
    take (i + 1) nodes ≡ take i nodes ++ node ∷ [] → ReadsTo g (every_row ∷ []) (take i nodes) (usable ∷ later) →
    old ≡ least_leaf g (places_read g (take i nodes)) → new ≡ with_leaf g usable node old → new ≡ least_leaf g (places_read g (take (i + 1) nodes))
least_more g nodes i node usable later old new more reads before here =
    here ∙ ap (with_leaf g usable node) before
    ∙ sym (ap (λ (xs : List Node). least_leaf g (places_read g xs)) more
    ∙ ap (least_leaf g) (places_push g (take i nodes) node (every_row ∷ []) usable later reads)
    ∙ least_leaf_push g (places_read g (take i nodes)) (record { node = node; usable = usable }))
