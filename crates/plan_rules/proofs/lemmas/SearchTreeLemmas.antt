-- What is read node by node is a tree.
use Rattle.std.proofs.Common.{
  ◌≡◌,
  ℕ,
  count_by,
  zero,
  suc,
  ◌+◌,
  ◌≤◌,
  List,
  [],
  ◌∷◌,
  ◌++◌,
  length,
  map,
  refl,
  sym,
  ap,
  ◌∙◌,
  subst,
  arith,
  pos,
  Option,
  unwrap_or,
  rules,
}
use Rattle.plan_rules.proofs.Common.{
  map-append,
  Graph,
  IsGoodGraph,
  Usable,
  every_row,
  only_row,
  without_row,
  SearchTree,
  Parted,
  Bounded,
  Closed,
  IsSoundTree,
  IsTreeOf,
  IsTreeOfValue,
  Place,
  places_within,
  least_leaf,
  tree_value,
  belongs_to_end,
  belongs_to_dead_end,
  preorder,
  places,
  IsWholeTree,
  places_read,
  value_read,
  ReadsTo,
  places_from,
  IsPlan,
  IsLawful,
  IsBound,
  Node,
  Branch,
  Leaf,
  Dead,
}
use Rattle.std.proofs.lemmas.List.{length-append, append_assoc, append-nil}
use Rattle.plan_rules.proofs.lemmas.TreeLemmas.{each_plan_at_one_end, no_plan_at_dead_ends, tree_value_bounds}

-- the nodes of the places of a tree
nodes_of_places : (g : Graph) (t : SearchTree) (usable : Usable) → map (λ (p : Place). p.node) (places_within g usable t) ≡ preorder t
nodes_of_places g (Bounded ms) usable = refl
nodes_of_places g Closed usable = refl
nodes_of_places g (Parted v k first second) usable = search (rules, map-append, (nodes_of_places g first), (nodes_of_places g second))

pub nodes_are : (g : Graph) (nodes : List Node) (t : SearchTree) → IsTreeOf g nodes t → nodes ≡ preorder t
nodes_are g nodes t tree = tree.listed ∙ nodes_of_places g t every_row

-- the first of these subtrees, and the nodes behind it
record IsFirst (g : Graph) (usable : Usable) (coming rest : List Usable) (nodes : List Node) : Type 0 where
  tree : SearchTree
  behind : List Node
  listed : nodes ≡ preorder tree ++ behind
  sound : IsSoundTree g usable tree
  reads : ReadsTo g coming behind rest

first_subtree : (g : Graph) (size : ℕ) (usable : Usable) (coming rest : List Usable) (nodes : List Node) → length nodes ≤ size → length rest ≤ length coming
    → ReadsTo g (usable ∷ coming) nodes rest → IsFirst g usable coming rest nodes
first_subtree g size usable coming rest [] small few reads = search rules
first_subtree g zero usable coming rest (n ∷ nodes) small few reads = absurd (omega (arith, small))
first_subtree g (suc size) usable coming rest (Leaf ms ∷ nodes) small few reads =
    record { tree = Bounded ms; behind = nodes; listed = refl; sound = reads.0; reads = reads.1 }
first_subtree g (suc size) usable coming rest (Dead ∷ nodes) small few reads =
    record { tree = Closed; behind = nodes; listed = refl; sound = reads.0; reads = reads.1 }
first_subtree g (suc size) usable coming rest (Branch v k ∷ nodes) small few reads =
    let one = first_subtree g size (only_row g usable v k) (without_row usable k ∷ coming) rest nodes (omega (arith, small)) (omega (arith, few)) (reads.1) in
    let long : length nodes ≡ length (preorder one.tree) + length one.behind = ap length one.listed ∙ length-append (preorder one.tree) one.behind in
    let two = first_subtree g size (without_row usable k) coming rest one.behind (omega (arith, small, long)) few one.reads in
    record {
      tree = Parted v k one.tree two.tree;
      behind = two.behind;
      listed =
          ap (λ (xs : List Node). Branch v k ∷ xs) (one.listed ∙ ap (λ (xs : List Node). preorder one.tree ++ xs) two.listed
          ∙ sym (append_assoc (preorder one.tree) (preorder two.tree) two.behind));
      sound = (reads.0, one.sound, two.sound);
      reads = two.reads;
    }

nothing_behind : (g : Graph) (nodes : List Node) → ReadsTo g [] nodes [] → nodes ≡ []
nothing_behind g [] reads = refl
nothing_behind g (n ∷ nodes) reads = absurd reads

-- a tree that is read node by node
pub tree_of_reads : (g : Graph) (nodes : List Node) → IsWholeTree g nodes → (t : SearchTree) × IsTreeOf g nodes t
tree_of_reads g nodes reads = search (rules, (first_subtree g (length nodes)), (nothing_behind g), (nodes_of_places g))

-- the places_read of a tree, and of what comes behind it
places_of_tree : (g : Graph) (t : SearchTree) (usable : Usable) (coming : List Usable) (behind : List Node)
    → places_from g (usable ∷ coming) (preorder t ++ behind) ≡ places_within g usable t ++ places_from g coming behind
places_of_tree g (Bounded ms) usable coming behind = refl
places_of_tree g Closed usable coming behind = refl
places_of_tree g (Parted v k first second) usable coming behind = search (rules, append_assoc, preorder, (places_of_tree g first), (places_of_tree g second))

pub places_are : (g : Graph) (nodes : List Node) (t : SearchTree) → IsTreeOf g nodes t → places_read g nodes ≡ places g t
places_are g nodes t tree =
    ap (places_read g) (nodes_are g nodes t tree ∙ sym (append-nil (preorder t)))
    ∙ places_of_tree g t every_row [] []
    ∙ append-nil (places g t)

-- and back: a sound tree's nodes are read
reads_of_sound : (g : Graph) (t : SearchTree) (usable : Usable) (coming rest : List Usable) (behind : List Node) → IsSoundTree g usable t →
    ReadsTo g coming behind rest
    → ReadsTo g (usable ∷ coming) (preorder t ++ behind) rest
reads_of_sound g (Bounded ms) usable coming rest behind sound reads = (sound, reads)
reads_of_sound g Closed usable coming rest behind sound reads = (sound, reads)
reads_of_sound g (Parted v k first second) usable coming rest behind sound reads = search
    (rules, append_assoc, preorder, (reads_of_sound g first), (reads_of_sound g second))

pub reads_of_tree : (g : Graph) (nodes : List Node) (t : SearchTree) → IsTreeOf g nodes t → IsWholeTree g nodes
reads_of_tree g nodes t tree =
    subst (λ (xs : List Node). ReadsTo g (every_row ∷ []) xs []) (sym (nodes_are g nodes t tree ∙ sym (append-nil (preorder t))))
    (reads_of_sound g t every_row [] [] [] tree.sound refl)

pub value_is_read : (g : Graph) (nodes : List Node) (t : SearchTree) → IsTreeOf g nodes t → value_read g nodes ≡ tree_value g t
value_is_read g nodes t tree = ap (λ (ps : List Place). unwrap_or (least_leaf g ps) (pos 0)) (places_are g nodes t tree)

-- ---- the laws, of trees

tree_itself : (g : Graph) (t : SearchTree) → IsSoundTree g every_row t → IsTreeOf g (preorder t) t
tree_itself g t sound = record { listed = sym (nodes_of_places g t every_row); sound = sound }

pub plan_at_one_end : (g : Graph) (t : SearchTree) (chosen : List (Option ℕ)) → IsGoodGraph g → IsSoundTree g every_row t → IsPlan g chosen
    → count_by (belongs_to_end g chosen) (places g t) ≡ 1
plan_at_one_end g t chosen good sound plan =
    let tree = tree_itself g t sound in
    sym (ap (count_by (belongs_to_end g chosen)) (places_are g (preorder t) t tree))
    ∙ each_plan_at_one_end g (preorder t) chosen good (reads_of_tree g (preorder t) t tree) plan

pub lawful_at_no_dead_end : (g : Graph) (t : SearchTree) (chosen : List (Option ℕ)) → IsGoodGraph g → IsSoundTree g every_row t → IsLawful g chosen
    → count_by (belongs_to_dead_end g chosen) (places g t) ≡ 0
lawful_at_no_dead_end g t chosen good sound lawful =
    let tree = tree_itself g t sound in
    sym (ap (count_by (belongs_to_dead_end g chosen)) (places_are g (preorder t) t tree))
    ∙ no_plan_at_dead_ends g (preorder t) chosen good (reads_of_tree g (preorder t) t tree) lawful

pub value_bounds : (g : Graph) (t : SearchTree) → IsGoodGraph g → IsSoundTree g every_row t → IsBound g (tree_value g t)
value_bounds g t good sound =
    let tree = tree_itself g t sound in
    subst (IsBound g) (value_is_read g (preorder t) t tree) (tree_value_bounds g (preorder t) good (reads_of_tree g (preorder t) t tree))

-- what is read whole is a tree of the value that is read
pub tree_of_value : (g : Graph) (nodes : List Node) → IsWholeTree g nodes → IsTreeOfValue g nodes (value_read g nodes)
tree_of_value g nodes reads = search (rules, tree_of_reads, value_is_read)
