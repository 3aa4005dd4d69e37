-- The nodes of a tree, judged one after the other.
use Rattle.std.proofs.Common.{
  ◌≡◌,
  ℕ,
  suc,
  ◌+◌,
  ◌<◌,
  ℤ,
  pos,
  ◌≤ℤ◌,
  ◌<ℤ◌,
  List,
  [],
  ◌∷◌,
  ◌++◌,
  length,
  get_or,
  take,
  drop,
  All,
  Contains,
  refl,
  sym,
  ap,
  ◌∙◌,
  subst,
  ⊎_elim,
  arith,
}
use Rattle.report_audit.proofs.Common.{
  take_more,
  Graph,
  Usable,
  leaf_value,
  first_fit_value,
  cost_of,
  every_row,
  Place,
  rounded_up,
  IsSoundNode,
  coming_after,
  ReadsTo,
  places_from,
  IsWholeTree,
  places_read,
  Node,
  places_append,
  places_push,
  Agree,
  leaf_value_agrees,
  first_fit_value_agrees,
  IsFairNode,
  IsJustified,
  HasMultipliers,
  IsLimit,
}
use Rattle.plan_rules.specs.declared.node.Node.TheVariants.{Branch, Leaf, Dead}
use Rattle.std.proofs.Math.Seq.{drop-cons}
use Rattle.std.proofs.lemmas.List.{take-append-drop}
use Rattle.std.proofs.lemmas.List.Elements.{All-push, All-contains, Contains-append_right}
use Rattle.report_audit.proofs.lemmas.points.FaultLemmas.{reads_rest}

pub has_multipliers : (g : Graph) (usable : Usable) (n : Node) → IsSoundNode g usable n → HasMultipliers g n
has_multipliers g usable (Leaf ms) sound = sound
has_multipliers g usable Dead sound = tt
has_multipliers g usable (Branch v k) sound = tt

-- what is fair at some rows is fair at rows that agree
pub fair_agrees : (g : Graph) (bound : ℤ) (u w : Usable) (n : Node) → Agree g u w → IsFairNode g bound u n → IsFairNode g bound w n
fair_agrees g bound u w (Leaf ms) agree h = subst (λ (z : ℤ). z ≤ℤ leaf_value g w ms) (first_fit_value_agrees g u w agree)
    (subst (λ (z : ℤ). first_fit_value g u ≤ℤ z) (leaf_value_agrees g u w ms agree) h)
fair_agrees g bound u w Dead agree h = tt
fair_agrees g bound u w (Branch v k) agree h =
    let e = first_fit_value_agrees g u w agree in
    record {
      at_most = subst (λ (z : ℤ). rounded_up z ≤ℤ bound) e h.at_most;
      below_held = subst (λ (z : ℤ). rounded_up z <ℤ pos (cost_of g g.held)) e h.below_held;
      below_greedy = λ chosen is lawful. subst (λ (z : ℤ). rounded_up z <ℤ pos (cost_of g chosen)) e (h.below_greedy chosen is lawful);
    }

pub below_limit : (g : Graph) (bound : ℤ) (usable : Usable) (limit : ℕ) → IsLimit g limit → IsJustified g bound usable →
    rounded_up (first_fit_value g usable) <ℤ pos limit
below_limit g bound usable limit is just = ⊎_elim
    (λ (e : limit ≡ cost_of g g.held). subst (λ (n : ℕ). rounded_up (first_fit_value g usable) <ℤ pos n) (sym e) just.below_held)
    (λ found. subst (λ (n : ℕ). rounded_up (first_fit_value g usable) <ℤ pos n) (sym found.3) (just.below_greedy found.0 found.1 found.2))
    is.attained

-- the place of a node among those of the tree
place_in : (g : Graph) (nodes : List Node) (i : ℕ) (u : Usable) (later : List Usable) (n : Node) → i < length nodes → n ≡ get_or nodes i n →
    ReadsTo g (every_row ∷ []) (take i nodes) (u ∷ later)
    → Contains (places_read g nodes) (record { node = n; usable = u })
place_in g nodes i u later n h is reads =
    let parts : take i nodes ++ drop i nodes ≡ nodes = take-append-drop i nodes in
    let next : drop i nodes ≡ n ∷ drop (suc i) nodes = drop-cons nodes i n h ∙ ap (λ (x : Node). x ∷ drop (suc i) nodes) (sym is) in
    let all : places_read g nodes ≡ places_read g (take i nodes) ++ places_from g (u ∷ later) (drop i nodes) =
    ap (λ (xs : List Node). places_read g xs) (sym parts) ∙ places_append g (take i nodes) (drop i nodes) (every_row ∷ []) (u ∷ later) reads in
    let rest : places_from g (u ∷ later) (drop i nodes) ≡ record { node = n; usable = u } ∷ places_from g (coming_after g u n later) (drop (suc i) nodes) =
    ap (λ (xs : List Node). places_from g (u ∷ later) xs) next in
    subst (λ (ps : List Place). Contains ps (record { node = n; usable = u })) (sym (all ∙ ap (λ (ps : List Place). places_read g (take i nodes) ++ ps) rest))
    (Contains-append_right (places_read g (take i nodes)) (record { node = n; usable = u } ∷ places_from g (coming_after g u n later) (drop (suc i) nodes))
    (record { node = n; usable = u }) (0, omega arith, refl))

pub fair_at : (g : Graph) (P : Place → Type 0) (nodes : List Node) (i : ℕ) (u : Usable) (later : List Usable) (n : Node) → i < length nodes →
    n ≡ get_or nodes i n → ReadsTo g (every_row ∷ []) (take i nodes) (u ∷ later)
    → All P (places_read g nodes) → P (record { node = n; usable = u })
fair_at g P nodes i u later n h is reads all = All-contains P (places_read g nodes) (record { node = n; usable = u }) all
    (place_in g nodes i u later n h is reads)

-- a node is sound where a whole tree is read as far as it
pub sound_at : (g : Graph) (nodes : List Node) (i : ℕ) (coming : List Usable) (n : Node) → IsWholeTree g nodes → i < length nodes → n ≡ get_or nodes i n →
    ReadsTo g (every_row ∷ []) (take i nodes) coming
    → ReadsTo g coming (n ∷ drop (suc i) nodes) []
sound_at g nodes i coming n whole h is reads =
    subst (λ (xs : List Node). ReadsTo g coming xs []) (drop-cons nodes i n h ∙ ap (λ (x : Node). x ∷ drop (suc i) nodes) (sym is))
    (reads_rest g i nodes (every_row ∷ []) coming [] whole reads)

pub places_more : (g : Graph) (P : Place → Type 0) (nodes : List Node) (i : ℕ) (u : Usable) (later : List Usable) (n : Node) → i < length nodes →
    n ≡ get_or nodes i n → ReadsTo g (every_row ∷ []) (take i nodes) (u ∷ later)
    → All P (places_read g (take i nodes)) → P (record { node = n; usable = u }) → All P (places_read g (take (i + 1) nodes))
places_more g P nodes i u later n h is reads all one =
    let more : take (i + 1) nodes ≡ take i nodes ++ n ∷ [] = take_more nodes i n h ∙ ap (λ (x : Node). take i nodes ++ x ∷ []) (sym is) in
    subst (λ (ps : List Place). All P ps) (sym (ap (λ (xs : List Node). places_read g xs) more ∙ places_push g (take i nodes) n (every_row ∷ []) u later reads))
    (All-push P (places_read g (take i nodes)) (record { node = n; usable = u }) all one)
