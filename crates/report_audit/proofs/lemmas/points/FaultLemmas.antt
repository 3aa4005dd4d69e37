-- A tree that is refused has no value, and one that isn't has one.
use Rattle.std.proofs.Common.{◌≡◌, ℕ, zero, suc, ℤ, List, [], ◌∷◌, length, take, drop, slice_get, Some, refl, sym, ap, ◌∙◌, subst, arith}
use Rattle.report_audit.proofs.Common.{
  drop_all,
  Graph,
  Usable,
  every_row,
  IsTreeOfValue,
  IsSoundNode,
  coming_after,
  ReadsTo,
  IsWholeTree,
  Node,
  reads_of_tree,
  value_is_read,
  IsRefusal,
}
use Rattle.plan_rules.specs.declared.node.Node.TheVariants.{Branch, Leaf, Dead}
use Rattle.std.proofs.lemmas.List.{take_all, length-drop}
use Rattle.bound_checker.specs.Fault.{IsReached, IsTreeFault}
use Rattle.bound_checker.specs.declared.fault.CheckFault.{CheckFault}
use Rattle.bound_checker.specs.declared.fault.CheckFault.TheVariants.{BadBranch, BadLeaf, BadDead, Unfinished, Extra, OutOfMemory}

-- a tree has one value
pub one_value : (g : Graph) (nodes : List Node) (a b : ℤ) → IsTreeOfValue g nodes a → IsTreeOfValue g nodes b → a ≡ b
one_value g nodes a b one other = one.2 ∙ sym (value_is_read g nodes one.0 one.1) ∙ value_is_read g nodes other.0 other.1 ∙ sym other.2

pub whole_of_value : (g : Graph) (nodes : List Node) (a : ℤ) → IsTreeOfValue g nodes a → IsWholeTree g nodes
whole_of_value g nodes a one = reads_of_tree g nodes one.0 one.1

-- what is read of a front leaves the rest to be read
pub reads_rest : (g : Graph) (i : ℕ) (nodes : List Node) (a b rest : List Usable) → ReadsTo g a nodes rest → ReadsTo g a (take i nodes) b →
    ReadsTo g b (drop i nodes) rest
reads_rest g zero nodes a b rest whole front = subst (λ (us : List Usable). ReadsTo g us nodes rest) front whole
reads_rest g (suc i) [] a b rest whole front = sym front ∙ whole
reads_rest g (suc i) (n ∷ nodes) [] b rest whole front = absurd whole
reads_rest g (suc i) (n ∷ nodes) (u ∷ us) b rest whole front = reads_rest g i nodes (coming_after g u n us) b rest whole.1 front.1

pub drop_at : (nodes : List Node) (i : ℕ) (n : Node) → slice_get nodes i ≡ Some n → drop i nodes ≡ n ∷ drop (suc i) nodes
drop_at [] i n e = absurd (by i e)
  where
    by : (i : ℕ) → slice_get {X = Node} [] i ≡ Some n → ⊥
    by zero e = cc
    by (suc i) e = cc
drop_at (m ∷ nodes) zero n e = let same : m ≡ n = (cc) in ap (λ (x : Node). x ∷ nodes) same
drop_at (m ∷ nodes) (suc i) n e = drop_at nodes i n e

-- a node that is reached in a tree is sound
pub reached_sound : (g : Graph) (nodes : List Node) (i : ℕ) (usable : Usable) (later : List Usable) (n : Node) → IsWholeTree g nodes →
    IsReached g nodes i (usable ∷ later) n → IsSoundNode g usable n
reached_sound g nodes i usable later n whole reached =
    let rest = reads_rest g i nodes (every_row ∷ []) (usable ∷ later) [] whole reached.before in
    let here : ReadsTo g (usable ∷ later) (n ∷ drop (suc i) nodes) [] = subst (λ (xs : List Node). ReadsTo g (usable ∷ later) xs [])
    (drop_at nodes i n reached.here) rest in
    here.0

no_cons : (u : Usable) (us : List Usable) → u ∷ us ≡ [] → ⊥
no_cons u us e = cc

-- a fault leaves no tree
pub no_tree : (g : Graph) (nodes : List Node) (fault : CheckFault) → IsRefusal fault → IsTreeFault g nodes fault → IsWholeTree g nodes → ⊥
no_tree g nodes (BadBranch i) other f whole = f.wrong (reached_sound g nodes i f.usable f.later (Branch f.vehicle f.row) whole f.reached)
no_tree g nodes (BadLeaf i) other f whole = f.wrong (reached_sound g nodes i f.usable f.later (Leaf f.multipliers) whole f.reached)
no_tree g nodes (BadDead i) other f whole = f.wrong (reached_sound g nodes i f.usable f.later Dead whole f.reached)
no_tree g nodes Unfinished other f whole = by (reads_rest g (length nodes) nodes (every_row ∷ []) (f.usable ∷ f.later) [] whole
    (subst (λ (xs : List Node). ReadsTo g (every_row ∷ []) xs (f.usable ∷ f.later)) (sym (take_all (length nodes) nodes (omega arith))) f.before))
  where
    by : ReadsTo g (f.usable ∷ f.later) (drop (length nodes) nodes) [] → ⊥
    by rest = let none : ReadsTo g (f.usable ∷ f.later) [] [] = subst (λ (xs : List Node). ReadsTo g (f.usable ∷ f.later) xs [])
        (drop_all (length nodes) nodes (omega arith)) rest in no_cons f.usable f.later none
no_tree g nodes (Extra i) other f whole = extra (drop i nodes) (λ none. let n = length-drop i nodes in let m : length (drop i nodes) ≡ 0 =
    ap (λ (xs : List Node). length xs) none in let h = f.within in omega (arith, n, m, h)) (reads_rest g i nodes (every_row ∷ []) [] [] whole f.before)
  where
    extra : (xs : List Node) → (xs ≡ [] → ⊥) → ReadsTo g [] xs [] → ⊥
    extra [] some reads = some refl
    extra (x ∷ xs) some reads = reads
no_tree g nodes OutOfMemory other f whole = other
