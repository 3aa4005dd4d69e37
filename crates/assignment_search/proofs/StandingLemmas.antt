-- Where a walk stands.
use Rattle.std.proofs.Common.{◌≡◌, ℕ, zero, suc, ◌<◌, Bool, true, false, List, [], ◌∷◌, length, get_or, take, MatchBool, refl, sym, ◌∙◌, arith}
use Rattle.assignment_search.proofs.Common.{Graph, Usable, ReadsTo, IsSoundNode, coming_after, standing_of, Node, Dead}
use Rattle.plan_rules.specs.declared.path.Decision.{Decision}

-- ---- a tree that ends later goes on here

pub record IsNextOf (g : Graph) (first : List Usable) (nodes : List Node) (k : ℕ) (coming : List Usable) : Type 0 where
  pub usable : Usable
  pub later : List Usable
  pub here : coming ≡ usable ∷ later
  pub sound : IsSoundNode g usable (get_or nodes k Dead)
  pub after : ReadsTo g first (take (suc k) nodes) (coming_after g usable (get_or nodes k Dead) later)

pub next_of : (g : Graph) (nodes : List Node) (first rest coming : List Usable) (k : ℕ) → ReadsTo g first nodes rest → k < length nodes →
    ReadsTo g first (take k nodes) coming → IsNextOf g first nodes k coming
next_of g [] first rest coming k h l before = absurd (omega (arith, l))
next_of g (n ∷ nodes) [] rest coming k h l before = absurd h
next_of g (n ∷ nodes) (u ∷ us) rest coming zero h l before = record { usable = u; later = us; here = sym before; sound = h.0; after = (h.0, refl) }
next_of g (n ∷ nodes) (u ∷ us) rest coming (suc k) h l before =
    let w = next_of g nodes (coming_after g u n us) rest coming k (h.1) (omega (arith, l)) (before.1) in
    record { usable = w.usable; later = w.later; here = w.here; sound = w.sound; after = (h.0, w.after) }

pub head_is : (u w : Usable) (us ws : List Usable) → u ∷ us ≡ w ∷ ws → u ≡ w
head_is u w us ws e = cc

pub tail_is : (u w : Usable) (us ws : List Usable) → u ∷ us ≡ w ∷ ws → us ≡ ws
tail_is u w us ws e = cc

none : (w : Usable) (ws : List Usable) → [] ≡ w ∷ ws → ⊥
none w ws e = cc

-- where a subtree is to come after an end, a walk that leaves the end stands there
pub left_next : (g : Graph) (b : Bool) (old new : List Decision) (u : Usable) (us : List Usable) →
    MatchBool b ((standing_of g old).coming ≡ (standing_of g new).usable ∷ (standing_of g new).coming) ((standing_of g old).coming ≡ []) →
    (standing_of g old).coming ≡ u ∷ us → (standing_of g new).usable ∷ (standing_of g new).coming ≡ u ∷ us
left_next g true old new u us h e = sym h ∙ e
left_next g false old new u us h e = absurd (none u us (sym h ∙ e))
