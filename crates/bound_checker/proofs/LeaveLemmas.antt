-- Decisions taken back.
use Rattle.std.proofs.Common.{◌≡◌, ℕ, ◌<◌, false, List, [], ◌∷◌, ◌++◌, length, refl, sym, ap, ◌∙◌, subst, arith}
use Rattle.bound_checker.proofs.Common.{get_or_push, get_or_append_left, length_push, Graph, IsRowOf, Standing, standing_of, IsPathOf, Decision, standing_push}
use Rattle.plan_rules.proofs.lemmas.PathLemmas.{coming_without, path_push}

pub none_left : (path : List Decision) → length path ≡ 0 → path ≡ []
none_left [] e = refl
none_left (d ∷ path) e = absurd (omega (arith, e))

-- to take back a decision that isn't for a row alone leaves the same subtrees to come
pub coming_popped : (g : Graph) (old new : List Decision) (last : Decision) → old ≡ new ++ last ∷ [] → last.alone ≡ false →
    (standing_of g old).coming ≡ (standing_of g new).coming
coming_popped g old new last e off =
    ap (λ (p : List Decision). (standing_of g p).coming) e ∙ ap (λ (t : Standing). t.coming) (standing_push g new last) ∙
    coming_without g (standing_of g new) last off

pub path_popped : (g : Graph) (old new : List Decision) (last : Decision) → old ≡ new ++ last ∷ [] → IsPathOf g old → IsPathOf g new
path_popped g old new last e path k d l =
    let all : IsPathOf g (new ++ last ∷ []) = subst (IsPathOf g) e path in
    subst (λ (q : Decision). (q.vehicle < g.vehicles) × IsRowOf g q.vehicle q.row) (get_or_append_left new (last ∷ []) d k l)
    (all k d (omega (arith, l, length_push new last)))

-- the last decision turns from a row alone to all but the row
pub path_turned : (g : Graph) (old new : List Decision) (last : Decision) → old ≡ new ++ last ∷ [] → IsPathOf g old →
    IsPathOf g (new ++ record { vehicle = last.vehicle; row = last.row; alone = false } ∷ [])
path_turned g old new last e path =
    let all : IsPathOf g (new ++ last ∷ []) = subst (IsPathOf g) e path in
    let end : ℕ = length new in
    let here : end ≡ length new = omega arith in
    path_push g new (record { vehicle = last.vehicle; row = last.row; alone = false }) (path_popped g old new last e path)
    (subst (λ (q : Decision). (q.vehicle < g.vehicles) × IsRowOf g q.vehicle q.row) (get_or_push new last last end (sym here))
    (all end last (omega (arith, length_push new last))))
