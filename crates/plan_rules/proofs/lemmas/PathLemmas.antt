-- Decisions along a tree.
use Rattle.std.proofs.Common.{
  ◌≡◌,
  ◌==◌,
  ◌&&◌,
  ◌||◌,
  not,
  ℕ,
  zero,
  suc,
  ◌+◌,
  ◌-◌,
  ◌<◌,
  ◌≤◌,
  Bool,
  true,
  false,
  List,
  [],
  ◌∷◌,
  ◌++◌,
  length,
  get_or,
  take,
  set,
  refl,
  sym,
  ap,
  ◌∙◌,
  subst,
  arith,
  rules,
}
use Rattle.plan_rules.proofs.Common.{
  nat_tests,
  cond-true,
  take_more,
  set_at,
  get_or_default,
  fold_more,
  fold_push,
  Graph,
  row_vehicle,
  IsRowOf,
  every_row,
  coming_after,
  Standing,
  root,
  decided,
  standing_of,
  Decision,
  Branch,
}
use Rattle.plan_rules.specs.Path.{IsPathOf}
use Rattle.std.proofs.lemmas.List.Elements.{All-push}
use Rattle.std.proofs.lemmas.List.{take_all, length-take-le, get_or-take, get_or-set_same, get_or-set_other}

pub standing_start : (g : Graph) → standing_of g [] ≡ root
unfolding standing_of
standing_start g = refl

pub standing_push : (g : Graph) (path : List Decision) (d : Decision) → standing_of g (path ++ d ∷ []) ≡ decided g (standing_of g path) d
unfolding standing_of
standing_push g path d = fold_push (decided g) root path d

pub standing_more : (g : Graph) (path : List Decision) (i : ℕ) (d : Decision) → i < length path →
    standing_of g (take (i + 1) path) ≡ decided g (standing_of g (take i path)) (get_or path i d)
unfolding standing_of
standing_more g path i d l = fold_more (decided g) root path i d l

pub coming_without : (g : Graph) (s : Standing) (d : Decision) → d.alone ≡ false → (decided g s d).coming ≡ s.coming
coming_without g s d e = rw e refl

-- to leave decisions that aren't alone leaves the same subtrees to come
pub coming_kept : (g : Graph) (path : List Decision) (low n : ℕ) → low + n ≤ length path →
    ((k : ℕ) (d : Decision) → low ≤ k → k < length path → (get_or path k d).alone ≡ false) →
    (standing_of g (take (low + n) path)).coming ≡ (standing_of g (take low path)).coming
coming_kept g path low zero l h = let e : low + zero ≡ low = omega arith in ap (λ (m : ℕ). (standing_of g (take m path)).coming) e
coming_kept g path low (suc n) l h =
    let d : Decision = record { vehicle = 0; row = 0; alone = false } in
    let e : low + suc n ≡ (low + n) + 1 = omega arith in
    let more : standing_of g (take ((low + n) + 1) path) ≡ decided g (standing_of g (take (low + n) path)) (get_or path (low + n) d) =
    standing_more g path (low + n) d (omega arith) in
    let kept : (decided g (standing_of g (take (low + n) path)) (get_or path (low + n) d)).coming ≡ (standing_of g (take (low + n) path)).coming =
    coming_without g (standing_of g (take (low + n) path)) (get_or path (low + n) d) (h (low + n) d (omega arith) (omega arith)) in
    let before : (standing_of g (take (low + n) path)).coming ≡ (standing_of g (take low path)).coming = coming_kept g path low n (omega arith) h in
    ap (λ (m : ℕ). (standing_of g (take m path)).coming) e ∙ ap (λ (s : Standing). s.coming) more ∙ kept ∙ before

-- what a decision leaves usable
pub usable_alone : (g : Graph) (s : Standing) (d : Decision) (k : ℕ) → d.alone ≡ true → (decided g s d).usable k ≡
    (s.usable k && (not (row_vehicle g k == d.vehicle) || k == d.row))
usable_alone g s d k e = rw e refl

pub usable_without : (g : Graph) (s : Standing) (d : Decision) (k : ℕ) → d.alone ≡ false → (decided g s d).usable k ≡ (s.usable k && not (k == d.row))
usable_without g s d k e = rw e refl

-- what is to come at the first subtree of a branch
pub coming_entered : (g : Graph) (old new : List Decision) (v k : ℕ) → new ≡ old ++ record { vehicle = v; row = k; alone = true } ∷ [] →
    (standing_of g new).usable ∷ (standing_of g new).coming ≡ coming_after g (standing_of g old).usable (Branch v k) (standing_of g old).coming
coming_entered g old new v k e = search (rules, standing_push)

pub coming_start : (g : Graph) (path : List Decision) → path ≡ [] → (every_row ∷ []) ≡ (standing_of g path).usable ∷ (standing_of g path).coming
coming_start g path e = sym (ap (λ (p : List Decision). (standing_of g p).usable ∷ (standing_of g p).coming) e ∙
    ap (λ (s : Standing). s.usable ∷ s.coming) (standing_start g))

pub path_none : (g : Graph) (path : List Decision) → path ≡ [] → IsPathOf g path
path_none g path e = subst (IsPathOf g) (sym e) (λ k d l. absurd (omega (arith, l)))

pub path_push : (g : Graph) (path : List Decision) (e : Decision) → IsPathOf g path → (e.vehicle < g.vehicles) × IsRowOf g e.vehicle e.row →
    IsPathOf g (path ++ e ∷ [])
path_push g path e before here = All-push (λ (d : Decision). (d.vehicle < g.vehicles) × IsRowOf g d.vehicle d.row) path e before here

pub coming_left : (g : Graph) (path : List Decision) (depth : ℕ) → depth ≤ length path → ((k : ℕ) (d : Decision) → depth ≤ k → k < length path →
    (get_or path k d).alone ≡ false) → (standing_of g path).coming ≡ (standing_of g (take depth path)).coming
coming_left g path depth l h = grind (arith, nat_tests, (take_all (length path) path), (coming_kept g path depth (length path - depth)))

-- the last decision turns from the row alone to all but the row
pub coming_next : (g : Graph) (path : List Decision) (d : Decision) → d.alone ≡ true
    → (standing_of g (path ++ d ∷ [])).coming ≡ (standing_of g (path ++ record { vehicle = d.vehicle; row = d.row; alone = false } ∷ [])).usable ∷
    (standing_of g (path ++ record { vehicle = d.vehicle; row = d.row; alone = false } ∷ [])).coming
coming_next g path d e = search (rules, standing_push, cond-true)

-- what the marks say one decision on
pub along_alone : (g : Graph) (path : List Decision) (i n : ℕ) (d : Decision) (old new : List Bool) → i < length path → (get_or path i d).alone ≡ true
    → ((k : ℕ) → k < n → get_or old k false ≡ (standing_of g (take i path)).usable k)
    → ((k : ℕ) → k < n → get_or new k false ≡ (get_or old k false && (not (row_vehicle g k == (get_or path i d).vehicle) || k == (get_or path i d).row)))
    → (k : ℕ) → k < n → get_or new k false ≡ (standing_of g (take (i + 1) path)).usable k
along_alone g path i n d old new l e before now k low = grind (arith, nat_tests, (usable_alone g), (standing_more g path i d l))

pub along_without : (g : Graph) (path : List Decision) (i n : ℕ) (d : Decision) (old : List Bool) → i < length path → (get_or path i d).alone ≡ false →
    (get_or path i d).row < length old
    → ((k : ℕ) → k < n → get_or old k false ≡ (standing_of g (take i path)).usable k)
    → (k : ℕ) → k < n → get_or (set old (get_or path i d).row false) k false ≡ (standing_of g (take (i + 1) path)).usable k
along_without g path i n d old l e inside before k low = grind (
  arith,
  nat_tests,
  (usable_without g),
  (standing_more g path i d l),
  (get_or-set_other old),
  (get_or-set_same old),
)

-- the next subtree after an end, where the last decision is one for a row alone
pub leave_next : (g : Graph) (path : List Decision) (depth : ℕ) (x last : Decision) → 1 ≤ depth → depth ≤ length path → x ≡ get_or path (depth - 1) x →
    x.alone ≡ true
    → last ≡ get_or (take depth path) (depth - 1) last
    → ((k : ℕ) (d : Decision) → depth ≤ k → k < length path → (get_or path k d).alone ≡ false)
    → (standing_of g path).coming ≡ (standing_of g
    (set (take depth path) (depth - 1) (record { vehicle = last.vehicle; row = last.row; alone = false }))).usable ∷
    (standing_of g (set (take depth path) (depth - 1) (record { vehicle = last.vehicle; row = last.row; alone = false }))).coming
leave_next g path zero x last low high at alone is dropped = absurd (omega (arith, low))
leave_next g path (suc n) x last low high at alone is dropped = grind (
  arith,
  nat_tests,
  (length-take-le n path),
  (get_or-take (suc n) path n last),
  (get_or_default path n last x),
  (take_more path n last),
  (set_at (take n path) last),
  (coming_left g path (suc n) high dropped),
  (coming_next g (take n path) last),
)
