-- What the lines of a block tell is what it is made of.
use Rattle.std.proofs.Common.{◌≡◌, ℕ, true, false, List, [], ◌∷◌, ◌++◌, map, append_assoc, append-nil, refl, sym, ap, ◌∙◌, arith, fold, ◌≤◌, length, IfSome}
use Rattle.report_audit.proofs.Common.{
  All-cons,
  All-head,
  All-tail,
  BlockLine,
  Expired,
  Overflow,
  Lapsed,
  Late,
  Alone,
  Shared,
  TripRow,
  Trip,
  Out,
  Move,
  Branch,
  Leaf,
  Dead,
  End,
  Point,
  CanBeTold,
  BlockLists,
  nothing_told,
  told_by,
  with_line,
}
use Rattle.std.specs.List.{All}
use Rattle.dispatch_report.specs.declared.block_line.BlockLine.TheVariants.{Batch}
use Rattle.dispatch_engine.specs.declared.outcome.point.Point.TheVariants as point
use Rattle.report_audit.proofs.block.ShapeLemmas.{IsNodeLine, from, printed}

-- the lines of a list add its items
module _ {X : Type 0} (K : X → BlockLine) (of : BlockLists → List X) (put : BlockLists → List X → BlockLists)
    (whole : (t : BlockLists) → put t (of t) ≡ t) (more : (t : BlockLists) (x : X) → with_line t (K x) ≡ put t (of t ++ x ∷ []))
    (kept : (t : BlockLists) (xs : List X) → of (put t xs) ≡ xs) (again : (t : BlockLists) (xs ys : List X) → put (put t xs) ys ≡ put t ys) where
  list_told : (t : BlockLists) (xs : List X) (rest : List BlockLine) → fold with_line t (map K xs ++ rest) ≡ fold with_line (put t (of t ++ xs)) rest
  list_told t [] rest = ap (λ u. fold with_line u rest) (sym (ap (put t) (append-nil (of t)) ∙ whole t))
  list_told t (x ∷ xs) rest =
      let l : List X = of t ++ x ∷ [] in
      ap (λ u. fold with_line u (map K xs ++ rest)) (more t x)
      ∙ list_told (put t l) xs rest
      ∙ ap (λ zs. fold with_line (put (put t l) (zs ++ xs)) rest) (kept t l)
      ∙ ap (λ u. fold with_line u rest) (again t l (l ++ xs) ∙ ap (put t) (append_assoc (of t) (x ∷ []) xs))

-- a tree's lines add themselves
tree_told : (t : BlockLists) (tree rest : List BlockLine) → All IsNodeLine tree → fold with_line t (tree ++ rest) ≡ fold with_line
    (record t { tree = t.tree ++ tree }) rest
tree_told t [] rest drawn = ap (λ l. fold with_line (record t { tree = l }) rest) (sym (append-nil t.tree))
tree_told t (line ∷ lines) rest drawn =
    ap (λ u. fold with_line u (lines ++ rest)) (more line (All-head IsNodeLine line lines drawn))
    ∙ tree_told (record t { tree = t.tree ++ line ∷ [] }) lines rest (All-tail IsNodeLine line lines drawn)
    ∙ ap (λ l. fold with_line (record t { tree = l }) rest) (append_assoc t.tree (line ∷ []) lines)
  where
    more : (line : BlockLine) → IsNodeLine line → with_line t line ≡ record t { tree = t.tree ++ line ∷ [] }
    more (Branch branch) is = refl
    more (Leaf multipliers) is = refl
    more Dead is = refl
    more _ is = absurd is

expired_told : (t : BlockLists) (rest : List BlockLine) → told_by (Batch t.batch ∷ (map Expired t.expired ++ rest)) ≡ fold with_line
    (record nothing_told { batch = t.batch; expired = t.expired }) rest
expired_told t rest =
    list_told Expired (λ t. t.expired) (λ t l. record t { expired = l }) (λ t. refl) (λ t x. refl) (λ t l. refl) (λ t l m. refl)
    (record nothing_told { batch = t.batch }) t.expired rest

-- what the lines of an overflow tell, and those of a plan
abbrev pub overflow_told : ℕ → List ℕ → BlockLists
overflow_told batch expired = record nothing_told { batch = batch; expired = expired; overflow = true }

pub overflow_is_told : (t : BlockLists) → told_by (printed true t) ≡ overflow_told t.batch t.expired
overflow_is_told t = expired_told t (Overflow ∷ End ∷ [])

pub plan_is_told : (t : BlockLists) → All IsNodeLine t.tree → told_by (printed false t) ≡ record t { overflow = false }
plan_is_told t drawn =
    expired_told t (from 0 t)
    ∙ list_told Lapsed (λ t. t.lapsed) (λ t l. record t { lapsed = l }) (λ t. refl) (λ t x. refl) (λ t l. refl) (λ t l m. refl) _ t.lapsed _
    ∙ list_told Late (λ t. t.late) (λ t l. record t { late = l }) (λ t. refl) (λ t x. refl) (λ t l. refl) (λ t l m. refl) _ t.late _
    ∙ list_told Alone (λ t. t.rv) (λ t l. record t { rv = l }) (λ t. refl) (λ t x. refl) (λ t l. refl) (λ t l m. refl) _ t.rv _
    ∙ list_told Shared (λ t. t.rr) (λ t l. record t { rr = l }) (λ t. refl) (λ t x. refl) (λ t l. refl) (λ t l m. refl) _ t.rr _
    ∙ list_told TripRow (λ t. t.rows) (λ t l. record t { rows = l }) (λ t. refl) (λ t x. refl) (λ t l. refl) (λ t l m. refl) _ t.rows _
    ∙ list_told Trip (λ t. t.chosen) (λ t l. record t { chosen = l }) (λ t. refl) (λ t x. refl) (λ t l. refl) (λ t l m. refl) _ t.chosen _
    ∙ list_told Out (λ t. t.left) (λ t l. record t { left = l }) (λ t. refl) (λ t x. refl) (λ t l. refl) (λ t l m. refl) _ t.left _
    ∙ list_told Move (λ t. t.moves) (λ t l. record t { moves = l }) (λ t. refl) (λ t x. refl) (λ t l. refl) (λ t l m. refl) _ t.moves _
    ∙ tree_told _ t.tree _ drawn

-- the last of a list, and those before it
last_of : {X : Type 0} (P : X → Type 0) (xs : List X) (x : X) → All P (xs ++ x ∷ []) → All P xs × P x
last_of P [] x all = (λ k d within. absurd (omega arith), All-head P x [] all)
last_of P (y ∷ ys) x all =
    let rest = last_of P ys x (All-tail P y (ys ++ x ∷ []) all) in
    (All-cons P y ys (All-head P y (ys ++ x ∷ []) all) rest.0, rest.1)

-- what a point asks of one line, and of lists of what is told
abbrev pub IsShort : Point → BlockLine → Type 0
IsShort point.Graphs (TripRow row) = length row.riders ≤ 6
IsShort point.Late (Late late) = IfSome late.stops (λ stops. length stops ≤ 10)
IsShort point.Trips (Trip trip) = length trip.stops ≤ 22
IsShort p line = Unit {0}

abbrev pub AreShort : Point → BlockLists → Type 0
AreShort point.Bound t = Unit {0}
AreShort p t = CanBeTold p t

short_with : (p : Point) (t : BlockLists) (line : BlockLine) → AreShort p (with_line t line) → AreShort p t × IsShort p line
short_with point.Graphs t (TripRow row) all = last_of (λ r. length r.riders ≤ 6) t.rows row all
short_with point.Late t (Late late) all = last_of (λ l. IfSome l.stops (λ stops. length stops ≤ 10)) t.late late all
short_with point.Trips t (Trip trip) all = last_of (λ r. length r.stops ≤ 22) t.chosen trip all
short_with p t line all = (all, tt)

pub all_short : (p : Point) (t : BlockLists) (lines : List BlockLine) → AreShort p (fold with_line t lines) → AreShort p t × All (IsShort p) lines
all_short p t [] all = (all, λ k d within. absurd (omega arith))
all_short p t (line ∷ lines) all =
    let rest = all_short p (with_line t line) lines all in
    let here = short_with p t line rest.0 in
    (here.0, All-cons (IsShort p) line lines here.1 rest.1)
