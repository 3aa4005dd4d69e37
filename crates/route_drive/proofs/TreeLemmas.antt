-- Searches for shortest walks.
use Rattle.std.proofs.Common.{
  IfNone,
  IfOk,
  IsSome,
  MatchOption,
  Result,
  Ok,
  Err,
  ◌≡◌,
  ℕ,
  Option,
  None,
  Some,
  ◌+◌,
  ◌*◌,
  ◌<◌,
  ◌≤◌,
  ◌⊎◌,
  Bool,
  true,
  false,
  cond,
  not,
  List,
  [],
  ◌∷◌,
  ◌++◌,
  length,
  get_or,
  slice_index,
  set,
  replicate,
  map,
  reverse,
  count_by,
  All,
  refl,
  sym,
  ap,
  ◌∙◌,
  inl,
  inr,
  subst,
  arith,
  length-append,
  rules,
}
use Rattle.route_drive.proofs.Common.{
  position_or_len,
  cases_eq,
  cases_lt,
  get_or_append_left,
  reverse-append,
  get_or-replicate,
  length-replicate,
  All-contains,
  sum_by-replicate,
  sum_by-set,
  sum_by-cons,
  get_or-append_seam,
  never,
  Arc,
  Hop,
  Roads,
  index_in,
  IsArcAmong,
  IsNetwork,
  hop_of,
  leaving,
  IsWalk,
  walk_seconds,
  HasNoWalk,
  Found,
  WalkStep,
  IsShortestWalk,
  no_found,
  found_at,
  is_seen,
  IsTight,
  IsTree,
  AreHopsOpened,
  IsOpened,
  Grows,
  IsGrowing,
  IsWalkBack,
  true≢false,
  length-set,
  get_or-set_same,
  get_or-set_other,
  get_or_past,
  get_or_default,
  position,
  IsWalk-append,
  walk_seconds-append,
  short_walk,
  nat_tests,
}
use Rattle.travel_times.proofs.lemmas.search.SearchLemmas.{arc_of_hop, hop_of_arc, hops_among}
use Rattle.travel_times.specs.search.Near.{AreTimesUpTo}

-- one more is marked and found
module _ (arcs : List Arc) (times : List ℕ) (seen : List Bool) (found : List Found) (k to : ℕ) where
  abbrev x : Found
  x = record { node = to; by = k }

  size : length (found ++ x ∷ []) ≡ length found + 1
  size = length-append found (x ∷ [])

  left : (j : ℕ) → j < length found → found_at (found ++ x ∷ []) j ≡ found_at found j
  left j h = get_or_append_left found (x ∷ []) no_found j h

  last : found_at (found ++ x ∷ []) (length found) ≡ x
  last = get_or-append_seam found x [] no_found

  old_or_new : (j : ℕ) → j < length (found ++ x ∷ []) → (j < length found) ⊎ (j ≡ length found)
  old_or_new j h = elim (cases_lt j (length found)) [ inl lt ↦ inl lt | inr ge ↦ inr (omega (arith, size)) ]

  pub IsTree-mark : IsTree arcs times seen found → k < length found → IsTight arcs times (found_at found k).node to → to < length times →
      slice_index times to < never → is_seen seen to ≡ false
      → IsTree arcs times (set seen to true) (found ++ (record { node = to; by = k }) ∷ [])
  IsTree-mark tree inside tight within near unseen = search (
    rules,
    size,
    sum_by-set,
    length-set,
    old_or_new,
    left,
    last,
    cases_eq,
    get_or-set_other,
    get_or-set_same,
  )

  pub Grows-mark : (seen₀ : List Bool) (found₀ : List Found) → to < length seen → Grows seen₀ seen found₀ found →
      Grows seen₀ (set seen to true) found₀ (found ++ (record { node = to; by = k }) ∷ [])
  Grows-mark seen₀ found₀ within grows = search (rules, size, left, cases_eq, get_or-set_same, get_or-set_other)

pub Grows-none : (seen : List Bool) (found : List Found) → Grows seen seen found found
Grows-none seen found = record { longer = omega arith; kept = λ j h. refl; still = λ node h. h }

-- one more hop of a node is opened
pub AreHopsOpened-more : (hops : List Hop) (i here : ℕ) (times : List ℕ) (most : ℕ) (seen seen' : List Bool) (e : Hop) →
    AreHopsOpened hops i here times most seen
    → ((node : ℕ) → is_seen seen node ≡ true → is_seen seen' node ≡ true) → i < length hops
    → (slice_index times (get_or hops i e).to ≤ most → here + (get_or hops i e).seconds ≡ slice_index times (get_or hops i e).to →
    is_seen seen' (get_or hops i e).to ≡ true)
    → AreHopsOpened hops (i + 1) here times most seen'
AreHopsOpened-more hops i here times most seen seen' e before still within own k d lt h near tight = search (rules, cases_eq, get_or_default)

-- a hop leads to a node
pub hop_among : (roads : Roads) (hops : List Hop) (node i : ℕ) (d : Hop) → IsNetwork roads → hops ≡ map hop_of (leaving node roads.arcs) → i < length hops →
    (get_or hops i d).to < length roads.nodes
hop_among roads hops node i d kept are within = (rw (← are) at (hops_among roads.arcs (length roads.nodes) node kept.arcs) i d within).0

-- all hops of a node are its arcs
pub IsOpened-all : (arcs : List Arc) (times : List ℕ) (most : ℕ) (seen : List Bool) (node : ℕ) →
    AreHopsOpened (map hop_of (leaving node arcs)) (length (map hop_of (leaving node arcs))) (slice_index times node) times most seen →
    IsOpened arcs times most seen node
IsOpened-all arcs times most seen node all arc among from near tight =
    let hop = hop_of_arc arcs node arc among from in
    let d : Hop = hop_of arc in
    let at : get_or (map hop_of (leaving node arcs)) hop.0 d ≡ hop_of arc = hop.2 d in
    (rw at at (all hop.0 d hop.1 hop.1)) near tight

-- a tight hop is a tight arc
IsTight-own : (arcs : List Arc) (times : List ℕ) (node k : ℕ) (d : Hop) → k < length (map hop_of (leaving node arcs))
    → slice_index times node + (get_or (map hop_of (leaving node arcs)) k d).seconds ≡ slice_index times (get_or (map hop_of (leaving node arcs)) k d).to →
    IsTight arcs times node (get_or (map hop_of (leaving node arcs)) k d).to
IsTight-own arcs times node k d within tight = search (rules, get_or_default, arc_of_hop, slice_index)

pub IsTight-hop : (arcs : List Arc) (times : List ℕ) (hops : List Hop) (node k : ℕ) (d : Hop) → hops ≡ map hop_of (leaving node arcs) → k < length hops
    → slice_index times node + (get_or hops k d).seconds ≡ slice_index times (get_or hops k d).to → IsTight arcs times node (get_or hops k d).to
IsTight-hop arcs times hops node k d are within tight = search (rules, slice_index, IsTight-own)

-- one more of the found is opened
pub IsGrowing-more : (arcs : List Arc) (times : List ℕ) (start most next : ℕ) (seen seen' : List Bool) (found found' : List Found) → next < length found →
    IsGrowing arcs times start most next seen found
    → IsTree arcs times seen' found' → Grows seen seen' found found' → IsOpened arcs times most seen' (found_at found next).node →
    IsGrowing arcs times start most (next + 1) seen' found'
IsGrowing-more arcs times start most next seen seen' found found' inside growing tree grows opened = search rules

-- at the start nothing is marked
nowhere : (n node : ℕ) → is_seen (replicate n false) node ≡ false
nowhere n node = search (rules, cases_lt, get_or-replicate, get_or_past, length-replicate)

-- the search begins
pub IsGrowing-start : (arcs : List Arc) (times : List ℕ) (start most n : ℕ) → length times ≡ n → start < n → slice_index times start < never
    → IsGrowing arcs times start most 0 (set (replicate n false) start true) ([] ++ (record { node = start; by = 0 }) ∷ [])
IsGrowing-start arcs times start most n size within near =
    let marks : length (replicate n false) ≡ n = length-replicate n false in
    let at : is_seen (set (replicate n false) start true) start ≡ true = get_or-set_same (replicate n false) start true false (omega arith) in
    let none : count_by not (replicate n false) ≡ n * 1 = sum_by-replicate (λ (b : Bool). cond (not b) 1 0) n false in
    let before : get_or (replicate n false) start false ≡ false = get_or-replicate n start false false within in
    let counted : count_by not (set (replicate n false) start true) + cond (not (get_or (replicate n false) start false)) 1 0 ≡ count_by not (replicate n false)
    + cond (not true) 1 0 = sum_by-set (λ (b : Bool). cond (not b) 1 0) (replicate n false) start true false (omega arith) in
    let fewer : count_by not (set (replicate n false) start true) + 1 ≡ count_by not (replicate n false) + 0 = rw before at counted in
    record {
      tree = record {
        marks = length-set (replicate n false) start true ∙ marks ∙ sym size;
        some = omega arith;
        within = λ k h. let z : k ≡ 0 = omega arith in rw (z, size) within;
        reached = λ k h. let z : k ≡ 0 = omega arith in rw z near;
        earlier = λ k p h. absurd (omega arith);
        tight = λ k p h. absurd (omega arith);
        marked = λ node h. elim (cases_eq node start) [
          | inl e ↦ (0, omega arith, sym e)
          | inr ne ↦ absurd (true≢false (sym h ∙ get_or-set_other (replicate n false) start node true false ne ∙ nowhere n node))
        ];
        first_marked = at;
        count = omega (arith, none, fewer);
      };
      first = refl;
      opened = λ k lt h. absurd (omega arith);
    }

-- the times from a start as far as a goal
module _ (arcs : List Arc) (n start goal : ℕ) (times : List ℕ) (among : All (IsArcAmong n) arcs) (few : n ≤ 100000) (inside : start < n) (within : goal < n)
    (timed : AreTimesUpTo arcs n start (slice_index times goal) times) where
  -- a node that is no further than the goal is no nearer by way of another one
  no_nearer : (via node : ℕ) (walk : List Arc) → via < n → node < n → slice_index times goal < never → IsWalk arcs via walk node →
      slice_index times via + walk_seconds walk ≤ slice_index times goal
      → slice_index times node ≤ slice_index times via + walk_seconds walk
  no_nearer via node walk hv hn near walks most = search (rules, IsWalk-append, walk_seconds-append, cases_lt, slice_index)

  -- no node that is reached has the greatest number as its time
  pub no_walk : slice_index times goal ≡ never → HasNoWalk arcs start goal
  no_walk far = elim (timed.near goal within (omega arith)) [
    | inl to ↦ let short = short_walk arcs to.walk n start goal among few inside to.walks in let least = to.least short.0 short.1 in let most =
        short.3 in absurd (omega (arith, least, most))
    | inr none ↦ none.0
  ]

  pub start_is_near : slice_index times start ≡ 0
  start_is_near = elim (cases_lt (slice_index times goal) (slice_index times start)) [
    | inl beyond ↦ let longer : slice_index times goal < 0 = timed.far start inside beyond [] refl in absurd (omega arith)
    | inr there ↦ elim (timed.near start inside there) [
      | inl to ↦ let least : slice_index times start ≤ 0 = to.least [] refl in omega arith
      | inr none ↦ absurd (none.0 [] refl)
    ]
  ]

  -- a walk on which the times rise to the goal's is a shortest one
  pub is_least : (walk : List Arc) → slice_index times start + walk_seconds walk ≡ slice_index times goal
      → (other : List Arc) → IsWalk arcs start other goal → walk_seconds walk ≤ walk_seconds other
  is_least walk takes other walks = search rules

  module _ (seen : List Bool) (found : List Found) (full : IsGrowing arcs times start (slice_index times goal) (length found) seen found) where
    -- what a shortest walk to the goal comes to from a marked node is marked
    follow : (walk : List Arc) (node : ℕ) → node < n → slice_index times goal < never → IsWalk arcs node walk goal →
        slice_index times node + walk_seconds walk ≡ slice_index times goal
        → is_seen seen node ≡ true → is_seen seen goal ≡ true
    follow [] node hn near walks takes marked = subst (λ (g : ℕ). is_seen seen g ≡ true) walks marked
    follow (arc ∷ rest) node hn near walks takes marked =
        let split : walk_seconds (arc ∷ rest) ≡ arc.seconds + walk_seconds rest = sum_by-cons (λ (a : Arc). a.seconds) arc rest in
        let ends : arc.to < n = (All-contains (IsArcAmong n) arcs arc among walks.0).1 in
        let one : walk_seconds (arc ∷ []) ≡ arc.seconds + 0 = sum_by-cons (λ (a : Arc). a.seconds) arc [] in
        let hop : slice_index times arc.to ≤ slice_index times node + walk_seconds (arc ∷ []) =
        no_nearer node arc.to (arc ∷ []) hn ends near (walks.0, walks.1, refl) (omega (arith, one, split, takes)) in
        let onward : slice_index times goal ≤ slice_index times arc.to + walk_seconds rest =
        no_nearer arc.to goal rest ends within near walks.2 (omega (arith, one, split, hop, takes)) in
        let number = full.tree.marked node marked in
        let leaves : arc.from ≡ (found_at found number.0).node = walks.1 ∙ sym number.2 in
        let rises : slice_index times (found_at found number.0).node + arc.seconds ≡ slice_index times arc.to =
        rw number.2 (omega (arith, one, split, hop, onward, takes)) in
        let seen_next = full.opened number.0 number.1 number.1 arc walks.0 leaves (omega (arith, one, split, hop, takes)) rises in
        follow rest arc.to ends near walks.2 (omega (arith, one, split, hop, onward, takes)) seen_next

    -- the goal is found
    pub is_found : slice_index times goal < never → is_seen seen goal ≡ true
    is_found near = search (rules, follow, start_is_near)

  -- a time that isn't the greatest number is below it
  pub near_unless_never : (slice_index times goal ≡ never → ⊥) → slice_index times goal < never
  near_unless_never ne = search rules

pub IsWalkBack-more : (roads : Roads) (times : List ℕ) (from via to : ℕ) (steps : List WalkStep) → IsTight roads.arcs times from via →
    IsWalkBack roads times via to steps
    → IsWalkBack roads times from to ((record { node = slice_index roads.nodes from; seconds = slice_index times from }) ∷ steps)
IsWalkBack-more roads times from via to steps tight back =
    let arc : Arc = tight.arc in
    let split : walk_seconds (tight.arc ∷ back.walk) ≡ tight.arc.seconds + walk_seconds back.walk = sum_by-cons (λ (a : Arc). a.seconds) tight.arc back.walk in
    let takes = back.takes in
    record {
      walk = tight.arc ∷ back.walk;
      walks = (tight.among, tight.leaves, rw tight.ends back.walks);
      takes = omega (arith, split, tight.rises, takes);
      told = ap (λ ss. (record { node = slice_index roads.nodes from; seconds = slice_index times from }) ∷ ss) (rw (tight.ends, tight.rises) back.told);
    }

-- what is told of a walk between two indexes, told of the nodes' names
pub walk_told : (roads : Roads) (from to start goal : ℕ) (times : List ℕ) → All (IsArcAmong (length roads.nodes)) roads.arcs → length roads.nodes ≤ 100000 →
    index_in roads.nodes from ≡ start → index_in roads.nodes to ≡ goal
    → start < length roads.nodes → goal < length roads.nodes → AreTimesUpTo roads.arcs (length roads.nodes) start (slice_index times goal) times
    → {V E : Type 0} (items : V → List WalkStep) (answer : Result (Option V) E) → IfOk answer
    (λ walk. MatchOption walk (HasNoWalk roads.arcs start goal) (λ steps. IsWalkBack roads times start goal (items steps)))
    → IfOk answer (λ walk. MatchOption walk (HasNoWalk roads.arcs (index_in roads.nodes from) (index_in roads.nodes to))
    (λ steps. IsShortestWalk roads from to (items steps)))
walk_told roads from to start goal times among few is_start is_goal inside within timed items (Err fault) told = tt
walk_told roads from to start goal times among few is_start is_goal inside within timed items (Ok None) told = rw (is_start, is_goal) told
walk_told roads from to start goal times among few is_start is_goal inside within timed items (Ok (Some steps)) back = search rules

pub reverse-push : (steps : List WalkStep) (step : WalkStep) → reverse (steps ++ step ∷ []) ≡ step ∷ reverse steps
reverse-push steps step = reverse-append steps (step ∷ [])

-- what can't be nothing is something
pub some_unless : (o : Option ℕ) (P : Type 0) → IfNone o P → (P → ⊥) → IsSome o
some_unless o P none never_so = grind arith

-- the place at which a look-up found something
pub position-is : {X : Type 0} (p : X → Bool) (xs : List X) (i : ℕ) → position p xs ≡ Some i → position_or_len p xs ≡ i
position-is p xs i h = grind (arith, nat_tests)
