use Rattle.std.proofs.Common.{
  rules,
  ◌≡◌,
  ℕ,
  zero,
  suc,
  ◌+◌,
  ◌<◌,
  ◌≤◌,
  ◌⊎◌,
  Bool,
  true,
  false,
  eqb,
  Option,
  None,
  Some,
  IfSome,
  List,
  [],
  ◌∷◌,
  ◌++◌,
  length,
  get_or,
  slice_index,
  set,
  replicate,
  map,
  filter,
  All,
  Contains,
  sym,
  ap,
  ◌∙◌,
  inl,
  inr,
  arith,
}
use Rattle.travel_times.proofs.Common.{
  cases_eq,
  cases_lt,
  cases_Bool,
  get_or-map,
  length-map,
  get_or_default,
  get_or_past,
  get_or-replicate,
  length-replicate,
  All-contains,
  All-contains_itself,
  All-filter,
  sum_by-set,
  sum_by-cons,
  never,
  longest,
  Arc,
  Hop,
  IsWalk,
  walk_seconds,
  IsTimeBetween,
  IsArcAmong,
  hop_of,
  leaving,
  AreTimesUpTo,
  reach,
  waits,
  IsNextTaken,
  IsHopRelaxed,
  RelaxesHops,
  HasWalkOf,
  IsSearching,
}
use Rattle.std.proofs.lemmas.Bool.{eqb-true, eq-eqb}
use Rattle.std.proofs.lemmas.List.{length-set, get_or-set_same, get_or-set_other}
use Rattle.std.proofs.lemmas.List.Elements.{filter_passes}
use Rattle.travel_times.proofs.lemmas.search.WalkLemmas.{IsWalk-push, walk_seconds-push, short_walk}

-- what passes a test is among what a filter keeps
pub Contains-filter : {X : Type 0} (p : X → Bool) (xs : List X) (x : X) → Contains xs x → p x ≡ true → Contains (filter p xs) x
Contains-filter p [] x (k, within, is) h = absurd (omega arith)
Contains-filter p (y ∷ ys) x (zero, within, is) h = let e : p y ≡ true = ap p is ∙ h in rw e (0, omega arith, is)
Contains-filter p (y ∷ ys) x (suc k, within, is) h =
    let rest = Contains-filter p ys x (k, omega arith, is) h in
    elim (cases_Bool (p y)) [ inl e ↦ rw e (suc rest.0, omega (arith, rest.1), rest.2) | inr e ↦ rw e rest ]

-- a hop of a node is an arc of the network that leaves it
pub arc_of_hop : (arcs : List Arc) (node k : ℕ) (hop : Hop) → k < length (map hop_of (leaving node arcs)) → get_or (map hop_of (leaving node arcs)) k hop ≡ hop
    → (arc : Arc) × Contains arcs arc × (arc.from ≡ node) × (hop_of arc ≡ hop)
arc_of_hop arcs node k hop within is =
    let inside : k < length (leaving node arcs) = rw length-map at within in
    let none : Arc = record { from = 0; to = 0; seconds = 0 } in (
      get_or (leaving node arcs) k none,
      All-filter (λ (a : Arc). eqb a.from node) (Contains arcs) arcs (All-contains_itself arcs) k none inside,
      eqb-true _ node (filter_passes (λ (a : Arc). eqb a.from node) arcs k none inside),
      sym (get_or-map hop_of (leaving node arcs) k none hop inside) ∙ is,
    )

-- an arc that leaves a node is one of its hops
pub hop_of_arc : (arcs : List Arc) (node : ℕ) (arc : Arc) → Contains arcs arc → arc.from ≡ node →
    (k : ℕ) × (k < length (map hop_of (leaving node arcs))) × ((d : Hop) → get_or (map hop_of (leaving node arcs)) k d ≡ hop_of arc)
hop_of_arc arcs node arc among from =
    let kept = Contains-filter (λ (a : Arc). eqb a.from node) arcs arc among (eq-eqb arc.from node from) in
    (kept.0, rw length-map kept.1, λ d. get_or-map hop_of (leaving node arcs) kept.0 arc d kept.1 ∙ ap hop_of kept.2)

-- every hop of a node leads to a node, in at most the longest arc's seconds
pub hops_among : (arcs : List Arc) (n node : ℕ) → All (IsArcAmong n) arcs → All (λ (hop : Hop). (hop.to < n) × (hop.seconds ≤ 10000))
    (map hop_of (leaving node arcs))
hops_among arcs n node among k d h = search (rules, arc_of_hop, get_or_default, All-contains)

-- a node that waited is taken
pub IsNextTaken-set : (waiting : List Bool) (node : ℕ) → node < length waiting → waits waiting node ≡ true → IsNextTaken waiting (set waiting node false) node
IsNextTaken-set waiting node within waited = search (rules, length-set, get_or-set_same, get_or-set_other, sum_by-set)

module _ {hops : List Hop} {count here : ℕ} {s : List ℕ} {w : List Bool} {s' : List ℕ} {w' : List Bool} (inv : RelaxesHops hops count here s w s' w')
    {hop : Hop} (inside : count < length hops) (read : hop ≡ get_or hops count hop) where
  -- the hop gives fewer seconds
  pub RelaxesHops-take : {through : ℕ} → through ≡ here + hop.seconds → through ≤ longest → through < slice_index s' hop.to → hop.to < length s' →
      length w' ≡ length s' → RelaxesHops hops (count + 1) here s w (set s' hop.to through) (set w' hop.to true)
  RelaxesHops-take {through} is short less within lengths = search (rules, get_or-set_same, get_or-set_other, length-set, get_or_default, sum_by-set)

  -- the hop gives no fewer seconds, or leads past the longest time
  pub RelaxesHops-skip : (slice_index s' hop.to ≤ here + hop.seconds) ⊎ (longest < here + hop.seconds) → RelaxesHops hops (count + 1) here s w s' w'
  RelaxesHops-skip done = search (rules, get_or_default)

-- one node is taken and its arcs are relaxed
pub IsSearching-step : (arcs : List Arc) (n start node : ℕ) (s s' : List ℕ) (w w' w'' : List Bool) → All (IsArcAmong n) arcs
    → IsSearching arcs n start s w → IsNextTaken w w' node → RelaxesHops (map hop_of (leaving node arcs)) (length (map hop_of (leaving node arcs)))
    (slice_index s node) s w' s' w'' → IsSearching arcs n start s' w''
IsSearching-step arcs n start node s s' w w' w'' among inv taken relaxes =
    let own : HasWalkOf arcs start node (slice_index s node) = elim (inv.sound node (omega (arith, inv.waiting_length, taken.within))) [
      | inl far ↦ absurd (omega (arith, far, inv.reached node taken.waited))
      | inr found ↦ found.1
    ] in
    let old_waits : (other : ℕ) → waits w' other ≡ true → waits w other ≡ true = λ other h. elim (cases_eq other node) [
      | inl e ↦ absurd (let off = ap (waits w') e ∙ taken.taken in cc)
      | inr ne ↦ sym (taken.others other ne) ∙ h
    ] in
    record {
      seconds_length = relaxes.seconds_length ∙ inv.seconds_length;
      waiting_length = relaxes.waiting_length ∙ taken.same_length ∙ inv.waiting_length;
      start_within = inv.start_within;
      start_zero = omega (arith, relaxes.no_later start, inv.start_zero);
      sound = λ other h. elim (relaxes.from other) [
        | inl same ↦ rw same.0 (inv.sound other h)
        | inr changed ↦
            let via = changed.3 in
            let arc = arc_of_hop arcs node via.0 via.1 via.3 via.4 in
            let walks : IsWalk arcs start (own.0 ++ arc.0 ∷ []) other = rw (ap (λ (x : Hop). x.to) arc.3 ∙ via.5) at
            (IsWalk-push arcs own.0 arc.0 start node own.1 arc.1 arc.2) in
            inr (changed.1, (own.0 ++ arc.0 ∷ [], walks, omega (arith, walk_seconds-push own.0 arc.0, own.2, via.6, ap (λ (x : Hop). x.seconds) arc.3)))
      ];
      reached = λ other h. elim (relaxes.from other) [
        | inl same ↦ rw same.0 (inv.reached other (old_waits other (sym same.1 ∙ h)))
        | inr changed ↦ changed.1
      ];
      relaxed = λ other arc hn settled finite here from. elim (relaxes.from other) [
        | inl same ↦ elim (cases_eq other node) [
          | inl e ↦
              let hop = hop_of_arc arcs node arc here (from ∙ e) in
              let none : Hop = record { to = 0; seconds = 0 } in
              let done : IsHopRelaxed (slice_index s node) s' (hop_of arc) = rw (hop.2 none) at (relaxes.relaxed hop.0 none hop.1 hop.1) in
              rw (same.0, e) done
          | inr ne ↦ elim (inv.relaxed other arc hn (sym (taken.others other ne) ∙ sym same.1 ∙ settled) (rw same.0 at finite) here from) [
            | inl le ↦ inl (omega (arith, le, same.0, relaxes.no_later arc.to))
            | inr past ↦ inr (omega (arith, past, same.0))
          ]
        ]
        | inr changed ↦ absurd (let on = changed.0 in cc)
      ];
    }

module _ (arcs : List Arc) (n start most : ℕ) (s : List ℕ) (w : List Bool) (among : All (IsArcAmong n) arcs) (few : n ≤ 100000)
    (inv : IsSearching arcs n start s w)
    (short : most < never → most ≤ longest) (over : (node : ℕ) → waits w node ≡ true → most < slice_index s node) where
  -- no walk as far as so many seconds is shorter than the number of its end
  no_shorter : (walk : List Arc) (node end x : ℕ) → node < n → IsWalk arcs node walk end → slice_index s node ≤ x → x + walk_seconds walk ≤ longest →
      x + walk_seconds walk ≤ most
      → slice_index s end ≤ x + walk_seconds walk
  no_shorter [] node end x hn walks le long near = rw (← walks) (omega arith)
  no_shorter (arc ∷ rest) node end x hn walks le long near =
      let more = sum_by-cons (λ (a : Arc). a.seconds) arc rest in
      let settled : waits w node ≡ false = elim (cases_Bool (waits w node)) [ inl waiting ↦ absurd (omega (arith, over node waiting)) | inr still ↦ still ] in
      let next : slice_index s arc.to ≤ x + arc.seconds = elim (inv.relaxed node arc hn settled (omega arith) walks.0 walks.1)
      [ inl h ↦ omega (arith, h) | inr h ↦ absurd (omega (arith, h, more)) ] in
      omega (
        arith,
        more,
        no_shorter rest arc.to end (x + arc.seconds) ((All-contains (IsArcAmong n) arcs arc among walks.0).1) walks.2 next
            (omega (arith, more)) (omega (arith, more)),
      )

  -- a walk is no shorter than the number of its end, where that is no further than so many seconds
  least : (node : ℕ) → node < n → slice_index s node ≤ most → (walk : List Arc) → IsWalk arcs start walk node →
      (slice_index s node ≤ walk_seconds walk) × (slice_index s node ≤ longest)
  least node hn near walk walks =
      let other = short_walk arcs walk n start node among few inv.start_within walks in
      elim (cases_lt (walk_seconds other.0) (slice_index s node)) [
        | inl below ↦ absurd (omega (
          arith,
          below,
          no_shorter other.0 start node 0 inv.start_within other.1 (omega (arith, inv.start_zero))
              (omega (arith, other.3)) (omega (arith, below)),
        ))
        | inr le ↦ (omega (arith, le, other.2), omega (arith, le, other.3))
      ]

  -- where nothing waits that is as near, each number as near is the travel time
  pub AreTimesUpTo-settled : AreTimesUpTo arcs n start most s
  AreTimesUpTo-settled = record {
    near = λ node hn there. elim (inv.sound node hn) [
      | inl far ↦ inr (λ walk walks. omega (arith, far, (least node hn there walk walks).1), far)
      | inr found ↦ inl (record { walk = found.1.0; walks = found.1.1; takes = found.1.2; least = λ other walks. (least node hn there other walks).0 })
    ];
    far = λ node hn beyond walk walks. elim (cases_lt most (walk_seconds walk)) [
      | inl longer ↦ longer
      | inr le ↦
          let top : most < never = elim (inv.sound node hn) [ inl e ↦ omega (arith, e, beyond) | inr found ↦ omega (arith, found.0, beyond) ] in
          absurd (omega (
            arith,
            le,
            beyond,
            no_shorter walk start node 0 inv.start_within walks (omega (arith, inv.start_zero)) (omega (arith, le, short top))
                (omega (arith, le)),
          ))
    ];
    bounded = λ node hn. elim (inv.sound node hn) [ inl e ↦ omega (arith, e) | inr found ↦ omega (arith, found.0) ];
  }

-- a goal's number is `never` or at most the longest time
pub reach_short : (arcs : List Arc) (n start : ℕ) (s : List ℕ) (w : List Bool) (goal : Option ℕ) → IsSearching arcs n start s w → IfSome goal (λ g. g < n) →
    reach goal s < never → reach goal s ≤ longest
reach_short arcs n start s w None inv within near = absurd (omega arith)
reach_short arcs n start s w (Some goal) inv within near = elim (inv.sound goal within) [ inl far ↦ absurd (omega (arith, far)) | inr found ↦ found.0 ]

-- where nothing waits, each number is the travel time
pub IsTimeBetween-settled : (arcs : List Arc) (n start : ℕ) (s : List ℕ) (w : List Bool) → All (IsArcAmong n) arcs → n ≤ 100000 → IsSearching arcs n start s w →
    ((node : ℕ) → waits w node ≡ false)
    → (goal : ℕ) → goal < n → IsTimeBetween arcs start goal (slice_index s goal)
IsTimeBetween-settled arcs n start s w among few inv settled goal hg =
    let all = AreTimesUpTo-settled arcs n start never s w among few inv (λ near. absurd (omega arith))
    (λ node waiting. absurd (let off = settled node in cc)) in
    all.near goal hg (all.bounded goal hg)

-- the search begins at its start
pub IsSearching-start : (arcs : List Arc) (n start : ℕ) (s : List ℕ) (w : List Bool) → length s ≡ n → length w ≡ n → start < n
    → ((node : ℕ) → node < n → slice_index s node ≡ never) → ((node : ℕ) → waits w node ≡ false) → IsSearching arcs n start (set s start 0) (set w start true)
IsSearching-start arcs n start s w es ew hs far none = search (rules, get_or-set_same, get_or-set_other, length-set)

-- at the start no node waits
pub none_waits : (n node : ℕ) → waits (replicate n false) node ≡ false
none_waits n node = elim (cases_lt node n) [
  | inl h ↦ get_or-replicate n node false false h
  | inr h ↦ get_or_past (replicate n false) node false
      (rw length-replicate h)
]

-- no node waits where each that does would be further than any time
pub none_waits_near : (s : List ℕ) (w : List Bool) → ((node : ℕ) → waits w node ≡ true → slice_index s node ≤ longest) →
    ((node : ℕ) → waits w node ≡ true → never < slice_index s node) → (node : ℕ) → waits w node ≡ false
none_waits_near s w near far node = elim (cases_Bool (waits w node)) [ inl h ↦ absurd (omega (arith, near node h, far node h)) | inr h ↦ h ]
