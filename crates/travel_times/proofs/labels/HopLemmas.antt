-- Hops of a network's arcs, ahead and back.
use Rattle.std.proofs.Common.{
  ◌≡◌,
  ◌≢◌,
  ℕ,
  ◌+◌,
  ◌<◌,
  ◌≤◌,
  ◌⊎◌,
  List,
  [],
  ◌∷◌,
  ◌++◌,
  length,
  get_or,
  set,
  map,
  replicate,
  All,
  Contains,
  sym,
  ap,
  ◌∙◌,
  subst,
  inl,
  inr,
  arith,
}
use Rattle.travel_times.proofs.Common.{
  cases_eq,
  cases_lt,
  get_or_default,
  get_or_past,
  get_or-replicate,
  length-replicate,
  All-contains,
  Contains-get_or,
  Contains-append_left,
  Contains-push,
  Contains-push_cases,
  Arc,
  Hop,
  IsArcAmong,
  hop_of,
  leaving,
  turned,
  arc_from,
  AreHopsOf,
  AreNodeHops,
  TurnsHops,
  AreTurnedBefore,
  length-set,
  get_or-set_same,
  get_or-set_other,
}
use Rattle.travel_times.proofs.lemmas.search.SearchLemmas.{arc_of_hop, hop_of_arc, hops_among}
use Rattle.travel_times.proofs.labels.Turned.{turn_there, turn_back}

abbrev pub none : Hop
none = record { to = 0; seconds = 0 }

-- as many nodes have no hops
pub none_of : (n node : ℕ) → get_or {A = List Hop} (replicate n []) node [] ≡ []
none_of n node = elim (cases_lt node n) [
  | inl inside ↦ get_or-replicate {A = List Hop} n node [] [] inside
  | inr past ↦ get_or_past (replicate n []) node [] (omega (arith, past, length-replicate {A = List Hop} n []))
]

-- an arc is known by its parts
same_arc : (arc : Arc) (node : ℕ) (hop : Hop) → arc.from ≡ node → hop_of arc ≡ hop → arc ≡ arc_from node hop
same_arc arc node hop from is = ap (λ (f : ℕ). let a : Arc = record { from = f; to = arc.to; seconds = arc.seconds } in a) from ∙
    ap (λ (h : Hop). arc_from node h) is

pub leaving_hops : (arcs : List Arc) (node : ℕ) (hops : List Hop) → hops ≡ map hop_of (leaving node arcs) → AreHopsOf arcs node hops
leaving_hops arcs node hops are = rw are (record {
  among = λ k d h.
      let hops' : List Hop = map hop_of (leaving node arcs) in
      let arc = arc_of_hop arcs node k (get_or hops' k d) h (get_or_default hops' k (get_or hops' k d) d h) in
      subst (λ (a : Arc). Contains arcs a) (same_arc arc.0 node (get_or hops' k d) arc.2 arc.3) arc.1;
  all = λ arc among from. let hop = hop_of_arc arcs node arc among from in (hop.0, hop.1, hop.2 (hop_of arc));
})

pub few_nodes : (arcs : List Arc) (n node : ℕ) → All (IsArcAmong n) arcs → n ≤ 100000 → All (λ (hop : Hop). hop.to < 100000) (map hop_of (leaving node arcs))
few_nodes arcs n node among few k d h = omega (arith, few, (hops_among arcs n node among k d h).0)

-- one hop more is turned
pub turn_more : (node : ℕ) (leaving : List Hop) (i : ℕ) (before mid : List (List Hop)) (to : ℕ) (old : List Hop) (hop : Hop) → i < length leaving →
    to ≡ (get_or leaving i none).to → hop ≡ record { to = node; seconds = (get_or leaving i none).seconds } → to < length mid → old ≡ get_or mid to old
    → TurnsHops node leaving i before mid → TurnsHops node leaving (i + 1) before (set mid to (old ++ hop ∷ []))
turn_more node leaving i before mid to old hop inside is_to is_hop within read so_far =
    let new : List Hop = old ++ hop ∷ [] in
    let at : get_or (set mid to new) to [] ≡ new = get_or-set_same mid to new [] within in
    let other : (end : ℕ) → end ≢ to → get_or (set mid to new) end [] ≡ get_or mid end [] = λ end ne. get_or-set_other mid to end new [] ne in
    let was : get_or mid to [] ≡ old = get_or_default mid to [] old within ∙ sym read in
    let keeps : (end : ℕ) (h : Hop) → Contains (get_or mid end []) h → Contains (get_or (set mid to new) end []) h = λ end h has. elim (cases_eq end to) [
      | inl e ↦ rw (e, at) (Contains-append_left old (hop ∷ []) h (rw (e, was) at has))
      | inr ne ↦ rw (other end ne) has
    ] in
    record {
      each = length-set mid to new ∙ so_far.each;
      from = λ end h has. elim (cases_eq end to) [
        | inl e ↦ elim (Contains-push_cases old hop h (rw (e, at) at has)) [
          | inl old_has ↦ from_before end h (so_far.from end h (rw (e, was) old_has))
          | inr new_is ↦
              let m : Hop = record { to = end; seconds = h.seconds } in
              let seconds : (get_or leaving i none).seconds ≡ h.seconds = ap (λ (x : Hop). x.seconds) (sym is_hop ∙ new_is) in
              let same : get_or leaving i none ≡ m = ap (λ (t : ℕ). let r : Hop = record { to = t; seconds = (get_or leaving i none).seconds } in r)
              (sym is_to ∙ sym e) ∙ ap (λ (s : ℕ). let r : Hop = record { to = end; seconds = s } in r) seconds in
              inr (ap (λ (x : Hop). x.to) (sym new_is ∙ is_hop), (i, omega arith, inside, get_or_default leaving i m none inside ∙ same))
        ]
        | inr ne ↦ from_before end h (so_far.from end h (rw (other end ne) at has))
      ];
      keeps = λ end h has. keeps end h (so_far.keeps end h has);
      adds = λ k d lt h. elim (cases_lt k i) [
        | inl earlier ↦ keeps (get_or leaving k d).to (record { to = node; seconds = (get_or leaving k d).seconds }) (so_far.adds k d earlier h)
        | inr late ↦
            let is : i ≡ k = omega arith in
            let read' : get_or leaving k d ≡ get_or leaving i none = ap (λ (j : ℕ). get_or leaving j d) (sym is) ∙ get_or_default leaving i d none inside in
            rw (read', ← is_to, at, ← is_hop) (Contains-push old hop)
      ];
    }
  where
    from_before : (end : ℕ) (h : Hop) → Contains (get_or before end []) h ⊎ ((h.to ≡ node) ×
        ((k : ℕ) × (k < i) × (k < length leaving) × (get_or leaving k (record { to = end; seconds = h.seconds }) ≡ record { to = end; seconds = h.seconds })))
        → Contains (get_or before end []) h ⊎ ((h.to ≡ node) × ((k : ℕ) × (k < i + 1) × (k < length leaving) ×
        (get_or leaving k (record { to = end; seconds = h.seconds }) ≡ record { to = end; seconds = h.seconds })))
    from_before end h either = elim either [ inl has ↦ inl has | inr new ↦ inr (new.0, (new.1.0, omega (arith, new.1.1), new.1.2, new.1.3)) ]

-- the hops of one node more are turned
pub turned_more : (arcs : List Arc) (n node : ℕ) (hops before after : List (List Hop)) (ahead : List Hop) → ahead ≡ map hop_of (leaving node arcs) →
    AreTurnedBefore arcs n node before → TurnsHops node ahead (length ahead) before after → AreTurnedBefore arcs n (node + 1) after
turned_more arcs n node hops before after ahead are so_far turns = record {
  each = turns.each ∙ so_far.each;
  among = λ end hop lt has. elim (turns.from end hop has) [
    | inl old ↦ so_far.among end hop lt old
    | inr new ↦
        let m : Hop = record { to = end; seconds = hop.seconds } in
        let arc = arc_of_hop arcs node new.1.0 m (rw are at new.1.2) (ap (λ (xs : List Hop). get_or xs new.1.0 m) (sym are) ∙ new.1.3) in
        subst (λ (a : Arc). Contains arcs a) (same_arc arc.0 node m arc.2 arc.3 ∙ ap (λ (f : ℕ). arc_from f m) (sym new.0)) arc.1
  ];
  all = λ arc has lt. elim (cases_lt arc.from node) [
    | inl earlier ↦ turns.keeps arc.to (record { to = arc.from; seconds = arc.seconds }) (so_far.all arc has earlier)
    | inr late ↦
        let is : arc.from ≡ node = omega arith in
        let hop = hop_of_arc arcs node arc has is in
        let inside : hop.0 < length ahead = rw are hop.1 in
        let read : get_or ahead hop.0 none ≡ hop_of arc = ap (λ (xs : List Hop). get_or xs hop.0 none) are ∙ hop.2 none in
        rw is (rw read at (turns.adds hop.0 none inside inside))
  ];
}

-- all hops are turned
pub all_turned : (arcs : List Arc) (n : ℕ) (hops : List (List Hop)) → All (IsArcAmong n) arcs → AreTurnedBefore arcs n n hops →
    AreNodeHops (map turned arcs) n hops
all_turned arcs n hops among done = record {
  each = done.each;
  placed = λ node lt. record {
    among = λ k d h. turn_there arcs (record { from = (get_or (get_or hops node []) k d).to; to = node; seconds = (get_or (get_or hops node []) k d).seconds })
        (done.among node (get_or (get_or hops node []) k d) lt (Contains-get_or (get_or hops node []) k d h));
    all = λ arc has from.
        let back = turn_back arcs arc has in
        let to : arc.to < n = (All-contains (IsArcAmong n) arcs (turned arc) among back).0 in
        subst (λ (v : ℕ). Contains (get_or hops v []) (hop_of arc)) from (done.all (turned arc) back to);
  };
}
