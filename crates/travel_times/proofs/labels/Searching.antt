-- Steps of a pruned search.
use Rattle.std.proofs.Common.{
  rules,
  ◌≡◌,
  ℕ,
  ◌<◌,
  ◌≤◌,
  ◌⊎◌,
  Bool,
  true,
  false,
  List,
  [],
  ◌∷◌,
  ◌++◌,
  length,
  get_or,
  set,
  slice_index,
  All,
  Contains,
  refl,
  sym,
  ◌∙◌,
  subst,
  inl,
  inr,
  arith,
}
use Rattle.travel_times.proofs.Common.{
  cases_eq,
  get_or-set_other,
  get_or-set_same,
  length-set,
  All-contains,
  Contains-append_left,
  Contains-push,
  never,
  Arc,
  Hop,
  IsWalk,
  IsArcAmong,
  hop_of,
  waits,
  IsNextTaken,
  IsHopRelaxed,
  RelaxesHops,
  HasWalkOf,
  Hub,
  arc_from,
  AreHopsOf,
  IsToldAt,
  IsPruned,
  IsPruning,
}
use Rattle.travel_times.proofs.lemmas.search.WalkLemmas.{IsWalk-push, walk_seconds-push}

-- hops of a network's arcs lead to its nodes, in at most the longest arc's seconds
pub hops_within : (arcs : List Arc) (n node : ℕ) (hops : List Hop) → All (IsArcAmong n) arcs → AreHopsOf arcs node hops →
    All (λ (hop : Hop). (hop.to < n) × (hop.seconds ≤ 10000)) hops
hops_within arcs n node hops among are k d h = let a = All-contains (IsArcAmong n) arcs (arc_from node (get_or hops k d)) among (are.among k d h) in (a.1, a.2)

module _ {arcs : List Arc} {n start node : ℕ} {labels : List (List Hub)} {via s : List ℕ} {w w' : List Bool} {taken : List ℕ}
    (inv : IsPruning arcs n start labels via s w taken) (next : IsNextTaken w w' node) where
  old_waits : (other : ℕ) → waits w' other ≡ true → waits w other ≡ true
  old_waits other h = search rules

  noted_more : (other : ℕ) → other < n → slice_index s other < never → (waits w' other ≡ true) ⊎ Contains (taken ++ node ∷ []) other
  noted_more other h finite = elim (cases_eq other node) [
    | inl e ↦ inr (rw e (Contains-push taken node))
    | inr ne ↦ elim (inv.noted other h finite) [
      | inl waited ↦ inl (next.others other ne ∙ waited)
      | inr has ↦ inr
          (Contains-append_left taken (node ∷ []) other has)
    ]
  ]

  -- a node is taken that labels tell of already
  pub prune_step : IsToldAt labels via node (slice_index s node) → IsPruning arcs n start labels via s w' (taken ++ node ∷ [])
  prune_step told = search (rules, old_waits, noted_more)

  -- a node is taken, and its arcs are relaxed
  pub relax_step : {hops : List Hop} {s' : List ℕ} {w'' : List Bool} → AreHopsOf arcs node hops →
      RelaxesHops hops (length hops) (slice_index s node) s w' s' w'' → IsPruning arcs n start labels via s' w'' (taken ++ node ∷ [])
  relax_step {hops} {s'} {w''} are relaxes =
      let own : HasWalkOf arcs start node (slice_index s node) = elim (inv.sound node (omega (arith, inv.waiting_length, next.within))) [
        | inl far ↦ absurd (omega (arith, far, inv.reached node next.waited))
        | inr found ↦ found.1
      ] in
      record {
        seconds_length = relaxes.seconds_length ∙ inv.seconds_length;
        waiting_length = relaxes.waiting_length ∙ next.same_length ∙ inv.waiting_length;
        start_within = inv.start_within;
        start_zero = omega (arith, relaxes.no_later start, inv.start_zero);
        sound = λ other h. elim (relaxes.from other) [
          | inl same ↦ rw same.0 (inv.sound other h)
          | inr changed ↦
              let via' = changed.3 in
              let arc : Arc = arc_from node via'.1 in
              let walks : IsWalk arcs start (own.0 ++ arc ∷ []) other = subst (λ (g : ℕ). IsWalk arcs start (own.0 ++ arc ∷ []) g) via'.5
              (IsWalk-push arcs own.0 arc start node own.1 (rw via'.4 at (are.among via'.0 via'.1 via'.3)) refl) in
              inr (changed.1, (own.0 ++ arc ∷ [], walks, omega (arith, walk_seconds-push own.0 arc, own.2, via'.6)))
        ];
        reached = λ other h. elim (relaxes.from other) [
          | inl same ↦ rw same.0 (inv.reached other (old_waits other (sym same.1 ∙ h)))
          | inr changed ↦ changed.1
        ];
        noted = λ other h finite. elim (relaxes.from other) [
          | inl same ↦ elim (noted_more other h (rw same.0 at finite)) [ inl waited ↦ inl (same.1 ∙ waited) | inr has ↦ inr has ]
          | inr changed ↦ inl changed.0
        ];
        relaxed = λ other h settled finite. elim (relaxes.from other) [
          | inl same ↦ elim (cases_eq other node) [
            | inl e ↦ inr (λ arc has from.
                let hop = are.all arc has (from ∙ e) in
                let done : IsHopRelaxed (slice_index s node) s' (hop_of arc) = rw hop.2 at (relaxes.relaxed hop.0 (hop_of arc) hop.1 hop.1) in
                rw (same.0, e) done)
            | inr ne ↦ elim (inv.relaxed other h (sym (next.others other ne) ∙ sym same.1 ∙ settled) (rw same.0 at finite)) [
              | inl told ↦ inl (rw same.0 told)
              | inr relaxed ↦ inr (λ arc has from. elim (relaxed arc has from) [
                | inl le ↦ inl (omega (arith, le, same.0, relaxes.no_later arc.to))
                | inr past ↦
                    inr (omega (arith, past, same.0))
              ])
            ]
          ]
          | inr changed ↦ absurd (let on = changed.0 in cc)
        ];
      }

-- before the first node is taken
pub prune_start : (arcs : List Arc) (n start : ℕ) (labels : List (List Hub)) (via s : List ℕ) (w : List Bool) (taken : List ℕ) →
    (length s ≡ n) × All (λ x. x ≡ never) s → (length w ≡ n) × ((node : ℕ) → waits w node ≡ false) → start < n →
    IsPruning arcs n start labels via (set s start 0) (set w start true) taken
prune_start arcs n start labels via s w taken seconds waiting within = search (rules, length-set, get_or-set_same, get_or-set_other)

-- when no node waits
pub prune_end : {arcs : List Arc} {n start : ℕ} {labels : List (List Hub)} {via s : List ℕ} {w : List Bool} {taken : List ℕ} →
    IsPruning arcs n start labels via s w taken → ((node : ℕ) → waits w node ≡ false) → IsPruned arcs n start labels via s
prune_end inv none = record {
  each = inv.seconds_length;
  start_zero = inv.start_zero;
  sound = inv.sound;
  relaxed =
      λ node h finite. inv.relaxed node h (none node) finite;
}

pub all_noted : {arcs : List Arc} {n start : ℕ} {labels : List (List Hub)} {via s : List ℕ} {w : List Bool} {taken : List ℕ} →
    IsPruning arcs n start labels via s w taken → ((node : ℕ) → waits w node ≡ false) → (node : ℕ) → node < length s → slice_index s node < never →
    Contains taken node
all_noted inv none node h finite = elim (inv.noted node (omega (arith, h, inv.seconds_length)) finite)
    [ inl waited ↦ absurd (let not = none node in cc) | inr has ↦ has ]
