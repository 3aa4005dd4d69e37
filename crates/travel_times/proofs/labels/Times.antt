-- Travel times exist: a search that ends gives them. So a lemma may speak of the travel time between any two nodes.
use Rattle.std.proofs.Common.{
  rules,
  ◌≡◌,
  ℕ,
  zero,
  suc,
  ◌+◌,
  ◌<◌,
  ◌≤◌,
  ◌⊎◌,
  Bool,
  true,
  false,
  List,
  [],
  ◌∷◌,
  length,
  get_or,
  slice_index,
  set,
  replicate,
  map,
  All,
  refl,
  inl,
  inr,
  arith,
}
use Rattle.travel_times.proofs.Common.{
  cases_lt,
  All-contains,
  get_or_default,
  get_or-replicate,
  length-replicate,
  never,
  longest,
  Arc,
  Hop,
  IsWalk,
  walk_seconds,
  IsLeastTime,
  IsTimeBetween,
  IsArcAmong,
  hop_of,
  leaving,
  waits,
  work_left,
  IsNextTaken,
  RelaxesHops,
  IsSearching,
  length-set,
}
use Rattle.travel_times.proofs.lemmas.search.WalkLemmas.{short_walk, time_range, time_to_itself, time_triangle}
use Rattle.travel_times.proofs.lemmas.search.SearchLemmas.{
  RelaxesHops-take,
  RelaxesHops-skip,
  IsSearching-start,
  IsSearching-step,
  IsNextTaken-set,
  IsTimeBetween-settled,
  hops_among,
  none_waits,
}

-- a node waits, or none does
first_waiting : (waiting : List Bool) → ((node : ℕ) × (node < length waiting) × (waits waiting node ≡ true)) ⊎ ((node : ℕ) → waits waiting node ≡ false)
first_waiting [] = inr (λ node. refl)
first_waiting (true ∷ rest) = inl (0, omega arith, refl)
first_waiting (false ∷ rest) = elim (first_waiting rest) [
  | inl found ↦ inl (suc found.0, omega (arith, found.1), found.2)
  | inr none ↦ inr (λ node. elim node as (λ k. waits (false ∷ rest) k ≡ false) [ zero ↦ refl | suc k ↦ none k ])
]

-- hops can be relaxed
relax_exists : (hops : List Hop) (count here : ℕ) (s : List ℕ) (w : List Bool) → length w ≡ length s →
    All (λ hop. (hop.to < length s) × (hop.seconds ≤ 10000)) hops → count ≤ length hops
    → (s' : List ℕ) × (w' : List Bool) × RelaxesHops hops count here s w s' w'
relax_exists hops zero here s w lengths among within = search rules
relax_exists hops (suc count) here s w lengths among within =
    let before = relax_exists hops count here s w lengths among (omega arith) in
    let inv = before.2 in
    let none : Hop = record { to = 0; seconds = 0 } in
    let hop : Hop = get_or hops count none in
    let inside : count < length hops = omega arith in
    let read : get_or hops count none ≡ get_or hops count (get_or hops count none) = get_or_default hops count none hop inside in
    let same : count + 1 ≡ suc count = omega arith in
    elim (cases_lt longest (here + hop.seconds)) [
      | inl far ↦ (before.0, before.1, rw (← same) (RelaxesHops-skip inv {hop = hop} inside read (inr far)))
      | inr short ↦ elim (cases_lt (here + hop.seconds) (slice_index before.0 hop.to)) [
        | inl less ↦ (
          set before.0 hop.to (here + hop.seconds),
          set before.1 hop.to true,
          rw (← same)
              (RelaxesHops-take inv {hop = hop} inside read refl short less (omega (arith, (among count none inside).0, inv.seconds_length))
              (omega (arith, inv.seconds_length, inv.waiting_length, lengths))),
        )
        | inr more ↦ (before.0, before.1, rw (← same) (RelaxesHops-skip inv {hop = hop} inside read (inl more)))
      ]
    ]

-- a search comes to its end
settles : (arcs : List Arc) (n start fuel : ℕ) (s : List ℕ) (w : List Bool) → All (IsArcAmong n) arcs → IsSearching arcs n start s w → work_left s w < fuel
    → (s' : List ℕ) × (w' : List Bool) × IsSearching arcs n start s' w' × ((node : ℕ) → waits w' node ≡ false)
settles arcs n start zero s w among inv left = absurd (omega arith)
settles arcs n start (suc fuel) s w among inv left = elim (first_waiting w) [
  | inl found ↦
      let node : ℕ = found.0 in
      let taken : IsNextTaken w (set w node false) node = IsNextTaken-set w node found.1 found.2 in
      let hops : List Hop = map hop_of (leaving node arcs) in
      let relaxed = relax_exists hops (length hops) (slice_index s node) s (set w node false)
      (omega (arith, length-set w node false, inv.seconds_length, inv.waiting_length)) (rw inv.seconds_length (hops_among arcs n node among))
      (omega arith) in
      settles arcs n start fuel relaxed.0 relaxed.1 among (IsSearching-step arcs n start node s relaxed.0 w (set w node false) relaxed.1 among inv taken
      relaxed.2) (omega (arith, relaxed.2.less, taken.fewer, left))
  | inr none ↦ (s, w, inv, none)
]

-- the travel times from a node
pub times_exist : (arcs : List Arc) (n start : ℕ) → All (IsArcAmong n) arcs → n ≤ 100000 → start < n →
    (times : List ℕ) × ((goal : ℕ) → goal < n → IsTimeBetween arcs start goal (slice_index times goal))
times_exist arcs n start among few within =
    let s : List ℕ = set (replicate n never) start 0 in
    let w : List Bool = set (replicate n false) start true in
    let begun : IsSearching arcs n start s w = IsSearching-start arcs n start (replicate n never) (replicate n false) (length-replicate {A = ℕ} n never)
    (length-replicate n false) within (λ node h. get_or-replicate {A = ℕ} n node never 0 h) (none_waits n) in
    let ended = settles arcs n start (suc (work_left s w)) s w among begun (omega arith) in
    (ended.0, IsTimeBetween-settled arcs n start ended.0 ended.1 among few ended.2 ended.3)

-- a function that gives the travel time between any two of n nodes
abbrev pub AreTimes : List Arc → ℕ → (ℕ → ℕ → ℕ) → Type 0
AreTimes arcs n time = (a b : ℕ) → a < n → b < n → IsTimeBetween arcs a b (time a b)

pub times_of : (arcs : List Arc) (n : ℕ) → All (IsArcAmong n) arcs → n ≤ 100000 → (time : ℕ → ℕ → ℕ) × AreTimes arcs n time
times_of arcs n among few =
    let row : (a : ℕ) → (times : List ℕ) × (a < n → (goal : ℕ) → goal < n → IsTimeBetween arcs a goal (slice_index times goal)) = λ a. elim (cases_lt a n) [
      | inl within ↦ let times = times_exist arcs n a among few within in (times.0, λ _. times.1)
      | inr past ↦ ([], λ within. absurd (omega arith))
    ] in
    (λ a b. slice_index (row a).0 b, λ a b ha hb. (row a).1 ha b hb)

-- what holds of travel times, without walks
pub record IsMetric (n : ℕ) (time : ℕ → ℕ → ℕ) : Type 0 where
  pub zero_to_itself : (a : ℕ) → a < n → time a a ≡ 0
  pub triangle : (a b c : ℕ) → a < n → b < n → c < n → time a c ≤ time a b + time b c
  pub range : (a b : ℕ) → a < n → b < n → (time a b ≤ longest) ⊎ (time a b ≡ never)

-- a walk begins at a node of the network
pub start_within : (arcs walk : List Arc) (n start goal : ℕ) → All (IsArcAmong n) arcs → IsWalk arcs start walk goal → goal < n → start < n
start_within arcs [] n start goal among walks within = rw walks within
start_within arcs (first ∷ rest) n start goal among walks within = rw (← walks.1) ((All-contains (IsArcAmong n) arcs first among walks.0).0)

module _ {arcs : List Arc} {n : ℕ} {time : ℕ → ℕ → ℕ} (among : All (IsArcAmong n) arcs) (few : n ≤ 100000) (are : AreTimes arcs n time) where
  -- a walk takes at least the travel time
  pub time_least : (a b : ℕ) (walk : List Arc) → a < n → b < n → IsWalk arcs a walk b → (time a b ≤ walk_seconds walk) × (time a b ≤ longest)
  time_least a b walk ha hb walks = elim (are a b ha hb) [
    | inl least ↦ (
      least.least walk walks,
      let short = short_walk arcs least.walk n a b among few ha least.walks in omega
          (arith, short.3, least.least short.0 short.1),
    )
    | inr none ↦ absurd (none.0 walk walks)
  ]

  -- a least time is the travel time
  pub time_is : (a b s : ℕ) → a < n → b < n → IsLeastTime arcs a b s → (s ≡ time a b) × (time a b ≤ longest)
  time_is a b s ha hb least = search (rules, time_least)

  -- a travel time is a least time
  pub least_is : (a b : ℕ) → a < n → b < n → time a b ≤ longest → IsLeastTime arcs a b (time a b)
  least_is a b ha hb finite = elim (are a b ha hb) [ inl least ↦ least | inr none ↦ absurd (omega (arith, none.1)) ]

  pub metric_of : IsMetric n time
  metric_of = record {
    zero_to_itself = λ a ha. time_to_itself arcs a (time a a) (are a a ha ha);
    triangle = λ a b c ha hb hc. time_triangle arcs a b c (time a b) (time b c) (time a c) (are a b ha hb) (are b c hb hc) (are a c ha hc)
        (elim (time_range arcs n a c (time a c) among few ha (are a c ha hc)) [ inl h ↦ omega (arith, h) | inr e ↦ omega (arith, e) ]);
    range = λ a b ha hb. time_range arcs n a b (time a b) among few ha (are a b ha hb);
  }
