-- After a node's search, labels have the hubs of one rank more.
use Rattle.std.proofs.Common.{◌≡◌, ℕ, ◌+◌, ◌<◌, ◌≤◌, ◌⊎◌, List, [], ◌∷◌, ◌++◌, length, get_or, slice_index, All, Contains, sym, ap, ◌∙◌, subst, inl, inr, arith}
use Rattle.travel_times.proofs.Common.{
  cases_lt,
  get_or_append_left,
  get_or_push,
  length_push,
  All-push,
  All-weaker,
  Contains-append_left,
  Contains-push,
  never,
  Arc,
  IsArcAmong,
  Hub,
  IsRankedHub,
  IsLabelBelow,
  AreLabelsBelow,
  IsToldAt,
  IsPruned,
  IsSpread,
  GainsHub,
}
use Rattle.travel_times.proofs.labels.Times.{AreTimes, start_within}
use Rattle.travel_times.proofs.labels.Found.{IsOwnLabel, hub_found, found_hub}

module _ {arcs : List Arc} {n : ℕ} {time : ℕ → ℕ → ℕ} {rank : List ℕ} (among : All (IsArcAmong n) arcs) (few : n ≤ 100000) (are : AreTimes arcs n time) {h : ℕ}
    {labels : List (List Hub)} {own : List Hub} {via : List ℕ} (hh : h < n) (below : AreLabelsBelow arcs rank n (slice_index rank h) labels)
    (of_start : IsOwnLabel n time rank h own) (spread : IsSpread n own via) {seconds : List ℕ} (pruned : IsPruned arcs n h labels via seconds)
    (apart : (a b : ℕ) → a < n → b < n → slice_index rank a ≡ slice_index rank b → a ≡ b) where
  -- a hub of the next rank is the start
  is_start : (b : ℕ) → b < n → (hub : Hub) → IsRankedHub arcs rank b hub.node hub.seconds → slice_index rank hub.node < slice_index rank h + 1 →
      slice_index rank h ≤ slice_index rank hub.node → hub.node ≡ h
  is_start b hb hub ranked low high = apart hub.node h (start_within arcs ranked.time.walk n hub.node b among ranked.time.walks hb) hh (omega arith)

  -- where the start is no hub
  kept : (b : ℕ) → b < n → (slice_index seconds b ≡ never) ⊎ IsToldAt labels via b (slice_index seconds b) →
      IsLabelBelow rank (IsRankedHub arcs rank b) (slice_index rank h + 1) (get_or labels b [])
  kept b hb neither =
      let lab = below.labelled b hb in
      record {
        rising = lab.rising;
        sound = All-weaker (λ (hub : Hub). IsRankedHub arcs rank b hub.node hub.seconds × (slice_index rank hub.node < slice_index rank h))
            (λ (hub : Hub). IsRankedHub arcs rank b hub.node hub.seconds × (slice_index rank hub.node < slice_index rank h + 1))
            (λ hub both. (both.0, omega (arith, both.1))) (get_or labels b []) lab.sound;
        complete = λ hub ranked low. elim (cases_lt (slice_index rank hub.node) (slice_index rank h)) [
          | inl lower ↦ lab.complete hub ranked lower
          | inr high ↦
              let found = hub_found among few are hh below of_start spread pruned b hub.seconds hb (rw (is_start b hb hub ranked low high) at ranked) in
              elim neither [ inl far ↦ absurd (omega (arith, far, found.0, found.1)) | inr told ↦ absurd (found.2 (rw found.0 at told)) ]
        ];
      }

  -- where the start is one more hub
  gained : (b : ℕ) → b < n → slice_index seconds b < never → (IsToldAt labels via b (slice_index seconds b) → ⊥)
      → IsLabelBelow rank (IsRankedHub arcs rank b) (slice_index rank h + 1) (get_or labels b [] ++ record { node = h; seconds = slice_index seconds b } ∷ [])
  gained b hb finite new =
      let lab = below.labelled b hb in
      let old : List Hub = get_or labels b [] in
      let hub : Hub = record { node = h; seconds = slice_index seconds b } in
      let ranked : IsRankedHub arcs rank b h (slice_index seconds b) = found_hub among few are hh below of_start spread pruned b hb finite new in
      let long = length_push old hub in
      record {
        rising = λ i j d lt inside. elim (cases_lt j (length old)) [
          | inl before ↦ rw (get_or_append_left old (hub ∷ []) d i (omega arith), get_or_append_left old (hub ∷ []) d j before) (lab.rising i j d lt before)
          | inr past ↦
              let last : length old ≡ j = omega (arith, past, inside, long) in
              rw (get_or_append_left old (hub ∷ []) d i (omega (arith, lt, last)), get_or_push old hub d j last) ((lab.sound i d (omega (arith, lt, last))).1)
        ];
        sound = All-push (λ (o : Hub). IsRankedHub arcs rank b o.node o.seconds × (slice_index rank o.node < slice_index rank h + 1)) old hub
            (All-weaker (λ (o : Hub). IsRankedHub arcs rank b o.node o.seconds × (slice_index rank o.node < slice_index rank h))
            (λ (o : Hub). IsRankedHub arcs rank b o.node o.seconds × (slice_index rank o.node < slice_index rank h + 1))
            (λ o both. (both.0, omega (arith, both.1))) old lab.sound)
            (ranked, omega arith);
        complete = λ other is_hub low. elim (cases_lt (slice_index rank other.node) (slice_index rank h)) [
          | inl lower ↦ Contains-append_left old (hub ∷ []) other (lab.complete other is_hub lower)
          | inr high ↦
              let is : other.node ≡ h = is_start b hb other is_hub low high in
              let found = hub_found among few are hh below of_start spread pruned b other.seconds hb (rw is at is_hub) in
              let same : hub ≡ other = ap (λ (s : ℕ). let r : Hub = record { node = h; seconds = s } in r) found.0 ∙
              ap (λ (v : ℕ). let r : Hub = record { node = v; seconds = other.seconds } in r) (sym is) in
              subst (λ (o : Hub). Contains (old ++ hub ∷ []) o) same (Contains-push old hub)
        ];
      }

  pub hubs_added : (after : List (List Hub)) → length after ≡ length labels → ((b : ℕ) → b < n →
      GainsHub h via (slice_index seconds b) (get_or labels b []) (get_or after b [])) → AreLabelsBelow arcs rank n (slice_index rank h + 1) after
  hubs_added after each gains = record {
    each = each ∙ below.each;
    labelled = λ b hb. elim (gains b hb) [ inl same ↦ rw same.1 (kept b hb same.0) | inr more ↦ rw more.2 (gained b hb more.0 more.1) ];
  }
