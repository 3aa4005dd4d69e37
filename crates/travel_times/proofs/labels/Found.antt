-- A pruned search from a node finds exactly the nodes that the node is a hub of.
use Rattle.std.proofs.Common.{rules, ◌≡◌, ℕ, suc, ◌+◌, ◌<◌, ◌≤◌, ◌⊎◌, List, [], ◌∷◌, get_or, slice_index, All, Contains, sym, ◌∙◌, inl, inr, arith}
use Rattle.travel_times.proofs.Common.{
  get_or_default,
  All-contains,
  sum_by-cons,
  never,
  longest,
  Arc,
  IsWalk,
  walk_seconds,
  IsArcAmong,
  Hub,
  IsRankedHub,
  AreLabelsBelow,
  IsToldAt,
  IsPruned,
  IsSpread,
}
use Rattle.travel_times.proofs.lemmas.search.WalkLemmas.{goal_within}
use Rattle.travel_times.proofs.labels.Times.{AreTimes, metric_of, start_within, time_is, time_least, least_is}
use Rattle.travel_times.proofs.labels.Cover.{IsClear, cover}

-- the label that the start has of its own: hubs that it reaches, with the seconds to them
pub record IsOwnLabel (n : ℕ) (time : ℕ → ℕ → ℕ) (rank : List ℕ) (h : ℕ) (own : List Hub) : Type 0 where
  pub sound : (hub : Hub) → Contains own hub → (hub.node < n) × (hub.seconds ≡ time h hub.node)
  pub complete : (w : ℕ) → w < n → slice_index rank w < slice_index rank h → time h w ≤ longest → IsClear n time (slice_index rank) h w (slice_index rank w) →
      Contains own (record { node = w; seconds = time h w })

-- a node of lower rank joins two nodes within so many seconds
abbrev pub IsJoined : ℕ → (ℕ → ℕ → ℕ) → List ℕ → ℕ → ℕ → ℕ → Type 0
IsJoined n time rank h b most = (w : ℕ) × (w < n) × (slice_index rank w < slice_index rank h) × (time h w + time w b ≤ most)

module _ {arcs : List Arc} {n : ℕ} {time : ℕ → ℕ → ℕ} {rank : List ℕ} (among : All (IsArcAmong n) arcs) (few : n ≤ 100000) (are : AreTimes arcs n time) where
  -- a hub by travel times
  pub hub_is : (b h s : ℕ) → b < n → IsRankedHub arcs rank b h s → (h < n) × (s ≡ time h b) × (time h b ≤ longest) × IsClear n time (slice_index rank) h b
      (slice_index rank h)
  hub_is b h s hb hub =
      let hh : h < n = start_within arcs hub.time.walk n h b among hub.time.walks hb in
      let is = time_is among few are h b s hh hb hub.time in (
        hh,
        is.0,
        is.1,
        λ w hw low e.
            hub.first w (time h w) (time w b) low (least_is among few are h w hh hw (omega (arith, e, is.1)))
            (least_is among few are w b hw hb (omega (arith, e, is.1))) (e ∙ sym is.0),
      )

  pub hub_from : (b h : ℕ) → b < n → h < n → time h b ≤ longest → IsClear n time (slice_index rank) h b (slice_index rank h) →
      IsRankedHub arcs rank b h (time h b)
  hub_from b h hb hh finite clear = record {
    time = least_is among few are h b hh hb finite;
    first = λ w before after low from to e.
        let hw : w < n = goal_within arcs from.walk n h w among from.walks hh in
        clear w hw low (omega (arith, e, (time_is among few are h w before hh hw from).0, (time_is among few are w b after hw hb to).0));
  }

  module _ {h : ℕ} {labels : List (List Hub)} {own : List Hub} {via : List ℕ} (hh : h < n) (below : AreLabelsBelow arcs rank n (slice_index rank h) labels)
      (of_start : IsOwnLabel n time rank h own) (spread : IsSpread n own via) where
    -- what is told is so
    pub told_sound : (b most : ℕ) → b < n → most < never → IsToldAt labels via b most → IsJoined n time rank h b most
    told_sound b most hb finite (k, inside, sum) =
        let none : Hub = record { node = 0; seconds = 0 } in
        let hub : Hub = get_or (get_or labels b []) k none in
        let lab = (below.labelled b hb).sound k none inside in
        let is = hub_is b hub.node hub.seconds hb lab.0 in
        elim (spread.sound hub.node is.0) [
          | inl far ↦ absurd (omega (arith, far))
          | inr has ↦ (hub.node, is.0, lab.1, omega (arith, is.1, (of_start.sound (record { node = hub.node; seconds = slice_index via hub.node }) has).1))
        ]

    -- what is so is told
    pub told_complete : (w b most : ℕ) → w < n → b < n → slice_index rank w < slice_index rank h → time h w ≤ longest → time w b ≤ longest →
        time h w + time w b ≤ most → IsToldAt labels via b most
    told_complete w b most hw hb low from to less =
        let found = cover n time (slice_index rank) (metric_of among few are) (suc (slice_index rank w)) h b w hh hb hw (omega arith) from to in
        let v : ℕ = found.0 in
        let c = found.2 in
        let near = spread.complete (record { node = v; seconds = time h v }) (of_start.complete v c.within (omega (arith, found.1)) c.from c.from_clear) in
        let hub : Hub = record { node = v; seconds = time v b } in
        let has = (below.labelled b hb).complete hub (hub_from b v hb c.within c.to c.to_clear) (omega (arith, found.1)) in
        (has.0, has.1, rw (get_or_default (get_or labels b []) has.0 (record { node = 0; seconds = 0 }) hub has.1 ∙ has.2, near) (omega (arith, c.least)))

    module _ {seconds : List ℕ} (pruned : IsPruned arcs n h labels via seconds) where
      -- along a walk the search finds each node in time, unless a node of lower rank joins its end
      reaches : (walk : List Arc) (x b p : ℕ) → x < n → b < n → IsWalk arcs x walk b → slice_index seconds x ≤ p → p + walk_seconds walk ≤ longest
          → IsJoined n time rank h b (p + walk_seconds walk) ⊎ (slice_index seconds b ≤ p + walk_seconds walk)
      reaches [] x b p hx hb walks le short = inr (rw (← walks) (omega arith))
      reaches (arc ∷ rest) x b p hx hb walks le short =
          let more = sum_by-cons (λ (a : Arc). a.seconds) arc rest in
          elim (pruned.relaxed x hx (omega arith)) [
            | inl told ↦
                let joined = told_sound x (slice_index seconds x) hx (omega arith) told in
                inl (
                  joined.0,
                  joined.1,
                  joined.2,
                  omega (
                    arith,
                    joined.3,
                    (metric_of among few are).triangle joined.0 x b joined.1 hx hb,
                    (time_least among few are x b (arc ∷ rest) hx hb walks).0,
                  ),
                )
            | inr relaxed ↦
                let next : slice_index seconds arc.to ≤ p + arc.seconds = elim (relaxed arc walks.0 walks.1)
                [ inl h ↦ omega (arith, h) | inr h ↦ absurd (omega (arith, h, more)) ] in
                let same : p + arc.seconds + walk_seconds rest ≡ p + walk_seconds (arc ∷ rest) = omega (arith, more) in
                rw same at (reaches rest arc.to b (p + arc.seconds) ((All-contains (IsArcAmong n) arcs arc among walks.0).1) hb walks.2 next
                (omega (arith, more)))
          ]

      -- the same for the travel time
      in_time : (b : ℕ) → b < n → time h b ≤ longest → IsJoined n time rank h b (time h b) ⊎ (slice_index seconds b ≤ time h b)
      in_time b hb finite =
          let least = least_is among few are h b hh hb finite in
          let same : 0 + walk_seconds least.walk ≡ time h b = omega (arith, least.takes) in
          rw same at (reaches least.walk h b 0 hh hb least.walks (omega (arith, pruned.start_zero)) (omega (arith, least.takes)))

      -- no number is below the travel time
      no_earlier : (b : ℕ) → b < n → slice_index seconds b < never → (time h b ≤ slice_index seconds b) × (time h b ≤ longest) ×
          (slice_index seconds b ≤ longest)
      no_earlier b hb finite = search (rules, time_least)

      -- a node that the start is a hub of is found, and not told of before
      pub hub_found : (b t : ℕ) → b < n → IsRankedHub arcs rank b h t → (slice_index seconds b ≡ t) × (t ≤ longest) × (IsToldAt labels via b t → ⊥)
      hub_found b t hb hub =
          let is = hub_is b h t hb hub in
          let alone : (most : ℕ) → most ≤ t → IsJoined n time rank h b most → ⊥ = λ most le joined.
          is.3 joined.0 joined.1 joined.2 (omega (arith, joined.3, is.1, (metric_of among few are).triangle h joined.0 b hh joined.1 hb)) in
          let le : slice_index seconds b ≤ time h b = elim (in_time b hb is.2) [
            | inl joined ↦ absurd (alone (time h b) (omega (arith, is.1)) joined)
            | inr l ↦ l
          ] in (
            omega (arith, is.1, is.2, (no_earlier b hb (omega (arith, is.2))).0),
            omega (arith, is.1, is.2),
            λ told. alone t (omega arith)
                (told_sound b t hb (omega (arith, is.1, is.2)) told),
          )

      -- a node that is found, and not told of before, has the start as a hub
      pub found_hub : (b : ℕ) → b < n → slice_index seconds b < never → (IsToldAt labels via b (slice_index seconds b) → ⊥) →
          IsRankedHub arcs rank b h (slice_index seconds b)
      found_hub b hb finite new =
          let bounds = no_earlier b hb finite in
          let untold : IsJoined n time rank h b (slice_index seconds b) → ⊥ = λ joined.
          new (told_complete joined.0 b (slice_index seconds b) joined.1 hb joined.2 (omega (arith, joined.3, bounds.2)) (omega (arith, joined.3, bounds.2))
          joined.3) in
          let le : slice_index seconds b ≤ time h b = elim (in_time b hb bounds.1) [
            | inl joined ↦ absurd
                (untold (joined.0, joined.1, joined.2, omega (arith, joined.3, bounds.0)))
            | inr l ↦ l
          ] in
          let same : time h b ≡ slice_index seconds b = omega (arith, bounds.0) in
          rw same at (hub_from b h hb hh bounds.1 (λ w hw low e. untold (w, hw, low, omega arith)))
