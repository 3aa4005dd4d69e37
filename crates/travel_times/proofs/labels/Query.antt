-- What two labels have in common is the travel time.
use Rattle.std.proofs.Common.{◌≡◌, ◌≢◌, ℕ, suc, ◌+◌, ◌<◌, ◌≤◌, ◌⊎◌, List, ◌++◌, length, get_or, All, sym, ap, ◌∙◌, inl, inr, arith}
use Rattle.travel_times.proofs.Common.{
  get_or_default,
  Contains-get_or,
  never,
  longest,
  Arc,
  IsWalk,
  walk_seconds,
  IsLeastTime,
  IsTimeBetween,
  HasNoWalk,
  Roads,
  IsNetwork,
  IsArcAmong,
  Hub,
  IsForwardHub,
  IsBackwardHub,
  IsLabel,
  IsOfLowerRank,
  NodeLabels,
  AreLabelsOf,
  label_at,
  key_of,
  IsLeastInCommon,
}
use Rattle.travel_times.proofs.lemmas.search.WalkLemmas.{IsWalk-append, walk_seconds-append, short_walk, goal_within}
use Rattle.travel_times.proofs.labels.Times.{AreTimes, times_of, metric_of, time_is, time_least, least_is}
use Rattle.travel_times.proofs.labels.Cover.{IsClear, cover}
use Rattle.travel_times.proofs.labels.Keys.{key_lower}

module _ {arcs : List Arc} {n : ℕ} {time : ℕ → ℕ → ℕ} (among : All (IsArcAmong n) arcs) (few : n ≤ 100000) (few_arcs : length arcs ≤ 400000)
    (are : AreTimes arcs n time) where
  -- hubs by travel times
  first : (p q h w before after : ℕ) → p < n → q < n → h < n → IsClear n time (key_of arcs) p q (key_of arcs h) → IsOfLowerRank arcs w h →
      IsLeastTime arcs p w before → IsLeastTime arcs w q after → before + after ≢ time p q
  first p q h w before after hp hq hh clear low from to e =
      let hw : w < n = goal_within arcs from.walk n p w among from.walks hp in
      clear w hw ((key_lower arcs w h few_arcs (omega arith) (omega arith)).0 low)
      (omega (arith, e, (time_is among few are p w before hp hw from).0, (time_is among few are w q after hw hq to).0))

  forward_hub : (a v : ℕ) → a < n → v < n → time a v ≤ longest → IsClear n time (key_of arcs) a v (key_of arcs v) → IsForwardHub arcs a v (time a v)
  forward_hub a v ha hv finite clear = record {
    time = least_is among few are a v ha hv finite;
    first =
        λ w before after low from to. first a v v w before after ha hv hv clear low from to;
  }

  backward_hub : (b v : ℕ) → b < n → v < n → time v b ≤ longest → IsClear n time (key_of arcs) v b (key_of arcs v) → IsBackwardHub arcs b v (time v b)
  backward_hub b v hb hv finite clear = record {
    time = least_is among few are v b hv hb finite;
    first =
        λ w before after low from to. first v b v w before after hv hb hv clear low from to;
  }

  module _ {a b : ℕ} {forward backward : List Hub} (ha : a < n) (hb : b < n) (from : IsLabel arcs (IsForwardHub arcs a) forward)
      (to : IsLabel arcs (IsBackwardHub arcs b) backward) {s : ℕ} (common : IsLeastInCommon forward backward s) where
    -- what is given is a way
    given_way : (s ≡ never) ⊎ ((walk : List Arc) × IsWalk arcs a walk b × (walk_seconds walk ≡ s) × (time a b ≤ s))
    given_way = elim common.given [
      | inl far ↦ inl far
      | inr pair ↦
          let none : Hub = record { node = 0; seconds = 0 } in
          let f : Hub = get_or forward pair.0 none in
          let hub = (from.hubs f).0 (Contains-get_or forward pair.0 none pair.2) in
          let onward = rw (← pair.4) at ((to.hubs (get_or backward pair.1 none)).0 (Contains-get_or backward pair.1 none pair.3)).time in
          let walk : List Arc = hub.time.walk ++ onward.walk in
          let walks : IsWalk arcs a walk b = IsWalk-append arcs hub.time.walk onward.walk a f.node b hub.time.walks onward.walks in
          let takes : walk_seconds walk ≡ s = omega (arith, pair.5, walk_seconds-append hub.time.walk onward.walk, hub.time.takes, onward.takes) in
          inr (walk, walks, takes, omega (arith, takes, (time_least among few are a b walk ha hb walks).0))
    ]

    -- nothing is shorter
    no_shorter : time a b ≤ longest → s ≤ time a b
    no_shorter finite =
        let metric = metric_of among few are in
        let at_a = metric.zero_to_itself a ha in
        let found = cover n time (key_of arcs) metric (suc (key_of arcs a)) a b a ha hb ha (omega arith) (omega arith) finite in
        let c = found.2 in
        let one : Hub = record { node = found.0; seconds = time a found.0 } in
        let two : Hub = record { node = found.0; seconds = time found.0 b } in
        let has = (from.hubs one).1 (forward_hub a found.0 ha c.within c.from c.from_clear) in
        let has' = (to.hubs two).1 (backward_hub b found.0 hb c.within c.to c.to_clear) in
        let g : get_or backward has'.0 one ≡ two = get_or_default backward has'.0 one two has'.1 ∙ has'.2 in
        let le = common.least has.0 has'.0 one has.1 has'.1 (ap (λ (h : Hub). h.node) has.2 ∙ sym (ap (λ (h : Hub). h.node) g)) in
        omega (arith, le, ap (λ (h : Hub). h.seconds) has.2, ap (λ (h : Hub). h.seconds) g, c.least, at_a)

    time_in_common : IsTimeBetween arcs a b s
    time_in_common = elim (are a b ha hb) [
      | inl least ↦
          let le = no_shorter (time_is among few are a b (time a b) ha hb least).1 in
          elim given_way [
            | inl far ↦ absurd (omega (arith, far, le, (time_is among few are a b (time a b) ha hb least).1))
            | inr way ↦ let same : time a b ≡ s =
                omega (arith, le, way.3) in inl (rw same at least)
          ]
      | inr none ↦ elim given_way [ inl far ↦ inr (none.0, far) | inr way ↦ absurd (none.0 way.0 way.1) ]
    ]

-- the labels of a network
pub time_by_labels : (roads : Roads) (labels : NodeLabels) (a b s : ℕ) → AreLabelsOf roads labels → a < length roads.nodes → b < length roads.nodes →
    IsLeastInCommon (label_at labels.forward a) (label_at labels.backward b) s → IsTimeBetween roads.arcs a b s
time_by_labels roads labels a b s of ha hb common =
    let times = times_of roads.arcs (length roads.nodes) of.network.arcs of.network.few_nodes in
    time_in_common of.network.arcs of.network.few_nodes of.network.few_arcs times.1 ha hb (of.forward a ha) (of.backward b hb) common

-- no walk takes the time that stands for none
pub no_walk_at_never : (roads : Roads) (a b s : ℕ) → IsNetwork roads → a < length roads.nodes → IsTimeBetween roads.arcs a b s → s ≡ never →
    HasNoWalk roads.arcs a b
no_walk_at_never roads a b s network ha (inl least) far =
    let short = short_walk roads.arcs least.walk (length roads.nodes) a b network.arcs network.few_nodes ha least.walks in
    absurd (omega (arith, short.3, least.least short.0 short.1))
no_walk_at_never roads a b s network ha (inr none) far = none.0
