-- A search's finds are handed over, node by node.
use Rattle.std.proofs.Common.{rules, ◌≡◌, ◌≢◌, ℕ, ◌+◌, ◌<◌, List, [], ◌∷◌, ◌++◌, length, get_or, set, slice_index, All, ◌∙◌, inl, inr, arith}
use Rattle.travel_times.proofs.Common.{cases_eq, get_or-set_other, get_or-set_same, length-set, All-push, never, Hub, GainsHub, HandsOver}

-- a label with one hub more, in its place
pub hubs_within : (n node : ℕ) (labels : List (List Hub)) (old new : List Hub) (hub : Hub) → hub.node < n → node < length labels →
    All (λ label. All (λ (hub : Hub). hub.node < n) label) labels → new ≡ get_or labels node old ++ hub ∷ []
    → All (λ label. All (λ (hub : Hub). hub.node < n) label) (set labels node new)
hubs_within n node labels old new hub hs inside all pushed k d h = elim (cases_eq k node) [
  | inl same ↦ rw (same, get_or-set_same labels node new d inside, pushed) (All-push (λ (hub : Hub). hub.node < n) (get_or labels node old) hub
      (all node old inside) hs)
  | inr other ↦ rw (get_or-set_other labels node k new d other) (all k d (omega (arith, h, length-set labels node new)))
]

-- one taken node more
pub hands_more : (start : ℕ) (via taken : List ℕ) (i : ℕ) (before now after : List ℕ) (labels0 labels labels' : List (List Hub)) →
    HandsOver start via taken i before labels0 now labels → length after ≡ length now → length labels' ≡ length labels
    → (slice_index after (slice_index taken i) ≡ never) × ((other : ℕ) → other ≢ slice_index taken i → slice_index after other ≡ slice_index now other)
    → GainsHub start via (slice_index now (slice_index taken i)) (get_or labels (slice_index taken i) []) (get_or labels' (slice_index taken i) [])
    → ((other : ℕ) → other ≢ slice_index taken i → get_or labels' other [] ≡ get_or labels other []) →
    HandsOver start via taken (i + 1) before labels0 after labels'
hands_more start via taken i before now after labels0 labels labels' hands each each' seconds gains others = record {
  seconds_length = each ∙ hands.seconds_length;
  labels_length = each' ∙ hands.labels_length;
  each = λ node h. search rules;
}
