use Rattle.std.proofs.Common.{◌≡◌, ◌≢◌, ℕ, ◌+◌, ◌<◌, ◌≤◌, ◌⊎◌, List, length, slice_index, rules}
use Rattle.rebalancing.proofs.Common.{Improves}

-- the riders below i are relaxed, and `nearest` is the nearest of them
pub record IsRelaxing (row price place : List ℕ) (offset position : ℕ) (tight_at parent_of tight_at' parent_of' : List ℕ) (i m nearest : ℕ) : Type 0 where
  pub size : m ≡ length row
  pub tight_length : length tight_at' ≡ length tight_at
  pub parent_length : length parent_of' ≡ length parent_of
  pub same : (j : ℕ) → i ≤ j → slice_index tight_at' j ≡ slice_index tight_at j
  pub same_parent : (j : ℕ) → i ≤ j → slice_index parent_of' j ≡ slice_index parent_of j
  pub no_later : (j : ℕ) → j < i → slice_index place j ≡ 0 → slice_index tight_at' j ≤ slice_index tight_at j
  pub bounded : (j : ℕ) → j < i → slice_index place j ≡ 0 → slice_index row j + slice_index tight_at' j ≤ offset + slice_index price j
  pub from : (j : ℕ) → j < i → slice_index place j ≡ 0 → ((slice_index row j + slice_index tight_at' j ≡ offset + slice_index price j) ×
      (slice_index parent_of' j ≡ position)) ⊎ ((slice_index tight_at' j ≡ slice_index tight_at j) × (slice_index parent_of' j ≡ slice_index parent_of j))
  pub most : (nearest < i) ⊎ (nearest ≡ m)
  pub outside : nearest < m → slice_index place nearest ≡ 0
  pub first : (j : ℕ) → j < i → slice_index place j ≡ 0 → nearest < m
  pub least : (j : ℕ) → j < i → slice_index place j ≡ 0 → slice_index tight_at' nearest ≤ slice_index tight_at' j

module _ (row price place : List ℕ) (offset position : ℕ) (ta po ta' po' : List ℕ) (i m nearest : ℕ)
    (inv : IsRelaxing row price place offset position ta po ta' po' i m nearest) where
  -- a rider of the tree is passed over
  pub IsRelaxing-skip : 0 < slice_index place i → IsRelaxing row price place offset position ta po ta' po' (i + 1) m nearest
  IsRelaxing-skip inside = search rules

  module _ (ta'' po'' : List ℕ) (when nearest' : ℕ) (better : Improves i when position ta' po' ta'' po'')
      (fits : slice_index row i + when ≡ offset + slice_index price i) (out_i : slice_index place i ≡ 0) (im : i < m)
      (next : ((nearest' ≡ i) × ((nearest ≡ m) ⊎ (slice_index ta'' i ≤ slice_index ta'' nearest))) ⊎
      ((nearest' ≡ nearest) × (nearest ≢ m) × (slice_index ta'' nearest ≤ slice_index ta'' i))) where
    -- a rider outside the tree is taken into account
    pub IsRelaxing-more : IsRelaxing row price place offset position ta po ta'' po'' (i + 1) m nearest'
    IsRelaxing-more = search rules
