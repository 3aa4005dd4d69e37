use Rattle.std.specs.Prelude.{◌≡◌, ◌≢◌, ℕ, ◌+◌, ◌<◌, ◌≤◌, ◌⊎◌, List, length, slice_index}

-- the pair of one more vehicle, at this position, is taken into account for each rider outside the tree
pub record Relaxes (row price place : List ℕ) (offset position : ℕ) (tight_at parent_of tight_at' parent_of' : List ℕ) : Type 0 where
  pub tight_length : length tight_at' ≡ length tight_at
  pub parent_length : length parent_of' ≡ length parent_of
  pub no_later : (j : ℕ) → j < length row → slice_index place j ≡ 0 → slice_index tight_at' j ≤ slice_index tight_at j
  pub bounded : (j : ℕ) → j < length row → slice_index place j ≡ 0 → slice_index row j + slice_index tight_at' j ≤ offset + slice_index price j
  pub from : (j : ℕ) → j < length row → slice_index place j ≡ 0 → ((slice_index row j + slice_index tight_at' j ≡ offset + slice_index price j) × (slice_index parent_of' j ≡ position)) ⊎ ((slice_index tight_at' j ≡ slice_index tight_at j) × (slice_index parent_of' j ≡ slice_index parent_of j))

-- one rider is tight at the lesser of two falls, by the vehicle whose it is; nothing else changes
pub record Improves (rider when position : ℕ) (tight_at parent_of tight_at' parent_of' : List ℕ) : Type 0 where
  pub tight_length : length tight_at' ≡ length tight_at
  pub parent_length : length parent_of' ≡ length parent_of
  pub no_later : slice_index tight_at' rider ≤ slice_index tight_at rider
  pub bounded : slice_index tight_at' rider ≤ when
  pub from : ((slice_index tight_at' rider ≡ when) × (slice_index parent_of' rider ≡ position)) ⊎ ((slice_index tight_at' rider ≡ slice_index tight_at rider) × (slice_index parent_of' rider ≡ slice_index parent_of rider))
  pub others : (j : ℕ) → j ≢ rider → slice_index tight_at' j ≡ slice_index tight_at j
  pub other_parents : (j : ℕ) → j ≢ rider → slice_index parent_of' j ≡ slice_index parent_of j

-- of two positions of vehicles this one has the lesser price
abbrev pub IsCheaper : List ℕ → List ℕ → ℕ → ℕ → ℕ → Type 0
IsCheaper prices vehicles first second one =
    ((one ≡ second) × (slice_index prices (slice_index vehicles second) < slice_index prices (slice_index vehicles first)))
    ⊎ ((one ≡ first) × (slice_index prices (slice_index vehicles first) ≤ slice_index prices (slice_index vehicles second)))

-- the prices of these vehicles fall, and no others change
pub record Falls (vehicles : List ℕ) (by : ℕ) (old new : List ℕ) : Type 0 where
  pub same_length : length new ≡ length old
  pub inside : (t : ℕ) → t < length vehicles → slice_index new (slice_index vehicles t) + by ≡ slice_index old (slice_index vehicles t)
  pub outside : (i : ℕ) → ((t : ℕ) → t < length vehicles → slice_index vehicles t ≢ i) → slice_index new i ≡ slice_index old i

-- the prices of these riders, from position 1 on, rise, and no others change
pub record Rises (riders : List ℕ) (by : ℕ) (old new : List ℕ) : Type 0 where
  pub same_length : length new ≡ length old
  pub inside : (t : ℕ) → 0 < t → t < length riders → slice_index new (slice_index riders t) ≡ slice_index old (slice_index riders t) + by
  pub outside : (j : ℕ) → ((t : ℕ) → 0 < t → t < length riders → slice_index riders t ≢ j) → slice_index new j ≡ slice_index old j
