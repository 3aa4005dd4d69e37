-- Sources begin one by one, each in a lane of its own.
use Rattle.std.proofs.Common.{◌≡◌, ◌≢◌, ℕ, ◌+◌, ◌<◌, ◌≤◌, inl, inr, List, [], length, get_or, set, slice_index, All, refl, sym, ap, ◌∙◌, subst, arith}
use Rattle.std.proofs.lemmas.Bool.{cases_eq}
use Rattle.std.proofs.lemmas.List.{get_or-set_other, get_or-set_same, length-map, length-set}
use Rattle.road_hierarchy.specs.work.sweeps.Sweep.{IsStart, far}
use Rattle.road_hierarchy.specs.work.sweeps.Lanes.{lane, lane_cell}
use Rattle.road_hierarchy.proofs.sweeps.Laning.{lane_cell_is, lengths_set, blocks_set}

-- the first so many sources have begun
pub record IsBegun (sources : List ℕ) (n count : ℕ) (rows : List (List ℕ)) : Type 0 where
  pub same_length : length rows ≡ n
  pub blocks : (i : ℕ) → i < length rows → length (get_or rows i []) ≡ 16
  pub zero : (k : ℕ) → k < count → lane_cell rows (slice_index sources k) k ≡ 0
  pub others : (k node : ℕ) → k < 16 → node < n → (k < count → node ≢ slice_index sources k) → lane_cell rows node k ≡ far
  pub low : All (λ block. All (λ cell. cell ≤ far) block) rows

-- before the first
pub begun_none : (sources : List ℕ) (rows : List (List ℕ)) → ((i : ℕ) → i < length rows → length (get_or rows i []) ≡ 16) → All
    (λ block. All (λ cell. cell ≡ far) block) rows → IsBegun sources (length rows) 0 rows
begun_none sources rows blocks all = record {
  same_length = refl;
  blocks = blocks;
  zero = λ k lt. absurd (omega (arith, lt));
  others = λ k node lane inside apart. all node [] inside k 0 (omega (arith, lane, blocks node inside));
  low = λ i d h k e lt. omega (arith, all i d h k e lt);
}

module _ (sources : List ℕ) (n count : ℕ) (rows : List (List ℕ)) (begun : IsBegun sources n count rows) (few : count < 16) (at : ℕ)
    (is : at ≡ slice_index sources count) (within : at < length rows) where
  -- the new block
  abbrev here : List ℕ
  here = set (get_or rows at []) count 0

  cell_here : lane_cell (set rows at here) at count ≡ 0
  cell_here = ap (λ b. slice_index b count) (get_or-set_same rows at here [] within) ∙ get_or-set_same (get_or rows at []) count 0 0
      (omega (arith, few, begun.blocks at within))

  cell_other : (node k : ℕ) → (k ≡ count → node ≢ at) → lane_cell (set rows at here) node k ≡ lane_cell rows node k
  cell_other node k apart = elim (cases_eq node at) [
    | inl e ↦
        subst (λ x. lane_cell (set rows at here) x k ≡ lane_cell rows x k) (sym e)
        (ap (λ b. slice_index b k) (get_or-set_same rows at here [] within) ∙ get_or-set_other (get_or rows at []) count k 0 0 (λ f. apart f e))
    | inr ne ↦ ap (λ b. slice_index b k) (get_or-set_other rows at node here [] ne)
  ]

  pub begun_more : IsBegun sources n (count + 1) (set rows at here)
  begun_more = record {
    same_length = length-set rows at here ∙ begun.same_length;
    blocks = lengths_set rows at here begun.blocks (length-set (get_or rows at []) count 0 ∙ begun.blocks at within) within;
    zero = λ k lt. elim (cases_eq k count) [
      | inl e ↦ subst (λ x. lane_cell (set rows at here) (slice_index sources x) x ≡ 0) (sym e)
          (subst (λ x. lane_cell (set rows at here) x count ≡ 0) is cell_here)
      | inr ne ↦ cell_other (slice_index sources k) k (λ e. absurd (ne e)) ∙ begun.zero k (omega (arith, lt, ne))
    ];
    others = λ k node lane inside apart. elim (cases_eq k count) [
      | inl e ↦ cell_other node k (λ f g. apart (omega (arith, e)) (g ∙ is ∙ ap (slice_index sources) (sym e))) ∙ begun.others k node lane inside
          (λ lt. absurd (omega (arith, lt, e)))
      | inr ne ↦ cell_other node k (λ e. absurd (ne e)) ∙ begun.others k node lane inside (λ lt. apart (omega (arith, lt)))
    ];
    low = blocks_set (λ b. All (λ cell. cell ≤ far) b) rows at here begun.low low_here within;
  } where
    low_here : All (λ cell. cell ≤ far) here
    low_here k d lt = elim (cases_eq k count) [
      | inl e ↦ let is_zero : get_or here k d ≡ 0 = ap (λ x. get_or here x d) e ∙ get_or-set_same (get_or rows at []) count 0 d
          (omega (arith, few, begun.blocks at within)) in omega (arith, is_zero)
      | inr ne ↦
          let same : get_or here k d ≡ get_or (get_or rows at []) k d = get_or-set_other (get_or rows at []) count k 0 d ne in
          let old : get_or (get_or rows at []) k d ≤ far = begun.low at [] within k d (omega (arith, lt, length-set (get_or rows at []) count 0)) in
          omega (arith, same, old)
    ]

-- each lane then knows of its source alone
pub starts_of : (sources : List ℕ) (n count : ℕ) (rows : List (List ℕ)) → IsBegun sources n count rows → (k : ℕ) → k < count → k < 16
    → slice_index sources k < n → IsStart n (slice_index sources k) (lane k rows)
starts_of sources n count rows begun k lt few inside = record {
  same_length = length-map rows (λ (b : List ℕ). slice_index b k) ∙ begun.same_length;
  zero = lane_cell_is rows k (slice_index sources k) (omega (arith, inside, begun.same_length)) ∙ begun.zero k lt;
  others = λ node within apart. lane_cell_is rows k node (omega (arith, within, begun.same_length)) ∙ begun.others k node few within (λ early. apart);
}
