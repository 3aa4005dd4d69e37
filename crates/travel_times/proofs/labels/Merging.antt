-- A merge of two labels by rank.
use Rattle.std.proofs.lemmas.Bool.Decides.{nat_tests}
use Rattle.std.proofs.Common.{rules, ◌≡◌, ℕ, ◌+◌, ◌<◌, ◌≤◌, ◌⊎◌, min, List, length, get_or, slice_index, ap, inl, inr, arith}
use Rattle.travel_times.proofs.Common.{cases_eq, cases_lt, get_or_default, never, Hub, IsRising, IsLeastInCommon}

abbrev pub no_hub : Hub
no_hub = record { node = 0; seconds = 0 }

-- the least sum over pairs of which one is passed
pub record IsMerging (forward backward : List Hub) (i j best : ℕ) : Type 0 where
  pub i_within : i ≤ length forward
  pub j_within : j ≤ length backward
  pub most : best ≤ never
  pub given : (best ≡ never) ⊎ ((x : ℕ) × (y : ℕ) × (x < length forward) × (y < length backward)
      × ((get_or forward x no_hub).node ≡ (get_or backward y no_hub).node)
      × ((get_or forward x no_hub).seconds + (get_or backward y no_hub).seconds ≡ best))
  pub passed : (x y : ℕ) → x < length forward → y < length backward → (x < i) ⊎ (y < j) → (get_or forward x no_hub).node ≡ (get_or backward y no_hub).node
      → best ≤ (get_or forward x no_hub).seconds + (get_or backward y no_hub).seconds

-- a later hub is of no lower rank
no_lower : {rank : List ℕ} {label : List Hub} → IsRising rank label → (i x : ℕ) → x < length label → i ≤ x →
    slice_index rank (get_or label i no_hub).node ≤ slice_index rank (get_or label x no_hub).node
no_lower {rank} {label} rises i x within le = grind (arith, nat_tests)

-- one of two was passed before, or the first is at the place that is passed now
passed_or_here : (x y i j : ℕ) → (x < i + 1) ⊎ (y < j) → ((x < i) ⊎ (y < j)) ⊎ ((i ≡ x) × (j ≤ y))
passed_or_here x y i j either = grind arith

module _ {rank : List ℕ} {forward backward : List Hub} (ahead : IsRising rank forward) (back : IsRising rank backward) {i j best : ℕ}
    (so_far : IsMerging forward backward i j best) (hi : i < length forward) (hj : j < length backward) where
  -- nodes of equal hubs have one rank
  same_rank : (x y : ℕ) → (get_or forward x no_hub).node ≡ (get_or backward y no_hub).node →
      slice_index rank (get_or forward x no_hub).node ≡ slice_index rank (get_or backward y no_hub).node
  same_rank x y e = ap (slice_index rank) e

  -- the hub ahead has the lower rank
  pub merge_ahead : slice_index rank (get_or forward i no_hub).node < slice_index rank (get_or backward j no_hub).node →
      IsMerging forward backward (i + 1) j best
  merge_ahead less = record {
    i_within = omega arith;
    j_within = so_far.j_within;
    most = so_far.most;
    given = so_far.given;
    passed = λ x y hx hy either e. elim (passed_or_here x y i j either) [
      | inl before ↦ so_far.passed x y hx hy before e
      | inr here ↦
          let low : slice_index rank (get_or forward x no_hub).node < slice_index rank (get_or backward j no_hub).node = rw here.0 at less in
          absurd (omega (arith, low, same_rank x y e, no_lower back j y hy here.1))
    ];
  }

  -- the hub behind has the lower rank
  pub merge_back : slice_index rank (get_or backward j no_hub).node < slice_index rank (get_or forward i no_hub).node →
      IsMerging forward backward i (j + 1) best
  merge_back less = record {
    i_within = so_far.i_within;
    j_within = omega arith;
    most = so_far.most;
    given = so_far.given;
    passed = λ x y hx hy either e. elim (passed_or_here y x j i (elim either [ inl b ↦ inr b | inr b ↦ inl b ])) [
      | inl before ↦ so_far.passed x y hx hy (elim before [ inl b ↦ inr b | inr b ↦ inl b ]) e
      | inr here ↦
          let low : slice_index rank (get_or backward y no_hub).node < slice_index rank (get_or forward i no_hub).node = rw here.0 at less in
          absurd (omega (arith, low, same_rank x y e, no_lower ahead i x hx here.1))
    ];
  }

  -- it is one hub of both
  pub merge_both : (least : ℕ) → ((a b : ℕ) → a < length rank → b < length rank → slice_index rank a ≡ slice_index rank b → a ≡ b) →
      slice_index rank (get_or backward j no_hub).node ≤ slice_index rank (get_or forward i no_hub).node →
      slice_index rank (get_or forward i no_hub).node ≤ slice_index rank (get_or backward j no_hub).node
      → least ≡ min best ((get_or forward i no_hub).seconds + (get_or backward j no_hub).seconds) → IsMerging forward backward (i + 1) (j + 1) least
  merge_both least apart le ge is_least =
      let node : (get_or forward i no_hub).node ≡ (get_or backward j no_hub).node = apart (get_or forward i no_hub).node (get_or backward j no_hub).node
      ((ahead.within i no_hub hi).0) ((back.within j no_hub hj).0) (omega arith) in
      let cap = so_far.most in
      record {
        i_within = omega arith;
        j_within = omega arith;
        most = omega arith;
        given = elim (cases_lt best ((get_or forward i no_hub).seconds + (get_or backward j no_hub).seconds)) [
          | inl less ↦ let same : best ≡ least = omega arith in rw same at so_far.given
          | inr more ↦ inr (i, j, hi, hj, node, omega arith)
        ];
        passed = λ x y hx hy either e. elim (cases_lt x i) [
          | inl before ↦ omega (arith, so_far.passed x y hx hy (inl before) e)
          | inr here ↦ elim (cases_lt y j) [
            | inl before ↦ omega (arith, so_far.passed x y hx hy (inr before) e)
            | inr after ↦
                let same = same_rank x y e in
                let ix : i ≡ x = elim (cases_eq i x) [
                  | inl e' ↦ e'
                  | inr ne ↦
                      let jy : j ≡ y = elim either [ inl lt ↦ absurd (omega arith) | inr lt ↦ omega arith ] in
                      let at : slice_index rank (get_or backward y no_hub).node ≤ slice_index rank (get_or forward i no_hub).node = rw jy at le in
                      absurd (omega (arith, at, same, ahead.rising i x no_hub (omega arith) hx))
                ] in
                let jy : j ≡ y = elim (cases_eq j y) [
                  | inl e' ↦ e'
                  | inr ne ↦
                      let at : slice_index rank (get_or forward x no_hub).node ≤ slice_index rank (get_or backward j no_hub).node = rw ix at ge in
                      absurd (omega (arith, at, same, back.rising j y no_hub (omega arith) hy))
                ] in
                rw (← ix, ← jy) (omega arith)
          ]
        ];
      }

pub merged : (forward backward : List Hub) (i j best : ℕ) → IsMerging forward backward i j best → (length forward ≤ i) ⊎ (length backward ≤ j) →
    IsLeastInCommon forward backward best
merged forward backward i j best so_far ends = search (rules, get_or_default)
