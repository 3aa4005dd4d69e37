-- One more arc of a pass over sixteen rows at once.
use Rattle.std.proofs.Common.{◌≡◌, ℕ, ◌+◌, ◌<◌, inl, inr, List, [], length, get_or, set, slice_index, All, sym, subst, arith}
use Rattle.std.proofs.lemmas.Bool.{cases_eq}
use Rattle.std.proofs.lemmas.List.{get_or-map, get_or-set_other, get_or-set_same, length-map, length-set, map-set}
use Rattle.std.proofs.Math.Seq.{map-set_same}
use Rattle.road_network.specs.declared.arc.Arc.{Arc}
use Rattle.road_hierarchy.specs.work.sweeps.Sweep.{AreInTurn, HasSwept}
use Rattle.road_hierarchy.specs.work.sweeps.Lanes.{LowersBlock, lane}
use Rattle.road_hierarchy.proofs.sweeps.Sweeping.{swept_skip, swept_take}

-- the block of a node
abbrev pub block : List (List ℕ) → ℕ → List ℕ
block rows node = get_or rows node []

pub lane_cell_is : (rows : List (List ℕ)) (k node : ℕ) → node < length rows → slice_index (lane k rows) node ≡ slice_index (block rows node) k
lane_cell_is rows k node inside = get_or-map (λ (b : List ℕ). slice_index b k) rows node [] 0 inside

pub swept_lane : (arcs : List Arc) → AreInTurn arcs → (count : ℕ) (rows now : List (List ℕ)) (to' : List ℕ) (arc : Arc) (k : ℕ) → HasSwept arcs count
    (lane k rows) (lane k now) → count < length arcs → arc ≡ get_or arcs count arc
    → arc.from < length now → arc.to < length now → k < 16 → k < length (block now arc.to) → LowersBlock 16 (block now arc.from) arc.seconds
    (block now arc.to) to' → HasSwept arcs (count + 1) (lane k rows) (lane k (set now arc.to to'))
swept_lane arcs turn count rows now to' arc k swept inside read from_in to_in few within lowers =
    let from_is = lane_cell_is now k arc.from from_in in
    let to_is = lane_cell_is now k arc.to to_in in
    elim (lowers.each k few within) [
      | inl (same, le) ↦
          subst (λ row. HasSwept arcs (count + 1) (lane k rows) row) (sym (map-set_same (λ (b : List ℕ). slice_index b k) now arc.to to' [] same))
          (swept_skip arcs turn count (lane k rows) (lane k now) swept arc inside read (omega (arith, from_is, to_is, le)))
      | inr (is, less) ↦
          let each : length (lane k now) ≡ length now = length-map now (λ (b : List ℕ). slice_index b k) in
          let here : arc.to < length (lane k now) = omega (arith, to_in, each) in
          subst (λ row. HasSwept arcs (count + 1) (lane k rows) row) (sym (map-set (λ (b : List ℕ). slice_index b k) now arc.to to'))
          (swept_take arcs turn count (lane k rows) (lane k now) swept arc inside read (slice_index to' k) (omega (arith, is, from_is))
          (omega (arith, is, less, to_is)) here)
    ]

-- what holds of each block and of the new one holds of all
pub blocks_set : (P : List ℕ → Type 0) (rows : List (List ℕ)) (node : ℕ) (to : List ℕ) → All P rows → P to → node < length rows → All P (set rows node to)
blocks_set P rows node to all here within k d h = elim (cases_eq k node) [
  | inl e ↦ rw (e, get_or-set_same rows node to d within) here
  | inr ne ↦ rw (get_or-set_other rows node k to d ne) (all k d (omega (arith, h, length-set rows node to)))
]

pub lengths_set : (rows : List (List ℕ)) (node : ℕ) (to : List ℕ) → ((i : ℕ) → i < length rows → length (block rows i) ≡ 16) → length to ≡ 16
    → node < length rows → (i : ℕ) → i < length (set rows node to) → length (block (set rows node to) i) ≡ 16
lengths_set rows node to all here within i h = elim (cases_eq i node) [
  | inl e ↦ rw (e, get_or-set_same rows node to [] within) here
  | inr ne ↦ rw (get_or-set_other rows node i to [] ne) (all i (omega (arith, h, length-set rows node to)))
]
