use Rattle.std.proofs.Common.{
  rules,
  ◌≡◌,
  ℕ,
  zero,
  suc,
  ◌+◌,
  ◌<◌,
  ◌≤◌,
  ⊎_elim,
  List,
  [],
  ◌∷◌,
  ◌++◌,
  length,
  map,
  slice_index,
  slice_range,
  add-one,
  refl,
  ap,
  ◌∙◌,
  arith,
}
use Rattle.travel_times.proofs.Common.{cases_lt, take-append-le, drop-append-le, get_or_append_left, get_or_push, Arc, Hop, hop_of, leaving}
use Rattle.std.proofs.lemmas.List.{length-append, length-drop, take_all}
use Rattle.std.proofs.Math.Seq.{drop-append_seam}
use Rattle.road_network.specs.Storage.{start_at}
use Rattle.travel_times.specs.search.Arcs.{AreArcsOf}

-- a part of a list is a part of a longer one
slice_range-append : {X : Type 0} (xs ys : List X) (a b : ℕ) → a ≤ b → b ≤ length xs → slice_range (xs ++ ys) a b ≡ slice_range xs a b
slice_range-append xs ys a b order within = search (rules, drop-append-le, take-append-le, length-drop)

-- what is put behind a list is its last part
slice_range-pushed : {X : Type 0} (xs ys : List X) → slice_range (xs ++ ys) (length xs) (length (xs ++ ys)) ≡ ys
slice_range-pushed xs ys = search (rules, drop-append_seam, take_all, length-append)

start_at-push : (ends : List ℕ) (end node : ℕ) → node ≤ length ends → start_at (ends ++ end ∷ []) node ≡ start_at ends node
start_at-push ends end zero within = refl
start_at-push ends end (suc node) within = get_or_append_left ends (end ∷ []) 0 node (omega (arith, within))

-- where the last node's hops end
start_at-last : (ends : List ℕ) (end count : ℕ) → length ends ≡ count → start_at (ends ++ end ∷ []) (count + 1) ≡ end
start_at-last ends end count is = ap (start_at (ends ++ end ∷ [])) (add-one count) ∙ get_or_push ends end 0 count is

-- the arcs of the first so many nodes, as they are copied
pub record AreCopied (arcs : List Arc) (count : ℕ) (ends : List ℕ) (hops : List Hop) : Type 0 where
  pub copy : AreArcsOf arcs count ends hops
  pub whole : start_at ends count ≡ length hops
  pub rising : (node : ℕ) → node < count → start_at ends node ≤ slice_index ends node
  pub within : (node : ℕ) → node < count → slice_index ends node ≤ length hops

-- the arcs of one more node
pub AreCopied-push : (arcs : List Arc) (count : ℕ) (ends : List ℕ) (hops : List Hop) → AreCopied arcs count ends hops
    → AreCopied arcs (count + 1) (ends ++ length (hops ++ map hop_of (leaving count arcs)) ∷ []) (hops ++ map hop_of (leaving count arcs))
AreCopied-push arcs count ends hops copied =
    let more : List Hop = map hop_of (leaving count arcs) in
    let end : ℕ = length (hops ++ more) in
    let each : length ends ≡ count = copied.copy.each in
    let longer : length (hops ++ more) ≡ length hops + length more = length-append hops more in
    let start : (node : ℕ) → node ≤ count → start_at (ends ++ end ∷ []) node ≡ start_at ends node =
    λ node below. start_at-push ends end node (omega (arith, below, each)) in
    let earlier : (node : ℕ) → node < count → slice_index (ends ++ end ∷ []) node ≡ slice_index ends node =
    λ node below. get_or_append_left ends (end ∷ []) 0 node (omega (arith, below, each)) in
    let last : (node : ℕ) → count ≡ node → slice_index (ends ++ end ∷ []) node ≡ end = λ node is. get_or_push ends end 0 node (each ∙ is) in
    let is_last : (node : ℕ) → node < count + 1 → count ≤ node → count ≡ node = λ node below past. omega (arith, below, past) in
    record {
      copy = record {
        each = length-append ends (end ∷ []) ∙ omega (arith, each);
        placed = λ node below. ⊎_elim
            (λ (h : node < count). rw (start node (omega (arith, h)), earlier node h)
            (slice_range-append hops more (start_at ends node) (slice_index ends node) (copied.rising node h) (copied.within node h) ∙
            copied.copy.placed node h))
            (λ (h : count ≤ node). let is = is_last node below h in
            rw (← is) (rw (start count (omega arith), last count refl, copied.whole) (slice_range-pushed hops more)))
            (cases_lt node count);
      };
      whole = start_at-last ends end count each;
      rising = λ node below. ⊎_elim
          (λ (h : node < count). rw (start node (omega (arith, h)), earlier node h) (copied.rising node h))
          (λ (h : count ≤ node). let is = is_last node below h in
          rw (← is) (rw (start count (omega arith), last count refl, copied.whole) (omega (arith, longer))))
          (cases_lt node count);
      within = λ node below. ⊎_elim
          (λ (h : node < count). rw (earlier node h) (let w = copied.within node h in omega (arith, longer, w)))
          (λ (h : count ≤ node). rw (last node (is_last node below h)) (omega arith))
          (cases_lt node count);
    }
