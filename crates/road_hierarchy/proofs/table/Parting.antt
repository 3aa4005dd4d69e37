-- The part of a hierarchy that a table needs.
use Rattle.std.proofs.Common.{
  ◌≡◌,
  ℕ,
  ◌+◌,
  ◌<◌,
  ◌≤◌,
  Bool,
  true,
  List,
  ◌++◌,
  ◌-◌,
  length,
  get_or,
  slice_index,
  slice_range,
  drop,
  filter,
  map,
  All,
  Contains,
  refl,
  sym,
  ap,
  ◌∙◌,
  subst,
  arith,
}
use Rattle.std.proofs.lemmas.List.{get_or-drop, get_or-map, get_or-take, get_or_default, length-drop, length-map, length-take}
use Rattle.std.proofs.lemmas.List.Elements.{All-contains, All-filter, Contains-append_left, Contains-append_right}
use Rattle.road_network.specs.declared.arc.Arc.{Arc}
use Rattle.road_network.specs.Roads.{IsNetwork, Roads}
use Rattle.road_network.specs.Walk.{IsTimeBetween}
use Rattle.travel_times.proofs.lemmas.search.WalkLemmas.{short_walk}
use Rattle.road_hierarchy.specs.work.sweeps.Sweep.{AreInTurn, AreSweeps, HasShortWalks, IsWithin, closed_cell}
use Rattle.road_hierarchy.specs.work.sweeps.Lanes.{lane_cell}
use Rattle.road_hierarchy.specs.work.sweeps.Marks.{MarksBack, MarksOn, is_marked}
use Rattle.road_hierarchy.specs.work.build.Turns.{turn_of}
use Rattle.road_hierarchy.specs.work.build.Checked.{IsDown, IsReady, IsUp, given_arcs}
use Rattle.road_hierarchy.specs.work.table.Part.{IsPart}
use Rattle.road_hierarchy.proofs.sweeps.Parts.{part_among, part_in_turn, part_keeps}
use Rattle.road_hierarchy.proofs.build.Checking.{down_of, up_of}
use Rattle.road_hierarchy.proofs.build.Renamed.{downs_in_turn, time_renamed, ups_in_turn, walk_behind, within_renamed}

-- what a hierarchy keeps of its arcs
pub ready_up_within : (roads : Roads) (turns : List ℕ) (up down : List Arc) → IsReady roads turns up down → All (IsWithin (length turns)) up
ready_up_within roads turns up down ready k d lt = (ready.ups.each k d lt).0

pub ready_down_within : (roads : Roads) (turns : List ℕ) (up down : List Arc) → IsReady roads turns up down → All (IsWithin (length turns)) down
ready_down_within roads turns up down ready k d lt = (ready.downs.each k d lt).0

pub ready_up_turn : (roads : Roads) (turns : List ℕ) (up down : List Arc) → IsReady roads turns up down → AreInTurn up
ready_up_turn roads turns up down ready = ups_in_turn up ready.ups.sorted (λ j d lt. (ready.ups.each j d lt).1)

pub ready_down_turn : (roads : Roads) (turns : List ℕ) (up down : List Arc) → IsReady roads turns up down → AreInTurn down
ready_down_turn roads turns up down ready = downs_in_turn down ready.downs.sorted (λ j d lt. (ready.downs.each j d lt).1)

-- beside each walk between two turns there is a short one
short_given : (roads : Roads) (turns : List ℕ) (x y : ℕ) → IsNetwork roads → ((a b : ℕ) → turn_of turns a ≡ turn_of turns b → a ≡ b)
    → x < length roads.nodes → HasShortWalks (given_arcs roads turns) (turn_of turns x) (turn_of turns y)
short_given roads turns x y network once inside walk walks =
    let behind = walk_behind (turn_of turns) roads.arcs once walk x y walks in
    let short = short_walk roads.arcs behind.0 (length roads.nodes) x y network.arcs network.few_nodes inside behind.1 in
    let there = within_renamed (turn_of turns) roads.arcs x y 999990000 (short.0, short.1, short.3) in
    (there.0, there.1, omega (arith, there.2))

-- marks that were closed choose the part
pub part_of : (roads : Roads) (turns : List ℕ) (up down : List Arc) (points turned : List ℕ) (begun known begun' wanted : List Bool) → IsNetwork roads
    → IsReady roads turns up down → All (λ point. point < length roads.nodes) points
    → turned ≡ map (turn_of turns) points → All (λ turn. is_marked begun turn ≡ true) turned → MarksOn up begun known → All
    (λ turn. is_marked begun' turn ≡ true) turned → MarksBack down begun' wanted
    → IsPart roads points (length turns) turned (filter (λ arc. is_marked known arc.from) up) (filter (λ arc. is_marked wanted arc.to) down)
part_of roads turns up down points turned begun known begun' wanted network ready inside same starts on starts' back =
    let rises : (arc : Arc) → Contains up arc → arc.from < arc.to = λ arc here. (All-contains (IsUp (length turns)) up arc ready.ups.each here).1 in
    let falls : (arc : Arc) → Contains down arc → arc.to < arc.from = λ arc here. (All-contains (IsDown (length turns)) down arc ready.downs.each here).1 in
    record {
      turns = turns;
      arcs = up ++ down;
      known = is_marked known;
      wanted = is_marked wanted;
      same = same;
      once = ready.once;
      sweeps = record {
        hierarchy = ready.hierarchy;
        up_among = λ arc here. Contains-append_left up down arc (part_among (λ a. is_marked known a.from) up arc here);
        down_among = λ arc here. Contains-append_right up down arc (part_among (λ a. is_marked wanted a.to) down arc here);
        ups = λ arc rise know.
            let here = up_of (given_arcs roads turns) up down rises falls arc rise.0 rise.1 in
            ((arc, part_keeps (λ a. is_marked known a.from) up arc here know, refl, refl, omega arith), on.closed arc here know);
        downs = λ arc fall want.
            let here = down_of (given_arcs roads turns) up down rises falls arc fall.0 fall.1 in
            ((arc, part_keeps (λ a. is_marked wanted a.to) down arc here want, refl, refl, omega arith), back.closed arc here want);
      };
      short = λ i j hi hj. subst (λ x. HasShortWalks (given_arcs roads turns) x (slice_index turned j)) (sym (turned_is i hi))
          (subst (λ y. HasShortWalks (given_arcs roads turns) (turn_of turns (slice_index points i)) y) (sym (turned_is j hj))
          (short_given roads turns (slice_index points i) (slice_index points j) network ready.once (inside i 0 (omega (arith, hi, long)))));
      below = λ k d lt. (
          let read : get_or turned k d ≡ slice_index turned k = get_or_default turned k d 0 lt in
          omega (arith, read, turned_is k lt, ready.below (slice_index points k) (omega (arith, inside k 0 (omega (arith, lt, long)), ready.count))));
      knows = λ k d lt. on.kept (get_or turned k d) (starts k d lt);
      wants = λ k d lt. back.kept (get_or turned k d) (starts' k d lt);
      up_turn = part_in_turn (λ a. is_marked known a.from) up (ready_up_turn roads turns up down ready);
      up_within = All-filter (λ a. is_marked known a.from) (IsWithin (length turns)) up (ready_up_within roads turns up down ready);
      down_turn = part_in_turn (λ a. is_marked wanted a.to) down (ready_down_turn roads turns up down ready);
      down_within = All-filter (λ a. is_marked wanted a.to) (IsWithin (length turns)) down (ready_down_within roads turns up down ready);
    }
  where
    long : length turned ≡ length points
    long = ap length same ∙ length-map points (turn_of turns)

    turned_is : (i : ℕ) → i < length turned → slice_index turned i ≡ turn_of turns (slice_index points i)
    turned_is i lt = ap (λ xs. slice_index xs i) same ∙ get_or-map (turn_of turns) points i 0 0 (omega (arith, lt, long))

-- a cell by turns is one by points
pub cell_of_part : (roads : Roads) (points turned : List ℕ) (n : ℕ) (up down : List Arc) (part : IsPart roads points n turned up down) (i j seconds : ℕ)
    → i < length points → j < length points
    → IsTimeBetween (given_arcs roads part.turns) (slice_index turned i) (slice_index turned j) seconds → IsTimeBetween roads.arcs (slice_index points i)
    (slice_index points j) seconds
cell_of_part roads points turned n up down part i j seconds hi hj time =
    let at : (k : ℕ) → k < length points → slice_index turned k ≡ turn_of part.turns (slice_index points k) = λ k lt. ap (λ xs. slice_index xs k) part.same
    ∙ get_or-map (turn_of part.turns) points k 0 0 lt in
    time_renamed (turn_of part.turns) roads.arcs (slice_index points i) (slice_index points j) seconds part.once
    (subst (λ x. IsTimeBetween (given_arcs roads part.turns) x (turn_of part.turns (slice_index points j)) seconds) (at i hi)
    (subst (λ y. IsTimeBetween (given_arcs roads part.turns) (slice_index turned i) y seconds) (at j hj) time))

-- the turns of points are among the nodes
pub turned_below : (roads : Roads) (turns : List ℕ) (up down : List Arc) (points turned : List ℕ) → IsReady roads turns up down → All
    (λ point. point < length roads.nodes) points → turned ≡ map (turn_of turns) points → All (λ turn. turn < length turns) turned
turned_below roads turns up down points turned ready inside same k d lt =
    let long : length turned ≡ length points = ap length same ∙ length-map points (turn_of turns) in
    let read : get_or turned k d ≡ turn_of turns (slice_index points k) = ap (λ xs. get_or xs k d) same ∙ get_or-map (turn_of turns) points k 0 d
    (omega (arith, lt, long)) in
    omega (arith, read, ready.below (slice_index points k) (omega (arith, inside k 0 (omega (arith, lt, long)), ready.count)))

-- the part, by what calls made of it
pub part_made : (roads : Roads) (turns : List ℕ) (up down : List Arc) (points turned : List ℕ) (begun known begun' wanted : List Bool) (n : ℕ)
    (up' down' : List Arc) → IsNetwork roads → IsReady roads turns up down → All (λ point. point < length roads.nodes) points
    → turned ≡ map (turn_of turns) points → All (λ turn. is_marked begun turn ≡ true) turned → MarksOn up begun known → All
    (λ turn. is_marked begun' turn ≡ true) turned → MarksBack down begun' wanted
    → n ≡ length turns → up' ≡ filter (λ arc. is_marked known arc.from) up → down' ≡ filter (λ arc. is_marked wanted arc.to) down
    → IsPart roads points n turned up' down'
part_made roads turns up down points turned begun known begun' wanted n up' down' network ready inside same starts on starts' back n_is up_is down_is =
    subst (λ m. IsPart roads points m turned up' down') (sym n_is) (subst (λ u. IsPart roads points (length turns) turned u down') (sym up_is)
    (subst (λ d. IsPart roads points (length turns) turned (filter (λ arc. is_marked known arc.from) up) d) (sym down_is)
    (part_of roads turns up down points turned begun known begun' wanted network ready inside same starts on starts' back)))

-- what sweeps from some of the points give
abbrev pub GivesTimes : List Arc → List Arc → List ℕ → ℕ → ℕ → ℕ → List (List ℕ) → Type 0
GivesTimes up down turned n first end rows = (network arcs : List Arc) (rank : ℕ → ℕ) (known wanted : ℕ → Bool) (k goal : ℕ)
    → AreSweeps network arcs rank known wanted up down → HasShortWalks network (slice_index (slice_range turned first end) k) goal
    → k < length (slice_range turned first end) → known (slice_index (slice_range turned first end) k) ≡ true → goal < n → wanted goal ≡ true
    → IsTimeBetween network (slice_index (slice_range turned first end) k) goal (closed_cell (lane_cell rows goal k))

-- a cell that they give
pub block_cell : (roads : Roads) (points turned : List ℕ) (n : ℕ) (up down : List Arc) (part : IsPart roads points n turned up down)
    (first lanes lane j : ℕ) (rows : List (List ℕ)) → length turned ≡ length points → first + lanes ≤ length points → lane < lanes → j < length points
    → GivesTimes up down turned n first (first + lanes) rows → IsTimeBetween roads.arcs (slice_index points (first + lane)) (slice_index points j)
    (closed_cell (lane_cell rows (slice_index turned j) lane))
block_cell roads points turned n up down part first lanes lane j rows long within lt hj times =
    let at : slice_index (slice_range turned first (first + lanes)) lane ≡ slice_index turned (first + lane) =
    get_or-take (first + lanes - first) (drop first turned) lane 0 (omega (arith, lt)) ∙ get_or-drop first turned lane 0 in
    let many : lane < length (slice_range turned first (first + lanes)) = omega
    (arith, length-take (first + lanes - first) (drop first turned), length-drop first turned, within, long, lt) in
    let source_in : first + lane < length turned = omega (arith, within, long, lt) in
    let goal_in : j < length turned = omega (arith, hj, long) in
    let given = given_arcs roads part.turns in
    cell_of_part roads points turned n up down part (first + lane) j (closed_cell (lane_cell rows (slice_index turned j) lane)) (omega (arith, within, lt)) hj
    (subst (λ s. IsTimeBetween (given_arcs roads part.turns) s (slice_index turned j) (closed_cell (lane_cell rows (slice_index turned j) lane))) at
    (times given part.arcs (λ node. node) part.known part.wanted lane (slice_index turned j) part.sweeps
    (subst (λ s. HasShortWalks (given_arcs roads part.turns) s (slice_index turned j)) (sym at) (part.short (first + lane) j source_in goal_in))
    many
    (ap part.known at ∙ part.knows (first + lane) 0 source_in)
    (part.below j 0 goal_in)
    (part.wants j 0 goal_in)))
