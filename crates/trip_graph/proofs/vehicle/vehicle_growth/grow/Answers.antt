use Rattle.std.proofs.Common.{◌≡◌, ℕ, ◌+◌, ◌-◌, List, ◌++◌, length, ap, ◌∙◌, subst, arith}
use Rattle.trip_graph.proofs.Common.{travel_time, CanServe, CostsLeast, AreRowsOfSize}
use Rattle.std.proofs.lemmas.List.{length-append}
use Rattle.trip_graph.proofs.vehicle.AllRows.{level_of_rows, level_of_more, more_within}
use Rattle.trip_graph.proofs.vehicle.Joined.{smaller_none, smaller_joined, more_joined}
use Rattle.trip_graph.proofs.vehicle.StepBound.{at_most_one, steps_so_far, more_steps, rows_of_all}
use Rattle.trip_graph.proofs.Lists.{on_err}
use Rattle.trip_graph.proofs.vehicle.vehicle_growth.grow.Goals as goal

pub loop-size-init : goal.loop-size-init
loop-size-init g c =
    let Serves = CanServe 6 (travel_time c.args.times.now) c.args.settled.now c.args.vehicle in
    let Costs = CostsLeast (travel_time c.args.times.now) c.args.settled.now c.args.vehicle in
    record {
      below = c.in_ok-below.ensures.rows;
      smaller = rw c.new-smaller.ensures.items (smaller_none Serves Costs);
      room = rw c.new-smaller.ensures.items (let same = ap length c.rows.ensures in let fits = c.if-rows-room.false in omega arith);
      cost = rw c.new-smaller.ensures.items (let once = c.empty_level.ensures.steps in omega arith);
    }

pub grow_level-requires-clause-below : goal.grow_level-requires-clause-below
grow_level-requires-clause-below g c =
    let same : c.loop-size.size ≡ c.loop-size.size + 1 - 1 = omega arith in
    subst (λ (k : ℕ). AreRowsOfSize (travel_time c.args.times.now) c.args.settled.now c.args.vehicle k c.loop-size.below) same c.loop-size.invariant.below

pub loop-size-preserved : goal.loop-size-preserved
loop-size-preserved g c =
    let tau = travel_time c.args.times.now in let settled = c.args.settled.now in let v = c.args.vehicle in
    let xs = c.loop-size.smaller.items in let ys = c.loop-size.below in
    let went = rw c.in-All.is at c.in_ok-next.ensures.level in
    let done : c.append.new.self.items ≡ xs ++ ys = c.in_ok-append.ensures.items ∙ ap (λ (t : List _). xs ++ t) c.into_rows-done.ensures in
    record {
      below = went.0;
      smaller = rw done (smaller_joined (CanServe 6 tau settled v) (CostsLeast tau settled v) c.loop-size.size xs ys c.loop-size.invariant.smaller
          (level_of_rows tau settled v c.loop-size.size ys c.loop-size.invariant.below));
      room = rw done (
          let n = length-append xs ys in let same = ap length c.rows-in-loop-size.ensures in let counted = c.len.ensures in let whole =
          c.loop-size.smaller.ok.0 in
          let left = went.1 in let fits = c.loop-size.invariant.room in omega arith);
      cost = rw done (more_steps tau settled v c.loop-size.size xs ys c.loop-size.invariant.smaller c.loop-size.invariant.below c.args.steps.now
          c.grow_level.new.steps (let more = c.grow_level.ensures.steps in let so_far = c.loop-size.invariant.cost in omega arith));
    }

pub returns-in_err-next-clause-steps : goal.returns-in_err-next-clause-steps
returns-in_err-next-clause-steps g c =
    steps_so_far (travel_time c.args.times.now) c.args.settled.now c.args.vehicle c.loop-size.size c.loop-size.smaller.items c.loop-size.below
    c.loop-size.invariant.smaller c.loop-size.invariant.below
    c.args.trip c.args.room c.args.steps.now c.grow_level.new.steps (omega arith) (let fits = c.loop-size.invariant.room in omega arith)
    (let more = c.grow_level.ensures.steps in let so_far = c.loop-size.invariant.cost in omega arith)

pub returns-in-TooMany-clause-grown : goal.returns-in-TooMany-clause-grown
returns-in-TooMany-clause-grown g c =
    let tau = travel_time c.args.times.now in let settled = c.args.settled.now in let v = c.args.vehicle in
    let more = rw c.in-TooMany.is at c.in_ok-next.ensures.level in
    more_within tau settled v c.args.trip c.args.room
    (more_joined (CanServe 6 tau settled v) (CostsLeast tau settled v) c.loop-size.size _ c.args.room c.args.trip c.loop-size.smaller.items c.loop-size.below
    c.loop-size.invariant.smaller
    (level_of_rows tau settled v c.loop-size.size c.loop-size.below c.loop-size.invariant.below)
    (level_of_more tau settled v (c.loop-size.size + 1) _ more) (omega arith)
    (let same = ap length c.rows-in-loop-size.ensures in let counted = c.len.ensures in let whole = c.loop-size.smaller.ok.0 in omega arith))

pub returns-in-TooMany-clause-steps : goal.returns-in-TooMany-clause-steps
returns-in-TooMany-clause-steps g c =
    steps_so_far (travel_time c.args.times.now) c.args.settled.now c.args.vehicle c.loop-size.size c.loop-size.smaller.items c.loop-size.below
    c.loop-size.invariant.smaller c.loop-size.invariant.below
    c.args.trip c.args.room c.args.steps.now c.grow_level.new.steps (omega arith) (let fits = c.loop-size.invariant.room in omega arith)
    (let more = c.grow_level.ensures.steps in let so_far = c.loop-size.invariant.cost in omega arith)

pub returns-in_err-append-clause-steps : goal.returns-in_err-append-clause-steps
returns-in_err-append-clause-steps g c =
    steps_so_far (travel_time c.args.times.now) c.args.settled.now c.args.vehicle c.loop-size.size c.loop-size.smaller.items c.loop-size.below
    c.loop-size.invariant.smaller c.loop-size.invariant.below
    c.args.trip c.args.room c.args.steps.now c.grow_level.new.steps (omega arith) (let fits = c.loop-size.invariant.room in omega arith)
    (let more = c.grow_level.ensures.steps in let so_far = c.loop-size.invariant.cost in omega arith)

pub returns-clause-grown : goal.returns-clause-grown
returns-clause-grown g c =
    let xs = c.loop-size.smaller.items in let ys = c.loop-size.below in
    let is : c.of.result ≡ xs ++ ys = c.of.ensures ∙ c.in_ok-append-2.ensures.items ∙ ap (λ (t : List _). xs ++ t) c.into_rows-last.ensures in
    rows_of_all (travel_time c.args.times.now) c.args.settled.now c.args.vehicle c.loop-size.size xs ys c.loop-size.invariant.smaller
    c.loop-size.invariant.below
    c.args.trip c.args.room _ (let over = c.loop-size-test.false in omega arith) is c.loop-size.invariant.room

pub returns-clause-steps : goal.returns-clause-steps
returns-clause-steps g c =
    steps_so_far (travel_time c.args.times.now) c.args.settled.now c.args.vehicle c.loop-size.size c.loop-size.smaller.items c.loop-size.below
    c.loop-size.invariant.smaller c.loop-size.invariant.below
    c.args.trip c.args.room c.args.steps.now c.loop-size.steps (omega arith) (let fits = c.loop-size.invariant.room in omega arith)
    (let so_far = c.loop-size.invariant.cost in omega arith)

pub returns-in_err-append-2-clause-steps : goal.returns-in_err-append-2-clause-steps
returns-in_err-append-2-clause-steps g c =
    steps_so_far (travel_time c.args.times.now) c.args.settled.now c.args.vehicle c.loop-size.size c.loop-size.smaller.items c.loop-size.below
    c.loop-size.invariant.smaller c.loop-size.invariant.below
    c.args.trip c.args.room c.args.steps.now c.loop-size.steps (omega arith) (let fits = c.loop-size.invariant.room in omega arith)
    (let so_far = c.loop-size.invariant.cost in omega arith)

pub returns-in_err-below-clause-steps : goal.returns-in_err-below-clause-steps
returns-in_err-below-clause-steps g c = at_most_one (travel_time c.args.times.now) c.args.settled.now c.args.vehicle c.args.trip c.args.room _ _
    c.empty_level.ensures.steps

pub returns-then-rows-room-clause-steps : goal.returns-then-rows-room-clause-steps
returns-then-rows-room-clause-steps g c = at_most_one (travel_time c.args.times.now) c.args.settled.now c.args.vehicle c.args.trip c.args.room _ _
    c.empty_level.ensures.steps

pub returns-then-rows-room-clause-grown : goal.returns-then-rows-room-clause-grown
returns-then-rows-room-clause-grown g c =
    let some = c.in_ok-below.ensures.rows.some in record {
      rows = c.in_ok-below.below;
      some = record { right = some.right; sized = λ k d h. (let sized = some.sized k d h in omega arith); rising = some.rising };
      more = omega (arith, ap length c.rows.ensures);
    }

pub empty_level-requires-clause-sound : goal.empty_level-requires-clause-sound
empty_level-requires-clause-sound g c = c.requires.sound

pub grow_level-requires-clause-sound : goal.grow_level-requires-clause-sound
grow_level-requires-clause-sound g c = c.requires.sound

pub returns-in_err-next-clause-grown : goal.returns-in_err-next-clause-grown
returns-in_err-next-clause-grown g c = on_err c.from_residual-in_err-next.result _ c.from_residual-in_err-next.ensures.0

pub returns-in_err-append-clause-grown : goal.returns-in_err-append-clause-grown
returns-in_err-append-clause-grown g c = on_err c.from_residual-in_err-append.result _ c.from_residual-in_err-append.ensures.0

pub returns-in_err-append-2-clause-grown : goal.returns-in_err-append-2-clause-grown
returns-in_err-append-2-clause-grown g c = on_err c.from_residual-in_err-append-2.result _ c.from_residual-in_err-append-2.ensures.0

pub overflow_sub-left : goal.overflow_sub-left
overflow_sub-left g c = omega (arith, c.len.ensures, c.loop-size.smaller.ok.0, ap length c.rows-in-loop-size.ensures, c.loop-size.invariant.room)
