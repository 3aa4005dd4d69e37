use Rattle.std.proofs.Common.{◌+◌, ℕ, List, length, take, sym, ap, subst, ◌∙◌, arith, refl}
use Rattle.trip_graph.proofs.Common.{IsTrip, serves, costs, rider_count}
use Rattle.trip_graph.proofs.lemmas.vehicle.TripSearch.{size_of}
use Rattle.trip_graph.proofs.vehicle.RowGrowth.{
  opened_at,
  advanced_at,
  closed_at,
  siblings_rise,
  last_within,
  upto_as_read,
  upto_as_stored,
  more_as_stored,
  below_as_read,
  trip_as_read,
  read_at,
  same_front,
}
use Rattle.trip_graph.proofs.Lists.{on_err}
use Rattle.trip_graph.proofs.vehicle.row_growth.grow_row.Goals as goal

pub returns-then-not-has_sibling-clause-answer : goal.returns-then-not-has_sibling-clause-answer
returns-then-not-has_sibling-clause-answer g c =
    let growth = c.args.growth.now in let rows = c.args.rows.now in let row = c.args.row in let found = c.args.growing.now.found.items in
    let opened = opened_at (rider_count growth) (serves growth) (costs growth) c.requires.can.rule c.args.size rows c.requires.below row found c.requires.row
    c.requires.upto in (
      closed_at (rider_count growth) (serves growth) (costs growth) c.requires.can.rule c.args.size rows c.requires.below row row found (omega arith)
          c.requires.row refl
          (c.has_sibling.ensures c.if-not-has_sibling.true) opened,
      c.requires.room,
    )

pub loop-at-init : goal.loop-at-init
loop-at-init g c =
    let growth = c.args.growth.now in
    record {
      from = omega arith;
      within = c.requires.row;
      same = refl;
      upto = opened_at (rider_count growth) (serves growth) (costs growth) c.requires.can.rule c.args.size c.args.rows.now c.requires.below c.args.row
          c.args.growing.now.found.items c.requires.row c.requires.upto;
      room = c.requires.room;
      task = c.task_of-task.ensures;
      cost = omega arith;
    }

pub returns-then-not-have_same_front-clause-answer : goal.returns-then-not-have_same_front-clause-answer
returns-then-not-have_same_front-clause-answer g c =
    let growth = c.args.growth.now in let rows = c.args.rows.now in let m = c.args.size in
    let es = read_at rows c.args.row _ _ c.requires.row c.as_slice-riders.ensures.value in
    let ed = read_at rows (c.loop-at.at + 1) _ _ c.loop-at-test.true c.as_slice-other.ensures.value in (
      closed_at (rider_count growth) (serves growth) (costs growth) c.requires.can.rule m rows c.requires.below c.args.row c.loop-at.at
          c.loop-at.growing.found.items
          c.loop-at.invariant.from c.loop-at.invariant.within c.loop-at.invariant.same
          (λ _ e.
          let yes = c.have_same_front.ensures.1 (ap (λ (v : List ℕ). take m v) es ∙ sym e ∙ ap (λ (v : List ℕ). take m v) (sym ed)) in
          absurd (cc))
          c.loop-at.invariant.upto,
      c.loop-at.invariant.room,
    )

pub returns-then-not-have_same_front-clause-steps : goal.returns-then-not-have_same_front-clause-steps
returns-then-not-have_same_front-clause-steps g c =
    let growth = c.args.growth.now in
    omega (
      arith,
      last_within (rider_count growth) (serves growth) (costs growth) c.requires.can.rule c.args.size c.args.rows.now c.requires.below c.loop-at.at
          c.loop-at.invariant.within,
    )

pub add_trip-requires-clause-below : goal.add_trip-requires-clause-below
add_trip-requires-clause-below g c =
    let growth = c.args.growth.now in let rows = c.args.rows.now in
    let es = read_at rows c.args.row _ _ c.requires.row c.as_slice-riders.ensures.value in
    below_as_read (rider_count growth) (serves growth) (costs growth) c.requires.can.rule c.args.size rows c.requires.below c.args.row _ c.requires.row es

pub add_trip-requires-clause-trip : goal.add_trip-requires-clause-trip
add_trip-requires-clause-trip g c =
    let growth = c.args.growth.now in let rows = c.args.rows.now in let m = c.args.size in
    let es = read_at rows c.args.row _ _ c.requires.row c.as_slice-riders.ensures.value in
    let ed = read_at rows (c.loop-at.at + 1) _ _ c.loop-at-test.true c.as_slice-other.ensures.value in
    let next = same_front m _ _ _ _ es ed (c.have_same_front.ensures.0 c.if-not-have_same_front.false) in
    trip_as_read (rider_count growth) (serves growth) (costs growth) c.requires.can.rule m rows c.requires.below c.args.row (c.loop-at.at + 1) _ _
    (λ t s. s.riders) (omega arith) c.loop-at-test.true next es ed

pub add_trip-requires-clause-size : goal.add_trip-requires-clause-size
add_trip-requires-clause-size g c =
    let rows = c.args.rows.now in
    let es = read_at rows c.args.row _ _ c.requires.row c.as_slice-riders.ensures.value in
    omega (arith, ap length es, size_of (c.args.size + 1) rows c.args.row c.requires.below.sized c.requires.row)

pub add_trip-requires-clause-upto : goal.add_trip-requires-clause-upto
add_trip-requires-clause-upto g c =
    let growth = c.args.growth.now in let rows = c.args.rows.now in let m = c.args.size in
    let es = read_at rows c.args.row _ _ c.requires.row c.as_slice-riders.ensures.value in
    let ed = read_at rows (c.loop-at.at + 1) _ _ c.loop-at-test.true c.as_slice-other.ensures.value in
    let next = same_front m _ _ _ _ es ed (c.have_same_front.ensures.0 c.if-not-have_same_front.false) in
    upto_as_read (rider_count growth) (serves growth) (costs growth) c.requires.can.rule m rows c.requires.below c.args.row (c.loop-at.at + 1) _ _
    c.loop-at.growing.found.items c.requires.row es ed
    (advanced_at (rider_count growth) (serves growth) (costs growth) c.requires.can.rule m rows c.requires.below c.args.row c.loop-at.at
    c.loop-at.growing.found.items
    c.requires.row c.loop-at-test.true c.loop-at.invariant.same next c.loop-at.invariant.upto)

pub returns-in_err-add_trip-clause-steps : goal.returns-in_err-add_trip-clause-steps
returns-in_err-add_trip-clause-steps g c =
    let growth = c.args.growth.now in let rows = c.args.rows.now in let m = c.args.size in
    let es = read_at rows c.args.row _ _ c.requires.row c.as_slice-riders.ensures.value in
    let ed = read_at rows (c.loop-at.at + 1) _ _ c.loop-at-test.true c.as_slice-other.ensures.value in
    let next = same_front m _ _ _ _ es ed (c.have_same_front.ensures.0 c.if-not-have_same_front.false) in
    omega (
      arith,
      c.add_trip.ensures.steps,
      siblings_rise (rider_count growth) (serves growth) (costs growth) c.requires.can.rule m rows c.requires.below c.loop-at.at (c.loop-at.at + 1)
          (omega arith) c.loop-at-test.true (next ∙ sym c.loop-at.invariant.same),
      last_within (rider_count growth) (serves growth) (costs growth) c.requires.can.rule m rows c.requires.below (c.loop-at.at + 1) c.loop-at-test.true,
    )

pub returns-then-not-branch-clause-answer : goal.returns-then-not-branch-clause-answer
returns-then-not-branch-clause-answer g c =
    let growth = c.args.growth.now in let rows = c.args.rows.now in
    let es = read_at rows c.args.row _ _ c.requires.row c.as_slice-riders.ensures.value in
    more_as_stored (rider_count growth) (serves growth) (costs growth) c.requires.can.rule c.args.size rows c.requires.below c.args.row growth.room _
    c.requires.row es
    (rw c.if-not-branch.true at c.in_ok-add_trip.ensures.answer)

pub returns-then-not-branch-clause-steps : goal.returns-then-not-branch-clause-steps
returns-then-not-branch-clause-steps g c =
    let growth = c.args.growth.now in let rows = c.args.rows.now in let m = c.args.size in
    let es = read_at rows c.args.row _ _ c.requires.row c.as_slice-riders.ensures.value in
    let ed = read_at rows (c.loop-at.at + 1) _ _ c.loop-at-test.true c.as_slice-other.ensures.value in
    let next = same_front m _ _ _ _ es ed (c.have_same_front.ensures.0 c.if-not-have_same_front.false) in
    omega (
      arith,
      c.add_trip.ensures.steps,
      siblings_rise (rider_count growth) (serves growth) (costs growth) c.requires.can.rule m rows c.requires.below c.loop-at.at (c.loop-at.at + 1)
          (omega arith) c.loop-at-test.true (next ∙ sym c.loop-at.invariant.same),
      last_within (rider_count growth) (serves growth) (costs growth) c.requires.can.rule m rows c.requires.below (c.loop-at.at + 1) c.loop-at-test.true,
    )

pub loop-at-preserved : goal.loop-at-preserved
loop-at-preserved g c =
    let growth = c.args.growth.now in let rows = c.args.rows.now in let m = c.args.size in
    let es = read_at rows c.args.row _ _ c.requires.row c.as_slice-riders.ensures.value in
    let ed = read_at rows (c.loop-at.at + 1) _ _ c.loop-at-test.true c.as_slice-other.ensures.value in
    let next = same_front m _ _ _ _ es ed (c.have_same_front.ensures.0 c.if-not-have_same_front.false) in
    let went = rw c.if-not-branch.false at c.in_ok-add_trip.ensures.answer in
    record {
      from = omega arith;
      within = c.loop-at-test.true;
      same = next;
      upto = upto_as_stored (rider_count growth) (serves growth) (costs growth) c.requires.can.rule m rows c.requires.below c.args.row (c.loop-at.at + 1) _ _ _
          c.requires.row es ed went.0;
      room = went.1;
      task = c.in_ok-add_trip.ensures.task ∙ c.loop-at.invariant.task;
      cost = omega (
        arith,
        c.add_trip.ensures.steps,
        siblings_rise (rider_count growth) (serves growth) (costs growth) c.requires.can.rule m rows c.requires.below c.loop-at.at (c.loop-at.at + 1)
            (omega arith) c.loop-at-test.true (next ∙ sym c.loop-at.invariant.same),
      );
    }

pub returns-clause-answer : goal.returns-clause-answer
returns-clause-answer g c =
    let growth = c.args.growth.now in let rows = c.args.rows.now in (
      closed_at (rider_count growth) (serves growth) (costs growth) c.requires.can.rule c.args.size rows c.requires.below c.args.row c.loop-at.at
          c.loop-at.growing.found.items
          c.loop-at.invariant.from c.loop-at.invariant.within c.loop-at.invariant.same
          (λ k _. absurd (let over = c.loop-at-test.false in omega arith))
          c.loop-at.invariant.upto,
      c.loop-at.invariant.room,
    )

pub returns-clause-steps : goal.returns-clause-steps
returns-clause-steps g c =
    let growth = c.args.growth.now in
    omega (
      arith,
      last_within (rider_count growth) (serves growth) (costs growth) c.requires.can.rule c.args.size c.args.rows.now c.requires.below c.loop-at.at
          c.loop-at.invariant.within,
    )

pub task_of-task-requires-clause-trip : goal.task_of-task-requires-clause-trip
task_of-task-requires-clause-trip g c = subst (IsTrip (rider_count c.args.growth.now)) (sym c.as_slice-riders.ensures.value)
    (c.requires.below.served c.args.row _ c.requires.row).riders

pub add_trip-requires-clause-can : goal.add_trip-requires-clause-can
add_trip-requires-clause-can g c = c.requires.can

pub returns-in_err-add_trip-clause-answer : goal.returns-in_err-add_trip-clause-answer
returns-in_err-add_trip-clause-answer g c = on_err c.from_residual.result _ c.from_residual.ensures.0
