use Rattle.std.proofs.Common.{arith, refl}
use Rattle.trip_graph.proofs.lemmas.vehicle.TripSearch.{compared_at, lower_upto, higher_from, found_at, found_nowhere}
use Rattle.std.specs.declared.cmp.Ordering.TheVariants.{Less, Equal, Greater}
use Rattle.trip_graph.proofs.vehicle.trip_search.has_trip.Goals as goal

pub loop-low-preserved-in-Less : goal.loop-low-preserved-in-Less
loop-low-preserved-in-Less c =
    let rows = c.args.rows.now in let trip = c.args.trip.now in
    let lower = compared_at rows trip c.requires.sized _ _ _ _ Less (omega arith) c.as_slice.ensures.value c.cmp.ensures c.in-Less.is in
    record {
      order = omega arith;
      within = c.loop-low.invariant.within;
      before = lower_upto rows trip c.requires.sized c.requires.rising _ (omega arith) lower;
      after = c.loop-low.invariant.after;
    }

pub loop-low-preserved : goal.loop-low-preserved
loop-low-preserved c =
    let rows = c.args.rows.now in let trip = c.args.trip.now in
    let higher = compared_at rows trip c.requires.sized _ _ _ _ Greater (omega arith) c.as_slice.ensures.value c.cmp.ensures c.in-Greater.is in
    record {
      order = omega arith;
      within = omega arith;
      before = c.loop-low.invariant.before;
      after = higher_from rows trip c.requires.sized c.requires.rising _ (omega arith) higher;
    }

pub returns-in-Equal : goal.returns-in-Equal
returns-in-Equal c =
    let rows = c.args.rows.now in let trip = c.args.trip.now in
    let same = compared_at rows trip c.requires.sized _ _ _ _ Equal (omega arith) c.as_slice.ensures.value c.cmp.ensures c.in-Equal.is in
    (λ _. found_at rows trip c.requires.sized _ (omega arith) same, λ _. refl)

pub returns : goal.returns
returns c =
    let rows = c.args.rows.now in let trip = c.args.trip.now in (
      λ e. absurd (cc),
      λ w. absurd (found_nowhere rows trip c.requires.sized c.loop-low.low c.loop-low.high (omega arith) c.loop-low.invariant.before
          c.loop-low.invariant.after w),
    )
