use Rattle.std.proofs.Common.{◌≡◌, ℕ, ◌+◌, ◌-◌, ◌<◌, List, [], ◌∷◌, ◌++◌, length, get_or, refl, sym, ap, ◌∙◌, subst, arith}
use Rattle.trip_graph.proofs.Common.{travel_time, get_or_default, Settled, TripOf, AreLevelsUpTo, AreLevels}
use Rattle.trip_graph.proofs.batch.LevelSteps as step
use Rattle.trip_graph.proofs.Lists.{on_err}
use Rattle.trip_graph.proofs.batch.all_levels.all_levels.Goals as goal

read_level : (tau : ℕ → ℕ → ℕ) (settled : Settled) (sizes k at : ℕ) (levels : List (List (List TripOf))) (lists : List (List TripOf)) →
    AreLevels tau settled sizes levels → k < sizes → at ≡ k
    → lists ≡ get_or levels at lists → AreLevelsUpTo tau settled k (length settled.vehicles) lists
read_level tau settled sizes k at levels lists all lt same is =
    let e : get_or levels k [] ≡ lists = get_or_default levels k [] lists (let t = all.count in omega arith) ∙
    ap (λ (n : ℕ). get_or levels n lists) (sym same) ∙ sym is in
    subst (λ (l : List (List TripOf)). AreLevelsUpTo tau settled k (length settled.vehicles) l) e (all.each k lt)

pub returns-then-total-room : goal.returns-then-total-room
returns-then-total-room g c =
    let tau = travel_time c.args.growth.now.times.now in
    let first = c.in_ok-total.ensures in
    step.more_of_first tau c.args.growth.now.settled.now c.args.most c.args.room c.first_level.new.lists.items c.requires.most first.0
    (let a = c.if-total-room.true in let b = first.1 in omega arith)

pub loop-size-init : goal.loop-size-init
loop-size-init g c =
    let tau = travel_time c.args.growth.now.times.now in
    let lists = c.first_level.new.lists.items in
    let first = c.in_ok-total.ensures in
    let fits = c.if-total-room.false in
    let items : c.push.new.self.items ≡ lists ∷ [] = rw (c.in_ok-push.ensures.items, c.requires.none, c.of.ensures) refl in
    record {
      levels = rw items (step.levels_one tau c.args.growth.now.settled.now lists first.0);
      counted = rw items (let t = first.1 in omega arith);
      fits = omega arith;
    }

pub next_level-requires-clause-below : goal.next_level-requires-clause-below
next_level-requires-clause-below g c κs within =
    rw c.as_slice-below.ensures (read_level (travel_time c.args.growth.now.times.now) c.args.growth.now.settled.now (c.loop-size.size + 1) c.loop-size.size
    c.from.result c.loop-size.levels.items c.index.result.now
    c.loop-size.invariant.levels (omega arith) c.from.ensures c.index.ensures)

pub returns-in_default : goal.returns-in_default
returns-in_default g c =
    let tau = travel_time c.args.growth.now.times.now in
    let inv = c.loop-size.invariant in
    let more = rw c.in_default.is at c.in_ok-more.ensures in
    step.more_of_next tau c.args.growth.now.settled.now c.args.most c.args.room (c.args.room - c.loop-size.total) (c.loop-size.size + 1)
    c.loop-size.levels.items c.requires.most inv.levels more
    (let t = c.loop-size-test.true in omega arith) (let h = inv.counted in let f = inv.fits in omega arith)

pub loop-size-preserved : goal.loop-size-preserved
loop-size-preserved g c =
    let tau = travel_time c.args.growth.now.times.now in
    let inv = c.loop-size.invariant in
    let levels = c.loop-size.levels.items in
    let lists = c.next_level.new.lists.items in
    let went = rw c.in-Some.is at c.in_ok-more.ensures in
    let items : c.push-in-loop-size.new.self.items ≡ levels ++ lists ∷ [] = rw (c.in_ok-push-2.ensures.items, c.of-in-loop-size.ensures) refl in
    let fits = inv.fits in
    let more = went.2 in
    record {
      levels = rw items (step.levels_more tau c.args.growth.now.settled.now (c.loop-size.size + 1) levels lists inv.levels went.0);
      counted = rw items (let t = step.total_level levels lists in let h = inv.counted in let g = went.1 in omega arith);
      fits = omega arith;
    }

pub returns-in_err-push : goal.returns-in_err-push
returns-in_err-push g c = on_err c.from_residual-in_err-push.result _ c.from_residual-in_err-push.ensures.0

pub returns-in_err-more : goal.returns-in_err-more
returns-in_err-more g c = on_err c.from_residual-in_err-more.result _ c.from_residual-in_err-more.ensures.0

pub returns-in_err-push-2 : goal.returns-in_err-push-2
returns-in_err-push-2 g c = on_err c.from_residual-in_err-push-2.result _ c.from_residual-in_err-push-2.ensures.0

pub overflow_add-total : goal.overflow_add-total
overflow_add-total g c =
    let went = rw c.in-Some.is at c.in_ok-more.ensures in
    record { fits = omega (arith, went.2, c.loop-size.invariant.fits, c.ranges.room.fits) }
