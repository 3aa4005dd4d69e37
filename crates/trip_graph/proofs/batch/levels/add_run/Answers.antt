use Rattle.std.proofs.Common.{◌≡◌, ℕ, ◌+◌, ◌-◌, ◌<◌, ◌∷◌, [], ◌++◌, length, get_or, drop, ap, ◌∙◌, subst, arith, sym}
use Rattle.trip_graph.proofs.Common.{length_push, AreRowsOfSize, IsLevelOf, batch_of, tau_of, AreLevelsUpTo, row_total, AreNext}
use Rattle.std.proofs.lemmas.Iterator.Adapters.{YieldsList-from_vec}
use Rattle.std.proofs.lemmas.Iterator.Consumers.{YieldsList-turn, YieldsList-end}
use Rattle.trip_graph.proofs.batch.Runs.{IsFirst, next_end, next_first, next_last}
use Rattle.trip_graph.proofs.batch.LevelSteps as step
use Rattle.trip_graph.proofs.Lists.{on_err}
use Rattle.trip_graph.proofs.batch.levels.add_run.Goals as goal

pub skip_to-requires-clause-on : goal.skip_to-requires-clause-on
skip_to-requires-clause-on c =
    let run = c.args.run.now in
    let inv = c.loop-level.invariant in
    let gives = c.into_iter-level-iterator.ensures.into_iter_gives in
    let t = YieldsList-turn (YieldsList-from_vec {s = c.into_iter-level-iterator.result} c.args.levels.items gives.0 (gives.1 ∙ c.args.levels.ok.0))
    c.loop-level.yielded c.loop-level.level-iterator c.loop-level.yielded_by c.next.result c.next.new.self c.in-Some.level c.in-Some.is
    c.next.ensures.steps in
    (next_first run.below.now (length c.loop-level.lists.items) c.loop-level.number run.vehicles.now c.args.end inv.next
    (omega (arith, t.0, c.requires.levels.count, inv.number))).on

pub skip_to-requires-clause-empty : goal.skip_to-requires-clause-empty
skip_to-requires-clause-empty c =
    let run = c.args.run.now in
    let inv = c.loop-level.invariant in
    let gives = c.into_iter-level-iterator.ensures.into_iter_gives in
    let t = YieldsList-turn (YieldsList-from_vec {s = c.into_iter-level-iterator.result} c.args.levels.items gives.0 (gives.1 ∙ c.args.levels.ok.0))
    c.loop-level.yielded c.loop-level.level-iterator c.loop-level.yielded_by c.next.result c.next.new.self c.in-Some.level c.in-Some.is
    c.next.ensures.steps in
    (next_first run.below.now (length c.loop-level.lists.items) c.loop-level.number run.vehicles.now c.args.end inv.next
    (omega (arith, t.0, c.requires.levels.count, inv.number))).empty

pub returns-in_default : goal.returns-in_default
returns-in_default c =
    let run = c.args.run.now in
    let tau = tau_of run.growth.now in
    let settled = batch_of run.growth.now in
    let inv = c.loop-level.invariant in
    let gives = c.into_iter-level-iterator.ensures.into_iter_gives in
    let t = YieldsList-turn (YieldsList-from_vec {s = c.into_iter-level-iterator.result} c.args.levels.items gives.0 (gives.1 ∙ c.args.levels.ok.0))
    c.loop-level.yielded c.loop-level.level-iterator c.loop-level.yielded_by c.next.result c.next.new.self c.in-Some.level c.in-Some.is
    c.next.ensures.steps in
    let k = c.loop-level.number in
    let v : ℕ = get_or run.vehicles.now k 0 in
    let own : IsLevelOf tau settled v (run.size + 1) (run.room - run.found) c.in-Some.level =
    step.own_level tau settled (run.size + 1) (run.room - run.found) k (length c.loop-level.yielded) run.vehicles.now c.args.levels.items c.in-Some.level
    c.requires.levels inv.number t in
    let number = inv.number in
    let count = c.requires.levels.count in
    let here = t.0 in
    let known = c.requires.vehicles k (omega arith) in
    let total = c.requires.can.rows.total in
    let lt : v < length settled.vehicles = omega arith in
    step.more_than_left tau settled (run.size + 1) run.room (run.room - run.found) v c.skip_to.new.lists.items c.in_ok-skip_to.ensures.level
    (rw c.in_default.is at own) lt (omega (arith, c.requires.fits, inv.grows, inv.counted, c.in_ok-skip_to.ensures.total))

pub returns-then-more-run : goal.returns-then-more-run
returns-then-more-run c =
    let run = c.args.run.now in
    let tau = tau_of run.growth.now in
    let settled = batch_of run.growth.now in
    let inv = c.loop-level.invariant in
    let gives = c.into_iter-level-iterator.ensures.into_iter_gives in
    let t = YieldsList-turn (YieldsList-from_vec {s = c.into_iter-level-iterator.result} c.args.levels.items gives.0 (gives.1 ∙ c.args.levels.ok.0))
    c.loop-level.yielded c.loop-level.level-iterator c.loop-level.yielded_by c.next.result c.next.new.self c.in-Some.level c.in-Some.is
    c.next.ensures.steps in
    let k = c.loop-level.number in
    let v : ℕ = get_or run.vehicles.now k 0 in
    let own : IsLevelOf tau settled v (run.size + 1) (run.room - run.found) c.in-Some.level =
    step.own_level tau settled (run.size + 1) (run.room - run.found) k (length c.loop-level.yielded) run.vehicles.now c.args.levels.items c.in-Some.level
    c.requires.levels inv.number t in
    let number = inv.number in
    let count = c.requires.levels.count in
    let here = t.0 in
    let known = c.requires.vehicles k (omega arith) in
    let total = c.requires.can.rows.total in
    let lt : v < length settled.vehicles = omega arith in
    let trips = c.in-All.trips in
    let all = (rw c.in-All.is at own).0 in
    step.more_than_room tau settled (run.size + 1) run.room v c.skip_to.new.lists.items trips c.in_ok-skip_to.ensures.level all.some lt
    (omega (arith, inv.fits, c.if-more-run.true, inv.counted, c.in_ok-skip_to.ensures.total, ap length c.rows.ensures))

pub loop-level-preserved : goal.loop-level-preserved
loop-level-preserved c =
    let run = c.args.run.now in
    let tau = tau_of run.growth.now in
    let settled = batch_of run.growth.now in
    let inv = c.loop-level.invariant in
    let gives = c.into_iter-level-iterator.ensures.into_iter_gives in
    let t = YieldsList-turn (YieldsList-from_vec {s = c.into_iter-level-iterator.result} c.args.levels.items gives.0 (gives.1 ∙ c.args.levels.ok.0))
    c.loop-level.yielded c.loop-level.level-iterator c.loop-level.yielded_by c.next.result c.next.new.self c.in-Some.level c.in-Some.is
    c.next.ensures.steps in
    let k = c.loop-level.number in
    let v : ℕ = get_or run.vehicles.now k 0 in
    let own : IsLevelOf tau settled v (run.size + 1) (run.room - run.found) c.in-Some.level =
    step.own_level tau settled (run.size + 1) (run.room - run.found) k (length c.loop-level.yielded) run.vehicles.now c.args.levels.items c.in-Some.level
    c.requires.levels inv.number t in
    let number = inv.number in
    let count = c.requires.levels.count in
    let here = t.0 in
    let lt : k < length run.vehicles.now = omega arith in
    let first : IsFirst run.below.now (length c.loop-level.lists.items) v c.args.end (drop (k + 1) run.vehicles.now) =
    next_first run.below.now (length c.loop-level.lists.items) k run.vehicles.now c.args.end inv.next lt in
    let trips = c.in-All.trips in
    let all : AreRowsOfSize tau settled v (run.size + 1) trips = (rw c.in-All.is at own).0 in
    let rows : c.rows.result.now ≡ trips = c.rows.ensures in
    let long : length c.rows.result.now ≡ length trips = ap length rows in
    let lists = c.skip_to.new.lists.items in
    let level : AreLevelsUpTo tau settled (run.size + 1) v lists = c.in_ok-skip_to.ensures.level in
    let next : AreLevelsUpTo tau settled (run.size + 1) (v + 1) (lists ++ trips ∷ []) = step.level_more tau settled (run.size + 1) v lists trips level all in
    let items : c.push.new.self.items ≡ lists ++ trips ∷ [] = c.in_ok-push.ensures.items in
    let end : v + 1 ≡ length c.push.new.self.items = (let a = next.total in let b = ap length items in omega arith) in
    let sum = step.total_more lists trips in
    let same = c.in_ok-skip_to.ensures.total in
    let counted = inv.counted in
    let fits = inv.fits in
    let grows = inv.grows in
    let few = c.if-more-run.false in
    let pushed = length_push c.loop-level.yielded c.in-Some.level in
    let whole = ap row_total items in
    record {
      number = omega arith;
      next = subst (λ (n : ℕ). AreNext run.below.now n (drop (k + 1) run.vehicles.now) c.args.end) end first.next;
      before = subst (λ (n : ℕ). AreLevelsUpTo tau settled (run.size + 1) n c.push.new.self.items) end (rw items next);
      counted = omega arith;
      fits = omega arith;
      grows = omega arith;
    }

pub skip_to-requires-2-clause-on : goal.skip_to-requires-2-clause-on
skip_to-requires-2-clause-on c =
    let run = c.args.run.now in
    next_end run.below.now (length c.loop-level.lists.items) (drop c.loop-level.number run.vehicles.now) c.args.end c.loop-level.invariant.next

pub skip_to-requires-2-clause-empty : goal.skip_to-requires-2-clause-empty
skip_to-requires-2-clause-empty c =
    let run = c.args.run.now in
    let inv = c.loop-level.invariant in
    let gives = c.into_iter-level-iterator.ensures.into_iter_gives in
    let e = YieldsList-end (YieldsList-from_vec {s = c.into_iter-level-iterator.result} c.args.levels.items gives.0 (gives.1 ∙ c.args.levels.ok.0))
    c.loop-level.yielded c.loop-level.level-iterator c.loop-level.yielded_by c.next.result c.next.new.self c.in-None.is c.next.ensures.steps in
    next_last run.below.now (length c.loop-level.lists.items) c.loop-level.number run.vehicles.now c.args.end inv.next
    (omega (arith, e.1, c.requires.levels.count, inv.number))

pub bounds-run-number : goal.bounds-run-number
bounds-run-number c =
    let run = c.args.run.now in
    let inv = c.loop-level.invariant in
    let gives = c.into_iter-level-iterator.ensures.into_iter_gives in
    let t = YieldsList-turn (YieldsList-from_vec {s = c.into_iter-level-iterator.result} c.args.levels.items gives.0 (gives.1 ∙ c.args.levels.ok.0))
    c.loop-level.yielded c.loop-level.level-iterator c.loop-level.yielded_by c.next.result c.next.new.self c.in-Some.level c.in-Some.is
    c.next.ensures.steps in
    omega (arith, t.0, c.requires.levels.count, inv.number)

pub skip_to-requires-clause-within : goal.skip_to-requires-clause-within
skip_to-requires-clause-within c =
    let run = c.args.run.now in
    let inv = c.loop-level.invariant in
    let gives = c.into_iter-level-iterator.ensures.into_iter_gives in
    let t = YieldsList-turn (YieldsList-from_vec {s = c.into_iter-level-iterator.result} c.args.levels.items gives.0 (gives.1 ∙ c.args.levels.ok.0))
    c.loop-level.yielded c.loop-level.level-iterator c.loop-level.yielded_by c.next.result c.next.new.self c.in-Some.level c.in-Some.is
    c.next.ensures.steps in
    let known = c.requires.vehicles c.loop-level.number (omega (arith, t.0, c.requires.levels.count, inv.number)) in
    omega (arith, known)

pub returns-in_err-skip_to : goal.returns-in_err-skip_to
returns-in_err-skip_to c = on_err c.from_residual.result _ c.from_residual.ensures.0

pub returns-in_err-push : goal.returns-in_err-push
returns-in_err-push c = on_err c.from_residual-in_err-push.result _ c.from_residual-in_err-push.ensures.0

pub returns-in_err-skip_to-2 : goal.returns-in_err-skip_to-2
returns-in_err-skip_to-2 c = on_err c.from_residual-in_err-skip_to-2.result _ c.from_residual-in_err-skip_to-2.ensures.0

pub returns : goal.returns
returns c = (c.in_ok-skip_to-2.ensures.level, c.loop-level.invariant.counted ∙ sym c.in_ok-skip_to-2.ensures.total, c.loop-level.invariant.fits)
