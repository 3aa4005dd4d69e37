use Rattle.std.proofs.Common.{ℕ, ◌<◌, List, length, get_or, sym, subst, arith, ◌≡◌, ◌+◌, refl}
use Rattle.trip_graph.proofs.batch.Runs.{next_within}
use Rattle.trip_graph.proofs.Lists.{on_err}
use Rattle.trip_graph.specs.work.batch.Growth.{batch_of, tau_of}
use Rattle.trip_graph.specs.work.batch.Levels.{AreLevelsUpTo}
use Rattle.trip_graph.specs.work.batch.Runs.{AreNext}
use Rattle.trip_graph.proofs.batch.levels.next_level.Goals as goal

pub grow_run-requires-clause-vehicles : goal.grow_run-requires-clause-vehicles
grow_run-requires-clause-vehicles g c κs within =
    let next = c.next_run-next in
    subst (λ (vs : List ℕ). (k : ℕ) → k < length vs → get_or vs k 0 < length c.args.below.now) (sym c.as_slice.ensures.value)
    (λ k lt. let below = next_within c.args.below.now _ next.result.vehicles.items next.result.end next.ensures.next k lt in omega (arith, next.ensures.end))

pub add_run-requires-clause-vehicles : goal.add_run-requires-clause-vehicles
add_run-requires-clause-vehicles g c =
    let next = c.next_run-next in
    subst (λ (vs : List ℕ). (k : ℕ) → k < length vs → get_or vs k 0 < length c.args.below.now) (sym c.as_slice.ensures.value)
    (λ k lt. let below = next_within c.args.below.now _ next.result.vehicles.items next.result.end next.ensures.next k lt in omega (arith, next.ensures.end))

pub returns-in_err-levels : goal.returns-in_err-levels
returns-in_err-levels g c = on_err c.from_residual.result _ c.from_residual.ensures.0

pub returns-in_err-found : goal.returns-in_err-found
returns-in_err-found g c = on_err c.from_residual-in_err-found.result _ c.from_residual-in_err-found.ensures.0

pub runs-init : goal.runs-init
runs-init g c = rw c.requires.none (record {
  level = record { total = refl; each = λ v h. absurd (omega (arith, h)) };
  counted = refl;
  fits =
      omega arith;
  within = omega arith;
})

pub add_run-requires-clause-levels : goal.add_run-requires-clause-levels
add_run-requires-clause-levels g c = c.in_ok-levels.ensures

pub add_run-requires-clause-next : goal.add_run-requires-clause-next
add_run-requires-clause-next g c =
    let count : c.len-in-runs.result ≡ length c.runs.lists.items = omega (arith, c.len-in-runs.ensures, c.runs.lists.ok.0) in
    rw c.as_slice.ensures.value (subst (λ n. AreNext c.args.below.now n c.next_run-next.result.vehicles.items c.next_run-next.result.end) count
    c.next_run-next.ensures.next)

pub returns-in_default : goal.returns-in_default
returns-in_default g c = rw c.in_default.is at c.in_ok-found.ensures

pub runs-preserved : goal.runs-preserved
runs-preserved g c =
    let went = rw c.in-Some.is at c.in_ok-found.ensures in
    let all = subst (λ n. AreLevelsUpTo (tau_of c.args.growth.now) (batch_of c.args.growth.now) (c.args.size + 1) n c.add_run.new.lists.items)
    (sym went.0.total) went.0 in
    record { level = all; counted = went.1; fits = went.2; within = omega (arith, went.0.total, c.next_run-next.ensures.end) }
