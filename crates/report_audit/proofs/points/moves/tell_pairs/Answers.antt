use Rattle.std.proofs.Common.{refl, subst, arith}
use Rattle.report_audit.proofs.Common.{both_ways, point_count, travel_time, TellsMoves}
use Rattle.report_audit.proofs.lemmas.points.LateLemmas.{rightly_no}
use Rattle.report_audit.proofs.lemmas.points.MatchLemmas.{follows_on, is_reached, tells_next, told_here}
use Rattle.report_audit.proofs.points.moves.tell_pairs.Goals.{
  then-step-ge-NEVER-via-then-step-ge-NEVER,
  then-step-ge-NEVER-via-else-step-ge-NEVER+then-not-may_follow,
}
use Rattle.report_audit.proofs.points.moves.tell_pairs.Goals as goal

pub returns-in_default : goal.returns-in_default
returns-in_default c = rightly_no (λ some.
    let all = some.0 in let tells = some.1 in
    let here = told_here (point_count c.args.times.now) (travel_time c.args.times.now) c.args.settled.now c.args.idle.now c.args.left.now c.args.moves.now
    c.requires.places c.loop-step.step-index c.step-item.result c.loop-step-test.true c.step-item.is all tells in
    c.in_default.ensures _ here.0 here.1)

pub returns-then-step-ge-NEVER : goal.returns-then-step-ge-NEVER
returns-then-step-ge-NEVER c = rightly_no (λ some. let all = some.0 in let tells = some.1 in elim c.then-step-ge-NEVER.branch as (λ _. ⊥) [
  | then-step-ge-NEVER-via-then-step-ge-NEVER w ↦
      let low = is_reached (point_count c.args.times.now) (travel_time c.args.times.now) c.args.settled.now c.args.idle.now c.args.left.now c.args.moves.now
      c.requires.places c.loop-step.step-index c.step-item.result c.loop-step-test.true c.step-item.is all tells in
      omega (arith, low, w.if-step-ge-NEVER.true)
  | then-step-ge-NEVER-via-else-step-ge-NEVER+then-not-may_follow w ↦
      let follows = follows_on (point_count c.args.times.now) (travel_time c.args.times.now) c.args.settled.now c.args.idle.now c.args.left.now c.args.moves.now
      c.requires.places c.loop-step.step-index c.step-item.result c.loop-step-test.true c.step-item.is all tells
      c.loop-step.pairs.items c.in-Some.pair c.loop-step.invariant c.in-Some.ensures.0 c.in-Some.ensures.1 in
      both_ways _ w.if-not-may_follow.true (w.may_follow.ensures.1 (rw w.deref.ensures.value follows))
])

pub loop-step-preserved : goal.loop-step-preserved
loop-step-preserved c =
    rw c.in_ok-push.ensures.items
    (tells_next (point_count c.args.times.now) (travel_time c.args.times.now) c.args.settled.now c.args.idle.now c.args.left.now c.args.moves.now
    c.requires.places c.loop-step.step-index c.step-item.result c.loop-step-test.true c.step-item.is
    c.loop-step.pairs.items c.in-Some.pair c.loop-step.invariant c.in-Some.ensures.0 c.in-Some.ensures.1 c.if-step-ge-NEVER.false
    (rw c.deref.ensures.value at (c.may_follow.ensures.0 c.if-not-may_follow.false)))

pub returns : goal.returns
returns c =
    let whole = subst (λ n. TellsMoves (travel_time c.args.times.now) c.args.settled.now c.args.idle.now c.args.left.now c.args.moves.now n
    c.loop-step.pairs.items) (omega arith) c.loop-step.invariant in
    (λ _. (c.loop-step.pairs.items, whole), λ _. refl)
