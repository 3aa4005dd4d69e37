use Rattle.std.proofs.Common.{◌+◌, ℕ, sym, ap, ◌∙◌, subst, arith}
use Rattle.dispatch_engine.proofs.Common.{travel_time, length_push, Rider, no_rider, IsPlainRider, IsBetweenPlaces}
use Rattle.dispatch_engine.proofs.limits.Pairing.{pairs_more, pairs_all}
use Rattle.dispatch_engine.proofs.limits.requests.plain_riders.Goals as goal

pub plain_rider-requires-clause-places : goal.plain_rider-requires-clause-places
plain_rider-requires-clause-places c =
    subst (λ (x : Rider). IsBetweenPlaces c.args.points.now x.origin x.destination) (sym c.request-item.is)
    (c.requires.places c.loop-request.request-index c.request-item.result c.loop-request-test.true)

pub loop-request-preserved : goal.loop-request-preserved
loop-request-preserved c =
    let R = IsPlainRider c.args.settings.now c.args.points.now (travel_time c.args.times.now) in
    rw c.in_ok-push.ensures.items (record {
      count = length_push c.loop-request.riders.items c.plain_rider.result ∙ ap (λ (n : ℕ). n + 1) c.loop-request.invariant.count;
      each = pairs_more R no_rider c.loop-request.request-index c.args.requests.now c.loop-request.riders.items c.request-item.result c.plain_rider.result
          c.loop-request-test.true c.request-item.is c.loop-request.invariant.count c.plain_rider.ensures c.loop-request.invariant.each;
    })

pub returns : goal.returns
returns c =
    let R = IsPlainRider c.args.settings.now c.args.points.now (travel_time c.args.times.now) in
    record {
      count = (let n = c.loop-request.invariant.count in omega arith);
      each = pairs_all R no_rider c.loop-request.request-index c.args.requests.now c.loop-request.riders.items (omega arith) c.loop-request.invariant.each;
    }
