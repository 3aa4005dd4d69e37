use Rattle.std.proofs.Common.{◌≡◌, ◌<◌, ◌+◌, length, take, slice_index_or, set, sym, ap, ◌∙◌, subst, refl, arith}
use Rattle.dispatch_engine.proofs.Common.{get_or_default, Rider, SettledRider, no_rider, request_at, kept_rider, AreKept}
use Rattle.std.specs.List.{Contains}
use Rattle.dispatch_engine.proofs.lemmas.limits.Promises.{kept_more, request_read}
use Rattle.dispatch_engine.proofs.limits.kept_riders.keep_promises.Goals as goal

pub loop-number-preserved : goal.loop-number-preserved
loop-number-preserved c =
    let wait = c.args.wait in let requests = c.args.requests.now in let plain = c.args.plain.now in let held = c.args.held.now in
    let i = c.loop-number.number-index in let h = slice_index_or held i 0 in
    let inside : h < length requests = c.requires.within i 0 c.loop-number-test.true in
    let all = c.requires.all in let same = c.requires.same in
    let request = request_read requests h c.index-requests-number.result inside c.index-requests-number.is in
    let rider = c.index-plain-number.is ∙ get_or_default plain h c.index-plain-number.result no_rider (omega arith) in
    let new : c.rider_as_promised.result ≡ kept_rider wait (request_at requests h) (slice_index_or plain h no_rider) =
    c.rider_as_promised.ensures ∙ ap (λ (x : Rider). kept_rider wait x c.index-plain-number.result) request ∙
    ap (λ (y : SettledRider). kept_rider wait (request_at requests h) y) rider in
    subst (λ (y : SettledRider). AreKept wait requests plain (Contains (take (i + 1) held)) c.args.riders.now.items (set c.loop-number.riders.items h y))
    (sym new)
    (kept_more wait requests plain i h held c.args.riders.now.items c.loop-number.riders.items c.loop-number-test.true refl (omega arith)
    c.loop-number.invariant)
