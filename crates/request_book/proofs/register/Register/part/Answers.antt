use Rattle.std.proofs.Common.{◌≡◌, ℕ, Option, ap, ◌∙◌, arith, option_and_then}
use Rattle.request_book.proofs.Common.{BookRider, Rider, after_seal, asking, find_rider, over_id}
use Rattle.std.specs.List.{filter_map}
use Rattle.std.proofs.lemmas.List.{take_all}
use Rattle.request_book.proofs.lemmas.register.SealLemmas.{made-more}
use Rattle.request_book.proofs.register.Register.part.Goals as goal

pub loop-id-preserved : goal.loop-id-preserved
loop-id-preserved c =
    let l = c.loop-id in
    let over : Option BookRider → Option ℕ = option_and_then (over_id c.args.wait c.args.second) in
    let asks : Option BookRider → Option Rider = option_and_then (λ r. asking c.args.second (after_seal c.args.wait c.args.second r)) in
    let ids = c.deref-id-items.result.now in
    let riders = c.args.self.now.riders.items in
    let read = c.rider-rider.ensures in
    record {
      over = made-more (λ id. over (find_rider id riders)) ids l.id-index c.id-item.result c.if_over.result _ _ c.loop-id-test.true c.id-item.is
          (c.if_over.ensures ∙ ap over read) l.invariant.over c.in_ok-push_some.ensures;
      asking = made-more (λ id. asks (find_rider id riders)) ids l.id-index c.id-item.result c.if_asking.result _ _ c.loop-id-test.true c.id-item.is
          (c.if_asking.ensures ∙ ap asks read) l.invariant.asking c.in_ok-push_some-2.ensures;
    }

pub returns-clause-over : goal.returns-clause-over
returns-clause-over c =
    let made : ℕ → Option ℕ = λ id. option_and_then (over_id c.args.wait c.args.second) (find_rider id c.args.self.now.riders.items) in
    c.loop-id.invariant.over ∙ ap (filter_map made) (take_all c.loop-id.id-index c.deref-id-items.result.now (omega arith) ∙ c.deref-id-items.ensures.value)

pub returns-clause-asking : goal.returns-clause-asking
returns-clause-asking c =
    let made : ℕ → Option Rider = λ id. option_and_then (λ r. asking c.args.second (after_seal c.args.wait c.args.second r))
    (find_rider id c.args.self.now.riders.items) in
    c.loop-id.invariant.asking ∙ ap (filter_map made) (take_all c.loop-id.id-index c.deref-id-items.result.now (omega arith) ∙ c.deref-id-items.ensures.value)
