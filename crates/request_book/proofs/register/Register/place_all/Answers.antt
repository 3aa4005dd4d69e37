use Rattle.std.proofs.Common.{◌≡◌, ℕ, ◌+◌, ◌-◌, ◌<◌, ◌++◌, ◌∷◌, [], List, None, length, take, sym, ap, subst, ◌∙◌, arith}
use Rattle.request_book.proofs.Common.{take_more, State, BookRider, find_rider, pool_count, state_of, HasRoom}
use Rattle.std.proofs.lemmas.List.{take_all}
use Rattle.request_book.proofs.lemmas.values.KeyedLemmas.{look_up-take}
use Rattle.request_book.proofs.lemmas.register.IndexLemmas.{pool_count-more}
use Rattle.request_book.proofs.register.Register.place_all.Goals as goal

pub place-requires-clause-new : goal.place-requires-clause-new
place-requires-clause-new c =
    let rs = c.args.riders.now in
    let r = c.rider-item.result in
    let i = c.loop-rider.rider-index in
    subst (λ us. find_rider r.id us ≡ None) (sym (ap (λ (s : State). s.riders) c.loop-rider.invariant.state))
    (ap (λ (x : BookRider). find_rider x.id (take i rs)) c.rider-item.is ∙ look_up-take (λ (x : BookRider). x.id) i rs r c.requires.differ
    c.loop-rider-test.true)

pub place-requires-clause-pool_room : goal.place-requires-clause-pool_room
place-requires-clause-pool_room c active =
    let riders = ap (λ (s : State). s.riders) c.loop-rider.invariant.state in
    let more = pool_count-more c.args.riders.now c.loop-rider.rider-index c.rider-item.result c.loop-rider-test.true c.rider-item.is active in
    subst (λ us. pool_count us < 1000) (sym riders) (omega (arith, more, c.requires.pool))

pub place-requires-clause-room : goal.place-requires-clause-room
place-requires-clause-room c =
    let h = c.loop-rider.invariant.room in
    record { riders = omega (arith, h.riders, c.loop-rider-test.true); ids = omega (arith, h.ids, c.loop-rider-test.true) }

pub loop-rider-preserved : goal.loop-rider-preserved
loop-rider-preserved c =
    let l = c.loop-rider in
    let rs = c.args.riders.now in
    let r = c.rider-item.result in
    let grown : State → State = λ s. record s { riders = s.riders ++ r ∷ [] } in
    let more : take (l.rider-index + 1) rs ≡ take l.rider-index rs ++ r ∷ [] = take_more rs l.rider-index r c.loop-rider-test.true ∙
    ap (λ x. take l.rider-index rs ++ x ∷ []) (sym c.rider-item.is) in
    let one_less : length rs - l.rider-index ≡ (length rs - (l.rider-index + 1)) + 1 = omega (arith, c.loop-rider-test.true) in
    record {
      state = c.place.ensures.state ∙ ap grown l.invariant.state ∙ ap (λ us. record (state_of c.reserve.new.self) { riders = us }) (sym more);
      indexed = c.place.ensures.indexed;
      room = c.place.ensures.room _ (subst (λ n. HasRoom n l.self) one_less l.invariant.room);
    }
