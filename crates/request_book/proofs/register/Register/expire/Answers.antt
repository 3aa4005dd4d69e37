use Rattle.std.proofs.Common.{◌+◌, drop, sym, ap, ◌∙◌, arith}
use Rattle.request_book.proofs.Common.{State, changed_at, changed_in_turn, with_status, Expired, state_of}
use Rattle.request_book.proofs.lemmas.register.SealLemmas.{changed_in_turn-more, changed_in_turn-all}
use Rattle.request_book.proofs.register.Register.expire.Goals as goal

pub loop-rider-preserved : goal.loop-rider-preserved
loop-rider-preserved c =
    let f = with_status Expired in
    let xs = c.args.expired.now in
    let i = c.loop-rider.rider-index in
    let rs = c.loop-rider.self.riders.items in
    let inv = c.loop-rider.invariant in
    let k = c.rider-item.result in
    let state = c.retire.ensures.state in
    let riders = ap (λ (s : State). s.riders) state in
    record {
      turn = ap (changed_in_turn (λ r. r.id) f (drop (i + 1) xs)) (riders ∙ ap (λ j. changed_at (λ r. r.id) j f rs) c.rider-item.is) ∙
          sym (changed_in_turn-more (λ r. r.id) f xs i k rs c.loop-rider-test.true) ∙ inv.turn;
      state = state ∙ ap (λ (s : State). record s { riders = changed_at (λ r. r.id) k f rs }) inv.state ∙
          ap (λ us. record (state_of c.args.self.now) { riders = us }) (sym riders);
      indexed = c.retire.ensures.indexed;
      room = λ n room. c.retire.ensures.room n (inv.room n room);
    }

pub returns-clause-state : goal.returns-clause-state
returns-clause-state c =
    let l = c.loop-rider in
    l.invariant.state
    ∙ ap (λ us. record (state_of c.args.self.now) { riders = us })
    (sym (changed_in_turn-all (λ r. r.id) (with_status Expired) c.args.expired.now l.rider-index l.self.riders.items (omega arith)) ∙ l.invariant.turn)
