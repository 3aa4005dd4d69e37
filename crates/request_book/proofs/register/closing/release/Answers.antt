use Rattle.std.proofs.Common.{◌+◌, drop, map, sym, ap, subst, ◌∙◌, arith}
use Rattle.request_book.proofs.Common.{at_drop_more, drop_all, waits_again, changed_at, KeysDiffer, changed_in_turn}
use Rattle.request_book.proofs.lemmas.register.CloseLemmas.{waits_again-id}
use Rattle.request_book.proofs.lemmas.values.KeyedLemmas.{KeysDiffer-changed_at, map-changed_at}
use Rattle.request_book.proofs.register.closing.release.Goals as goal

pub loop-rider-preserved : goal.loop-rider-preserved
unfolding changed_in_turn
loop-rider-preserved c =
    let xs = c.args.batch.now in
    let i = c.loop-rider.rider-index in
    let rs = c.loop-rider.riders.items in
    let inv = c.loop-rider.invariant in
    let x = c.rider-item.result in
    let changed = c.let_wait.ensures.changed in
    let more = at_drop_more (λ l. changed_in_turn (λ r. r.id) waits_again (map (λ r. r.id) l) rs) xs i x c.loop-rider-test.true in
    record {
      turn =
          ap (changed_in_turn (λ r. r.id) waits_again (map (λ r. r.id) (drop (i + 1) xs))) (changed ∙
          ap (λ k. changed_at (λ r. r.id) k waits_again rs) (ap (λ y. y.id) c.rider-item.is))
          ∙ sym more ∙ inv.turn;
      ids = inv.ids ∙ sym (ap (map (λ r. r.id)) changed ∙ map-changed_at (λ r. r.id) x.id waits_again waits_again-id rs);
      differ = subst (KeysDiffer (λ r. r.id)) (sym changed) (KeysDiffer-changed_at (λ r. r.id) x.id waits_again waits_again-id rs inv.differ);
      len = omega (arith, inv.len, c.let_wait.ensures.len);
      capacity = omega (arith, inv.capacity, c.let_wait.ensures.capacity);
    }

pub returns-clause-changed : goal.returns-clause-changed
unfolding changed_in_turn
returns-clause-changed c =
    sym (ap (λ l. changed_in_turn (λ r. r.id) waits_again (map (λ r. r.id) l) c.loop-rider.riders.items)
    (drop_all c.loop-rider.rider-index c.args.batch.now (omega arith))) ∙ c.loop-rider.invariant.turn
