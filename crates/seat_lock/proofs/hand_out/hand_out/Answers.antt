use Rattle.std.proofs.Common.{rules, arith, ◌≡◌, ℕ, ◌+◌, ◌<◌, [], get_or, ap, ◌∙◌, sym, subst}
use Rattle.seat_lock.proofs.Common.{new_pass}
use Rattle.seat_lock.proofs.KeepsTurns.{cuts}
use Rattle.seat_lock.proofs.Handing.{IsPass-at, pass_value-at, given_is, kept_is, pushed_each}
use Rattle.seat_lock.proofs.hand_out.hand_out.Goals as goal

pub split_seat-seat-requires : goal.split_seat-seat-requires
split_seat-seat-requires g c = (search rules, search rules, cuts _ _ _ _ _ _ _ (ap (λ m. m.0.stage) c.loop-lane.invariant.view))

pub invariant_of-push_reserved : goal.invariant_of-push_reserved
invariant_of-push_reserved g c = let start = c.args.queue.now.shared.key.opening.value in
    IsPass-at _ start _ [] 0 (given_is _ _ start _ c.args.lanes c.loop-lane.invariant.view c.loop-lane-test.true c.split_seat-seat.ensures.4)

pub loop-lane-preserved : goal.loop-lane-preserved
loop-lane-preserved g c =
    let start = c.args.queue.now.shared.key.opening.value in
    let s = c.split_seat-seat.ensures in
    let p = c.push_reserved.ensures in
    let i = c.loop-lane.invariant in record {
      own = search rules;
      view = kept_is _ _ start _ c.args.lanes i.view c.loop-lane-test.true s.2;
      len = search rules;
      room = search rules;
      each = subst (λ items. (k : ℕ) (d : _) → k < c.loop-lane.lane + 1 → get_or items k d ≡ new_pass c.args.queue.now.shared.table_id start k) (sym p.items)
          (pushed_each _ _ _ (new_pass c.args.queue.now.shared.table_id start) (omega (arith, i.len, c.loop-lane.passes.ok.0)) i.each
          (pass_value-at c.split_seat-seat.result start _ [] 0 (given_is _ _ start _ c.args.lanes i.view c.loop-lane-test.true s.4) ∙
          ap (λ t. new_pass t start c.loop-lane.lane) (s.3 ∙ i.own)));
    }
