use Rattle.std.proofs.Common.{◌<◌, length, set, ap, arith}
use Rattle.std.proofs.lemmas.List.{length-set}
use Rattle.std.proofs.lemmas.List.Edits.{length-remove}
use Rattle.request_book.proofs.notices.ToldLemmas.{heard-none, told-kept, told-gone, told-all}
use Rattle.request_book.proofs.notices.telling.tell_all.Goals as goal

pub loop-at-init : goal.loop-at-init
loop-at-init g c = record { heard = heard-none _ _ _; within = omega arith; fewer = omega arith }

pub loop-at-preserved-in-Ok : goal.loop-at-preserved-in-Ok
loop-at-preserved-in-Ok g c =
    let longer = length-set c.loop-at.notifiers.items c.loop-at.at c.tell_one.new.notifier in
    record {
      heard = told-kept _ c.args.notices.now c.loop-at.at _ _ _ (omega (arith, c.loop-at-test.true, c.len.ensures)) c.index_mut.ensures.value
          c.loop-at.invariant.heard _ c.in-Ok.ensures.heard;
      within = omega (arith, longer, c.loop-at-test.true, c.len.ensures);
      fewer = omega (arith, longer, c.loop-at.invariant.fewer);
    }

pub loop-at-preserved : goal.loop-at-preserved
loop-at-preserved g c =
    let items = c.remove-gone.ensures.items in
    let longer = length-set c.loop-at.notifiers.items c.loop-at.at c.tell_one.new.notifier in
    let here : c.loop-at.at < length (set c.loop-at.notifiers.items c.loop-at.at c.tell_one.new.notifier) =
    omega (arith, longer, c.loop-at-test.true, c.len.ensures) in
    let shorter = length-remove (set c.loop-at.notifiers.items c.loop-at.at c.tell_one.new.notifier) c.loop-at.at here in
    let left = ap length items in
    record {
      heard =
          told-gone _ c.args.notices.now c.loop-at.at _ _ _ (omega (arith, c.loop-at-test.true, c.len.ensures)) c.index_mut.ensures.value
          c.loop-at.invariant.heard
          c.tell_one.new.notifier c.remove-gone.new.self.items items c.in-Err.ensures.unsure;
      within = omega (arith, left, shorter, here);
      fewer = omega (arith, left, shorter, longer, c.loop-at.invariant.fewer);
    }

pub returns-clause-heard : goal.returns-clause-heard
returns-clause-heard g c = told-all _ _ c.loop-at.at _ _ (omega (arith, c.loop-at-test.false, c.len.ensures)) c.loop-at.invariant.heard
