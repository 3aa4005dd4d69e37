use Rattle.std.proofs.Common.{◌-◌, ◌≤◌, length}
use Rattle.request_book.proofs.notices.ToldLemmas.{HaveHeardUpTo}
use Rattle.request_book.proofs.notices.telling.tell_all.Given as goal

abbrev pub invariant-loop-at : goal.invariant-loop-at
invariant-loop-at g l = record {
  heard : HaveHeardUpTo (λ n. record { told = g.N.Notifier.told n; faults = g.N.Notifier.faults n; steady = g.N.Notifier.steady n }) l.notices l.at
      l.initial.notifiers.items l.notifiers.items;
  within : l.at ≤ length l.notifiers.items;
  fewer : length l.notifiers.items ≤ length l.initial.notifiers.items;
}

abbrev pub decreases-loop-at : goal.decreases-loop-at
decreases-loop-at g l = length l.notifiers.items - l.at
