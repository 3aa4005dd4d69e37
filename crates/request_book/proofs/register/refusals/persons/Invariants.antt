use Rattle.std.proofs.Common.{◌≡◌, ◌≤◌, ◌*◌, take, sum_by}
use Rattle.request_book.proofs.register.refusals.persons.Given as goal

abbrev pub invariant-loop-passenger : goal.invariant-loop-passenger
invariant-loop-passenger l =
    (l.persons ≡ sum_by (λ p. p.party) (take l.passenger-index l.aboard)) × (l.passenger-index ≤ l.persons) × (l.persons ≤ 6 * l.passenger-index)
