use Rattle.std.proofs.Common.{arith, sym, ◌∙◌, subst}
use Rattle.stop_orders.proofs.Common.{both_ways, NoneBetter}
use Rattle.stop_orders.proofs.lemmas.search.PlainLemmas.{ReachesAll-from_serves}
use Rattle.std.proofs.lemmas.Bool.{true≢false}
use Rattle.stop_orders.proofs.search.SearchLemmas.{good_better}
use Rattle.stop_orders.proofs.search.plain.keep_better.Goals as goal

pub returns-in_default-clause-tried : goal.returns-in_default-clause-tried
returns-in_default-clause-tried c = λ s. absurd (c.in_default.ensures (ReachesAll-from_serves _ _ _ s))

pub returns-then-not-serves-clause-tried : goal.returns-then-not-serves-clause-tried
returns-then-not-serves-clause-tried c = λ s. absurd (both_ways _ c.if-not-serves.true (c.serves.ensures.1 s))

pub delay_of-requires-clause-valid : goal.delay_of-requires-clause-valid
delay_of-requires-clause-valid c = c.requires.valid

pub returns-then-is_better-clause-found : goal.returns-then-is_better-clause-found
returns-then-is_better-clause-found c = rw c.copy_of_stops.ensures (c.serves.ensures.0 c.if-not-serves.false, c.in-Some.ensures.1)

pub returns-then-is_better-clause-kept : goal.returns-then-is_better-clause-kept
returns-then-is_better-clause-kept c =
    good_better c.args.best.now (record { stops = c.copy_of_stops.result; delay = c.in-Some.delay })
    (λ n. true≢false (sym c.if-is_better.true ∙ c.is_better.ensures.1 n))

pub returns-then-is_better-clause-tried : goal.returns-then-is_better-clause-tried
returns-then-is_better-clause-tried c = λ _. omega (arith, c.in-Some.ensures.1)

pub returns-else-is_better-clause-tried : goal.returns-else-is_better-clause-tried
returns-else-is_better-clause-tried c = λ _. subst (λ d. NoneBetter c.args.best.now d) c.in-Some.ensures.1 (c.is_better.ensures.0 c.if-is_better.false)
