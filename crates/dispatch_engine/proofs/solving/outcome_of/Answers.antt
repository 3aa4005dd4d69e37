use Rattle.std.proofs.Common.{ap, ◌∙◌}
use Rattle.dispatch_engine.proofs.Common.{Batch}
use Rattle.dispatch_engine.proofs.solving.outcome_of.Goals as goal

pub returns : goal.returns
returns g c = (c.of.ensures ∙ c.in_ok-expired.ensures.items ∙ c.as_slice.ensures ∙ ap (λ (b : Batch). b.expired) c.snapshot.view_is, c.in_ok-answer.ensures)
