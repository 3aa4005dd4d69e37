use Rattle.std.proofs.Common.{Some, ap, ◌∙◌}
use Rattle.request_book.specs.declared.values.command.Command.TheVariants.{Cancel, Report, Pickup, Dropoff, Seal}
use Rattle.report_audit.proofs.lines.CommandLemmas.{cancel_is, dropoff_is, left_is, made, pickup_is, report_is, seal_is}
use Rattle.report_audit.proofs.lines.command.command_first.Goals as goal

pub returns-in-Some-clause-exact : goal.returns-in-Some-clause-exact
returns-in-Some-clause-exact c =
    λ command reply is told e. ap Some (ap Cancel c.rider.ensures ∙ cancel_is reply c.in-Some.ensures command is e)

pub returns-in-Some-numbered_first-clause-exact : goal.returns-in-Some-numbered_first-clause-exact
returns-in-Some-numbered_first-clause-exact c =
    λ command reply is told e. ap Some (ap Seal c.second.ensures ∙ seal_is reply c.in-Some-numbered_first.ensures command is e)

pub returns-in-Some-three_first-clause-exact : goal.returns-in-Some-three_first-clause-exact
returns-in-Some-three_first-clause-exact c =
    λ command reply is told e.
    ap Some (made Report c.vehicle.ensures c.node.ensures c.second-in-Some-three_first.ensures ∙ report_is reply c.in-Some-three_first.ensures command is e)

pub returns-in-Some-three_first-2-clause-exact : goal.returns-in-Some-three_first-2-clause-exact
returns-in-Some-three_first-2-clause-exact c =
    λ command reply is told e.
    ap Some
    (made Pickup c.vehicle-in-Some-three_first-2.ensures c.rider-in-Some-three_first-2.ensures c.second-in-Some-three_first-2.ensures ∙
    pickup_is reply c.in-Some-three_first-2.ensures command is e)

pub returns-in-Some-three_first-3-clause-exact : goal.returns-in-Some-three_first-3-clause-exact
returns-in-Some-three_first-3-clause-exact c =
    λ command reply is told e.
    ap Some
    (made Dropoff c.vehicle-in-Some-three_first-3.ensures c.rider-in-Some-three_first-3.ensures c.second-in-Some-three_first-3.ensures ∙
    dropoff_is reply c.in-Some-three_first-3.ensures command is e)

pub returns-clause-exact : goal.returns-clause-exact
returns-clause-exact c =
    left_is c.in_default.ensures c.in_default-numbered_first.ensures c.in_default-three_first.ensures c.in_default-three_first-2.ensures
    c.in_default-three_first-3.ensures c.submit_first.ensures.exact
