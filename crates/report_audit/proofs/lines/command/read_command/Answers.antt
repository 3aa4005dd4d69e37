use Rattle.report_audit.proofs.lines.CommandLemmas.{behind_lane, behind_position, not_read, position_begins, told_same}
use Rattle.report_audit.proofs.lines.command.read_command.Goals as goal

pub returns-in_err-after-clause-exact : goal.returns-in_err-after-clause-exact
returns-in_err-after-clause-exact c =
    λ position e is told whole. absurd (c.in_err-after.ensures position _ (position_begins position e is whole))

pub returns-in_err-lane-clause-exact : goal.returns-in_err-lane-clause-exact
returns-in_err-lane-clause-exact c =
    λ position e is told whole. absurd (c.in_err-lane.ensures e.lane _ (behind_position position e is whole c.in_ok-after.ensures))

pub returns-in_err-command-clause-exact : goal.returns-in_err-command-clause-exact
returns-in_err-command-clause-exact c =
    rw c.from_residual-in_err-command.ensures (λ position e is told whole.
    not_read (c.in_err-command.ensures.exact e.command e.reply is.command told (behind_lane position e is whole c.in_ok-after.ensures c.in_ok-lane.ensures).1))

pub returns-clause-exact : goal.returns-clause-exact
returns-clause-exact c =
    λ position e is told whole.
    let same = behind_lane position e is whole c.in_ok-after.ensures c.in_ok-lane.ensures in
    told_same same.0 (c.in_ok-command.ensures.exact e.command e.reply is.command told same.1)
