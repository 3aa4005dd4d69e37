use Rattle.std.proofs.Common.{ℕ, refl, ap, subst, ◌∙◌}
use Rattle.report_audit.proofs.Common.{IsApplied, Command, entry_line}
use Rattle.report_audit.proofs.report.ReplyLemmas.{applied_tells_end}
use Rattle.report_audit.proofs.report.entry.answered.Goals as goal

pub returns-then-branch : goal.returns-then-branch
returns-then-branch c =
    let old = c.args.book.now in
    let reply = c.in_ok-reply.reply in
    let applied = subst (λ (x : Command). IsApplied old c.args.lane x reply c.apply.new.self) c.copied.ensures c.in_ok-reply.ensures.applied in
    let is = c.in_ok-is_line_of.ensures in
    let line = is.line.0 c.if-branch.true ∙ ap (λ (p : ℕ). entry_line p (record { lane = c.args.lane; command = c.args.command.now; reply = reply }))
    c.next_position-position.ensures in
    (reply, applied, (refl, is.command, is.reply (applied_tells_end _ _ _ _ _ applied), line))
