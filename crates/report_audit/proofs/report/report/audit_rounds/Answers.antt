use Rattle.std.proofs.Common.{◌+◌, ◌<◌, ◌∙◌, ℕ, List, drop, false, get_or, length, sym, ap, subst, take, arith}
use Rattle.report_audit.proofs.Common.{IsBetween, NumberedLanes, err_from_is_err_and}
use Rattle.report_audit.proofs.report.WholeLemmas.{all_read, at_end, at_round, between_start, fault_at_end, fault_behind, next_round}
use Rattle.report_audit.proofs.report.report.audit_rounds.Goals as goal

pub loop-round-init : goal.loop-round-init
loop-round-init g c = between_start c.args.script.now c.requires.head c.args.book.now c.requires.opened.start c.requires.opened.state c.requires.opened.first

pub returns-in-Err : goal.returns-in-Err
returns-in-Err g c =
    let i = c.loop-round.round-index in
    let round = c.round-item.result in
    c.in-Err.ensures c.args.fleet.now c.args.script.now c.args.context.now.settings.now.workers (take i c.args.script.now) (drop (i + 1) c.args.script.now)
    c.loop-round.batches
    (at_round c.args.script.now i round (omega (arith, ap length c.rounds-round-items.ensures.rounds))
    (c.round-item.is ∙ ap (λ (rs : List NumberedLanes). get_or rs i round) c.rounds-round-items.ensures.rounds) c.loop-round.invariant)

pub loop-round-preserved : goal.loop-round-preserved
loop-round-preserved g c =
    let i = c.loop-round.round-index in
    let round = c.round-item.result in
    let low : i < length c.args.script.now = omega (arith, ap length c.rounds-round-items.ensures.rounds) in
    let is = c.round-item.is ∙ ap (λ (rs : List NumberedLanes). get_or rs i round) c.rounds-round-items.ensures.rounds in
    subst (λ (n : ℕ). IsBetween c.args.context.now.settings.now c.args.context.now.network.now c.args.context.now.report.now c.args.fleet.now c.args.script.now
    c.args.context.now.settings.now.workers
    (take (i + 1) c.args.script.now) (drop (i + 1) c.args.script.now) false c.audit_round.new.book c.in-Ok.read.rest.now n)
    (sym c.saturating_add-batches.ensures)
    (next_round c.args.script.now i round low is
    (c.in-Ok.ensures c.args.fleet.now c.args.script.now c.args.context.now.settings.now.workers (take i c.args.script.now) (drop (i + 1) c.args.script.now)
    c.loop-round.batches
    (at_round c.args.script.now i round low is c.loop-round.invariant)))

pub returns-in_err-behind : goal.returns-in_err-behind
returns-in_err-behind g c =
    let p = err_from_is_err_and c.from_residual.result c.from_residual.ensures.1 in
    rw (p.1, p.2) (fault_at_end c.args.script.now (at_end c.args.script.now c.loop-round.round-index
    (omega (arith, ap length c.rounds-round-items.ensures.rounds)) c.loop-round.invariant)
    c.next_position-entries.result c.next_position-entries.ensures c.in_err-behind.field-0.0 c.in_err-behind.ensures)

pub returns-in_err-nothing_behind : goal.returns-in_err-nothing_behind
returns-in_err-nothing_behind g c =
    let p = err_from_is_err_and c.from_residual-in_err-nothing_behind.result c.from_residual-in_err-nothing_behind.ensures.1 in
    let line = c.in_ok-behind.ensures in
    rw (p.1, p.2) (fault_behind c.args.script.now (at_end c.args.script.now c.loop-round.round-index
    (omega (arith, ap length c.rounds-round-items.ensures.rounds)) c.loop-round.invariant)
    c.next_position-entries.result c.next_position-entries.ensures line.0 c.in_ok-behind.behind.now line.1 line.2 c.in_err-nothing_behind.field-0.0
    (c.in_err-nothing_behind.ensures c.args.context.now.settings.now c.args.context.now.network.now))

pub returns : goal.returns
returns g c =
    let line = c.in_ok-behind.ensures in
    all_read c.args.script.now (at_end c.args.script.now c.loop-round.round-index (omega (arith, ap length c.rounds-round-items.ensures.rounds))
    c.loop-round.invariant)
    c.next_position-entries.result c.next_position-entries.ensures line.0 c.in_ok-behind.behind.now line.1 line.2 c.in_ok-nothing_behind.ensures
