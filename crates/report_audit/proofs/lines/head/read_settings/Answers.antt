use Rattle.std.proofs.Common.{rules, sym, ◌∙◌}
use Rattle.report_audit.proofs.lemmas.lines.HeadLemmas.{no_settings_line, none_here, none_behind, field_behind, settings_fields}
use Rattle.report_audit.proofs.lines.head.read_settings.Goals as goal

pub returns-in_err-wait : goal.returns-in_err-wait
returns-in_err-wait c = rw c.from_residual.ensures (no_settings_line (none_here c.in_err-wait.ensures))

pub returns-in_err-delay : goal.returns-in_err-delay
returns-in_err-delay c = rw c.from_residual-in_err-delay.ensures (no_settings_line (none_behind c.in_ok-wait.ensures (none_here c.in_err-delay.ensures)))

pub returns-in_err-trip : goal.returns-in_err-trip
returns-in_err-trip c = rw c.from_residual-in_err-trip.ensures
    (no_settings_line (none_behind c.in_ok-wait.ensures (none_behind c.in_ok-delay.ensures (none_here c.in_err-trip.ensures))))

pub returns-in_err-penalty : goal.returns-in_err-penalty
returns-in_err-penalty c = rw c.from_residual-in_err-penalty.ensures
    (no_settings_line (none_behind c.in_ok-wait.ensures (none_behind c.in_ok-delay.ensures
    (none_behind c.in_ok-trip.ensures (none_here c.in_err-penalty.ensures)))))

pub returns-in_err-budget : goal.returns-in_err-budget
returns-in_err-budget c = rw c.from_residual-in_err-budget.ensures
    (no_settings_line (none_behind c.in_ok-wait.ensures (none_behind c.in_ok-delay.ensures
    (none_behind c.in_ok-trip.ensures (none_behind c.in_ok-penalty.ensures (none_here c.in_err-budget.ensures))))))

pub returns-in_err-pairs : goal.returns-in_err-pairs
returns-in_err-pairs c = rw c.from_residual-in_err-pairs.ensures
    (no_settings_line (none_behind c.in_ok-wait.ensures (none_behind c.in_ok-delay.ensures
    (none_behind c.in_ok-trip.ensures (none_behind c.in_ok-penalty.ensures (none_behind c.in_ok-budget.ensures (none_here c.in_err-pairs.ensures)))))))

pub returns-in_err-proof : goal.returns-in_err-proof
returns-in_err-proof c = rw c.from_residual-in_err-proof.ensures
    (no_settings_line (none_behind c.in_ok-wait.ensures (none_behind c.in_ok-delay.ensures
    (none_behind c.in_ok-trip.ensures (none_behind c.in_ok-penalty.ensures (none_behind c.in_ok-budget.ensures
    (none_behind c.in_ok-pairs.ensures (none_here c.in_err-proof.ensures))))))))

pub returns-in_err-dwell : goal.returns-in_err-dwell
returns-in_err-dwell c = rw c.from_residual-in_err-dwell.ensures
    (no_settings_line (none_behind c.in_ok-wait.ensures (none_behind c.in_ok-delay.ensures
    (none_behind c.in_ok-trip.ensures (none_behind c.in_ok-penalty.ensures (none_behind c.in_ok-budget.ensures
    (none_behind c.in_ok-pairs.ensures (none_behind c.in_ok-proof.ensures
    (record { never = λ apart ns dwell short is. c.in_err-dwell.ensures dwell is })))))))))

pub returns : goal.returns
returns c = (
  search rules,
  field_behind _ c.in_ok-wait.ensures (field_behind _ c.in_ok-delay.ensures (field_behind _ c.in_ok-trip.ensures
      (field_behind _ c.in_ok-penalty.ensures (field_behind _ c.in_ok-budget.ensures (field_behind _ c.in_ok-pairs.ensures
      (field_behind _ c.in_ok-proof.ensures c.in_ok-dwell.ensures.1)))))) ∙ sym (settings_fields _),
)
