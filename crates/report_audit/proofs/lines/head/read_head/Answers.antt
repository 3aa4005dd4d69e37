use Rattle.std.proofs.Common.{ℕ, subst, arith}
use Rattle.report_audit.proofs.Common.{LinesFail, head_lines, HasHead}
use Rattle.report_audit.proofs.lemmas.lines.WholeHead.{no_head, head_only, head_read}
use Rattle.report_audit.proofs.lines.head.read_head.Goals as goal

pub returns-in-Err-clause-none : goal.returns-in-Err-clause-none
returns-in-Err-clause-none c =
    no_head c.args.workers c.args.network.now c.args.vehicles c.args.text.now c.sizes_of-nodes.ensures.few (omega arith) c.in-Err.fault
    (subst (λ (z : ℕ × ℕ). LinesFail (head_lines z c.args.vehicles) 1 c.args.text.now c.in-Err.fault) c.sizes_of-nodes.ensures.sizes c.in-Err.ensures)

pub returns-in-Err-clause-fault : goal.returns-in-Err-clause-fault
returns-in-Err-clause-fault c =
    subst (λ (z : ℕ × ℕ). LinesFail (head_lines z c.args.vehicles) 1 c.args.text.now c.in-Err.fault) c.sizes_of-nodes.ensures.sizes c.in-Err.ensures

pub returns-in-Ok-clause-read : goal.returns-in-Ok-clause-read
returns-in-Ok-clause-read c =
    let has = subst (λ (z : ℕ × ℕ). HasHead c.in-Ok.told z c.args.vehicles c.args.text.now c.in-Ok.rest.now) c.sizes_of-nodes.ensures.sizes c.in-Ok.ensures in
    head_read c.args.workers c.args.network.now c.args.vehicles c.args.text.now c.sizes_of-nodes.ensures.few (omega arith)
    c.in-Ok.told c.in-Ok.rest.now has c.settings_of.result c.settings_of.ensures.settings c.settings_of.ensures.numbers

pub returns-in-Ok-clause-only : goal.returns-in-Ok-clause-only
returns-in-Ok-clause-only c =
    let has = subst (λ (z : ℕ × ℕ). HasHead c.in-Ok.told z c.args.vehicles c.args.text.now c.in-Ok.rest.now) c.sizes_of-nodes.ensures.sizes c.in-Ok.ensures in
    head_only c.args.workers c.args.network.now c.args.vehicles c.args.text.now c.sizes_of-nodes.ensures.few (omega arith)
    c.in-Ok.told c.in-Ok.rest.now has c.settings_of.result c.settings_of.ensures.settings c.settings_of.ensures.numbers
