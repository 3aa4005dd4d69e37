use Rattle.report_audit.specs.declared.block.block.AuditedBlock.{AuditedBlock}
use Rattle.report_audit.specs.declared.block.refusal.BlockRefusal.TheVariants.{OutOfMemory}
use Rattle.report_past.proofs.TakeLemmas.{tells_judged, tells_no_block, tells_unjudged}
use Rattle.report_past.proofs.close.read_block.Goals as goal

pub returns-then-not-context-clause-block : goal.returns-then-not-context-clause-block
returns-then-not-context-clause-block g c =
    tells_unjudged c.args.context.now.settings.now c.args.context.now.network.now c.args.context.now.fleet.now c.args.context.now.judge c.args.snapshot.now
    c.args.text.now (λ (b : AuditedBlock). b.outcome) (λ (b : AuditedBlock). b.rest.now) c.read_outcome.result c.if-not-context.true c.read_outcome.ensures.told
    c.read_outcome.ensures.only

pub returns-then-not-context-clause-none : goal.returns-then-not-context-clause-none
returns-then-not-context-clause-none g c =
    tells_no_block c.args.context.now.settings.now c.args.context.now.network.now c.args.context.now.fleet.now c.args.context.now.judge OutOfMemory
    c.args.snapshot.now c.args.text.now c.read_outcome.result c.read_outcome.ensures.none

pub returns-clause-block : goal.returns-clause-block
returns-clause-block g c =
    tells_judged c.args.context.now.settings.now c.args.context.now.network.now c.args.context.now.fleet.now c.args.context.now.judge c.args.snapshot.now
    c.args.text.now (λ (b : AuditedBlock). b.outcome) (λ (b : AuditedBlock). b.rest.now) c.audit_block.result c.audit_block.ensures.good
    c.audit_block.ensures.only

pub returns-clause-none : goal.returns-clause-none
returns-clause-none g c = c.audit_block.ensures.none
