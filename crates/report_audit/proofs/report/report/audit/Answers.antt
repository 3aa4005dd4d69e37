use Rattle.std.proofs.Common.{ℕ, List, length, sym, subst}
use Rattle.report_audit.proofs.Common.{AuditFault, BeginsWithHead, HasFault, HeadFails, IsAudited, Vehicle, err_from_is_err_and}
use Rattle.report_audit.proofs.report.FaultLemmas.{head_fault}
use Rattle.report_audit.proofs.report.OneFault.{no_fault, one_fault}
use Rattle.report_audit.proofs.report.report.audit.Goals as goal

pub returns-in-Err : goal.returns-in-Err
returns-in-Err g c =
    let has = subst (λ (fault : AuditFault). HasFault c.args.network.now c.args.fleet.now c.args.script.now c.args.workers c.args.report.now fault)
    (sym c.of_head.ensures)
    (head_fault c.args.network.now c.args.fleet.now c.args.script.now c.args.workers c.args.report.now c.in-Err.fault
    (subst (λ (vs : List Vehicle). HeadFails c.args.network.now (length vs) c.args.report.now c.in-Err.fault) c.vehicles.ensures.vehicles
    c.in-Err.ensures.fault)) in
    record {
      accepted = tt;
      refused = λ some report. no_fault c.args.network.now c.args.fleet.now c.args.script.now c.args.workers c.args.report.now c.fetch_bounds.ensures report _
          some has;
      fault = has;
      sound = tt;
      only = λ some other memory also. one_fault c.args.network.now c.args.fleet.now c.args.script.now c.args.workers c.args.report.now c.fetch_bounds.ensures _
          other some memory has also;
    }

pub audit_behind-requires-clause-head : goal.audit_behind-requires-clause-head
audit_behind-requires-clause-head g c κs within =
    let head = subst (λ (vs : List Vehicle). BeginsWithHead c.args.workers c.args.network.now (length vs) c.args.report.now c.in-Ok.head.0 c.in-Ok.head.1.now)
    c.vehicles.ensures.vehicles c.in-Ok.ensures.read in
    subst (λ (w : ℕ). BeginsWithHead w c.args.network.now (length c.args.fleet.now) c.args.report.now c.in-Ok.head.0 c.in-Ok.head.1.now)
    (sym head.settings.workers) head

pub returns-in_err-entries : goal.returns-in_err-entries
returns-in_err-entries g c =
    let p = err_from_is_err_and c.from_residual.result c.from_residual.ensures.1 in
    let has = subst (λ (w : ℕ). HasFault c.args.network.now c.args.fleet.now c.args.script.now w c.args.report.now c.in_err-entries.field-0.0)
    c.in-Ok.ensures.read.settings.workers c.in_err-entries.ensures in
    record {
      accepted = rw p.1 tt;
      refused = rw (p.1, p.2) (λ some report. no_fault c.args.network.now c.args.fleet.now c.args.script.now c.args.workers c.args.report.now
          c.fetch_bounds.ensures report _ some has);
      fault = rw (p.1, p.2) has;
      sound = rw p.1 tt;
      only = rw (p.1, p.2) (λ some other memory also. one_fault c.args.network.now c.args.fleet.now c.args.script.now c.args.workers c.args.report.now
          c.fetch_bounds.ensures _ other some memory has also);
    }

pub returns : goal.returns
returns g c =
    let audited = subst (λ (w : ℕ). IsAudited c.args.network.now c.args.fleet.now c.args.script.now w c.args.report.now
    (record { entries = c.in_ok-entries.entries; batches = c.in_ok-entries.batches })) c.in-Ok.ensures.read.settings.workers c.in_ok-entries.ensures in
    record {
      accepted = audited;
      refused = tt;
      fault = tt;
      sound = λ other memory has. no_fault c.args.network.now c.args.fleet.now c.args.script.now c.args.workers c.args.report.now c.fetch_bounds.ensures
          audited.report other memory has;
      only = tt;
    }
