use Rattle.std.proofs.Common.{◌≡◌, Err, ap, subst}
use Rattle.pool_base.specs.TimesFault.{IsFirstFault}
use Rattle.pool_base.proofs.FaultLemmas.{IsFirstFault-unique}
use Rattle.pool_base.proofs.times.Times.checked.Goals as goal

pub returns-in-Err-clause-refused : goal.returns-in-Err-clause-refused
returns-in-Err-clause-refused c = λ fault.
    let n = c.args.points in
    let cells = c.args.cells.items in
    let found : IsFirstFault n cells c.in-Err.fault = subst (λ xs. IsFirstFault n xs c.in-Err.fault) c.deref.ensures.value c.in-Err.ensures in (
      λ e. let same : c.in-Err.fault ≡ fault = cc in subst (IsFirstFault n cells) same found,
      λ other. ap Err (IsFirstFault-unique n cells c.in-Err.fault fault found other),
    )
