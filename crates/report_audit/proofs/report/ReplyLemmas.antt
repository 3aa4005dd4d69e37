-- A reply of the book tells how a rider's request ended only where it did.
use Rattle.std.proofs.Common.{◌≡◌, ℕ, List, refl, sym, ap, subst, arith}
use Rattle.report_audit.proofs.Common.{
  BookView,
  IsApplied,
  cancel,
  close,
  dropoff,
  pickup,
  report,
  seal,
  step,
  submit,
  Command,
  Ended,
  Reply,
  Refused,
  Status,
  Waiting,
  Promised,
  Aboard,
  State,
  TellsEnd,
}
use Rattle.dispatch_report.specs.Fits.{IsEnded}

ended : (nodes : List ℕ) (wait : ℕ) (s : State) (c : Command) (status : Status) → (step nodes wait s c).1 ≡ Refused (Ended status) → IsEnded status
unfolding step submit cancel report pickup dropoff seal close
ended nodes wait s c Waiting e = grind arith
ended nodes wait s c (Promised p) e = grind arith
ended nodes wait s c (Aboard v) e = grind arith
ended nodes wait s c _ e = tt

tells : (reply : Reply) → ((status : Status) → reply ≡ Refused (Ended status) → IsEnded status) → TellsEnd reply
tells (Refused (Ended status)) h = h status refl
tells _ h = tt

pub applied_tells_end : (old new : BookView) (lane : ℕ) (c : Command) (reply : Reply) → IsApplied old lane c reply new → TellsEnd reply
applied_tells_end old new lane c reply applied = subst TellsEnd (sym (ap (λ p. p.1) applied.stepped)) (tells _ (ended old.nodes old.wait old.state c))
