use Rattle.std.proofs.Common.{◌≡◌, ◌≢◌, List, map, sym, ap, ◌∙◌, subst}
use Rattle.report_audit.proofs.Common.{Batch, BlockLists, CanBeTold, IsKept, IsVerdictOf, Point, Vehicle, judged_outcome, told_by, told_in}
use Rattle.report_audit.proofs.block.NumberedLemmas.{vehicle_ids}
use Rattle.report_audit.proofs.block.ToldLemmas.{told_count, told_text}
use Rattle.report_audit.proofs.lemmas.block.AuditLemmas.{fault_no_good, good_is_judged, other_number_no_good, untold_no_good}
use Rattle.report_audit.proofs.block.told.read_outcome.Goals as goal

pub returns-in-Err-clause-none : goal.returns-in-Err-clause-none
returns-in-Err-clause-none c =
    λ some settings roads other behind good.
    fault_no_good settings roads c.args.snapshot.now c.args.text.now c.in-Err.fault c.refusal_of.result c.in-Err.ensures c.refusal_of.ensures some other behind
    good

pub returns-then-told-snapshot-clause-none : goal.returns-then-told-snapshot-clause-none
returns-then-told-snapshot-clause-none c =
    let batch = c.args.snapshot.now in let lines = c.in-Ok.block.0 in
    let kept : IsKept batch = subst (λ (b : Batch). IsKept b) c.snapshot.view_is c.snapshot.invariant in
    let number : (told_by lines).batch ≢ batch.number = λ h. c.if-told-snapshot.true (ap (λ (t : BlockLists). t.batch) c.in_ok-told.ensures ∙ h ∙
    sym (ap (λ (b : Batch). b.number) c.snapshot.view_is)) in
    λ some. other_number_no_good batch kept c.args.text.now lines c.in-Ok.block.1.now c.in-Ok.ensures number

pub returns-in-Fails-clause-none : goal.returns-in-Fails-clause-none
returns-in-Fails-clause-none c =
    let batch = c.args.snapshot.now in let lines = c.in-Ok.block.0 in
    let kept : IsKept batch = subst (λ (b : Batch). IsKept b) c.snapshot.view_is c.snapshot.invariant in
    let told : IsVerdictOf (λ q. CanBeTold q (told_by lines)) c.untold_point.result = subst
    (λ (t : BlockLists). IsVerdictOf (λ q. CanBeTold q t) c.untold_point.result) c.in_ok-told.ensures c.untold_point.ensures in
    let fails = subst (IsVerdictOf (λ q. CanBeTold q (told_by lines))) c.in-Fails.is told in
    λ some. untold_no_good batch kept c.args.text.now lines c.in-Ok.block.1.now c.in-Ok.ensures c.in-Fails.point fails

pub returns : goal.returns
returns c =
    let batch = c.args.snapshot.now in let lines = c.in-Ok.block.0 in let rest = c.in-Ok.block.1.now in
    let kept : IsKept batch = subst (λ (b : Batch). IsKept b) c.snapshot.view_is c.snapshot.invariant in
    let number : (told_by lines).batch ≡ batch.number = sym (ap (λ (t : BlockLists). t.batch) c.in_ok-told.ensures) ∙ c.if-told-snapshot.false ∙
    ap (λ (b : Batch). b.number) c.snapshot.view_is in
    let told : IsVerdictOf (λ q. CanBeTold q (told_by lines)) c.untold_point.result = subst
    (λ (t : BlockLists). IsVerdictOf (λ q. CanBeTold q t) c.untold_point.result) c.in_ok-told.ensures c.untold_point.ensures in
    let can : (q : Point) → CanBeTold q (told_by lines) = subst (IsVerdictOf (λ q. CanBeTold q (told_by lines))) c.in_default.is told in
    let is : c.in_ok-outcome.outcome ≡ judged_outcome (vehicle_ids batch) (told_by lines) =
    c.in_ok-outcome.ensures ∙ ap (λ (vs : List Vehicle). judged_outcome (map (λ v. v.id) vs) (told_in c.in_ok-told.told))
    (c.as_slice.ensures ∙ ap (λ (b : Batch). b.vehicles) c.snapshot.view_is)
    ∙ ap (λ (t : BlockLists). judged_outcome (vehicle_ids batch) t) c.in_ok-told.ensures in
    record {
      told = told_text batch c.args.text.now lines rest c.in-Ok.ensures number can c.in_ok-outcome.outcome is;
      lines = c.len-count.ensures ∙ told_count batch c.args.text.now lines rest c.in-Ok.ensures number can c.in_ok-outcome.outcome is;
      only = λ settings roads outcome behind other.
          let itself = good_is_judged settings roads batch kept c.args.text.now lines rest c.in-Ok.ensures outcome behind other in
          (itself.same ∙ sym is, itself.after);
      none = tt;
    }
