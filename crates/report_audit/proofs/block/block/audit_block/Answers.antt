use Rattle.std.proofs.Common.{◌≡◌, ◌≢◌, true, List, length, map, sym, ap, ◌∙◌, subst}
use Rattle.report_audit.proofs.Common.{
  Batch,
  IsKept,
  Vehicle,
  IsGoodOutcome,
  IsVerdictOf,
  MeetsAs,
  block_lines,
  Point,
  Outcome,
  BeginsWithGood,
  CanBeTold,
  judged_outcome,
  BlockLists,
  told_by,
  told_in,
  verdict_place,
}
use Rattle.report_audit.proofs.lemmas.block.AuditLemmas.{
  begins_good,
  begins_wrong,
  fails_at_once,
  fault_no_good,
  first_wrong,
  good_is_judged,
  is_good,
  line_count,
  wrong_no_good,
}
use Rattle.report_audit.proofs.block.NumberedLemmas.{vehicle_ids}
use Rattle.dispatch_engine.specs.declared.outcome.point.Point.TheVariants as point
use Rattle.report_audit.proofs.block.block.audit_block.Goals as goal

pub returns-in-Err-clause-none : goal.returns-in-Err-clause-none
returns-in-Err-clause-none g c =
    λ some other behind good.
    fault_no_good c.args.settings.now c.args.network.now c.args.snapshot.now c.args.text.now c.in-Err.fault c.refusal_of.result c.in-Err.ensures
    c.refusal_of.ensures some other behind good

pub returns-then-told-snapshot : goal.returns-then-told-snapshot
returns-then-told-snapshot g c =
    let settings = c.args.settings.now in let roads = c.args.network.now in let batch = c.args.snapshot.now in let lines = c.in-Ok.block.0 in
    let kept : IsKept batch = subst (λ (b : Batch). IsKept b) c.snapshot.view_is c.snapshot.invariant in
    let other : (told_by lines).batch ≢ batch.number = λ h. c.if-told-snapshot.true (ap (λ (t : BlockLists). t.batch) c.in_ok-told.ensures ∙ h ∙
    sym (ap (λ (b : Batch). b.number) c.snapshot.view_is)) in
    let wrong = begins_wrong settings roads batch kept c.args.text.now lines c.in-Ok.block.1.now c.in-Ok.ensures point.Answer
    (fails_at_once settings roads batch (told_by lines) other) in
    record { good = tt; lines = tt; only = tt; none = λ some. wrong_no_good settings roads batch kept c.args.text.now point.Answer wrong; fault = wrong }

pub returns-in-Fails : goal.returns-in-Fails
returns-in-Fails g c =
    let settings = c.args.settings.now in let roads = c.args.network.now in let batch = c.args.snapshot.now in let lines = c.in-Ok.block.0 in
    let kept : IsKept batch = subst (λ (b : Batch). IsKept b) c.snapshot.view_is c.snapshot.invariant in
    let number : (told_by lines).batch ≡ batch.number = sym (ap (λ (t : BlockLists). t.batch) c.in_ok-told.ensures) ∙ c.if-told-snapshot.false ∙
    ap (λ (b : Batch). b.number) c.snapshot.view_is in
    let is : c.in_ok-outcome.outcome ≡ judged_outcome (vehicle_ids batch) (told_by lines) =
    c.in_ok-outcome.ensures ∙ ap (λ (vs : List Vehicle). judged_outcome (map (λ v. v.id) vs) (told_in c.in_ok-told.told))
    (c.as_slice.ensures ∙ ap (λ (b : Batch). b.vehicles) c.snapshot.view_is)
    ∙ ap (λ (t : BlockLists). judged_outcome (vehicle_ids batch) t) c.in_ok-told.ensures in
    let told = rw c.in_ok-told.ensures at c.untold_point-untold.ensures in
    let first : IsVerdictOf (MeetsAs settings roads batch (told_by lines)) c.earlier.result =
    first_wrong settings roads batch (told_by lines) c.in-Ok-judge.verdict c.untold_point-untold.result c.earlier.result number
    (rw is at c.in-Ok-judge.ensures.points) told c.earlier.ensures in
    let fails = subst (IsVerdictOf (MeetsAs settings roads batch (told_by lines))) c.in-Fails.is first in
    let wrong = begins_wrong settings roads batch kept c.args.text.now lines c.in-Ok.block.1.now c.in-Ok.ensures c.in-Fails.point fails in
    record { good = tt; lines = tt; only = tt; none = λ some. wrong_no_good settings roads batch kept c.args.text.now c.in-Fails.point wrong; fault = wrong }

pub returns-in-Good : goal.returns-in-Good
returns-in-Good g c =
    let settings = c.args.settings.now in let roads = c.args.network.now in let batch = c.args.snapshot.now in let lines = c.in-Ok.block.0 in
    let kept : IsKept batch = subst (λ (b : Batch). IsKept b) c.snapshot.view_is c.snapshot.invariant in
    let number : (told_by lines).batch ≡ batch.number = sym (ap (λ (t : BlockLists). t.batch) c.in_ok-told.ensures) ∙ c.if-told-snapshot.false ∙
    ap (λ (b : Batch). b.number) c.snapshot.view_is in
    let is : c.in_ok-outcome.outcome ≡ judged_outcome (vehicle_ids batch) (told_by lines) =
    c.in_ok-outcome.ensures ∙ ap (λ (vs : List Vehicle). judged_outcome (map (λ v. v.id) vs) (told_in c.in_ok-told.told))
    (c.as_slice.ensures ∙ ap (λ (b : Batch). b.vehicles) c.snapshot.view_is)
    ∙ ap (λ (t : BlockLists). judged_outcome (vehicle_ids batch) t) c.in_ok-told.ensures in
    let told = rw c.in_ok-told.ensures at c.untold_point-untold.ensures in
    let first : IsVerdictOf (MeetsAs settings roads batch (told_by lines)) c.earlier.result =
    first_wrong settings roads batch (told_by lines) c.in-Ok-judge.verdict c.untold_point-untold.result c.earlier.result number
    (rw is at c.in-Ok-judge.ensures.points) told c.earlier.ensures in
    let all = subst (IsVerdictOf (MeetsAs settings roads batch (told_by lines))) c.in-Good.is first in
    let can : (q : Point) → CanBeTold q (told_by lines) = λ q. (all q).2 in
    let at = ap verdict_place (sym c.in-Good.is) ∙ c.earlier.ensures in
    let good = c.in-Ok-judge.ensures.good.0 (is_good c.in-Ok-judge.verdict c.untold_point-untold.result at) in
    let begins = subst (λ (o : Outcome). BeginsWithGood settings roads batch c.args.text.now o c.in-Ok.block.1.now) (sym is)
    (begins_good settings roads batch kept c.args.text.now lines c.in-Ok.block.1.now c.in-Ok.ensures number can
    (subst (λ (o : Outcome). IsGoodOutcome settings roads batch o) is good)) in
    record {
      good = begins;
      lines = c.len-count.ensures ∙ line_count settings roads batch kept c.args.text.now lines c.in-Ok.block.1.now c.in-Ok.ensures number can
          ∙ ap (λ (o : Outcome). length (block_lines true batch.number o)) (sym is);
      only = λ outcome behind other.
          let itself = good_is_judged settings roads batch kept c.args.text.now lines c.in-Ok.block.1.now c.in-Ok.ensures outcome behind other in
          (itself.same ∙ sym is, itself.after);
      none = tt;
      fault = tt;
    }
