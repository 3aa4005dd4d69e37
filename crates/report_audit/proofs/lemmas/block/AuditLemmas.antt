-- A block as which one outcome is judged, and good outcomes that print it.
use Rattle.std.proofs.Common.{rules, ◌≡◌, ◌≢◌, ℕ, ◌<◌, ◌≤◌, min, true, List, ◌++◌, length, map, ⊎_elim, refl, sym, ap, ◌∙◌, subst, arith}
use Rattle.report_audit.proofs.Common.{
  cases_lt,
  length-map,
  point_place,
  Batch,
  IsKept,
  IsGoodOutcome,
  block_lines,
  Meets,
  IsVerdictOf,
  Point,
  lines_of,
  BlockLine,
  Outcome,
  Settings,
  Roads,
  BeginsWithGood,
  BeginsWithWrong,
  MeetsAs,
  Refuses,
  judged_outcome,
  CanBeTold,
  BlockLists,
  told_by,
  HoldUpTo,
  verdict_place,
}
use Rattle.std.specs.List.{All}
use Rattle.dispatch_report.specs.Lines.{lines_text}
use Rattle.report_audit.specs.declared.points.verdict.Verdict.{Verdict}
use Rattle.report_audit.specs.declared.points.verdict.Verdict.TheVariants.{Good, Fails}
use Rattle.report_audit.proofs.lemmas.points.PosedLemmas.{good_meets}
use Rattle.report_audit.proofs.lemmas.points.VerdictLemmas.{last_place, same_place}
use Rattle.report_audit.specs.lines.BlockLines.{IsBlock, BlockFails}
use Rattle.dispatch_report.specs.Block.{block_line_text}
use Rattle.report_audit.specs.lines.BlockLine.{IsBlockLine}
use Rattle.report_audit.specs.declared.lines.block_lines.BlockFault.{BlockFault}
use Rattle.report_audit.proofs.lemmas.lines.OneBlock.{block_of_one, block_no_fault, one_fault}
use Rattle.report_audit.proofs.lemmas.lines.OutcomeLemmas.{outcome_block}
use Rattle.report_audit.specs.work.block.Block.{refusal_for}
use Rattle.report_audit.specs.declared.block.refusal.BlockRefusal.{BlockRefusal}
use Rattle.report_audit.specs.declared.block.refusal.BlockRefusal.TheVariants.{OutOfMemory, Cut, Form, Wrong}
use Rattle.report_audit.proofs.block.NumberedLemmas.{vehicle_ids, outcome_numbered, outcome_trips}
use Rattle.report_audit.proofs.block.OutcomeLemmas.{IsToldAs, judged_few, lines_are, outcome_is_told}
use Rattle.dispatch_engine.specs.declared.outcome.point.Point.TheVariants as point
use Rattle.report_audit.specs.declared.lines.block_lines.BlockFault.TheVariants as fault

-- two lists of points, one beside the other, where something else holds
hold_both : (N : Type 0) (P Q : Point → Type 0) (m n : ℕ) → N → HoldUpTo P m → HoldUpTo Q n → HoldUpTo (λ q. N × P q × Q q) (min m n)
hold_both N P Q m n is hp hq = record {
  before = λ q less. (is, hp.before q (omega (arith, less)), hq.before q (omega (arith, less)));
  there = λ less. ⊎_elim
      (λ (first : m < n). let p = hp.there (omega (arith, less, first)) in let at = p.1 in (p.0, omega (arith, at, first), λ all. p.2 all.1))
      (λ (second : n ≤ m). let p = hq.there (omega (arith, less, second)) in let at = p.1 in (p.0, omega (arith, at, second), λ all. p.2 all.2))
      (cases_lt m n);
}

verdict_holds : (P : Point → Type 0) (verdict : Verdict) → IsVerdictOf P verdict → HoldUpTo P (verdict_place verdict)
verdict_holds P Good all = record { before = λ q less. all q; there = λ less. absurd (omega arith) }
verdict_holds P (Fails p) first = record { before = first.0; there = λ less. (p, refl, first.1) }

holds_verdict : (P : Point → Type 0) (verdict : Verdict) → HoldUpTo P (verdict_place verdict) → IsVerdictOf P verdict
holds_verdict P Good holds = λ q. holds.before q (last_place q)
holds_verdict P (Fails p) holds = (holds.before, λ here. (let (q, at, fails) = holds.there (last_place p) in fails (subst P (same_place p q (sym at)) here)))

-- what is told, judged up to the first point that fails or can't be told
pub first_wrong : (settings : Settings) (roads : Roads) (batch : Batch) (t : BlockLists) (verdict untold first : Verdict) → t.batch ≡ batch.number
    → IsVerdictOf (Meets settings roads batch (judged_outcome (vehicle_ids batch) t)) verdict → IsVerdictOf (λ q. CanBeTold q t) untold
    → verdict_place first ≡ min (verdict_place verdict) (verdict_place untold) → IsVerdictOf (MeetsAs settings roads batch t) first
first_wrong settings roads batch t verdict untold first number points told at =
    let meets : Point → Type 0 = Meets settings roads batch (judged_outcome (vehicle_ids batch) t) in
    let can : Point → Type 0 = λ q. CanBeTold q t in
    holds_verdict (MeetsAs settings roads batch t) first
    (subst (HoldUpTo (MeetsAs settings roads batch t)) (sym at)
    (hold_both (t.batch ≡ batch.number) meets can (verdict_place verdict) (verdict_place untold) number (verdict_holds meets verdict points)
    (verdict_holds can untold told)))

good_place : (verdict : Verdict) → 9 ≤ verdict_place verdict → verdict ≡ Good
good_place Good high = refl
good_place (Fails p) high = let low = last_place p in absurd (omega (arith, low, high))

pub is_good : (verdict untold : Verdict) → 9 ≡ min (verdict_place verdict) (verdict_place untold) → verdict ≡ Good
is_good verdict untold at = good_place verdict (omega (arith, at))

-- another number than the batch's fails at once
pub fails_at_once : (settings : Settings) (roads : Roads) (batch : Batch) (t : BlockLists) → t.batch ≢ batch.number →
    IsVerdictOf (MeetsAs settings roads batch t) (Fails point.Answer)
fails_at_once settings roads batch t other = (λ q less. absurd (omega arith), λ holds. other holds.0)

-- the outcome as which the block is judged is the only good one whose block stands there
pub record IsItself (settings : Settings) (roads : Roads) (batch : Batch) (t : BlockLists) (other : Outcome) (rest behind : List ℕ) : Type 0 where
  pub same : other ≡ judged_outcome (vehicle_ids batch) t
  pub after : behind ≡ rest
  pub meets : (q : Point) → MeetsAs settings roads batch t q

good_block : (settings : Settings) (roads : Roads) (batch : Batch) (text : List ℕ) (other : Outcome) (behind : List ℕ) →
    BeginsWithGood settings roads batch text other behind → IsBlock text (lines_of true batch.number other) behind
good_block settings roads batch text other behind good = subst (λ (t : List ℕ). IsBlock t (lines_of true batch.number other) behind) (sym good.whole)
    (outcome_block batch.number other behind good.fits.lines)

module _ (settings : Settings) (roads : Roads) (batch : Batch) (kept : IsKept batch) (text : List ℕ) (lines : List BlockLine) (rest : List ℕ)
    (block : IsBlock text lines rest) where
  pub good_is_judged : (other : Outcome) (behind : List ℕ) → BeginsWithGood settings roads batch text other behind →
      IsItself settings roads batch (told_by lines) other rest behind
  good_is_judged other behind good =
      let same = block_of_one text lines (lines_of true batch.number other) rest behind block (good_block settings roads batch text other behind good) in
      let told : IsToldAs (vehicle_ids batch) batch.number other (told_by lines) =
      subst (λ (ls : List BlockLine). IsToldAs (vehicle_ids batch) batch.number other (told_by ls)) (sym same.0)
      (outcome_is_told (vehicle_ids batch) batch.number other good.fits.stops (outcome_trips settings roads batch other good.good)
      (outcome_numbered settings roads batch other kept good.good)) in
      record {
        same = sym told.same;
        after = sym same.1;
        meets = λ q. (
          told.number,
          subst (λ (o : Outcome). Meets settings roads batch o q) (sym told.same) (good_meets settings roads batch other good.good q),
          told.can q,
        );
      }

  -- where a point fails, the text begins with a wrong block
  pub begins_wrong : (p : Point) → IsVerdictOf (MeetsAs settings roads batch (told_by lines)) (Fails p) → BeginsWithWrong settings roads batch text p
  begins_wrong p fails = record { lines = lines; rest = rest; block = block; fails = fails }

  module _ (number : (told_by lines).batch ≡ batch.number) (can : (q : Point) → CanBeTold q (told_by lines)) where
    printed_is : lines ≡ lines_of true batch.number (judged_outcome (vehicle_ids batch) (told_by lines))
    printed_is = lines_are (vehicle_ids batch) lines block.begins.order block.ended can ∙ ap
        (λ (n : ℕ). lines_of true n (judged_outcome (vehicle_ids batch) (told_by lines))) number

    -- where all points hold, it is a good outcome whose block stands there
    pub begins_good : IsGoodOutcome settings roads batch (judged_outcome (vehicle_ids batch) (told_by lines)) →
        BeginsWithGood settings roads batch text (judged_outcome (vehicle_ids batch) (told_by lines)) rest
    begins_good good =
        let outcome : Outcome = judged_outcome (vehicle_ids batch) (told_by lines) in
        record {
          whole = block.begins.whole ∙ ap (λ (ls : List BlockLine). lines_text (map block_line_text ls) ++ rest) printed_is;
          fits = record {
            lines = subst (λ (ls : List BlockLine). All IsBlockLine ls) printed_is block.begins.lawful;
            stops =
                (judged_few (vehicle_ids batch) (told_by lines)).0;
          };
          good = good;
        }

    pub line_count : length lines ≡ length (block_lines true batch.number (judged_outcome (vehicle_ids batch) (told_by lines)))
    line_count = search (rules, vehicle_ids, printed_is, length-map)

-- a text that begins with no block in form begins with none of a good outcome
pub fault_no_good : (settings : Settings) (roads : Roads) (batch : Batch) (text : List ℕ) (found : BlockFault) (refusal : BlockRefusal) →
    BlockFails text found → refusal ≡ refusal_for found → refusal ≢ OutOfMemory
    → (other : Outcome) (behind : List ℕ) → BeginsWithGood settings roads batch text other behind → ⊥
fault_no_good settings roads batch text found refusal fails is some other behind good =
    block_no_fault text (lines_of true batch.number other) behind (good_block settings roads batch text other behind good) found
    (λ (e : found ≡ fault.OutOfMemory). some (is ∙ ap refusal_for e)) fails

-- where a point fails, there is no good outcome
pub wrong_no_good : (settings : Settings) (roads : Roads) (batch : Batch) → IsKept batch → (text : List ℕ) (p : Point) →
    BeginsWithWrong settings roads batch text p
    → (other : Outcome) (behind : List ℕ) → BeginsWithGood settings roads batch text other behind → ⊥
wrong_no_good settings roads batch kept text p wrong other behind good =
    wrong.fails.1 ((good_is_judged settings roads batch kept text wrong.lines wrong.rest wrong.block other behind good).meets p)

-- where another batch's number is told, or what no outcome can tell, there is no good outcome, by whatever settings and network
module _ (batch : Batch) (kept : IsKept batch) (text : List ℕ) (lines : List BlockLine) (rest : List ℕ) (block : IsBlock text lines rest) where
  pub other_number_no_good : (told_by lines).batch ≢ batch.number → (settings : Settings) (roads : Roads) (other : Outcome) (behind : List ℕ) →
      BeginsWithGood settings roads batch text other behind → ⊥
  other_number_no_good number settings roads other behind good =
      number ((good_is_judged settings roads batch kept text lines rest block other behind good).meets point.Answer).0

  pub untold_no_good : (p : Point) → IsVerdictOf (λ q. CanBeTold q (told_by lines)) (Fails p) → (settings : Settings) (roads : Roads) (other : Outcome)
      (behind : List ℕ) → BeginsWithGood settings roads batch text other behind → ⊥
  untold_no_good p fails settings roads other behind good =
      fails.1 ((good_is_judged settings roads batch kept text lines rest block other behind good).meets p).2

-- a text that begins with a good block isn't refused
pub good_not_refused : (settings : Settings) (roads : Roads) (batch : Batch) → IsKept batch → (text : List ℕ) (outcome : Outcome) (rest : List ℕ) →
    BeginsWithGood settings roads batch text outcome rest
    → (refusal : BlockRefusal) → refusal ≢ OutOfMemory → Refuses settings roads batch text refusal → ⊥
good_not_refused settings roads batch kept text outcome rest good OutOfMemory some is = some refl
good_not_refused settings roads batch kept text outcome rest good (Cut n) some is = fault_no_good settings roads batch text (fault.Cut n) (Cut n) is refl some
    outcome rest good
good_not_refused settings roads batch kept text outcome rest good (Form n) some is = fault_no_good settings roads batch text (fault.Form n) (Form n) is refl
    some outcome rest good
good_not_refused settings roads batch kept text outcome rest good (Wrong p) some wrong = wrong_no_good settings roads batch kept text p wrong outcome rest good

-- a text is refused for one cause
module _ (settings : Settings) (roads : Roads) (batch : Batch) (text : List ℕ) where
  not_before : (p q : Point) → BeginsWithWrong settings roads batch text p → BeginsWithWrong settings roads batch text q → point_place p < point_place q → ⊥
  not_before p q one two less =
      let same = (block_of_one text one.lines two.lines one.rest two.rest one.block two.block).0 in
      one.fails.1 (subst (λ (ls : List BlockLine). MeetsAs settings roads batch (told_by ls) p) (sym same) (two.fails.0 p less))

  one_wrong : (p q : Point) → BeginsWithWrong settings roads batch text p → BeginsWithWrong settings roads batch text q → p ≡ q
  one_wrong p q one two =
      let n : ℕ = point_place p in let m : ℕ = point_place q in
      same_place p q
      (⊎_elim (λ (less : n < m). absurd (not_before p q one two less))
      (λ (high : m ≤ n). ⊎_elim (λ (more : m < n). absurd (not_before q p two one more)) (λ (low : n ≤ m). let e : n ≡ m = omega (arith, high, low) in e)
      (cases_lt m n)) (cases_lt n m))

  one_of_fault : (f : BlockFault) → f ≢ fault.OutOfMemory → BlockFails text f → (s : BlockRefusal) → s ≢ OutOfMemory → Refuses settings roads batch text s →
      refusal_for f ≡ s
  one_of_fault f some fails OutOfMemory other b = absurd (other refl)
  one_of_fault f some fails (Cut m) other b = ap refusal_for (one_fault text f (fault.Cut m) some (λ h. cc) fails b)
  one_of_fault f some fails (Form m) other b = ap refusal_for (one_fault text f (fault.Form m) some (λ h. cc) fails b)
  one_of_fault f some fails (Wrong m) other wrong = absurd (block_no_fault text wrong.lines wrong.rest wrong.block f some fails)

  pub one_refusal : (r s : BlockRefusal) → r ≢ OutOfMemory → s ≢ OutOfMemory → Refuses settings roads batch text r → Refuses settings roads batch text s → r ≡ s
  one_refusal OutOfMemory s some other a b = absurd (some refl)
  one_refusal (Cut n) s some other a b = one_of_fault (fault.Cut n) (λ h. cc) a s other b
  one_refusal (Form n) s some other a b = one_of_fault (fault.Form n) (λ h. cc) a s other b
  one_refusal (Wrong n) OutOfMemory some other a b = absurd (other refl)
  one_refusal (Wrong n) (Cut m) some other a b = sym (one_of_fault (fault.Cut m) (λ h. cc) b (Wrong n) some a)
  one_refusal (Wrong n) (Form m) some other a b = sym (one_of_fault (fault.Form m) (λ h. cc) b (Wrong n) some a)
  one_refusal (Wrong n) (Wrong m) some other a b = ap Wrong (one_wrong n m a b)
