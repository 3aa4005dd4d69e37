-- A fault, said where the rest of a report begins.
use Rattle.std.proofs.Common.{◌≡◌, ℕ, ◌-◌, true, List, [], ◌∷◌, ◌++◌, length, take, ◌+◌, ◌==◌, count_by, refl, ap, ◌∙◌, length-append, arith}
use Rattle.report_audit.proofs.Common.{
  Vehicle,
  AreSettingsOf,
  IsNextLine,
  NextLine,
  IsFirstLine,
  Settings,
  Roads,
  NumberedLanes,
  FailsAt,
  IsCut,
  IsOutOfForm,
  FailsAsLine,
  HasFault,
  HeadFails,
  HeadFault,
  fault_of_head,
  IsWrongLine,
  Extent,
  IsInForm,
  IsRightUpTo,
  IsFaultAt,
  IsOpen,
  OnlyFollows,
  is_one_line,
  line_left,
}
use Rattle.report_audit.proofs.lemmas.lines.NextLemmas.{one_kind}
use Rattle.report_audit.specs.declared.lines.next.NextLine.TheVariants.{Entry as EntryOf}
use Rattle.report_audit.specs.declared.lines.head_fault.HeadFault.TheVariants as head
use Rattle.report_audit.specs.declared.report.fault.AuditFault.TheVariants as fault

take_front : (xs ys : List ℕ) → take (length xs) (xs ++ ys) ≡ xs
take_front [] ys = refl
take_front (x ∷ xs) ys = ap (λ (zs : List ℕ). x ∷ zs) (take_front xs ys)

-- the line that begins where so much is left
line_is : (report read rest : List ℕ) → report ≡ read ++ rest → line_left report rest ≡ count_by (λ c. c == 10) read + 1
line_is report read rest whole =
    let count : length report - length rest ≡ length read = omega (arith, ap length whole, length-append read rest) in
    ap (λ (t : List ℕ). count_by (λ c. c == 10) t + 1) ((λ i. take (count i) (whole i)) ∙ take_front read rest)

module _ (settings : Settings) (roads : Roads) (report rest : List ℕ) (place : Extent) (line : ℕ) (at : line ≡ line_left report rest) where
  pub fails_at : (Fails : Settings → Roads → Extent → List ℕ → Type 0) → Fails settings roads place rest →
      (vehicles : List Vehicle) (rounds : List NumberedLanes) (workers : ℕ) (read : List ℕ) → AreSettingsOf workers settings
      → report ≡ read ++ rest → IsRightUpTo settings roads vehicles rounds place read → FailsAt roads vehicles rounds workers report Fails line
  fails_at Fails fails vehicles rounds workers read of whole right = record {
    settings = settings;
    audited = of;
    place = place;
    read = read;
    rest = rest;
    whole = whole;
    right = right;
    line_is = at ∙ line_is report read rest whole;
    fails = fails;
  }

  pub cut_here : IsCut place rest → IsFaultAt settings roads report place rest (fault.Cut line)
  cut_here cut = λ vehicles rounds workers read of whole right. FailsAsLine.behind (fails_at (λ s r p t. IsCut p t) cut vehicles rounds workers read of whole
      right)

  pub form_here : IsOutOfForm place rest → IsFaultAt settings roads report place rest (fault.Form line)
  form_here form = λ vehicles rounds workers read of whole right. FailsAsLine.behind (fails_at (λ s r p t. IsOutOfForm p t) form vehicles rounds workers read of
      whole right)

-- where a line must follow, there is none, or one that has the form of none between blocks
pub open_cut : (place : Extent) (rest : List ℕ) → IsOpen place → is_one_line rest ≡ true → IsCut place rest
open_cut (Extent.between before later position) rest tt cut = cut
open_cut (Extent.within round j) rest tt cut = cut
open_cut Extent.finished rest none cut = absurd none

pub open_form : (place : Extent) (rest line after : List ℕ) → IsOpen place → IsFirstLine rest line after → ((x : NextLine) → IsNextLine x line → ⊥) →
    IsOutOfForm place rest
open_form (Extent.between [] later position) rest line after is has none = (line, after, has, λ f. none f.0 f.1)
open_form (Extent.between (r ∷ rs) later position) rest line after is has none = (line, after, has, λ f. none f.0 f.1)
open_form (Extent.within round j) rest line after is has none = (line, after, has, λ f. none f.0 f.1)
open_form Extent.finished rest line after none has other = absurd none

-- between rounds a line is in form, but for an entry's before the first
pub entry_form : (before later : List NumberedLanes) (position : ℕ) (rest line after : List ℕ) (lane : ℕ) → before ≡ [] → IsFirstLine rest line after →
    IsNextLine (EntryOf lane) line → IsOutOfForm (Extent.between before later position) rest
entry_form [] later position rest line after lane none has is = (line, after, has, λ f. f.2 lane (one_kind f.0 (EntryOf lane) line f.1 is))
entry_form (r ∷ rs) later position rest line after lane none has is = absurd cc

pub in_form : (before later : List NumberedLanes) (position : ℕ) (line : List ℕ) (x : NextLine) → (before ≡ [] → (lane : ℕ) → x ≡ EntryOf lane → ⊥) →
    IsNextLine x line → IsInForm (Extent.between before later position) line
in_form [] later position line x early is = (x, is, early refl)
in_form (r ∷ rs) later position line x early is = (x, is)

-- another line than the one that may follow
pub other_line : (settings : Settings) (roads : Roads) (before later : List NumberedLanes) (position : ℕ) (expected : NextLine) (rest line after : List ℕ)
    (x : NextLine) → OnlyFollows expected later position
    → (before ≡ [] → (lane : ℕ) → x ≡ EntryOf lane → ⊥) → IsFirstLine rest line after → IsNextLine x line → (x ≡ expected → ⊥) →
    IsWrongLine settings roads (Extent.between before later position) rest
other_line settings roads before later position expected rest line after x only early has is other =
    (line, after, has, in_form before later position line x early is, λ follow. other (one_kind x expected line is (only settings roads before line follow)))

-- a fault of the head
pub head_fault : (roads : Roads) (vehicles : List Vehicle) (rounds : List NumberedLanes) (workers : ℕ) (text : List ℕ) (found : HeadFault) →
    HeadFails roads (length vehicles) text found
    → HasFault roads vehicles rounds workers text (fault_of_head found)
head_fault roads vehicles rounds workers text (head.Cut n) fails = FailsAsLine.in_head fails
head_fault roads vehicles rounds workers text (head.Form n) fails = FailsAsLine.in_head fails
head_fault roads vehicles rounds workers text (head.Head n) fails = fails
