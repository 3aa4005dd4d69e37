-- A head fails in one way.
use Rattle.std.proofs.Common.{◌≡◌, ℕ, ◌+◌, ◌<◌, ◌^◌, true, List, [], ◌∷◌, inl, inr, sym, ap, ◌∙◌, subst}
use Rattle.report_audit.proofs.Common.{
  is_one_line,
  HeadLine,
  HasForm,
  FitsLine,
  HeadFails,
  LineFails,
  LinesFail,
  head_lines,
  sizes_of,
  AreSizes,
  IsFirstLine,
  HeadFault,
  Roads,
}
use Rattle.report_audit.proofs.lemmas.lines.OneBlock.{no_one_line}
use Rattle.std.specs.List.{AllByRecursion}
use Rattle.report_audit.specs.declared.lines.head_fault.HeadFault.TheVariants.{Cut, Form, Head}
use Rattle.report_audit.proofs.lemmas.lines.LineLemmas.{first_once, line_no_fault, said_behind}

-- a line that fits has its form
abbrev FitsInForm : HeadLine → Type 0
FitsInForm form = (line : List ℕ) → FitsLine form line → HasForm form line

module _ (form : HeadLine) (number : ℕ) (text : List ℕ) where
  stands : (line rest : List ℕ) → IsFirstLine text line rest → is_one_line text ≡ true → ⊥
  stands line rest has cut = no_one_line line rest (subst (λ t. is_one_line t ≡ true) has.whole cut)

  -- a line fails in one way
  line_fails_once : (f g : HeadFault) → LineFails form number text f → LineFails form number text g → f ≡ g
  line_fails_once (Cut n) (Cut m) a b = ap Cut (a.0 ∙ sym b.0)
  line_fails_once (Form n) (Form m) a b = ap Form (a.0 ∙ sym b.0)
  line_fails_once (Head n) (Head m) a b = ap Head (a.0 ∙ sym b.0)
  line_fails_once (Form n) (Head m) a b = absurd (a.4 (subst (HasForm form) (sym (first_once text a.1 b.1 a.2 b.2 a.3 b.3).0) b.4))
  line_fails_once (Head n) (Form m) a b = absurd (b.4 (subst (HasForm form) (first_once text a.1 b.1 a.2 b.2 a.3 b.3).0 a.4))
  line_fails_once (Cut n) g a b = absurd (stands b.1 b.2 b.3 a.1)
  line_fails_once f (Cut m) a b = absurd (stands a.1 a.2 a.3 b.1)

-- lines fail in one way
lines_fail_once : (forms : List HeadLine) (number : ℕ) (text : List ℕ) (f g : HeadFault) → AllByRecursion FitsInForm forms → LinesFail forms number text f →
    LinesFail forms number text g → f ≡ g
lines_fail_once [] number text f g low a b = absurd a
lines_fail_once (form ∷ forms) number text f g low (inl a) (inl b) = line_fails_once form number text f g a b
lines_fail_once (form ∷ forms) number text f g low (inl a) (inr (rest, (line, has, fits), fails)) =
    absurd (line_no_fault form number text f a line rest has (low.0 line fits) fits)
lines_fail_once (form ∷ forms) number text f g low (inr (rest, (line, has, fits), fails)) (inl b) =
    absurd (line_no_fault form number text g b line rest has (low.0 line fits) fits)
lines_fail_once (form ∷ forms) number text f g low (inr (rest, (line, has, fits), fails)) (inr (other, (first, stands_first, fits_too), fails_too)) =
    lines_fail_once forms (number + 1) rest f g low.1 fails (said_behind (λ t. LinesFail forms (number + 1) t g) text line first rest other has stands_first
    fails_too)

pub head_fails_once : (roads : Roads) (vehicles : ℕ) → AreSizes (sizes_of roads) → vehicles < 2 ^ 64 → (text : List ℕ) (f g : HeadFault) →
    HeadFails roads vehicles text f → HeadFails roads vehicles text g → f ≡ g
head_fails_once roads vehicles few few_vehicles text f g =
    lines_fail_once (head_lines (sizes_of roads) vehicles) 1 text f g
    (λ line fits. fits, (λ line fits. (fits.0, fits.1, fits.3), (λ line fits. (sizes_of roads, few, fits), (λ line fits. (vehicles, few_vehicles, fits), tt))))
