-- The first line of a text, and what fails of it.
use Rattle.std.proofs.Common.{◌≡◌, ℕ, true, List, [], ◌∷◌, ◌++◌, sym, ◌∙◌, subst, append_assoc}
use Rattle.report_audit.proofs.Common.{HeadLine, HasForm, FitsLine, LineFails, IsFirstLine, HeadFault, is_one_line}
use Rattle.report_audit.specs.declared.lines.head_fault.HeadFault.TheVariants.{Cut, Form, Head}
use Rattle.report_audit.proofs.lemmas.lines.OneBlock.{cut_once, no_one_line}

-- a text has one first line
pub first_once : (text a b r s : List ℕ) → IsFirstLine text a r → IsFirstLine text b s → (a ≡ b) × (r ≡ s)
first_once text a b r s ia ib = cut_once a b r s ia.one ib.one (sym ia.whole ∙ ib.whole)

-- what is said of what follows the first line
pub said_behind : (P : List ℕ → Type 0) (text a b r s : List ℕ) → IsFirstLine text a r → IsFirstLine text b s → P s → P r
said_behind P text a b r s ia ib p = subst P (sym (first_once text a b r s ia ib).1) p

-- a line that fits doesn't fail
pub line_no_fault : (form : HeadLine) (number : ℕ) (text : List ℕ) (fault : HeadFault) → LineFails form number text fault → (line rest : List ℕ) →
    IsFirstLine text line rest → HasForm form line → FitsLine form line → ⊥
line_no_fault form number text (Cut n) fails line rest is has_form fits = no_one_line line rest (subst (λ t. is_one_line t ≡ true) is.whole fails.1)
line_no_fault form number text (Form n) (at, first, behind, has, other) line rest is has_form fits =
    other (subst (HasForm form) (first_once text line first rest behind is has).0 has_form)
line_no_fault form number text (Head n) (at, first, behind, has, its_form, other) line rest is has_form fits =
    other (subst (FitsLine form) (first_once text line first rest behind is has).0 fits)

-- a line, and the lines that follow it
pub line_more : (a ys rest : List ℕ) → ((a ++ 10 ∷ []) ++ ys) ++ rest ≡ a ++ 10 ∷ (ys ++ rest)
line_more a ys rest = append_assoc (a ++ 10 ∷ []) ys rest ∙ append_assoc a (10 ∷ []) (ys ++ rest)
