-- A text ends at a place for one cause.
use Rattle.std.proofs.Common.{◌≡◌, ◌≢◌, ℕ, true, List, [], ◌∷◌, ◌++◌, refl, sym, ap, ◌∙◌, subst, rules}
use Rattle.report_audit.proofs.Common.{
  BlockRefusal,
  Extent,
  IsInForm,
  MayFollow,
  position_behind,
  IsCut,
  IsOutOfForm,
  IsWrongBatch,
  IsWrongLine,
  is_one_line,
  IsFirstLine,
  Settings,
  Roads,
}
use Rattle.report_audit.proofs.lemmas.lines.OneBlock.{no_one_line}
use Rattle.report_audit.proofs.lemmas.block.AuditLemmas.{one_refusal}
use Rattle.report_audit.proofs.lemmas.lines.LineLemmas.{first_once}
use Rattle.report_audit.specs.declared.lines.next.NextLine.TheVariants.{Entry as EntryOf}
use Rattle.report_audit.specs.declared.block.refusal.BlockRefusal.TheVariants as refusal

-- why a text goes on no further: it is over, or what stands next is wrong in this way
pub data Cause : Type 0 where
  Over : Cause
  Cut : Cause
  Form : Cause
  Wrong : Cause
  Block : BlockRefusal → Cause

-- a text ends for this cause at a place up to which all is right
abbrev pub Ends : Cause → Settings → Roads → Extent → List ℕ → Type 0
Ends Over settings roads place text = (place ≡ Extent.finished) × (text ≡ [])
Ends Cut settings roads place text = IsCut place text
Ends Form settings roads place text = IsOutOfForm place text
Ends Wrong settings roads place text = IsWrongLine settings roads place text
Ends (Block refused) settings roads place text = IsWrongBatch refused settings roads place text

-- where a line stands first, the text isn't empty, nor cut
no_line : (text line after : List ℕ) → IsFirstLine text line after → text ≡ [] → ⊥
no_line text [] after has none = let e : [] ≡ 10 ∷ after = sym none ∙ has.whole in cc
no_line text (c ∷ cs) after has none = let e : [] ≡ c ∷ (cs ++ 10 ∷ after) = sym none ∙ has.whole in cc

cut_line : (place : Extent) (text line after : List ℕ) → IsFirstLine text line after → IsCut place text → ⊥
cut_line Extent.finished text line after has cut = no_one_line line after (subst (λ t. is_one_line t ≡ true) has.whole cut.0)
cut_line _ text line after has cut = no_one_line line after (subst (λ t. is_one_line t ≡ true) has.whole cut)

module _ (settings : Settings) (roads : Roads) where
  -- the line that stands first may stand there
  pub record Stands (place : Extent) (text : List ℕ) : Type 0 where
    pub line : List ℕ
    pub after : List ℕ
    pub has : IsFirstLine text line after
    pub form : IsInForm place line
    pub follow : MayFollow settings roads place line

  -- then a text ends at a block alone
  pub stands_end : (place : Extent) (text : List ℕ) → Stands place text → (cause : Cause) → Ends cause settings roads place text →
      (refused : BlockRefusal) × (cause ≡ Block refused) × IsWrongBatch refused settings roads place text
  stands_end place text s Over ends = absurd (no_line text s.line s.after s.has ends.1)
  stands_end place text s Cut ends = absurd (cut_line place text s.line s.after s.has ends)
  stands_end place text s Form ends = absurd (ends.3 (subst (IsInForm place) (sym (first_once text ends.0 s.line ends.1 s.after ends.2 s.has).0) s.form))
  stands_end place text s Wrong ends = absurd
      (ends.4 (subst (MayFollow settings roads place) (sym (first_once text ends.0 s.line ends.1 s.after ends.2 s.has).0) s.follow))
  stands_end place text s (Block refused) ends = (refused, refl, ends)

  block_stands : (place : Extent) (text : List ℕ) (refused : BlockRefusal) → IsWrongBatch refused settings roads place text → Stands place text
  block_stands (Extent.within round j) text refused wrong =
      record {
        line = wrong.line;
        after = wrong.after;
        has = wrong.has;
        form = (
          EntryOf wrong.closing.lane,
          (position_behind j, wrong.closing, wrong.comes.line, refl, wrong.line_is),
        );
        follow = (wrong.closing, wrong.comes, wrong.line_is);
      }
  block_stands _ text refused wrong = absurd wrong

  one_block : (place : Extent) (text : List ℕ) (one other : BlockRefusal) → one ≢ refusal.OutOfMemory → other ≢ refusal.OutOfMemory →
      IsWrongBatch one settings roads place text → IsWrongBatch other settings roads place text → one ≡ other
  one_block (Extent.within round j) text one other known also a b =
      search (rules, first_once text a.line b.line a.after b.after a.has b.has, one_refusal settings roads b.batch b.after one other)
  one_block _ text one other known also a b = absurd a

  -- a text ends at a place for one cause
  pub one_cause : (place : Extent) (text : List ℕ) (one other : Cause) → one ≢ Block refusal.OutOfMemory → other ≢ Block refusal.OutOfMemory →
      Ends one settings roads place text → Ends other settings roads place text → one ≡ other
  one_cause place text Over Over known also a b = refl
  one_cause place text Cut Cut known also a b = refl
  one_cause place text Form Form known also a b = refl
  one_cause place text Wrong Wrong known also a b = refl
  one_cause place text (Block r) (Block q) known also a b = ap Block (one_block place text r q (λ e. known (ap Block e)) (λ e. also (ap Block e)) a b)
  one_cause place text Over Cut known also a b = absurd ((subst (λ p. IsCut p text) a.0 b).1 a.1)
  one_cause place text Cut Over known also a b = absurd ((subst (λ p. IsCut p text) b.0 a).1 b.1)
  one_cause place text Form Wrong known also a b = absurd (a.3 (subst (IsInForm place) (first_once text b.0 a.0 b.1 a.1 b.2 a.2).0 b.3))
  one_cause place text Wrong Form known also a b = absurd (b.3 (subst (IsInForm place) (first_once text a.0 b.0 a.1 b.1 a.2 b.2).0 a.3))
  one_cause place text one (Block r) known also a b = absurd (let e = (stands_end place text (block_stands place text r b) one a).1 in cc)
  one_cause place text (Block r) other known also a b = absurd (let e = (stands_end place text (block_stands place text r a) other b).1 in cc)
  one_cause place text one other known also a b = absurd (search (rules, no_line text, cut_line place text))
