-- What notifiers were told.
use Rattle.std.specs.Prelude.{◌≡◌, ℕ, ◌+◌, ◌<◌, ◌≤◌, List, [], ◌∷◌, ◌++◌, length, Option, None, Some, Result, MatchResult}
use Rattle.request_book.specs.declared.notices.notice.Notice.{Notice}

-- the notices told have grown by these, where they are shown
abbrev pub HasTold : Option (List Notice) → Option (List Notice) → List Notice → Type 0
HasTold None after notices = Unit {0}
HasTold (Some before) None notices = ⊥
HasTold (Some before) (Some after) notices = after ≡ before ++ notices

-- a call told its notice, or failed and told nothing
abbrev pub Hears : {E : Type 0} → Option (List Notice) → Option (List Notice) → Result (Unit {0}) E → Notice → Type 0
Hears before after result notice = MatchResult result (λ _. HasTold before after (notice ∷ [])) (λ _. HasTold before after [])

-- what a notifier shows: the notices told, if it shows them; how many calls have failed; a number of calls
-- that are sure to succeed
pub record NotifierView : Type 0 where
  pub told : Option (List Notice)
  pub faults : ℕ
  pub steady : ℕ

-- a notifier was told these notices, in order, without a fault, and has become less sure by no more than these
pub record HasHeard (notices : List Notice) (before after : NotifierView) : Type 0 where
  pub told : HasTold before.told after.told notices
  pub faults : after.faults ≡ before.faults
  pub steady : before.steady ≤ after.steady + length notices

-- of these notifiers those that are left, in their order, were told these notices; one that isn't left was
-- sure of fewer calls
pub data HaveHeard (notices : List Notice) : List NotifierView → List NotifierView → Type 0 where
  none : HaveHeard notices [] []
  kept : (before after : NotifierView) (others left : List NotifierView) → HasHeard notices before after → HaveHeard notices others left
      → HaveHeard notices (before ∷ others) (after ∷ left)
  dropped : (before : NotifierView) (others left : List NotifierView) → before.steady < length notices → HaveHeard notices others left
      → HaveHeard notices (before ∷ others) left
