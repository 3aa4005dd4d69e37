use Rattle.std.specs.Prelude.{◌≡◌, ℕ, List, [], ◌∷◌}
use Rattle.request_book.specs.declared.values.journal.Entry.{Entry}
use Rattle.request_book.specs.declared.values.state.State.{State}
use Rattle.request_book.specs.register.Step.{step}

-- the state after the commands of these entries
unfoldable pub state_after : List ℕ → ℕ → State → List Entry → State
state_after nodes wait s [] = s
state_after nodes wait s (e ∷ es) = state_after nodes wait (step nodes wait s e.command).0 es

-- each reply is the step's in the state that the entries before it leave
unfoldable pub RepliesAreSteps : List ℕ → ℕ → State → List Entry → Type 0
RepliesAreSteps nodes wait s [] = Unit {0}
RepliesAreSteps nodes wait s (e ∷ es) = (e.reply ≡ (step nodes wait s e.command).1) × RepliesAreSteps nodes wait (step nodes wait s e.command).0 es
