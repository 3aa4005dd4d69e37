use Rattle.std.specs.Prelude.{ℕ, List, Option, map}
use Rattle.request_book.specs.notices.Told.{NotifierView}
use Rattle.request_book.specs.declared.notices.notice.Notice.{Notice}
use Rattle.request_book.specs.declared.notices.notifier.Notifier.{Ghosts}

-- a notifier, by what its type tells of it
abbrev pub notifier_seen : {N : Type 0} → Ghosts N → N → NotifierView
notifier_seen of n = record { told = of.told n; faults = of.faults n; steady = of.steady n }

-- notifiers of one type, by what it tells of each
abbrev pub notifiers_seen : {N : Type 0} → (N → Option (List Notice)) → (N → ℕ) → (N → ℕ) → List N → List NotifierView
notifiers_seen told faults steady ns = map (λ n. record { told = told n; faults = faults n; steady = steady n }) ns
