-- A notifier in memory.
use Rattle.std.specs.Prelude.{ℕ, ◌-◌, List, [], ◌∷◌, min, nat_le, if◌then◌else◌}
use Rattle.request_book.specs.declared.notices.notice.Notice.{Notice}

-- what a notifier in memory shows: the notices told, for how many more there is room, the numbers of the
-- calls that fail, how many calls there were, and how many failed
pub record Inbox : Type 0 where
  pub told : List Notice
  pub room : ℕ
  pub fail : List ℕ
  pub calls : ℕ
  pub faults : ℕ

-- how many calls there are from this one on before one that is to fail, at most `most`
abbrev pub calls_before : ℕ → List ℕ → ℕ → ℕ
calls_before most [] call = most
calls_before most (f ∷ fs) call = if nat_le call f then min (f - call) (calls_before most fs call) else calls_before most fs call

-- the calls that are sure to succeed: the free room, or the calls before the next that is to fail, if fewer
abbrev pub steady_of : Inbox → ℕ
steady_of n = calls_before n.room n.fail n.calls
