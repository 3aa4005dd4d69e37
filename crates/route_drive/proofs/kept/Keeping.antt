-- What entries keep, gathered one by one.
use Rattle.std.proofs.lemmas.Bool.Decides.{nat_tests}
use Rattle.std.proofs.Common.{ℕ, arith, cond, List, [], ◌∷◌, ◌++◌, All, rules}
use Rattle.route_drive.proofs.Common.{
  All-nil,
  All-cons,
  HasSeats,
  state_after,
  step,
  Command,
  Report,
  Entry,
  PlannedStop,
  Reply,
  Placed,
  Picked,
  Dropped,
  State,
  Settings,
  Roads,
  stop_command,
  EntryKeeps,
  EntriesKeep,
  IsPickedBy,
  StateKeeps,
  IsBound,
  IsDayState,
  IsDone,
  IsRightStop,
  KeepsBounds,
}

-- what one entry keeps, and what it leaves to those after it
pub record OneKeeps (settings : Settings) (roads : Roads) (s : State) (command : Command) (reply : Reply) : Type 0 where
  pub entry : EntryKeeps settings roads s command reply
  pub seats : All HasSeats s.vehicles
  pub by : (rider limit : ℕ) → IsBound s rider limit → IsPickedBy rider limit command
  pub bounds : KeepsBounds s (step roads.nodes settings.wait s command).0

module _ (settings : Settings) (roads : Roads) where
  abbrev pub AllKeep : State → List Entry → Type 0
  AllKeep s [] = Unit {0}
  AllKeep s (e ∷ es) = OneKeeps settings roads s e.command e.reply × AllKeep (step roads.nodes settings.wait s e.command).0 es

  pub all_append : (es fs : List Entry) (s : State) → AllKeep s es → AllKeep (state_after roads.nodes settings.wait s es) fs → AllKeep s (es ++ fs)
  unfolding state_after
  all_append [] fs s one two = two
  all_append (e ∷ es) fs s one two = (one.0, all_append es fs (step roads.nodes settings.wait s e.command).0 one.1 two)

  -- whose pickup is bound is picked up by then
  picked_by : (es : List Entry) (s : State) (rider limit : ℕ) → IsBound s rider limit → AllKeep s es → All (λ (e : Entry). IsPickedBy rider limit e.command) es
  picked_by [] s rider limit bound all = All-nil (λ (e : Entry). IsPickedBy rider limit e.command)
  picked_by (e ∷ es) s rider limit bound all =
      All-cons (λ (e : Entry). IsPickedBy rider limit e.command) e es (all.0.by rider limit bound)
      (picked_by es (step roads.nodes settings.wait s e.command).0 rider limit (all.0.bounds rider limit bound) all.1)

  state_keeps : (es : List Entry) (s : State) → All HasSeats s.vehicles → AllKeep s es → StateKeeps s es
  state_keeps es s seats all = grind (arith, nat_tests, (picked_by es s))

  pub entries_keep : (es : List Entry) (s : State) → AllKeep s es → All HasSeats (state_after roads.nodes settings.wait s es).vehicles →
      EntriesKeep settings roads s es
  unfolding state_after
  entries_keep [] s all seats = state_keeps [] s seats tt
  entries_keep (e ∷ es) s all seats = (
    all.0.entry,
    state_keeps (e ∷ es) s all.0.seats all,
    entries_keep es (step roads.nodes settings.wait s e.command).0 all.1
        seats,
  )

  pub stop_one : (s : State) (v vehicle node time free : ℕ) (stop : PlannedStop) (stops : List PlannedStop) → IsDayState roads s →
      IsRightStop settings roads s.riders v stop
      → IsDone settings roads s (stop_command v stop) (cond stop.pick Picked Dropped) vehicle node time free stops
      → OneKeeps settings roads s (stop_command v stop) (step roads.nodes settings.wait s (stop_command v stop)).1
  stop_one s v vehicle node time free stop stops day own done = search rules

  pub report_one : (s : State) (v at second vehicle node time free : ℕ) (stops : List PlannedStop) → IsDayState roads s →
      IsDone settings roads s (Report v at second) Placed vehicle node time free stops
      → OneKeeps settings roads s (Report v at second) (step roads.nodes settings.wait s (Report v at second)).1
  report_one s v at second vehicle node time free stops day done = search rules
