-- What is held of a day until it is driven to its end.
use Rattle.std.specs.Prelude.{◌≡◌, Bool, true, List, length}
use Rattle.std.specs.List.{AllZip}
use Rattle.rider_limits.specs.declared.settings.Settings.{Settings}
use Rattle.request_book.specs.notices.Notices.{notices}
use Rattle.road_network.specs.Roads.{Roads}
use Rattle.route_drive.specs.declared.day_run.DayRound.{DayRound}
use Rattle.ridepool.specs.declared.held_day.HeldRound.{HeldRound}
use Rattle.ridepool.specs.work.Writing.{added_by}

-- of a round are held its text, its notices where anybody is told any, and how many entries it has
pub record HoldsRound (settings : Settings) (roads : Roads) (told : Bool) (made : DayRound) (held : HeldRound) : Type 0 where
  pub text : held.text.items ≡ added_by settings made
  pub notices : told ≡ true → held.notices.items ≡ notices roads.nodes settings.wait made.journal
  pub entries : held.entries ≡ length made.journal.entries

-- the same of all rounds
abbrev pub HoldsRounds : Settings → Roads → Bool → List DayRound → List HeldRound → Type 0
HoldsRounds settings roads told made held = AllZip (HoldsRound settings roads told) made held
