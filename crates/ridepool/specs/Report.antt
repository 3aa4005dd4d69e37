-- What a call that makes rounds writes, and what its riders are told.
use Rattle.std.specs.Prelude.{◌≡◌, ℕ, ◌<◌, List, [], ◌∷◌, ◌++◌, length, map, take, Option}
use Rattle.std.specs.Io.KnownBytes.{Appends}
use Rattle.std.specs.List.{flat_map}
use Rattle.dispatch_engine.specs.lanes.Run.{IsRun}
use Rattle.pool_io.specs.Faults.{Rose}
use Rattle.pool_io.specs.Sink.{AppendsPart}
use Rattle.request_book.specs.Book.{opening}
use Rattle.request_book.specs.declared.values.journal.Journal.{Journal}
use Rattle.rider_limits.specs.declared.settings.Settings.{Settings}
use Rattle.request_book.specs.notices.Notices.{notices}
use Rattle.request_book.specs.notices.Told.{NotifierView, HaveHeard}
use Rattle.request_book.specs.declared.notices.notice.Notice.{Notice}
use Rattle.road_network.specs.Roads.{Roads}
use Rattle.route_drive.specs.declared.day_run.DayRound.{DayRound}
use Rattle.input_rows.specs.script.Round.{NumberedLanes}
use Rattle.ridepool.specs.Inputs.{Inputs}
use Rattle.ridepool.specs.CallView.{CallView}
use Rattle.ridepool.specs.declared.status.RunStatus.{RunStatus}
use Rattle.ridepool.specs.declared.status.RunStatus.TheVariants.{Done, WriteFault, OutOfMemory}

-- the journals of rounds that were made
abbrev pub journals_of : List DayRound → List Journal
journals_of made = map (λ r. r.journal) made

-- what was made is a run of these rounds, from an empty book with all vehicles as the fleet gives them
pub record RunsRounds (i : Inputs) (rounds : List NumberedLanes) (made : List DayRound) : Type 0 where
  pub numbers : map (λ r. r.number) made ≡ map (λ r. r.number) rounds
  pub run : IsRun i.settings i.roads (opening i.vehicles) 0 rounds (journals_of made)

-- the notices of rounds, one after the other
abbrev pub rounds_notices : Settings → Roads → List DayRound → List Notice
rounds_notices settings roads made = flat_map (λ r. notices roads.nodes settings.wait r.journal) made

-- the bytes written have grown by a text, and by a beginning of another that isn't the whole
abbrev pub AppendsWithPart : Option (List ℕ) → Option (List ℕ) → List ℕ → List ℕ → Type 0
AppendsWithPart before after text next = (count : ℕ) × (count < length next) × Appends before after (text ++ take count next)

-- the first lines, and what these rounds add, one after the other
abbrev pub begun_text : (DayRound → List ℕ) → List ℕ → List DayRound → List ℕ
begun_text added head made = head ++ flat_map added made

-- what stands of a text of these first lines, to which each round adds its own, where some rounds are its first, and some are all
-- with their last lines
module _ (settings : Settings) (roads : Roads) (added : DayRound → List ℕ) (head : List ℕ) (AreFirstRounds : List DayRound → Type 0) (AreAllRoundsWith : List DayRound → List ℕ → Type 0) where
  -- all is written, and each notifier that is left was told its notices
  pub record IsWhole (before after : Option (List ℕ)) (notifiers left : List NotifierView) : Type 0 where
    pub made : List DayRound
    pub end : List ℕ
    pub all : AreAllRoundsWith made end
    pub text : Appends before after (begun_text added head made ++ end)
    pub told : HaveHeard (rounds_notices settings roads made) notifiers left

  -- it ends within the first lines, a round's text or the last lines, and the rounds before that are written whole and were
  -- told
  pub data IsCutShort (before after : Option (List ℕ)) (notifiers left : List NotifierView) : Type 0 where
    first_lines : AppendsPart before after head → left ≡ notifiers → IsCutShort before after notifiers left
    round : (made : List DayRound) (next : DayRound) → AreFirstRounds (made ++ next ∷ [])
        → AppendsWithPart before after (begun_text added head made) (added next)
        → HaveHeard (rounds_notices settings roads made) notifiers left → IsCutShort before after notifiers left
    last_lines : (made : List DayRound) (end : List ℕ) → AreAllRoundsWith made end
        → AppendsWithPart before after (begun_text added head made) end
        → HaveHeard (rounds_notices settings roads made) notifiers left → IsCutShort before after notifiers left

  -- or it ends behind a round, whose notices were told or not
  pub data IsPart (before after : Option (List ℕ)) (notifiers left : List NotifierView) : Type 0 where
    cut : IsCutShort before after notifiers left → IsPart before after notifiers left
    rounds : (made : List DayRound) → AreFirstRounds made → Appends before after (begun_text added head made)
        → HaveHeard (rounds_notices settings roads made) notifiers left → IsPart before after notifiers left
    untold : (made : List DayRound) (last : DayRound) → AreFirstRounds (made ++ last ∷ []) → Appends before after (begun_text added head (made ++ last ∷ []))
        → HaveHeard (rounds_notices settings roads made) notifiers left → IsPart before after notifiers left

  -- how a call ends that writes the text: it is whole, a write failed, or there was no memory
  pub data EndsText (seen : CallView) : RunStatus → Type 0 where
    written : IsWhole seen.out.before.written seen.out.after.written seen.notifiers.before seen.notifiers.after → EndsText seen Done
    failed : Rose seen.out.before.faults seen.out.after.faults
        → IsCutShort seen.out.before.written seen.out.after.written seen.notifiers.before seen.notifiers.after → EndsText seen WriteFault
    unstored : IsPart seen.out.before.written seen.out.after.written seen.notifiers.before seen.notifiers.after → EndsText seen OutOfMemory
