-- A run goes on behind what journals tell.
use Rattle.std.proofs.Common.{◌≡◌, ℕ, Bool, List, [], ◌∷◌, ◌++◌, refl, sym, ap, ◌∙◌, append_assoc}
use Rattle.std.proofs.lemmas.List.Elements.{All-head, All-tail}
unfoldable use Rattle.dispatch_engine.specs.lanes.Lane.{ClosesAreGood}
use Rattle.dispatch_engine.specs.lanes.Run.{IsRun, position_after_run, state_after_run}
use Rattle.dispatch_report.specs.Round.{round_text}
use Rattle.input_rows.specs.script.Round.{NumberedLanes}
use Rattle.live_dispatch.specs.Live.{journals_text}
use Rattle.report_past.specs.Told.{IsToldRound, IsToldRun, PastIsGood}
use Rattle.request_book.specs.Book.{next_position}
unfoldable use Rattle.request_book.specs.Replay.{state_after}
use Rattle.request_book.specs.declared.values.journal.Journal.{Journal}
use Rattle.request_book.specs.declared.values.state.State.{State}
use Rattle.rider_limits.specs.declared.settings.Settings.{Settings}
use Rattle.road_network.specs.Roads.{Roads}

module _ (settings : Settings) (roads : Roads) where
  abbrev Good : Journal → Type 0
  Good j = ClosesAreGood settings roads j.base j.entries

  pub goes_on : (s : State) (p : ℕ) (rs ts : List NumberedLanes) (js ms : List Journal) → IsToldRun settings roads s p rs js → PastIsGood settings roads js
      → IsRun settings roads (state_after_run settings roads s js) (position_after_run p js) ts ms → IsRun settings roads s p (rs ++ ts) (js ++ ms)
  goes_on s p [] ts [] ms told good more = more
  goes_on s p (r ∷ rs) ts (j ∷ js) ms told good more = (
    told.0,
    told.1,
    record { replies = told.2.replies; closes = All-head Good j js good; lanes = told.2.lanes },
    goes_on (state_after roads.nodes settings.wait s j.entries) (next_position p j.entries) rs ts js ms told.3 (All-tail Good j js good) more,
  )
  goes_on s p [] ts (j ∷ js) ms told good more = absurd told
  goes_on s p (r ∷ rs) ts [] ms told good more = absurd told

  pub texts-append : (proof : Bool) (s : State) (p : ℕ) (rs ts : List NumberedLanes) (js ms : List Journal) → IsToldRun settings roads s p rs js
      → journals_text proof (rs ++ ts) (js ++ ms) ≡ journals_text proof rs js ++ journals_text proof ts ms
  texts-append proof s p [] ts [] ms told = refl
  texts-append proof s p (r ∷ rs) ts (j ∷ js) ms told =
      ap (λ t. round_text r.number proof j ++ t) (texts-append proof (state_after roads.nodes settings.wait s j.entries) (next_position p j.entries) rs ts js ms
      told.3)
      ∙ sym (append_assoc (round_text r.number proof j) (journals_text proof rs js) (journals_text proof ts ms))
  texts-append proof s p [] ts (j ∷ js) ms told = absurd told
  texts-append proof s p (r ∷ rs) ts [] ms told = absurd told

  pub told-more : (s : State) (p : ℕ) (rs : List NumberedLanes) (js : List Journal) (r : NumberedLanes) (j : Journal) → IsToldRun settings roads s p rs js
      → j.base ≡ state_after_run settings roads s js → j.first ≡ position_after_run p js → IsToldRound settings roads r j →
      IsToldRun settings roads s p (rs ++ r ∷ []) (js ++ j ∷ [])
  told-more s p [] [] r j told base first round = (base, first, round, tt)
  told-more s p (q ∷ rs) (k ∷ js) r j told base first round =
      (told.0, told.1, told.2, told-more (state_after roads.nodes settings.wait s k.entries) (next_position p k.entries) rs js r j told.3 base first round)
  told-more s p [] (k ∷ js) r j told base first round = absurd told
  told-more s p (q ∷ rs) [] r j told base first round = absurd told

pub position-append : (p : ℕ) (js ms : List Journal) → position_after_run p (js ++ ms) ≡ position_after_run (position_after_run p js) ms
position-append p [] ms = refl
position-append p (j ∷ js) ms = position-append (next_position p j.entries) js ms
