-- One entry more of the round that is read.
use Rattle.std.proofs.Common.{
  rules,
  eqb,
  ◌≡◌,
  ◌≢◌,
  ℕ,
  zero,
  suc,
  ◌≤◌,
  Bool,
  true,
  false,
  if◌then◌else◌,
  List,
  [],
  ◌∷◌,
  ◌++◌,
  Option,
  Some,
  None,
  option_map,
  refl,
  sym,
  ap,
  subst,
  ◌∙◌,
  append_assoc,
  append-nil,
  inl,
  inr,
  arith,
}
use Rattle.std.proofs.lemmas.Bool.{cases_eq}
use Rattle.std.proofs.lemmas.Bool.Decides.{nat_tests}
use Rattle.std.proofs.lemmas.List.{map-append}
use Rattle.std.proofs.lemmas.List.Elements.{filter-append}
use Rattle.std.specs.List.{All}
use Rattle.dispatch_engine.proofs.lemmas.lanes.LockedLemmas.{step-sealed}
use Rattle.dispatch_engine.proofs.lemmas.lanes.RunLemmas.{run-append}
unfoldable use Rattle.dispatch_engine.specs.lanes.Lane.{ClosesAreGood}
use Rattle.dispatch_engine.specs.lanes.Lane.{IsGoodClose, IsLaneRun, IsLaneRunFrom, last_sealed, of_lane}
use Rattle.dispatch_engine.specs.lanes.Locked.{sealed_by, snapshot_before}
use Rattle.dispatch_engine.specs.outcome.Outcome.{IsGoodOutcome}
use Rattle.input_rows.specs.declared.script.script_row.ScriptRow.{ScriptRow}
use Rattle.input_rows.specs.script.Round.{MayStand}
use Rattle.input_rows.specs.script.ScriptRow.{IsBehind}
use Rattle.live_dispatch.proofs.lemmas.EntryLemmas.{next-append, state-append}
use Rattle.report_audit.specs.report.Report.{closes}
use Rattle.report_past.proofs.lemmas.CloseLemmas.{closes_push}
use Rattle.report_past.proofs.RoundLemmas.{own_push, rows_push}
unfoldable use Rattle.report_past.specs.Past.{last_notices}
use Rattle.report_past.specs.Told.{AreScriptRows, close_of}
use Rattle.report_past.specs.work.Reading.{AreOf, IsInRound, commands_in, owed}
use Rattle.request_book.specs.Book.{BookView, IsApplied, next_position}
unfoldable use Rattle.request_book.specs.Replay.{RepliesAreSteps, state_after}
unfoldable use Rattle.request_book.specs.register.Step.{step, submit, cancel, report, pickup, dropoff, seal, close}
use Rattle.request_book.specs.notices.Notices.{entry_notices}
use Rattle.request_book.specs.values.Batch.{Batch}
use Rattle.request_book.specs.values.Command.{IsNoClose}
use Rattle.request_book.specs.declared.notices.notice.Notice.{Notice}
use Rattle.request_book.specs.declared.values.command.Command.{Command}
use Rattle.request_book.specs.declared.values.command.Command.TheVariants.{Seal, Close}
use Rattle.request_book.specs.declared.values.journal.Entry.{Entry}
use Rattle.request_book.specs.declared.values.journal.Journal.{Journal}
use Rattle.request_book.specs.declared.values.outcome.Outcome.{Outcome}
use Rattle.request_book.specs.declared.values.reply.Reply.{Reply}
use Rattle.request_book.specs.declared.values.reply.Reply.TheVariants.{Closed}
use Rattle.request_book.specs.declared.values.state.State.{State}
use Rattle.request_book.specs.declared.values.vehicle.Vehicle.{Vehicle}
use Rattle.rider_limits.specs.declared.settings.Settings.{Settings}
use Rattle.road_network.specs.Roads.{Roads}

-- what a row's command and a close do to the batch that stands sealed
pub no_close : (lane : ℕ) (command : Command) → MayStand lane command → IsNoClose command
no_close lane (Close batch outcome) stands = absurd stands
no_close lane _ stands = tt

pub sealed_next : (nodes : List ℕ) (wait : ℕ) (s : State) (command : Command) → IsNoClose command →
    (step nodes wait s command).0.sealed ≡ last_sealed s.sealed (snapshot_before wait s command)
unfolding step submit cancel report pickup dropoff seal
sealed_next nodes wait s command plain = grind arith

pub snapshot_none : (wait : ℕ) (s : State) (lane : ℕ) (command : Command) → MayStand lane command → lane ≢ 0 → snapshot_before wait s command ≡ None
snapshot_none wait s lane (Seal now) stands other = absurd (other stands)
snapshot_none wait s lane _ stands other = refl

pub closed_reply : (nodes : List ℕ) (wait : ℕ) (s : State) (b : Batch) (outcome : Outcome) → s.sealed ≡ Some b →
    (step nodes wait s (Close b.number outcome)).1 ≡ Closed
unfolding step close
closed_reply nodes wait s b outcome is = grind (arith, nat_tests)

pub closed_state : (nodes : List ℕ) (wait : ℕ) (s : State) (b : Batch) (outcome : Outcome) → s.sealed ≡ Some b →
    (step nodes wait s (Close b.number outcome)).0.sealed ≡ None
unfolding step close
closed_state nodes wait s b outcome is = grind (arith, nat_tests)

no_closes : (command : Command) (reply : Reply) → IsNoClose command → closes command reply ≡ false
no_closes (Close batch outcome) reply plain = absurd plain
no_closes _ reply plain = refl

plain_close : (settings : Settings) (roads : Roads) (s : State) (command : Command) (reply : Reply) → IsNoClose command →
    IsGoodClose settings roads s command reply
plain_close settings roads s (Close batch outcome) reply plain = absurd plain
plain_close settings roads s _ reply plain = tt

-- one entry more
pub replies_push : (nodes : List ℕ) (wait : ℕ) (s : State) (es : List Entry) (e : Entry) → RepliesAreSteps nodes wait s es →
    e.reply ≡ (step nodes wait (state_after nodes wait s es) e.command).1 → RepliesAreSteps nodes wait s (es ++ e ∷ [])
unfolding RepliesAreSteps state_after
replies_push nodes wait s [] e replies is = (is, tt)
replies_push nodes wait s (x ∷ es) e replies is = (replies.0, replies_push nodes wait (step nodes wait s x.command).0 es e replies.1 is)

notices_push : (nodes : List ℕ) (wait : ℕ) (s : State) (told : List Notice) (es : List Entry) (e : Entry)
    → last_notices nodes wait s told (es ++ e ∷ []) ≡ (if closes e.command e.reply then entry_notices (state_after nodes wait s es) e.command e.reply else
    last_notices nodes wait s told es)
unfolding last_notices state_after
notices_push nodes wait s told [] e = refl
notices_push nodes wait s told (x ∷ es) e = notices_push nodes wait (step nodes wait s x.command).0
    (if closes x.command x.reply then entry_notices s x.command x.reply else told) es e

state_push : (nodes : List ℕ) (wait : ℕ) (s : State) (es : List Entry) (e : Entry) → state_after nodes wait s (es ++ e ∷ []) ≡
    (step nodes wait (state_after nodes wait s es) e.command).0
unfolding state_after
state_push nodes wait s es e = state-append nodes wait s es (e ∷ [])

own_one : (e : Entry) (lane : ℕ) → e.lane ≡ lane → of_lane lane (e ∷ []) ≡ e ∷ []
own_one e lane is = grind (arith, nat_tests, is)

other_one : (e : Entry) (lane : ℕ) → e.lane ≢ lane → of_lane lane (e ∷ []) ≡ []
other_one e lane is = grind (arith, nat_tests, is)

pub own_lane : (es : List Entry) (e : Entry) (lane : ℕ) → e.lane ≡ lane → of_lane lane (es ++ e ∷ []) ≡ of_lane lane es ++ e ∷ []
own_lane es e lane is = filter-append (λ (x : Entry). eqb x.lane lane) es (e ∷ []) ∙ ap (λ zs. of_lane lane es ++ zs) (own_one e lane is)

pub other_lane : (es : List Entry) (e : Entry) (lane : ℕ) → e.lane ≢ lane → of_lane lane (es ++ e ∷ []) ≡ of_lane lane es
other_lane es e lane is = filter-append (λ (x : Entry). eqb x.lane lane) es (e ∷ []) ∙ ap (λ zs. of_lane lane es ++ zs) (other_one e lane is) ∙
    append-nil (of_lane lane es)

-- one row more
own_row : (row : ScriptRow) (lane : ℕ) → row.lane ≡ lane → commands_in (row ∷ []) lane ≡ row.command ∷ []
own_row row lane is = grind (arith, nat_tests, is)

other_row : (row : ScriptRow) (lane : ℕ) → row.lane ≢ lane → commands_in (row ∷ []) lane ≡ []
other_row row lane is = grind (arith, nat_tests, is)

commands-append : (rows more : List ScriptRow) (lane : ℕ) → commands_in (rows ++ more) lane ≡ commands_in rows lane ++ commands_in more lane
commands-append rows more lane = search (rules, filter-append, map-append)

-- what a lane owes
pub none_owed : (lane : ℕ) → owed None lane ≡ None
none_owed zero = refl
none_owed (suc n) = refl

pub not_owed : (open_batch : Option Batch) (lane : ℕ) → lane ≢ 0 → owed open_batch lane ≡ None
not_owed open_batch zero other = absurd (other refl)
not_owed open_batch (suc n) other = refl

-- a lane that owes nothing is done
lane_done : (rows : List ScriptRow) (es : List Entry) (open_batch : Option Batch) (lane : ℕ) →
    ((rest : List Entry) → IsLaneRunFrom (owed open_batch lane) [] rest → IsLaneRun (commands_in rows lane) (of_lane lane es ++ rest))
    → owed open_batch lane ≡ None → IsLaneRun (commands_in rows lane) (of_lane lane es)
lane_done rows es open_batch lane are none =
    subst (IsLaneRun (commands_in rows lane)) (append-nil (of_lane lane es)) (are [] (subst (λ p. IsLaneRunFrom p [] []) (sym none) tt))

nothing_owed : (rest : List Entry) → IsLaneRunFrom None [] rest → rest ≡ []
nothing_owed [] is = refl
nothing_owed (x ∷ rest) is = absurd is

module _ (rows : List ScriptRow) (es : List Entry) (open_batch next : Option Batch) (row : ScriptRow) (reply : Reply)
    (are : (lane : ℕ) (rest : List Entry) → IsLaneRunFrom (owed open_batch lane) [] rest → IsLaneRun (commands_in rows lane) (of_lane lane es ++ rest))
    (free : owed open_batch row.lane ≡ None) (owes : owed next row.lane ≡ sealed_by reply)
    (same : (lane : ℕ) → row.lane ≢ lane → owed next lane ≡ owed open_batch lane) where
  abbrev made : Entry
  made = record { lane = row.lane; command = row.command; reply = reply }

  lanes_own : (rest : List Entry) → IsLaneRunFrom (owed next row.lane) [] rest → IsLaneRun (commands_in (rows ++ row ∷ []) row.lane)
      (of_lane row.lane (es ++ made ∷ []) ++ rest)
  lanes_own rest is =
      let cs = commands_in rows row.lane in
      let fs = of_lane row.lane es in
      let more : IsLaneRun (row.command ∷ []) (made ∷ rest) = (refl, subst (λ p. IsLaneRunFrom p [] rest) owes is) in
      let run : IsLaneRun (cs ++ row.command ∷ []) (fs ++ made ∷ rest) = run-append None cs (row.command ∷ []) fs (made ∷ rest)
      (lane_done rows es open_batch row.lane (are row.lane) free) more in
      let commands : commands_in (rows ++ row ∷ []) row.lane ≡ cs ++ row.command ∷ [] = commands-append rows (row ∷ []) row.lane ∙
      ap (λ ds. cs ++ ds) (own_row row row.lane refl) in
      let entries : of_lane row.lane (es ++ made ∷ []) ++ rest ≡ fs ++ made ∷ rest = ap (λ gs. gs ++ rest) (own_lane es made row.lane refl) ∙
      append_assoc fs (made ∷ []) rest in
      subst (λ ds. IsLaneRun ds (of_lane row.lane (es ++ made ∷ []) ++ rest)) (sym commands) (subst (IsLaneRun (cs ++ row.command ∷ [])) (sym entries) run)

  lanes_other : (lane : ℕ) → row.lane ≢ lane → (rest : List Entry) → IsLaneRunFrom (owed next lane) [] rest →
      IsLaneRun (commands_in (rows ++ row ∷ []) lane) (of_lane lane (es ++ made ∷ []) ++ rest)
  lanes_other lane other rest is =
      let commands : commands_in (rows ++ row ∷ []) lane ≡ commands_in rows lane =
      commands-append rows (row ∷ []) lane ∙ ap (λ ds. commands_in rows lane ++ ds) (other_row row lane other) ∙ append-nil (commands_in rows lane) in
      subst (λ ds. IsLaneRun ds (of_lane lane (es ++ made ∷ []) ++ rest)) (sym commands)
      (subst (λ gs. IsLaneRun (commands_in rows lane) (gs ++ rest)) (sym (other_lane es made lane other))
      (are lane rest (subst (λ p. IsLaneRunFrom p [] rest) (same lane other) is)))

  pub lanes_row : (lane : ℕ) (rest : List Entry) → IsLaneRunFrom (owed next lane) [] rest →
      IsLaneRun (commands_in (rows ++ row ∷ []) lane) (of_lane lane (es ++ made ∷ []) ++ rest)
  lanes_row lane rest is = elim (cases_eq row.lane lane) [
    | inl own ↦
        subst (λ l. IsLaneRun (commands_in (rows ++ row ∷ []) l) (of_lane l (es ++ made ∷ []) ++ rest)) own
        (lanes_own rest (subst (λ l. IsLaneRunFrom (owed next l) [] rest) (sym own) is))
    | inr other ↦ lanes_other lane other rest is
  ]

-- the close that lane 0 owes
module _ (rows : List ScriptRow) (es : List Entry) (batch : Batch) (outcome : Outcome)
    (are : (lane : ℕ) (rest : List Entry) → IsLaneRunFrom (owed (Some batch) lane) [] rest → IsLaneRun (commands_in rows lane) (of_lane lane es ++ rest)) where
  lanes_zero : IsLaneRun (commands_in rows 0) (of_lane 0 (es ++ close_of batch outcome ∷ []))
  lanes_zero = subst (IsLaneRun (commands_in rows 0)) (sym (own_lane es (close_of batch outcome) 0 refl)) (are 0 (close_of batch outcome ∷ []) (refl, tt))

  lanes_beside : (lane : ℕ) → lane ≢ 0 → IsLaneRun (commands_in rows lane) (of_lane lane (es ++ close_of batch outcome ∷ []))
  lanes_beside lane other =
      subst (IsLaneRun (commands_in rows lane)) (sym (other_lane es (close_of batch outcome) lane (λ h. other (sym h))))
      (lane_done rows es (Some batch) lane (are lane) (not_owed (Some batch) lane other))

  pub lanes_close : (lane : ℕ) → IsLaneRun (commands_in rows lane) (of_lane lane (es ++ close_of batch outcome ∷ []))
  lanes_close lane = elim (cases_eq lane 0) [
    | inl own ↦ subst (λ l. IsLaneRun (commands_in rows l) (of_lane l (es ++ close_of batch outcome ∷ []))) (sym own) lanes_zero
    | inr other ↦ lanes_beside lane other
  ]

-- done lanes, whatever they still owe
pub lanes_done : (rows : List ScriptRow) (es : List Entry) → ((lane : ℕ) → IsLaneRun (commands_in rows lane) (of_lane lane es))
    → (lane : ℕ) (rest : List Entry) → IsLaneRunFrom (owed None lane) [] rest → IsLaneRun (commands_in rows lane) (of_lane lane es ++ rest)
lanes_done rows es are lane rest is =
    let none : rest ≡ [] = nothing_owed rest (subst (λ p. IsLaneRunFrom p [] rest) (none_owed lane) is) in
    subst (IsLaneRun (commands_in rows lane)) (sym (ap (λ r. of_lane lane es ++ r) none ∙ append-nil (of_lane lane es))) (are lane)

pub lanes_closed : (rows : List ScriptRow) (es : List Entry) (open_batch : Option Batch) → open_batch ≡ None
    → ((lane : ℕ) (rest : List Entry) → IsLaneRunFrom (owed open_batch lane) [] rest → IsLaneRun (commands_in rows lane) (of_lane lane es ++ rest))
    → (lane : ℕ) → IsLaneRun (commands_in rows lane) (of_lane lane es)
lanes_closed rows es open_batch closed are lane = lane_done rows es open_batch lane (are lane) (ap (λ o. owed o lane) closed ∙ none_owed lane)

-- what a row makes a lane owe
free_of : (open_batch : Option Batch) (lane : ℕ) → (lane ≡ 0 → open_batch ≡ None) → owed open_batch lane ≡ None
free_of open_batch zero free = ap (λ (o : Option Batch). option_map (λ b. b.number) o) (free refl)
free_of open_batch (suc n) free = refl

last_none : (sealed : Option Batch) → last_sealed None sealed ≡ sealed
last_none None = refl
last_none (Some b) = refl

pub owes_of : (open_batch sealed : Option Batch) (lane : ℕ) (shown : Option ℕ) → (lane ≡ 0 → open_batch ≡ None) → (lane ≢ 0 → sealed ≡ None) →
    option_map (λ b. b.number) sealed ≡ shown
    → owed (last_sealed open_batch sealed) lane ≡ shown
owes_of open_batch sealed zero shown free quiet is = ap (λ (o : Option Batch). option_map (λ b. b.number) (last_sealed o sealed)) (free refl) ∙
    ap (λ (o : Option Batch). option_map (λ b. b.number) o) (last_none sealed) ∙ is
owes_of open_batch sealed (suc n) shown free quiet is = let none : sealed ≡ None = quiet (λ e. omega (arith, e)) in ap
    (λ (o : Option Batch). option_map (λ b. b.number) o) (sym none) ∙ is

pub same_owed : (open_batch sealed : Option Batch) (own lane : ℕ) → (own ≢ 0 → sealed ≡ None) → own ≢ lane →
    owed (last_sealed open_batch sealed) lane ≡ owed open_batch lane
same_owed open_batch sealed own zero quiet other = ap (λ s. owed (last_sealed open_batch s) 0) (quiet other)
same_owed open_batch sealed own (suc n) quiet other = refl

module _ (settings : Settings) (roads : Roads) (vehicles : List Vehicle) (judged : Bool) (before : List ℕ) (front rows : List ScriptRow) (done : List Journal)
    (j : Journal) (number : ℕ) (b : BookView) (open_batch : Option Batch) (notices : List Notice)
    (is : IsInRound settings roads vehicles judged before front rows done j number b open_batch notices) where
  abbrev with_entry : Entry → Journal
  with_entry e = record j { entries = j.entries ++ e ∷ [] }

  push : (rows_now : List ScriptRow) (e : Entry) (now : BookView) (next : Option Batch) (told : List Notice)
      → AreOf number rows_now → AreScriptRows 0 (front ++ rows_now)
      → ((lane : ℕ) (rest : List Entry) → IsLaneRunFrom (owed next lane) [] rest → IsLaneRun (commands_in rows_now lane)
      (of_lane lane (j.entries ++ e ∷ []) ++ rest))
      → IsApplied b e.lane e.command e.reply now → now.state.sealed ≡ next
      → told ≡ (if closes e.command e.reply then entry_notices b.state e.command e.reply else notices)
      → (judged ≡ true → IsGoodClose settings roads b.state e.command e.reply)
      → IsInRound settings roads vehicles judged before front rows_now done (with_entry e) number now next told
  push rows_now e now next told own lawful lanes applied sealed notices_are good =
      let stepped : (now.state, e.reply) ≡ step roads.nodes settings.wait b.state e.command = applied.stepped ∙
      (λ i. step (is.nodes i) (is.wait i) b.state e.command) in
      let here : step roads.nodes settings.wait b.state e.command ≡ step roads.nodes settings.wait (state_after roads.nodes settings.wait j.base j.entries)
      e.command = ap (λ s. step roads.nodes settings.wait s e.command) is.state in
      record {
        told = is.told;
        earlier = is.earlier;
        own = own;
        lawful = lawful;
        text = is.text;
        base = is.base;
        first = is.first;
        low = is.low;
        replies = replies_push roads.nodes settings.wait j.base j.entries e is.replies (ap (λ p. p.1) (stepped ∙ here));
        lanes = lanes;
        nodes = applied.nodes ∙ is.nodes;
        wait = applied.wait ∙ is.wait;
        state = ap (λ p. p.0) (stepped ∙ here) ∙ sym (state_push roads.nodes settings.wait j.base j.entries e);
        position = (λ i. next_position (applied.first i) (applied.entries i)) ∙ next-append b.first b.entries (e ∷ []) ∙
            ap (λ n. next_position n (e ∷ [])) is.position ∙ sym (next-append j.first j.entries (e ∷ []));
        sealed = sealed;
        notices_are = notices_are
            ∙ (λ i. if closes e.command e.reply then entry_notices (is.state i) e.command e.reply else is.notices_are i)
            ∙ sym (notices_push roads.nodes settings.wait j.base _ j.entries e);
        good_before = is.good_before;
        good = λ on. closes_push settings roads j.base j.entries e (is.good on) (subst (λ s. IsGoodClose settings roads s e.command e.reply) is.state
            (good on));
      }

  pub push_row : (row : ScriptRow) (reply : Reply) (now : BookView) (sealed : Option Batch) → row.round ≡ number → All (λ l. l.round ≤ number) (front ++ rows) →
      IsBehind 0 row
      → (row.lane ≡ 0 → open_batch ≡ None) → IsApplied b row.lane row.command reply now → sealed ≡ snapshot_before b.wait b.state row.command
      → IsInRound settings roads vehicles judged before front (rows ++ row ∷ []) done (with_entry
      (record { lane = row.lane; command = row.command; reply = reply })) number now (last_sealed open_batch sealed) notices
  push_row row reply now sealed number_is below lawful free applied sealed_is =
      let plain : IsNoClose row.command = no_close row.lane row.command lawful.stands in
      let quiet = λ (other : row.lane ≢ 0). sealed_is ∙ snapshot_none b.wait b.state row.lane row.command lawful.stands other in
      let shown : option_map (λ (s : Batch). s.number) sealed ≡ sealed_by reply =
      ap (λ (o : Option Batch). option_map (λ s. s.number) o) sealed_is ∙ step-sealed b.nodes b.wait b.state row.command ∙
      ap (λ p. sealed_by p.1) (sym applied.stepped) in
      push (rows ++ row ∷ []) (record { lane = row.lane; command = row.command; reply = reply }) now (last_sealed open_batch sealed) notices
      (own_push number rows row is.own number_is lawful.lane)
      (subst (AreScriptRows 0) (append_assoc front rows (row ∷ [])) (rows_push (front ++ rows) row is.lawful
      (subst (λ n. All (λ (l : ScriptRow). l.round ≤ n) (front ++ rows)) (sym number_is) below) lawful))
      (lanes_row rows j.entries open_batch (last_sealed open_batch sealed) row reply is.lanes (free_of open_batch row.lane free)
      (owes_of open_batch sealed row.lane (sealed_by reply) free quiet shown)
      (λ lane other. same_owed open_batch sealed row.lane lane quiet other))
      applied
      (ap (λ p. p.0.sealed) applied.stepped ∙ sealed_next b.nodes b.wait b.state row.command plain ∙ (λ i. last_sealed (is.sealed i) (sym sealed_is i)))
      (sym (ap (λ (c : Bool). if c then entry_notices b.state row.command reply else notices) (no_closes row.command reply plain)))
      (λ on. plain_close settings roads b.state row.command reply plain)

module _ (settings : Settings) (roads : Roads) (vehicles : List Vehicle) (judged : Bool) (before : List ℕ) (front rows : List ScriptRow) (done : List Journal)
    (j : Journal) (number : ℕ) (b : BookView) (batch : Batch) (notices : List Notice)
    (is : IsInRound settings roads vehicles judged before front rows done j number b (Some batch) notices) where
  pub push_close : (outcome : Outcome) (reply : Reply) (now : BookView) (told : List Notice) → IsApplied b 0 (Close batch.number outcome) reply now →
      told ≡ entry_notices b.state (Close batch.number outcome) Closed
      → (judged ≡ true → IsGoodOutcome settings roads batch outcome)
      → IsInRound settings roads vehicles judged before front rows done (record j { entries = j.entries ++ close_of batch outcome ∷ [] }) number now None told
  push_close outcome reply now told applied told_is good =
      let closed : reply ≡ Closed = ap (λ p. p.1) applied.stepped ∙ closed_reply b.nodes b.wait b.state batch outcome is.sealed in
      push settings roads vehicles judged before front rows done j number b (Some batch) notices is rows (close_of batch outcome) now None told is.own is.lawful
      (lanes_done rows (j.entries ++ close_of batch outcome ∷ []) (lanes_close rows j.entries batch outcome is.lanes))
      (subst (λ r. IsApplied b 0 (Close batch.number outcome) r now) closed applied)
      (ap (λ p. p.0.sealed) applied.stepped ∙ closed_state b.nodes b.wait b.state batch outcome is.sealed)
      told_is
      (λ on. (batch, is.sealed, good on))
