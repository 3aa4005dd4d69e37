-- The worst wait and the worst delay that are told at the end of a day are within the limits that its entries keep.
use Rattle.std.proofs.lemmas.Bool.Decides.{nat_tests}
use Rattle.std.proofs.Common.{◌≡◌, ℕ, ◌-◌, ◌≤◌, List, [], ◌∷◌, ◌++◌, map, Option, sym, ap, ◌∙◌, subst, arith, MatchOption, refl, rules}
use Rattle.route_drive.proofs.Common.{
  AllZip,
  rounds-join,
  next_position,
  RepliesAreSteps,
  state_after,
  step,
  Command,
  Pickup,
  Dropoff,
  Entry,
  Reply,
  BookRider,
  State,
  Settings,
  Roads,
  index_in,
  IsTimeBetween,
  NumberedLanes,
  DayCounts,
  IsRun,
  state_after_run,
  DayRound,
  greatest,
  AreCounts,
  entries_of,
  IsDelayOf,
  dropped_among,
  ideal_dropoff,
  is_dropped,
  is_picked,
  picked_among,
  wait_of,
  EntriesKeep,
  EntryKeeps,
  IsKeptDay,
  IsRunOfDay,
  cond_both,
}
use Rattle.route_drive.proofs.LeaveLemmas.{IsPickup, IsDropoff, Keeps, keeps_self, keeps_trans, riders_stay, step-leaves}
use Rattle.route_drive.proofs.kept.Walks.{between_unique}

module _ (settings : Settings) (roads : Roads) where
  -- the wait of an entry that is answered `picked`, by its riders and by the riders later
  entry_wait : (s : State) (later : List BookRider) (c : Command) (reply : Reply) (lane : ℕ) → IsPickup c → EntryKeeps settings roads s c reply →
      Keeps s.riders later
      → wait_of later (record { lane = lane; command = c; reply = reply }) ≤ settings.wait
  entry_wait s later (Pickup vehicle rider second) reply lane is kept keeps = search rules
  entry_wait s later command reply lane is kept keeps = absurd is

  -- the delay of one that is answered `dropped`
  entry_delay : (s : State) (later : List BookRider) (d : ℕ) (c : Command) (reply : Reply) (lane : ℕ) → IsDropoff c → EntryKeeps settings roads s c reply →
      Keeps s.riders later
      → IsDelayOf roads later (record { lane = lane; command = c; reply = reply }) d → d ≤ settings.delay
  entry_delay s later d (Dropoff vehicle rider second) reply lane is kept keeps delayed =
      let own = kept.1 in
      let there = keeps rider own kept.2 in
      let known = subst (λ (o : Option BookRider). MatchOption o (d ≡ 0)
      (λ (r : BookRider). (seconds : ℕ) × IsTimeBetween roads.arcs (index_in roads.nodes r.origin) (index_in roads.nodes r.destination) seconds ×
      (d ≡ second - ideal_dropoff r.time seconds))) there.1 delayed in
      let between : IsTimeBetween roads.arcs (index_in roads.nodes own.origin) (index_in roads.nodes own.destination) known.0 =
      subst (λ (n : ℕ). IsTimeBetween roads.arcs (index_in roads.nodes n) (index_in roads.nodes own.destination) known.0)
      (ap (λ (r : BookRider). r.origin) there.2)
      (subst (λ (n : ℕ). IsTimeBetween roads.arcs (index_in roads.nodes there.0.origin) (index_in roads.nodes n) known.0)
      (ap (λ (r : BookRider). r.destination) there.2) known.1) in
      let time : known.0 ≡ kept.3.seconds = between_unique roads.arcs (index_in roads.nodes own.origin) (index_in roads.nodes own.destination) known.0
      kept.3.seconds between kept.3.between in
      let ideal : ideal_dropoff there.0.time known.0 ≡ ideal_dropoff own.time kept.3.seconds =
      ap (λ (r : BookRider). ideal_dropoff r.time known.0) there.2 ∙ ap (ideal_dropoff own.time) time in
      omega (arith, known.2, ideal, kept.3.in_time)
  entry_delay s later d command reply lane is kept keeps delayed = absurd is

  -- the riders of a state are found after the entries that follow
  keeps_on : (s : State) (e : Entry) (es : List Entry) (later : List BookRider) → Keeps (state_after roads.nodes settings.wait
      (step roads.nodes settings.wait s e.command).0 es).riders later → Keeps s.riders later
  keeps_on s e es later keeps =
      let next = (step roads.nodes settings.wait s e.command).0 in
      keeps_trans s.riders next.riders later (step-leaves roads.nodes settings.wait s e.command).riders
      (keeps_trans next.riders (state_after roads.nodes settings.wait next es).riders later (riders_stay roads.nodes settings.wait next es) keeps)

  -- the worst wait is within the wait
  waits_within : (s : State) (es : List Entry) (later : List BookRider) → RepliesAreSteps roads.nodes settings.wait s es → EntriesKeep settings roads s es
      → Keeps (state_after roads.nodes settings.wait s es).riders later → greatest (map (wait_of later) (picked_among es)) ≤ settings.wait
  unfolding state_after RepliesAreSteps
  waits_within s [] later replies kept keeps = omega arith
  waits_within s (e ∷ es) later replies kept keeps =
      let rest = waits_within (step roads.nodes settings.wait s e.command).0 es later replies.1 kept.2 keeps in
      cond_both (is_picked e.reply) (e ∷ picked_among es) (picked_among es) (λ (l : List Entry). greatest (map (wait_of later) l) ≤ settings.wait) (λ holds.
      let one = entry_wait s later e.command e.reply e.lane ((step-leaves roads.nodes settings.wait s e.command).picked (sym (ap is_picked replies.0) ∙ holds))
      kept.0 (keeps_on s e es later keeps) in
      omega (arith, one, rest)) (λ other. rest)

  delay_first : (s : State) (e : Entry) (es : List Entry) (later : List BookRider) (ds : List ℕ) → IsDropoff e.command →
      EntryKeeps settings roads s e.command e.reply → Keeps s.riders later
      → ((others : List ℕ) → AllZip (IsDelayOf roads later) (dropped_among es) others → greatest others ≤ settings.delay)
      → AllZip (IsDelayOf roads later) (e ∷ dropped_among es) ds → greatest ds ≤ settings.delay
  delay_first s e es later [] is kept keeps rest are = absurd are
  delay_first s e es later (d ∷ ds) is kept keeps rest are = grind (arith, nat_tests, (entry_delay s later d e.command e.reply e.lane is kept keeps are.0))

  -- the worst delay is within the delay
  delays_within : (s : State) (es : List Entry) (later : List BookRider) (ds : List ℕ) → RepliesAreSteps roads.nodes settings.wait s es →
      EntriesKeep settings roads s es
      → Keeps (state_after roads.nodes settings.wait s es).riders later → AllZip (IsDelayOf roads later) (dropped_among es) ds → greatest ds ≤ settings.delay
  unfolding state_after RepliesAreSteps
  delays_within s [] later [] replies kept keeps are = omega arith
  delays_within s [] later (d ∷ ds) replies kept keeps are = absurd are
  delays_within s (e ∷ es) later ds replies kept keeps are =
      let next = (step roads.nodes settings.wait s e.command).0 in
      cond_both (is_dropped e.reply) (e ∷ dropped_among es) (dropped_among es) (λ (l : List Entry). AllZip (IsDelayOf roads later) l ds →
      greatest ds ≤ settings.delay)
      (λ holds. delay_first s e es later ds ((step-leaves roads.nodes settings.wait s e.command).dropped (sym (ap is_dropped replies.0) ∙ holds)) kept.0
      (keeps_on s e es later keeps)
      (λ others. delays_within next es later others replies.1 kept.2 keeps)) (λ other. delays_within next es later ds replies.1 kept.2 keeps) are

  replies-join : (s : State) (es later : List Entry) → RepliesAreSteps roads.nodes settings.wait s es →
      RepliesAreSteps roads.nodes settings.wait (state_after roads.nodes settings.wait s es) later
      → RepliesAreSteps roads.nodes settings.wait s (es ++ later)
  unfolding state_after RepliesAreSteps
  replies-join s [] later first second = second
  replies-join s (e ∷ es) later first second = (first.0, replies-join (step roads.nodes settings.wait s e.command).0 es later first.1 second)

  -- the replies of a run, one journal after the other, and the state that it leaves
  run_replies : (s : State) (position : ℕ) (rounds : List NumberedLanes) (made : List DayRound) →
      IsRun settings roads s position rounds (map (λ (r : DayRound). r.journal) made)
      → RepliesAreSteps roads.nodes settings.wait s (entries_of made)
  unfolding RepliesAreSteps
  run_replies s position [] [] run = tt
  run_replies s position (r ∷ rounds) (m ∷ made) run =
      replies-join s m.journal.entries (entries_of made) (subst (λ (t : State). RepliesAreSteps roads.nodes settings.wait t m.journal.entries) run.0
      run.2.replies)
      (run_replies (state_after roads.nodes settings.wait s m.journal.entries) (next_position position m.journal.entries) rounds made run.3)
  run_replies s position rounds made run = absurd run

  run_state : (s : State) (made : List DayRound) → state_after roads.nodes settings.wait s (entries_of made) ≡ state_after_run settings roads s
      (map (λ (r : DayRound). r.journal) made)
  unfolding state_after
  run_state s [] = refl
  run_state s (m ∷ made) = rounds-join roads.nodes settings.wait s m.journal.entries (entries_of made) ∙
      run_state (state_after roads.nodes settings.wait s m.journal.entries) made

  run_in_time : (s : State) (position : ℕ) (script : List NumberedLanes) (made : List DayRound) (run : DayCounts) →
      IsRun settings roads s position script (map (λ (r : DayRound). r.journal) made)
      → EntriesKeep settings roads s (entries_of made) → AreCounts roads (state_after_run settings roads s (map (λ (r : DayRound). r.journal) made)).riders
      (entries_of made) run
      → (run.worst_wait ≤ settings.wait) × (run.worst_delay ≤ settings.delay)
  run_in_time s position script made run ran kept counts = search (rules, Keeps, run_state, keeps_self, run_replies, waits_within, delays_within)

  -- a day that keeps its promises, with its counts
  pub day_in_time : (s : State) (rounds : List NumberedLanes) (made : List DayRound) (run : DayCounts) → IsKeptDay settings roads s rounds made
      → AreCounts roads (state_after_run settings roads s (map (λ (r : DayRound). r.journal) made)).riders (entries_of made) run →
      IsRunOfDay settings roads s rounds made run
  day_in_time s [] made run day counts = search rules
  day_in_time s (r ∷ rounds) made run day counts =
      let worst = run_in_time s 0 (day.driven.script ++ day.driven.end ∷ []) made run day.driven.run day.keeps counts in
      record { day = day; counts = counts; in_wait = worst.0; in_delay = worst.1 }
