-- A round of a driven day, from its last entry to its first.
use Rattle.std.proofs.Common.{
  ◌≡◌,
  ℕ,
  ◌≤◌,
  List,
  [],
  ◌∷◌,
  ◌++◌,
  length,
  map,
  filter,
  Option,
  Some,
  None,
  refl,
  sym,
  ap,
  ◌∙◌,
  subst,
  arith,
  inl,
  inr,
  option_and_then,
  rules,
}
use Rattle.route_drive.proofs.Common.{
  AllByRecursion,
  option_or,
  recursion_from_All,
  Batch,
  Vehicle,
  IsGoodOutcome,
  one_more,
  KeysDiffer,
  RepliesAreSteps,
  state_after,
  batch_of,
  sealed_state,
  find_vehicle,
  step,
  Command,
  Submit,
  Seal,
  Close,
  Entry,
  Answer,
  PlannedStop,
  Reply,
  Closed,
  Sealed,
  BookRider,
  State,
  KeysDiffer-from_rise,
  look_up-at,
  Settings,
  Roads,
  IsNetwork,
  sealed_by,
  ClosesAreGood,
  IsCloseOf,
  IsGoodClose,
  Course,
  plan_in,
  planned_in,
  AreEntered,
  to_come,
  IsClosedInTime,
  AreReported,
  IsReadyForSeal,
  closed,
  course_of,
  IsDayState,
  IsKept,
  KeepsBounds,
  LeavesAll,
  ShowsRiders,
  stops_with,
  IsServing,
  left_commands,
  IsEntered,
  closed_outcome,
  stop_command,
  IsQuiet,
  plain-quiet,
  IsPlain,
  append-nil,
}
use Rattle.route_drive.proofs.LeaveLemmas.{step-leaves}
use Rattle.route_drive.proofs.kept.Keeping.{AllKeep, OneKeeps}
use Rattle.route_drive.proofs.kept.Laws.{closes_keep, no_promise_lapses}
use Rattle.route_drive.proofs.kept.Mixed.{IsAsked, IsMixed, IsRequest, asked_only, asked_plain, mixed_asked}
use Rattle.route_drive.proofs.kept.Pending.{IsPending, IsRunning}
use Rattle.route_drive.proofs.kept.Replies.{close_is, seal_is}
use Rattle.route_drive.proofs.kept.Sealing.{sealed_bounds, sealed_kept, sealed_shows, submit_done}
use Rattle.route_drive.proofs.kept.Sequence.{
  ArePending,
  EachEnters,
  IsOneOn,
  IsOwned,
  IsWay,
  asked_pending,
  entered_each,
  finished,
  is_for,
  left_each,
  one_on,
  owners,
  part_of,
  pending_way,
  running_way,
  still_owned,
  vehicle_in,
}
use Rattle.request_book.specs.declared.values.outcome.Answer.TheVariants as answer

-- the stops after an answer alone
after_is : (a : Answer) (stops : ℕ → List PlannedStop) → stops_with (planned_in a) stops ≡ stops_with (option_or (planned_in a) None) stops
after_is answer.Overflow stops = refl
after_is (answer.Planned planned) stops = refl

-- what is no close is no plan
plain_plan : (c : Command) (reply : Reply) → IsPlain c → option_and_then (λ closed. planned_in closed.1.answer) (closed_outcome c reply) ≡ None
plain_plan (Close batch outcome) reply plain = absurd plain
plain_plan command reply plain = refl

asked_plans : (es : List Entry) → AllByRecursion IsAsked es → plan_in es ≡ None
asked_plans [] all = refl
asked_plans (e ∷ es) all = ap (λ o. option_or o (plan_in es)) (plain_plan e.command e.reply (asked_plain e.command all.0)) ∙ asked_plans es all.1

module _ (settings : Settings) (roads : Roads) where
  -- entries from a state to the end of a round: each keeps what it must, and every vehicle serves its stops at the end
  pub record Ends (s : State) (es : List Entry) (stops : ℕ → List PlannedStop) (last : Option ℕ) : Type 0 where
    pub all : AllKeep settings roads s es
    pub kept : IsKept settings roads (state_after roads.nodes settings.wait s es) (stops_with (plan_in es) stops)
    pub sealed : (state_after roads.nodes settings.wait s es).sealed ≡ None
    pub last_is : (state_after roads.nodes settings.wait s es).last_seal ≡ last

  -- one entry before, that is no plan
  ends_before : (e : Entry) (es : List Entry) (s : State) (stops : ℕ → List PlannedStop) (last : Option ℕ) → OneKeeps settings roads s e.command e.reply
      → option_and_then (λ closed. planned_in closed.1.answer) (closed_outcome e.command e.reply) ≡ None →
      Ends (step roads.nodes settings.wait s e.command).0 es stops last → Ends s (e ∷ es) stops last
  unfolding state_after
  ends_before e es s stops last one none rest = search rules

  -- requests
  asked_on : (s : State) (c : Command) → IsRequest c → IsDayState roads s → LeavesAll settings roads s (step roads.nodes settings.wait s c).0
  asked_on s (Submit rider origin destination time party) is day = submit_done settings roads s rider origin destination time party day
  asked_on s command is day = absurd is

  asked_keeps : (s : State) (c : Command) (reply : Reply) → IsRequest c → IsDayState roads s →
      LeavesAll settings roads s (step roads.nodes settings.wait s c).0 → OneKeeps settings roads s c reply
  asked_keeps s (Submit rider origin destination time party) reply is day leaves = record
      { entry = tt; seats = day.consistent.seats; by = λ x limit bound. tt; bounds = leaves.bounds }
  asked_keeps s command reply is day leaves = absurd is

  kept_still : (s t : State) (stops : ℕ → List PlannedStop) → IsKept settings roads s stops → LeavesAll settings roads s t → IsKept settings roads t stops
  kept_still s t stops kept leaves = record {
    state = leaves.state;
    each = λ id v found. let at : find_vehicle id s.vehicles ≡ Some v = ap (find_vehicle id) (sym leaves.vehicles) ∙
        found in leaves.serve id v v.time (stops id) at (kept.each id v at);
  }

  asked_before : (e : Entry) (es : List Entry) (s : State) (stops : ℕ → List PlannedStop) (last : Option ℕ) → IsRequest e.command → IsDayState roads s
      → LeavesAll settings roads s (step roads.nodes settings.wait s e.command).0 → Ends (step roads.nodes settings.wait s e.command).0 es stops last →
      Ends s (e ∷ es) stops last
  asked_before e es s stops last is day leaves rest = search (rules, ends_before, asked_keeps, plain_plan, asked_plain)

  asked_quiet : (s : State) (c : Command) → IsRequest c → IsQuiet s (step roads.nodes settings.wait s c)
  asked_quiet s c is = plain-quiet roads.nodes settings.wait s c (asked_plain c is)

  -- after the close, or in a round without a seal, there are requests alone
  pub asked_end : (es : List Entry) (s : State) (stops : ℕ → List PlannedStop) (last : Option ℕ) → IsKept settings roads s stops → s.sealed ≡ None →
      s.last_seal ≡ last → AllByRecursion IsAsked es → Ends s es stops last
  unfolding state_after
  asked_end [] s stops last kept closed is all = record { all = tt; kept = kept; sealed = closed; last_is = is }
  asked_end (e ∷ es) s stops last kept closed is all =
      let leaves : LeavesAll settings roads s (step roads.nodes settings.wait s e.command).0 = asked_on s e.command all.0 kept.state in
      let quiet = asked_quiet s e.command all.0 in
      asked_before e es s stops last all.0 kept.state leaves
      (asked_end es (step roads.nodes settings.wait s e.command).0 stops last (kept_still s (step roads.nodes settings.wait s e.command).0 stops kept leaves)
      (quiet.sealed ∙ closed) (quiet.last ∙ is) all.1)

  -- the close of the sealed batch
  close_end : (lane : ℕ) (c : Command) (reply : Reply) (es : List Entry) (s : State) (b : Batch) (stops : ℕ → List PlannedStop) (last : Option ℕ) →
      IsKept settings roads s stops → ShowsRiders s b → AreReported s b
      → s.sealed ≡ Some b → s.last_seal ≡ last → IsCloseOf b.number c → reply ≡ (step roads.nodes settings.wait s c).1 → IsGoodClose settings roads s c reply →
      AllByRecursion IsAsked es
      → Ends s ((record { lane = lane; command = c; reply = reply }) ∷ es) stops last
  unfolding state_after
  close_end lane (Close k outcome) reply es s b stops last kept shows early sealed is same replied good all =
      let number : Close k outcome ≡ Close b.number outcome = ap (λ n. Close n outcome) same in
      let stepped : step roads.nodes settings.wait s (Close k outcome) ≡ (closed s b outcome, Closed) = ap (step roads.nodes settings.wait s) number ∙
      close_is roads.nodes settings.wait s b outcome sealed in
      let next : (step roads.nodes settings.wait s (Close k outcome)).0 ≡ closed s b outcome = ap (λ (p : State × Reply). p.0) stepped in
      let told : reply ≡ Closed = replied ∙ ap (λ (p : State × Reply). p.1) stepped in
      let there : IsGoodClose settings roads s (Close k outcome) Closed = subst (IsGoodClose settings roads s (Close k outcome)) told good in
      let found : s.sealed ≡ Some there.0 = there.1 in
      let which : there.0 ≡ b = cc in
      let right : IsGoodOutcome settings roads b outcome = subst (λ b. IsGoodOutcome settings roads b outcome) which there.2 in
      let done = closes_keep settings roads s stops b outcome kept shows early sealed right in
      let in_time : IsClosedInTime settings roads s outcome.answer = no_promise_lapses settings roads s stops b outcome kept shows early sealed right in
      let rest : Ends (step roads.nodes settings.wait s (Close k outcome)).0 es (stops_with (planned_in outcome.answer) stops) last =
      subst (λ t. Ends t es (stops_with (planned_in outcome.answer) stops) last) (sym next)
      (asked_end es (closed s b outcome) (stops_with (planned_in outcome.answer) stops) last done.0 refl is all) in
      let none : plan_in es ≡ None = asked_plans es all in
      let plans : option_or (option_and_then (λ closed. planned_in closed.1.answer) (closed_outcome (Close k outcome) reply)) (plan_in es) ≡ option_or
      (planned_in outcome.answer) None =
      ap (λ r. option_or (option_and_then (λ closed. planned_in closed.1.answer) (closed_outcome (Close k outcome) r)) (plan_in es)) told ∙
      ap (option_or (planned_in outcome.answer)) none in
      let way : stops_with (plan_in es) (stops_with (planned_in outcome.answer) stops) ≡ stops_with
      (option_or (option_and_then (λ closed. planned_in closed.1.answer) (closed_outcome (Close k outcome) reply)) (plan_in es)) stops =
      ap (λ o. stops_with o (stops_with (planned_in outcome.answer) stops)) none ∙ after_is outcome.answer stops ∙ ap (λ o. stops_with o stops) (sym plans) in
      record {
        all = (
          record {
            entry = (told, in_time);
            seats = kept.state.consistent.seats;
            by = λ x limit bound. tt;
            bounds =
                subst (KeepsBounds s) (sym next) done.1;
          },
          rest.all,
        );
        kept = subst (IsKept settings roads (state_after roads.nodes settings.wait (step roads.nodes settings.wait s (Close k outcome)).0 es)) way rest.kept;
        sealed = rest.sealed;
        last_is = rest.last_is;
      }
  close_end lane command reply es s b stops last kept shows early sealed is same replied good all = absurd same

  -- a sealed batch is closed by lane 0, with requests before and after
  closing : (es : List Entry) (s : State) (b : Batch) (cs : List Command) (stops : ℕ → List PlannedStop) (last : Option ℕ) → IsKept settings roads s stops →
      ShowsRiders s b → AreReported s b
      → s.sealed ≡ Some b → s.last_seal ≡ last → AllByRecursion IsRequest cs → IsMixed (Some b.number) cs es → RepliesAreSteps roads.nodes settings.wait s es →
      ClosesAreGood settings roads s es → Ends s es stops last
  unfolding RepliesAreSteps ClosesAreGood
  closing [] s b cs stops last kept shows early sealed is all mixed replies good = absurd mixed
  closing (e ∷ es) s b cs stops last kept shows early sealed is all (inl two) replies good =
      let leaves : LeavesAll settings roads s (step roads.nodes settings.wait s e.command).0 = asked_on s e.command two.0 kept.state in
      let quiet = asked_quiet s e.command two.0 in
      asked_before e es s stops last two.0 kept.state leaves
      (closing es (step roads.nodes settings.wait s e.command).0 b cs stops last (kept_still s (step roads.nodes settings.wait s e.command).0 stops kept leaves)
      (leaves.shows b shows)
      (λ id v found. early id v (ap (find_vehicle id) (sym leaves.vehicles) ∙ found)) (quiet.sealed ∙ sealed) (quiet.last ∙ is) all two.1 replies.1 good.1)
  closing (e ∷ es) s b cs stops last kept shows early sealed is all (inr two) replies good =
      close_end e.lane e.command e.reply es s b stops last kept shows early sealed is two.0 replies.0 good.0
      (mixed_asked es cs all (asked_only roads.nodes settings.wait (step roads.nodes settings.wait s e.command).0 es replies.1) two.1)

  -- the seal, once everything is entered
  seal_end : (lane now : ℕ) (reply : Reply) (es : List Entry) (s : State) (cs : List Command) (stops : ℕ → List PlannedStop) →
      IsReadyForSeal settings roads now s stops → s.sealed ≡ None
      → ((last : ℕ) → s.last_seal ≡ Some last → last ≤ now) → AllByRecursion IsRequest cs → reply ≡ (step roads.nodes settings.wait s (Seal now)).1 →
      IsMixed (sealed_by reply) cs es
      → RepliesAreSteps roads.nodes settings.wait (step roads.nodes settings.wait s (Seal now)).0 es →
      ClosesAreGood settings roads (step roads.nodes settings.wait s (Seal now)).0 es
      → Ends s ((record { lane = lane; command = Seal now; reply = reply }) ∷ es) stops (Some now)
  unfolding sealed_state batch_of
  seal_end lane now reply es s cs stops ready closed later all replied mixed replies good =
      let stepped : step roads.nodes settings.wait s (Seal now) ≡ (sealed_state settings.wait s now, Sealed (one_more s.batches)) =
      seal_is roads.nodes settings.wait s now closed later in
      let next : (step roads.nodes settings.wait s (Seal now)).0 ≡ sealed_state settings.wait s now = ap (λ (p : State × Reply). p.0) stepped in
      let told : sealed_by reply ≡ Some (one_more s.batches) = ap sealed_by (replied ∙ ap (λ (p : State × Reply). p.1) stepped) in
      let rest : Ends (sealed_state settings.wait s now) es stops (Some now) =
      closing es (sealed_state settings.wait s now) (batch_of settings.wait s now) cs stops (Some now)
      (sealed_kept settings roads s stops now ready.kept ready.later later (Sealed (one_more s.batches)) stepped)
      (sealed_shows settings roads s stops now ready.kept ready.later later) ready.reported refl refl all
      (subst (λ o. IsMixed o cs es) told mixed) (subst (λ t. RepliesAreSteps roads.nodes settings.wait t es) next replies)
      (subst (λ t. ClosesAreGood settings roads t es) next good) in
      ends_before (record { lane = lane; command = Seal now; reply = reply }) es s stops (Some now)
      (record {
        entry = tt;
        seats = ready.kept.state.consistent.seats;
        by = λ x limit bound. tt;
        bounds =
            subst (KeepsBounds s) (sym next) (sealed_bounds settings roads s stops now ready.kept ready.later later);
      }) refl
      (subst (λ t. Ends t es stops (Some now)) (sym next) rest)

-- what is entered, with requests of any lanes between, and then what follows
module _ (settings : Settings) (roads : Roads) (P : List BookRider → ℕ → Vehicle → List Command → Type 0) (way : IsWay settings roads P)
    (left : ℕ → List PlannedStop) (tail : List Command) (before last : Option ℕ)
    (end : (es : List Entry) (s : State) → IsDayState roads s → ArePending P s [] → s.sealed ≡ None → s.last_seal ≡ before → IsMixed None tail es
    → RepliesAreSteps roads.nodes settings.wait s es → ClosesAreGood settings roads s es → Ends settings roads s es left last) where
  entering : (es : List Entry) (s : State) (entered : List Command) → IsDayState roads s → ArePending P s entered → AllByRecursion (IsOwned s) entered
      → s.sealed ≡ None → s.last_seal ≡ before → IsMixed None (entered ++ tail) es → RepliesAreSteps roads.nodes settings.wait s es →
      ClosesAreGood settings roads s es → Ends settings roads s es left last
  unfolding RepliesAreSteps ClosesAreGood
  entering es s [] day pending owned closed is mixed replies good = end es s day pending closed is mixed replies good
  entering [] s (next ∷ entered) day pending owned closed is mixed replies good = absurd mixed
  entering (e ∷ es) s (next ∷ entered) day pending owned closed is (inl two) replies good =
      let leaves : LeavesAll settings roads s (step roads.nodes settings.wait s e.command).0 = asked_on settings roads s e.command two.0 day in
      let quiet = asked_quiet settings roads s e.command two.0 in
      asked_before settings roads e es s left last two.0 day leaves
      (entering es (step roads.nodes settings.wait s e.command).0 (next ∷ entered) leaves.state
      (asked_pending settings roads P way s (step roads.nodes settings.wait s e.command).0 (next ∷ entered) pending leaves)
      (still_owned s (step roads.nodes settings.wait s e.command).0 (next ∷ entered) (step-leaves roads.nodes settings.wait s e.command).ids owned)
      (quiet.sealed ∙ closed) (quiet.last ∙ is) two.1 replies.1 good.1)
  entering (e ∷ es) s (next ∷ entered) day pending owned closed is (inr two) replies good =
      let own : vehicle_in e.command ≡ Some owned.0.0 = ap vehicle_in two.0 ∙ owned.0.2 in
      let plain : IsPlain e.command = grind (arith, own) in
      let quiet = plain-quiet roads.nodes settings.wait s e.command plain in
      let none : sealed_by e.reply ≡ None = ap sealed_by replies.0 ∙ quiet.told in
      let one : IsOneOn settings roads P way s e.command entered = subst (λ c. IsOneOn settings roads P way s c entered) (sym two.0)
      (one_on settings roads P way s next entered day pending owned.0) in
      ends_before settings roads e es s left last (subst (OneKeeps settings roads s e.command) (sym replies.0) one.keeps) (plain_plan e.command e.reply plain)
      (entering es (step roads.nodes settings.wait s e.command).0 entered one.state one.pending
      (still_owned s (step roads.nodes settings.wait s e.command).0 entered (step-leaves roads.nodes settings.wait s e.command).ids owned.1)
      (quiet.sealed ∙ closed) (quiet.last ∙ is) (subst (λ o. IsMixed o (entered ++ tail) es) none two.1) replies.1 good.1)

  -- all that is entered of the vehicles of a state, each by a rule
  pub entered_all : (es : List Entry) (s : State) (courses : List Course) (entered : List Command) (R : Vehicle → Course → List Command → Type 0) →
      IsDayState roads s → length courses ≡ length s.vehicles → EachEnters R s.vehicles courses entered
      → ((id : ℕ) (v : Vehicle) → find_vehicle id s.vehicles ≡ Some v → R v (course_of s.vehicles courses id) (filter (is_for id) entered) →
      P s.riders id v (filter (is_for id) entered))
      → s.sealed ≡ None → s.last_seal ≡ before → IsMixed None (entered ++ tail) es → RepliesAreSteps roads.nodes settings.wait s es →
      ClosesAreGood settings roads s es → Ends settings roads s es left last
  entered_all es s courses entered R day same each pending closed is mixed replies good =
      let differ : KeysDiffer (λ (v : Vehicle). v.id) s.vehicles = KeysDiffer-from_rise (λ (v : Vehicle). v.id) s.vehicles day.consistent.vehicles_rise in
      let found : AllByRecursion (λ (v : Vehicle). find_vehicle v.id s.vehicles ≡ Some v) s.vehicles =
      recursion_from_All (λ (v : Vehicle). find_vehicle v.id s.vehicles ≡ Some v) s.vehicles
      (λ k d h. look_up-at (λ (v : Vehicle). v.id) k s.vehicles d differ h) in
      entering es s entered day (λ id v at. pending id v at (part_of R id s.vehicles courses entered v differ same at each))
      (owners s R s.vehicles courses entered found each) closed is mixed replies good

-- the seal, behind requests
sealing : (settings : Settings) (roads : Roads) (now : ℕ) (target : ℕ → Option ℕ) (left : ℕ → List PlannedStop) (net : IsNetwork roads) (cs : List Command) →
    AllByRecursion IsRequest cs → (es : List Entry) (s : State) → IsDayState roads s
    → ArePending (λ riders id v commands. IsPending settings roads now riders v (target id) commands (left id)) s []
    → s.sealed ≡ None → ((last : ℕ) → s.last_seal ≡ Some last → last ≤ now) → IsMixed None (Seal now ∷ cs) es → RepliesAreSteps roads.nodes settings.wait s es →
    ClosesAreGood settings roads s es → Ends settings roads s es left (Some now)
unfolding RepliesAreSteps ClosesAreGood
sealing settings roads now target left net cs all [] s day pending closed later mixed replies good = absurd mixed
sealing settings roads now target left net cs all (e ∷ es) s day pending closed later (inl two) replies good =
    let leaves : LeavesAll settings roads s (step roads.nodes settings.wait s e.command).0 = asked_on settings roads s e.command two.0 day in
    let quiet = asked_quiet settings roads s e.command two.0 in
    asked_before settings roads e es s left (Some now) two.0 day leaves
    (sealing settings roads now target left net cs all es (step roads.nodes settings.wait s e.command).0 leaves.state
    (asked_pending settings roads (λ riders id v commands. IsPending settings roads now riders v (target id) commands (left id))
    (pending_way settings roads now target left net) s (step roads.nodes settings.wait s e.command).0 [] pending leaves)
    (quiet.sealed ∙ closed) (λ last h. later last (sym quiet.last ∙ h)) two.1 replies.1 good.1)
sealing settings roads now target left net cs all (e ∷ es) s day pending closed later (inr two) replies good =
    subst (λ c. Ends settings roads s ((record { lane = e.lane; command = c; reply = e.reply }) ∷ es) left (Some now)) (sym two.0)
    (seal_end settings roads e.lane now e.reply es s cs left (finished settings roads now target left s day pending) closed later all
    (subst (λ c. e.reply ≡ (step roads.nodes settings.wait s c).1) two.0 replies.0) two.1
    (subst (λ c. RepliesAreSteps roads.nodes settings.wait (step roads.nodes settings.wait s c).0 es) two.0 replies.1)
    (subst (λ c. ClosesAreGood settings roads (step roads.nodes settings.wait s c).0 es) two.0 good.1))

-- a round with a seal: all vehicles are entered before it
pub seal_round : (settings : Settings) (roads : Roads) (s : State) (courses : List Course) (now : ℕ) (entered cs : List Command) (es : List Entry) →
    IsNetwork roads
    → IsKept settings roads s (λ id. (course_of s.vehicles courses id).stops.items) → length courses ≡ length s.vehicles → s.sealed ≡ None →
    ((last : ℕ) → s.last_seal ≡ Some last → last ≤ now)
    → AreEntered roads settings.dwell now s.vehicles courses entered → AllByRecursion IsRequest cs → IsMixed None (entered ++ Seal now ∷ cs) es
    → RepliesAreSteps roads.nodes settings.wait s es → ClosesAreGood settings roads s es
    → Ends settings roads s es (λ id. to_come now (course_of s.vehicles courses id).stops.items) (Some now)
seal_round settings roads s courses now entered cs es net kept same closed later are all mixed replies good =
    let target : ℕ → Option ℕ = λ id. (course_of s.vehicles courses id).target in
    let left : ℕ → List PlannedStop = λ id. to_come now (course_of s.vehicles courses id).stops.items in
    entered_all settings roads (λ riders id v commands. IsPending settings roads now riders v (target id) commands (left id))
    (pending_way settings roads now target left net) left (Seal now ∷ cs) s.last_seal (Some now)
    (λ es t day pending closed is mixed replies good. sealing settings roads now target left net cs all es t day pending closed
    (λ last h. later last (sym is ∙ h)) mixed replies good)
    es s courses entered (IsEntered roads settings.dwell now) kept.state same (entered_each roads settings.dwell now s.vehicles courses entered are)
    (λ id v at part. IsPending.waits v.time (course_of s.vehicles courses id).stops.items part.there (omega arith) (kept.each id v at) part.reported part.told
    refl) closed refl mixed replies good

-- a vehicle whose stops are all run serves nothing more
serves_none : (settings : Settings) (roads : Roads) (riders : List BookRider) (v : Vehicle) (free : ℕ) (stops : List PlannedStop) →
    IsServing settings roads riders v free stops → [] ≡ map (stop_command v.id) stops
    → IsServing settings roads riders v v.time []
serves_none settings roads riders v free [] serves told = record {
  reached = tt;
  seats = serves.seats;
  right = serves.right;
  calls = serves.calls;
  few =
      serves.few;
}
serves_none settings roads riders v free (stop ∷ stops) serves told = absurd cc

-- the last round: the stops that are left
pub last_round : (settings : Settings) (roads : Roads) (s : State) (courses : List Course) (es : List Entry) →
    IsKept settings roads s (λ id. (course_of s.vehicles courses id).stops.items)
    → length courses ≡ length s.vehicles → s.sealed ≡ None → IsMixed None (left_commands s.vehicles courses) es →
    RepliesAreSteps roads.nodes settings.wait s es → ClosesAreGood settings roads s es
    → Ends settings roads s es (λ id. []) s.last_seal
last_round settings roads s courses es kept same closed mixed replies good =
    entered_all settings roads (λ riders id v commands. IsRunning settings roads riders v commands) (running_way settings roads) (λ id. []) [] s.last_seal
    s.last_seal
    (λ es t day pending closed is mixed replies good. asked_end settings roads es t (λ id. []) s.last_seal
    (record {
      state = day;
      each = λ id v found. let runs = pending id v found in serves_none settings roads t.riders v runs.free runs.stops runs.serves
          runs.told;
    }) closed is
    (mixed_asked es [] tt (asked_only roads.nodes settings.wait t es replies) mixed))
    es s courses (left_commands s.vehicles courses) (λ v course own. own ≡ map (stop_command v.id) course.stops.items) kept.state same
    (left_each s.vehicles courses)
    (λ id v at part. record {
      free = v.time;
      stops = (course_of s.vehicles courses id).stops.items;
      early = omega arith;
      serves = kept.each id v at;
      told =
          part;
    })
    closed refl (subst (λ cs. IsMixed None cs es) (sym (append-nil (left_commands s.vehicles courses))) mixed) replies good
