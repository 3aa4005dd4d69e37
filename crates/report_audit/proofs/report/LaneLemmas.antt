-- Lanes, entry by entry.
use Rattle.std.proofs.Common.{
  ◌≡◌,
  ◌≢◌,
  ◌==◌,
  ℕ,
  zero,
  suc,
  ◌<◌,
  ◌≤◌,
  List,
  [],
  ◌∷◌,
  ◌++◌,
  length,
  set,
  drop,
  slice_get,
  Option,
  Some,
  None,
  refl,
  sym,
  ap,
  ◌∙◌,
  subst,
  ⊎_elim,
  arith,
  append-nil,
  append_assoc,
  eq-eqb,
  option_map,
  rules,
}
use Rattle.report_audit.proofs.Common.{
  cases_eq,
  cond-true,
  get_or_past,
  Batch,
  of_lane,
  IsLaneRun,
  IsLaneRunFrom,
  IsLaneBeginning,
  last_sealed,
  plain-quiet,
  LaneProgress,
  at_start,
  progress_at,
  IsRest,
  IsNext,
  IsNextFrom,
  progress_after,
  HaveCome,
  AreDone,
  IsNoClose,
  step,
  Command,
  Close,
  Entry,
  Outcome,
  Reply,
  Accepted,
  Closed,
  State,
  NumberedLanes,
  IsRound,
  MayStand,
  lane_at,
  sealed_by,
  snapshot_before,
  Waits,
}
use Rattle.std.proofs.lemmas.List.{get_or-set_same, get_or-set_other}
use Rattle.std.proofs.lemmas.List.Elements.{filter-append}
use Rattle.dispatch_engine.proofs.lemmas.lanes.StandLemmas.{stands-plain}
use Rattle.request_book.specs.declared.values.outcome.Answer.TheVariants.{Overflow}
use Rattle.dispatch_engine.proofs.lemmas.lanes.LockedLemmas.{step-sealed}
use Rattle.report_audit.proofs.report.JournalLemmas.{sealed-after}

-- the entries of a lane
pub of_lane-append : (lane : ℕ) (xs ys : List Entry) → of_lane lane (xs ++ ys) ≡ of_lane lane xs ++ of_lane lane ys
of_lane-append lane xs ys = filter-append (λ e. e.lane == lane) xs ys

of_lane-own : (e : Entry) (es : List Entry) → of_lane e.lane (e ∷ es) ≡ e ∷ of_lane e.lane es
of_lane-own e es = cond-true (e.lane == e.lane) (e ∷ of_lane e.lane es) (of_lane e.lane es) (eq-eqb e.lane e.lane refl)

-- those of an entry's lane, with it and others behind them
pub own-lane : (xs : List Entry) (e : Entry) (ys : List Entry) → of_lane e.lane (xs ++ e ∷ ys) ≡ of_lane e.lane xs ++ (e ∷ of_lane e.lane ys)
own-lane xs e ys = of_lane-append e.lane xs (e ∷ ys) ∙ ap (λ (zs : List Entry). of_lane e.lane xs ++ zs) (of_lane-own e ys)

-- an outcome that tells nothing
abbrev pub no_outcome : Outcome
no_outcome = record { expired = []; answer = Overflow }

-- a lane can always go on to its end
entries_for : ℕ → List Command → List Entry
entries_for lane [] = []
entries_for lane (c ∷ cs) = (record { lane = lane; command = c; reply = Accepted }) ∷ entries_for lane cs

runs_on : (lane : ℕ) (cs : List Command) → IsLaneRunFrom None cs (entries_for lane cs)
unfolding entries_for
runs_on lane [] = tt
runs_on lane (c ∷ cs) = (refl, runs_on lane cs)

can_end_from : (pending : Option ℕ) (cs : List Command) → (rest : List Entry) × IsLaneRunFrom pending cs rest
can_end_from None cs = (entries_for 0 cs, runs_on 0 cs)
can_end_from (Some batch) cs = ((record { lane = 0; command = Close batch no_outcome; reply = Closed }) ∷ entries_for 0 cs, (refl, runs_on 0 cs))

pub can_end : (commands : List Command) (progress : LaneProgress) → (rest : List Entry) × IsRest commands progress rest
can_end commands progress = can_end_from progress.pending (drop progress.taken commands)

-- what comes next is the first of what is left
next_first : (taken : ℕ) (cs : List Command) (e : Entry) (rest : List Entry) → IsLaneRunFrom None (drop taken cs) (e ∷ rest) →
    slice_get cs taken ≡ Some e.command
next_first zero [] e rest run = absurd run
next_first zero (c ∷ cs) e rest run = ap Some (sym run.0)
next_first (suc k) [] e rest run = absurd run
next_first (suc k) (c ∷ cs) e rest run = next_first k cs e rest run

next_from : (pending : Option ℕ) (taken : ℕ) (cs : List Command) (e : Entry) (rest : List Entry) → IsLaneRunFrom pending (drop taken cs) (e ∷ rest) →
    IsNextFrom pending taken cs e.command
next_from None taken cs e rest run = next_first taken cs e rest run
next_from (Some batch) taken cs e rest run = run.0

pub rest_next : (commands : List Command) (progress : LaneProgress) (e : Entry) (rest : List Entry) → IsRest commands progress (e ∷ rest) →
    IsNext commands progress e.command
rest_next commands progress e rest run = next_from progress.pending progress.taken commands e rest run

-- an entry begins what is left of its lane exactly where its command is the next
pub begins_next : (round : NumberedLanes) (lanes : List LaneProgress) (es : List Entry) (e : Entry) → HaveCome round lanes es
    → IsLaneBeginning (lane_at round e.lane) (of_lane e.lane (es ++ e ∷ [])) → IsNext (lane_at round e.lane) (progress_at lanes e.lane) e.command
begins_next round lanes es e come begins =
    let text : of_lane e.lane (es ++ e ∷ []) ++ begins.0 ≡ of_lane e.lane es ++ (e ∷ begins.0) =
    ap (λ (xs : List Entry). xs ++ begins.0) (own-lane es e []) ∙ append_assoc (of_lane e.lane es) (e ∷ []) begins.0 in
    rest_next (lane_at round e.lane) (progress_at lanes e.lane) e begins.0
    ((come e.lane (e ∷ begins.0)).1 (subst (IsLaneRun (lane_at round e.lane)) text begins.1))

-- each lane's entries begin a run of it
pub come_begins : (round : NumberedLanes) (lanes : List LaneProgress) (es : List Entry) → HaveCome round lanes es → (lane : ℕ) →
    IsLaneBeginning (lane_at round lane) (of_lane lane es)
come_begins round lanes es come lane =
    let end = can_end (lane_at round lane) (progress_at lanes lane) in
    (end.0, (come lane end.0).0 end.1)

-- the lanes are done exactly where each is at its end
pub done_end : (round : NumberedLanes) (lanes : List LaneProgress) (es : List Entry) → HaveCome round lanes es → AreDone round lanes → (lane : ℕ) →
    IsLaneRun (lane_at round lane) (of_lane lane es)
done_end round lanes es come done lane = subst (IsLaneRun (lane_at round lane)) (append-nil (of_lane lane es)) ((come lane []).0 (done lane))

pub end_done : (round : NumberedLanes) (lanes : List LaneProgress) (es : List Entry) → HaveCome round lanes es →
    ((lane : ℕ) → IsLaneRun (lane_at round lane) (of_lane lane es)) → AreDone round lanes
end_done round lanes es come end lane = (come lane []).1 (subst (IsLaneRun (lane_at round lane)) (sym (append-nil (of_lane lane es))) (end lane))

-- which batch a lane waits for
module _ (lanes : List LaneProgress) (lane : ℕ) (progress : LaneProgress) (low : lane < length lanes) where
  progress_same : progress_at (set lanes lane progress) lane ≡ progress
  progress_same = get_or-set_same lanes lane progress at_start low

  progress_other : (k : ℕ) → (k ≢ lane) → progress_at (set lanes lane progress) k ≡ progress_at lanes k
  progress_other k other = get_or-set_other lanes lane k progress at_start other

pub no_close_of : (lane : ℕ) (command : Command) → MayStand lane command → IsNoClose command
no_close_of lane (Close batch outcome) stands = absurd stands
no_close_of lane _ stands = tt

number_none : (o : Option Batch) → None ≡ option_map (λ b. b.number) o → o ≡ None
number_none None e = refl
number_none (Some b) e = absurd cc

after_none : (progress : LaneProgress) (reply : Reply) → progress.pending ≡ None → (progress_after progress reply).pending ≡ sealed_by reply
after_none progress reply e = rw e refl

after_some : (progress : LaneProgress) (batch : ℕ) (reply : Reply) → progress.pending ≡ Some batch → (progress_after progress reply).pending ≡ None
after_some progress batch reply e = rw e refl

-- behind a command of a lane that waits for no close
pub waits_command : (nodes : List ℕ) (wait : ℕ) (s : State) (lanes : List LaneProgress) (lane : ℕ) (command : Command) → lane < length lanes →
    Waits lanes s.sealed
    → (progress_at lanes lane).pending ≡ None → MayStand lane command
    → Waits (set lanes lane (progress_after (progress_at lanes lane) (step nodes wait s command).1)) (step nodes wait s command).0.sealed
waits_command nodes wait s lanes lane command low waits pending stands = ⊎_elim (λ (zeroth : lane ≡ 0). at_zero zeroth) (λ (other : lane ≢ 0). elsewhere other)
    (cases_eq lane 0)
  where
    reply : Reply
    reply = (step nodes wait s command).1

    progress : LaneProgress
    progress = progress_after (progress_at lanes lane) (step nodes wait s command).1

    after : Option Batch
    after = (step nodes wait s command).0.sealed

    at_zero : lane ≡ 0 → Waits (set lanes lane (progress_after (progress_at lanes lane) (step nodes wait s command).1)) (step nodes wait s command).0.sealed
    at_zero zeroth =
        let new : List LaneProgress = set lanes lane (progress_after (progress_at lanes lane) (step nodes wait s command).1) in
        let open_none : s.sealed ≡ None = number_none s.sealed (sym pending ∙ ap (λ (k : ℕ). (progress_at lanes k).pending) zeroth ∙ waits.first) in
        let sealed : snapshot_before wait s command ≡ (step nodes wait s command).0.sealed =
        last_none (snapshot_before wait s command) ∙ ap (λ (o : Option Batch). last_sealed o (snapshot_before wait s command)) (sym open_none) ∙
        sealed-after nodes wait s command (no_close_of lane command stands) in
        let here : (progress_at new 0).pending ≡ sealed_by (step nodes wait s command).1 =
        ap (λ (k : ℕ). (progress_at new k).pending) (sym zeroth)
        ∙ ap (λ (t : LaneProgress). t.pending) (progress_same lanes lane (progress_after (progress_at lanes lane) (step nodes wait s command).1) low)
        ∙ after_none (progress_at lanes lane) (step nodes wait s command).1 pending in
        record {
          first = here ∙ sym (step-sealed nodes wait s command) ∙ ap (option_map (λ b. b.number)) sealed;
          others = λ k other. ap (λ (t : LaneProgress). t.pending) (progress_other lanes lane
              (progress_after (progress_at lanes lane) (step nodes wait s command).1) low k (λ e. other (e ∙ zeroth))) ∙ waits.others k other;
        }
      where
        last_none : (o : Option Batch) → o ≡ last_sealed None o
        last_none None = refl
        last_none (Some b) = refl

    elsewhere : lane ≢ 0 → Waits (set lanes lane (progress_after (progress_at lanes lane) (step nodes wait s command).1)) (step nodes wait s command).0.sealed
    elsewhere other = search (rules, progress_after, progress_at, plain-quiet, stands-plain, progress_other, progress_same, after_none, option_map, cases_eq)

-- behind a close
pub waits_close : (lanes : List LaneProgress) (lane batch : ℕ) (sealed : Option Batch) → lane < length lanes → Waits lanes sealed
    → (progress_at lanes lane).pending ≡ Some batch → Waits (set lanes lane (progress_after (progress_at lanes lane) Closed)) None
waits_close lanes lane batch sealed low waits pending = search (rules, progress_after, progress_at, progress_same, after_some, cases_eq, progress_other)

-- the batch that a lane waits for is the one that is sealed
pub waits_for : (lanes : List LaneProgress) (lane batch : ℕ) (b : Batch) (sealed : Option Batch) → Waits lanes sealed →
    (progress_at lanes lane).pending ≡ Some batch → sealed ≡ Some b → batch ≡ b.number
waits_for lanes lane batch b sealed waits pending is = search (rules, cases_eq, progress_at, option_map)

-- no lane from the sixteenth on has a command
pub none_beyond : (round : NumberedLanes) (lanes : List LaneProgress) (lane : ℕ) (command : Command) → IsRound round → length lanes ≡ 16 → 16 ≤ lane →
    IsNext (lane_at round lane) (progress_at lanes lane) command → ⊥
none_beyond round lanes lane command kept sixteen high next =
    let none : lane_at round lane ≡ [] = get_or_past round.lanes lane [] (let n = kept.sixteen in omega (arith, n, high)) in
    let start : progress_at lanes lane ≡ at_start = get_or_past lanes lane at_start (omega (arith, sixteen, high)) in
    let at : IsNext [] at_start command = subst (λ (s : LaneProgress). IsNext [] s command) start
    (subst (λ (cs : List Command). IsNext cs (progress_at lanes lane) command) none next) in
    absurd (nothing command at)
  where
    nothing : (c : Command) → slice_get [] 0 ≡ Some c → ⊥
    nothing c e = cc
