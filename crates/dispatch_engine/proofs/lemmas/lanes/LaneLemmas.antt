-- From what each lane did to the one history in which all of them stand.
use Rattle.std.proofs.Common.{
  ◌≡◌,
  ◌≢◌,
  ℕ,
  suc,
  ◌+◌,
  ◌<◌,
  ◌≤◌,
  ◌==◌,
  Bool,
  true,
  false,
  cond,
  eqb,
  is_some,
  List,
  [],
  ◌∷◌,
  length,
  map,
  filter,
  Option,
  Some,
  None,
  refl,
  sym,
  ap,
  subst,
  ◌∙◌,
  inl,
  inr,
  arith,
  All,
  option_map,
  slice_index_or,
}
use Rattle.dispatch_engine.proofs.Common.{
  AllByRecursion,
  enumerate_from,
  cases_lt,
  eqb-false,
  false≢true,
  nat_tests,
  Batch,
  BookView,
  state_after,
  RepliesAreSteps,
  batch_of,
  sealed_state,
  step,
  submit,
  cancel,
  report,
  pickup,
  dropoff,
  seal,
  close,
  Command,
  Close,
  Entry,
  Reply,
  Closed,
  State,
  Settings,
  Roads,
  calls_of,
  LoggedCall,
  LockedReply,
  calls_from,
  call_of,
  entry_of,
  sealed_by,
  snapshot_after,
  BookPass,
  IsFinished,
  of_lane,
  IsCloseOf,
  IsLaneRunFrom,
  IsLaneRun,
  last_sealed,
  IsGoodFor,
  LaneClosesAreGood,
  IsGoodClose,
  ClosesAreGood,
  IsReady,
  IsPlain,
  calls_of_lane,
  calls_of_pass,
  HaveRun,
  IsJointRun,
}
use Rattle.std.proofs.lemmas.Bool.{cases_eq, eq-eqb, ne_eqb}
use Rattle.std.proofs.lemmas.List.Elements.{All-filter, All-from_recursion, recursion_from_All}
use Rattle.dispatch_engine.proofs.lemmas.lanes.RunLemmas.{filter-mapped}
use Rattle.request_book.specs.declared.values.outcome.Outcome.{Outcome}

-- what a plain command leaves as it was
pub record IsQuiet (s : State) (after : State × Reply) : Type 0 where
  pub sealed : after.0.sealed ≡ s.sealed
  pub last : after.0.last_seal ≡ s.last_seal
  pub batches : after.0.batches ≡ s.batches
  pub shown : snapshot_after after.1 after.0 ≡ None
  pub told : sealed_by after.1 ≡ None

pub plain-quiet : (nodes : List ℕ) (wait : ℕ) (s : State) (command : Command) → IsPlain command → IsQuiet s (step nodes wait s command)
unfolding step submit cancel report pickup dropoff
plain-quiet nodes wait s command plain = record { sealed = grind arith; last = grind arith; batches = grind arith; shown = grind arith; told = grind arith }

-- the batch that stands sealed was sealed last
abbrev IsLast : State → Option Batch → Type 0
IsLast s last = (b : Batch) → s.sealed ≡ Some b → last ≡ Some b

step-last : (nodes : List ℕ) (wait : ℕ) (s : State) (command : Command) (last : Option Batch) → IsLast s last →
    IsLast (step nodes wait s command).0 (last_sealed last (snapshot_after (step nodes wait s command).1 (step nodes wait s command).0))
unfolding step submit cancel report pickup dropoff seal close sealed_state
step-last nodes wait s command last is b e = grind (arith, is b)

-- a close is answered so where a batch stands sealed
closed-some : (nodes : List ℕ) (wait : ℕ) (s : State) (batch : ℕ) (outcome : Outcome) → Closed ≡ (step nodes wait s (Close batch outcome)).1 →
    is_some s.sealed ≡ true
unfolding step close
closed-some nodes wait s batch outcome e = grind arith

stands-last : (o last : Option Batch) (b : Batch) → is_some o ≡ true → ((c : Batch) → o ≡ Some c → last ≡ Some c) → last ≡ Some b → o ≡ Some b
stands-last None last b some is e = absurd cc
stands-last (Some c) last b some is e = sym (is c refl) ∙ e

-- lane 0 alone seals and closes
abbrev pub IsInZero : Entry → Type 0
IsInZero e = e.lane ≢ 0 → IsPlain e.command

-- a plain command seals no batch
abbrev IsTold : Entry → Type 0
IsTold e = IsPlain e.command → sealed_by e.reply ≡ None

module _ (settings : Settings) (roads : Roads) where
  plain-close : (s : State) (command : Command) (reply : Reply) → IsPlain command → IsGoodClose settings roads s command reply
  plain-close s (Close batch outcome) reply plain = absurd plain
  plain-close s _ reply plain = tt

  -- a close of the lane that seals is good for the batch that stands sealed
  good-close : (s : State) (command : Command) (reply : Reply) (last : Option Batch) → IsLast s last → IsGoodFor settings roads last command →
      reply ≡ (step roads.nodes settings.wait s command).1 → IsGoodClose settings roads s command reply
  good-close s (Close batch outcome) Closed last is good e = (
    good.0,
    stands-last s.sealed last good.0 (closed-some roads.nodes settings.wait s batch outcome e)
        is good.1,
    good.2,
  )
  good-close s _ _ last is good e = tt

  pub closes-join : (s : State) (last : Option Batch) (es : List Entry) → IsLast s last → RepliesAreSteps roads.nodes settings.wait s es →
      AllByRecursion IsInZero es → LaneClosesAreGood settings roads last (calls_of_lane 0 (calls_from roads.nodes settings.wait s es)) →
      ClosesAreGood settings roads s es
  unfolding RepliesAreSteps calls_from ClosesAreGood
  closes-join s last [] is replies zeroth good = tt
  closes-join s last (e ∷ es) is replies zeroth good =
      let next = (step roads.nodes settings.wait s e.command).0 in
      elim (cases_eq e.lane 0) [
        | inl own ↦
            let here : LaneClosesAreGood settings roads last (call_of next e ∷ calls_of_lane 0 (calls_from roads.nodes settings.wait next es)) =
            rw (eq-eqb e.lane 0 own) at good in
            let sealed : IsLast next (last_sealed last (snapshot_after e.reply next)) = rw replies.0
            (step-last roads.nodes settings.wait s e.command last is) in (
              good-close s e.command e.reply last is here.0 replies.0,
              closes-join next (last_sealed last (snapshot_after e.reply next)) es sealed replies.1
                  zeroth.1 here.1,
            )
        | inr other ↦
            let quiet = plain-quiet roads.nodes settings.wait s e.command (zeroth.0 other) in (
              plain-close s e.command e.reply (zeroth.0 other),
              closes-join next last es (λ b f. is b (sym quiet.sealed ∙ f)) replies.1 zeroth.1
                  (rw (ne_eqb e.lane 0 other) at good),
            )
      ]

-- the batch of this number, if any, stands sealed
abbrev Stands : State → Option ℕ → Type 0
Stands s pending = option_map (λ b. b.number) s.sealed ≡ pending

none-stands : (o : Option Batch) → option_map (λ b. b.number) o ≡ None → o ≡ None
none-stands None e = refl
none-stands (Some b) e = absurd cc

module _ (nodes : List ℕ) (wait : ℕ) where
  -- where no batch stands sealed, the one of the reply does then
  opens : (s : State) (command : Command) → s.sealed ≡ None → Stands (step nodes wait s command).0 (sealed_by (step nodes wait s command).1)
  unfolding step submit cancel report pickup dropoff seal close sealed_state batch_of
  opens s command none = grind arith

  -- the close of the batch that stands sealed is taken
  closes : (s : State) (command : Command) (batch : ℕ) → Stands s (Some batch) → IsCloseOf batch command → (step nodes wait s command).0.sealed ≡ None
  unfolding step close
  closes s command batch stands is = grind (arith, nat_tests)

  ends-first : (s : State) (pending : Option ℕ) (cs : List Command) (e : Entry) (rest : List Entry) (More : Type 0)
      → Stands s pending → e.reply ≡ (step nodes wait s e.command).1 → IsInZero e
      → ((p : Option ℕ) (left : List Command) → Stands (step nodes wait s e.command).0 p → IsLaneRunFrom p left rest → More)
      → (here : Bool) → eqb e.lane 0 ≡ here
      → IsLaneRunFrom pending cs (cond here (e ∷ rest) rest) → More
  ends-first s pending cs e rest More stands reply zeroth more false h run =
      let quiet = plain-quiet nodes wait s e.command (zeroth (eqb-false e.lane 0 h)) in
      more pending cs (ap (option_map (λ b. b.number)) quiet.sealed ∙ stands) run
  ends-first s None [] e rest More stands reply zeroth more true h run = absurd run
  ends-first s None (c ∷ cs) e rest More stands reply zeroth more true h run =
      more (sealed_by e.reply) cs (opens s e.command (none-stands s.sealed stands) ∙ ap sealed_by (sym reply)) run.1
  ends-first s (Some batch) cs e rest More stands reply zeroth more true h run =
      more None cs (ap (option_map (λ b. b.number)) (closes s e.command batch stands run.0)) run.1

  -- after a run of lane 0 no batch stands sealed
  pub ends-closed : (s : State) (pending : Option ℕ) (cs : List Command) (es : List Entry) → Stands s pending → RepliesAreSteps nodes wait s es →
      AllByRecursion IsInZero es → IsLaneRunFrom pending cs (of_lane 0 es) → (state_after nodes wait s es).sealed ≡ None
  unfolding RepliesAreSteps state_after
  ends-closed s None cs [] stands replies zeroth run = none-stands s.sealed stands
  ends-closed s (Some batch) cs [] stands replies zeroth run = absurd run
  ends-closed s pending cs (e ∷ es) stands replies zeroth run =
      let next = (step nodes wait s e.command).0 in
      ends-first s pending cs e (of_lane 0 es) ((state_after nodes wait next es).sealed ≡ None) stands replies.0 zeroth.0
      (λ p left here rest. ends-closed next p left es here replies.1 zeroth.1 rest) (eqb e.lane 0) refl run

  pub each-told : (s : State) (es : List Entry) → RepliesAreSteps nodes wait s es → AllByRecursion IsTold es
  unfolding RepliesAreSteps
  each-told s [] replies = tt
  each-told s (e ∷ es) replies = (
    λ plain. ap sealed_by replies.0 ∙ (plain-quiet nodes wait s e.command plain).told,
    each-told (step nodes wait s e.command).0 es replies.1,
  )

-- the entries of a run of plain commands are plain
plain-run : (cs : List Command) (es : List Entry) → AllByRecursion IsPlain cs → AllByRecursion IsTold es → IsLaneRun cs es →
    AllByRecursion (λ e. IsPlain e.command) es
plain-run [] [] plain told run = tt
plain-run (c ∷ cs) (e ∷ es) plain told run =
    let here : IsPlain e.command = subst IsPlain (sym run.0) plain.0 in
    (here, plain-run cs es plain.1 told.1 (subst (λ (p : Option ℕ). IsLaneRunFrom p cs es) (told.0 here) run.1))
plain-run _ _ plain told run = absurd run

each-of : (P : Entry → Type 0) (b : Bool) (e : Entry) (rest : List Entry) → AllByRecursion P (cond b (e ∷ rest) rest) → (b ≡ true → P e) × AllByRecursion P rest
each-of P true e rest all = (λ _. all.0, all.1)
each-of P false e rest all = (λ is. absurd (false≢true is), all)

only-zero : (es : List Entry) → ((k : ℕ) → k ≢ 0 → AllByRecursion (λ e. IsPlain e.command) (of_lane k es)) → AllByRecursion IsInZero es
only-zero [] plain = tt
only-zero (e ∷ es) plain =
    let parts = λ (k : ℕ) (ne : k ≢ 0). each-of (λ x. IsPlain x.command) (eqb e.lane k) e (of_lane k es) (plain k ne) in
    (λ ne. (parts e.lane ne).0 (eq-eqb e.lane e.lane refl), only-zero es (λ k ne. (parts k ne).1))

-- a lane beyond those of the entries has none
beyond-none : (n lane : ℕ) (es : List Entry) → n ≤ lane → All (λ e. e.lane < n) es → of_lane lane es ≡ []
beyond-none n lane [] le all = refl
beyond-none n lane (e ∷ es) le all =
    let here : e.lane < n = all 0 e (omega arith) in
    grind (arith, nat_tests, beyond-none n lane es le (λ k d lt. all (suc k) d (omega (arith, lt))))

-- the calls of a pass are those of its lane
calls-cut : (lane n : ℕ) (calls : List (LoggedCall Command LockedReply)) → map (λ p. p.1) (filter (λ p. p.1.lane == lane) (enumerate_from n calls)) ≡
    calls_of_lane lane calls
calls-cut lane n [] = refl
calls-cut lane n (c ∷ cs) = grind (arith, nat_tests, calls-cut lane (n + 1) cs)

-- the calls of entries give the entries back
calls-entries : (nodes : List ℕ) (wait : ℕ) (s : State) (es : List Entry) → map entry_of (calls_from nodes wait s es) ≡ es
unfolding calls_from
calls-entries nodes wait s [] = refl
calls-entries nodes wait s (e ∷ es) = ap (λ l. e ∷ l) (calls-entries nodes wait (step nodes wait s e.command).0 es)

-- passes that ran their lanes' commands ran them in one history
module _ (settings : Settings) (roads : Roads) (lanes : ℕ → List Command) (start book : BookView) (passes : List BookPass)
    (ready : IsReady settings roads start) (done : IsFinished start passes book) (run : HaveRun settings roads lanes passes) where
  -- the book is over these roads, with this wait
  over : (P : List ℕ → ℕ → Type 0) → P start.nodes start.wait → P roads.nodes settings.wait
  over P p = subst (λ ns. P ns settings.wait) ready.nodes (subst (λ w. P start.nodes w) ready.wait p)

  abbrev log : List (LoggedCall Command LockedReply)
  log = calls_from roads.nodes settings.wait start.state done.since

  replies : RepliesAreSteps roads.nodes settings.wait start.state done.since
  replies = over (λ ns w. RepliesAreSteps ns w start.state done.since) done.replies

  calls-of : (k : ℕ) (d : BookPass) → k < length passes → calls_of_pass (slice_index_or passes k d) ≡ calls_of_lane k log
  calls-of k d lt =
      ap (map (λ p. p.1)) (over (λ ns w. (slice_index_or passes k d).calls ≡ calls_of k (calls_from ns w start.state done.since)) (done.cut k d lt))
      ∙ calls-cut k 0 log

  entries-of : (k : ℕ) (d : BookPass) → k < length passes → map entry_of (calls_of_pass (slice_index_or passes k d)) ≡ of_lane k done.since
  entries-of k d lt =
      ap (map entry_of) (calls-of k d lt)
      ∙ sym (filter-mapped entry_of (λ (e : Entry). e.lane == k) log)
      ∙ ap (of_lane k) (calls-entries roads.nodes settings.wait start.state done.since)

  ran : (d : BookPass) (k : ℕ) → IsLaneRun (lanes k) (of_lane k done.since)
  ran d k = elim (cases_lt k (length passes)) [
    | inl lt ↦ subst (IsLaneRun (lanes k)) (entries-of k d lt) (run.runs k d lt)
    | inr le ↦ rw (run.beyond k le, beyond-none (length passes) k done.since le done.lanes) tt
  ]

  pub joined : IsJointRun settings roads start.state lanes done.since
  joined =
      let told = each-told roads.nodes settings.wait start.state done.since replies in
      let zeroth : AllByRecursion IsInZero done.since = only-zero done.since (λ k ne. plain-run (lanes k) (of_lane k done.since) (run.plain k ne)
      (recursion_from_All IsTold _ (All-filter (λ e. e.lane == k) IsTold done.since (All-from_recursion IsTold done.since told))) (ran pass k)) in
      record {
        lanes = ran pass;
        closes = closes-join settings roads start.state None done.since
            (λ b e. (let no : None ≡ Some b = sym ready.closed ∙ e in absurd cc))
            replies zeroth
            (subst (LaneClosesAreGood settings roads None) (calls-of 0 pass run.some) (run.closes pass));
        closed = ends-closed roads.nodes settings.wait start.state None (lanes 0) done.since (ap (option_map (λ b. b.number)) ready.closed) replies zeroth
            (ran pass 0);
      }
    where
      first : (ps : List BookPass) → 0 < length ps → BookPass
      first [] lt = absurd (omega (arith, lt))
      first (p ∷ ps) lt = p

      pass : BookPass
      pass = first passes run.some
