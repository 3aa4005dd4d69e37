-- The report of a run is what is left at its beginning.
use Rattle.std.proofs.Common.{
  ◌≡◌,
  ◌≢◌,
  ℕ,
  suc,
  ◌<◌,
  ◌≤◌,
  ◌^◌,
  ◌&&◌,
  not,
  eqb,
  Bool,
  true,
  false,
  List,
  [],
  ◌∷◌,
  ◌++◌,
  map,
  Option,
  Some,
  None,
  refl,
  sym,
  ap,
  subst,
  ◌∙◌,
  append_assoc,
  append-nil,
  ◌⊎◌,
  inl,
  inr,
  arith,
}
use Rattle.std.proofs.lemmas.Bool.{cases_eq, cases_lt}
use Rattle.std.proofs.lemmas.Bool.Decides.{nat_tests}
use Rattle.std.proofs.lemmas.List.Elements.{All-cons, All-head, All-nil, All-tail, All-weaker}
use Rattle.std.proofs.lemmas.List.FromFn.{get_or-map-range_with_len}
use Rattle.std.specs.List.{All, filter}
use Rattle.dispatch_engine.specs.lanes.Lane.{ClosesAreGood, IsLaneRunFrom, of_lane}
use Rattle.dispatch_engine.specs.lanes.Locked.{sealed_by}
use Rattle.dispatch_engine.specs.lanes.Run.{IsRoundRun, IsRun, position_after_run, state_after_run}
unfoldable use Rattle.dispatch_report.specs.Lines.{lines_text}
unfoldable use Rattle.dispatch_report.specs.Round.{round_text, entries_lines}
use Rattle.dispatch_report.specs.Round.{end_text, round_line}
use Rattle.dispatch_report.specs.Words.{numbered}
use Rattle.std.specs.Prelude.{codes}
use Rattle.pool_base.specs.Distinct.{distinct}
use Rattle.input_rows.specs.declared.script.script_row.ScriptRow.{ScriptRow}
use Rattle.input_rows.specs.script.Round.{MayStand, NumberedLanes, lane_at}
use Rattle.input_rows.specs.script.Script.{round_of}
use Rattle.live_dispatch.proofs.lemmas.EntryLemmas.{lines-append, next-low}
use Rattle.live_dispatch.specs.Live.{IsBegunRun, IsRoundBeginning, journals_text, rows_rounds}
use Rattle.report_audit.specs.report.Types.{AreTold, JournalsAreTold}
use Rattle.report_past.proofs.lemmas.LaterLemmas.{All-distinct, All-numbers, of_round}
use Rattle.report_past.proofs.LeftLemmas.{entries_left, other_first, own_first}
use Rattle.report_past.proofs.RoundLemmas.{round-beyond}
use Rattle.report_past.proofs.lemmas.StepLemmas.{none_owed}
use Rattle.report_past.specs.Past.{MayBeLeft}
use Rattle.report_past.specs.Told.{AreScriptRows}
use Rattle.report_past.specs.work.Left.{Goes, IsLeft}
use Rattle.report_past.specs.work.Reading.{IsAbove, owed}
use Rattle.request_book.specs.Book.{next_position, opening}
use Rattle.request_book.specs.Replay.{RepliesAreSteps, state_after}
use Rattle.request_book.specs.declared.values.command.Command.{Command}
use Rattle.request_book.specs.declared.values.journal.Entry.{Entry}
use Rattle.request_book.specs.declared.values.journal.Journal.{Journal}
use Rattle.request_book.specs.declared.values.state.State.{State}
use Rattle.request_book.specs.declared.values.vehicle.Vehicle.{Vehicle}
use Rattle.rider_limits.specs.declared.settings.Settings.{Settings}
use Rattle.road_network.specs.Roads.{Roads}

-- the command may stand in the lane, which is one of the sixteen
abbrev Stand : ℕ → Command → Type 0
Stand lane c = MayStand lane c × (lane < 16)

-- entries that begin a run of a lane go on from what it owes
goes_of : (whole : Bool) (lane : ℕ) (p : Option ℕ) (cs : List Command) (es rest : List Entry) → IsLaneRunFrom p cs (es ++ rest) → All (Stand lane) cs →
    All (λ (e : Entry). e.lane ≡ lane) es → (whole ≡ true → rest ≡ []) → Goes whole p es
goes_of whole lane None cs [] rest run stand own none = tt
goes_of true lane (Some b) cs [] rest run stand own none = absurd (subst (IsLaneRunFrom (Some b) cs) (none refl) run)
goes_of false lane (Some b) cs [] rest run stand own none = refl
goes_of whole lane None [] (e ∷ es) rest run stand own none = absurd run
goes_of whole lane None (c ∷ cs) (e ∷ es) rest run stand own none =
    let Own = λ (x : Entry). x.lane ≡ lane in
    let is : e.lane ≡ lane = All-head Own e es own in
    let may : Stand lane c = All-head (Stand lane) c cs stand in (
      subst (λ l. MayStand l e.command) (sym is) (subst (MayStand lane) (sym run.0) may.0),
      omega (arith, is, may.1),
      goes_of whole lane (sealed_by e.reply) cs es rest run.1 (All-tail (Stand lane) c cs stand) (All-tail Own e es own) none,
    )
goes_of whole lane (Some b) cs (e ∷ es) rest run stand own none =
    (run.0, goes_of whole lane None cs es rest run.1 stand (All-tail (λ (x : Entry). x.lane ≡ lane) e es own) none)

own_all : (lane : ℕ) (es : List Entry) → All (λ (e : Entry). e.lane ≡ lane) (of_lane lane es)
own_all lane [] = All-nil (λ (e : Entry). e.lane ≡ lane)
own_all lane (e ∷ es) = elim (cases_eq e.lane lane) [
  | inl same ↦ subst (All (λ (x : Entry). x.lane ≡ lane)) (sym (own_first e es lane same)) (All-cons (λ (x : Entry). x.lane ≡ lane) e (of_lane lane es) same
      (own_all lane es))
  | inr other ↦ subst (All (λ (x : Entry). x.lane ≡ lane)) (sym (other_first e es lane other)) (own_all lane es)
]

no_commands : (cs : List Command) → IsLaneRunFrom None cs [] → cs ≡ []
no_commands [] run = refl
no_commands (c ∷ cs) run = absurd run

-- a round has a command, and each may stand where it stands
record IsOk (r : NumberedLanes) : Type 0 where
  stands : (lane : ℕ) → All (Stand lane) (lane_at r lane)
  some : ((lane : ℕ) → lane_at r lane ≡ []) → ⊥

abbrev whole_of : List NumberedLanes → Bool
whole_of [] = false
whole_of (r ∷ rs) = true

whole_more : (rs : List NumberedLanes) (r : NumberedLanes) → whole_of (rs ++ r ∷ []) ≡ true
whole_more [] r = refl
whole_more (q ∷ rs) r = refl

-- rounds of rising numbers
abbrev Rises : Option ℕ → List NumberedLanes → Type 0
Rises last [] = Unit {0}
Rises last (r ∷ rs) = IsAbove last r.number × (r.number ≤ 1000000000) × Rises (Some r.number) rs

module _ (settings : Settings) (roads : Roads) where
  -- a journal goes on in each lane; a whole one has an entry
  record RoundGoes (whole : Bool) (j : Journal) : Type 0 where
    replies : RepliesAreSteps roads.nodes settings.wait j.base j.entries
    closes : ClosesAreGood settings roads j.base j.entries
    goes : (lane : ℕ) → Goes whole None (of_lane lane j.entries)
    some : whole ≡ true → j.entries ≡ [] → ⊥

  round_goes : (r : NumberedLanes) (j : Journal) → IsOk r → IsRoundRun settings roads r j → RoundGoes true j
  round_goes r j ok run = record {
    replies = run.replies;
    closes = run.closes;
    goes = λ lane. goes_of true lane None (lane_at r lane) (of_lane lane j.entries) [] (subst (IsLaneRunFrom None (lane_at r lane))
        (sym (append-nil (of_lane lane j.entries))) (run.lanes lane)) (ok.stands lane) (own_all lane j.entries) (λ _. refl);
    some = λ _ empty. ok.some (λ lane. no_commands (lane_at r lane) (subst (λ es. IsLaneRunFrom None (lane_at r lane) (of_lane lane es)) empty
        (run.lanes lane)));
  }

  round_begins : (r : NumberedLanes) (j : Journal) → IsOk r → IsRoundBeginning settings roads r j → RoundGoes false j
  round_begins r j ok begin = record {
    replies = begin.replies;
    closes = begin.closes;
    goes = λ lane. goes_of false lane None (lane_at r lane) (of_lane lane j.entries) (begin.lanes lane).0 (begin.lanes lane).1 (ok.stands lane)
        (own_all lane j.entries) (λ no. absurd (let is : false ≡ true = no in cc));
    some = λ no empty. let is : false ≡ true = no in cc;
  }

  abbrev Begun : State → ℕ → List NumberedLanes → List Journal → Type 0
  Begun s p [] [] = Unit {0}
  Begun s p (r ∷ rs) (j ∷ js) = (j.base ≡ s) × (j.first ≡ p) × RoundGoes (whole_of rs) j
      × Begun (state_after roads.nodes settings.wait s j.entries) (next_position p j.entries) rs js
  Begun s p _ _ = ⊥

  begun_some : (s : State) (p : ℕ) (rs : List NumberedLanes) (js : List Journal) (r : NumberedLanes) (j : Journal) → IsRun settings roads s p rs js →
      All IsOk (rs ++ r ∷ []) → j.base ≡ state_after_run settings roads s js → j.first ≡ position_after_run p js → IsRoundBeginning settings roads r j
      → Begun s p (rs ++ r ∷ []) (js ++ j ∷ [])
  begun_some s p [] [] r j run ok base first begin = (base, first, round_begins r j (All-head IsOk r [] ok) begin, tt)
  begun_some s p (q ∷ rs) (k ∷ js) r j run ok base first begin = (
    run.0,
    run.1,
    subst (λ w. RoundGoes w k) (sym (whole_more rs r)) (round_goes q k (All-head IsOk q (rs ++ r ∷ []) ok) run.2),
    begun_some (state_after roads.nodes settings.wait s k.entries) (next_position p k.entries) rs js r j run.3 (All-tail IsOk q (rs ++ r ∷ []) ok) base first
        begin,
  )
  begun_some s p [] (k ∷ js) r j run ok base first begin = absurd run
  begun_some s p (q ∷ rs) [] r j run ok base first begin = absurd run

  begun : (s : State) (p : ℕ) (rs : List NumberedLanes) (js : List Journal) → All IsOk rs → IsBegunRun settings roads s p rs js → Begun s p rs js
  begun s p _ _ ok IsBegunRun.none = tt
  begun s p _ _ ok (IsBegunRun.some rounds journals round journal run base first begin) = begun_some s p rounds journals round journal run ok base first begin

  abbrev Left : Option ℕ → State → ℕ → List ℕ → Type 0
  Left last s p text = IsLeft settings roads last s p text

  -- the rest of a report
  abbrev rest_text : ℕ → List NumberedLanes → List Journal → List ℕ
  rest_text p rs js = journals_text true rs js ++ end_text (position_after_run p js)

  first_round : (r : NumberedLanes) (rs : List NumberedLanes) (s : State) (p : ℕ) (es : List Entry) (js : List Journal)
      → rest_text p (r ∷ rs) ((record { first = p; base = s; entries = es }) ∷ js) ≡ round_line r.number ++
      (lines_text (entries_lines true p es) ++ rest_text (next_position p es) rs js)
  unfolding round_text
  first_round r rs s p es js =
      let line : List (List ℕ) = numbered (codes "round ") r.number ∷ [] in
      let own = lines_text (entries_lines true p es) in
      let more = journals_text true rs js in
      let end = end_text (position_after_run (next_position p es) js) in
      ap (λ t. (t ++ more) ++ end) (lines-append line (entries_lines true p es))
      ∙ append_assoc (lines_text line ++ own) more end
      ∙ append_assoc (lines_text line) own (more ++ end)

  empty_round_text : (number p : ℕ) → round_line number ++ (lines_text (entries_lines true p []) ++ rest_text p [] []) ≡ round_line number ++ end_text p
  unfolding entries_lines lines_text
  empty_round_text number p = refl

  round_left : (last : Option ℕ) (s : State) (p : ℕ) (r : NumberedLanes) (rs : List NumberedLanes) (es : List Entry) (js : List Journal) → p < 2 ^ 64
      → IsAbove last r.number → r.number ≤ 1000000000 → s.sealed ≡ None → RoundGoes (whole_of rs) (record { first = p; base = s; entries = es }) → AreTold p es
      → Begun (state_after roads.nodes settings.wait s es) (next_position p es) rs js
      → ((whole_of rs ≡ true → (state_after roads.nodes settings.wait s es).sealed ≡ None)
      → Left (Some r.number) (state_after roads.nodes settings.wait s es) (next_position p es) (rest_text (next_position p es) rs js))
      → Left last s p (round_line r.number ++ (lines_text (entries_lines true p es) ++ rest_text (next_position p es) rs js))
  round_left last s p r [] [] [] low above named closed goes told begun after =
      let same : next_position p [] ≡ p = omega (arith, low) in
      subst (λ q. Left last s p (round_line r.number ++ (lines_text (entries_lines true p []) ++ rest_text q [] []))) (sym same)
      (IsLeft.drops last s p (round_line r.number ++ (lines_text (entries_lines true p []) ++ rest_text p [] [])) (Some r.number) (Some p)
      (omega (arith, named)) low (empty_round_text r.number p))
  round_left last s p r [] [] (k ∷ js) low above named closed goes told begun after = absurd begun
  round_left last s p r (q ∷ rs) [] js low above named closed goes told begun after = absurd (goes.some refl refl)
  round_left last s p r rs (e ∷ es) js low above named closed goes told begun after =
      entries_left settings roads (whole_of rs) last (Some r.number) r.number p s e es (rest_text (next_position p (e ∷ es)) rs js)
      (refl, above, named, closed) low
      (λ lane. subst (λ o. Goes (whole_of rs) (owed o lane) (of_lane lane (e ∷ es))) (sym closed)
      (none_goes (whole_of rs) lane (of_lane lane (e ∷ es)) (goes.goes lane)))
      goes.replies goes.closes told after
    where
      none_goes : (whole : Bool) (lane : ℕ) (fs : List Entry) → Goes whole None fs → Goes whole (owed None lane) fs
      none_goes whole lane fs is = subst (λ o. Goes whole o fs) (sym (none_owed lane)) is

  rounds_left : (last : Option ℕ) (s : State) (p : ℕ) (rs : List NumberedLanes) (js : List Journal) → p < 2 ^ 64 → Rises last rs → Begun s p rs js →
      JournalsAreTold js → (whole_of rs ≡ true → s.sealed ≡ None) → Left last s p (rest_text p rs js)
  rounds_left last s p [] [] low rises begun told closed = IsLeft.drops last s p (rest_text p [] []) None (Some p) tt low refl
  rounds_left last s p [] (j ∷ js) low rises begun told closed = absurd begun
  rounds_left last s p (r ∷ rs) [] low rises begun told closed = absurd begun
  rounds_left last s p (r ∷ rs) (j ∷ js) low rises begun told closed =
      let k : Journal = record { first = p; base = s; entries = j.entries } in
      let is : j ≡ k = (λ i. record { first = begun.1 i; base = begun.0 i; entries = j.entries }) in
      subst (λ (x : Journal). Left last s p (rest_text p (r ∷ rs) (x ∷ js))) (sym is)
      (subst (Left last s p) (sym (first_round r rs s p j.entries js))
      (round_left last s p r rs j.entries js low rises.0 rises.1 (closed refl) (subst (RoundGoes (whole_of rs)) is begun.2)
      (subst (λ (x : Journal). AreTold x.first x.entries) is told.0) begun.3
      (λ whole. rounds_left (Some r.number) (state_after roads.nodes settings.wait s j.entries) (next_position p j.entries) rs js (next-low p j.entries) rises.2
      begun.3 told.1 whole)))

-- the rows of a round
lane_is : (rows : List ScriptRow) (number lane : ℕ) → lane < 16 → lane_at (round_of rows number) lane ≡ of_round rows number lane
lane_is rows number lane within =
    get_or-map-range_with_len (λ k. map (λ (l : ScriptRow). l.command) (filter (λ l. eqb l.round number && eqb l.lane k) rows)) 0 16 lane lane [] within
    (omega arith)

hit : (row : ScriptRow) (rows : List ScriptRow) (n lane : ℕ) → row.round ≡ n → row.lane ≡ lane →
    of_round (row ∷ rows) n lane ≡ row.command ∷ of_round rows n lane
hit row rows n lane round own = grind (arith, nat_tests, round, own)

miss_round : (row : ScriptRow) (rows : List ScriptRow) (n lane : ℕ) → row.round ≢ n → of_round (row ∷ rows) n lane ≡ of_round rows n lane
miss_round row rows n lane round = grind (arith, nat_tests, round)

miss_lane : (row : ScriptRow) (rows : List ScriptRow) (n lane : ℕ) → row.lane ≢ lane → of_round (row ∷ rows) n lane ≡ of_round rows n lane
miss_lane row rows n lane own = grind (arith, nat_tests, own)

of_stands : (last : ℕ) (rows : List ScriptRow) (n lane : ℕ) → lane < 16 → AreScriptRows last rows → All (Stand lane) (of_round rows n lane)
of_stands last [] n lane low are = All-nil (Stand lane)
of_stands last (row ∷ rows) n lane low are =
    let more = of_stands row.round rows n lane low are.1 in
    elim (cases_eq row.lane lane) [
      | inl own ↦ elim (cases_eq row.round n) [
        | inl round ↦ subst (All (Stand lane)) (sym (hit row rows n lane round own)) (All-cons (Stand lane) row.command (of_round rows n lane)
            (subst (λ l. Stand l row.command) own (are.0.stands, are.0.lane)) more)
        | inr other ↦ subst (All (Stand lane)) (sym (miss_round row rows n lane other)) more
      ]
      | inr other ↦ subst (All (Stand lane)) (sym (miss_lane row rows n lane other)) more
    ]

lane_stands : (rows : List ScriptRow) (n lane : ℕ) → AreScriptRows 0 rows → All (Stand lane) (lane_at (round_of rows n) lane)
lane_stands rows n lane are = elim (cases_lt lane 16) [
  | inl within ↦ subst (All (Stand lane)) (sym (lane_is rows n lane within)) (of_stands 0 rows n lane within are)
  | inr beyond ↦ subst (All (Stand lane)) (sym (round-beyond rows n lane beyond)) (All-nil (Stand lane))
]

-- a row is of the round
abbrev HasRow : List ScriptRow → ℕ → Type 0
HasRow [] n = ⊥
HasRow (row ∷ rows) n = (row.round ≡ n) ⊎ HasRow rows n

tail_none : (row : ScriptRow) (rows : List ScriptRow) (n lane : ℕ) → of_round (row ∷ rows) n lane ≡ [] → of_round rows n lane ≡ []
tail_none row rows n lane none = elim (cases_eq row.lane lane) [
  | inl own ↦ elim (cases_eq row.round n) [
    | inl round ↦ absurd (let no : row.command ∷ of_round rows n lane ≡ [] = sym (hit row rows n lane round own) ∙ none in cc)
    | inr other ↦ sym (miss_round row rows n lane other) ∙ none
  ]
  | inr other ↦ sym (miss_lane row rows n lane other) ∙ none
]

some_commands : (last : ℕ) (rows : List ScriptRow) (n : ℕ) → AreScriptRows last rows → HasRow rows n → ((lane : ℕ) → lane < 16 → of_round rows n lane ≡ []) → ⊥
some_commands last [] n are has none = absurd has
some_commands last (row ∷ rows) n are (inl round) none =
    let no : row.command ∷ of_round rows n row.lane ≡ [] = sym (hit row rows n row.lane round refl) ∙ none row.lane are.0.lane in
    cc
some_commands last (row ∷ rows) n are (inr more) none = some_commands row.round rows n are.1 more (λ lane low. tail_none row rows n lane (none lane low))

all_have : (rows : List ScriptRow) → All (λ (l : ScriptRow). HasRow rows l.round) rows
all_have [] = All-nil (λ (l : ScriptRow). HasRow [] l.round)
all_have (row ∷ rows) =
    All-cons (λ (l : ScriptRow). HasRow (row ∷ rows) l.round) row rows (inl refl) (All-weaker (λ (l : ScriptRow). HasRow rows l.round)
    (λ l. HasRow (row ∷ rows) l.round) (λ l has. inr has) rows (all_have rows))

ok_all : (rows : List ScriptRow) (ns : List ℕ) → AreScriptRows 0 rows → All (HasRow rows) ns → All IsOk (map (round_of rows) ns)
ok_all rows [] are has = All-nil IsOk
ok_all rows (n ∷ ns) are has =
    All-cons IsOk (round_of rows n) (map (round_of rows) ns)
    (record {
      stands = λ lane. lane_stands rows n lane are;
      some = λ none. some_commands 0 rows n are (All-head (HasRow rows) n ns has) (λ lane low. sym (lane_is rows n lane low) ∙ none lane);
    })
    (ok_all rows ns are (All-tail (HasRow rows) n ns has))

-- numbers that rise
abbrev RisesFrom : ℕ → List ℕ → Type 0
RisesFrom low [] = Unit {0}
RisesFrom low (n ∷ ns) = (low ≤ n) × (n ≤ 1000000000) × RisesFrom (suc n) ns

keep_all : (r low : ℕ) (ns : List ℕ) → r < low → RisesFrom low ns → filter (λ m. not (eqb m r)) ns ≡ ns
keep_all r low [] above rises = refl
keep_all r low (n ∷ ns) above rises = grind (arith, nat_tests, rises.0, keep_all r (suc n) ns (omega (arith, above, rises.0)) rises.2)

keep_first : (r n : ℕ) (ns : List ℕ) → n ≢ r → filter (λ m. not (eqb m r)) (n ∷ ns) ≡ n ∷ filter (λ m. not (eqb m r)) ns
keep_first r n ns other = grind (arith, nat_tests, other)

drop_first : (r n : ℕ) (ns : List ℕ) → n ≡ r → filter (λ m. not (eqb m r)) (n ∷ ns) ≡ filter (λ m. not (eqb m r)) ns
drop_first r n ns same = grind (arith, nat_tests, same)

rises_on : (r : ℕ) (ns : List ℕ) → RisesFrom r ns → RisesFrom (suc r) (filter (λ m. not (eqb m r)) ns)
rises_on r [] rises = tt
rises_on r (n ∷ ns) rises = elim (cases_eq n r) [
  | inl same ↦ subst (RisesFrom (suc r)) (sym (drop_first r n ns same ∙ keep_all r (suc n) ns (omega (arith, same)) rises.2))
      (subst (λ m. RisesFrom (suc m) ns) same rises.2)
  | inr other ↦ subst (RisesFrom (suc r)) (sym (keep_first r n ns other ∙ ap (λ ms. n ∷ ms) (keep_all r (suc n) ns (omega (arith, rises.0)) rises.2)))
      (omega (arith, rises.0, other), rises.1, rises.2)
]

numbers_rise : (last : ℕ) (rows : List ScriptRow) → AreScriptRows last rows → RisesFrom last (distinct (map (λ (l : ScriptRow). l.round) rows))
numbers_rise last [] are = tt
numbers_rise last (row ∷ rows) are =
    (are.0.round, are.0.number, rises_on row.round (distinct (map (λ (l : ScriptRow). l.round) rows)) (numbers_rise row.round rows are.1))

rounds_rise : (rows : List ScriptRow) (last : Option ℕ) (low : ℕ) (ns : List ℕ) → RisesFrom low ns → ((n : ℕ) → low ≤ n → IsAbove last n) →
    Rises last (map (round_of rows) ns)
rounds_rise rows last low [] rises above = tt
rounds_rise rows last low (n ∷ ns) rises above = (above n rises.0, rises.1, rounds_rise rows (Some n) (suc n) ns rises.2 (λ m h. omega (arith, h)))

-- the whole report is what is left at its beginning
pub run_left : (settings : Settings) (roads : Roads) (vehicles : List Vehicle) (rows : List ScriptRow) (made : List Journal) → AreScriptRows 0 rows
    → IsBegunRun settings roads (opening vehicles) 0 (rows_rounds rows) made → JournalsAreTold made
    → IsLeft settings roads None (opening vehicles) 0 (journals_text true (rows_rounds rows) made ++ end_text (position_after_run 0 made))
run_left settings roads vehicles rows made are run told =
    let ns = distinct (map (λ (l : ScriptRow). l.round) rows) in
    let has = All-distinct (HasRow rows) (map (λ (l : ScriptRow). l.round) rows) (All-numbers (HasRow rows) rows (all_have rows)) in
    rounds_left settings roads None (opening vehicles) 0 (rows_rounds rows) made (omega arith)
    (rounds_rise rows None 0 ns (numbers_rise 0 rows are) (λ n h. tt))
    (begun settings roads (opening vehicles) 0 (rows_rounds rows) made (ok_all rows ns are has) run) told (λ _. refl)

-- what a run may leave is a beginning of it
pub left_of : (settings : Settings) (roads : Roads) (vehicles : List Vehicle) (text : List ℕ) (m : MayBeLeft settings roads vehicles text)
    → IsLeft settings roads None (opening vehicles) 0 (text ++ m.rest)
left_of settings roads vehicles text m =
    subst (IsLeft settings roads None (opening vehicles) 0) (sym m.begins) (run_left settings roads vehicles m.rows m.made m.lawful m.run m.types)
