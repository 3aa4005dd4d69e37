-- Where a round begins, and what was told where a reading ends.
use Rattle.std.proofs.Common.{◌≡◌, ℕ, ◌<◌, ◌≤◌, Bool, true, List, [], ◌∷◌, ◌++◌, Option, Some, None, refl, sym, ap, subst, ◌∙◌, append-nil, arith}
use Rattle.std.proofs.lemmas.List.Elements.{All-append, All-cons, All-nil, All-weaker}
use Rattle.std.proofs.lemmas.List.Sums.{fold-append}
use Rattle.std.specs.List.{All}
use Rattle.dispatch_engine.proofs.lemmas.lanes.RunLemmas.{position-more, state-more}
unfoldable use Rattle.dispatch_engine.specs.lanes.Lane.{ClosesAreGood}
use Rattle.dispatch_engine.specs.lanes.Lane.{IsLaneRun, IsLaneRunFrom, of_lane}
use Rattle.dispatch_engine.specs.lanes.Run.{position_after_run, state_after_run}
use Rattle.dispatch_report.specs.Round.{round_text}
use Rattle.input_rows.specs.declared.script.script_row.ScriptRow.{ScriptRow}
use Rattle.input_rows.specs.script.Script.{round_of}
use Rattle.live_dispatch.proofs.lemmas.EntryLemmas.{next-low}
use Rattle.live_dispatch.specs.Live.{journals_text, rows_rounds}
use Rattle.report_past.proofs.lemmas.LawLemmas.{texts-append, told-more}
use Rattle.report_past.proofs.RoundLemmas.{lane_commands, last_of_rounds, own_most, round_of_last}
use Rattle.report_past.proofs.lemmas.StepLemmas.{closed_reply, lanes_close, lanes_closed, none_owed, replies_push}
unfoldable use Rattle.report_past.specs.Past.{last_notices}
use Rattle.report_past.specs.Past.{last_round, notices_of_last}
use Rattle.report_past.specs.Told.{AreScriptRows, IsToldRound, IsToldRun, PastIsGood, close_of, closed_with, with_last}
use Rattle.report_past.specs.work.Reading.{IsAbove, IsAtStart, IsInRound, IsReading, Stand, commands_in, owed}
use Rattle.request_book.specs.Book.{BookView, next_position, opening}
unfoldable use Rattle.request_book.specs.Replay.{RepliesAreSteps, state_after}
use Rattle.request_book.specs.values.Batch.{Batch}
use Rattle.request_book.specs.declared.notices.notice.Notice.{Notice}
use Rattle.request_book.specs.declared.values.journal.Entry.{Entry}
use Rattle.request_book.specs.declared.values.journal.Journal.{Journal}
use Rattle.request_book.specs.declared.values.outcome.Outcome.{Outcome}
use Rattle.request_book.specs.declared.values.state.State.{State}
use Rattle.request_book.specs.declared.values.vehicle.Vehicle.{Vehicle}
use Rattle.rider_limits.specs.declared.settings.Settings.{Settings}
use Rattle.road_network.specs.Roads.{Roads}

-- a lane without commands, entries or a batch to close
nothing_to_do : (open_batch : Option Batch) → open_batch ≡ None → (lane : ℕ) (rest : List Entry) → IsLaneRunFrom (owed open_batch lane) [] rest →
    IsLaneRun [] rest
nothing_to_do open_batch closed lane rest is = subst (λ p. IsLaneRunFrom p [] rest) (ap (λ o. owed o lane) closed ∙ none_owed lane) is

with_last-push : (e : Entry) (done : List Journal) (j : Journal) → with_last e (done ++ j ∷ []) ≡ done ++ (record j { entries = j.entries ++ e ∷ [] }) ∷ []
with_last-push e [] j = refl
with_last-push e (x ∷ []) j = refl
with_last-push e (x ∷ y ∷ done) j = ap (λ js. x ∷ js) (with_last-push e (y ∷ done) j)

module _ (settings : Settings) (roads : Roads) (vehicles : List Vehicle) (judged : Bool) where
  -- a round begins: nothing of it was read yet
  pub record Begins (read : List ℕ) (number : ℕ) (b : BookView) (open_batch : Option Batch) (notices : List Notice) : Type 0 where
    pub front : List ScriptRow
    pub done : List Journal
    pub j : Journal
    pub empty : j.entries ≡ []
    pub is : IsInRound settings roads vehicles judged read front [] done j number b open_batch notices
    pub below : All (λ l. l.round ≤ number) (front ++ [])

  begins_first : (number : ℕ) (b : BookView) (open_batch : Option Batch) (notices : List Notice) →
      IsAtStart settings roads vehicles judged b open_batch notices → Begins [] number b open_batch notices
  unfolding RepliesAreSteps ClosesAreGood state_after last_notices
  begins_first number b open_batch notices start = record {
    front = [];
    done = [];
    j = record { first = 0; base = opening vehicles; entries = [] };
    empty = refl;
    is = record {
      told = tt;
      earlier = All-nil (λ (l : ScriptRow). l.round < number);
      own = tt;
      lawful = tt;
      text = refl;
      base = refl;
      first = refl;
      low = omega arith;
      replies = tt;
      lanes = nothing_to_do open_batch start.closed;
      nodes = start.nodes;
      wait = start.wait;
      state = start.state;
      position = start.position;
      sealed = ap (λ (s : State). s.sealed) start.state ∙ sym start.closed;
      notices_are = start.none;
      good_before = λ on. All-nil (λ (k : Journal). ClosesAreGood settings roads k.base k.entries);
      good = λ on. tt;
    };
    below = All-nil (λ (l : ScriptRow). l.round ≤ number);
  }

  module _ (before : List ℕ) (front : List ScriptRow) (row : ScriptRow) (rows : List ScriptRow) (done : List Journal) (j : Journal) (last : ℕ) (b : BookView)
      (open_batch : Option Batch) (notices : List Notice)
      (is : IsInRound settings roads vehicles judged before front (row ∷ rows) done j last b open_batch notices) where
    abbrev own : List ScriptRow
    own = row ∷ rows

    -- the round is told, with these entries
    told_round : (k : Journal) → RepliesAreSteps roads.nodes settings.wait k.base k.entries →
        ((lane : ℕ) → IsLaneRun (commands_in own lane) (of_lane lane k.entries)) → IsToldRound settings roads (round_of own last) k
    told_round k replies lanes = record {
      replies = replies;
      lanes = λ lane. subst (λ cs. IsLaneRun cs (of_lane lane k.entries)) (sym (lane_commands own last lane is.own)) (lanes lane);
    }

    told_with : (k : Journal) → k.base ≡ j.base → k.first ≡ j.first → IsToldRound settings roads (round_of own last) k →
        IsToldRun settings roads (opening vehicles) 0 (rows_rounds (front ++ own)) (done ++ k ∷ [])
    told_with k base first round =
        subst (λ rs. IsToldRun settings roads (opening vehicles) 0 rs (done ++ k ∷ [])) (sym (last_of_rounds front row rows last is.earlier is.own))
        (told-more settings roads (opening vehicles) 0 (rows_rounds front) done (round_of own last) k is.told (base ∙ is.base) (first ∙ is.first) round)

    told_closed : open_batch ≡ None → IsToldRun settings roads (opening vehicles) 0 (rows_rounds (front ++ own)) (done ++ j ∷ [])
    told_closed closed = told_with j refl refl (told_round j is.replies (lanes_closed own j.entries open_batch closed is.lanes))

    told_by : (o : Option Batch) (outcome : Outcome) → open_batch ≡ o → IsToldRun settings roads (opening vehicles) 0 (rows_rounds (front ++ own))
        (closed_with o outcome (done ++ j ∷ []))
    told_by None outcome same = told_closed same
    told_by (Some batch) outcome same =
        let e : Entry = close_of batch outcome in
        let k : Journal = record j { entries = j.entries ++ e ∷ [] } in
        let sealed : (state_after roads.nodes settings.wait j.base j.entries).sealed ≡ Some batch = ap (λ (s : State). s.sealed) (sym is.state) ∙ is.sealed ∙
        same in
        subst (λ js. IsToldRun settings roads (opening vehicles) 0 (rows_rounds (front ++ own)) js) (sym (with_last-push e done j))
        (told_with k refl refl
        (told_round k (replies_push roads.nodes settings.wait j.base j.entries e is.replies (sym
        (closed_reply roads.nodes settings.wait (state_after roads.nodes settings.wait j.base j.entries) batch outcome sealed)))
        (lanes_close own j.entries batch outcome (subst (λ p. (lane : ℕ) (rest : List Entry) → IsLaneRunFrom (owed p lane) [] rest →
        IsLaneRun (commands_in own lane) (of_lane lane j.entries ++ rest)) same is.lanes))))

    read_text : before ++ round_text last true j ≡ journals_text true (rows_rounds (front ++ own)) (done ++ j ∷ [])
    read_text =
        (λ i. is.text i ++ sym (append-nil (round_text last true j)) i)
        ∙ sym (texts-append settings roads true (opening vehicles) 0 (rows_rounds front) (round_of own last ∷ []) done (j ∷ []) is.told)
        ∙ ap (λ rs. journals_text true rs (done ++ j ∷ [])) (sym (last_of_rounds front row rows last is.earlier is.own))

    notices_text : notices ≡ notices_of_last settings roads (done ++ j ∷ [])
    notices_text = is.notices_are ∙ sym (fold-append (λ told k. last_notices roads.nodes settings.wait k.base told k.entries) [] done (j ∷ []))

    good_now : judged ≡ true → PastIsGood settings roads (done ++ j ∷ [])
    good_now on =
        let Good = λ (k : Journal). ClosesAreGood settings roads k.base k.entries in
        All-append Good done (j ∷ []) (is.good_before on) (All-cons Good j [] (is.good on) (All-nil Good))

    state_now : b.state ≡ state_after_run settings roads (opening vehicles) (done ++ j ∷ [])
    state_now = is.state ∙ ap (λ s. state_after roads.nodes settings.wait s j.entries) is.base ∙ sym (state-more settings roads (opening vehicles) done j)

    position_now : next_position b.first b.entries ≡ position_after_run 0 (done ++ j ∷ [])
    position_now = is.position ∙ ap (λ p. next_position p j.entries) is.first ∙ sym (position-more 0 done j)

    begins_later : (number : ℕ) → last < number → open_batch ≡ None → Begins (before ++ round_text last true j) number b open_batch notices
    unfolding RepliesAreSteps ClosesAreGood state_after last_notices
    begins_later number later closed = record {
      front = front ++ own;
      done = done ++ j ∷ [];
      j = record { first = next_position b.first b.entries; base = b.state; entries = [] };
      empty = refl;
      is = record {
        told = told_closed closed;
        earlier = All-append (λ (l : ScriptRow). l.round < number) front own
            (All-weaker (λ (l : ScriptRow). l.round < last) (λ l. l.round < number) (λ l h. omega (arith, h, later)) front is.earlier)
            (All-weaker (λ (l : ScriptRow). l.round ≤ last) (λ l. l.round < number) (λ l h. omega (arith, h, later)) own (own_most last own is.own));
        own = tt;
        lawful = subst (AreScriptRows 0) (sym (append-nil (front ++ own))) is.lawful;
        text = read_text;
        base = state_now;
        first = position_now;
        low = next-low b.first b.entries;
        replies = tt;
        lanes = nothing_to_do open_batch closed;
        nodes = is.nodes;
        wait = is.wait;
        state = refl;
        position = omega (arith, next-low b.first b.entries);
        sealed = is.sealed;
        notices_are = notices_text;
        good_before = good_now;
        good = λ on. tt;
      };
      below = subst (All (λ (l : ScriptRow). l.round ≤ number)) (sym (append-nil (front ++ own)))
          (All-append (λ (l : ScriptRow). l.round ≤ number) front own
          (All-weaker (λ (l : ScriptRow). l.round < last) (λ l. l.round ≤ number) (λ l h. omega (arith, h, later)) front is.earlier)
          (All-weaker (λ (l : ScriptRow). l.round ≤ last) (λ l. l.round ≤ number) (λ l h. omega (arith, h, later)) own (own_most last own is.own)));
    }

  pub begins : (read : List ℕ) (s : Stand) (number : ℕ) → IsReading settings roads vehicles judged read s → s.open_batch ≡ None → IsAbove s.last number →
      Begins read number s.book s.open_batch s.notices
  begins _ _ number (IsReading.at_start b open_batch notices start) closed above = begins_first number b open_batch notices start
  begins _ _ number (IsReading.in_round before front row rows done j last b open_batch notices is) closed above =
      begins_later before front row rows done j last b open_batch notices is number above closed

  -- what was told where a reading ends
  pub record IsTold (read : List ℕ) (s : Stand) : Type 0 where
    pub rows : List ScriptRow
    pub lawful : AreScriptRows 0 rows
    pub last_is : s.last ≡ last_round rows
    pub made : List Journal
    pub told : (outcome : Outcome) → IsToldRun settings roads (opening vehicles) 0 (rows_rounds rows) (closed_with s.open_batch outcome made)
    pub printed : read ≡ journals_text true (rows_rounds rows) made
    pub nodes : s.book.nodes ≡ roads.nodes
    pub wait : s.book.wait ≡ settings.wait
    pub state : s.book.state ≡ state_after_run settings roads (opening vehicles) made
    pub position : next_position s.book.first s.book.entries ≡ position_after_run 0 made
    pub sealed : s.book.state.sealed ≡ s.open_batch
    pub notices_are : s.notices ≡ notices_of_last settings roads made
    pub good : judged ≡ true → PastIsGood settings roads made

  pub finishes : (read : List ℕ) (s : Stand) → IsReading settings roads vehicles judged read s → IsTold read s
  finishes _ _ (IsReading.at_start b open_batch notices start) = record {
    rows = [];
    lawful = tt;
    last_is = refl;
    made = [];
    told = λ outcome. subst (λ o. IsToldRun settings roads (opening vehicles) 0 [] (closed_with o outcome [])) (sym start.closed) tt;
    printed = refl;
    nodes = start.nodes;
    wait = start.wait;
    state = start.state;
    position = start.position;
    sealed = ap (λ (s : State). s.sealed) start.state ∙ sym start.closed;
    notices_are = start.none;
    good = λ on. All-nil (λ (k : Journal). ClosesAreGood settings roads k.base k.entries);
  }
  finishes _ _ (IsReading.in_round before front row rows done j last b open_batch notices is) = record {
    rows = front ++ (row ∷ rows);
    lawful = is.lawful;
    last_is = sym (round_of_last front row rows last is.own);
    made = done ++ j ∷ [];
    told = λ outcome. told_by before front row rows done j last b open_batch notices is open_batch outcome refl;
    printed = read_text before front row rows done j last b open_batch notices is;
    nodes = is.nodes;
    wait = is.wait;
    state = state_now before front row rows done j last b open_batch notices is;
    position = position_now before front row rows done j last b open_batch notices is;
    sealed = is.sealed;
    notices_are = notices_text before front row rows done j last b open_batch notices is;
    good = good_now before front row rows done j last b open_batch notices is;
  }
