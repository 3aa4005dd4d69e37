-- A run of the rounds of rows, with some more rows of one round and the entries that they gave.
use Rattle.std.proofs.Common.{◌≡◌, ℕ, ◌<◌, ◌^◌, Bool, List, [], ◌∷◌, ◌++◌, Option, None, codes, refl, sym, ap, subst, ◌∙◌, append_assoc, append-nil, map}
use Rattle.live_dispatch.proofs.Common.{
  begun-next,
  run-append,
  map-append,
  filter-append,
  of_lane,
  IsLaneRun,
  IsLaneBeginning,
  ClosesAreGood,
  IsRoundRun,
  IsRun,
  position_after_run,
  state_after_run,
  position-more,
  state-more,
  lines_text,
  entries_lines,
  round_line,
  round_text,
  numbered,
  next_position,
  state_after,
  RepliesAreSteps,
  step,
  Entry,
  Journal,
  State,
  Settings,
  notices_from,
  Notice,
  Roads,
  NumberedLanes,
  lane_at,
  round_of,
  ScriptRow,
  rounds_of,
  ButLast,
  IsBegunRun,
  IsRoundBeginning,
  journals_notices,
  journals_text,
  EndsIn,
  in_lane,
  start_text,
  entries-append,
  lines-append,
  next-append,
  next-low,
  notices-append,
  state-append,
}
use Rattle.std.proofs.lemmas.Grind.{flat_map-append}
use Rattle.live_dispatch.proofs.RowLemmas.{AreLinesOf, RoundsGrow, lane-grows}

-- a lane's entries
lane-entries : (lane : ℕ) (xs ys : List Entry) → of_lane lane (xs ++ ys) ≡ of_lane lane xs ++ of_lane lane ys
lane-entries lane xs ys = filter-append _ xs ys

-- positions
position-low : (p : ℕ) (js : List Journal) → p < 2 ^ 64 → position_after_run p js < 2 ^ 64
position-low p [] low = low
position-low p (j ∷ js) low = position-low (next_position p j.entries) js (next-low p j.entries)

-- texts
round-begins : (number : ℕ) (proof : Bool) (j : Journal) → round_text number proof j ≡ round_line number ++ lines_text (entries_lines proof j.first j.entries)
unfolding round_text
round-begins number proof j = lines-append (numbered (codes "round ") number ∷ []) (entries_lines proof j.first j.entries)

-- a journal with more entries
abbrev pub with_more : Journal → List Entry → Journal
with_more j es = record { first = j.first; base = j.base; entries = j.entries ++ es }

round-grows : (number : ℕ) (proof : Bool) (j : Journal) (es : List Entry) → j.first < 2 ^ 64
    → round_text number proof (with_more j es) ≡ round_text number proof j ++ lines_text (entries_lines proof (next_position j.first j.entries) es)
round-grows number proof j es low =
    round-begins number proof (with_more j es)
    ∙ ap (λ t. round_line number ++ t) (entries-append proof j.first j.entries es low)
    ∙ sym (append_assoc (round_line number) (lines_text (entries_lines proof j.first j.entries))
    (lines_text (entries_lines proof (next_position j.first j.entries) es)))
    ∙ ap (λ t. t ++ lines_text (entries_lines proof (next_position j.first j.entries) es)) (sym (round-begins number proof j))

-- replies
module _ (nodes : List ℕ) (wait : ℕ) where
  replies-append : (s : State) (xs ys : List Entry) → RepliesAreSteps nodes wait s xs → RepliesAreSteps nodes wait (state_after nodes wait s xs) ys →
      RepliesAreSteps nodes wait s (xs ++ ys)
  unfolding RepliesAreSteps state_after
  replies-append s [] ys p q = q
  replies-append s (e ∷ es) ys p q = (p.0, replies-append (step nodes wait s e.command).0 es ys p.1 q)

module _ (settings : Settings) (roads : Roads) where
  closes-append : (s : State) (xs ys : List Entry) → ClosesAreGood settings roads s xs → ClosesAreGood settings roads
      (state_after roads.nodes settings.wait s xs) ys → ClosesAreGood settings roads s (xs ++ ys)
  unfolding ClosesAreGood state_after
  closes-append s [] ys p q = q
  closes-append s (e ∷ es) ys p q = (p.0, closes-append (step roads.nodes settings.wait s e.command).0 es ys p.1 q)

  -- the state and the position behind journals
  abbrev after : State → List Journal → State
  after s js = state_after_run settings roads s js

  text-push : (s : State) (p : ℕ) (rs : List NumberedLanes) (js : List Journal) (r : NumberedLanes) (j : Journal) → IsRun settings roads s p rs js
      → journals_text settings.proof (rs ++ r ∷ []) (js ++ j ∷ []) ≡ journals_text settings.proof rs js ++ round_text r.number settings.proof j
  text-push s p [] [] r j run = append-nil (round_text r.number settings.proof j)
  text-push s p (q ∷ rs) (k ∷ js) r j run =
      ap (λ t. round_text q.number settings.proof k ++ t) (text-push (state_after roads.nodes settings.wait s k.entries) (next_position p k.entries) rs js r j
      run.3)
      ∙ sym (append_assoc (round_text q.number settings.proof k) (journals_text settings.proof rs js) (round_text r.number settings.proof j))
  text-push s p _ _ r j run = absurd run

  -- a round without a journal has no text
  text-short : (s : State) (p : ℕ) (rs : List NumberedLanes) (js : List Journal) (r : NumberedLanes) → IsRun settings roads s p rs js →
      journals_text settings.proof (rs ++ r ∷ []) js ≡ journals_text settings.proof rs js
  text-short s p [] [] r run = refl
  text-short s p (q ∷ rs) (k ∷ js) r run =
      ap (λ t. round_text q.number settings.proof k ++ t) (text-short (state_after roads.nodes settings.wait s k.entries) (next_position p k.entries) rs js r
      run.3)
  text-short s p _ _ r run = absurd run

  -- the notices of a journal from its base
  abbrev own_notices : Journal → List Notice
  own_notices j = notices_from roads.nodes settings.wait j.base j.entries

  notices-push : (js : List Journal) (j : Journal) → journals_notices settings roads (js ++ j ∷ []) ≡ journals_notices settings roads js ++ own_notices j
  notices-push js j = flat_map-append own_notices js (j ∷ []) ∙ ap (λ t. journals_notices settings roads js ++ t) (append-nil (own_notices j))

  -- the last round of a run
  record LastOf (s : State) (p : ℕ) (rs : List NumberedLanes) (r : NumberedLanes) (js : List Journal) : Type 0 where
    front : List Journal
    journal : Journal
    are : js ≡ front ++ journal ∷ []
    run : IsRun settings roads s p rs front
    base : journal.base ≡ after s front
    first : journal.first ≡ position_after_run p front
    is : IsRoundRun settings roads r journal

  run-last : (s : State) (p : ℕ) (rs : List NumberedLanes) (r : NumberedLanes) (js : List Journal) → IsRun settings roads s p (rs ++ r ∷ []) js →
      LastOf s p rs r js
  run-last s p [] r [] run = absurd run
  run-last s p [] r (j ∷ []) run = record { front = []; journal = j; are = refl; run = tt; base = run.0; first = run.1; is = run.2 }
  run-last s p [] r (j ∷ k ∷ js) run = absurd run.3
  run-last s p (q ∷ rs) r [] run = absurd run
  run-last s p (q ∷ rs) r (j ∷ js) run =
      let rest = run-last (state_after roads.nodes settings.wait s j.entries) (next_position p j.entries) rs r js run.3 in
      record {
        front = j ∷ rest.front;
        journal = rest.journal;
        are = ap (λ ks. j ∷ ks) rest.are;
        run = (run.0, run.1, run.2, rest.run);
        base = rest.base;
        first = rest.first;
        is = rest.is;
      }

  -- a run of the rounds of rows has grown by more rows of one round and their entries: the last round is a run, or a
  -- beginning of one, where the entries are
  pub record HasGrown (s : State) (p : ℕ) (round : Option ℕ) (lines rows : List ScriptRow) (number : ℕ) (journals : List Journal) (es : List Entry) : Type 0
    where
      pub fronts : List NumberedLanes
      pub done : List Journal
      -- the last journal, or an empty one, to which the entries come
      pub front : Journal
      pub one : (e : Entry) → es ≡ e ∷ [] → ButLast (done ++ with_more front es ∷ []) journals
      pub rounds : rounds_of (lines ++ rows) ≡ fronts ++ round_of (lines ++ rows) number ∷ []
      pub run : IsRun settings roads s p fronts done
      pub base : front.base ≡ after s done
      pub first : front.first ≡ position_after_run p done
      pub whole : ((lane : ℕ) → IsLaneRun (in_lane rows lane) (of_lane lane es)) → IsRoundRun settings roads (round_of (lines ++ rows) number)
          (with_more front es)
      pub begun : ((lane : ℕ) → IsLaneBeginning (in_lane rows lane) (of_lane lane es)) → IsRoundBeginning settings roads (round_of (lines ++ rows) number)
          (with_more front es)
      pub text : (fs : List Entry) → journals_text settings.proof (fronts ++ round_of (lines ++ rows) number ∷ []) (done ++ with_more front fs ∷ [])
          ≡ journals_text settings.proof (rounds_of lines) journals ++ (start_text round number ++ lines_text
          (entries_lines settings.proof (position_after_run p journals) fs))
      pub old_text : journals_text settings.proof (fronts ++ round_of (lines ++ rows) number ∷ []) journals ≡ journals_text settings.proof (rounds_of lines)
          journals
      pub notices : (fs : List Entry) → journals_notices settings roads (done ++ with_more front fs ∷ []) ≡ journals_notices settings roads journals ++
          notices_from roads.nodes settings.wait (after s journals) fs
      pub state : after s (done ++ with_more front es ∷ []) ≡ state_after roads.nodes settings.wait (after s journals) es
      pub position : position_after_run p (done ++ with_more front es ∷ []) ≡ next_position (position_after_run p journals) es

  module _ (s : State) (p : ℕ) (round : Option ℕ) (lines rows : List ScriptRow) (number : ℕ) (es : List Entry) (low : p < 2 ^ 64) (are : AreLinesOf number rows)
    where
      -- the last round grows
      grown-last : (front : List NumberedLanes) (done : List Journal) (j : Journal) → IsRun settings roads s p front done → j.base ≡ after s done →
          j.first ≡ position_after_run p done
          → IsRoundRun settings roads (round_of lines number) j → start_text round number ≡ [] → rounds_of lines ≡ front ++ round_of lines number ∷ [] →
          rounds_of (lines ++ rows) ≡ front ++ round_of (lines ++ rows) number ∷ []
          → RepliesAreSteps roads.nodes settings.wait (after s (done ++ j ∷ [])) es → ClosesAreGood settings roads (after s (done ++ j ∷ [])) es
          → HasGrown s p round lines rows number (done ++ j ∷ []) es
      grown-last front done j run base first is starts was rounds replies closes =
          let k : Journal = with_more j es in
          let own : NumberedLanes = round_of lines number in
          let grown : NumberedLanes = round_of (lines ++ rows) number in
          let here : State = state_after roads.nodes settings.wait j.base j.entries in
          let state : after s (done ++ j ∷ []) ≡ here = state-more settings roads s done j ∙ ap (λ t. state_after roads.nodes settings.wait t j.entries)
          (sym base) in
          let position : position_after_run p (done ++ j ∷ []) ≡ next_position j.first j.entries = position-more p done j ∙
          ap (λ n. next_position n j.entries) (sym first) in
          let small : j.first < 2 ^ 64 = subst (λ (n : ℕ). n < 2 ^ 64) (sym first) (position-low p done low) in
          let all_replies : RepliesAreSteps roads.nodes settings.wait j.base (j.entries ++ es) =
          replies-append roads.nodes settings.wait j.base j.entries es is.replies (subst (λ t. RepliesAreSteps roads.nodes settings.wait t es) state replies) in
          let all_closes : ClosesAreGood settings roads j.base (j.entries ++ es) =
          closes-append j.base j.entries es is.closes (subst (λ t. ClosesAreGood settings roads t es) state closes) in
          record {
            fronts = front;
            done = done;
            front = j;
            one = λ e one. subst (λ xs. ButLast (done ++ with_more j xs ∷ []) (done ++ j ∷ [])) (sym one) (ButLast.later done j.first j.base j.entries e);
            rounds = rounds;
            run = run;
            base = base;
            first = first;
            whole = λ lanes. record {
              replies = all_replies;
              closes = all_closes;
              lanes = λ lane.
                  subst (λ cs. IsLaneRun cs (of_lane lane (j.entries ++ es))) (sym (lane-grows lines rows number lane are))
                  (subst (IsLaneRun (lane_at own lane ++ in_lane rows lane)) (sym (lane-entries lane j.entries es))
                  (run-append None (lane_at own lane) (in_lane rows lane) (of_lane lane j.entries) (of_lane lane es) (is.lanes lane) (lanes lane)));
            };
            begun = λ lanes. record {
              replies = all_replies;
              closes = all_closes;
              lanes = λ lane.
                  subst (λ cs. IsLaneBeginning cs (of_lane lane (j.entries ++ es))) (sym (lane-grows lines rows number lane are))
                  (subst (IsLaneBeginning (lane_at own lane ++ in_lane rows lane)) (sym (lane-entries lane j.entries es))
                  (begun-next (lane_at own lane) (in_lane rows lane) (of_lane lane j.entries) (of_lane lane es) (is.lanes lane) (lanes lane)));
            };
            text = λ fs.
                let more : List ℕ = lines_text (entries_lines settings.proof (next_position j.first j.entries) fs) in
                let before : List ℕ = journals_text settings.proof front done in
                text-push s p front done grown (with_more j fs) run
                ∙ ap (λ t. before ++ t) (round-grows number settings.proof j fs small)
                ∙ sym (append_assoc before (round_text number settings.proof j) more)
                ∙ ap (λ t. t ++ more) (sym (text-push s p front done own j run) ∙ ap (λ rs. journals_text settings.proof rs (done ++ j ∷ [])) (sym was))
                ∙ ap (λ n. journals_text settings.proof (rounds_of lines) (done ++ j ∷ []) ++ lines_text (entries_lines settings.proof n fs)) (sym position)
                ∙ ap (λ t. journals_text settings.proof (rounds_of lines) (done ++ j ∷ []) ++ (t ++ lines_text
                (entries_lines settings.proof (position_after_run p (done ++ j ∷ [])) fs))) (sym starts);
            old_text =
                text-push s p front done grown j run ∙ sym (text-push s p front done own j run)
                ∙ ap (λ rs. journals_text settings.proof rs (done ++ j ∷ [])) (sym was);
            notices = λ fs.
                notices-push done (with_more j fs)
                ∙ ap (λ t. journals_notices settings roads done ++ t) (notices-append roads.nodes settings.wait j.base j.entries fs)
                ∙ sym (append_assoc (journals_notices settings roads done) (own_notices j) (notices_from roads.nodes settings.wait here fs))
                ∙ (λ i. sym (notices-push done j) i ++ notices_from roads.nodes settings.wait (sym state i) fs);
            state =
                state-more settings roads s done k
                ∙ ap (λ t. state_after roads.nodes settings.wait t (j.entries ++ es)) (sym base)
                ∙ state-append roads.nodes settings.wait j.base j.entries es
                ∙ ap (λ t. state_after roads.nodes settings.wait t es) (sym state);
            position =
                position-more p done k
                ∙ ap (λ n. next_position n (j.entries ++ es)) (sym first)
                ∙ next-append j.first j.entries es
                ∙ ap (λ n. next_position n es) (sym position);
          }

      -- there is one round more
      grown-new : (journals : List Journal) → IsRun settings roads s p (rounds_of lines) journals → start_text round number ≡ round_line number
          → rounds_of (lines ++ rows) ≡ rounds_of lines ++ round_of (lines ++ rows) number ∷ [] → ((lane : ℕ) → lane_at (round_of lines number) lane ≡ [])
          → RepliesAreSteps roads.nodes settings.wait (after s journals) es → ClosesAreGood settings roads (after s journals) es
          → HasGrown s p round lines rows number journals es
      grown-new journals run starts rounds none replies closes =
          let none_yet : Journal = record { first = position_after_run p journals; base = after s journals; entries = [] } in
          let k : Journal = with_more none_yet es in
          let grown : NumberedLanes = round_of (lines ++ rows) number in
          let lane_is : (lane : ℕ) → lane_at grown lane ≡ in_lane rows lane = λ lane. lane-grows lines rows number lane are ∙
          ap (λ cs. cs ++ in_lane rows lane) (none lane) in
          let before : List ℕ = journals_text settings.proof (rounds_of lines) journals in
          record {
            fronts = rounds_of lines;
            done = journals;
            front = none_yet;
            one = λ e one. subst (λ xs. ButLast (journals ++ with_more none_yet xs ∷ []) journals) (sym one)
                (ButLast.only journals none_yet.first none_yet.base e);
            rounds = rounds;
            run = run;
            base = refl;
            first = refl;
            whole = λ lanes. record {
              replies = replies;
              closes = closes;
              lanes = λ lane. subst (λ cs. IsLaneRun cs (of_lane lane es)) (sym (lane_is lane)) (lanes lane);
            };
            begun = λ lanes. record {
              replies = replies;
              closes = closes;
              lanes = λ lane. subst (λ cs. IsLaneBeginning cs (of_lane lane es)) (sym (lane_is lane)) (lanes lane);
            };
            text = λ fs.
                text-push s p (rounds_of lines) journals grown (with_more none_yet fs) run
                ∙ ap (λ t. before ++ t) (round-begins number settings.proof (with_more none_yet fs))
                ∙ ap (λ t. before ++ (t ++ lines_text (entries_lines settings.proof (position_after_run p journals) fs))) (sym starts);
            old_text = text-short s p (rounds_of lines) journals grown run;
            notices = λ fs. notices-push journals (with_more none_yet fs);
            state = state-more settings roads s journals k;
            position = position-more p journals k;
          }

      grown-joins : (front : List NumberedLanes) (journals : List Journal) → LastOf s p front (round_of lines number) journals → start_text round number ≡ []
          → rounds_of lines ≡ front ++ round_of lines number ∷ [] → rounds_of (lines ++ rows) ≡ front ++ round_of (lines ++ rows) number ∷ []
          → RepliesAreSteps roads.nodes settings.wait (after s journals) es → ClosesAreGood settings roads (after s journals) es
          → HasGrown s p round lines rows number journals es
      grown-joins front journals last starts was rounds replies closes =
          let Grown : List Journal → Type 0 = λ js. RepliesAreSteps roads.nodes settings.wait (after s js) es → ClosesAreGood settings roads (after s js) es →
          HasGrown s p round lines rows number js es in
          subst Grown (sym last.are) (grown-last front last.front last.journal last.run last.base last.first last.is starts was rounds) replies closes

      pub has-grown : (journals : List Journal) → IsRun settings roads s p (rounds_of lines) journals → RoundsGrow round lines rows number
          → RepliesAreSteps roads.nodes settings.wait (after s journals) es → ClosesAreGood settings roads (after s journals) es
          → HasGrown s p round lines rows number journals es
      has-grown journals run (RoundsGrow.joins front starts was rounds) replies closes =
          grown-joins front journals (run-last s p front (round_of lines number) journals
          (subst (λ rs. IsRun settings roads s p rs journals) was run)) starts was
          rounds replies closes
      has-grown journals run (RoundsGrow.begins starts rounds none) replies closes = grown-new journals run starts rounds none replies closes

  -- a run of a round is a beginning of one
  round-begun : (r : NumberedLanes) (j : Journal) → IsRoundRun settings roads r j → IsRoundBeginning settings roads r j
  round-begun r j run =
      record {
        replies = run.replies;
        closes = run.closes;
        lanes = λ lane. (
          [],
          subst (IsLaneRun (lane_at r lane)) (sym (append-nil (of_lane lane j.entries)))
              (run.lanes lane),
        );
      }

  last-begun : (s : State) (p : ℕ) (rs : List NumberedLanes) (r : NumberedLanes) (js : List Journal) → LastOf s p rs r js →
      IsBegunRun settings roads s p (rs ++ r ∷ []) js
  last-begun s p rs r js last = subst (IsBegunRun settings roads s p (rs ++ r ∷ [])) (sym last.are)
      (IsBegunRun.some rs last.front r last.journal last.run last.base last.first (round-begun r last.journal last.is))

  none-begun : (s : State) (p : ℕ) (js : List Journal) → IsRun settings roads s p [] js → IsBegunRun settings roads s p [] js
  none-begun s p [] run = IsBegunRun.none
  none-begun s p (j ∷ js) run = absurd run

  -- a run of the rounds of rows is a begun one
  pub run-begins : (s : State) (p : ℕ) (round : Option ℕ) (lines : List ScriptRow) (js : List Journal) → EndsIn lines round →
      IsRun settings roads s p (rounds_of lines) js → IsBegunRun settings roads s p (rounds_of lines) js
  run-begins s p _ lines js (EndsIn.in_none empty) run =
      subst (λ ls. IsRun settings roads s p (rounds_of ls) js → IsBegunRun settings roads s p (rounds_of ls) js) (sym empty) (none-begun s p js) run
  run-begins s p _ lines js (EndsIn.in_round front last ends low) run =
      let is : rounds_of lines ≡ map (round_of lines) front ++ round_of lines last ∷ [] = ap (map (round_of lines)) ends.ends ∙
      map-append (round_of lines) front (last ∷ []) in
      subst (λ rs. IsRun settings roads s p rs js → IsBegunRun settings roads s p rs js) (sym is)
      (λ ran. last-begun s p (map (round_of lines) front) (round_of lines last) js (run-last s p (map (round_of lines) front) (round_of lines last) js ran)) run
