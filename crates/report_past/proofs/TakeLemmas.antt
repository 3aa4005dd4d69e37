-- From an item to what a reading has reached.
use Rattle.std.proofs.Common.{
  rules,
  Bor,
  ◌≡◌,
  ◌≢◌,
  ℕ,
  ◌-◌,
  ◌<◌,
  ◌≤◌,
  ◌^◌,
  eqb,
  unwrap_or,
  Bool,
  true,
  false,
  List,
  [],
  ◌∷◌,
  ◌++◌,
  length,
  take,
  drop,
  get_or,
  codes,
  All,
  Contains,
  Option,
  Some,
  None,
  Result,
  Ok,
  Err,
  IfErr,
  IfOk,
  MatchOption,
  IsTrue,
  ◌↔◌,
  refl,
  sym,
  ap,
  subst,
  ◌∙◌,
  append_assoc,
  append-nil,
  length-append,
  take-append-drop,
  arith,
}
use Rattle.std.proofs.lemmas.Bool.{eqb-true}
use Rattle.std.proofs.lemmas.Map.Views.{Contains-from_any}
use Rattle.std.proofs.lemmas.List.{length-take-le, take-append-le, take_all}
use Rattle.std.specs.Option.{is_some}
use Rattle.dispatch_engine.specs.lanes.Lane.{last_sealed}
use Rattle.dispatch_report.specs.Block.{block_lines}
use Rattle.dispatch_report.specs.Entry.{entry_line}
unfoldable use Rattle.dispatch_report.specs.Lines.{lines_text}
unfoldable use Rattle.dispatch_report.specs.Round.{end_text}
use Rattle.dispatch_report.specs.Round.{entry_block, entry_text, round_line}
use Rattle.dispatch_report.specs.Words.{numbered}
use Rattle.input_rows.specs.declared.script.script_row.ScriptRow.{ScriptRow}
use Rattle.input_rows.specs.script.ScriptRow.{IsBehind}
use Rattle.live_dispatch.proofs.lemmas.EntryLemmas.{next-low}
use Rattle.report_audit.specs.block.Block.{BeginsWithGood}
use Rattle.report_past.proofs.CutLemmas.{first_line, one_text}
use Rattle.report_past.proofs.FinishLemmas.{IsTold, finishes}
use Rattle.report_past.proofs.ItemLemmas.{reads_close, reads_row}
use Rattle.report_past.proofs.lemmas.StepLemmas.{no_close}
use Rattle.report_past.specs.Past.{IsPast, dropped_text}
use Rattle.report_past.specs.Told.{AreScriptRows, close_of}
use Rattle.report_past.specs.Whole.{IsWholeText}
use Rattle.report_past.specs.work.Reading.{IsAbove, IsDropped, IsReading, Stand, StandsIn, stand, start_text}
use Rattle.report_past.specs.work.Taking.{EntersClose, HasNoBlock, IsNoClosing, Reached, TakesClose, TakesRow, TellsBlock, fresh}
use Rattle.request_book.specs.Book.{BookView, IsApplied, IsBook, next_position, opening}
use Rattle.request_book.specs.Consistent.{IsNode}
use Rattle.request_book.specs.Points.{named_nodes}
use Rattle.request_book.specs.register.Step.{step}
use Rattle.request_book.specs.values.Batch.{Batch}
use Rattle.request_book.specs.values.Command.{IsNoClose}
use Rattle.request_book.specs.declared.notices.notice.Notice.{Notice}
use Rattle.request_book.specs.declared.values.command.Command.{Command}
use Rattle.request_book.specs.declared.values.command.Command.TheVariants.{Close}
use Rattle.request_book.specs.declared.values.journal.Entry.{Entry}
use Rattle.request_book.specs.declared.values.outcome.Outcome.{Outcome}
use Rattle.request_book.specs.declared.values.reply.Reply.{Reply}
use Rattle.request_book.specs.declared.values.reply.Reply.TheVariants.{Closed}
use Rattle.request_book.specs.declared.values.state.State.{State}
use Rattle.request_book.specs.declared.values.vehicle.Vehicle.{Vehicle}
use Rattle.rider_limits.specs.declared.settings.Settings.{Settings}
use Rattle.road_network.specs.Roads.{Roads}

-- what is dropped
pub dropped_end : (rest at : List ℕ) (round : Option ℕ) → rest ≡ start_text round ++ at → at ≡ [] → IsDropped rest
dropped_end rest at round is none = (round, None, is ∙ ap (λ t. start_text round ++ t) none)

pub dropped_done : (rest at line after : List ℕ) (round : Option ℕ) (n : ℕ) → rest ≡ start_text round ++ at → at ≡ line ++ 10 ∷ after →
    line ≡ numbered (codes "done ") n → after ≡ [] → IsDropped rest
unfolding end_text
dropped_done rest at line after round n is cut told none = (
  round,
  Some n,
  is ∙ ap (λ t. start_text round ++ t)
      (cut ∙ (λ i. told i ++ 10 ∷ none i) ∙ sym (one_text (numbered (codes "done ") n) []) ∙ append-nil (lines_text (numbered (codes "done ") n ∷ []))),
)

pub dropped_none : (rest : List ℕ) → rest ≡ [] → IsDropped rest
dropped_none rest none = (None, None, none)

pub starts_round : (text line after : List ℕ) (n : ℕ) → text ≡ line ++ 10 ∷ after → line ≡ numbered (codes "round ") n → text ≡ round_line n ++ after
starts_round text line after n cut told = cut ∙ ap (λ l. l ++ 10 ∷ after) told ∙ sym (one_text (numbered (codes "round ") n) after)

-- the text of an entry
plain_block : (command : Command) (reply : Reply) → IsNoClose command → entry_block true command reply ≡ []
plain_block (Close batch outcome) reply plain = absurd plain
plain_block _ reply plain = refl

pub row_text : (position : ℕ) (e : Entry) → IsNoClose e.command → entry_text true position e ≡ entry_line position e ++ 10 ∷ []
row_text position e plain =
    ap (λ ls. lines_text ((entry_line position e ∷ []) ++ ls)) (plain_block e.command e.reply plain)
    ∙ sym (append-nil (lines_text (entry_line position e ∷ []))) ∙ one_text (entry_line position e) []

pub close_text : (position : ℕ) (batch : Batch) (outcome : Outcome) (rest : List ℕ)
    → entry_text true position (close_of batch outcome) ++ rest ≡ entry_line position (close_of batch outcome) ++ 10 ∷
    (lines_text (block_lines true batch.number outcome) ++ rest)
close_text position batch outcome rest = first_line (entry_line position (close_of batch outcome)) (block_lines true batch.number outcome) rest

joined : (read start line after : List ℕ) → read ++ (start ++ (line ++ 10 ∷ after)) ≡ (read ++ (start ++ (line ++ 10 ∷ []))) ++ after
joined read start line after = search (rules, append_assoc)

-- a list without items
pub empty_list : (xs : List ℕ) → length xs ≡ 0 → xs ≡ []
empty_list [] none = refl
empty_list (x ∷ xs) none = absurd (omega (arith, none))

-- the round in which an item stands
pub stands_same : (last : Option ℕ) (open_batch : Option Batch) (round : Option ℕ) → round ≡ None →
    MatchOption last ((n : ℕ) → StandsIn last open_batch round n → ⊥) (StandsIn last open_batch round)
stands_same last open_batch round none =
    subst (λ r. MatchOption last ((n : ℕ) → StandsIn last open_batch r n → ⊥) (StandsIn last open_batch r)) (sym none) (by last)
  where
    by : (o : Option ℕ) → MatchOption o ((n : ℕ) → o ≡ Some n → ⊥) (λ n. o ≡ Some n)
    by None = λ n is. let no : None ≡ Some n = is in cc
    by (Some n) = refl

-- a round that can't begin
no_later : (last : Option ℕ) (open_batch : Option Batch) (round : Option ℕ) (number : ℕ) → round ≡ Some number
    → ((open_batch ≡ None) × IsAbove last number × (number ≤ 1000000000) → ⊥) → (n : ℕ) → StandsIn last open_batch round n → ⊥
no_later last open_batch round number is none n stands =
    let at : StandsIn last open_batch (Some number) n = subst (λ r. StandsIn last open_batch r n) is stands in
    none (at.3, subst (IsAbove last) (sym at.0) at.1, omega (arith, at.0, at.2))

pub stands_never : (last : Option ℕ) (open_batch : Option Batch) (round : Option ℕ) (number : ℕ) → round ≡ Some number → is_some open_batch ≡ true
    → (n : ℕ) → StandsIn last open_batch round n → ⊥
stands_never last open_batch round number is open_is =
    no_later last open_batch round number is (λ parts. let no : false ≡ true = sym (ap is_some parts.0) ∙ open_is in cc)

pub stands_later : (last : Option ℕ) (open_batch : Option Batch) (round found : Option ℕ) (number : ℕ) → round ≡ Some number → open_batch ≡ None
    → MatchOption found (IsAbove last number × (number ≤ 1000000000) → ⊥) (λ n. (n ≡ number) × IsAbove last number × (number ≤ 1000000000))
    → MatchOption found ((n : ℕ) → StandsIn last open_batch round n → ⊥) (StandsIn last open_batch round)
stands_later last open_batch round None number is closed above = no_later last open_batch round number is (λ parts. above (parts.1, parts.2))
stands_later last open_batch round (Some n) number is closed above =
    subst (λ r. StandsIn last open_batch r n) (sym is)
    (sym above.0, subst (IsAbove last) (sym above.0) above.1, omega (arith, above.0, above.2), closed)

pub not_both : (said : Bool) → said ≡ false → IsTrue said → ⊥
not_both true off on = let no : true ≡ false = off in cc
not_both false off on = let no : false ≡ true = on in cc

-- a row's line was told
pub tells_row : {E : Type 0} (told : Result Bool E) (old new : BookView) (lane : ℕ) (command copy : Command) (reply : Reply) (line : List ℕ) (position : ℕ)
    → IfOk told (λ yes. IsTrue yes ↔ (line ≡ entry_line position (record { lane = lane; command = copy; reply = reply })))
    → IsApplied old lane command reply new → copy ≡ command → position ≡ next_position old.first old.entries
    → IfOk told (λ yes. IsTrue yes → (r : Reply) × IsApplied old lane command r new
    × (line ≡ entry_line (next_position old.first old.entries) (record { lane = lane; command = command; reply = r })))
tells_row (Ok tells) old new lane command copy reply line position is applied same at =
    λ on. (reply, applied, is.0 on ∙ (λ i. entry_line (at i) (record { lane = lane; command = same i; reply = reply })))
tells_row (Err e) old new lane command copy reply line position is applied same at = tt

-- the line of no row's entry
pub tells_none : {E : Type 0} (told : Result Bool E) (old new : BookView) (lane : ℕ) (command copy : Command) (reply : Reply) (line : List ℕ) (position : ℕ)
    → IfOk told (λ yes. IsTrue yes ↔ (line ≡ entry_line position (record { lane = lane; command = copy; reply = reply })))
    → IsApplied old lane command reply new → copy ≡ command → position ≡ next_position old.first old.entries
    → IfOk told (λ yes. yes ≡ false → line ≡ entry_line (next_position old.first old.entries)
    (record { lane = lane; command = command; reply = (step old.nodes old.wait old.state command).1 }) → ⊥)
tells_none (Ok said) old new lane command copy reply line position is applied same at =
    λ off line_is. not_both said off (is.1 (line_is ∙ (λ i. entry_line (sym at i)
    (record { lane = lane; command = sym same i; reply = sym (ap (λ p. p.1) applied.stepped) i }))))
tells_none (Err e) old new lane command copy reply line position is applied same at = tt

-- the line of a close doesn't tell its outcome
pub tells_close : {E : Type 0} (told : Result Bool E) (line : List ℕ) (position batch : ℕ) (some : Outcome)
    → IfOk told (λ yes. IsTrue yes ↔ (line ≡ entry_line position (record { lane = 0; command = Close batch some; reply = Closed })))
    → IfOk told (λ yes. (outcome : Outcome) → IsTrue yes ↔ (line ≡ entry_line position (record { lane = 0; command = Close batch outcome; reply = Closed })))
tells_close (Ok tells) line position batch some is = λ outcome. is
tells_close (Err e) line position batch some is = tt

pub no_closing : (said : Bool) (book : BookView) (batch : Batch) (line : List ℕ) (position number : ℕ) → number ≡ batch.number
    → position ≡ next_position book.first book.entries
    → ((outcome : Outcome) → IsTrue said ↔ (line ≡ entry_line position (record { lane = 0; command = Close number outcome; reply = Closed })))
    → said ≡ false → IsNoClosing book batch line
no_closing said book batch line position number same at is off outcome line_is =
    not_both said off ((is outcome).1 (line_is ∙ (λ i. entry_line (sym at i) (record { lane = 0; command = Close (sym same i) outcome; reply = Closed }))))

-- no batch is open
pub none_of : (open_batch : Option Batch) → is_some open_batch ≡ false → open_batch ≡ None
none_of None none = refl
none_of (Some batch) none = absurd (let no : true ≡ false = none in cc)

-- what is left behind an item is shorter
pub shorter_rest : (rest start line after behind : List ℕ) → rest ≡ start ++ (line ++ 10 ∷ after) → length behind ≤ length after → length behind < length rest
shorter_rest rest start line after behind is low =
    omega (arith, low, ap length is, length-append start (line ++ 10 ∷ after), length-append line (10 ∷ after))

-- the nodes of a batch are the network's
pub known_nodes : (nodes roads ns : List ℕ) → nodes ≡ roads → All (IsNode nodes) ns → All (λ node. Contains roads node) ns
known_nodes nodes roads ns is all = λ k d within.
    let node = get_or ns k d in
    Contains-from_any {eq = λ q n. eqb n q} (λ x y same. sym (eqb-true y x same)) node roads (subst (λ (ms : List ℕ). IsNode ms node) is (all k d within))

-- a round has a number that a script may have
named_row : (last : ℕ) (front : List ScriptRow) (row : ScriptRow) (rows : List ScriptRow) → AreScriptRows last (front ++ (row ∷ rows)) → row.round ≤ 1000000000
named_row last [] row rows are = are.0.number
named_row last (f ∷ front) row rows are = named_row f.round front row rows are.1

pub rowed_shorter : {E : Type 0} (b now : BookView) (open_batch next : Option Batch) (line after : List ℕ) (number : ℕ) (last_now : Option ℕ)
    (found : Result (Bor (List ℕ)) E) → IfOk found (λ rest. (rest.now ≡ after) × (last_now ≡ Some number) × TakesRow b now open_batch next line)
    → IfOk found (λ rest. length rest.now ≤ length after)
rowed_shorter b now open_batch next line after number last_now (Err e) is = tt
rowed_shorter b now open_batch next line after number last_now (Ok rest) is = omega (arith, ap length is.0)

module _ (settings : Settings) (roads : Roads) (vehicles : List Vehicle) (judged : Bool) where
  named_last : (read : List ℕ) (s : Stand) (n : ℕ) → IsReading settings roads vehicles judged read s → s.last ≡ Some n → n ≤ 1000000000
  named_last _ _ n (IsReading.at_start b open_batch notices start) is = absurd cc
  named_last _ _ n (IsReading.in_round before front row rows done j number b open_batch notices in_round) is =
      let named = named_row 0 front row rows in_round.lawful in
      let same : number ≡ n = ap (λ o. unwrap_or o 0) is in
      omega (arith, named, same, in_round.own.0)

  named_in : (read : List ℕ) (s : Stand) (round : Option ℕ) (n : ℕ) → IsReading settings roads vehicles judged read s → StandsIn s.last s.open_batch round n →
      n ≤ 1000000000
  named_in read s None n is stands = named_last read s n is stands
  named_in read s (Some round) n is stands = stands.2

  pub same_book : (read : List ℕ) (s : Stand) (b : BookView) → IsReading settings roads vehicles judged read s → b.nodes ≡ s.book.nodes → b.wait ≡ s.book.wait →
      b.state ≡ s.book.state
      → next_position b.first b.entries ≡ next_position s.book.first s.book.entries → IsReading settings roads vehicles judged read (record s { book = b })
  same_book _ _ b (IsReading.at_start c open_batch notices start) nodes wait state position =
      IsReading.at_start b open_batch notices (record {
        nodes = nodes ∙ start.nodes;
        wait = wait ∙ start.wait;
        state = state ∙ start.state;
        position =
            position ∙ start.position;
        closed = start.closed;
        none = start.none;
      })
  same_book _ _ b (IsReading.in_round before front row rows done j number c open_batch notices is) nodes wait state position =
      IsReading.in_round before front row rows done j number b open_batch notices (record {
        told = is.told;
        earlier = is.earlier;
        own = is.own;
        lawful = is.lawful;
        text = is.text;
        base = is.base;
        first = is.first;
        low = is.low;
        replies = is.replies;
        lanes = is.lanes;
        nodes = nodes ∙ is.nodes;
        wait = wait ∙ is.wait;
        state = state ∙ is.state;
        position = position ∙ is.position;
        sealed = ap (λ (s : State). s.sealed) state ∙ is.sealed;
        notices_are = is.notices_are;
        good_before = is.good_before;
        good = is.good;
      })

  fresh_reading : (read : List ℕ) (s : Stand) → IsReading settings roads vehicles judged read s →
      IsReading settings roads vehicles judged read (record s { book = fresh s.book })
  fresh_reading read s is = same_book read s (fresh s.book) is refl refl refl (omega (arith, next-low s.book.first s.book.entries))

  module _ (whole : List ℕ) (last : Option ℕ) (b : BookView) (open_batch : Option Batch) (notices : List Notice) (round : Option ℕ) (line after : List ℕ)
      (reached : Reached settings roads vehicles judged whole (stand last b open_batch notices) (start_text round ++ (line ++ 10 ∷ after))) where
    pub row_reached : (number : ℕ) (now : BookView) (next : Option Batch) → StandsIn last open_batch round number → TakesRow b now open_batch next line
        → Reached settings roads vehicles judged whole (stand (Some number) now next notices) after
    row_reached number now next stands takes =
        let row : ScriptRow = record { round = number; lane = takes.lane; command = takes.command } in
        let e : Entry = record { lane = takes.lane; command = takes.command; reply = takes.reply } in
        let named = named_in reached.read (stand last b open_batch notices) round number reached.reading stands in
        let lawful : IsBehind 0 row = record { round = omega arith; number = named; lane = takes.within; stands = takes.stands } in
        let text : entry_text true (next_position b.first b.entries) e ≡ line ++ 10 ∷ [] =
        row_text (next_position b.first b.entries) e (no_close takes.lane takes.command takes.stands) ∙ ap (λ l. l ++ 10 ∷ []) (sym takes.line_is) in
        record {
          read = reached.read ++ (start_text round ++ (line ++ 10 ∷ []));
          parts = reached.parts ∙ joined reached.read (start_text round) line after;
          reading = subst (λ o. IsReading settings roads vehicles judged (reached.read ++ (start_text round ++ (line ++ 10 ∷ [])))
              (stand (Some number) now o notices)) (sym takes.now_is)
              (subst (λ t. IsReading settings roads vehicles judged (reached.read ++ (start_text round ++ t))
              (stand (Some number) now (last_sealed open_batch takes.sealed) notices)) text
              (reads_row settings roads vehicles judged reached.read (stand last b open_batch notices) round row takes.reply now takes.sealed reached.reading
              stands lawful takes.free takes.applied takes.sealed_is));
        }

  no_start : (last : Option ℕ) (batch : Batch) (round : Option ℕ) (number : ℕ) → StandsIn last (Some batch) round number → start_text round ≡ []
  no_start last batch None number stands = refl
  no_start last batch (Some n) number stands = absurd (let no : Some batch ≡ None = stands.3 in cc)

  pub close_reached : (whole : List ℕ) (last : Option ℕ) (b : BookView) (batch : Batch) (notices : List Notice) (round : Option ℕ) (line after rest : List ℕ)
      (number : ℕ) (now : BookView) (told : List Notice)
      → Reached settings roads vehicles judged whole (stand last b (Some batch) notices) (start_text round ++ (line ++ 10 ∷ after))
      → StandsIn last (Some batch) round number → TakesClose settings roads judged b now batch line after rest told
      → Reached settings roads vehicles judged whole (stand last now None told) rest
  close_reached whole last b batch notices round line after rest number now told reached stands takes =
      let at = next_position b.first b.entries in
      let text = entry_text true at (close_of batch takes.outcome) in
      let enters = takes.enters in
      record {
        read = reached.read ++ text;
        parts = reached.parts
            ∙ ap (λ t. reached.read ++ (t ++ (line ++ 10 ∷ after))) (no_start last batch round number stands)
            ∙ ap (λ t. reached.read ++ t) ((λ i. takes.line_is i ++ 10 ∷ takes.tells.block i) ∙ sym (close_text at batch takes.outcome rest))
            ∙ sym (append_assoc reached.read text rest);
        reading = subst (λ c. IsReading settings roads vehicles judged (reached.read ++ text) (stand last c None told)) (sym enters.fresh_is)
            (fresh_reading (reached.read ++ text) (stand last enters.closed None told)
            (reads_close settings roads vehicles judged reached.read last b batch notices takes.outcome enters.reply enters.closed told reached.reading
            enters.applied enters.told_is takes.tells.good));
      }

  -- what was found of an item
  pub tells_unjudged : {X E : Type 0} (batch : Batch) (text : List ℕ) (outcome_of : X → Outcome) (rest_of : X → List ℕ) (found : Result X E) → judged ≡ false
      → IfOk found (λ x. text ≡ lines_text (block_lines true batch.number (outcome_of x)) ++ rest_of x)
      → IfOk found (λ x. (s : Settings) (r : Roads) (other : Outcome) (behind : List ℕ) → BeginsWithGood s r batch text other behind
      → (other ≡ outcome_of x) × (behind ≡ rest_of x))
      → IfOk found (λ x. TellsBlock settings roads judged batch text (outcome_of x) (rest_of x))
  tells_unjudged batch text outcome_of rest_of (Ok x) off is only =
      record { block = is; good = λ on. absurd (let no : true ≡ false = sym on ∙ off in cc); only = only settings roads }
  tells_unjudged batch text outcome_of rest_of (Err e) off is only = tt

  pub tells_judged : {X E : Type 0} (batch : Batch) (text : List ℕ) (outcome_of : X → Outcome) (rest_of : X → List ℕ) (found : Result X E)
      → IfOk found (λ x. BeginsWithGood settings roads batch text (outcome_of x) (rest_of x))
      → IfOk found (λ x. (other : Outcome) (behind : List ℕ) → BeginsWithGood settings roads batch text other behind
      → (other ≡ outcome_of x) × (behind ≡ rest_of x))
      → IfOk found (λ x. TellsBlock settings roads judged batch text (outcome_of x) (rest_of x))
  tells_judged batch text outcome_of rest_of (Ok x) is only = record { block = is.whole; good = λ on. is.good; only = only }
  tells_judged batch text outcome_of rest_of (Err e) is only = tt

  pub tells_no_block : {X E : Type 0} (memory : E) (batch : Batch) (text : List ℕ) (found : Result X E)
      → IfErr found (λ refusal. refusal ≢ memory → (s : Settings) (r : Roads) (outcome : Outcome) (rest : List ℕ)
      → BeginsWithGood s r batch text outcome rest → ⊥)
      → IfErr found (λ refusal. refusal ≢ memory → HasNoBlock settings roads batch text)
  tells_no_block memory batch text (Ok x) none = tt
  tells_no_block memory batch text (Err e) none = λ fails. none fails settings roads

  pub close_takes : (old new : BookView) (batch : Batch) (line after rest : List ℕ) (told : List Notice) (outcome : Outcome) (position number : ℕ)
      → number ≡ batch.number → position ≡ next_position old.first old.entries → TellsBlock settings roads judged batch after outcome rest
      → line ≡ entry_line position (record { lane = 0; command = Close number outcome; reply = Closed })
      → EntersClose old new number outcome told → TakesClose settings roads judged old new batch line after rest told
  close_takes old new batch line after rest told outcome position number same at tells line_is enters = record {
    outcome = outcome;
    tells = tells;
    line_is = line_is ∙ (λ i. entry_line (at i) (record { lane = 0; command = Close (same i) outcome; reply = Closed }));
    enters = subst (λ n. EntersClose old new n outcome told) same enters;
  }

  module _ {E : Type 0} (whole : List ℕ) (last : Option ℕ) (b : BookView) (open_batch : Option Batch) (notices : List Notice) (round : Option ℕ)
      (line after : List ℕ) (number : ℕ)
      (reached : Reached settings roads vehicles judged whole (stand last b open_batch notices) (start_text round ++ (line ++ 10 ∷ after)))
      (stands : StandsIn last open_batch round number) (now : BookView) (next : Option Batch) where
    pub item_closed : (told : List Notice) (found : Result (Bor (List ℕ)) E)
        → IfOk found (λ rest. (next ≡ None) × ((batch : Batch) × (open_batch ≡ Some batch) × TakesClose settings roads judged b now batch line after rest.now
        told))
        → IfOk found (λ rest. Reached settings roads vehicles judged whole (stand last now next told) rest.now)
    item_closed told (Err e) is = tt
    item_closed told (Ok rest) is =
        subst (λ o. Reached settings roads vehicles judged whole (stand last now o told) rest.now) (sym is.0)
        (close_reached whole last b is.1.0 notices round line after rest.now number now told
        (subst (λ o. Reached settings roads vehicles judged whole (stand last b o notices) (start_text round ++ (line ++ 10 ∷ after))) is.1.1 reached)
        (subst (λ o. StandsIn last o round number) is.1.1 stands) is.1.2)

    pub item_rowed : (last_now : Option ℕ) (found : Result (Bor (List ℕ)) E)
        → IfOk found (λ rest. (rest.now ≡ after) × (last_now ≡ Some number) × TakesRow b now open_batch next line)
        → IfOk found (λ rest. Reached settings roads vehicles judged whole (stand last_now now next notices) rest.now)
    item_rowed last_now (Err e) is = tt
    item_rowed last_now (Ok rest) is =
        subst (λ l. Reached settings roads vehicles judged whole (stand l now next notices) rest.now) (sym is.1)
        (subst (Reached settings roads vehicles judged whole (stand (Some number) now next notices)) (sym is.0)
        (row_reached whole last b open_batch notices round line after reached number now next stands is.2))

  pub closed_shorter : {E : Type 0} (b now : BookView) (open_batch next : Option Batch) (line after : List ℕ) (told : List Notice)
      (found : Result (Bor (List ℕ)) E)
      → IfOk found (λ rest. (next ≡ None) × ((batch : Batch) × (open_batch ≡ Some batch) × TakesClose settings roads judged b now batch line after rest.now
      told))
      → IfOk found (λ rest. length rest.now ≤ length after)
  closed_shorter b now open_batch next line after told (Err e) is = tt
  closed_shorter b now open_batch next line after told (Ok rest) is =
      let takes = is.1.2 in
      let block = lines_text (block_lines true is.1.0.number takes.outcome) in
      omega (arith, ap length takes.tells.block, length-append block rest.now)

  -- at the start and at the end
  pub reached_start : (whole : List ℕ) (b : BookView) (notices : List Notice) → b ≡ record
      { nodes = roads.nodes; wait = settings.wait; first = 0; base = opening vehicles; entries = []; state = opening vehicles; spare = 0 } → notices ≡ []
      → Reached settings roads vehicles judged whole (stand None b None notices) whole
  reached_start whole b notices is none = record {
    read = [];
    parts = refl;
    reading = IsReading.at_start b None notices (record {
      nodes = ap (λ (c : BookView). c.nodes) is;
      wait = ap (λ (c : BookView). c.wait) is;
      state = ap (λ (c : BookView). c.state) is;
      position = ap (λ (c : BookView). next_position c.first c.entries) is;
      closed = refl;
      none = none;
    });
  }

  take-front : (read rest : List ℕ) → take (length read) (read ++ rest) ≡ read
  take-front read rest = search (rules, take-append-le, take_all)

  kept_is : (whole read rest : List ℕ) → whole ≡ read ++ rest → take (length whole - length rest) whole ≡ read
  kept_is whole read rest is =
      let count : length whole - length rest ≡ length read = omega (arith, ap length is, length-append read rest) in
      (λ i. take (count i) (is i)) ∙ take-front read rest

  pub past_is : (text whole kept rest : List ℕ) (size : ℕ) (s : Stand) (b : BookView) → whole ≡ take size text → size ≤ length text
      → IsWholeText (take size text)
      → ((m : ℕ) → m ≤ length text → IsWholeText (take m text) → m ≤ size) → Reached settings roads vehicles judged whole s rest → IsDropped rest
      → kept ≡ take (length whole - length rest) whole → b ≡ fresh s.book → IsBook b
      → IsPast settings roads vehicles judged text kept s.last b s.open_batch s.notices
  past_is text whole kept rest size s b whole_is within is_whole longest reached dropped kept_at fresh_is book =
      let told : IsTold settings roads vehicles judged reached.read s = finishes settings roads vehicles judged reached.read s reached.reading in
      let kept_read : kept ≡ reached.read = kept_at ∙ kept_is whole reached.read rest reached.parts in
      let parts : take size text ≡ kept ++ dropped_text dropped.0 dropped.1 = sym whole_is ∙ reached.parts ∙ (λ i. sym kept_read i ++ dropped.2 i) in
      record {
        cut = record {
          round = dropped.0;
          entries = dropped.1;
          rest = drop size text;
          parts = sym (take-append-drop size text) ∙ ap (λ t. t ++ drop size text) parts;
          whole = subst IsWholeText parts is_whole;
          longest = λ m low is. let small = longest m low is in omega (arith, small, ap length parts, length-take-le size text within);
        };
        rows = told.rows;
        lawful = told.lawful;
        last_is = told.last_is;
        made = told.made;
        told = told.told;
        printed = kept_read ∙ told.printed;
        book = record {
          kept = book;
          nodes = ap (λ (c : BookView). c.nodes) fresh_is ∙ told.nodes;
          wait = ap (λ (c : BookView). c.wait) fresh_is ∙ told.wait;
          first = ap (λ (c : BookView). c.first) fresh_is ∙ told.position;
          low = subst (λ p. p < 2 ^ 64) (sym (ap (λ (c : BookView). c.first) fresh_is)) (next-low s.book.first s.book.entries);
          base = ap (λ (c : BookView). c.base) fresh_is ∙ told.state;
          empty = ap (λ (c : BookView). c.entries) fresh_is;
          state = ap (λ (c : BookView). c.state) fresh_is ∙ sym (ap (λ (c : BookView). c.base) fresh_is);
          sealed = ap (λ (c : BookView). c.state.sealed) fresh_is ∙ told.sealed;
        };
        notices_are = told.notices_are;
        good = told.good;
      }

  -- what the step functions know of a stand
  pub reached_nodes : (whole rest : List ℕ) (s : Stand) → Reached settings roads vehicles judged whole s rest → IsBook s.book → (b : Batch) →
      s.open_batch ≡ Some b → All (λ node. Contains roads.nodes node) (named_nodes b)
  reached_nodes whole rest s reached book b is =
      let told : IsTold settings roads vehicles judged reached.read s = finishes settings roads vehicles judged reached.read s reached.reading in
      known_nodes s.book.nodes roads.nodes (named_nodes b) told.nodes (book.named.sealed b (told.sealed ∙ is))
