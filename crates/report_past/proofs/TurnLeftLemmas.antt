-- An item of what is left: a row or a close, and what is left behind it.
use Rattle.std.proofs.Common.{
  Bor,
  ◌≡◌,
  ◌≢◌,
  ℕ,
  ◌<◌,
  ◌^◌,
  unwrap_or,
  Bool,
  true,
  false,
  List,
  [],
  ◌∷◌,
  ◌++◌,
  codes,
  Option,
  Some,
  None,
  Result,
  Ok,
  Err,
  IfErr,
  IfOk,
  IfSome,
  ◌⊎◌,
  inl,
  inr,
  refl,
  sym,
  ap,
  subst,
  ◌∙◌,
  append_assoc,
  arith,
}
use Rattle.std.specs.Option.{is_some}
use Rattle.dispatch_engine.specs.outcome.Outcome.{IsGoodOutcome}
use Rattle.dispatch_report.specs.Block.{block_line_text, block_lines}
use Rattle.dispatch_report.specs.Entry.{entry_line}
use Rattle.dispatch_report.specs.Lines.{lines_text}
use Rattle.dispatch_report.specs.Words.{numbered}
use Rattle.dispatch_report.specs.declared.block_line.BlockLine.{BlockLine}
use Rattle.dispatch_report.specs.declared.block_line.BlockLine.TheVariants.{End}
use Rattle.input_rows.specs.script.Round.{MayStand}
use Rattle.live_dispatch.proofs.lemmas.EntryLemmas.{next-append, next-low}
use Rattle.pool_io.specs.Faults.{one_more}
use Rattle.report_audit.specs.block.Block.{BeginsWithGood}
use Rattle.report_audit.specs.block.Fits.{FitsTypes}
use Rattle.report_audit.specs.declared.lines.next.NextLine.{NextLine}
use Rattle.report_audit.specs.declared.lines.next.NextLine.TheVariants.{Round, Done, Entry as EntryOf}
use Rattle.report_audit.specs.declared.report.fault.AuditFault.{AuditFault}
use Rattle.report_audit.specs.declared.report.fault.AuditFault.TheVariants.{OutOfMemory}
use Rattle.report_audit.specs.lines.BlockLine.{IsBlockLine}
use Rattle.report_audit.specs.lines.Cut.{is_one_line}
use Rattle.report_audit.specs.lines.Next.{IsEntry, IsNextLine}
use Rattle.report_past.proofs.BlockLeftLemmas.{block_of, open_after}
use Rattle.report_past.proofs.FinishLemmas.{IsTold, finishes}
use Rattle.report_past.proofs.NextLeftLemmas.{done_text_of, named_round, round_one, round_text_of, start_none, start_same}
use Rattle.report_past.proofs.WholeLeftLemmas.{Ends, Stands, block_stands, ends_any, ends_first, ends_of}
use Rattle.report_past.proofs.lemmas.StepLemmas.{no_close}
use Rattle.report_past.specs.Past.{dropped_text}
use Rattle.report_past.specs.Told.{close_of}
use Rattle.report_past.specs.Whole.{after_line}
use Rattle.report_past.specs.work.Left.{EndsWhole, IsItem, IsLeft, IsLeftAt, IsNotLeft, StaysLeft}
use Rattle.report_past.specs.work.Reading.{IsReading, Stand, StandsIn, stand, start_text}
use Rattle.report_past.specs.work.Taking.{HasNoBlock, IsNextRow, IsNoClosing, Reached, TakesClose, TakesRow}
use Rattle.request_book.specs.Book.{BookView, IsApplied, next_position}
use Rattle.request_book.specs.register.Step.{step}
use Rattle.request_book.specs.values.Batch.{Batch}
use Rattle.request_book.specs.declared.notices.notice.Notice.{Notice}
use Rattle.request_book.specs.declared.values.command.Command.{Command}
use Rattle.request_book.specs.declared.values.command.Command.TheVariants.{Close}
use Rattle.request_book.specs.declared.values.journal.Entry.{Entry}
use Rattle.request_book.specs.declared.values.outcome.Outcome.{Outcome}
use Rattle.request_book.specs.declared.values.reply.Reply.{Reply}
use Rattle.request_book.specs.declared.values.state.State.{State}
use Rattle.request_book.specs.declared.values.vehicle.Vehicle.{Vehicle}
use Rattle.rider_limits.specs.declared.settings.Settings.{Settings}
use Rattle.road_network.specs.Roads.{Roads}

-- the lane of an entry's line
abbrev lane_of : NextLine → ℕ
lane_of (EntryOf lane) = lane
lane_of _ = 0

abbrev is_entry : NextLine → Type 0
is_entry (EntryOf lane) = Unit {0}
is_entry _ = ⊥

-- a batch is open
some_of : (o : Option Batch) → is_some o ≡ true → (b : Batch) × (o ≡ Some b)
some_of None is = absurd (let no : false ≡ true = is in cc)
some_of (Some b) is = (b, refl)

module _ (settings : Settings) (roads : Roads) where
  -- what is left begins with a row of this line, or with a close of it
  pub data Turns (last : Option ℕ) (s : State) (p : ℕ) (found : Option ℕ) (lane : ℕ) (line tail : List ℕ) : Type 0 where
    row : (number : ℕ) (e : Entry) → StandsIn last s.sealed found number → MayStand e.lane e.command → e.lane < 16 → (e.lane ≡ 0 → s.sealed ≡ None)
        → IsEntry p e → e.reply ≡ (step roads.nodes settings.wait s e.command).1
        → IsLeft settings roads (Some number) (step roads.nodes settings.wait s e.command).0 (one_more p) tail
        → line ≡ entry_line p e → e.lane ≡ lane → Turns last s p found lane line tail
    close : (batch : Batch) (outcome : Outcome) (rest : List ℕ) → s.sealed ≡ Some batch → FitsTypes batch.number outcome
        → IsGoodOutcome settings roads batch outcome
        → IsLeft settings roads last (step roads.nodes settings.wait s (Close batch.number outcome)).0 (one_more p) rest
        → line ≡ entry_line p (close_of batch outcome) → tail ≡ lines_text (block_lines true batch.number outcome) ++ rest → 0 ≡ lane → found ≡ None
        → Turns last s p found lane line tail

module _ (one_line : (x : NextLine) (line : List ℕ) → IsNextLine x line → is_one_line line ≡ true)
    (one_kind : (x y : NextLine) (line : List ℕ) → IsNextLine x line → IsNextLine y line → x ≡ y) where
  plain_line : (lane : ℕ) (line : List ℕ) → IsNextLine (EntryOf lane) line → (n : ℕ) → n < 2 ^ 32 → line ≡ numbered (codes "round ") n → ⊥
  plain_line lane line is n low same = subst is_entry (one_kind (EntryOf lane) (Round n) line is (low, same)) tt

  not_done : (lane k : ℕ) (line : List ℕ) → IsNextLine (EntryOf lane) line → k < 2 ^ 64 → line ≡ numbered (codes "done ") k → ⊥
  not_done lane k line is low same = subst is_entry (one_kind (EntryOf lane) (Done k) line is (low, same)) tt

  same_lane : (lane other : ℕ) (line : List ℕ) → IsNextLine (EntryOf lane) line → IsNextLine (EntryOf other) line → lane ≡ other
  same_lane lane other line is also = ap lane_of (one_kind (EntryOf lane) (EntryOf other) line is also)

  module _ (found : Option ℕ) (lane : ℕ) (line : List ℕ) (item : IsItem found lane line) where
    one : is_one_line line ≡ true
    one = one_line (EntryOf lane) line item.1

    no_drop : (tail : List ℕ) (round entries : Option ℕ) → IfSome round (λ n. n < 2 ^ 32) → IfSome entries (λ n. n < 2 ^ 64)
        → start_text found ++ (line ++ 10 ∷ tail) ≡ dropped_text round entries → ⊥
    no_drop tail round None small few e =
        start_none one_line one_kind found round line tail item.0 small one (λ _. plain_line lane line item.1) e
    no_drop tail round (Some k) small few e =
        let same = start_same one_line one_kind found round line tail (numbered (codes "done ") k) [] (Done k) item.0 small one (few, refl) tt
        (λ _. plain_line lane line item.1) (e ∙ ap (λ t. start_text round ++ t) (done_text_of k)) in
        not_done lane k line item.1 few same.1

    pub turns : (settings : Settings) (roads : Roads) (last : Option ℕ) (s : State) (p : ℕ) (after more : List ℕ)
        → IsLeft settings roads last s p ((start_text found ++ (line ++ 10 ∷ after)) ++ more) → Turns settings roads last s p found lane line (after ++ more)
    turns settings roads last s p after more left = by last s p ((start_text found ++ (line ++ 10 ∷ after)) ++ more) left
        (append_assoc (start_text found) (line ++ 10 ∷ after) more ∙ ap (λ t. start_text found ++ t) (append_assoc line (10 ∷ after) more))
      where
        by : (last : Option ℕ) (s : State) (p : ℕ) (text : List ℕ) → IsLeft settings roads last s p text
            → text ≡ start_text found ++ (line ++ 10 ∷ (after ++ more)) → Turns settings roads last s p found lane line (after ++ more)
        by last s p text (IsLeft.drops _ _ _ _ round entries small few is) e = absurd (no_drop (after ++ more) round entries small few (sym e ∙ is))
        by last s p text (IsLeft.row _ _ _ _ round number x rest stands may within free told replies left is) e =
            let next : IsNextLine (EntryOf x.lane) (entry_line p x) = (p, x, told, refl, refl) in
            let same = start_same one_line one_kind found round line (after ++ more) (entry_line p x) rest (EntryOf x.lane) item.0
            (named_round last s.sealed round number stands) one next tt (λ _. plain_line lane line item.1) (sym e ∙ is) in
            Turns.row number x (subst (λ r. StandsIn last s.sealed r number) (sym same.0) stands) may within free told replies
            (subst (IsLeft settings roads (Some number) (step roads.nodes settings.wait s x.command).0 (one_more p)) (sym same.2) left) same.1
            (same_lane x.lane lane (entry_line p x) next (subst (IsNextLine (EntryOf lane)) same.1 item.1))
        by last s p text (IsLeft.close _ _ _ _ batch outcome rest sealed told fits good left is) e =
            let x = close_of batch outcome in
            let next : IsNextLine (EntryOf 0) (entry_line p x) = (p, x, told, refl, refl) in
            let same = start_same one_line one_kind found None line (after ++ more) (entry_line p x)
            (lines_text (block_lines true batch.number outcome) ++ rest) (EntryOf 0) item.0 tt one next tt (λ _. plain_line lane line item.1) (sym e ∙ is) in
            Turns.close batch outcome rest sealed fits good left same.1 same.2
            (same_lane 0 lane (entry_line p x) next (subst (IsNextLine (EntryOf lane)) same.1 item.1)) same.0

    -- whole lines behind an item
    pub ends_item : (after : List ℕ) → EndsWhole (start_text found ++ (line ++ 10 ∷ after)) → EndsWhole after
    ends_item after whole = by found item.0 whole
      where
        by : (f : Option ℕ) → IfSome f (λ n. n < 2 ^ 32) → EndsWhole (start_text f ++ (line ++ 10 ∷ after)) → EndsWhole after
        by None low is = ends_any (after_line is.inside line) after (ends_first is.inside line after one (ends_of (line ++ 10 ∷ after) is))
        by (Some n) low is =
            let l = numbered (codes "round ") n in
            let i = after_line is.inside l in
            let behind = ends_first is.inside l (line ++ 10 ∷ after) (round_one one_line one_kind n low)
            (subst (Ends is.inside) (round_text_of n (line ++ 10 ∷ after)) (ends_of (start_text (Some n) ++ (line ++ 10 ∷ after)) is)) in
            ends_any (after_line i line) after (ends_first i line after one behind)

  module _ (ends_one : (x : BlockLine) → IsBlockLine x → is_one_line (block_line_text x) ≡ true)
      (ends_once : (x : BlockLine) → IsBlockLine x → block_line_text x ≡ codes "end" → x ≡ End) where
    module _ (settings : Settings) (roads : Roads) (vehicles : List Vehicle) (judged : Bool) (whole : List ℕ) (last : Option ℕ) (b : BookView)
        (open_batch : Option Batch) (notices : List Notice) (found : Option ℕ) (lane : ℕ) (line after : List ℕ)
        (reached : Reached settings roads vehicles judged whole (stand last b open_batch notices) (start_text found ++ (line ++ 10 ∷ after))) where
      abbrev text : List ℕ
      text = start_text found ++ (line ++ 10 ∷ after)

      abbrev at : ℕ
      at = next_position b.first b.entries

      abbrev Left : Option ℕ → State → ℕ → List ℕ → Type 0
      Left l s p t = IsLeft settings roads l s p t

      abbrev stepped : Command → State
      stepped command = (step b.nodes b.wait b.state command).0

      told : IsTold settings roads vehicles judged reached.read (stand last b open_batch notices)
      told = finishes settings roads vehicles judged reached.read (stand last b open_batch notices) reached.reading

      abbrev Turn : List ℕ → Type 0
      Turn more = Turns settings roads last b.state at found lane line (after ++ more)

      same_step : (command : Command) → step b.nodes b.wait b.state command ≡ step roads.nodes settings.wait b.state command
      same_step command = (λ i. step (told.nodes i) (told.wait i) b.state command)

      same_state : (command : Command) → (step roads.nodes settings.wait b.state command).0 ≡ stepped command
      same_state command = ap (λ r. r.0) (sym (same_step command))

      moved : (l m : Option ℕ) (s t : State) (p q : ℕ) (xs ys : List ℕ) → l ≡ m → s ≡ t → p ≡ q → xs ≡ ys → Left l s p xs → Left m t q ys
      moved l m s t p q xs ys same_l same_s same_p same_t left =
          subst (Left m t q) same_t (subst (λ n. Left m t n xs) same_p (subst (λ u. Left m u p xs) same_s (subst (λ o. Left o s p xs) same_l left)))

      -- the round of the last row is known while a batch is open
      last_known : (read : List ℕ) (s : Stand) (batch : Batch) → IsReading settings roads vehicles judged read s → s.open_batch ≡ Some batch →
          (n : ℕ) × (s.last ≡ Some n)
      last_known _ _ batch (IsReading.at_start c o ns start) is = absurd (let no : None ≡ Some batch = sym start.closed ∙ is in cc)
      last_known _ _ batch (IsReading.in_round before front first rows done j number c o ns is_in) is = (number, refl)

      same_number : (o : Option ℕ) (m n : ℕ) → StandsIn last open_batch o m → StandsIn last open_batch o n → m ≡ n
      same_number None m n is also = ap (λ l. unwrap_or l 0) (sym is ∙ also)
      same_number (Some round) m n is also = sym is.0 ∙ also.0

      after_entry : (lane : ℕ) (command : Command) (reply : Reply) (now : BookView) → IsApplied b lane command reply now →
          one_more at ≡ next_position now.first now.entries
      after_entry lane command reply now applied =
          sym ((λ i. next_position (applied.first i) (applied.entries i))
          ∙ next-append b.first b.entries (record { lane = lane; command = command; reply = reply } ∷ []))

      -- a row comes next
      record RowLeft (more : List ℕ) : Type 0 where
        number : ℕ
        e : Entry
        stands : StandsIn last open_batch found number
        next : IsNextRow b open_batch line e
        left : Left (Some number) (stepped e.command) (one_more at) (after ++ more)

      row_turn : (lane ≡ 0 → open_batch ≡ None) → (more : List ℕ) → Turn more → RowLeft more
      row_turn free_lane more (Turns.row number e stands may within free is replies behind line_is own) = record {
        number = number;
        e = e;
        stands = subst (λ o. StandsIn last o found number) told.sealed stands;
        next = record {
          told = is;
          stands = may;
          within = within;
          free = λ zero. sym told.sealed ∙ free zero;
          reply = replies ∙ ap (λ r. r.1) (sym (same_step e.command));
          line_is = line_is;
        };
        left = subst (λ s. Left (Some number) s (one_more at) (after ++ more)) (same_state e.command) behind;
      }
      row_turn free_lane more (Turns.close batch outcome rest sealed fits good behind line_is tail_is zero start) =
          absurd (let no : None ≡ Some batch = sym (free_lane (sym zero)) ∙ sym told.sealed ∙ sealed in cc)

      -- the close of the batch that is open comes next
      record CloseLeft (batch : Batch) (more : List ℕ) : Type 0 where
        outcome : Outcome
        rest : List ℕ
        line_is : line ≡ entry_line at (close_of batch outcome)
        fits : FitsTypes batch.number outcome
        good : IsGoodOutcome settings roads batch outcome
        left : Left last (stepped (Close batch.number outcome)) (one_more at) rest
        tail_is : after ++ more ≡ lines_text (block_lines true batch.number outcome) ++ rest
        start : found ≡ None

      close_turn : (batch : Batch) → open_batch ≡ Some batch → lane ≡ 0 → (more : List ℕ) → Turn more → CloseLeft batch more
      close_turn batch is zero_lane more (Turns.row number e stands may within free told_entry replies behind line_is own) =
          absurd (let no : None ≡ Some batch = sym (free (own ∙ zero_lane)) ∙ told.sealed ∙ is in cc)
      close_turn batch is zero_lane more (Turns.close other outcome rest sealed fits good behind line_is tail_is zero start) =
          let same : other ≡ batch = ap (λ o. unwrap_or o batch) (sym sealed ∙ told.sealed ∙ is) in
          subst (λ c. CloseLeft c more) same (record {
            outcome = outcome;
            rest = rest;
            line_is = line_is;
            fits = fits;
            good = good;
            left = subst (λ s. Left last s (one_more at) rest) (same_state (Close other.number outcome)) behind;
            tail_is = tail_is;
            start = start;
          })

      module _ (item : IsItem found lane line) where
        turn : (more : List ℕ) → IsLeftAt settings roads (stand last b open_batch notices) (text ++ more) → Turn more
        turn more left = turns found lane line item settings roads last b.state at after more left

        no_place : ((n : ℕ) → StandsIn last open_batch found n → ⊥) → IsNotLeft settings roads (stand last b open_batch notices) text
        no_place none more ends left = by (turn more left)
          where
            by : Turn more → ⊥
            by (Turns.row number e stands may within free is replies behind line_is own) =
                none number (subst (λ o. StandsIn last o found number) told.sealed stands)
            by (Turns.close batch outcome rest sealed fits good behind line_is tail_is zero start) =
                let known = last_known reached.read (stand last b open_batch notices) batch reached.reading (sym told.sealed ∙ sealed) in
                none known.0 (subst (λ f. StandsIn last open_batch f known.0) (sym start) known.1)

        no_row : (lane ≡ 0 → open_batch ≡ None) → ((e : Entry) → IsNextRow b open_batch line e → ⊥) →
            IsNotLeft settings roads (stand last b open_batch notices) text
        no_row free none more ends left = let r = row_turn free more (turn more left) in none r.e r.next

        row_stays : (lane ≡ 0 → open_batch ≡ None) → (number : ℕ) (now : BookView) (next : Option Batch) (rest : List ℕ) (last_now : Option ℕ)
            → StandsIn last open_batch found number → rest ≡ after → last_now ≡ Some number → TakesRow b now open_batch next line
            → StaysLeft settings roads (stand last b open_batch notices) text (stand last_now now next notices) rest
        row_stays free number now next rest last_now stands rest_is last_is takes more ends left =
            let r = row_turn free more (turn more left) in
            let only = takes.only at r.e r.next.told (no_close r.e.lane r.e.command r.next.stands) r.next.line_is in
            let state : stepped r.e.command ≡ now.state = ap stepped only.1 ∙ sym (ap (λ p. p.0) takes.applied.stepped) in
            let same : Some r.number ≡ last_now = ap (λ n. Some n) (same_number found r.number number r.stands stands) ∙ sym last_is in (
              moved (Some r.number) last_now (stepped r.e.command) now.state (one_more at) (next_position now.first now.entries) (after ++ more) (rest ++ more)
                  same state (after_entry takes.lane takes.command takes.reply now takes.applied) (ap (λ t. t ++ more) (sym rest_is)) r.left,
              subst EndsWhole (sym rest_is) (ends_item found lane line item after ends),
            )

        -- the block behind the close stands whole
        close_block : (batch : Batch) (more : List ℕ) → EndsWhole text → (c : CloseLeft batch more) →
            Stands after more c.rest (block_lines true batch.number c.outcome)
        close_block batch more ends c =
            let first : Ends ends.inside (line ++ 10 ∷ after) = subst (Ends ends.inside) (ap (λ f. start_text f ++ (line ++ 10 ∷ after)) c.start)
            (ends_of text ends) in
            let behind = ends_first ends.inside line after (one found lane line item) first in
            let inside : after_line ends.inside line ≡ true = ap (after_line ends.inside) c.line_is ∙ open_after ends.inside at batch c.outcome in
            let whole_lines : Ends true after = subst (λ i. Ends i after) inside behind in
            block_stands (block_lines true batch.number c.outcome) whole_lines.lines after more c.rest
            (block_of ends_one ends_once batch.number c.outcome c.fits) whole_lines.ones whole_lines.printed whole_lines.closed c.tail_is

        begins : (batch : Batch) (more : List ℕ) (c : CloseLeft batch more) (stands : Stands after more c.rest (block_lines true batch.number c.outcome)) →
            BeginsWithGood settings roads batch after c.outcome stands.after
        begins batch more c stands = record { whole = stands.block; fits = c.fits; good = c.good }

        no_close_left : (batch : Batch) → open_batch ≡ Some batch → lane ≡ 0 → IsNoClosing b batch line ⊎ HasNoBlock settings roads batch after →
            IsNotLeft settings roads (stand last b open_batch notices) text
        no_close_left batch is zero none more ends left =
            let c = close_turn batch is zero more (turn more left) in
            let stands = close_block batch more ends c in
            elim none [
              | inl other ↦ other c.outcome c.line_is
              | inr no_block ↦ no_block c.outcome stands.after (begins batch more c stands)
            ]

        close_stays : (batch : Batch) → open_batch ≡ Some batch → lane ≡ 0 → (now : BookView) (next : Option Batch) (rest : List ℕ) (heard : List Notice)
            → TakesClose settings roads judged b now batch line after rest heard
            → StaysLeft settings roads (stand last b open_batch notices) text (stand last now next heard) rest
        close_stays batch is zero now next rest heard takes more ends left =
            let c = close_turn batch is zero more (turn more left) in
            let stands = close_block batch more ends c in
            let only = takes.tells.only c.outcome stands.after (begins batch more c stands) in
            let enters = takes.enters in
            let book = enters.closed in
            let state : stepped (Close batch.number c.outcome) ≡ now.state =
            ap (λ o. stepped (Close batch.number o)) only.0 ∙ sym (ap (λ p. p.0) enters.applied.stepped)
            ∙ sym (ap (λ (k : BookView). k.state) enters.fresh_is) in
            let renewed : next_position book.first book.entries ≡ next_position (next_position book.first book.entries) [] =
            omega (arith, next-low book.first book.entries) in
            let position : one_more at ≡ next_position now.first now.entries =
            after_entry 0 (Close batch.number takes.outcome) enters.reply book enters.applied ∙ renewed
            ∙ sym (ap (λ (k : BookView). next_position k.first k.entries) enters.fresh_is) in (
              moved last last (stepped (Close batch.number c.outcome)) now.state (one_more at) (next_position now.first now.entries) c.rest (rest ++ more)
                  refl state position (stands.rest ∙ ap (λ t. t ++ more) only.1) c.left,
              subst EndsWhole only.1 (ends_any false stands.after stands.ends),
            )

      -- of what the step functions answer
      pub refused_place : (fault : AuditFault) → ((n : ℕ) → StandsIn last open_batch found n → ⊥)
          → fault ≢ OutOfMemory → IsItem found lane line → IsNotLeft settings roads (stand last b open_batch notices) text
      refused_place fault none fails item = no_place item none

      pub refused_row : (lane ≡ 0 → open_batch ≡ None) → (got : Result (Bor (List ℕ)) AuditFault)
          → IfErr got (λ fault. fault ≢ OutOfMemory → (e : Entry) → IsNextRow b open_batch line e → ⊥)
          → IfErr got (λ fault. fault ≢ OutOfMemory → IsItem found lane line → IsNotLeft settings roads (stand last b open_batch notices) text)
      refused_row free (Ok rest) none = tt
      refused_row free (Err fault) none = λ fails item. no_row item free (none fails)

      pub left_row : (lane ≡ 0 → open_batch ≡ None) → (number : ℕ) (now : BookView) (next : Option Batch) (last_now : Option ℕ)
          → StandsIn last open_batch found number → (got : Result (Bor (List ℕ)) AuditFault)
          → IfOk got (λ rest. (rest.now ≡ after) × (last_now ≡ Some number) × TakesRow b now open_batch next line)
          → IfOk got (λ rest. IsItem found lane line
          → StaysLeft settings roads (stand last b open_batch notices) text (stand last_now now next notices) rest.now)
      left_row free number now next last_now stands (Err fault) takes = tt
      left_row free number now next last_now stands (Ok rest) takes =
          λ item. row_stays item free number now next rest.now last_now stands takes.0 takes.1 takes.2

      pub refused_close : is_some open_batch ≡ true → lane ≡ 0 → (got : Result (Bor (List ℕ)) AuditFault)
          → IfErr got (λ fault. fault ≢ OutOfMemory → (c : Batch) → open_batch ≡ Some c → IsNoClosing b c line ⊎ HasNoBlock settings roads c after)
          → IfErr got (λ fault. fault ≢ OutOfMemory → IsItem found lane line → IsNotLeft settings roads (stand last b open_batch notices) text)
      refused_close is_open zero (Ok rest) none = tt
      refused_close is_open zero (Err fault) none =
          let known = some_of open_batch is_open in
          λ fails item. no_close_left item known.0 known.1 zero (none fails known.0 known.1)

      pub left_close : lane ≡ 0 → (now : BookView) (next : Option Batch) (heard : List Notice) (got : Result (Bor (List ℕ)) AuditFault)
          → IfOk got (λ rest. (next ≡ None) × ((batch : Batch) × (open_batch ≡ Some batch) × TakesClose settings roads judged b now batch line after rest.now
          heard))
          → IfOk got (λ rest. IsItem found lane line
          → StaysLeft settings roads (stand last b open_batch notices) text (stand last now next heard) rest.now)
      left_close zero now next heard (Err fault) takes = tt
      left_close zero now next heard (Ok rest) takes = λ item. close_stays item takes.1.0 takes.1.1 zero now next rest.now heard takes.1.2
