-- What stands after a row, and after an open batch.
use Rattle.std.proofs.Common.{
  rules,
  ◌≡◌,
  ◌≢◌,
  ℕ,
  ◌<◌,
  ◌≤◌,
  Bool,
  true,
  false,
  cond,
  eqb,
  List,
  [],
  ◌∷◌,
  ◌++◌,
  length,
  map,
  take,
  Option,
  None,
  Some,
  refl,
  sym,
  ap,
  subst,
  ◌∙◌,
  append_assoc,
  append-nil,
  arith,
  option_map,
}
use Rattle.live_dispatch.proofs.Common.{
  Appends,
  Appends-trans,
  Batch,
  of_lane,
  IsLaneRunFrom,
  IsLaneRun,
  IsLaneBeginning,
  ClosesAreGood,
  IsReady,
  ends-closed,
  stands-plain,
  lines_text,
  entries_lines,
  entry_text,
  ReportFault,
  BeginWithRows,
  ClosesBatch,
  TakesRun,
  commands_of_pass,
  desk_after,
  runs-begin,
  runs-more,
  takes-start,
  Halt,
  IsPassedOn,
  OutputsView,
  desk_of,
  desk_root,
  entries_text,
  notices_in,
  text_of,
  LaneCommand,
  TakesRows,
  BookView,
  next_position,
  state_after,
  RepliesAreSteps,
  step,
  Command,
  Close,
  Entry,
  Reply,
  State,
  Settings,
  notices_from,
  HaveHeard,
  Notice,
  all-heard-nothing,
  Roads,
  IsBehind,
  ScriptRow,
  sealed_by,
  step-seals,
  BeginsRows,
  in_lane,
  last_of,
  start_text,
  AppendsSome,
  HasRunOn,
  HasTaken,
  HaveCome,
  Moment,
  Stands,
  entry_for,
  outputs_of,
  row_text,
  entries-append,
  next-append,
  next-low,
  one-text,
}
use Rattle.live_dispatch.specs.declared.desk.DeskRoot.{DeskRoot}
use Rattle.live_dispatch.proofs.BatchLemmas.{
  batch-begun,
  batch-closes,
  batch-ended,
  batch-lanes,
  batch-others,
  batch-unclosed,
  close-run,
  none-left,
  row-lanes,
  rows-of,
  some_close,
  stands-good,
  stands-silent,
  told,
  zero-commands,
}
use Rattle.live_dispatch.proofs.StandLemmas.{Gives, begins-broken, begins-one, begins-whole, stands-after}
use Rattle.live_dispatch.proofs.WriteLemmas.{some-part, some-whole}

-- a row's entry begins its lane's run, or is one with a close
row-begun : (row : ScriptRow) (reply : Reply) (lane : ℕ) → IsLaneBeginning (in_lane (row ∷ []) lane)
    (of_lane lane ((record { lane = row.lane; command = row.command; reply = reply }) ∷ []))
row-begun row reply lane = by (eqb row.lane lane) (sealed_by reply) refl
  where
    by : (b : Bool) (o : Option ℕ) → sealed_by reply ≡ o → IsLaneBeginning (map (λ (l : ScriptRow). l.command) (cond b (row ∷ []) []))
        (cond b ((record { lane = row.lane; command = row.command; reply = reply }) ∷ []) [])
    by true None is = ([], (refl, subst (λ (p : Option ℕ). IsLaneRunFrom p [] []) (sym is) tt))
    by true (Some batch) is = (some_close batch ∷ [], (refl, subst (λ (p : Option ℕ). IsLaneRunFrom p [] (some_close batch ∷ [])) (sym is) (refl, tt)))
    by false o is = ([], tt)

module _ (settings : Settings) (roads : Roads) where
  -- the step of a book that is over these roads
  step-is : (b : BookView) (command : Command) → IsReady settings roads b → step b.nodes b.wait b.state command ≡ step roads.nodes settings.wait b.state command
  step-is b command ready = (λ i. step (ready.nodes i) (ready.wait i) b.state command)

  module _ (before : BookView) (row : ScriptRow) (ready : IsReady settings roads before) (number last : ℕ) (is : row.round ≡ number)
      (behind : IsBehind last row) where
    abbrev own : Entry
    own = entry_for before row.lane row.command

    own-replies : (more : List Entry) → RepliesAreSteps roads.nodes settings.wait (step roads.nodes settings.wait before.state row.command).0 more →
        RepliesAreSteps roads.nodes settings.wait before.state (own ∷ more)
    unfolding RepliesAreSteps
    own-replies more replies = (ap (λ p. p.1) (step-is before row.command ready), replies)

    own-closes : (more : List Entry) → ClosesAreGood settings roads (step roads.nodes settings.wait before.state row.command).0 more →
        ClosesAreGood settings roads before.state (own ∷ more)
    unfolding ClosesAreGood
    own-closes more closes = (stands-good settings roads row.lane before.state row.command own.reply behind.stands, closes)

    own-notices : (more : List Entry) → notices_from roads.nodes settings.wait before.state (own ∷ more) ≡ notices_from roads.nodes settings.wait
        (step roads.nodes settings.wait before.state row.command).0 more
    unfolding notices_from
    own-notices more = ap (λ ns. ns ++ notices_from roads.nodes settings.wait (step roads.nodes settings.wait before.state row.command).0 more)
        (stands-silent row.lane before.state row.command own.reply behind.stands)

    own-state : (more : List Entry) → state_after roads.nodes settings.wait before.state (own ∷ more) ≡ state_after roads.nodes settings.wait
        (step roads.nodes settings.wait before.state row.command).0 more
    unfolding state_after
    own-state more = refl

    own-gives : Gives settings roads before.state row.round (row ∷ []) (own ∷ [])
    unfolding RepliesAreSteps ClosesAreGood
    own-gives = record { are = (refl, behind.lane, tt); replies = own-replies [] tt; closes = own-closes [] tt }

    -- what is known once the command was taken
    taken-state : (new : BookView) (sealed : Option Batch) → HasTaken before row.lane row.command sealed new →
        new.state ≡ (step roads.nodes settings.wait before.state row.command).0
    taken-state new sealed taken = ap (λ p. p.0) (taken.applied.stepped ∙ step-is before row.command ready)

    taken-reply : (new : BookView) (sealed : Option Batch) → HasTaken before row.lane row.command sealed new →
        option_map (λ (b : Batch). b.number) sealed ≡ sealed_by own.reply
    taken-reply new sealed taken = taken.fits.sealed ∙ ap (λ p. sealed_by p.1) taken.applied.stepped

    taken-position : (new : BookView) (sealed : Option Batch) → HasTaken before row.lane row.command sealed new →
        next_position new.first new.entries ≡ next_position (next_position before.first before.entries) (own ∷ [])
    taken-position new sealed taken = search (rules, next-append)

    taken-ready : (new : BookView) → HasTaken before row.lane row.command None new → IsReady settings roads new
    unfolding state_after
    taken-ready new taken =
        let none : sealed_by own.reply ≡ None = sym (taken-reply new None taken) in
        record {
          nodes = taken.applied.nodes ∙ ready.nodes;
          wait = taken.applied.wait ∙ ready.wait;
          closed = ap (λ (s : State). s.sealed) (taken-state new None taken)
              ∙ ends-closed roads.nodes settings.wait before.state None (in_lane (row ∷ []) 0) (own ∷ [])
              (ap (option_map (λ (b : Batch). b.number)) ready.closed)
              own-gives.replies ((λ other. stands-plain row.lane row.command other behind.stands), tt) (row-lanes row own.reply none 0);
        }

  module _ (start before : Moment) (row : ScriptRow) (stands : Stands settings roads start before (HaveCome start before (Some row)))
      (behind : IsBehind (last_of before.round) row) where
    abbrev book : BookView
    book = before.book

    row-more : (written : List ℕ) → written ≡ row_text settings.proof before.round book row
        → written ≡ start_text before.round row.round ++ lines_text (entries_lines settings.proof (next_position book.first book.entries)
        (entry_for book row.lane row.command ∷ []))
    row-more written is = is ∙ ap (λ t. start_text before.round row.round ++ t)
        (sym (one-text settings.proof (next_position book.first book.entries) (entry_for book row.lane row.command)))

    pub row-stands : (now : Moment) → HasTaken book row.lane row.command None now.book → now.round ≡ Some row.round →
        Appends before.sink.written now.sink.written (row_text settings.proof before.round book row)
        → now.rows ≡ before.rows → now.notifiers ≡ before.notifiers → before.sink.faults ≤ now.sink.faults → now.reads ≡ before.reads →
        Stands settings roads start now (HaveCome start now None)
    unfolding state_after notices_from
    row-stands now taken round text rows notifiers writes reads =
        let e : Entry = entry_for book row.lane row.command in
        let ready = stands.ready in
        let none : sealed_by e.reply ≡ None = sym (taken-reply book row ready row.round (last_of before.round) refl behind now.book None taken) in
        stands-after settings roads start before (HaveCome start before (Some row)) stands row [] row.round (e ∷ []) behind.round
        (own-gives book row ready row.round (last_of before.round) refl behind)
        now (HaveCome start now None)
        (subst (λ r. TakesRows start.rows r (stands.lines ++ row ∷ [])) (sym rows) stands.are)
        (row-lanes row e.reply none)
        round
        (taken-state book row ready row.round (last_of before.round) refl behind now.book None taken)
        (taken-position book row ready row.round (last_of before.round) refl behind now.book None taken)
        (taken-ready book row ready row.round (last_of before.round) refl behind now.book taken)
        (subst (λ (t : List ℕ). Appends before.sink.written now.sink.written t) (row-more (row_text settings.proof before.round book row) refl) text)
        (subst (λ (ns : List Notice). HaveHeard ns before.notifiers now.notifiers)
        (sym (own-notices book row ready row.round (last_of before.round) refl behind []))
        (subst (λ ns. HaveHeard [] before.notifiers ns) (sym notifiers) (all-heard-nothing before.notifiers)))
        writes
        (omega (arith, reads))

    abbrev mine : Entry
    mine = entry_for book row.lane row.command

    abbrev mine_text : List ℕ
    mine_text = start_text before.round row.round ++ lines_text (entries_lines settings.proof (next_position book.first book.entries) (mine ∷ []))

    row-begins-by : (written : Option (List ℕ)) (faults : ℕ) (some : AppendsSome before.sink.written written mine_text) (unwritten : List ℕ) →
        some.unwritten ≡ unwritten
        → BeginsRows settings roads start.book start.rows (record { before = start.sink; after = record { written = written; faults = faults } })
        (record { before = start.notifiers; after = before.notifiers })
    unfolding notices_from
    row-begins-by written faults some [] is =
        begins-whole settings roads start before (HaveCome start before (Some row)) stands row [] row.round (mine ∷ []) behind.round
        (own-gives book row stands.ready row.round (last_of before.round) refl behind)
        written faults (takes-start start.rows before.rows (stands.lines ++ row ∷ []) stands.are) (row-begun row mine.reply) before.notifiers
        (some-whole before.sink.written written mine_text some is)
        (subst (λ (ns : List Notice). HaveHeard ns before.notifiers before.notifiers)
        (sym (own-notices book row stands.ready row.round (last_of before.round) refl behind [])) (all-heard-nothing before.notifiers))
    row-begins-by written faults some (x ∷ xs) is =
        begins-one settings roads start before (HaveCome start before (Some row)) stands row [] row.round (mine ∷ []) behind.round
        (own-gives book row stands.ready row.round (last_of before.round) refl behind)
        written faults (takes-start start.rows before.rows (stands.lines ++ row ∷ []) stands.are) (row-begun row mine.reply) mine refl
        (some-part before.sink.written written mine_text some x xs is)

    pub row-begins : (written : Option (List ℕ)) (faults : ℕ) → AppendsSome before.sink.written written (row_text settings.proof before.round book row)
        → BeginsRows settings roads start.book start.rows (record { before = start.sink; after = record { written = written; faults = faults } })
        (record { before = start.notifiers; after = before.notifiers })
    row-begins written faults text =
        let some : AppendsSome before.sink.written written mine_text = subst (λ (t : List ℕ). AppendsSome before.sink.written written t)
        (row-more (row_text settings.proof before.round book row) refl) text in
        row-begins-by written faults some some.unwritten refl

  -- a batch from its seal on
  module _ (start : Moment) (b : Batch) (round : ℕ) (book : BookView) (rows : Option (List ScriptRow)) (outputs : OutputsView) (closed : Bool) (end : Halt)
      (fault : Option ReportFault) (reads : ℕ)
      (on : HasRunOn settings roads start b round book rows outputs closed end fault reads) where
    abbrev before : Moment
    before = on.opens.before

    abbrev row : ScriptRow
    row = on.row

    abbrev last : ℕ
    last = last_of before.round

    abbrev first : Entry
    first = entry_for before.book row.lane row.command

    abbrev es : List Entry
    es = book.entries

    abbrev run : List ScriptRow
    run = on.ran.rows.run

    -- the state behind the seal
    abbrev opened : State
    opened = (step roads.nodes settings.wait before.book.state row.command).0

    ready : IsReady settings roads before.book
    ready = on.opens.stands.ready

    behind : IsBehind last row
    behind = on.opens.behind

    number : row.round ≡ round
    number = on.number

    sealed-state : on.sealed.book.state ≡ opened
    sealed-state = taken-state before.book row ready round last number behind on.sealed.book (Some b) on.opens.taken

    stands-sealed : opened.sealed ≡ Some b
    stands-sealed = search (rules, step-is, ready, step-seals)

    -- the book's root
    root : desk_root (desk_after on.fresh settings.proof (outputs_of on.sealed) book outputs fault) ≡ desk_root
        (desk_of on.fresh settings.proof (outputs_of on.sealed))
    root = on.ran.root

    base : book.base ≡ opened
    base = ap (λ (r : DeskRoot). r.base) root ∙ ap (λ (f : BookView). f.base) on.fresh_is ∙ sealed-state

    first-is : book.first ≡ next_position (next_position before.book.first before.book.entries) (first ∷ [])
    first-is = ap (λ (r : DeskRoot). r.first) root ∙ ap (λ (f : BookView). f.first) on.fresh_is ∙
        taken-position before.book row ready round last number behind on.sealed.book (Some b) on.opens.taken

    nodes-are : book.nodes ≡ roads.nodes
    nodes-are = ap (λ (r : DeskRoot). r.nodes) root ∙ ap (λ (f : BookView). f.nodes) on.fresh_is ∙ on.opens.taken.applied.nodes ∙ ready.nodes

    wait-is : book.wait ≡ settings.wait
    wait-is = ap (λ (r : DeskRoot). r.wait) root ∙ ap (λ (f : BookView). f.wait) on.fresh_is ∙ on.opens.taken.applied.wait ∙ ready.wait

    replies : RepliesAreSteps roads.nodes settings.wait opened es
    replies = search (rules, base, nodes-are, wait-is)

    state-is : book.state ≡ state_after roads.nodes settings.wait before.book.state (first ∷ es)
    state-is =
        on.ran.desk.book.state
        ∙ (λ i. state_after (nodes-are i) (wait-is i) (base i) es)
        ∙ sym (own-state before.book row ready round last number behind es)

    -- lane 0 of what was run
    zero-is : (commands : List LaneCommand) → commands_of_pass 0 es ≡ commands → map (λ e. e.command) (of_lane 0 es) ≡ map told commands
    zero-is commands is = zero-commands es ∙ ap (map told) is

    closes-by : (c : Bool) → ClosesBatch settings roads b c (commands_of_pass 0 es) → ClosesAreGood settings roads opened es
    closes-by true close = batch-closes settings roads b opened es round run stands-sealed replies on.ran.rows.going on.ran.rows.called close.0 close.1
        (zero-is _ close.2)
    closes-by false close = batch-unclosed settings roads b opened es round run stands-sealed replies on.ran.rows.going on.ran.rows.called (zero-is _ close)

    gives : Gives settings roads before.book.state round (row ∷ run) (first ∷ es)
    gives = search (rules, number, rows-of, replies, own-replies, ready, behind, own-closes, closes-by)

    seals : sealed_by first.reply ≡ Some b.number
    seals = sym (taken-reply before.book row ready round last number behind on.sealed.book (Some b) on.opens.taken)

    zero-lane : row.lane ≡ 0
    zero-lane = search rules

    others : (lane : ℕ) → lane ≢ 0 → IsLaneRun (in_lane run lane) (of_lane lane es)
    others = batch-others settings roads b opened es round run stands-sealed replies on.ran.rows.going on.ran.rows.called

    begun-by : (c : Bool) → ClosesBatch settings roads b c (commands_of_pass 0 es) → (lane : ℕ) →
        IsLaneBeginning (in_lane (row ∷ run) lane) (of_lane lane (first ∷ es))
    begun-by true close =
        batch-begun row first b.number round run es zero-lane zero-lane refl seals on.ran.rows.going others []
        (subst (IsLaneRunFrom (Some b.number) []) (sym (append-nil (of_lane 0 es))) (close-run b.number close.0 (of_lane 0 es) (zero-is _ close.2)))
    begun-by false close =
        batch-begun row first b.number round run es zero-lane zero-lane refl seals on.ran.rows.going others (some_close b.number ∷ [])
        (subst (λ (l : List Entry). IsLaneRunFrom (Some b.number) [] (l ++ some_close b.number ∷ [])) (sym (none-left (of_lane 0 es) (zero-is _ close)))
        (refl, tt))

    -- the texts
    abbrev at : ℕ
    at = next_position before.book.first before.book.entries

    abbrev front : List ℕ
    front = row_text settings.proof before.round before.book row

    text-is : (fs : List Entry) → front ++ text_of settings.proof book fs ≡ start_text before.round round ++ lines_text
        (entries_lines settings.proof at (first ∷ fs))
    text-is fs =
        append_assoc (start_text before.round row.round) (entry_text settings.proof at first) (text_of settings.proof book fs)
        ∙ (λ i. start_text before.round (number i) ++ (sym (one-text settings.proof at first) i ++ lines_text (entries_lines settings.proof (first-is i) fs)))
        ∙ ap (λ t. start_text before.round round ++ t) (sym (entries-append settings.proof at (first ∷ []) fs (next-low before.book.first before.book.entries)))

    notices-are : (fs : List Entry) → notices_from roads.nodes settings.wait before.book.state (first ∷ fs) ≡ notices_in book fs
    notices-are fs = own-notices before.book row ready round last number behind fs ∙ (λ i. notices_from (sym nodes-are i) (sym wait-is i) (sym base i) fs)

    -- what was told from the seal on was told from before it on
    heard-before : (fs : List Entry) → HaveHeard (notices_in book fs) on.sealed.notifiers outputs.notifiers →
        HaveHeard (notices_from roads.nodes settings.wait before.book.state (first ∷ fs)) before.notifiers outputs.notifiers
    heard-before fs heard = search (rules, notices-are)

    all-are : (on.opens.stands.lines ++ row ∷ []) ++ run ≡ on.opens.stands.lines ++ (row ∷ run)
    all-are = append_assoc on.opens.stands.lines (row ∷ []) run

    pub lines-behind : TakesRun end start.rows rows (on.opens.stands.lines ++ (row ∷ run))
    lines-behind = search (rules, all-are, runs-more)

    low : last ≤ round
    low = subst (λ n. last ≤ n) number behind.round

    pub batch-stands : (now : Moment) (Now : List ScriptRow → Type 0) → closed ≡ true → fault ≡ None →
        now.book ≡ record {
          nodes = book.nodes;
          wait = book.wait;
          first = next_position book.first book.entries;
          base = book.state;
          entries = [];
          state =
              book.state;
          spare = 0;
        }
        → outputs_of now ≡ outputs → now.round ≡ Some round → reads ≤ now.reads
        → Now (on.opens.stands.lines ++ (row ∷ run)) → Stands settings roads start now Now
    batch-stands now Now is_closed whole cut outputs_are round_is failed are =
        let close : ClosesBatch settings roads b true (commands_of_pass 0 es) = subst (λ c. ClosesBatch settings roads b c (commands_of_pass 0 es)) is_closed
        on.ran.close in
        let zero : map (λ (e : Entry). e.command) (of_lane 0 es) ≡ map told ((record { lane = 0; command = Close b.number close.0 }) ∷ []) =
        zero-is _ close.2 in
        let wrote : IsPassedOn None settings.proof book (outputs_of on.sealed) outputs = subst
        (λ f. IsPassedOn f settings.proof book (outputs_of on.sealed) outputs) whole on.ran.desk.told in
        let falls : on.sealed.sink.faults ≤ outputs.sink.faults = on.ran.desk.never_falls in
        let were : before.sink.faults ≤ on.sealed.sink.faults = on.opens.writes in
        stands-after settings roads start before (HaveCome start before (Some row)) on.opens.stands row run round (first ∷ es) low gives now Now are
        (batch-lanes row first b.number round run es zero-lane zero-lane refl seals on.ran.rows.going others (close-run b.number close.0 (of_lane 0 es) zero))
        round_is
        (ap (λ (k : BookView). k.state) cut ∙ state-is)
        (ap (λ (k : BookView). next_position k.first k.entries) cut ∙ sym (next-append book.first es []) ∙ ap (next_position book.first) (append-nil es) ∙
        ap (λ n. next_position n es) first-is
        ∙ sym (next-append at (first ∷ []) es))
        (record {
          nodes = ap (λ (k : BookView). k.nodes) cut ∙ nodes-are;
          wait = ap (λ (k : BookView). k.wait) cut ∙ wait-is;
          closed = ap (λ (k : BookView). k.state.sealed) cut ∙ ap (λ (s : State). s.sealed) (state-is ∙
              own-state before.book row ready round last number behind es)
              ∙ batch-ended settings roads b opened es round run stands-sealed replies on.ran.rows.going on.ran.rows.called close.0 zero;
        })
        (subst (λ (t : List ℕ). Appends before.sink.written now.sink.written t) (text-is es)
        (subst (λ (o : OutputsView). Appends before.sink.written o.sink.written (front ++ entries_text settings.proof book)) (sym outputs_are)
        (Appends-trans before.sink.written on.sealed.sink.written outputs.sink.written front (entries_text settings.proof book) on.opens.text wrote.0)))
        (subst (λ (o : OutputsView). HaveHeard (notices_from roads.nodes settings.wait before.book.state (first ∷ es)) before.notifiers o.notifiers)
        (sym outputs_are) (heard-before es wrote.1))
        (subst (λ (o : OutputsView). before.sink.faults ≤ o.sink.faults) (sym outputs_are) (omega (arith, were, falls)))
        (omega (arith, failed, on.reads_were, on.opens.same.1))

    pub batch-begins : BeginsRows settings roads start.book start.rows (record { before = start.sink; after = outputs.sink })
        (record { before = start.notifiers; after = outputs.notifiers })
    batch-begins = by fault on.ran.desk.told
      where
        begin : BeginWithRows start.rows (on.opens.stands.lines ++ (row ∷ run))
        begin = runs-begin end start.rows rows (on.opens.stands.lines ++ (row ∷ run)) lines-behind

        by : (f : Option ReportFault) → IsPassedOn f settings.proof book (outputs_of on.sealed) outputs
            → BeginsRows settings roads start.book start.rows (record { before = start.sink; after = outputs.sink })
            (record { before = start.notifiers; after = outputs.notifiers })
        by None wrote =
            begins-whole settings roads start before (HaveCome start before (Some row)) on.opens.stands row run round (first ∷ es) low gives
            outputs.sink.written outputs.sink.faults begin (begun-by closed on.ran.close) outputs.notifiers
            (subst (λ (t : List ℕ). Appends before.sink.written outputs.sink.written t) (text-is es)
            (Appends-trans before.sink.written on.sealed.sink.written outputs.sink.written front (entries_text settings.proof book) on.opens.text wrote.0))
            (heard-before es wrote.1)
        by (Some why) broke =
            let fs : List Entry = broke.front in
            let here : next_position book.first fs ≡ next_position at (first ∷ fs) = ap (λ n. next_position n fs) first-is ∙
            sym (next-append at (first ∷ []) fs) in
            let part : List ℕ = take broke.part (entry_text settings.proof (next_position book.first fs) broke.last) in
            begins-broken settings roads start before (HaveCome start before (Some row)) on.opens.stands row run round (first ∷ es) low gives
            outputs.sink.written outputs.sink.faults begin (begun-by closed on.ran.close) outputs.notifiers (first ∷ fs) broke.last broke.part
            (ap (λ xs. first ∷ xs) broke.entries)
            (subst (λ n. broke.part < length (entry_text settings.proof n broke.last)) here broke.short)
            (subst (λ n. Appends before.sink.written outputs.sink.written
            ((start_text before.round round ++ lines_text (entries_lines settings.proof at (first ∷ fs))) ++ take broke.part
            (entry_text settings.proof n broke.last))) here
            (subst (λ (t : List ℕ). Appends before.sink.written outputs.sink.written t) (sym (append_assoc front (text_of settings.proof book fs) part) ∙
            ap (λ t. t ++ part) (text-is fs))
            (Appends-trans before.sink.written on.sealed.sink.written outputs.sink.written front (text_of settings.proof book fs ++ part) on.opens.text
            broke.text)))
            (heard-before fs broke.told)
