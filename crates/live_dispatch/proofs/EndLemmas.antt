-- How a run ends.
use Rattle.std.proofs.Common.{rules, ◌≡◌, ℕ, ◌≤◌, Bool, List, ◌∷◌, ◌++◌, Option, Some, Result, Ok, Err, refl, sym, ap, subst, arith}
use Rattle.live_dispatch.proofs.Common.{
  Appends-trans,
  Batch,
  position_after_run,
  end_text,
  SinkView,
  WritesText,
  ReportFault,
  AreRows,
  BeginWithRows,
  FaultsFrom,
  TakesRun,
  all-begin,
  runs-begin,
  Halt,
  IsPassedOn,
  OutputsView,
  Rose,
  BookView,
  next_position,
  Settings,
  Roads,
  ScriptRow,
  BeginsRows,
  LiveFault,
  HasCut,
  HasEnded,
  HasRunOn,
  HaveCome,
  Moment,
  Opens,
  Stands,
  ended_by,
  of_report,
  outputs_of,
  row_text,
}
use Rattle.live_dispatch.proofs.StandLemmas.{begins-here, begins-last}
use Rattle.live_dispatch.proofs.StepLemmas.{batch-begins, batch-stands, lines-behind, row-begins}
use Rattle.live_dispatch.proofs.WriteLemmas.{whole-some}
use Rattle.dispatch_report.specs.declared.fault.ReportFault.TheVariants as report
use Rattle.live_dispatch.specs.declared.read_on.Halt.TheVariants as stop
use Rattle.live_dispatch.specs.declared.fault.LiveFault.TheVariants as live

faults-kept : (end : Halt) (row : ScriptRow) (before now : ℕ) → end ≡ stop.Held row → FaultsFrom end before now → before ≤ now
faults-kept end row before now is from = subst (λ e. FaultsFrom e before now) is from

-- the fault of a report, by that of the run
pub write_of : (fault : ReportFault) → of_report fault ≡ live.WriteFault → fault ≡ report.WriteFault
write_of report.WriteFault e = refl
write_of report.OutOfMemory e = absurd cc

pub no_read_of : (fault : ReportFault) → of_report fault ≡ live.ReadFault → ⊥
no_read_of report.WriteFault e = absurd cc
no_read_of report.OutOfMemory e = absurd cc

module _ (settings : Settings) (roads : Roads) (start : Moment) where
  -- with a fault
  pub begun-ended : (failed : ℕ) (outputs : OutputsView) (fault : LiveFault) (ended : Result (Unit {0}) LiveFault) → ended ≡ Err fault
      → BeginsRows settings roads start.book start.rows (record { before = start.sink; after = outputs.sink })
      (record { before = start.notifiers; after = outputs.notifiers })
      → (fault ≡ live.WriteFault → Rose start.sink.faults outputs.sink.faults) → (fault ≡ live.ReadFault → Rose start.reads failed) →
      start.sink.faults ≤ outputs.sink.faults
      → HasEnded settings roads start failed outputs ended
  begun-ended failed outputs fault ended is begins write read falls = search rules

  -- between two rows
  pub stood-ended : (now : Moment) (Now : List ScriptRow → Type 0) (stands : Stands settings roads start now Now) → BeginWithRows start.rows stands.lines
      → (failed : ℕ) (outputs : OutputsView) (fault : LiveFault) (ended : Result (Unit {0}) LiveFault) → ended ≡ Err fault → outputs ≡ outputs_of now
      → (fault ≡ live.WriteFault → ⊥) → (fault ≡ live.ReadFault → Rose start.reads failed) → HasEnded settings roads start failed outputs ended
  stood-ended now Now stands begin failed outputs fault ended is outputs_are no_write read =
      subst (λ (o : OutputsView). HasEnded settings roads start failed o ended) (sym outputs_are)
      (begun-ended failed (outputs_of now) fault ended is (begins-here settings roads start now Now stands now.sink.faults begin) (λ e. absurd (no_write e))
      read stands.writes)

  -- behind the last row
  module _ (now : Moment) (Now : List ScriptRow → Type 0) (stands : Stands settings roads start now Now) (all : AreRows start.rows stands.lines) (failed : ℕ)
      (sink : SinkView) where
    abbrev last_line : List ℕ
    last_line = end_text (position_after_run start.book.first stands.journals)

    abbrev last : OutputsView
    last = record { sink = sink; notifiers = now.notifiers }

    whole-end : (done : Unit {0}) → WritesText (record { before = now.sink; after = sink }) last_line (Ok done) →
        HasEnded settings roads start failed last (Ok done)
    whole-end done w = search (rules, Appends-trans)

    part-end : (fault : ReportFault) → WritesText (record { before = now.sink; after = sink }) last_line (Err fault) →
        HasEnded settings roads start failed last (Err (of_report fault))
    part-end fault w =
        let falls : now.sink.faults ≤ sink.faults = w.never_falls in
        begun-ended failed last (of_report fault) (Err (of_report fault)) refl
        (begins-last settings roads start now Now stands sink.written sink.faults (all-begin start.rows stands.lines all) w.bytes (λ some. all))
        (λ e. (let rose : Rose now.sink.faults sink.faults = w.fault (ap Err (write_of fault e)) in omega (arith, rose, stands.writes)))
        (λ e. absurd (no_read_of fault e))
        (omega (arith, falls, stands.writes))

    by-answer : (answer : Result (Unit {0}) ReportFault) → WritesText (record { before = now.sink; after = sink }) last_line answer →
        HasEnded settings roads start failed last (ended_by answer)
    by-answer (Ok done) w = whole-end done w
    by-answer (Err fault) w = part-end fault w

    pub all-ended : (outputs : OutputsView) (ended : Result (Unit {0}) LiveFault) → outputs ≡ last
        → (answer : Result (Unit {0}) ReportFault) × (ended ≡ ended_by answer) × WritesText (record { before = now.sink; after = sink })
        (end_text (next_position now.book.first now.book.entries)) answer
        → HasEnded settings roads start failed outputs ended
    all-ended outputs ended are wrote = search (rules, by-answer)

  -- behind a seal, before its batch is solved
  pub opened-ended : (row : ScriptRow) (b : Batch) (now : Moment) → Opens settings roads start row b now →
      (failed : ℕ) (outputs : OutputsView) (ended : Result (Unit {0}) LiveFault)
      → ended ≡ Err live.OutOfMemory → outputs ≡ outputs_of now → HasEnded settings roads start failed outputs ended
  opened-ended row b now opens failed outputs ended is outputs_are =
      let before = opens.before in
      let falls : start.sink.faults ≤ before.sink.faults = opens.stands.writes in
      subst (λ (o : OutputsView). HasEnded settings roads start failed o ended) (sym outputs_are)
      (subst (λ ns. HasEnded settings roads start failed (record { sink = now.sink; notifiers = ns }) ended) (sym opens.same.2)
      (begun-ended failed (record { sink = now.sink; notifiers = before.notifiers }) live.OutOfMemory ended is
      (row-begins settings roads start before row opens.stands opens.behind now.sink.written now.sink.faults
      (whole-some before.sink.written now.sink.written (row_text settings.proof before.round before.book row) opens.text))
      (λ e. absurd cc) (λ e. absurd cc) (omega (arith, opens.writes, falls))))

  -- behind an open batch
  module _ (b : Batch) (round : ℕ) (book : BookView) (rows : Option (List ScriptRow)) (outputs : OutputsView) (closed : Bool) (end : Halt)
      (fault : Option ReportFault) (reads : ℕ)
      (on : HasRunOn settings roads start b round book rows outputs closed end fault reads) (cut : BookView) where
    start-reads : start.reads ≤ reads
    start-reads = (let were : start.reads ≤ on.opens.before.reads = on.opens.stands.reads in let a = on.opens.same.1 in let c =
        on.reads_were in omega (arith, were, a, c))

    start-writes : start.sink.faults ≤ outputs.sink.faults
    start-writes = search rules

    pub batch-failed : (why : LiveFault) (failed : ℕ) (ended : Result (Unit {0}) LiveFault) → HasCut book cut closed fault (Err why) → ended ≡ Err why →
        HasEnded settings roads start failed outputs ended
    batch-failed why failed ended has_cut is =
        begun-ended failed outputs why ended is (batch-begins settings roads start b round book rows outputs closed end fault reads on)
        (λ e. rose (has_cut.write_fault (ap Err e))) (λ e. absurd (has_cut.no_read (ap Err e))) start-writes
      where
        rose : fault ≡ Some report.WriteFault → Rose start.sink.faults outputs.sink.faults
        rose e =
            let broke : IsPassedOn (Some report.WriteFault) settings.proof book (outputs_of on.sealed) outputs =
            subst (λ f. IsPassedOn f settings.proof book (outputs_of on.sealed) outputs) e on.ran.desk.told in
            let were : start.sink.faults ≤ on.opens.before.sink.faults = on.opens.stands.writes in
            let here : on.opens.before.sink.faults ≤ on.sealed.sink.faults = on.opens.writes in
            let risen : Rose on.sealed.sink.faults outputs.sink.faults = broke.fault refl in
            omega (arith, were, here, risen)

    -- the moment behind it
    abbrev pub behind_it : ℕ → Moment
    behind_it count = record { book = cut; round = Some round; rows = rows; reads = count; sink = outputs.sink; notifiers = outputs.notifiers }

    abbrev lines : List ScriptRow
    lines = on.opens.stands.lines ++ (on.row ∷ on.ran.rows.run)

    pub batch-stood : (done : Unit {0}) (count : ℕ) (Now : List ScriptRow → Type 0) → HasCut book cut closed fault (Ok done) → reads ≤ count → Now lines
        → Stands settings roads start (behind_it count) Now
    batch-stood done count Now has_cut failed are =
        batch-stands settings roads start b round book rows outputs closed end fault reads on (behind_it count) Now has_cut.is_closed has_cut.whole has_cut.cut
        refl refl failed are

    pub batch-held : (done : Unit {0}) (row : ScriptRow) (count : ℕ) → HasCut book cut closed fault (Ok done) → end ≡ stop.Held row → FaultsFrom end reads count
        → Stands settings roads start (behind_it count) (HaveCome start (behind_it count) (Some row))
    batch-held done row count has_cut is failed =
        batch-stood done count (HaveCome start (behind_it count) (Some row)) has_cut (faults-kept end row reads count is failed)
        (subst (λ e. TakesRun e start.rows rows lines) is (lines-behind settings roads start b round book rows outputs closed end fault reads on))

    pub batch-last : (done : Unit {0}) (failed : ℕ) (last : OutputsView) (ended : Result (Unit {0}) LiveFault) → HasCut book cut closed fault (Ok done) →
        end ≡ stop.Ended
        → last.notifiers ≡ outputs.notifiers
        → (answer : Result (Unit {0}) ReportFault) × (ended ≡ ended_by answer) × WritesText (record { before = outputs.sink; after = last.sink })
        (end_text (next_position cut.first cut.entries)) answer
        → HasEnded settings roads start failed last ended
    batch-last done failed last ended has_cut is same wrote =
        let are : AreRows start.rows lines = subst (λ e. TakesRun e start.rows rows lines) is
        (lines-behind settings roads start b round book rows outputs closed end fault reads on) in
        let stands = batch-stood done reads (AreRows start.rows) has_cut (omega arith) are in
        all-ended (behind_it reads) (AreRows start.rows) stands stands.are failed last.sink last ended (λ i. record { sink = last.sink; notifiers = same i })
        wrote

    pub batch-stopped : (done : Unit {0}) (failed : ℕ) (last : OutputsView) (why : LiveFault) (ended : Result (Unit {0}) LiveFault) →
        HasCut book cut closed fault (Ok done)
        → ended ≡ Err why → last ≡ outputs → (why ≡ live.WriteFault → ⊥) → (why ≡ live.ReadFault → Rose reads failed) →
        HasEnded settings roads start failed last ended
    batch-stopped done failed last why ended has_cut ended_is last_is no_write rose =
        let are = runs-begin end start.rows rows lines (lines-behind settings roads start b round book rows outputs closed end fault reads on) in
        let stands = batch-stood done reads (BeginWithRows start.rows) has_cut (omega arith) are in
        stood-ended (behind_it reads) (BeginWithRows start.rows) stands stands.are failed last why ended ended_is last_is no_write
        (λ e. omega (arith, rose e, start-reads))
