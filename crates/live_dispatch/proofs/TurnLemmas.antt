-- From one row to the next.
use Rattle.std.proofs.Common.{rules, ◌≡◌, ℕ, ◌<◌, ◌≤◌, ◌^◌, Bool, List, [], ◌∷◌, ◌++◌, Option, None, Some, Result, Ok, Err, refl, sym, ap, subst, ◌∙◌, arith}
use Rattle.live_dispatch.proofs.Common.{
  Appends-nil,
  Batch,
  IsReady,
  SinkView,
  OutputsView,
  ReportFault,
  AreRows,
  BeginWithRows,
  takes-all,
  takes-begin,
  takes-more,
  takes-none,
  takes-start,
  TakesRows,
  Rose,
  IsBook,
  next_position,
  state_after,
  Entry,
  Settings,
  all-heard-nothing,
  Roads,
  IsBehind,
  ScriptRow,
  LiveFault,
  EndsIn,
  last_of,
  AppendsSome,
  Awaits,
  GivesNext,
  HasEnded,
  HasTaken,
  HaveCome,
  Moment,
  Opens,
  Stands,
  WritesSome,
  of_line,
  of_report,
  outputs_of,
  row_text,
}
use Rattle.input_rows.specs.declared.live.lines.LineFault.{LineFault}
use Rattle.live_dispatch.proofs.EndLemmas.{begun-ended, no_read_of, stood-ended, write_of}
use Rattle.live_dispatch.proofs.StepLemmas.{row-begins}
use Rattle.input_rows.specs.declared.live.lines.LineFault.TheVariants as line
use Rattle.live_dispatch.specs.declared.fault.LiveFault.TheVariants as live

-- what holds between two rows
pub record IsBetween (settings : Settings) (roads : Roads) (start now : Moment) (came : ℕ) (held : Option ScriptRow) (proof : Bool) : Type 0 where
  pub stands : Stands settings roads start now (HaveCome start now held)
  pub awaits : Awaits (last_of now.round) came held
  pub proof_is : proof ≡ settings.proof

-- the row that is next is held or came
next-held : (start now : Moment) (held : Option ScriptRow) (rows : Option (List ScriptRow)) (row : ScriptRow) (lines : List ScriptRow) →
    HaveCome start now held lines → GivesNext held now.rows rows (Some row) → TakesRows start.rows rows (lines ++ row ∷ [])
next-held start now None rows row lines come gives = takes-more start.rows now.rows rows lines (row ∷ []) come gives
next-held start now (Some held) rows row lines come gives = search rules

next-none : (start now : Moment) (held : Option ScriptRow) (rows : Option (List ScriptRow)) (lines : List ScriptRow) → HaveCome start now held lines →
    GivesNext held now.rows rows None → AreRows start.rows lines
next-none start now None rows lines come gives = takes-all start.rows now.rows lines come gives
next-none start now (Some held) rows lines come gives = (let both : None ≡ Some held = gives.0 in absurd cc)

come-begin : (start now : Moment) (held : Option ScriptRow) (lines : List ScriptRow) → HaveCome start now held lines → BeginWithRows start.rows lines
come-begin start now None lines come = takes-start start.rows now.rows lines come
come-begin start now (Some row) lines come = takes-begin start.rows now.rows lines (row ∷ []) come

line-write : (fault : LineFault) → of_line fault ≡ live.WriteFault → ⊥
line-write line.ReadFault e = absurd cc
line-write line.OutOfMemory e = absurd cc

line-read : (fault : LineFault) → of_line fault ≡ live.ReadFault → fault ≡ line.ReadFault
line-read line.ReadFault e = refl
line-read line.OutOfMemory e = absurd cc

module _ (settings : Settings) (roads : Roads) (start : Moment) where
  -- what stands says nothing of how far reading is, but for the rows and the count of its faults
  pub restand : (now later : Moment) (Now Later : List ScriptRow → Type 0) → (stands : Stands settings roads start now Now) → Later stands.lines →
      later.book ≡ now.book → later.round ≡ now.round → later.sink ≡ now.sink → later.notifiers ≡ now.notifiers → now.reads ≤ later.reads
      → Stands settings roads start later Later
  restand now later Now Later stands are book round sink notifiers reads = search rules

  pub next-stands : (now later : Moment) (held : Option ScriptRow) (row : ScriptRow) → Stands settings roads start now (HaveCome start now held) →
      GivesNext held now.rows later.rows (Some row)
      → later.book ≡ now.book → later.round ≡ now.round → later.sink ≡ now.sink → later.notifiers ≡ now.notifiers → now.reads ≤ later.reads →
      Stands settings roads start later (HaveCome start later (Some row))
  next-stands now later held row stands gives = restand now later (HaveCome start now held) (HaveCome start later (Some row)) stands
      (next-held start now held later.rows row stands.lines stands.are gives)

  pub none-stands : (now later : Moment) (held : Option ScriptRow) → Stands settings roads start now (HaveCome start now held) →
      GivesNext held now.rows later.rows None
      → later.book ≡ now.book → later.round ≡ now.round → later.sink ≡ now.sink → later.notifiers ≡ now.notifiers → now.reads ≤ later.reads →
      Stands settings roads start later (AreRows start.rows)
  none-stands now later held stands gives = restand now later (HaveCome start now held) (AreRows start.rows) stands
      (next-none start now held later.rows stands.lines stands.are gives)

  -- a read failed, or there was no memory for a row
  pub unread-ended : (now : Moment) (held : Option ScriptRow) → Stands settings roads start now (HaveCome start now held) →
      (fault : LineFault) (failed : ℕ) (outputs : OutputsView) (why : LiveFault) (ended : Result (Unit {0}) LiveFault)
      → ended ≡ Err why → why ≡ of_line fault → outputs ≡ outputs_of now → (fault ≡ line.ReadFault → Rose now.reads failed) →
      HasEnded settings roads start failed outputs ended
  unread-ended now held stands fault failed outputs why ended is why_is outputs_are rose =
      stood-ended settings roads start now (HaveCome start now held) stands (come-begin start now held stands.lines stands.are) failed outputs (of_line fault)
      ended (is ∙ ap Err why_is) outputs_are
      (line-write fault) (λ e. (let risen : Rose now.reads failed = rose (line-read fault e) in let were = stands.reads in omega (arith, risen, were)))

  -- no more rows can be counted
  pub counted-ended : (now : Moment) (held : Option ScriptRow) → Stands settings roads start now (HaveCome start now held) →
      (failed : ℕ) (outputs : OutputsView) (ended : Result (Unit {0}) LiveFault) → ended ≡ Err live.OutOfMemory → outputs ≡ outputs_of now
      → HasEnded settings roads start failed outputs ended
  counted-ended now held stands failed outputs ended is outputs_are =
      stood-ended settings roads start now (HaveCome start now held) stands (come-begin start now held stands.lines stands.are) failed outputs live.OutOfMemory
      ended is outputs_are (λ e. absurd cc) (λ e. absurd cc)

  -- a row's text wasn't written whole, or there was no memory for it
  pub row-ended : (now : Moment) (row : ScriptRow) → Stands settings roads start now (HaveCome start now (Some row)) → IsBehind (last_of now.round) row →
      (proof : Bool) → proof ≡ settings.proof → (A : Type 0) (fault : ReportFault) (later : SinkView)
      → WritesSome {A = A} (record { before = now.sink; after = later }) (row_text proof now.round now.book row) (Err fault)
      → (failed : ℕ) (outputs : OutputsView) (why : LiveFault) (ended : Result (Unit {0}) LiveFault) → ended ≡ Err why → why ≡ of_report fault →
      outputs ≡ record { sink = later; notifiers = now.notifiers } → HasEnded settings roads start failed outputs ended
  row-ended now row stands behind proof proof_is A fault later wrote failed outputs why ended is why_is outputs_are =
      let falls : now.sink.faults ≤ later.faults = wrote.never_falls in
      let were : start.sink.faults ≤ now.sink.faults = stands.writes in
      subst (λ (o : OutputsView). HasEnded settings roads start failed o ended) (sym outputs_are)
      (begun-ended settings roads start failed (record { sink = later; notifiers = now.notifiers }) (of_report fault) ended (is ∙ ap Err why_is)
      (row-begins settings roads start now row stands behind later.written later.faults
      (subst (λ p. AppendsSome now.sink.written later.written (row_text p now.round now.book row)) proof_is wrote.bytes))
      (λ e. (let risen : Rose now.sink.faults later.faults = wrote.fault (ap Err (write_of fault e)) in omega (arith, risen, were)))
      (λ e. absurd (no_read_of fault e)) (omega (arith, falls, were)))

  -- a row sealed a batch
  pub row-opens : (now : Moment) (row : ScriptRow) → Stands settings roads start now (HaveCome start now (Some row)) → IsBehind (last_of now.round) row →
      (proof : Bool) → proof ≡ settings.proof → (b : Batch) (later : Moment) (A : Type 0) (x : A)
      → HasTaken now.book row.lane row.command (Some b) later.book → WritesSome {A = A} (record { before = now.sink; after = later.sink })
      (row_text proof now.round now.book row) (Ok x)
      → later.rows ≡ now.rows → later.reads ≡ now.reads → later.notifiers ≡ now.notifiers → Opens settings roads start row b later
  row-opens now row stands behind proof proof_is b later A x taken wrote rows reads notifiers = search rules

  -- at the start
  pub start-stands : start.round ≡ None → IsBook start.book → start.book.entries ≡ [] → start.book.first < 2 ^ 64 → IsReady settings roads start.book →
      Stands settings roads start start (HaveCome start start None)
  unfolding state_after
  start-stands round kept empty low ready = record {
    lines = [];
    are = takes-none start.rows;
    ends = subst (EndsIn []) (sym round) (EndsIn.in_none refl);
    journals = [];
    run = tt;
    text = Appends-nil start.sink.written;
    told = all-heard-nothing start.notifiers;
    state = kept.state ∙ ap (λ (es : List Entry). state_after start.book.nodes start.book.wait start.book.base es) empty;
    position = ap (next_position start.book.first) empty ∙ at start.book.first low;
    ready = ready;
    small = low;
    writes = omega arith;
    reads = omega arith;
  }
    where
      at : (p : ℕ) → p < 2 ^ 64 → next_position p [] ≡ p
      at p low = omega arith
