-- How the parts of a call explain its end.
use Rattle.std.proofs.Common.{◌≡◌, ℕ, List, Option, Some, Ok, Err, length, refl, sym, ap, subst, inl, inr, ⊎_elim, arith, ◌⊎◌, MatchOption}
use Rattle.ridepool.proofs.Common.{
  texts_of,
  Which,
  AppendsPart,
  Audited,
  fault_of,
  LoadShape,
  Mode,
  Run,
  Load,
  Drive,
  Audit,
  Settings,
  DayFault,
  AnswersAudit,
  Confirms,
  EndsAudit,
  yes_text,
  AnswersDrive,
  EndsDrive,
  Inputs,
  AreGood,
  AreReadFrom,
  AreUntouched,
  CameTo,
  IsStop,
  IsWithin,
  Reads,
  StopsOrReads,
  AnswersLoad,
  AreTexts,
  EndsText,
  AnswersRun,
  RunsScript,
  RunsSome,
  Change,
  SinkView,
  IsUntouched,
  SourceView,
  Sources,
  CallView,
  IsSilent,
  source_at,
  ReadInputs,
  RunStatus,
  Done,
  Words,
  Network,
  Fleet,
  Script,
  TooLong,
  ReadFault,
  WriteFault,
  OutOfMemory,
  Day,
  TooLate,
  Report,
  IsSameSink,
  RefusesBytes,
  WritesYes,
  IsAuditFault,
  IsLimited,
  IsRunReport,
  HidesNoMemory,
  AreInputs,
  IsUnread,
  IsNoInput,
  IsReadAsNoDay,
  GotInputs,
  inputs_got,
  AreAllRoundsWith,
  AreFirstRounds,
  IsDayFor,
  IsReportFault,
  IsReportWhole,
  IsTextFault,
  IsWritingFault,
  added_by,
  added_text,
  first_text,
  head_of,
}
use Rattle.dispatch_report.specs.Head.{head_text}
use Rattle.dispatch_report.specs.Round.{round_text}
use Rattle.dispatch_report.specs.Summary.{load_text, summary_text}
use Rattle.rider_limits.specs.Settings.{AreGiven}
use Rattle.rider_limits.specs.declared.word_fault.WordFault.{WordFault}
use Rattle.ridepool.specs.Answers.{Answers, AnswersAs}
use Rattle.ridepool.proofs.CompleteLemmas.{audit_ends, day_ends, stops, text_ends}
use Rattle.ridepool.proofs.ReadingLemmas.{reads_as, reads_within}
use Rattle.pool_base.specs.declared.which.Which.TheVariants as file

-- a source that is untouched gave no more than may be
pub untouched_within : (w : Which) (s : Change SourceView) → IsUntouched s → IsWithin w s
untouched_within w s untouched = omega (arith, ap (λ v. v.taken) untouched)

all_within : (s : Sources) → AreUntouched s → (w : Which) → IsWithin w (source_at s w)
all_within s untouched file.Network = untouched_within file.Network s.network untouched.network
all_within s untouched file.Fleet = untouched_within file.Fleet s.fleet untouched.fleet
all_within s untouched file.Script = untouched_within file.Script s.script untouched.script
all_within s untouched file.Report = untouched_within file.Report s.report untouched.report

-- so did each of the first three sources that was read, and each of the inputs of a call
read_within : (s : Sources) (i : Inputs) → AreReadFrom s i → (w : Which) → IsWithin w (source_at s w) ⊎ (w ≡ file.Report)
read_within s i read file.Network = inl (reads_within s.network _ read.network)
read_within s i read file.Fleet = inl (reads_within s.fleet _ read.fleet)
read_within s i read file.Script = inl (reads_within s.script _ read.script)
read_within s i read file.Report = inr refl

inputs_within : (m : Mode) (s : Sources) (i : Inputs) → AreInputs m s i → (w : Which) → IsWithin w (source_at s w) ⊎ (w ≡ file.Report)
inputs_within (Load shape) s i made w = inl (all_within s made.1 w)
inputs_within _ s i read w = read_within s i read.0 w

-- and each source but the one that a run came to
others_within : (s : Sources) (w v : Which) → CameTo s w → IsWithin v (source_at s v) ⊎ (v ≡ w)
others_within s file.Network file.Network came = inr refl
others_within s file.Network file.Fleet came = inl (untouched_within file.Fleet s.fleet came.0)
others_within s file.Network file.Script came = inl (untouched_within file.Script s.script came.1)
others_within s file.Network file.Report came = inl (untouched_within file.Report s.report came.2)
others_within s file.Fleet file.Network came = inl (reads_within s.network _ came.1)
others_within s file.Fleet file.Fleet came = inr refl
others_within s file.Fleet file.Script came = inl (untouched_within file.Script s.script came.2)
others_within s file.Fleet file.Report came = inl (untouched_within file.Report s.report came.3)
others_within s file.Script file.Network came = inl (reads_within s.network _ came.2)
others_within s file.Script file.Fleet came = inl (reads_within s.fleet _ came.3)
others_within s file.Script file.Script came = inr refl
others_within s file.Script file.Report came = inl (untouched_within file.Report s.report came.4)
others_within s file.Report v came = absurd came

-- where the one it came to is within its limit, or its excess is the answer, all are
limited_but : (s : Sources) (w v : Which) (e : RunStatus) → IsWithin w (source_at s w) ⊎ (e ≡ TooLong w) → IsWithin v (source_at s v) ⊎ (v ≡ w) →
    IsWithin v (source_at s v) ⊎ (e ≡ TooLong v)
limited_but s w v e report (inl within) = inl within
limited_but s w v e report (inr is) = subst (λ x. IsWithin x (source_at s x) ⊎ (e ≡ TooLong x)) (sym is) report

stop_limited : (s : Sources) (e : RunStatus) → IsStop s e → IsLimited s e
stop_limited s (Network fault) why = λ v. limited_but s file.Network v _ (inl (reads_within s.network _ why.1)) (others_within s file.Network v why.0)
stop_limited s (Fleet fault) why = λ v. limited_but s file.Fleet v _ (inl (reads_within s.fleet _ why.1)) (others_within s file.Fleet v why.0)
stop_limited s (Script fault) why = λ v. limited_but s file.Script v _ (inl (reads_within s.script _ why.1)) (others_within s file.Script v why.0)
stop_limited s (TooLong w) why = λ v. limited_but s w v _ (inr refl) (others_within s w v why.0)
stop_limited s (ReadFault w) why = λ v. limited_but s w v _ (inl why.1) (others_within s w v why.0)
stop_limited s OutOfMemory why = λ v. limited_but s why.0 v _ (inl why.2) (others_within s why.0 v why.1)
stop_limited s _ why = absurd why

-- the source of the report gave no more than may be, or one byte more
abbrev IsReportLimited : Sources → RunStatus → Type 0
IsReportLimited s e = IsWithin file.Report s.report ⊎ (e ≡ TooLong file.Report)

inputs_limited : (m : Mode) (s : Sources) (i : Inputs) (e : RunStatus) → AreInputs m s i → IsReportLimited s e → IsLimited s e
inputs_limited m s i e inputs report = λ w. limited_but s file.Report w e report (inputs_within m s i inputs w)

untouched_report : (s : Sources) (e : RunStatus) → IsUntouched s.report → IsReportLimited s e
untouched_report s e report = inl (untouched_within file.Report s.report report)

-- what a call answers, by its command
run_answers : (settings : Settings) (seen : CallView) (e : RunStatus) → StopsOrReads settings seen e
    (λ i. IsUntouched seen.sources.report × EndsText i.settings i.roads (λ r. round_text r.number i.settings.proof r.journal)
    (head_text i.settings i.roads (length i.vehicles)) (RunsSome i) (RunsScript i) seen e)
    → AnswersRun settings seen e
run_answers settings seen e why =
    record {
      explained = why;
      complete = λ i told whole. ⊎_elim (λ stop. inr (stops seen.sources i e told stop.0)) (λ r. text_ends _ _ _ _ _ _ seen e whole r.3.1) why;
    }

drive_answers : (settings : Settings) (seen : CallView) (e : RunStatus) → StopsOrReads settings seen e
    (λ i. IsUntouched seen.sources.report × EndsDrive i seen e) → AnswersDrive settings seen e
drive_answers settings seen e why =
    record {
      explained = why;
      complete = λ i told day whole.
          ⊎_elim (λ stop. inr (inl (stops seen.sources i e told stop.0))) (λ r. day_ends seen i r.0 e told r.2 day whole r.3.1) why;
    }

audit_answers : (settings : Settings) (seen : CallView) (e : RunStatus) → StopsOrReads settings seen e (λ i. EndsAudit i seen e) → AnswersAudit settings seen e
audit_answers settings seen e why =
    record {
      explained = why;
      complete = λ i bytes told tells right whole.
          ⊎_elim (λ stop. inr (stops seen.sources i e told stop.0)) (λ r. audit_ends seen r.0 bytes e tells (right r.0 r.1 r.2) whole r.3) why;
    }

load_answers : (shape : LoadShape) (settings : Settings) (seen : CallView) (e : RunStatus) → AreUntouched seen.sources
    → ((e ≡ OutOfMemory) × IsSilent seen) ⊎ ((i : Inputs) × (i.settings ≡ settings) × AreTexts (texts_of shape) i
    × EndsText i.settings i.roads (λ r. summary_text r.journal) (load_text shape) (RunsSome i) (RunsScript i) seen e) → AnswersLoad shape settings seen e
load_answers shape settings seen e untouched why =
    record { untouched = untouched; explained = why; complete = λ whole. ⊎_elim (λ lacks. inr lacks.0) (λ r. text_ends _ _ _ _ _ _ seen e whole r.3) why }

-- what a call's answer says, by its words
abbrev AnswersWords : CallView → RunStatus → Option WordFault → Type 0
AnswersWords seen e fault =
    MatchOption fault ((settings : Settings) × AreGiven seen.words settings × AnswersAs settings.mode settings seen e)
    (λ f. (e ≡ Words f) × AreUntouched seen.sources × IsSilent seen)

answer : (seen : CallView) (e : RunStatus) → AnswersWords seen e (fault_of seen.words) → HidesNoMemory e → IsLimited seen.sources e → Answers seen e
answer seen e answered hides limited =
    record {
      answered = answered;
      limited = limited;
      refused = hides;
    }

good_answer : (seen : CallView) (settings : Settings) (e : RunStatus) → AreGood seen.words settings → AnswersAs settings.mode settings seen e →
    HidesNoMemory e → IsLimited seen.sources e → Answers seen e
good_answer seen settings e good answers hides limited = answer seen e (subst (AnswersWords seen e) (sym good.faultless) (settings, good.given, answers)) hides
    limited

-- words that are refused
pub words_answer : (seen : CallView) (fault : WordFault) → fault_of seen.words ≡ Some fault → AreUntouched seen.sources → IsSilent seen →
    Answers seen (Words fault)
words_answer seen fault why sources out =
    answer seen (Words fault) (subst (AnswersWords seen (Words fault)) (sym why) (refl, sources, out)) tt (λ w. inl (all_within seen.sources sources w))

-- inputs that aren't there
no_day : (seen : CallView) (settings : Settings) (fault : DayFault) → IsReadAsNoDay seen.sources fault → IsUntouched seen.sources.report → IsSilent seen →
    AnswersDrive settings seen (Day fault)
no_day seen settings fault (i, read, refused) report out =
    drive_answers settings seen (Day fault)
    (inr (
      record { settings = settings; roads = i.roads; vehicles = i.vehicles; rounds = i.rounds },
      refl,
      record
          { network = read.network; fleet = read.fleet; script = read.script },
      (report, EndsDrive.no_day fault refused out),
    ))

no_input : (seen : CallView) (settings : Settings) (e : RunStatus) (m : Mode) → IsNoInput m seen.sources e → IsUntouched seen.sources.report → IsSilent seen →
    AnswersAs m settings seen e
no_input seen settings e Run why report out = run_answers settings seen e (inl (why, out))
no_input seen settings e Audit why report out = audit_answers settings seen e (inl (why, out))
no_input seen settings e Drive (inl why) report out = drive_answers settings seen e (inl (why, out))
no_input seen settings e Drive (inr (fault, is, why)) report out = subst (AnswersDrive settings seen) (sym is) (no_day seen settings fault why report out)
no_input seen settings e (Load shape) (untouched, is) report out = load_answers shape settings seen e untouched (inl (is, out))

no_input_limited : (s : Sources) (e : RunStatus) (m : Mode) → IsNoInput m s e → IsUntouched s.report → IsLimited s e
no_input_limited s e Drive (inl why) report = stop_limited s e why
no_input_limited s e Drive (inr (fault, is, (i, read, refused))) report = λ w. limited_but s file.Report w e (untouched_report s e report)
    (read_within s i read w)
no_input_limited s e (Load shape) (untouched, is) report = λ w. inl (all_within s untouched w)
no_input_limited s e _ why report = stop_limited s e why

pub input_answer : (seen : CallView) (settings : Settings) (e : RunStatus) → AreGood seen.words settings → GotInputs settings seen.sources (Err e) →
    IsUntouched seen.sources.report → IsSilent seen → Answers seen e
input_answer seen settings e good got report out =
    good_answer seen settings e good (no_input seen settings e settings.mode got.inputs report out) got.refused
    (no_input_limited seen.sources e settings.mode got.inputs report)

-- a sink with the same bytes and faults is untouched
same_sink : (c : Change SinkView) → c.after.written ≡ c.before.written → c.after.faults ≡ c.before.faults → IsUntouched c
same_sink c bytes faults = grind (arith, bytes, faults)

-- a text that is written, or a beginning of it
text_answers : (m : Mode) (seen : CallView) (i : Inputs) (e : RunStatus) → (m ≡ Audit → ⊥) → AreInputs m seen.sources i → IsUntouched seen.sources.report
    → EndsText i.settings i.roads (added_text m i.settings.proof) (first_text m i.settings i.roads (length i.vehicles)) (AreFirstRounds m i)
    (AreAllRoundsWith m i) seen e → AnswersAs m i.settings seen e
text_answers Run seen i e prints inputs report ends = run_answers i.settings seen e (inr (i, refl, inputs.0, (report, ends)))
text_answers Drive seen i e prints inputs report ends = drive_answers i.settings seen e (inr (i, refl, inputs.0, (report, EndsDrive.driven e inputs.1 ends)))
text_answers (Load shape) seen i e prints inputs report ends = load_answers shape i.settings seen e inputs.1 (inr (i, refl, inputs.0, ends))
text_answers Audit seen i e prints inputs report ends = absurd (prints refl)

module _ (seen : CallView) (settings : Settings) (got : ReadInputs) (good : AreGood seen.words settings) (inputs : GotInputs settings seen.sources (Ok got))
    (prints : settings.mode ≡ Audit → ⊥) (report : IsUntouched seen.sources.report) where
  abbrev pub i : Inputs
  i = inputs_got settings got

  text_answer : (e : RunStatus) → HidesNoMemory e
      → EndsText i.settings i.roads (added_by i.settings) (head_of i) (AreFirstRounds i.settings.mode i) (AreAllRoundsWith i.settings.mode i) seen e →
      Answers seen e
  text_answer e hides ends =
      good_answer seen settings e good (text_answers settings.mode seen i e prints inputs.inputs report ends) hides
      (inputs_limited settings.mode seen.sources i e inputs.inputs (untouched_report seen.sources e report))

  pub done_answer : IsReportWhole i seen.out.before.written seen.out.after.written seen.notifiers.before seen.notifiers.after → Answers seen Done
  done_answer written = text_answer Done tt (EndsText.written written)

  pub written_answer : (e : RunStatus) → IsWritingFault i seen.out.before.written seen.out.after.written seen.notifiers.before seen.notifiers.after
      seen.out.before.faults seen.out.after.faults e → Answers seen e
  written_answer _ (IsWritingFault.unwritten _ (IsReportFault.failed rose short)) = text_answer WriteFault tt (EndsText.failed rose short)
  written_answer _ (IsWritingFault.unwritten _ (IsReportFault.unstored part)) = text_answer OutOfMemory tt (EndsText.unstored part)
  written_answer _ (IsWritingFault.late round made driven late bytes faults told) =
      let e : RunStatus = TooLate round in
      let day : AreInputs Drive seen.sources i = subst (λ m. AreInputs m seen.sources i) driven inputs.inputs in
      let silent : IsSilent seen = record { out = same_sink seen.out bytes faults; notifiers = told } in
      good_answer seen settings e good
      (subst (λ m. AnswersAs m settings seen e) (sym driven)
      (drive_answers settings seen e (inr (i, refl, day.0, (report, EndsDrive.too_late round made day.1 late silent)))))
      tt (inputs_limited settings.mode seen.sources i e inputs.inputs (untouched_report seen.sources e report))

-- the sources without that of the report
abbrev pub without_report : Sources → Sources
without_report s = record { network = s.network; fleet = s.fleet; script = s.script; report = record { before = s.report.before; after = s.report.before } }

-- the sources of an audit's inputs, of which its report is no part
read_without : (m : Mode) (s : Sources) (i : Inputs) → m ≡ Audit → AreInputs m (without_report s) i → AreReadFrom s i
read_without (Load shape) s i is inputs = absurd (let e : Load shape ≡ Audit = is in cc)
read_without _ s i is inputs = record { network = inputs.0.network; fleet = inputs.0.fleet; script = inputs.0.script }

module _ (seen : CallView) (settings : Settings) (got : ReadInputs) (good : AreGood seen.words settings) (is : settings.mode ≡ Audit)
    (inputs : GotInputs settings (without_report seen.sources) (Ok got)) (told : IsUntouched seen.notifiers) where
  read : AreReadFrom seen.sources (inputs_got settings got)
  read = read_without settings.mode seen.sources (inputs_got settings got) is inputs.inputs

  of_audit : (e : RunStatus) → EndsAudit (inputs_got settings got) seen e → HidesNoMemory e → IsReportLimited seen.sources e → Answers seen e
  of_audit e ends hides report =
      good_answer seen settings e good (subst (λ m. AnswersAs m settings seen e) (sym is) (audit_answers settings seen e
      (inr (inputs_got settings got, refl, read, ends)))) hides
      (λ w. limited_but seen.sources file.Report w e report (read_within seen.sources (inputs_got settings got) read w))

  silent : IsSameSink seen.out.before.written seen.out.after.written seen.out.before.faults seen.out.after.faults → IsSilent seen
  silent same = record { out = same_sink seen.out same.bytes same.faults; notifiers = told }

  pub yes_answer : WritesYes (inputs_got settings got) seen.sources.report seen.out.before.written seen.out.after.written → Answers seen Done
  yes_answer line =
      of_audit Done (EndsAudit.confirmed (record { audited = line.audited; read = line.read; line = line.text; notifiers = told })) tt
      (inl (reads_within seen.sources.report _ line.read))

  unread_answer : (e : RunStatus) → IsUnread seen.sources.report file.Report e → IsSilent seen → Answers seen e
  unread_answer _ (IsUnread.long why) quiet = of_audit _ (EndsAudit.too_long why quiet) tt (inr refl)
  unread_answer _ (IsUnread.failed within rose) quiet = of_audit _ (EndsAudit.unread within rose quiet) tt (inl within)
  unread_answer _ (IsUnread.memory within) quiet = of_audit _ (EndsAudit.unjudged within quiet) tt (inl within)

  refused_answer : (e : RunStatus) (bytes : List ℕ) → Reads file.Report seen.sources.report (λ came. came ≡ bytes) →
      RefusesBytes (inputs_got settings got) bytes e → IsSilent seen → Answers seen e
  refused_answer (Report fault) bytes came why quiet =
      of_audit (Report fault) (EndsAudit.refused fault (reads_as seen.sources.report bytes _ came why.1) quiet) why.0
      (inl (reads_within seen.sources.report _ came))
  refused_answer OutOfMemory bytes came why quiet = (let within = reads_within seen.sources.report _ came in of_audit OutOfMemory
      (EndsAudit.unjudged within quiet) tt (inl within))
  refused_answer _ bytes came why quiet = absurd why

  begins : (audited : Audited) → Reads file.Report seen.sources.report (λ bytes. IsRunReport (inputs_got settings got) bytes audited)
      → AppendsPart seen.out.before.written seen.out.after.written (yes_text audited) → Confirms (inputs_got settings got) seen
      (AppendsPart seen.out.before.written seen.out.after.written)
  begins audited came part = record { audited = audited; read = came; line = part; notifiers = told }

  unwritten_answer : (e : RunStatus) (audited : Audited) → Reads file.Report seen.sources.report (λ bytes. IsRunReport (inputs_got settings got) bytes audited)
      → IsTextFault (yes_text audited) seen.out.before.written seen.out.after.written seen.out.before.faults seen.out.after.faults e → Answers seen e
  unwritten_answer _ audited came (IsTextFault.failed rose part) = of_audit WriteFault (EndsAudit.failed (begins audited came part) rose) tt
      (inl (reads_within seen.sources.report _ came))
  unwritten_answer _ audited came (IsTextFault.unstored part) = of_audit OutOfMemory (EndsAudit.unstored (begins audited came part)) tt
      (inl (reads_within seen.sources.report _ came))

  pub no_answer : (e : RunStatus) → IsAuditFault (inputs_got settings got) seen.sources.report seen.out.before.written seen.out.after.written
      seen.out.before.faults seen.out.after.faults e → Answers seen e
  no_answer _ (IsAuditFault.unread e why same) = unread_answer e why (silent same)
  no_answer _ (IsAuditFault.refused e bytes came why same) = refused_answer e bytes came why (silent same)
  no_answer _ (IsAuditFault.unwritten e audited came why) = unwritten_answer e audited came why

-- accepted inputs are a day where vehicles are driven
day_of_inputs : (m : Mode) (s : Sources) (i : Inputs) → AreInputs m s i → IsDayFor m i.rounds
day_of_inputs Drive s i inputs = inputs.1
day_of_inputs _ s i inputs = tt

pub got_is_day : (settings : Settings) (s : Sources) (got : ReadInputs) → GotInputs settings s (Ok got) → IsDayFor settings.mode got.script
got_is_day settings s got inputs = day_of_inputs settings.mode s _ inputs.inputs
