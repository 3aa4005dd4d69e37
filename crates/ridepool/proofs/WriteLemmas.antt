-- Texts of rounds, one after the other, and what stands where the last isn't whole.
use Rattle.std.proofs.Common.{
  ◌≡◌,
  ℕ,
  ◌+◌,
  ◌<◌,
  ◌≤◌,
  List,
  [],
  ◌∷◌,
  ◌++◌,
  length,
  take,
  drop,
  get_or,
  Option,
  Result,
  Ok,
  Err,
  MatchResult,
  refl,
  sym,
  subst,
  ap,
  ◌∙◌,
  append_assoc,
  append-nil,
  arith,
}
use Rattle.ridepool.proofs.BookLemmas.{last_position, opened}
use Rattle.ridepool.proofs.Common.{
  Appends,
  Appends-nil,
  Appends-trans,
  Appends-kept,
  map-append,
  AppendsPart,
  IsReady,
  IsRoundRun,
  IsRun,
  IsSameRun,
  journal_of,
  position_after_run,
  state_after_run,
  Audited,
  yes_text,
  ReportFault,
  Rose,
  BookView,
  IsBook,
  next_position,
  opening,
  Mode,
  Load,
  Drive,
  Settings,
  Roads,
  DayRound,
  NumberedLanes,
  Inputs,
  notices,
  NotifierView,
  HaveHeard,
  DrivesDay,
  AppendsWithPart,
  IsCutShort,
  IsPart,
  IsWhole,
  RunsRounds,
  journals_of,
  rounds_notices,
  RunsScript,
  RunsSome,
  AreAllRoundsWith,
  AreFirstRounds,
  IsReportWhole,
  added_by,
  first_text,
  head_of,
  BeginsRounds,
  EndsRounds,
  NextJournal,
  HasPut,
  PutsRound,
  IsUnput,
  StopsIn,
  RunsAll,
  RunsFirst,
  RunsFrom,
  WritesRound,
  IsReportFault,
  IsTextFault,
  IsRoundFault,
  IsWritingFault,
  day_ending,
  late_status,
  made_of,
  status_of,
  rounds_text,
  RunStatus,
  WriteFault,
  OutOfMemory,
}
use Rattle.std.specs.List.{flat_map}
use Rattle.std.proofs.lemmas.Grind.{flat_map-append}
use Rattle.std.proofs.lemmas.List.{take-append-drop, length-append}
use Rattle.std.proofs.Math.Seq.{take-length}
use Rattle.dispatch_engine.proofs.lemmas.lanes.RunLemmas.{position-more, run-more, state-more, take_next}
use Rattle.dispatch_report.specs.Head.{head_text}
use Rattle.dispatch_report.specs.Lines.{lines_text}
use Rattle.dispatch_report.specs.Round.{end_text}
use Rattle.dispatch_report.specs.Summary.{load_text}
use Rattle.request_book.specs.Replay.{state_after}
use Rattle.request_book.specs.declared.values.journal.Journal.{Journal}
use Rattle.dispatch_report.specs.declared.day.DayCounts.{DayCounts}
use Rattle.route_drive.specs.Driven.{IsLateAnswer, IsTooLateDay}
use Rattle.route_drive.specs.Promises.{IsKeptDay, IsRunOfDay}
use Rattle.route_drive.specs.declared.day_run.DriveFault.{DriveFault}
use Rattle.request_book.proofs.lemmas.notices.HeardLemmas.{all-heard-nothing, all-heard-more}
use Rattle.dispatch_report.specs.declared.fault.ReportFault.TheVariants as report
use Rattle.route_drive.specs.declared.day_run.DriveFault.TheVariants as drive

-- journals, numbers, texts and notices of rounds, and of one more
journals_more : (made : List DayRound) (r : DayRound) → journals_of (made ++ r ∷ []) ≡ journals_of made ++ r.journal ∷ []
journals_more made r = map-append (λ (x : DayRound). x.journal) made (r ∷ [])

flat_more : {X A : Type 0} (f : X → List A) (xs : List X) (x : X) → flat_map f (xs ++ x ∷ []) ≡ flat_map f xs ++ f x
flat_more f xs x = flat_map-append f xs (x ∷ []) ∙ ap (λ t. flat_map f xs ++ t) (append-nil (f x))

-- a text that isn't written whole
pub text_unwritten : (text : List ℕ) (a b : Option (List ℕ)) (low high : ℕ) (fault : ReportFault) (s : RunStatus)
    → s ≡ status_of fault → AppendsPart a b text → (fault ≡ report.WriteFault → Rose low high) → IsTextFault text a b low high s
text_unwritten text a b low high report.WriteFault s is part rose = subst (IsTextFault text a b low high) (sym is) (IsTextFault.failed (rose refl) part)
text_unwritten text a b low high report.OutOfMemory s is part rose = subst (IsTextFault text a b low high) (sym is) (IsTextFault.unstored part)

module _ (settings : Settings) (roads : Roads) where
  -- no round, and one round more
  pub put_none : (a : Option (List ℕ)) (n : List NotifierView) → HasPut settings roads [] a a n n
  put_none a n = record { text = Appends-nil a; told = all-heard-nothing n }

  pub put_more : (made : List DayRound) (r : DayRound) (a b c : Option (List ℕ)) (n m k : List NotifierView) → HasPut settings roads made a b n m →
      PutsRound settings roads r b c m k → HasPut settings roads (made ++ r ∷ []) a c n k
  put_more made r a b c n m k w x =
      record {
        text =
            subst (λ t. Appends a c t) (sym (flat_more (added_by settings) made r))
            (Appends-trans a b c (rounds_text settings made) (added_by settings r) w.text x.text);
        told =
            subst (λ t. HaveHeard t n k) (sym (flat_more (λ (x : DayRound). notices roads.nodes settings.wait x.journal) made r))
            (all-heard-more (rounds_notices settings roads made) (notices roads.nodes settings.wait r.journal) n m k w.told x.told);
      }

  -- a round that is put out next, and one that isn't
  pub put_next : (rounds : List DayRound) (i : ℕ) (r : DayRound) (a b c : Option (List ℕ)) (n m k : List NotifierView) → i < length rounds →
      r ≡ get_or rounds i r
      → HasPut settings roads (take i rounds) a b n m → PutsRound settings roads r b c m k → HasPut settings roads (take (i + 1) rounds) a c n k
  put_next rounds i r a b c n m k within is w x =
      subst (λ rs. HasPut settings roads rs a c n k) (take_next rounds i r within is) (put_more (take i rounds) r a b c n m k w x)

  pub stops_next : (rounds : List DayRound) (i : ℕ) (r : DayRound) (a b c : Option (List ℕ)) (n m k : List NotifierView) (low middle high : ℕ) (s : RunStatus) →
      i < length rounds → r ≡ get_or rounds i r
      → low ≤ middle → HasPut settings roads (take i rounds) a b n m → IsUnput settings roads r b c m k middle high s →
      StopsIn settings roads rounds a c n k low high s
  stops_next rounds i r a b c n m k low middle high s within is up w why =
      record {
        made = take i rounds;
        next = r;
        first = (drop (i + 1) rounds, ap (λ xs. xs ++ drop (i + 1) rounds) (take_next rounds i r within is) ∙ take-append-drop (i + 1) rounds);
        here = b;
        heard = m;
        faults = middle;
        puts = w;
        up = up;
        why = why;
      }

  pub position_next : (rounds : List DayRound) (i : ℕ) (r : DayRound) (p q : ℕ) → i < length rounds → r ≡ get_or rounds i r
      → p ≡ position_after_run 0 (journals_of (take i rounds)) → q ≡ next_position p r.journal.entries →
      q ≡ position_after_run 0 (journals_of (take (i + 1) rounds))
  position_next rounds i r p q within is at step =
      step ∙ ap (λ x. next_position x r.journal.entries) at ∙ sym (position-more 0 (journals_of (take i rounds)) r.journal)
      ∙ ap (position_after_run 0) (sym (journals_more (take i rounds) r)) ∙ ap (λ rs. position_after_run 0 (journals_of rs)) (take_next rounds i r within is)

  -- all rounds are put out
  pub put_whole : (rounds : List DayRound) (i : ℕ) (a b : Option (List ℕ)) (n m : List NotifierView) (p : ℕ) → i ≡ length rounds
      → HasPut settings roads (take i rounds) a b n m → p ≡ position_after_run 0 (journals_of (take i rounds))
      → HasPut settings roads rounds a b n m × (p ≡ position_after_run 0 (journals_of rounds))
  put_whole rounds i a b n m p end w at =
      let all : take i rounds ≡ rounds = ap (λ k. take k rounds) end ∙ take-length rounds in
      (subst (λ rs. HasPut settings roads rs a b n m) all w, at ∙ ap (λ rs. position_after_run 0 (journals_of rs)) all)

  -- what stands after some rounds of a run: those that were made, and the book that comes next
  pub record HasWritten (book : BookView) (rounds : List NumberedLanes) (before after : Option (List ℕ)) (notifiers left : List NotifierView)
      (current : BookView) : Type 0 where
    pub made : List DayRound
    pub runs : RunsFrom settings roads book rounds made
    pub puts : HasPut settings roads made before after notifiers left
    pub ready : IsReady settings roads current
    pub base : current.base ≡ state_after_run settings roads book.base (journals_of made)
    pub first : current.first ≡ position_after_run book.first (journals_of made)
    pub entries : current.entries ≡ []

  pub written_none : (book : BookView) (a : Option (List ℕ)) (n : List NotifierView) → book.entries ≡ [] → IsReady settings roads book →
      HasWritten book [] a a n n book
  written_none book a n empty ready =
      record { made = []; runs = record { numbers = refl; run = tt }; puts = put_none a n; ready = ready; base = refl; first = refl; entries = empty }

  -- a journal of the round that comes next, seen from the book of the first
  next_run : (book current : BookView) (rounds : List NumberedLanes) (r : NumberedLanes) (a b : Option (List ℕ)) (n m : List NotifierView) (j : Journal)
      → (w : HasWritten book rounds a b n m current) → NextJournal settings roads current r j
      → RunsFrom settings roads book (rounds ++ r ∷ []) (w.made ++ made_of settings roads r j ∷ [])
  next_run book current rounds r a b n m j w is =
      record {
        numbers =
            map-append (λ (x : DayRound). x.number) w.made (made_of settings roads r j ∷ [])
            ∙ ap (λ ns. ns ++ r.number ∷ []) w.runs.numbers ∙ sym (map-append (λ (x : NumberedLanes). x.number) rounds (r ∷ []));
        run =
            subst (IsRun settings roads book.base book.first (rounds ++ r ∷ [])) (sym (journals_more w.made (made_of settings roads r j)))
            (run-more settings roads book.base book.first rounds (journals_of w.made) r j w.runs.run (is.base ∙ w.base) (is.first ∙ w.first) is.run);
      }

  written_more : (book current next : BookView) (rounds : List NumberedLanes) (r : NumberedLanes) (a b c : Option (List ℕ)) (n m k : List NotifierView)
      → HasWritten book rounds a b n m current → WritesRound settings roads current r b c m k next → HasWritten book (rounds ++ r ∷ []) a c n k next
  written_more book current next rounds r a b c n m k w x =
      let made = made_of settings roads r x.journal in
      let js = journals_of w.made in
      record {
        made = w.made ++ made ∷ [];
        runs = next_run book current rounds r a b n m x.journal w x.is;
        puts = put_more w.made made a b c n m k w.puts x.puts;
        ready = x.ready;
        base =
            x.base
            ∙ ap (λ s. state_after roads.nodes settings.wait s x.journal.entries) w.base
            ∙ sym (state-more settings roads book.base js x.journal)
            ∙ ap (state_after_run settings roads book.base) (sym (journals_more w.made made));
        first =
            x.first ∙ ap (λ p. next_position p x.journal.entries) w.first ∙ sym (position-more book.first js x.journal)
            ∙ ap (position_after_run book.first) (sym (journals_more w.made made));
        entries = x.entries;
      }

  pub written_next : (book current next : BookView) (rounds : List NumberedLanes) (i : ℕ) (r : NumberedLanes) (a b c : Option (List ℕ))
      (n m k : List NotifierView)
      → i < length rounds → r ≡ get_or rounds i r
      → HasWritten book (take i rounds) a b n m current → WritesRound settings roads current r b c m k next → HasWritten book (take (i + 1) rounds) a c n k next
  written_next book current next rounds i r a b c n m k within is w x =
      subst (λ rs. HasWritten book rs a c n k next) (take_next rounds i r within is) (written_more book current next (take i rounds) r a b c n m k w x)

  pub written_whole : (book current : BookView) (rounds : List NumberedLanes) (i : ℕ) (a b : Option (List ℕ)) (n m : List NotifierView) → i ≡ length rounds
      → HasWritten book (take i rounds) a b n m current → HasWritten book rounds a b n m current
  written_whole book current rounds i a b n m end w = subst (λ rs. HasWritten book rs a b n m current) (ap (λ k. take k rounds) end ∙ take-length rounds) w

  module _ (P : List DayRound → Type 0) (Q : List DayRound → List ℕ → Type 0) where
    -- a text behind rounds, and a part of it
    part_behind : (made : List DayRound) (text : List ℕ) (a b c : Option (List ℕ)) (n m : List NotifierView) → HasPut settings roads made a b n m →
        AppendsPart b c text
        → AppendsWithPart a c (rounds_text settings made) text
    part_behind made text a b c n m w part = (part.0, part.1, Appends-trans a b c (rounds_text settings made) (take part.0 text) w.text part.2)

    -- a text that isn't written whole, where a part of it cuts the whole short
    cut_fault : (head text : List ℕ) (a b c : Option (List ℕ)) (n k : List NotifierView) (low middle high : ℕ) (s : RunStatus) → low ≤ middle →
        IsTextFault text b c middle high s
        → (AppendsPart b c text → IsCutShort settings roads (added_by settings) head P Q a c n k) → IsReportFault settings roads head P Q a c n k low high s
    cut_fault head text a b c n k low middle high _ up (IsTextFault.failed rose part) cut = IsReportFault.failed (omega (arith, rose, up)) (cut part)
    cut_fault head text a b c n k low middle high _ up (IsTextFault.unstored part) cut = IsReportFault.unstored (IsPart.cut (cut part))

    -- a round that wasn't put out
    pub unput_fault : (made : List DayRound) (r : DayRound) (a b c : Option (List ℕ)) (n m k : List NotifierView) (low middle high : ℕ) (s : RunStatus)
        → P (made ++ r ∷ []) → HasPut settings roads made a b n m → low ≤ middle → IsUnput settings roads r b c m k middle high s →
        IsReportFault settings roads [] P Q a c n k low high s
    unput_fault made r a b c n m k low middle high _ first w up (IsUnput.unwritten s why same) =
        cut_fault [] (added_by settings r) a b c n k low middle high s up why
        (λ part. subst (IsCutShort settings roads (added_by settings) [] P Q a c n) (sym same)
        (IsCutShort.round made r first (part_behind made (added_by settings r) a b c n m w part) w.told))
    unput_fault made r a b c n m k low middle high _ first w up (IsUnput.untold text same) =
        IsReportFault.unstored
        (subst (IsPart settings roads (added_by settings) [] P Q a c n) (sym same)
        (IsPart.untold made r first
        (subst (Appends a c) (sym (flat_more (added_by settings) made r)) (Appends-trans a b c (rounds_text settings made) (added_by settings r) w.text text))
        w.told))

    pub stops_fault : (rounds : List DayRound) (a b : Option (List ℕ)) (n m : List NotifierView) (low high : ℕ) (s : RunStatus) →
        ((made : List DayRound) → BeginsRounds rounds made → P made)
        → StopsIn settings roads rounds a b n m low high s → IsReportFault settings roads [] P Q a b n m low high s
    stops_fault rounds a b n m low high s firsts stop =
        unput_fault stop.made stop.next a stop.here b n stop.heard m low stop.faults high s (firsts (stop.made ++ stop.next ∷ []) stop.first) stop.puts stop.up
        stop.why

    -- all rounds and the last lines
    pub written_all : (made : List DayRound) (end : List ℕ) (a b c : Option (List ℕ)) (n m : List NotifierView) → Q made end →
        HasPut settings roads made a b n m → Appends b c end → IsWhole settings roads (added_by settings) [] P Q a c n m
    written_all made end a b c n m all w last =
        record { made = made; end = end; all = all; text = Appends-trans a b c (rounds_text settings made) end w.text last; told = w.told }

    -- last lines that aren't written whole
    pub end_unwritten : (made : List DayRound) (end : List ℕ) (a b c : Option (List ℕ)) (n m : List NotifierView) (low middle high : ℕ) (fault : ReportFault)
        (s : RunStatus)
        → s ≡ status_of fault → Q made end → HasPut settings roads made a b n m → AppendsPart b c end → low ≤ middle →
        (fault ≡ report.WriteFault → Rose middle high) → IsReportFault settings roads [] P Q a c n m low high s
    end_unwritten made end a b c n m low middle high fault s is all w part up rose =
        cut_fault [] end a b c n m low middle high s up (text_unwritten end b c middle high fault s is part rose)
        (λ p. IsCutShort.last_lines made end all (part_behind made end a b c n m w p) w.told)

    -- what stands behind the first lines
    module _ (head : List ℕ) (a b c : Option (List ℕ)) (n m : List NotifierView) (first : Appends a b head) where
      text_behind : (text more : List ℕ) → Appends b c (text ++ more) → Appends a c ((head ++ text) ++ more)
      text_behind text more h = subst (Appends a c) (sym (append_assoc head text more)) (Appends-trans a b c head (text ++ more) first h)

      cut_behind : IsCutShort settings roads (added_by settings) [] P Q b c n m → IsCutShort settings roads (added_by settings) head P Q a c n m
      cut_behind (IsCutShort.first_lines part same) = absurd (let short : part.0 < 0 = part.1 in omega (arith, short))
      cut_behind (IsCutShort.round made next rounds part told) =
          IsCutShort.round made next rounds (part.0, part.1, text_behind (rounds_text settings made) (take part.0 (added_by settings next)) part.2) told
      cut_behind (IsCutShort.last_lines made end all part told) = IsCutShort.last_lines made end all
          (part.0, part.1, text_behind (rounds_text settings made) (take part.0 end) part.2) told

      part_of : IsPart settings roads (added_by settings) [] P Q b c n m → IsPart settings roads (added_by settings) head P Q a c n m
      part_of (IsPart.cut short) = IsPart.cut (cut_behind short)
      part_of (IsPart.rounds made rounds text told) = IsPart.rounds made rounds (Appends-trans a b c head (rounds_text settings made) first text) told
      part_of (IsPart.untold made last rounds text told) = IsPart.untold made last rounds (Appends-trans a b c head (rounds_text settings (made ++ last ∷ []))
          first text) told

      fault_behind : (low middle high : ℕ) (s : RunStatus) → low ≤ middle → IsReportFault settings roads [] P Q b c n m middle high s →
          IsReportFault settings roads head P Q a c n m low high s
      fault_behind low middle high _ up (IsReportFault.failed rose short) = IsReportFault.failed (omega (arith, rose, up)) (cut_behind short)
      fault_behind low middle high _ up (IsReportFault.unstored part) = IsReportFault.unstored (part_of part)

      whole_behind : IsWhole settings roads (added_by settings) [] P Q b c n m → IsWhole settings roads (added_by settings) head P Q a c n m
      whole_behind w = record { made = w.made; end = w.end; all = w.all; text = text_behind (rounds_text settings w.made) w.end w.text; told = w.told }

    -- the first lines, and what became of the rounds behind them
    pub behind_head : (head : List ℕ) (a b c : Option (List ℕ)) (n m : List NotifierView) (low middle high : ℕ) (r : Result (Unit {0}) RunStatus) →
        Appends a b head → low ≤ middle
        → MatchResult r (λ _. IsWhole settings roads (added_by settings) [] P Q b c n m) (IsReportFault settings roads [] P Q b c n m middle high)
        → MatchResult r (λ _. IsWhole settings roads (added_by settings) head P Q a c n m) (IsReportFault settings roads head P Q a c n m low high)
    behind_head head a b c n m low middle high (Ok x) first up w = whole_behind head a b c n m first w
    behind_head head a b c n m low middle high (Err s) first up why = fault_behind head a b c n m first low middle high s up why

    -- first lines that aren't written whole
    pub unbegun : (head : List ℕ) (a b : Option (List ℕ)) (n : List NotifierView) (low high : ℕ) (fault : ReportFault) (s : RunStatus) → s ≡ status_of fault →
        AppendsPart a b head → (fault ≡ report.WriteFault → Rose low high)
        → IsReportFault settings roads head P Q a b n n low high s
    unbegun head a b n low high fault s is part rose =
        cut_fault head head a a b n n low low high s (omega arith) (text_unwritten head a b low high fault s is part rose) (λ p. IsCutShort.first_lines p refl)

  -- a round of a run that wasn't run or put out
  pub round_fault : (book current : BookView) (rounds : List NumberedLanes) (i : ℕ) (r : NumberedLanes) (a b c : Option (List ℕ)) (n m k : List NotifierView)
      (low middle high : ℕ) (s : RunStatus)
      → i < length rounds → r ≡ get_or rounds i r → low ≤ middle
      → HasWritten book (take i rounds) a b n m current → IsRoundFault settings roads current r b c m k middle high s
      → IsReportFault settings roads [] (RunsFirst settings roads book rounds) (RunsAll settings roads book rounds) a c n k low high s
  round_fault book current rounds i r a b c n m k low middle high _ within is up w (IsRoundFault.unrun keeps same) =
      let P = RunsFirst settings roads book rounds in
      let Q = RunsAll settings roads book rounds in
      IsReportFault.unstored
      (subst (IsPart settings roads (added_by settings) [] P Q a c n) (sym same) (IsPart.rounds w.made (i, w.runs)
      (Appends-kept a b c (rounds_text settings w.made) w.puts.text keeps) w.puts.told))
  round_fault book current rounds i r a b c n m k low middle high _ within is up w (IsRoundFault.unput j s next why) =
      let made = made_of settings roads r j in
      unput_fault (RunsFirst settings roads book rounds) (RunsAll settings roads book rounds) w.made made a b c n m k low middle high s (
        i + 1,
        subst (λ rs. RunsFrom settings roads book rs (w.made ++ made ∷ [])) (take_next rounds i r within is)
            (next_run book current (take i rounds) r a b n m j w next),
      )
      w.puts up why

  -- the last line, from the book behind all rounds
  runs_all : (book current : BookView) (rounds : List NumberedLanes) (a b : Option (List ℕ)) (n m : List NotifierView) (number : ℕ)
      → (w : HasWritten book rounds a b n m current) → number ≡ next_position current.first current.entries →
      RunsAll settings roads book rounds w.made (end_text number)
  runs_all book current rounds a b n m number w is = (
    w.runs,
    ap end_text (is ∙ ap (λ p. next_position p current.entries) w.first ∙ ap (λ es. next_position
        (position_after_run book.first (journals_of w.made)) es) w.entries),
  )

  pub run_written : (book current : BookView) (rounds : List NumberedLanes) (a b c : Option (List ℕ)) (n m : List NotifierView) (number : ℕ)
      → HasWritten book rounds a b n m current → number ≡ next_position current.first current.entries → Appends b c (end_text number)
      → IsWhole settings roads (added_by settings) [] (RunsFirst settings roads book rounds) (RunsAll settings roads book rounds) a c n m
  run_written book current rounds a b c n m number w is last =
      written_all (RunsFirst settings roads book rounds) (RunsAll settings roads book rounds) w.made (end_text number) a b c n m
      (runs_all book current rounds a b n m number w is) w.puts last

  pub run_lacks_end : (book current : BookView) (rounds : List NumberedLanes) (a b c : Option (List ℕ)) (n m : List NotifierView) (number low middle high : ℕ)
      (fault : ReportFault) (s : RunStatus)
      → s ≡ status_of fault → HasWritten book rounds a b n m current → number ≡ next_position current.first current.entries → AppendsPart b c (end_text number)
      → low ≤ middle → (fault ≡ report.WriteFault → Rose middle high)
      → IsReportFault settings roads [] (RunsFirst settings roads book rounds) (RunsAll settings roads book rounds) a c n m low high s
  run_lacks_end book current rounds a b c n m number low middle high fault s named w is part up rose =
      end_unwritten (RunsFirst settings roads book rounds) (RunsAll settings roads book rounds) w.made (end_text number) a b c n m low middle high fault s named
      (runs_all book current rounds a b n m number w is) w.puts part up rose

  -- the journal that a round's book gives up, seen from the book before the round
  pub next_journal : (book after : BookView) (r : NumberedLanes) (j : Journal) → IsRoundRun settings roads r (journal_of after) → IsSameRun book after →
      j ≡ journal_of after → NextJournal settings roads book r j
  next_journal book after r j run same is =
      record {
        run = subst (IsRoundRun settings roads r) (sym is) run;
        first = ap (λ k. k.first) is ∙ same.first;
        base = ap (λ k. k.base) is ∙ same.base;
      }

  -- a round, run and written
  pub wrote_round : (book after next : BookView) (r : NumberedLanes) (a b : Option (List ℕ)) (n m : List NotifierView) (j : Journal)
      → IsRoundRun settings roads r (journal_of after) → IsSameRun book after → IsBook after → IsReady settings roads after → j ≡ journal_of after
      → next ≡ record {
        nodes = after.nodes;
        wait = after.wait;
        first = next_position after.first after.entries;
        base = after.state;
        entries = [];
        state =
            after.state;
        spare = 0;
      }
      → PutsRound settings roads (made_of settings roads r j) a b n m → WritesRound settings roads book r a b n m next
  wrote_round book after next r a b n m j run same kept ready is emptied puts =
      record {
        journal = j;
        is = next_journal book after r j run same is;
        puts = puts;
        ready = record {
          nodes = ap (λ k. k.nodes) emptied ∙ ready.nodes;
          wait = ap (λ k. k.wait) emptied ∙ ready.wait;
          closed = ap (λ k. k.state.sealed) emptied ∙ ready.closed;
        };
        first = ap (λ k. k.first) emptied ∙ ap (λ p. next_position p after.entries) same.first ∙ ap (λ k. next_position book.first k.entries) (sym is);
        base =
            ap (λ k. k.base) emptied ∙ kept.state
            ∙ ap (λ ns. state_after ns after.wait after.base after.entries) ready.nodes
            ∙ ap (λ k. state_after roads.nodes k after.base after.entries) ready.wait
            ∙ ap (λ s. state_after roads.nodes settings.wait s after.entries) same.base
            ∙ ap (λ k. state_after roads.nodes settings.wait book.base k.entries) (sym is);
        entries = ap (λ k. k.entries) emptied;
      }

-- lines have bytes
some_bytes : (x : List ℕ) (xs : List (List ℕ)) → 0 < length (lines_text (x ∷ xs))
unfolding lines_text
some_bytes x xs = omega (arith, length-append (x ++ 10 ∷ []) (flat_map (λ line. line ++ 10 ∷ []) xs), length-append x (10 ∷ []))

some_head : (m : Mode) (s : Settings) (roads : Roads) (count : ℕ) → 0 < length (first_text m s roads count)
unfolding head_text load_text
some_head (Load shape) s roads count = some_bytes _ []
some_head _ s roads count = some_bytes _ _

pub some_yes : (audited : Audited) → 0 < length (yes_text audited)
unfolding yes_text
some_yes audited = some_bytes _ []

-- nothing is written
pub nothing_of : (text : List ℕ) (a : Option (List ℕ)) → 0 < length text → AppendsPart a a text
nothing_of text a some = (0, some, Appends-nil a)

pub nothing_written : (i : Inputs) (a : Option (List ℕ)) (n : List NotifierView) (low : ℕ) → IsWritingFault i a a n n low low OutOfMemory
nothing_written i a n low =
    IsWritingFault.unwritten OutOfMemory
    (IsReportFault.unstored (IsPart.cut (IsCutShort.first_lines (nothing_of (head_of i) a (some_head i.settings.mode i.settings i.roads (length i.vehicles)))
    refl)))

-- where rounds are the first of those of a call, and are all of them with the last lines
pub record Serves (i : Inputs) (P : List DayRound → Type 0) (Q : List DayRound → List ℕ → Type 0) : Type 0 where
  pub first : (made : List DayRound) → P made → AreFirstRounds i.settings.mode i made
  pub all : (made : List DayRound) (end : List ℕ) → Q made end → AreAllRoundsWith i.settings.mode i made end

module _ (i : Inputs) (P : List DayRound → Type 0) (Q : List DayRound → List ℕ → Type 0) (serves : Serves i P Q) (a c : Option (List ℕ))
    (n m : List NotifierView) where
  report_whole : IsWhole i.settings i.roads (added_by i.settings) (head_of i) P Q a c n m → IsReportWhole i a c n m
  report_whole w = record { made = w.made; end = w.end; all = serves.all w.made w.end w.all; text = w.text; told = w.told }

  report_cut : IsCutShort i.settings i.roads (added_by i.settings) (head_of i) P Q a c n m →
      IsCutShort i.settings i.roads (added_by i.settings) (head_of i) (AreFirstRounds i.settings.mode i) (AreAllRoundsWith i.settings.mode i) a c n m
  report_cut (IsCutShort.first_lines part same) = IsCutShort.first_lines part same
  report_cut (IsCutShort.round made next first part told) = IsCutShort.round made next (serves.first (made ++ next ∷ []) first) part told
  report_cut (IsCutShort.last_lines made end all part told) = IsCutShort.last_lines made end (serves.all made end all) part told

  report_part : IsPart i.settings i.roads (added_by i.settings) (head_of i) P Q a c n m →
      IsPart i.settings i.roads (added_by i.settings) (head_of i) (AreFirstRounds i.settings.mode i) (AreAllRoundsWith i.settings.mode i) a c n m
  report_part (IsPart.cut short) = IsPart.cut (report_cut short)
  report_part (IsPart.rounds made first text told) = IsPart.rounds made (serves.first made first) text told
  report_part (IsPart.untold made last first text told) = IsPart.untold made last (serves.first (made ++ last ∷ []) first) text told

  report_fault : (low high : ℕ) (s : RunStatus) → IsReportFault i.settings i.roads (head_of i) P Q a c n m low high s → IsWritingFault i a c n m low high s
  report_fault low high _ (IsReportFault.failed rose short) = IsWritingFault.unwritten WriteFault (IsReportFault.failed rose (report_cut short))
  report_fault low high _ (IsReportFault.unstored part) = IsWritingFault.unwritten OutOfMemory (IsReportFault.unstored (report_part part))

  -- the report, from what became of its parts
  pub report_from : (low high : ℕ) (r : Result (Unit {0}) RunStatus)
      → MatchResult r (λ _. IsWhole i.settings i.roads (added_by i.settings) (head_of i) P Q a c n m)
      (IsReportFault i.settings i.roads (head_of i) P Q a c n m low high)
      → MatchResult r (λ _. IsReportWhole i a c n m) (IsWritingFault i a c n m low high)
  report_from low high (Ok x) w = report_whole w
  report_from low high (Err s) why = report_fault low high s why

-- a run's rounds
runs_of : (i : Inputs) (book : BookView) (rounds : List NumberedLanes) (made : List DayRound) → book ≡ opened i → RunsFrom i.settings i.roads book rounds made →
    RunsRounds i rounds made
runs_of i book rounds made is runs =
    record { numbers = runs.numbers; run = subst (λ b. IsRun i.settings i.roads b.base b.first rounds (journals_of made)) is runs.run }

first_run : (m : Mode) (i : Inputs) (made : List DayRound) → (m ≡ Drive → ⊥) → RunsSome i made → AreFirstRounds m i made
first_run Drive i made undriven first = absurd (undriven refl)
first_run _ i made undriven first = first

all_run : (m : Mode) (i : Inputs) (made : List DayRound) (end : List ℕ) → (m ≡ Drive → ⊥) → RunsScript i made end → AreAllRoundsWith m i made end
all_run Drive i made end undriven all = absurd (undriven refl)
all_run _ i made end undriven all = all

pub run_serves : (i : Inputs) (book : BookView) (rounds : List NumberedLanes) → (i.settings.mode ≡ Drive → ⊥) → book ≡ opened i → rounds ≡ i.rounds
    → Serves i (RunsFirst i.settings i.roads book rounds) (RunsAll i.settings i.roads book rounds)
run_serves i book rounds undriven is all =
    record {
      first = λ made first.
          first_run i.settings.mode i made undriven
          (first.0, subst (λ rs. RunsRounds i (take first.0 rs) made) all (runs_of i book (take first.0 rounds) made is first.1));
      all = λ made end report.
          all_run i.settings.mode i made end undriven (
            subst (λ rs. RunsRounds i rs made) all (runs_of i book rounds made is report.0),
            report.1 ∙ ap (λ b. end_text (next_position (position_after_run b.first (journals_of made)) [])) is ∙
                ap end_text (last_position (journals_of made)),
          );
    }

-- a driven day's rounds
pub day_serves : (i : Inputs) (book : BookView) (made : List DayRound) (run : DayCounts) → i.settings.mode ≡ Drive → book ≡ opened i
    → IsRunOfDay i.settings i.roads book.state i.rounds made run → Serves i (BeginsRounds made) (EndsRounds made (day_ending run made))
day_serves i book made run driven is day =
    let opens : IsRunOfDay i.settings i.roads (opening i.vehicles) i.rounds made run = subst (λ b. IsRunOfDay i.settings i.roads b.state i.rounds made run) is
    day in
    let whole : DrivesDay i made (day_ending run made) = record { counts = run; day = opens; text_is = refl } in
    record {
      first = λ begun first. subst (λ m. AreFirstRounds m i begun) (sym driven) (
        first.0,
        subst (IsKeptDay i.settings i.roads (opening i.vehicles) i.rounds)
            (sym first.1) opens.day,
      );
      all = λ begun end report.
          subst (λ m. AreAllRoundsWith m i begun end) (sym driven) (subst (λ rs. DrivesDay i rs end) (sym report.0)
          (subst (DrivesDay i made) (sym report.1) whole));
    }

-- a day that comes too late, or lacks memory
pub day_fault : (i : Inputs) (book : BookView) (a : Option (List ℕ)) (n : List NotifierView) (low : ℕ) (fault : DriveFault) (s : RunStatus) →
    i.settings.mode ≡ Drive → book ≡ opened i
    → s ≡ late_status fault → (Took : List DayRound → Type 0) → IsLateAnswer i.settings i.roads Took book.state i.rounds fault →
    IsWritingFault i a a n n low low s
day_fault i book a n low (drive.TooLate round) s driven is named Took (made, took, late) =
    subst (IsWritingFault i a a n n low low) (sym named)
    (IsWritingFault.late round made driven (subst (λ b. IsTooLateDay i.settings i.roads b.state i.rounds round made) is late) refl refl refl)
day_fault i book a n low drive.OutOfMemory s driven is named Took late = subst (IsWritingFault i a a n n low low) (sym named) (nothing_written i a n low)
