-- What stands of a run after more rows.
use Rattle.std.proofs.lemmas.Bool.Decides.{nat_tests}
use Rattle.std.proofs.Common.{
  rules,
  ◌≡◌,
  ℕ,
  ◌+◌,
  ◌<◌,
  ◌≤◌,
  List,
  [],
  ◌∷◌,
  ◌++◌,
  codes,
  length,
  take,
  drop,
  Option,
  Some,
  refl,
  sym,
  ap,
  subst,
  ◌∙◌,
  append_assoc,
  append-nil,
  take-append-drop,
  length-append,
  inl,
  inr,
  arith,
}
use Rattle.live_dispatch.proofs.Common.{
  Appends,
  Appends-nil,
  Appends-trans,
  AreRows,
  EndsWithin,
  take-append-add,
  take-append_seam,
  of_lane,
  IsLaneRun,
  IsLaneBeginning,
  ClosesAreGood,
  IsReady,
  IsRun,
  position_after_run,
  run-more,
  lines_text,
  end_text,
  entries_lines,
  entry_text,
  Change,
  SinkView,
  numbered,
  AppendsPart,
  next_position,
  state_after,
  RepliesAreSteps,
  Entry,
  Journal,
  State,
  Settings,
  notices_from,
  HaveHeard,
  NotifierView,
  Notice,
  all-heard-more,
  Roads,
  round_of,
  ScriptRow,
  rounds_of,
  BeginWithRows,
  AreWhole,
  BeginsRows,
  ButLast,
  HasAppended,
  IsBegunRun,
  journals_notices,
  journals_text,
  EndsIn,
  in_lane,
  last_of,
  start_text,
  Moment,
  Stands,
  entries-append,
  next-low,
  one-text,
}
use Rattle.live_dispatch.proofs.RowLemmas.{AreMore, AreLinesOf, rows-more}
use Rattle.live_dispatch.proofs.RunLemmas.{HasGrown, has-grown, run-begins, with_more}

-- bytes and a part of a text are a part of both
pub part-behind : (old new : Option (List ℕ)) (front text : List ℕ) (k : ℕ) → k < length text → Appends old new (front ++ take k text) →
    AppendsPart old new (front ++ text)
part-behind old new front text k short written = grind (arith, nat_tests, (length-append front text), (take-append-add front text k))

-- bytes that were written end within the first of two texts, which they begin
ends-before : (sink : Change SinkView) (bytes unwritten first second : List ℕ) (Beyond : Type 0) → bytes ++ unwritten ≡ first → 0 < length second →
    Appends sink.before.written sink.after.written bytes
    → EndsWithin sink first second Beyond
ends-before sink bytes unwritten first second Beyond parts some written =
    let size : length first ≡ length bytes + length unwritten = ap length (sym parts) ∙ length-append bytes unwritten in
    let both : length (first ++ second) ≡ length first + length second = length-append first second in
    let is : take (length bytes) (first ++ second) ≡ bytes =
    ap (take (length bytes)) (ap (λ t. t ++ second) (sym parts) ∙ append_assoc bytes unwritten second) ∙ take-append_seam bytes (unwritten ++ second) in (
      length bytes,
      omega (arith, size, both, some),
      λ past. absurd (omega (arith, size, past)),
      subst
          (λ (l : List ℕ). Appends sink.before.written sink.after.written l) (sym is) written,
    )

-- or within the second, behind the first
ends-behind : (sink : Change SinkView) (first second : List ℕ) (k : ℕ) (Beyond : Type 0) → k < length second → (0 < k → Beyond) →
    Appends sink.before.written sink.after.written (first ++ take k second)
    → EndsWithin sink first second Beyond
ends-behind sink first second k Beyond short beyond written =
    let both : length (first ++ second) ≡ length first + length second = length-append first second in (
      length first + k,
      omega (arith, both, short),
      λ past. beyond (omega (arith, past)),
      subst
          (λ (l : List ℕ). Appends sink.before.written sink.after.written l) (sym (take-append-add first second k)) written,
    )

pub end-some : (n : ℕ) → 0 < length (end_text n)
unfolding end_text lines_text
end-some n = omega (arith, length-append (numbered (codes "done ") n ++ 10 ∷ []) [], length-append (numbered (codes "done ") n) (10 ∷ []))

-- entries that rows of a round gave
pub record Gives (settings : Settings) (roads : Roads) (s : State) (number : ℕ) (rows : List ScriptRow) (es : List Entry) : Type 0 where
  pub are : AreLinesOf number rows
  pub replies : RepliesAreSteps roads.nodes settings.wait s es
  pub closes : ClosesAreGood settings roads s es

module _ (settings : Settings) (roads : Roads) (start before : Moment) (Before : List ScriptRow → Type 0) (stands : Stands settings roads start before Before)
    (row : ScriptRow) (rest : List ScriptRow) (number : ℕ) (es : List Entry) (low : last_of before.round ≤ number)
    (gives : Gives settings roads before.book.state number (row ∷ rest) es) where
  abbrev all : List ScriptRow
  all = stands.lines ++ (row ∷ rest)

  more : AreMore before.round stands.lines (row ∷ rest) number
  more = rows-more before.round stands.lines row rest number stands.ends low gives.are

  grown : HasGrown settings roads start.book.base start.book.first before.round stands.lines (row ∷ rest) number stands.journals es
  grown = has-grown settings roads start.book.base start.book.first before.round stands.lines (row ∷ rest) number es stands.small gives.are stands.journals
      stands.run more.rounds
      (subst (λ s. RepliesAreSteps roads.nodes settings.wait s es) stands.state gives.replies)
      (subst (λ s. ClosesAreGood settings roads s es) stands.state gives.closes)

  -- what was written, and what comes to it
  abbrev old_text : List ℕ
  old_text = journals_text settings.proof (rounds_of stands.lines) stands.journals

  abbrev position : ℕ
  position = next_position before.book.first before.book.entries

  -- the text of some entries behind it, and the journals with these alone
  abbrev more_of : List Entry → List ℕ
  more_of fs = start_text before.round number ++ lines_text (entries_lines settings.proof position fs)

  whole_of : List Entry → List Journal
  whole_of fs = grown.done ++ with_more grown.front fs ∷ []

  whole-text : (fs : List Entry) → journals_text settings.proof (rounds_of all) (whole_of fs) ≡ old_text ++ more_of fs
  unfolding whole_of
  whole-text fs = search (rules, with_more)

  whole-notices : (fs : List Entry) → journals_notices settings roads (whole_of fs) ≡ journals_notices settings roads stands.journals ++ notices_from
      roads.nodes settings.wait before.book.state fs
  unfolding whole_of
  whole-notices fs = grown.notices fs ∙ ap (λ s. journals_notices settings roads stands.journals ++ notices_from roads.nodes settings.wait s fs)
      (sym stands.state)

  pub stands-after : (now : Moment) (Now : List ScriptRow → Type 0) → Now all → ((lane : ℕ) → IsLaneRun (in_lane (row ∷ rest) lane) (of_lane lane es))
      → now.round ≡ Some number → now.book.state ≡ state_after roads.nodes settings.wait before.book.state es
      → next_position now.book.first now.book.entries ≡ next_position (next_position before.book.first before.book.entries) es
      → IsReady settings roads now.book → Appends before.sink.written now.sink.written (more_of es)
      → HaveHeard (notices_from roads.nodes settings.wait before.book.state es) before.notifiers now.notifiers
      → before.sink.faults ≤ now.sink.faults → before.reads ≤ now.reads → Stands settings roads start now Now
  unfolding whole_of
  stands-after now Now are lanes round state position ready text told writes reads = record {
    lines = all;
    are = are;
    ends = subst (EndsIn all) (sym round) more.ends;
    journals = whole_of es;
    run = subst (λ rs. IsRun settings roads start.book.base start.book.first rs (whole_of es)) (sym grown.rounds)
        (run-more settings roads start.book.base start.book.first grown.fronts grown.done (round_of all number) (with_more grown.front es) grown.run grown.base
        grown.first (grown.whole lanes));
    text = subst (λ (t : List ℕ). Appends start.sink.written now.sink.written t) (sym (whole-text es))
        (Appends-trans start.sink.written before.sink.written now.sink.written old_text (more_of es) stands.text text);
    told = subst (λ (ns : List Notice). HaveHeard ns start.notifiers now.notifiers) (sym (whole-notices es))
        (all-heard-more (journals_notices settings roads stands.journals) (notices_from roads.nodes settings.wait before.book.state es) start.notifiers
        before.notifiers now.notifiers stands.told told);
    state = state ∙ ap (λ s. state_after roads.nodes settings.wait s es) stands.state ∙ sym grown.state;
    position = position ∙ ap (λ n. next_position n es) stands.position ∙ sym grown.position;
    ready = ready;
    small = stands.small;
    writes = omega (arith, writes, stands.writes);
    reads = omega (arith, reads, stands.reads);
  }

  module _ (written : Option (List ℕ)) (faults : ℕ) (begin : BeginWithRows start.rows all)
      (lanes : (lane : ℕ) → IsLaneBeginning (in_lane (row ∷ rest) lane) (of_lane lane es)) where
    abbrev sinks : Change SinkView
    sinks = record { before = start.sink; after = record { written = written; faults = faults } }

    abbrev all_text : List ℕ
    all_text = journals_text settings.proof (rounds_of all) (whole_of es)

    begins-of : (notifiers : List NotifierView) (bytes unwritten : List ℕ) → bytes ++ unwritten ≡ old_text ++ more_of es →
        Appends start.sink.written written bytes
        → (whole : List Journal) → AreWhole sinks all_text (whole_of es) whole → HasAppended start.sink.written written
        (journals_text settings.proof (rounds_of all) whole)
        → HaveHeard (journals_notices settings roads whole) start.notifiers notifiers
        → BeginsRows settings roads start.book start.rows sinks (record { before = start.notifiers; after = notifiers })
    unfolding whole_of
    begins-of notifiers bytes unwritten parts appended whole are_whole has told =
        let end : List ℕ = end_text (position_after_run start.book.first (whole_of es)) in
        record {
          lines = all;
          begin = begin;
          journals = whole_of es;
          run = subst (λ rs. IsBegunRun settings roads start.book.base start.book.first rs (whole_of es)) (sym grown.rounds)
              (IsBegunRun.some grown.fronts grown.done (round_of all number) (with_more grown.front es) grown.run grown.base grown.first (grown.begun lanes));
          text = ends-before sinks bytes unwritten all_text end _ (parts ∙ sym (whole-text es)) (end-some (position_after_run start.book.first (whole_of es)))
              appended;
          whole = whole;
          are_whole = are_whole;
          written = has;
          told = told;
        }

    -- all entries are written whole
    pub begins-whole : (notifiers : List NotifierView) → Appends before.sink.written written (more_of es) →
        HaveHeard (notices_from roads.nodes settings.wait before.book.state es) before.notifiers notifiers
        → BeginsRows settings roads start.book start.rows sinks (record { before = start.notifiers; after = notifiers })
    begins-whole notifiers text heard =
        let bytes : List ℕ = old_text ++ more_of es in
        let appended : Appends start.sink.written written bytes = Appends-trans start.sink.written before.sink.written written old_text (more_of es) stands.text
        text in
        begins-of notifiers bytes [] (append-nil bytes) appended (whole_of es) (inl refl)
        ([], subst (λ (t : List ℕ). Appends start.sink.written written t) (sym (whole-text es) ∙ sym (append-nil all_text)) appended)
        (subst (λ (ns : List Notice). HaveHeard ns start.notifiers notifiers) (sym (whole-notices es))
        (all-heard-more (journals_notices settings roads stands.journals) (notices_from roads.nodes settings.wait before.book.state es) start.notifiers
        before.notifiers notifiers stands.told heard))

    -- the text breaks off within the last entry
    pub begins-broken : (notifiers : List NotifierView) (fs : List Entry) (e : Entry) (k : ℕ) → es ≡ fs ++ e ∷ [] →
        k < length (entry_text settings.proof (next_position position fs) e)
        → Appends before.sink.written written (more_of fs ++ take k (entry_text settings.proof (next_position position fs) e))
        → HaveHeard (notices_from roads.nodes settings.wait before.book.state fs) before.notifiers notifiers
        → BeginsRows settings roads start.book start.rows sinks (record { before = start.notifiers; after = notifiers })
    unfolding whole_of
    begins-broken notifiers fs e k is short text heard =
        let last : List ℕ = entry_text settings.proof (next_position position fs) e in
        let split : more_of es ≡ more_of fs ++ last =
        ap more_of is
        ∙ ap (λ t. start_text before.round number ++ t)
        (entries-append settings.proof position fs (e ∷ []) (next-low before.book.first before.book.entries)
        ∙ ap (λ t. lines_text (entries_lines settings.proof position fs) ++ t) (one-text settings.proof (next_position position fs) e))
        ∙ sym (append_assoc (start_text before.round number) (lines_text (entries_lines settings.proof position fs)) last) in
        let bytes : List ℕ = old_text ++ (more_of fs ++ take k last) in
        let appended : Appends start.sink.written written bytes = Appends-trans start.sink.written before.sink.written written old_text
        (more_of fs ++ take k last) stands.text text in
        let front : List ℕ = old_text ++ more_of fs in
        let at_front : bytes ≡ front ++ take k last = sym (append_assoc old_text (more_of fs) (take k last)) in
        let here : Appends start.sink.written written (front ++ take k last) = subst (λ (t : List ℕ). Appends start.sink.written written t) at_front appended in
        let joined : front ++ last ≡ old_text ++ more_of es = append_assoc old_text (more_of fs) last ∙ ap (λ t. old_text ++ t) (sym split) in
        let f : Journal = grown.front in
        begins-of notifiers bytes (drop k last)
        (ap (λ t. t ++ drop k last) at_front ∙ append_assoc front (take k last) (drop k last) ∙ ap (λ t. front ++ t) (take-append-drop k last) ∙ joined)
        appended (whole_of fs)
        (inr (
          subst (λ js. ButLast js (whole_of fs)) (ap (λ xs. grown.done ++ (record { first = f.first; base = f.base; entries = xs }) ∷ [])
              (append_assoc f.entries fs (e ∷ []) ∙ ap (λ xs. f.entries ++ xs) (sym is)))
              (ButLast.later grown.done f.first f.base (f.entries ++ fs) e),
          subst (λ (t : List ℕ). AppendsPart start.sink.written written t) (joined ∙ sym (whole-text es))
              (part-behind start.sink.written written front last k short here),
        ))
        (take k last, subst (λ (t : List ℕ). Appends start.sink.written written (t ++ take k last)) (sym (whole-text fs)) here)
        (subst (λ (ns : List Notice). HaveHeard ns start.notifiers notifiers) (sym (whole-notices fs))
        (all-heard-more (journals_notices settings roads stands.journals) (notices_from roads.nodes settings.wait before.book.state fs) start.notifiers
        before.notifiers notifiers stands.told heard))

    -- one entry, or the line of its round before it, isn't written whole
    pub begins-one : (e : Entry) → es ≡ e ∷ [] → AppendsPart before.sink.written written (more_of es)
        → BeginsRows settings roads start.book start.rows sinks (record { before = start.notifiers; after = before.notifiers })
    unfolding whole_of
    begins-one e is part =
        let more : List ℕ = more_of es in
        let here : Appends start.sink.written written (old_text ++ take part.0 more) = Appends-trans start.sink.written before.sink.written written old_text
        (take part.0 more) stands.text part.2 in
        begins-of before.notifiers (old_text ++ take part.0 more) (drop part.0 more)
        (append_assoc old_text (take part.0 more) (drop part.0 more) ∙ ap (λ t. old_text ++ t) (take-append-drop part.0 more))
        here stands.journals
        (inr (
          grown.one e is,
          subst (λ (t : List ℕ). AppendsPart start.sink.written written t) (sym (whole-text es))
              (part-behind start.sink.written written old_text more part.0 part.1 here),
        )) (
          take part.0 more,
          subst (λ (t : List ℕ). Appends start.sink.written written (t ++ take part.0 more))
              (sym (ap (λ rs. journals_text settings.proof rs stands.journals) grown.rounds ∙ grown.old_text)) here,
        )
        stands.told

-- what stands begins, whatever comes of its last line
module _ (settings : Settings) (roads : Roads) (start now : Moment) (Now : List ScriptRow → Type 0) (stands : Stands settings roads start now Now) where
  abbrev lines_text_is : List ℕ
  lines_text_is = journals_text settings.proof (rounds_of stands.lines) stands.journals

  abbrev last_line : List ℕ
  last_line = end_text (position_after_run start.book.first stands.journals)

  begun : IsBegunRun settings roads start.book.base start.book.first (rounds_of stands.lines) stands.journals
  begun = run-begins settings roads start.book.base start.book.first now.round stands.lines stands.journals stands.ends stands.run

  wrote : (written : Option (List ℕ)) → (part : AppendsPart now.sink.written written last_line) →
      Appends start.sink.written written (lines_text_is ++ take part.0 last_line)
  wrote written part = Appends-trans start.sink.written now.sink.written written lines_text_is (take part.0 last_line) stands.text part.2

  pub begins-last : (written : Option (List ℕ)) (faults : ℕ) → BeginWithRows start.rows stands.lines → (part : AppendsPart now.sink.written written last_line) →
      (0 < part.0 → AreRows start.rows stands.lines)
      → BeginsRows settings roads start.book start.rows (record { before = start.sink; after = record { written = written; faults = faults } })
      (record { before = start.notifiers; after = now.notifiers })
  begins-last written faults begin part all = record {
    lines = stands.lines;
    begin = begin;
    journals = stands.journals;
    run = begun;
    text = ends-behind (record { before = start.sink; after = record { written = written; faults = faults } }) lines_text_is last_line part.0 _ part.1
        (λ some. (all some, stands.run)) (wrote written part);
    whole = stands.journals;
    are_whole = inl refl;
    written = (take part.0 last_line, wrote written part);
    told = stands.told;
  }

  pub begins-here : (faults : ℕ) → BeginWithRows start.rows stands.lines
      → BeginsRows settings roads start.book start.rows (record { before = start.sink; after = record { written = now.sink.written; faults = faults } })
      (record { before = start.notifiers; after = now.notifiers })
  begins-here faults begin = begins-last now.sink.written faults begin (
    0,
    end-some (position_after_run start.book.first stands.journals),
    Appends-nil
        now.sink.written,
  ) (λ some. absurd (omega (arith, some)))
