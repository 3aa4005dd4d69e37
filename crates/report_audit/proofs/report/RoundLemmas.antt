-- A round that an audit reads.
use Rattle.std.proofs.Common.{
  ◌≡◌,
  ℕ,
  ◌<◌,
  ◌≤◌,
  ◌+◌,
  ◌-◌,
  ◌^◌,
  true,
  false,
  Bool,
  List,
  [],
  ◌∷◌,
  ◌++◌,
  length,
  replicate,
  drop,
  min,
  codes,
  Option,
  Some,
  None,
  refl,
  sym,
  ap,
  ◌∙◌,
  subst,
  append-nil,
  append_assoc,
  arith,
  option_map,
  count_by,
  rules,
}
use Rattle.report_audit.proofs.Common.{
  cases_lt,
  get_or_past,
  get_or-replicate,
  length-replicate,
  Batch,
  Vehicle,
  ClosesAreGood,
  IsLaneRunFrom,
  IsRoundRun,
  IsRun,
  journal_of,
  round_text,
  numbered,
  IsNextLine,
  LaneProgress,
  at_start,
  progress_at,
  HaveCome,
  AreDone,
  BookView,
  next_position,
  state_after,
  state_after_run,
  position_after_run,
  RepliesAreSteps,
  Entry,
  Journal,
  State,
  round-book,
  opening,
  Settings,
  Roads,
  NumberedLanes,
  IsRound,
  lane_at,
  IsFirstLine,
  Extent,
  HasFault,
  AuditFault,
  position_behind,
  closes,
  batches_after,
  rounds_text,
  head_text,
  AreTold,
  JournalsAreTold,
  entries_text,
  with_entry,
  IsRoundStart,
  IsBookOf,
  IsInRound,
  IsBetween,
  IsFaultAt,
  OnlyFollows,
  EntryRead,
}
use Rattle.report_audit.specs.declared.lines.next.NextLine.TheVariants.{Round as RoundOf}
use Rattle.report_audit.proofs.report.JournalLemmas.{after-none, closes-none}
use Rattle.report_audit.proofs.report.LaneLemmas.{come_begins, done_end, end_done}
use Rattle.report_audit.proofs.report.NextLemmas.{book_state}
use Rattle.report_audit.proofs.report.TextLemmas.{entries-append, entries-none, next-low, round-is}

-- at the start of a round no lane has begun
progress_start : (k : ℕ) → progress_at (replicate 16 at_start) k ≡ at_start
progress_start k = search (rules, get_or-replicate, at_start, get_or_past, length-replicate, cases_lt)

replies_none : (nodes : List ℕ) (wait : ℕ) (s : State) → RepliesAreSteps nodes wait s []
unfolding RepliesAreSteps
replies_none nodes wait s = tt

-- the text of a round with one more entry
round_more : (n : ℕ) (j : Journal) (e : Entry) → j.first < 2 ^ 64 → round_text n true (with_entry j e) ≡ round_text n true j ++ entries_text (position_behind j)
    (e ∷ [])
round_more n j e low = search (rules, numbered, round-is, with_entry, entries-append, append_assoc, entries_text, position_behind)

-- a lane that is done waits for nothing
waits_none : (pending : Option ℕ) (commands : List _) → IsLaneRunFrom pending commands [] → pending ≡ None
waits_none None commands run = refl
waits_none (Some batch) commands run = absurd run

number_none : (o : Option Batch) → None ≡ option_map (λ b. b.number) o → o ≡ None
number_none None e = refl
number_none (Some b) e = absurd cc

-- one more round of a run
module _ (settings : Settings) (roads : Roads) where
  run_push : (s : State) (p : ℕ) (rs : List NumberedLanes) (js : List Journal) (r : NumberedLanes) (j : Journal) → IsRun settings roads s p rs js
      → j.base ≡ state_after_run settings roads s js → j.first ≡ position_after_run p js → IsRoundRun settings roads r j →
      IsRun settings roads s p (rs ++ r ∷ []) (js ++ j ∷ [])
  run_push s p [] [] r j run base first round = (base, first, round, tt)
  run_push s p [] (k ∷ ks) r j run base first round = absurd run
  run_push s p (q ∷ qs) [] r j run base first round = absurd run
  run_push s p (q ∷ qs) (k ∷ ks) r j run base first round =
      (run.0, run.1, run.2, run_push (state_after roads.nodes settings.wait s k.entries) (next_position p k.entries) qs ks r j run.3 base first round)

  text_push : (s : State) (p : ℕ) (rs : List NumberedLanes) (js : List Journal) (r : NumberedLanes) (j : Journal) → IsRun settings roads s p rs js
      → rounds_text (rs ++ r ∷ []) (js ++ j ∷ []) ≡ rounds_text rs js ++ round_text r.number true j
  text_push s p [] [] r j run = append-nil (round_text r.number true j)
  text_push s p [] (k ∷ ks) r j run = absurd run
  text_push s p (q ∷ qs) [] r j run = absurd run
  text_push s p (q ∷ qs) (k ∷ ks) r j run =
      ap (λ (t : List ℕ). round_text q.number true k ++ t) (text_push (state_after roads.nodes settings.wait s k.entries) (next_position p k.entries) qs ks r j
      run.3)
      ∙ sym (append_assoc (round_text q.number true k) (rounds_text qs ks) (round_text r.number true j))

  state_push : (s : State) (js : List Journal) (j : Journal) → state_after_run settings roads s (js ++ j ∷ []) ≡ state_after roads.nodes settings.wait
      (state_after_run settings roads s js) j.entries
  state_push s [] j = refl
  state_push s (k ∷ ks) j = state_push (state_after roads.nodes settings.wait s k.entries) ks j

position_push : (p : ℕ) (js : List Journal) (j : Journal) → position_after_run p (js ++ j ∷ []) ≡ next_position (position_after_run p js) j.entries
position_push p [] j = refl
position_push p (k ∷ ks) j = position_push (next_position p k.entries) ks j

batches_push : (n : ℕ) (js : List Journal) (j : Journal) → batches_after n (js ++ j ∷ []) ≡ min
    (batches_after n js + count_by (λ e. closes e.command e.reply) j.entries) (2 ^ 64 - 1)
batches_push n [] j = refl
batches_push n (k ∷ ks) j = batches_push (min (n + count_by (λ e. closes e.command e.reply) k.entries) (2 ^ 64 - 1)) ks j

told_push : (js : List Journal) (j : Journal) → JournalsAreTold js → AreTold j.first j.entries → JournalsAreTold (js ++ j ∷ [])
told_push [] j told one = (one, tt)
told_push (k ∷ ks) j told one = (told.0, told_push ks j told.1 one)

some_behind : (rounds : List NumberedLanes) (r : NumberedLanes) → rounds ++ r ∷ [] ≡ [] → ⊥
some_behind [] r none = cc
some_behind (q ∷ qs) r none = cc

-- before a round its line alone may follow
pub only_round : (round : NumberedLanes) (later : List NumberedLanes) (number position : ℕ) → number ≡ round.number → round.number ≤ 1000000000 →
    OnlyFollows (RoundOf number) (round ∷ later) position
only_round round later number position is within = λ settings roads before line follow. (
  omega (arith, is, within),
  follow ∙
      ap (numbered (codes "round ")) (sym is),
)

module _ {settings : Settings} {roads : Roads} (round : NumberedLanes) {old : BookView} where
  -- behind the line of the round
  pub in_round : IsRoundStart settings roads old → IsRound round → (lanes : List LaneProgress) → lanes ≡ replicate 16 at_start → HaveCome round lanes [] →
      (text line after : List ℕ) → IsFirstLine text line after
      → (number : ℕ) → number ≡ round.number → IsNextLine (RoundOf number) line → IsInRound settings roads round old old lanes None text after
  in_round start kept lanes are come text line after has number number_is form =
      let come_now : HaveCome round lanes old.entries = subst (λ (es : List Entry). HaveCome round lanes es) (sym start.empty) come in
      let words : List ℕ = numbered (codes "round ") round.number in
      record {
        within = record {
          book = start.book;
          round_kept = kept;
          begins = record {
            replies = subst (λ (es : List Entry). RepliesAreSteps roads.nodes settings.wait old.base es) (sym start.empty)
                (replies_none roads.nodes settings.wait old.base);
            closes = subst (λ (es : List Entry). ClosesAreGood settings roads old.base es) (sym start.empty) (closes-none settings roads old.base);
            lanes = come_begins round lanes old.entries come_now;
            told = subst (λ (es : List Entry). AreTold old.first es) (sym start.empty) tt;
          };
          sixteen = ap length are ∙ length-replicate 16 at_start;
          come = come_now;
          waits = record {
            first = ap (λ (ls : List LaneProgress). (progress_at ls 0).pending) are ∙ ap (λ (t : LaneProgress). t.pending) (progress_start 0) ∙
                ap (option_map (λ x. x.number)) (sym start.closed);
            others = λ k other. ap (λ (ls : List LaneProgress). (progress_at ls k).pending) are ∙ ap (λ (t : LaneProgress). t.pending) (progress_start k);
          };
          is_open = sym start.closed;
        };
        first = refl;
        base = sym (start.book.kept.state ∙ ap (state_after old.nodes old.wait old.base) start.empty ∙ after-none old.nodes old.wait old.base);
        printed = has.whole ∙ ap (λ (l : List ℕ). l ++ 10 ∷ after) (form.1 ∙ ap (numbered (codes "round ")) number_is)
            ∙ sym (append_assoc words (10 ∷ []) after)
            ∙ ap (λ (t : List ℕ). (words ++ 10 ∷ t) ++ after) (sym (ap (entries_text old.first) start.empty ∙ entries-none old.first))
            ∙ ap (λ (t : List ℕ). t ++ after) (sym (round-is round.number (journal_of old)));
      }

  -- behind one more entry
  pub one_more_read : {b new : BookView} {lanes lanes_new : List LaneProgress} {sealed sealed_new : Option Batch} {text rest behind : List ℕ} →
      IsInRound settings roads round old b lanes sealed text rest
      → EntryRead settings roads round b new lanes_new sealed_new rest behind → IsInRound settings roads round old new lanes_new sealed_new text behind
  one_more_read {b} {new} {lanes} {lanes_new} {sealed} {sealed_new} {text} {rest} {behind} here read =
      let so_far : List ℕ = round_text round.number true (journal_of b) in
      record {
        within = read.within;
        first = ap (λ (j : Journal). j.first) read.journal ∙ here.first;
        base = ap (λ (j : Journal). j.base) read.journal ∙ here.base;
        printed = here.printed ∙ ap (λ (t : List ℕ). so_far ++ t) read.printed
            ∙ sym (append_assoc so_far (entries_text (position_behind (journal_of b)) (read.entry ∷ [])) behind)
            ∙ ap (λ (t : List ℕ). t ++ behind) (sym (round_more round.number (journal_of b) read.entry here.within.book.low) ∙
            ap (round_text round.number true) (sym read.journal));
      }

  module _ {report : List ℕ} {vehicles : List Vehicle} {rounds : List NumberedLanes} {workers : ℕ} {before later : List NumberedLanes} {first : Bool}
      {text : List ℕ} {count : ℕ}
      (between : IsBetween settings roads report vehicles rounds workers before (round ∷ later) first old text count)
      {b : BookView} {lanes : List LaneProgress} {sealed : Option Batch} {rest : List ℕ} (here : IsInRound settings roads round old b lanes sealed text rest)
    where
      -- the report is right up to there
      read_so_far : List ℕ
      read_so_far = between.read ++ round_text round.number true (journal_of b)

      whole_is : report ≡ read_so_far ++ rest
      unfolding read_so_far
      whole_is = between.whole ∙ ap (λ (t : List ℕ). between.read ++ t) here.printed ∙ sym (append_assoc between.read
          (round_text round.number true (journal_of b)) rest)

      first_is : b.first ≡ position_after_run 0 between.right.made
      first_is = here.first ∙ between.right.position_is

      -- a fault within the round
      pub fault_within : (AreDone round lanes → ⊥) → (fault : AuditFault) → IsFaultAt settings roads report (Extent.within round (journal_of b)) rest fault →
          HasFault roads vehicles rounds workers report fault
      unfolding read_so_far
      fault_within going fault at = at vehicles rounds workers read_so_far between.audited whole_is (record {
        before = before;
        later = later;
        made = between.right.made;
        all = between.right.all;
        rounds_made = between.right.rounds_made;
        base_is = here.base ∙ between.state;
        first_is = first_is;
        begins = here.within.begins;
        going = λ end. going (end_done round lanes b.entries here.within.come end);
        printed = ap (λ (t : List ℕ). t ++ round_text round.number true (journal_of b)) between.right.printed;
      })

      -- the round was read
      pub round_read : AreDone round lanes → (new : BookView) (batches : ℕ)
          → new ≡ record { nodes = b.nodes; wait = b.wait; first = next_position b.first b.entries; base = b.state; entries = []; state = b.state; spare = 0 }
          → batches ≡ count_by (λ e. closes e.command e.reply) b.entries
          → IsBetween settings roads report vehicles rounds workers (before ++ round ∷ []) later false new rest (min (count + batches) (2 ^ 64 - 1))
      unfolding read_so_far
      round_read done new batches is counted =
          let j : Journal = journal_of b in
          let made : List Journal = between.right.made in
          let s : State = opening vehicles in
          let of : IsBookOf settings roads b = here.within.book in
          let base : j.base ≡ state_after_run settings roads s made = here.base ∙ between.state in
          let closed : b.state.sealed ≡ None = number_none b.state.sealed
          (sym (waits_none (progress_at lanes 0).pending (drop (progress_at lanes 0).taken (lane_at round 0)) (done 0)) ∙ here.within.waits.first) in
          let run = between.right.rounds_made.run in
          let after : BookView = record {
            nodes = b.nodes;
            wait = b.wait;
            first = next_position b.first b.entries;
            base = b.state;
            entries = [];
            state =
                b.state;
            spare = 0;
          } in
          let behind : IsBetween settings roads report vehicles rounds workers (before ++ round ∷ []) later false after rest
          (min (count + batches) (2 ^ 64 - 1)) = record {
            audited = between.audited;
            read = read_so_far;
            whole = whole_is;
            right = record {
              made = made ++ j ∷ [];
              all = between.right.all ∙ sym (append_assoc before (round ∷ []) later);
              rounds_made = record {
                run = run_push settings roads s 0 before made round j run base first_is
                    (record {
                      replies = here.within.begins.replies;
                      closes = here.within.begins.closes;
                      lanes =
                          done_end round lanes b.entries here.within.come done;
                    });
                told = told_push made j between.right.rounds_made.told here.within.begins.told;
              };
              position_is = ap (λ (k : ℕ). next_position k j.entries) first_is ∙ sym (position_push 0 made j);
              printed = ap (λ (t : List ℕ). t ++ round_text round.number true j) between.right.printed
                  ∙ append_assoc (head_text settings roads (length vehicles)) (rounds_text before made) (round_text round.number true j)
                  ∙ ap (λ (t : List ℕ). head_text settings roads (length vehicles) ++ t) (sym (text_push settings roads s 0 before made round j run));
            };
            start = record {
              book = record {
                nodes = of.nodes;
                wait = of.wait;
                kept = round-book b (next_position b.first b.entries) of.kept;
                low =
                    next-low b.first b.entries;
              };
              empty = refl;
              closed = closed;
            };
            state = book_state settings roads b of ∙ ap (λ (t : State). state_after roads.nodes settings.wait t j.entries) base ∙
                sym (state_push settings roads s made j);
            counted = (λ i. min (between.counted i + counted i) (2 ^ 64 - 1)) ∙ sym (batches_push 0 made j);
            is_first = (λ e. absurd cc, λ none. absurd (some_behind before round none));
          } in
          subst (λ (x : BookView). IsBetween settings roads report vehicles rounds workers (before ++ round ∷ []) later false x rest
          (min (count + batches) (2 ^ 64 - 1))) (sym is) behind
