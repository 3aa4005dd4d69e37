-- An entry that an audit reads.
use Rattle.std.proofs.Common.{
  ◌≡◌,
  ◌≢◌,
  ℕ,
  ◌<◌,
  ◌≤◌,
  true,
  List,
  [],
  ◌∷◌,
  ◌++◌,
  length,
  set,
  slice_get,
  Option,
  Some,
  None,
  refl,
  sym,
  ap,
  ◌∙◌,
  subst,
  length-append,
  arith,
}
use Rattle.report_audit.proofs.Common.{
  Batch,
  BlockRefusal,
  IsCloseOf,
  IsGoodClose,
  last_sealed,
  journal_of,
  entry_line,
  lines_text,
  entry_block,
  IsNextLine,
  NextLine,
  LaneProgress,
  progress_at,
  progress_after,
  HaveCome,
  IsNext,
  IsNextFrom,
  come_more,
  BookView,
  IsApplied,
  IsNoClose,
  step,
  Command,
  Close,
  Entry,
  Journal,
  Outcome,
  Reply,
  Closed,
  State,
  replies-push,
  Settings,
  Roads,
  NumberedLanes,
  MayStand,
  lane_at,
  IsFirstLine,
  IsWrongBlock,
  Extent,
  BeginsRound,
  MayFollow,
  position_behind,
  state_behind,
  with_entry,
  HasFittingBlock,
  IsCommand,
  IsReply,
  IsOtherLine,
  TakesClose,
  BlockRefuses,
  EntryRead,
  IsWithin,
  Waits,
  TakesCommand,
  close_line,
}
use Rattle.report_audit.proofs.lemmas.lines.NextLemmas.{one_kind}
use Rattle.std.proofs.lemmas.List.{length-set}
use Rattle.std.proofs.lemmas.Option.{slice_get_within, get_or_from_slice_get}
use Rattle.report_audit.specs.declared.block.refusal.BlockRefusal.TheVariants as refusal
use Rattle.report_audit.specs.declared.lines.next.NextLine.TheVariants.{Entry as EntryOf}
use Rattle.report_audit.proofs.report.JournalLemmas.{closes-push, told-push, sealed-after, close-is}
use Rattle.report_audit.proofs.report.LaneLemmas.{come_begins, no_close_of, no_outcome, none_beyond, waits_command, waits_close, waits_for}
use Rattle.report_audit.proofs.report.NextLemmas.{
  book_of_applied,
  book_state,
  book_step,
  candidate_lane,
  candidate_next,
  close_of,
  entry_by,
  journal_applied,
  next_begins,
  read_one,
}
use Rattle.report_audit.proofs.report.TextLemmas.{lines-none, next-low}

-- only closes are judged, and have a block
good_plain : (settings : Settings) (roads : Roads) (s : State) (c : Command) (reply : Reply) → IsNoClose c → IsGoodClose settings roads s c reply
good_plain settings roads s (Close batch outcome) reply is = absurd is
good_plain settings roads s _ reply is = tt

fits_plain : (c : Command) (reply : Reply) → IsNoClose c → HasFittingBlock c reply
fits_plain (Close batch outcome) reply is = absurd is
fits_plain _ reply is = tt

block_plain : (c : Command) (reply : Reply) (text : List ℕ) → IsNoClose c → text ≡ lines_text (entry_block true c reply) ++ text
block_plain (Close batch outcome) reply text is = absurd is
block_plain _ reply text is = ap (λ (t : List ℕ). t ++ text) (sym lines-none)

-- which batch a lane waits for, whichever way its number is told
pub pending_at : (lanes : List LaneProgress) (lane k : ℕ) → k ≡ lane → (progress : LaneProgress) → progress ≡ progress_at lanes k → (pending : Option ℕ) →
    progress.pending ≡ pending → (progress_at lanes lane).pending ≡ pending
pending_at lanes lane k same progress is pending e = subst (λ (n : ℕ). (progress_at lanes n).pending ≡ pending) same
    (ap (λ (s : LaneProgress). s.pending) (sym is) ∙ e)

-- how the lanes stand after an entry of a lane
abbrev pub StandsAfter : NumberedLanes → List LaneProgress → List LaneProgress → Reply → ℕ → Type 0
StandsAfter round lanes lanes_new reply lane = (command : Command) → IsNext (lane_at round lane) (progress_at lanes lane) command →
    lanes_new ≡ set lanes lane (progress_after (progress_at lanes lane) reply)

module _ {settings : Settings} {roads : Roads} {round : NumberedLanes} {b : BookView} {lanes : List LaneProgress} {sealed : Option Batch}
    (is : IsWithin settings roads round b lanes sealed) where
  j : Journal
  j = journal_of b

  -- an entry of a lane that was taken into the book, by its line and block
  module _ (lane : ℕ) (low : lane < 16) (command : Command) (reply : Reply) (new : BookView) (applied : IsApplied b lane command reply new)
      (next : IsNext (lane_at round lane) (progress_at lanes lane) command) where
    lanes_set : List LaneProgress
    lanes_set = set lanes lane (progress_after (progress_at lanes lane) reply)

    entry_read : IsCommand command → IsReply reply → HasFittingBlock command reply → IsGoodClose settings roads (state_behind settings roads (journal_of b))
        command reply
        → Waits (set lanes lane (progress_after (progress_at lanes lane) reply)) new.state.sealed → (open_batch : Option Batch) → open_batch ≡ new.state.sealed
        → (text line after rest : List ℕ) → IsFirstLine text line after → line ≡ entry_line (position_behind (journal_of b))
        (record { lane = lane; command = command; reply = reply })
        → after ≡ lines_text (entry_block true command reply) ++ rest → EntryRead settings roads round b new
        (set lanes lane (progress_after (progress_at lanes lane) reply)) open_batch text rest
    unfolding j lanes_set
    entry_read command_fits reply_fits fits good waits open_batch is_open text line after rest has line_is block_is =
        let e : Entry = record { lane = lane; command = command; reply = reply } in
        let come_new : HaveCome round lanes_set (b.entries ++ e ∷ []) = come_more round lanes b.entries e (let n = is.sixteen in omega (arith, n, low)) is.come
        next in
        let replied : reply ≡ (step roads.nodes settings.wait (state_behind settings roads j) command).1 = ap (λ p. p.1) applied.stepped ∙
        ap (λ p. p.1) (book_step settings roads b is.book command) in
        let begins : BeginsRound settings roads round (with_entry j e) = record {
          replies = replies-push roads.nodes settings.wait b.base b.entries e is.begins.replies replied;
          closes = closes-push settings roads b.base b.entries e is.begins.closes good;
          lanes = come_begins round lanes_set (b.entries ++ e ∷ []) come_new;
          told = told-push b.first b.entries e is.book.low is.begins.told
              (record {
                line = record { placed = next-low b.first b.entries; lane = omega (arith, low); command = command_fits; reply = reply_fits };
                block =
                    fits;
              });
        } in
        record {
          within = record {
            book = book_of_applied b new lane command reply applied settings roads is.book;
            round_kept = is.round_kept;
            begins = subst (BeginsRound settings roads round) (sym (journal_applied b new lane command reply applied)) begins;
            sixteen = length-set lanes lane (progress_after (progress_at lanes lane) reply) ∙ is.sixteen;
            come = subst (λ (es : List Entry). HaveCome round lanes_set es) (sym applied.entries) come_new;
            waits = waits;
            is_open = is_open;
          };
          entry = e;
          journal = journal_applied b new lane command reply applied;
          printed = read_one (position_behind j) e text line after rest has line_is block_is;
          shorter = omega (
            arith,
            length-append line (10 ∷ after),
            length-append (lines_text (entry_block true command reply)) rest,
            ap length has.whole,
            ap
                length block_is,
          );
        }

  module _ (line : List ℕ) where
    -- a line that isn't an entry's
    pub no_entry : (x : NextLine) → ((lane : ℕ) → x ≡ EntryOf lane → ⊥) → IsNextLine x line →
        MayFollow settings roads (Extent.within round (journal_of b)) line → ⊥
    no_entry x other form follow = other follow.0.lane (one_kind x (EntryOf follow.0.lane) line form
        (position_behind (journal_of b), follow.0, follow.1.line, refl, follow.2))

    module _ (lane : ℕ) (form : IsNextLine (EntryOf lane) line) where
      -- an entry of a lane that the round hasn't
      pub beyond : 16 ≤ lane → MayFollow settings roads (Extent.within round (journal_of b)) line → ⊥
      beyond high follow =
          none_beyond round lanes lane follow.0.command is.round_kept is.sixteen high (candidate_next settings roads round (journal_of b) lanes is.come follow.0
          lane line follow.1 follow.2 form)

      -- another line than that of the lane's next command
      pub other_command : IsOtherLine round lanes b lane line → MayFollow settings roads (Extent.within round (journal_of b)) line → ⊥
      other_command other follow =
          let e : Entry = follow.0 in
          let reply : e.reply ≡ (step b.nodes b.wait b.state e.command).1 = follow.1.reply ∙ ap (λ p. p.1)
          (sym (book_step settings roads b is.book e.command)) in
          let same : e ≡ record { lane = lane; command = e.command; reply = (step b.nodes b.wait b.state e.command).1 } =
          entry_by e lane e.command (step b.nodes b.wait b.state e.command).1 (candidate_lane settings roads round (journal_of b) lanes is.come e lane line
          follow.1 follow.2 form) refl reply in
          other e.command (candidate_next settings roads round (journal_of b) lanes is.come e lane line follow.1 follow.2 form)
          (follow.2 ∙ ap (λ (x : Entry). entry_line (position_behind (journal_of b)) x) same)

      module _ (low : lane < 16) where
        -- the lane's next command
        pub command_read : (new : BookView) (next : Option Batch) (reply : Reply) → (progress_at lanes lane).pending ≡ None →
            TakesCommand round lanes b lane line new next reply → (sealed_new : Option Batch) → sealed_new ≡ last_sealed sealed next
            → (lanes_new : List LaneProgress) → StandsAfter round lanes lanes_new reply lane
            → (text after : List ℕ) → IsFirstLine text line after → EntryRead settings roads round b new lanes_new sealed_new text after
        command_read new next reply pending takes sealed_new sealed_is lanes_new lanes_are text after has =
            let c : Command = takes.command in
            let k : ℕ = (progress_at lanes lane).taken in
            let at : slice_get (lane_at round lane) k ≡ Some c = subst (λ (o : Option ℕ). IsNextFrom o k (lane_at round lane) c) pending takes.next in
            let stands : MayStand lane c = subst (MayStand lane) (get_or_from_slice_get (lane_at round lane) k c c at)
            (is.round_kept.stand lane k c (slice_get_within (lane_at round lane) k c at)) in
            let plain : IsNoClose c = no_close_of lane c stands in
            let waits : Waits (set lanes lane (progress_after (progress_at lanes lane) reply)) new.state.sealed =
            subst (λ (p : State × Reply). Waits (set lanes lane (progress_after (progress_at lanes lane) p.1)) p.0.sealed) (sym takes.applied.stepped)
            (waits_command b.nodes b.wait b.state lanes lane c (let n = is.sixteen in omega (arith, n, low)) is.waits pending stands) in
            subst (λ (ls : List LaneProgress). EntryRead settings roads round b new ls sealed_new text after) (sym (lanes_are c takes.next))
            (entry_read lane low c reply new takes.applied takes.next takes.command_fits takes.reply_fits (fits_plain c reply plain)
            (good_plain settings roads (state_behind settings roads (journal_of b)) c reply plain) waits
            sealed_new
            (sealed_is ∙ ap (λ (o : Option Batch). last_sealed o next) is.is_open ∙ ap (last_sealed b.state.sealed) takes.sealed_is ∙
            sealed-after b.nodes b.wait b.state c plain
            ∙ ap (λ p. p.0.sealed) (sym takes.applied.stepped)) text line after after has takes.line_is (block_plain c reply after plain))

        -- where the lane waits for a close
        module _ (batch : Batch) (pending_batch : ℕ) (pending : (progress_at lanes lane).pending ≡ Some pending_batch) (open_is : sealed ≡ Some batch) where
          closing : Outcome → Entry
          closing o = record { lane = lane; command = Close batch.number o; reply = Closed }

          number_is : pending_batch ≡ batch.number
          number_is = waits_for lanes lane pending_batch batch b.state.sealed is.waits pending (sym is.is_open ∙ open_is)

          sealed_behind : (state_behind settings roads (journal_of b)).sealed ≡ Some batch
          sealed_behind = ap (λ (s : State). s.sealed) (sym (book_state settings roads b is.book)) ∙ sym is.is_open ∙ open_is

          closing_reply : (o : Outcome) → Closed ≡ (step roads.nodes settings.wait (state_behind settings roads (journal_of b)) (Close batch.number o)).1
          closing_reply o = ap (λ p. p.1) (sym (close-is roads.nodes settings.wait (state_behind settings roads (journal_of b)) batch o sealed_behind))

          closing_next : (o : Outcome) → IsNext (lane_at round lane) (progress_at lanes lane) (Close batch.number o)
          closing_next o = subst (λ (p : Option ℕ). IsNextFrom p (progress_at lanes lane).taken (lane_at round lane) (Close batch.number o)) (sym pending)
              (sym number_is)

          -- only the close of the batch may come next
          pub other_close : line ≢ close_line (position_behind (journal_of b)) lane batch.number →
              MayFollow settings roads (Extent.within round (journal_of b)) line → ⊥
          unfolding closing
          other_close other follow =
              let e : Entry = follow.0 in
              let next = candidate_next settings roads round (journal_of b) lanes is.come e lane line follow.1 follow.2 form in
              let closes : IsCloseOf pending_batch e.command = subst (λ (p : Option ℕ). IsNextFrom p (progress_at lanes lane).taken (lane_at round lane)
              e.command) pending next in
              let found = close_of pending_batch e.command closes in
              let o : Outcome = found.0 in
              let command : e.command ≡ Close batch.number o = found.1 ∙ ap (λ (n : ℕ). Close n o) number_is in
              let reply : e.reply ≡ Closed = follow.1.reply ∙
              ap (λ (c : Command). (step roads.nodes settings.wait (state_behind settings roads (journal_of b)) c).1) command ∙ sym (closing_reply o) in
              let same : e ≡ closing o =
              entry_by e lane (Close batch.number o) Closed (candidate_lane settings roads round (journal_of b) lanes is.come e lane line follow.1 follow.2
              form) command reply in
              other (follow.2 ∙ ap (λ (x : Entry). entry_line (position_behind (journal_of b)) x) same)

          -- the block behind the close's line is wrong
          pub wrong_block : (refused : BlockRefusal) (after : List ℕ) → refused ≢ refusal.OutOfMemory →
              BlockRefuses settings roads b batch lane line after refused → (text : List ℕ) → IsFirstLine text line after
              → IsWrongBlock settings roads round (journal_of b) text refused
          unfolding closing
          wrong_block refused after some fails text has =
              let found = fails some in
              record {
                line = line;
                after = after;
                closing = closing no_outcome;
                batch = batch;
                has = has;
                comes = record {
                  line = record { placed = next-low b.first b.entries; lane = omega (arith, low); command = found.0; reply = tt };
                  next = next_begins settings roads round (journal_of b) lanes is.come (closing no_outcome) (let n = is.sixteen in omega (arith, n, low))
                      (closing_next no_outcome);
                  reply = closing_reply no_outcome;
                };
                line_is = found.1;
                closed = refl;
                sealed = sealed_behind;
                refused = found.2;
              }

          -- the close
          pub close_read : (rest : List ℕ) (new : BookView) (after : List ℕ) → TakesClose settings roads b batch lane line after rest new
              → (lanes_new : List LaneProgress) → StandsAfter round lanes lanes_new Closed lane
              → (sealed_new : Option Batch) → sealed_new ≡ None → (text : List ℕ) → IsFirstLine text line after →
              EntryRead settings roads round b new lanes_new sealed_new text rest
          unfolding closing
          close_read rest new after takes lanes_new lanes_are sealed_new none text has =
              let o : Outcome = takes.outcome in
              let closed : new.state.sealed ≡ None = ap (λ p. p.0.sealed) takes.applied.stepped ∙
              ap (λ p. p.0.sealed) (close-is b.nodes b.wait b.state batch o (sym is.is_open ∙ open_is)) in
              subst (λ (ls : List LaneProgress). EntryRead settings roads round b new ls sealed_new text rest)
              (sym (lanes_are (Close batch.number o) (closing_next o)))
              (entry_read lane low (Close batch.number o) Closed new takes.applied (closing_next o) takes.low tt takes.good.fits
              (batch, sealed_behind, takes.good.good)
              (subst (Waits (set lanes lane (progress_after (progress_at lanes lane) Closed))) (sym closed)
              (waits_close lanes lane pending_batch b.state.sealed (let n = is.sixteen in omega (arith, n, low)) is.waits pending))
              sealed_new (none ∙ sym closed) text line after rest has takes.line_is takes.good.whole)
