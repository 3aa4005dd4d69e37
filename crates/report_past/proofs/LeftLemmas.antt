-- A beginning of the report of a run is left at its beginning.
use Rattle.std.proofs.Common.{◌≡◌, ◌≢◌, ℕ, zero, suc, ◌<◌, ◌^◌, Bool, true, false, unwrap_or, List, []}
use Rattle.std.proofs.Common.{◌∷◌, ◌++◌, Option, Some, None, refl, sym, ap, subst, ◌∙◌, append_assoc, inl, inr, arith}
use Rattle.std.proofs.lemmas.Bool.{cases_eq}
use Rattle.std.proofs.lemmas.Bool.Decides.{nat_tests}
unfoldable use Rattle.dispatch_engine.specs.lanes.Lane.{ClosesAreGood}
use Rattle.dispatch_engine.specs.lanes.Lane.{IsCloseOf, IsGoodClose, last_sealed, of_lane}
use Rattle.dispatch_engine.specs.lanes.Locked.{sealed_by, snapshot_before}
use Rattle.dispatch_engine.specs.outcome.Outcome.{IsGoodOutcome}
use Rattle.dispatch_engine.proofs.lemmas.lanes.LockedLemmas.{step-sealed}
unfoldable use Rattle.dispatch_report.specs.Round.{entries_lines}
use Rattle.dispatch_report.specs.Entry.{entry_line}
unfoldable use Rattle.dispatch_report.specs.Lines.{lines_text}
use Rattle.dispatch_report.specs.Round.{entry_block, entry_text}
use Rattle.input_rows.specs.script.Round.{MayStand}
use Rattle.live_dispatch.proofs.lemmas.EntryLemmas.{lines-append}
use Rattle.pool_io.specs.Faults.{one_more}
use Rattle.report_audit.specs.report.Types.{AreTold, IsTold}
use Rattle.report_past.proofs.lemmas.StepLemmas.{closed_reply, closed_state, no_close, none_owed, not_owed, owes_of, same_owed, sealed_next, snapshot_none}
use Rattle.report_past.proofs.TakeLemmas.{close_text, row_text}
use Rattle.report_past.specs.Told.{close_of}
use Rattle.report_past.specs.work.Left.{Goes, IsLeft}
use Rattle.report_past.specs.work.Reading.{StandsIn, owed, start_text}
use Rattle.request_book.specs.Book.{next_position}
unfoldable use Rattle.request_book.specs.Replay.{RepliesAreSteps, state_after}
use Rattle.request_book.specs.register.Step.{step}
use Rattle.request_book.specs.values.Batch.{Batch}
use Rattle.request_book.specs.values.Command.{IsNoClose}
use Rattle.request_book.specs.declared.values.command.Command.{Command}
use Rattle.request_book.specs.declared.values.command.Command.TheVariants.{Close}
use Rattle.request_book.specs.declared.values.journal.Entry.{Entry}
use Rattle.request_book.specs.declared.values.outcome.Outcome.{Outcome}
use Rattle.request_book.specs.declared.values.reply.Reply.TheVariants.{Closed}
use Rattle.request_book.specs.declared.values.state.State.{State}
use Rattle.rider_limits.specs.declared.settings.Settings.{Settings}
use Rattle.road_network.specs.Roads.{Roads}

-- a lane's entry, and those of the others
pub own_first : (e : Entry) (es : List Entry) (lane : ℕ) → e.lane ≡ lane → of_lane lane (e ∷ es) ≡ e ∷ of_lane lane es
own_first e es lane is = grind (arith, nat_tests, is)

pub other_first : (e : Entry) (es : List Entry) (lane : ℕ) → e.lane ≢ lane → of_lane lane (e ∷ es) ≡ of_lane lane es
other_first e es lane is = grind (arith, nat_tests, is)

-- a close of a batch
closing : (b : Batch) (command : Command) → IsCloseOf b.number command → (outcome : Outcome) × (command ≡ Close b.number outcome)
closing b (Close closed outcome) is = (outcome, ap (λ n. Close n outcome) is)
closing b _ is = absurd is

-- at the end of whole lanes no batch is open
closed_at_end : (whole : Bool) (open_batch : Option Batch) → Goes whole (owed open_batch 0) [] → whole ≡ true → open_batch ≡ None
closed_at_end whole None goes is = refl
closed_at_end whole (Some b) goes is = absurd (let no : true ≡ false = sym is ∙ goes in cc)

module _ (settings : Settings) (roads : Roads) where
  abbrev next : State → Command → State
  next s command = (step roads.nodes settings.wait s command).0

  -- an entry that comes next, and how the lanes go on behind it
  data Turn (whole : Bool) (s : State) (e : Entry) (es : List Entry) : Type 0 where
    row : MayStand e.lane e.command → e.lane < 16 → (e.lane ≡ 0 → s.sealed ≡ None)
        → ((lane : ℕ) → Goes whole (owed (next s e.command).sealed lane) (of_lane lane es)) → Turn whole s e es
    close : (batch : Batch) (outcome : Outcome) → s.sealed ≡ Some batch → e ≡ close_of batch outcome
        → ((lane : ℕ) → Goes whole (owed (next s e.command).sealed lane) (of_lane lane es)) → Turn whole s e es

  module _ (whole : Bool) (s : State) (e : Entry) (es : List Entry) (replies : e.reply ≡ (step roads.nodes settings.wait s e.command).1) where
    turn_row : (open_batch : Option Batch) → s.sealed ≡ open_batch → (e.lane ≡ 0 → open_batch ≡ None) → Goes whole None (e ∷ of_lane e.lane es)
        → ((lane : ℕ) → e.lane ≢ lane → Goes whole (owed open_batch lane) (of_lane lane es)) → Turn whole s e es
    turn_row open_batch sealed free own others =
        let plain : IsNoClose e.command = no_close e.lane e.command own.0 in
        let snapshot = snapshot_before settings.wait s e.command in
        let quiet : e.lane ≢ 0 → snapshot ≡ None = snapshot_none settings.wait s e.lane e.command own.0 in
        let shown = step-sealed roads.nodes settings.wait s e.command ∙ ap sealed_by (sym replies) in
        let now : (next s e.command).sealed ≡ last_sealed open_batch snapshot = sealed_next roads.nodes settings.wait s e.command plain ∙
        ap (λ o. last_sealed o snapshot) sealed in
        Turn.row own.0 own.1 (λ zero_is. sealed ∙ free zero_is) (λ lane. subst (λ o. Goes whole (owed o lane) (of_lane lane es)) (sym now)
        (elim (cases_eq e.lane lane) [
          | inl same ↦ subst (λ l. Goes whole (owed (last_sealed open_batch snapshot) l) (of_lane l es)) same
              (subst (λ p. Goes whole p (of_lane e.lane es)) (sym (owes_of open_batch snapshot e.lane (sealed_by e.reply) free quiet shown)) own.2)
          | inr other ↦ subst (λ p. Goes whole p (of_lane lane es)) (sym (same_owed open_batch snapshot e.lane lane quiet other)) (others lane other)
        ]))

    turn_close : (batch : Batch) → s.sealed ≡ Some batch → e.lane ≡ 0 → Goes whole (Some batch.number) (e ∷ of_lane 0 es)
        → ((lane : ℕ) → 0 ≢ lane → Goes whole (owed (Some batch) lane) (of_lane lane es)) → Turn whole s e es
    turn_close batch sealed lane_is own others =
        let command = closing batch e.command own.0 in
        let outcome = command.0 in
        let reply : e.reply ≡ Closed = replies ∙ ap (λ c. (step roads.nodes settings.wait s c).1) command.1 ∙
        closed_reply roads.nodes settings.wait s batch outcome sealed in
        let is : e ≡ close_of batch outcome = (λ i. record { lane = lane_is i; command = command.1 i; reply = reply i }) in
        let now : (next s e.command).sealed ≡ None = ap (λ c. (next s c).sealed) command.1 ∙ closed_state roads.nodes settings.wait s batch outcome sealed in
        Turn.close batch outcome sealed is (λ lane. subst (λ p. Goes whole p (of_lane lane es)) (sym (ap (λ o. owed o lane) now ∙ none_owed lane))
        (elim (cases_eq 0 lane) [
          | inl same ↦ subst (λ l. Goes whole None (of_lane l es)) same own.1
          | inr other ↦ subst (λ p. Goes whole p (of_lane lane es)) (not_owed (Some batch) lane (λ h. other (sym h))) (others lane other)
        ]))

    turn_at : (lane : ℕ) (open_batch : Option Batch) → e.lane ≡ lane → s.sealed ≡ open_batch → Goes whole (owed open_batch lane) (e ∷ of_lane lane es)
        → ((l : ℕ) → lane ≢ l → Goes whole (owed open_batch l) (of_lane l es)) → Turn whole s e es
    turn_at zero None lane_is sealed own others =
        turn_row None sealed (λ _. refl) (subst (λ l. Goes whole None (e ∷ of_lane l es)) (sym lane_is) own) (λ l other. others l (λ h. other (lane_is ∙ h)))
    turn_at zero (Some batch) lane_is sealed own others = turn_close batch sealed lane_is own others
    turn_at (suc n) open_batch lane_is sealed own others =
        turn_row open_batch sealed (λ h. absurd (omega (arith, h, lane_is))) (subst (λ l. Goes whole None (e ∷ of_lane l es)) (sym lane_is) own)
        (λ l other. others l (λ h. other (lane_is ∙ h)))

    turn : ((lane : ℕ) → Goes whole (owed s.sealed lane) (of_lane lane (e ∷ es))) → Turn whole s e es
    turn goes =
        turn_at e.lane s.sealed refl refl (subst (Goes whole (owed s.sealed e.lane)) (own_first e es e.lane refl) (goes e.lane))
        (λ l other. subst (Goes whole (owed s.sealed l)) (other_first e es l other) (goes l))

  goes_on : (whole : Bool) (s : State) (e : Entry) (es : List Entry) → Turn whole s e es → (lane : ℕ) →
      Goes whole (owed (next s e.command).sealed lane) (of_lane lane es)
  goes_on whole s e es (Turn.row may within free goes) = goes
  goes_on whole s e es (Turn.close batch outcome sealed is goes) = goes

  abbrev Left : Option ℕ → State → ℕ → List ℕ → Type 0
  Left last s p text = IsLeft settings roads last s p text

  same_last : (last round : Option ℕ) (number : ℕ) (batch : Batch) → StandsIn last (Some batch) round number → (last ≡ Some number) × (start_text round ≡ [])
  same_last last None number batch stands = (stands, refl)
  same_last last (Some n) number batch stands = absurd (let no : Some batch ≡ None = stands.3 in cc)

  -- one entry, and what is left behind it
  one : (whole : Bool) (last round : Option ℕ) (number p : ℕ) (s : State) (e : Entry) (es : List Entry) (rest : List ℕ) → StandsIn last s.sealed round number
      → e.reply ≡ (step roads.nodes settings.wait s e.command).1 → IsGoodClose settings roads s e.command e.reply → IsTold p e
      → Turn whole s e es → Left (Some number) (next s e.command) (one_more p) rest → Left last s p (start_text round ++ (entry_text true p e ++ rest))
  one whole last round number p s e es rest stands replies good told (Turn.row may within free goes) left =
      IsLeft.row last s p (start_text round ++ (entry_text true p e ++ rest)) round number e rest stands may within free told.line replies left
      (ap (λ t. start_text round ++ (t ++ rest)) (row_text p e (no_close e.lane e.command may))
      ∙ ap (λ t. start_text round ++ t) (append_assoc (entry_line p e) (10 ∷ []) rest))
  one whole last round number p s e es rest stands replies good told (Turn.close batch outcome sealed is goes) left =
      let at = same_last last round number batch (subst (λ o. StandsIn last o round number) sealed stands) in
      let told_close : IsTold p (close_of batch outcome) = subst (IsTold p) is told in
      let good_close : IsGoodClose settings roads s (Close batch.number outcome) Closed = subst (λ (x : Entry). IsGoodClose settings roads s x.command x.reply)
      is good in
      let same : good_close.0 ≡ batch = ap (λ o. unwrap_or o batch) (sym good_close.1 ∙ sealed) in
      IsLeft.close last s p (start_text round ++ (entry_text true p e ++ rest)) batch outcome rest sealed told_close.line told_close.block
      (subst (λ b. IsGoodOutcome settings roads b outcome) same good_close.2)
      (subst (λ l. Left l (next s (Close batch.number outcome)) (one_more p) rest) (sym at.0)
      (subst (λ (x : Entry). Left (Some number) (next s x.command) (one_more p) rest) is left))
      ((λ i. at.1 i ++ (entry_text true p (is i) ++ rest)) ∙ close_text p batch outcome rest)

  entries_first : (p : ℕ) (e : Entry) (es : List Entry) (tail : List ℕ) → lines_text (entries_lines true p (e ∷ es)) ++ tail ≡
      entry_text true p e ++ (lines_text (entries_lines true (one_more p) es) ++ tail)
  unfolding entries_lines
  entries_first p e es tail =
      ap (λ t. t ++ tail) (lines-append ((entry_line p e ∷ []) ++ entry_block true e.command e.reply) (entries_lines true (one_more p) es))
      ∙ append_assoc (entry_text true p e) (lines_text (entries_lines true (one_more p) es)) tail

  no_entries_left : (p : ℕ) (tail : List ℕ) → lines_text (entries_lines true p []) ++ tail ≡ tail
  unfolding entries_lines lines_text
  no_entries_left p tail = refl

  -- the entries of a round, and what is left behind them
  pub entries_left : (whole : Bool) (last round : Option ℕ) (number p : ℕ) (s : State) (e : Entry) (es : List Entry) (tail : List ℕ) →
      StandsIn last s.sealed round number → p < 2 ^ 64
      → ((lane : ℕ) → Goes whole (owed s.sealed lane) (of_lane lane (e ∷ es)))
      → RepliesAreSteps roads.nodes settings.wait s (e ∷ es) → ClosesAreGood settings roads s (e ∷ es) → AreTold p (e ∷ es)
      → ((whole ≡ true → (state_after roads.nodes settings.wait s (e ∷ es)).sealed ≡ None)
      → Left (Some number) (state_after roads.nodes settings.wait s (e ∷ es)) (next_position p (e ∷ es)) tail)
      → Left last s p (start_text round ++ (lines_text (entries_lines true p (e ∷ es)) ++ tail))
  unfolding RepliesAreSteps ClosesAreGood state_after
  entries_left whole last round number p s e [] tail stands low goes replies good told final =
      let now = turn whole s e [] replies.0 goes in
      subst (λ t. Left last s p (start_text round ++ t)) (sym (entries_first p e [] tail))
      (one whole last round number p s e [] (lines_text (entries_lines true (one_more p) []) ++ tail) stands replies.0 good.0 told.0 now
      (subst (Left (Some number) (next s e.command) (one_more p)) (sym (no_entries_left (one_more p) tail))
      (final (closed_at_end whole (next s e.command).sealed (goes_on whole s e [] now 0)))))
  entries_left whole last round number p s e (f ∷ es) tail stands low goes replies good told final =
      let now = turn whole s e (f ∷ es) replies.0 goes in
      subst (λ t. Left last s p (start_text round ++ t)) (sym (entries_first p e (f ∷ es) tail))
      (one whole last round number p s e (f ∷ es) (lines_text (entries_lines true (one_more p) (f ∷ es)) ++ tail) stands replies.0 good.0 told.0 now
      (entries_left whole (Some number) None number (one_more p) (next s e.command) f es tail refl (omega arith) (goes_on whole s e (f ∷ es) now)
      replies.1 good.1 told.1
      (subst (λ q. (whole ≡ true → (state_after roads.nodes settings.wait (next s e.command) (f ∷ es)).sealed ≡ None)
      → Left (Some number) (state_after roads.nodes settings.wait (next s e.command) (f ∷ es)) q tail) (omega (arith, low)) final)))
