-- A text has one fault, and the report of a run none.
use Rattle.std.proofs.Common.{
  ◌≡◌,
  ◌≢◌,
  ℕ,
  ◌+◌,
  ◌-◌,
  ◌≤◌,
  ◌<◌,
  ◌^◌,
  min,
  true,
  codes,
  inl,
  inr,
  List,
  [],
  ◌∷◌,
  ◌++◌,
  length,
  refl,
  sym,
  ap,
  ◌∙◌,
  subst,
  append-nil,
  append_assoc,
  arith,
  rules,
  ◌⊎◌,
}
use Rattle.report_audit.proofs.Common.{
  IsGiven,
  AreAtEnd,
  entries_text,
  AuditFault,
  BeginsWithHead,
  BeginsRound,
  Extent,
  FailsAsLine,
  FailsAt,
  HasFault,
  HeadFails,
  HeadFault,
  IsLaneBeginning,
  IsRound,
  IsLaneRun,
  IsReportOfRun,
  IsRightUpTo,
  IsRun,
  Journal,
  JournalsAreTold,
  NumberedLanes,
  Roads,
  Settings,
  State,
  Vehicle,
  end_text,
  fault_of_head,
  lane_at,
  next_position,
  numbered,
  of_lane,
  opening,
  position_after_run,
  round_text,
  rounds_so_far,
  rounds_text,
  sizes_of,
  state_after,
  state_after_run,
  is_one_line,
}
use Rattle.report_audit.proofs.lemmas.lines.OneBlock.{cut_once}
unfoldable use Rattle.dispatch_report.specs.Head.{head_text}
unfoldable use Rattle.dispatch_report.specs.Lines.{lines_text}
use Rattle.std.proofs.lemmas.List.{append_cancel_left, append_cancel_right}
use Rattle.std.proofs.lemmas.List.Elements.{All-weaker}
use Rattle.std.specs.List.{All}
use Rattle.dispatch_report.specs.Head.{settings_line}
use Rattle.report_audit.specs.lines.HeadLines.{sizes_text}
use Rattle.report_audit.proofs.lemmas.lines.HeadLemmas.{settings_of_one}
use Rattle.report_audit.proofs.lemmas.lines.LineLemmas.{line_more}
use Rattle.report_audit.proofs.lemmas.lines.WholeHead.{lawful_short, no_head as fails_no_head, same_settings, settings_line_is, settings_one_line, told_lawful}
use Rattle.request_book.proofs.lemmas.BookLemmas.{opening-consistent}
use Rattle.report_audit.proofs.lines.HeadFaults.{head_fails_once}
use Rattle.report_audit.proofs.report.CauseLemmas.{Cause, Over, Cut, Form, Wrong, Block, Ends}
use Rattle.report_audit.proofs.report.OneEnd.{EndsHere, IsRestBehind, IsRestOf, IsSound, journal_from, one_behind, one_between}
use Rattle.report_audit.proofs.report.TextLemmas.{end-is, round-is}
use Rattle.report_audit.specs.report.Place.{HasRounds}
use Rattle.report_audit.specs.declared.report.fault.AuditFault.TheVariants as fault
use Rattle.report_audit.specs.declared.block.refusal.BlockRefusal.TheVariants as block
use Rattle.report_audit.specs.declared.lines.head_fault.HeadFault.TheVariants as head

module _ (settings : Settings) (roads : Roads) (cause : Cause) (rest : List ℕ) where
  -- a round and what goes on behind it, or the part of one behind which the text ends
  round_goes : (passed later : List NumberedLanes) (r : NumberedLanes) (s : State) (p : ℕ) (j : Journal) (behind : List ℕ) → j ≡ journal_from s p j.entries →
      BeginsRound settings roads r j
      → ((AreAtEnd r j → ⊥) × EndsHere settings roads cause rest (Extent.within r (journal_from s p j.entries)) behind)
      ⊎ (AreAtEnd r j × IsRestOf settings roads cause rest (passed ++ r ∷ []) later (state_after roads.nodes settings.wait s j.entries)
      (next_position p j.entries) behind)
      → IsRestOf settings roads cause rest passed (r ∷ later) s p (round_text r.number true j ++ behind)
  round_goes passed later r s p j behind same begins ends =
      let line = ap (λ (x : List ℕ). x ++ behind) (round-is r.number (journal_from s p j.entries)) ∙
      append_assoc (numbered (codes "round ") r.number) (10 ∷ entries_text p j.entries) behind in
      subst (λ (x : Journal). IsRestOf settings roads cause rest passed (r ∷ later) s p (round_text r.number true x ++ behind)) (sym same)
      (inr (
        entries_text p j.entries ++ behind,
        line,
        record {
          entries = j.entries;
          behind = behind;
          begins =
              subst (BeginsRound settings roads r) same begins;
          printed = refl;
          ends = ends;
        },
      ))

  -- rounds of a run, and what goes on behind them
  rounds_go : (passed rs later : List NumberedLanes) (made : List Journal) (s : State) (p : ℕ) (text : List ℕ) → IsRun settings roads s p rs made →
      JournalsAreTold made
      → IsRestOf settings roads cause rest (passed ++ rs) later (state_after_run settings roads s made) (position_after_run p made) text
      → IsRestOf settings roads cause rest passed (rs ++ later) s p (rounds_text rs made ++ text)
  rounds_go passed [] later [] s p text run told behind = subst (λ (before : List NumberedLanes). IsRestOf settings roads cause rest before later s p text)
      (append-nil passed) behind
  rounds_go passed (r ∷ rs) later (j ∷ js) s p text run told behind =
      let next = rounds_go (passed ++ r ∷ []) rs later js (state_after roads.nodes settings.wait s j.entries) (next_position p j.entries) text run.3 told.1
      (subst (λ (before : List NumberedLanes). IsRestOf settings roads cause rest before later (state_after_run settings roads s (j ∷ js))
      (position_after_run p (j ∷ js)) text) (sym (append_assoc passed (r ∷ []) rs)) behind) in
      let lanes : (lane : ℕ) → IsLaneBeginning (lane_at r lane) (of_lane lane j.entries) = λ lane.
      ([], subst (IsLaneRun (lane_at r lane)) (sym (append-nil (of_lane lane j.entries))) (run.2.lanes lane)) in
      subst (λ (x : List ℕ). IsRestOf settings roads cause rest passed (r ∷ (rs ++ later)) s p x)
      (sym (append_assoc (round_text r.number true j) (rounds_text rs js) text))
      (round_goes passed (rs ++ later) r s p j (rounds_text rs js ++ text) (λ i. record { first = run.1 i; base = run.0 i; entries = j.entries })
      (record { replies = run.2.replies; closes = run.2.closes; lanes = lanes; told = told.0 }) (inr (run.2.lanes, next)))
  rounds_go passed _ later _ s p text run told behind = absurd run

  module _ (vehicles : List Vehicle) (rounds : List NumberedLanes) where
    -- the head, rounds of a run, and what follows
    rounds_behind : (before later : List NumberedLanes) (made : List Journal) (own read : List ℕ) → rounds ≡ before ++ later →
        HasRounds settings roads vehicles before made → read ≡ rounds_so_far settings roads vehicles before made ++ own
        → IsRestOf settings roads cause rest before later (state_after_run settings roads (opening vehicles) made) (position_after_run 0 made) (own ++ rest)
        → (behind : List ℕ) × (read ++ rest ≡ head_text settings roads (length vehicles) ++ behind) × IsRestOf settings roads cause rest [] rounds
        (opening vehicles) 0 behind
    rounds_behind before later made own read all has printed tail =
        search (rules, append_assoc, rounds_go [] before later made (opening vehicles) 0 (own ++ rest) has.run has.told tail)

    -- what is right up to a place where it ends goes on behind the head up to there
    right_goes : (place : Extent) (read : List ℕ) → Ends cause settings roads place rest → IsRightUpTo settings roads vehicles rounds place read
        → (behind : List ℕ) × (read ++ rest ≡ head_text settings roads (length vehicles) ++ behind) × IsRestOf settings roads cause rest [] rounds
        (opening vehicles) 0 behind
    right_goes (Extent.between before later p) read ends right =
        rounds_behind before later right.made [] read right.all right.rounds_made (right.printed ∙
        sym (append-nil (rounds_so_far settings roads vehicles before right.made)))
        (inl (subst (λ (k : ℕ). Ends cause settings roads (Extent.between before later k) rest) right.position_is ends, refl))
    right_goes (Extent.within round j) read ends right =
        let s : State = state_after_run settings roads (opening vehicles) right.made in
        let p : ℕ = position_after_run 0 right.made in
        let same : j ≡ journal_from s p j.entries = λ i. record { first = right.first_is i; base = right.base_is i; entries = j.entries } in
        rounds_behind right.before (round ∷ right.later) right.made (round_text round.number true j) read right.all right.rounds_made right.printed
        (round_goes right.before right.later round s p j rest same right.begins
        (inl (right.going, (subst (λ (x : Journal). Ends cause settings roads (Extent.within round x) rest) same ends, refl))))
    right_goes Extent.finished read ends right =
        let p : ℕ = position_after_run 0 right.made in
        rounds_behind rounds [] right.made (end_text p) read (sym (append-nil rounds)) right.rounds_made right.printed
        (inr (rest, ap (λ (x : List ℕ). x ++ rest) (end-is p) ∙ append_assoc (numbered (codes "done ") p) (10 ∷ []) rest, (ends, refl)))

-- a text has one head
module _ (workers : ℕ) (roads : Roads) (vehicles : ℕ) (text : List ℕ) where
  -- what follows the line of the settings
  sizes_lines : List ℕ
  sizes_lines = lines_text (sizes_text (sizes_of roads) ∷ numbered (codes "fleet vehicles=") vehicles ∷ [])

  head_is : (s : Settings) (rest : List ℕ) → head_text s roads vehicles ++ rest ≡ codes "ridepool report 1" ++ 10 ∷
      (settings_line s ++ 10 ∷ (sizes_lines ++ rest))
  unfolding head_text lines_text sizes_lines
  head_is s rest = line_more (codes "ridepool report 1") _ rest ∙ ap (λ (x : List ℕ). codes "ridepool report 1" ++ 10 ∷ x) (line_more (settings_line s) _ rest)

  one_head : (s t : Settings) (r q : List ℕ) → BeginsWithHead workers roads vehicles text s r → BeginsWithHead workers roads vehicles text t q →
      (s ≡ t) × (r ≡ q)
  one_head s t r q a b =
      let one = settings_line_is s a.settings.proof in
      let other = settings_line_is t b.settings.proof in
      let name = cut_once (codes "ridepool report 1") (codes "ridepool report 1") (settings_line s ++ 10 ∷ (sizes_lines ++ r))
      (settings_line t ++ 10 ∷ (sizes_lines ++ q)) refl refl (sym (a.whole ∙ head_is s r) ∙ b.whole ∙ head_is t q) in
      let line = cut_once (settings_line s) (settings_line t) (sizes_lines ++ r) (sizes_lines ++ q) (ap is_one_line one ∙ settings_one_line _)
      (ap is_one_line other ∙ settings_one_line _) name.1 in
      let told = settings_of_one _ _ (lawful_short _ (told_lawful s)) (lawful_short _ (told_lawful t)) (sym one ∙ line.0 ∙ other) in
      (same_settings workers s t a.settings b.settings told, append_cancel_left sizes_lines r q line.1)

-- the fault of an end in this line
abbrev fault_by : Cause → ℕ → AuditFault
fault_by Over n = fault.OutOfMemory
fault_by Cut n = fault.Cut n
fault_by Form n = fault.Form n
fault_by Wrong n = fault.Entry n
fault_by (Block block.OutOfMemory) n = fault.OutOfMemory
fault_by (Block (block.Cut k)) n = fault.Cut (min (n + 1 + k) (2 ^ 64 - 1))
fault_by (Block (block.Form k)) n = fault.Form (min (n + 1 + k) (2 ^ 64 - 1))
fault_by (Block (block.Wrong point)) n = fault.Batch (min (n + 1 + 0) (2 ^ 64 - 1)) point

module _ (roads : Roads) (vehicles : List Vehicle) (rounds : List NumberedLanes) (workers : ℕ) (text : List ℕ) (given : IsGiven roads vehicles rounds) where
  -- behind its head a text ends in this line
  abbrev EndsAt : Cause → ℕ → Type 0
  EndsAt cause line = FailsAt roads vehicles rounds workers text (Ends cause) line

  few : length vehicles < 2 ^ 64
  few = (let n = given.fleet.count in omega (arith, n))

  numbers : All (λ r. r.number ≤ 1000000000) rounds
  numbers = All-weaker IsRound (λ (r : NumberedLanes). r.number ≤ 1000000000) (λ r is. is.named) rounds given.kept

  -- the text has a head, behind which it goes on to where it ends
  abbrev GoesTo : Settings → Cause → List ℕ → Type 0
  GoesTo settings cause rest = (behind : List ℕ) × BeginsWithHead workers roads (length vehicles) text settings behind × IsRestOf settings roads cause rest []
      rounds (opening vehicles) 0 behind

  goes_to : (cause : Cause) (line : ℕ) → (at : EndsAt cause line) → GoesTo at.settings cause at.rest
  goes_to cause line at = search (rules, right_goes at.settings roads cause at.rest vehicles rounds at.place at.read at.fails at.right)

  report_goes : (report : IsReportOfRun roads vehicles rounds workers text) → GoesTo report.settings Over []
  report_goes report =
      let p : ℕ = position_after_run 0 report.made in
      let goes = rounds_go report.settings roads Over [] [] rounds [] report.made (opening vehicles) 0 (end_text p) report.run report.told
      (inr ([], end-is p, ((refl, refl), refl))) in
      search (rules, goes, append-nil)

  one_way : (s t : Settings) (one other : Cause) → one ≢ Block block.OutOfMemory → other ≢ Block block.OutOfMemory → (r q : List ℕ) → GoesTo s one r →
      GoesTo t other q → (one ≡ other) × (r ≡ q)
  one_way s t one other known also r q a b =
      let heads = one_head workers roads (length vehicles) text s t a.0 b.0 a.1 b.1 in
      let sound : IsSound (opening vehicles) = record { consistent = opening-consistent roads.nodes vehicles given.fleet; kept = λ c none. absurd cc } in
      one_between t roads one other known also r q [] rounds 0 numbers (omega arith) b.0 (IsRestBehind t roads one r [] rounds (opening vehicles) 0)
      (IsRestBehind t roads other q [] rounds (opening vehicles) 0)
      (λ after. one_behind t roads one other known also r q [] rounds (opening vehicles) 0 after numbers sound (omega arith)) (search (rules, heads)) b.2

  -- a fault is one of the head, or an end behind it
  data Found (found : AuditFault) : Type 0 where
    in_head : (failing : HeadFault) → HeadFails roads (length vehicles) text failing → found ≡ fault_of_head failing → Found found
    behind : (cause : Cause) (line : ℕ) → cause ≢ Block block.OutOfMemory → EndsAt cause line → found ≡ fault_by cause line → Found found

  find : (found : AuditFault) → found ≢ fault.OutOfMemory → HasFault roads vehicles rounds workers text found → Found found
  find fault.OutOfMemory some has = absurd (some refl)
  find (fault.Head n) some has = Found.in_head (head.Head n) has refl
  find (fault.Entry n) some has = Found.behind Wrong n (λ e. cc) has refl
  find (fault.Batch n point) some has = Found.behind (Block (block.Wrong point)) has.closing (λ e. cc) has.fails
      (ap (λ (k : ℕ). fault.Batch k point) has.line_is)
  find (fault.Cut n) some (FailsAsLine.in_head has) = Found.in_head (head.Cut n) has refl
  find (fault.Cut n) some (FailsAsLine.behind has) = Found.behind Cut n (λ e. cc) has refl
  find (fault.Cut n) some (FailsAsLine.in_block lines has) = Found.behind (Block (block.Cut lines)) has.closing (λ e. cc) has.fails (ap fault.Cut has.line_is)
  find (fault.Form n) some (FailsAsLine.in_head has) = Found.in_head (head.Form n) has refl
  find (fault.Form n) some (FailsAsLine.behind has) = Found.behind Form n (λ e. cc) has refl
  find (fault.Form n) some (FailsAsLine.in_block lines has) = Found.behind (Block (block.Form lines)) has.closing (λ e. cc) has.fails
      (ap fault.Form has.line_is)

  -- no line of the head fails where something follows the head
  no_head : (failing : HeadFault) → HeadFails roads (length vehicles) text failing → (settings : Settings) (cause : Cause) (rest : List ℕ) →
      GoesTo settings cause rest → ⊥
  no_head failing fails settings cause rest goes = fails_no_head workers roads (length vehicles) text given.sizes few failing fails settings goes.0 goes.1

  -- a text has one fault
  pub one_fault : (one other : AuditFault) → one ≢ fault.OutOfMemory → other ≢ fault.OutOfMemory
      → HasFault roads vehicles rounds workers text one → HasFault roads vehicles rounds workers text other → other ≡ one
  one_fault one other some more a b = by (find one some a) (find other more b)
    where
      by : Found one → Found other → other ≡ one
      by (Found.in_head f fails is) (Found.in_head g also has) = has ∙ ap fault_of_head (head_fails_once roads (length vehicles) given.sizes few text g f also
          fails) ∙ sym is
      by (Found.in_head f fails is) (Found.behind cause line known at has) = absurd (no_head f fails at.settings cause at.rest (goes_to cause line at))
      by (Found.behind cause line known at is) (Found.in_head g also has) = absurd (no_head g also at.settings cause at.rest (goes_to cause line at))
      by (Found.behind cause line known at is) (Found.behind end there also stop has) =
          let same = one_way stop.settings at.settings end cause also known stop.rest at.rest (goes_to end there stop) (goes_to cause line at) in
          search (rules, append_cancel_right stop.read at.read at.rest, same)

  -- the report of a run has none
  pub no_fault : IsReportOfRun roads vehicles rounds workers text → (one : AuditFault) → one ≢ fault.OutOfMemory →
      HasFault roads vehicles rounds workers text one → ⊥
  no_fault report one some has = by (find one some has)
    where
      by : Found one → ⊥
      by (Found.in_head f fails is) = no_head f fails report.settings Over [] (report_goes report)
      by (Found.behind cause line known at is) =
          some (is ∙ ap (λ (end : Cause). fault_by end line) (one_way at.settings report.settings cause Over known (λ e. cc) at.rest [] (goes_to cause line at)
          (report_goes report)).0)
