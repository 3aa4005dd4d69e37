-- Two ends of the same text are equal.
use Rattle.std.proofs.Common.{
  ◌≡◌,
  ◌≢◌,
  ◌⊎◌,
  ◌==◌,
  ℕ,
  ◌<◌,
  ◌≤◌,
  ◌^◌,
  ⊎_elim,
  Bool,
  true,
  false,
  cond,
  List,
  [],
  ◌∷◌,
  ◌++◌,
  codes,
  Option,
  None,
  Some,
  inl,
  inr,
  refl,
  sym,
  ap,
  ◌∙◌,
  subst,
  append-nil,
  append_assoc,
  arith,
  rules,
}
use Rattle.report_audit.proofs.Common.{
  Batch,
  BeginsWithGood,
  batch_of,
  by-table,
  close,
  plain-quiet,
  sealed_state,
  seal_refusal,
  seal_step,
  table_step,
  Seal,
  Sealed,
  ClosesAreGood,
  IsCloseOf,
  IsGoodClose,
  IsLaneRun,
  IsLaneRunFrom,
  of_lane,
  entry_line,
  lines_text,
  entry_block,
  numbered,
  one_more,
  Extent,
  AreAtEnd,
  BeginsRound,
  IsInForm,
  MayComeNext,
  MayFollow,
  position_behind,
  state_behind,
  AreTold,
  HasFittingBlock,
  entries_text,
  is_one_line,
  IsEntry,
  IsFirstLine,
  next_position,
  RepliesAreSteps,
  state_after,
  step,
  Command,
  Close,
  Entry,
  Journal,
  Outcome,
  Reply,
  Closed,
  State,
  Settings,
  Roads,
  NumberedLanes,
  lane_at,
  sealed_by,
}
use Rattle.report_audit.proofs.lemmas.lines.OneBlock.{cut_once, numbered_one_line}
use Rattle.report_audit.proofs.lemmas.lines.NextLemmas.{one_kind}
use Rattle.std.specs.List.{All}
use Rattle.std.proofs.lemmas.Bool.Decides.{nat_tests}
use Rattle.std.proofs.lemmas.List.Elements.{All-head, All-tail}
use Rattle.request_book.specs.values.Kept.{IsKept}
use Rattle.report_audit.proofs.lemmas.block.AuditLemmas.{good_is_judged, good_not_refused}
use Rattle.dispatch_report.specs.Block.{lines_of}
use Rattle.report_audit.specs.lines.BlockLines.{IsBlock}
use Rattle.report_audit.proofs.lemmas.lines.LineLemmas.{first_once}
use Rattle.report_audit.proofs.lemmas.lines.OutcomeLemmas.{outcome_block}
use Rattle.report_audit.specs.declared.lines.next.NextLine.TheVariants.{Round as RoundOf, Done as DoneOf, Entry as EntryOf}
use Rattle.request_book.specs.Consistent.{IsConsistent}
use Rattle.request_book.proofs.lemmas.register.BatchLemmas.{batch-kept}
use Rattle.request_book.proofs.lemmas.ConsistentLemmas.{answer-keeps, close-keeps, step-consistent}
use Rattle.report_audit.proofs.report.CauseLemmas.{Cause, Over, Wrong, Block, Ends, Stands, stands_end, one_cause}
use Rattle.report_audit.proofs.report.JournalLemmas.{not_closed}
use Rattle.report_audit.proofs.report.LaneLemmas.{own-lane}
use Rattle.report_audit.proofs.report.TextLemmas.{entries-more, entries-none, entry_one, lines-none, next-low, next-more, next-none}
use Rattle.report_audit.specs.declared.block.refusal.BlockRefusal.TheVariants as refusal

-- the batch that stands sealed is one of a consistent book's
pub record IsSound (s : State) : Type 0 where
  pub consistent : IsConsistent s
  pub kept : (b : Batch) → s.sealed ≡ Some b → IsKept b

abbrev Keeps : State → Type 0
Keeps s = (b : Batch) → s.sealed ≡ Some b → IsKept b

-- closes of a batch are answered alike, and where they are refused they leave the same state
record AreAnsweredAlike (nodes : List ℕ) (wait : ℕ) (s : State) (c d : Command) : Type 0 where
  reply : (step nodes wait s c).1 ≡ (step nodes wait s d).1
  state : ((step nodes wait s c).1 ≡ Closed → ⊥) → (step nodes wait s c).0 ≡ (step nodes wait s d).0

own_rest : (xs : List Entry) (e : Entry) (rest : List Entry) → of_lane e.lane (xs ++ e ∷ []) ++ rest ≡ of_lane e.lane xs ++ (e ∷ rest)
own_rest xs e rest = ap (λ (zs : List Entry). zs ++ rest) (own-lane xs e []) ∙ append_assoc (of_lane e.lane xs) (e ∷ []) rest

-- what a lane still has to do: a batch that it closes first, and its commands
abbrev IsRunOf : Option ℕ × List Command → List Entry → Type 0
IsRunOf left es = IsLaneRunFrom left.0 left.1 es

abbrev left_after : Option ℕ × List Command → Reply → Option ℕ × List Command
left_after (None, []) reply = (None, [])
left_after (None, c ∷ cs) reply = (sealed_by reply, cs)
left_after (Some batch, cs) reply = (None, cs)

-- the same of all lanes behind an entry's reply
abbrev todo_after : (ℕ → Option ℕ × List Command) → ℕ → Reply → ℕ → Option ℕ × List Command
todo_after todo lane reply k = cond (lane == k) (left_after (todo k) reply) (todo k)

run_on : (left : Option ℕ × List Command) (e : Entry) (xs more : List Entry) (own : Bool) → IsRunOf left (cond own (e ∷ xs) xs ++ more)
    → IsRunOf (cond own (left_after left e.reply) left) (xs ++ more) × ((rest : List Entry) → IsRunOf (cond own (left_after left e.reply) left) (xs ++ rest) →
    IsRunOf left (cond own (e ∷ xs) xs ++ rest))
run_on left e xs more false run = (run, λ rest on. on)
run_on (None, []) e xs more true run = absurd run
run_on (None, c ∷ cs) e xs more true run = (run.1, λ rest on. (run.0, on))
run_on (Some batch, cs) e xs more true run = (run.1, λ rest on. (run.0, on))

-- a run at its end goes on with nothing
no_next : (left : Option ℕ × List Command) (e : Entry) (es : List Entry) → IsRunOf left [] → IsRunOf left (e ∷ es) → ⊥
no_next (None, []) e es a b = b
no_next _ e es a b = a

module _ (nodes : List ℕ) (wait : ℕ) where
  kept_behind : (s : State) (command : Command) → IsSound s → Keeps (step nodes wait s command).0
  unfolding table_step seal_step sealed_state
  kept_behind s (Seal now) sound =
      by-table (λ p. Keeps p.0) nodes wait s (Seal now)
      (answer-keeps Keeps s (seal_refusal s now) (Sealed (one_more s.batches)) (sealed_state wait s now) sound.kept
      (λ none b is. let same : batch_of wait s now ≡ b = cc in subst IsKept same (batch-kept wait now s sound.consistent)))
  kept_behind s (Close batch outcome) sound = by-table (λ p. Keeps p.0) nodes wait s (Close batch outcome)
      (close-keeps Keeps s batch outcome.answer sound.kept (λ b is c none. absurd cc))
  kept_behind s command sound = λ b is. sound.kept b (sym (plain-quiet nodes wait s command tt).sealed ∙ is)

  close_number : (s : State) (n : ℕ) (o : Outcome) (b : Batch) → s.sealed ≡ Some b → (step nodes wait s (Close n o)).1 ≡ Closed → n ≡ b.number
  unfolding step close
  close_number s n o b is closed = grind (arith, nat_tests)

  closes_alike : (s : State) (n : ℕ) (c d : Command) → IsCloseOf n c → IsCloseOf n d → AreAnsweredAlike nodes wait s c d
  unfolding step close
  closes_alike s n (Close m o) (Close k p) is has = record { reply = grind (arith, nat_tests); state = λ unclosed. grind (arith, nat_tests) }
  closes_alike s n _ _ is has = search rules

  -- what a lane does next is the same, or a close of the same batch
  next_alike : (s : State) (left : Option ℕ × List Command) (e f : Entry) (r t : List Entry) → IsRunOf left (e ∷ r) → IsRunOf left (f ∷ t) →
      AreAnsweredAlike nodes wait s e.command f.command
  next_alike s (None, []) e f r t a b = absurd a
  next_alike s (None, c ∷ cs) e f r t a b = subst (AreAnsweredAlike nodes wait s e.command) (a.0 ∙ sym b.0) (record { reply = refl; state = λ unclosed. refl })
  next_alike s (Some n, cs) e f r t a b = closes_alike s n e.command f.command a.0 b.0

module _ (settings : Settings) (roads : Roads) (round : NumberedLanes) where
  -- the entry may come at this state and position, where the lanes have so much to do
  record MayComeAt (s : State) (p : ℕ) (todo : ℕ → Option ℕ × List Command) (e : Entry) : Type 0 where
    line : IsEntry p e
    reply : e.reply ≡ (step roads.nodes settings.wait s e.command).1
    next : (more : List Entry) × IsRunOf (todo e.lane) (e ∷ more)

  -- it comes, and this follows it
  record HasNext (s : State) (p : ℕ) (todo : ℕ → Option ℕ × List Command) (text : List ℕ) (e : Entry) (behind : List ℕ) : Type 0 where
    comes : MayComeAt s p todo e
    fits : HasFittingBlock e.command e.reply
    good : IsGoodClose settings roads s e.command e.reply
    printed : text ≡ entry_line p e ++ 10 ∷ (lines_text (entry_block true e.command e.reply) ++ behind)

  -- of a round's journal these entries are left, from a state and a position on, where the lanes have so much to do
  record IsPart (j : Journal) (rest : List ℕ) (s : State) (p : ℕ) (todo : ℕ → Option ℕ × List Command) (es : List Entry) (text : List ℕ) : Type 0 where
    begins : BeginsRound settings roads round j
    low : p < 2 ^ 64
    state : state_after roads.nodes settings.wait s es ≡ state_behind settings roads j
    position : next_position p es ≡ position_behind j
    replies : RepliesAreSteps roads.nodes settings.wait s es
    closes : ClosesAreGood settings roads s es
    told : AreTold p es
    there : (lane : ℕ) (more : List Entry) → IsLaneRun (lane_at round lane) (of_lane lane j.entries ++ more) → IsRunOf (todo lane) (of_lane lane es ++ more)
    back : (lane : ℕ) (more : List Entry) → IsRunOf (todo lane) (of_lane lane es ++ more) → IsLaneRun (lane_at round lane) (of_lane lane j.entries ++ more)
    printed : text ≡ entries_text p es ++ rest

  module _ (j : Journal) (rest : List ℕ) (s : State) (p : ℕ) (todo : ℕ → Option ℕ × List Command) (text : List ℕ) where
    part_more : (e : Entry) (es : List Entry) → IsPart j rest s p todo (e ∷ es) text
        → IsPart j rest (step roads.nodes settings.wait s e.command).0 (one_more p) (todo_after todo e.lane e.reply) es (entries_text (one_more p) es ++ rest)
    unfolding state_after RepliesAreSteps ClosesAreGood
    part_more e es part =
        let turn = λ (lane : ℕ) (more : List Entry) (run : IsLaneRun (lane_at round lane) (of_lane lane j.entries ++ more)). run_on (todo lane) e
        (of_lane lane es) more (e.lane == lane) (part.there lane more run) in
        let back = λ (lane : ℕ) (more : List Entry) (run : IsRunOf (todo_after todo e.lane e.reply lane) (of_lane lane es ++ more)). part.back lane more
        ((turn lane (part.begins.lanes lane).0 (part.begins.lanes lane).1).1 more run) in
        search (rules, next-more, turn, back)

    part_next : (e : Entry) (es : List Entry) → IsPart j rest s p todo (e ∷ es) text → HasNext s p todo text e (entries_text (one_more p) es ++ rest)
    unfolding RepliesAreSteps ClosesAreGood
    part_next e es part =
        let run = part.begins.lanes e.lane in
        let next : (more : List Entry) × IsRunOf (todo e.lane) (e ∷ more) = (
          of_lane e.lane es ++ run.0,
          subst
              (λ (x : List Entry). IsRunOf (todo e.lane) (x ++ run.0)) (own-lane [] e es) (part.there e.lane run.0 run.1),
        ) in
        search (rules, next, entries-more p e es, append_assoc)

    module _ (part : IsPart j rest s p todo [] text) where
      part_end : (s ≡ state_behind settings roads j) × (p ≡ position_behind j) × (text ≡ rest)
      unfolding state_after
      part_end = (part.state, sym (next-none p part.low) ∙ part.position, part.printed ∙ ap (λ (x : List ℕ). x ++ rest) (entries-none p))

      -- what may come next behind all entries
      comes_at : (e : Entry) → MayComeNext settings roads round j e → MayComeAt s p todo e
      comes_at e comes = search (rules, part_end, own_rest)

      comes_next : (e : Entry) → MayComeAt s p todo e → MayComeNext settings roads round j e
      comes_next e comes = search (rules, part_end, own_rest)

      at_end : AreAtEnd round j → (lane : ℕ) → IsRunOf (todo lane) []
      at_end end lane = part.there lane [] (subst (IsLaneRun (lane_at round lane)) (sym (append-nil (of_lane lane j.entries))) (end lane))

      end_at : ((lane : ℕ) → IsRunOf (todo lane) []) → AreAtEnd round j
      end_at end lane = subst (IsLaneRun (lane_at round lane)) (append-nil (of_lane lane j.entries)) (part.back lane [] (end lane))

  -- of two entries with the same line one is the other but for the outcome of a close
  same_line : (s : State) (p : ℕ) (todo : ℕ → Option ℕ × List Command) (e f : Entry) → MayComeAt s p todo e → MayComeAt s p todo f →
      entry_line p e ≡ entry_line p f
      → (e.lane ≡ f.lane) × AreAnsweredAlike roads.nodes settings.wait s e.command f.command × (e.reply ≡ f.reply)
  same_line s p todo e f one two line =
      let kind : EntryOf e.lane ≡ EntryOf f.lane = one_kind (EntryOf e.lane) (EntryOf f.lane) (entry_line p f) (p, e, one.line, refl, sym line)
      (p, f, two.line, refl, refl) in
      let lane : e.lane ≡ f.lane = cc in
      let alike = next_alike roads.nodes settings.wait s (todo e.lane) e f one.next.0 two.next.0 one.next.1
      (subst (λ (k : ℕ). IsRunOf (todo k) (f ∷ two.next.0)) (sym lane) two.next.1) in
      (lane, alike, one.reply ∙ alike.reply ∙ sym two.reply)

  -- behind the line of a close that was answered `closed` stands a good block of the batch that stands sealed
  abbrev HasGood : State → Command → List ℕ → List ℕ → Type 0
  HasGood s c text behind = (b : Batch) × (o : Outcome) × (s.sealed ≡ Some b) × (c ≡ Close b.number o) × BeginsWithGood settings roads b text o behind

  has_good : (s : State) (c : Command) (reply : Reply) (behind : List ℕ) → reply ≡ Closed → reply ≡ (step roads.nodes settings.wait s c).1 →
      HasFittingBlock c reply → IsGoodClose settings roads s c reply
      → HasGood s c (lines_text (entry_block true c reply) ++ behind) behind
  has_good s (Close n o) Closed behind closed is fits good =
      let number : n ≡ good.0.number = close_number roads.nodes settings.wait s n o good.0 good.1 (sym is) in
      (good.0, o, good.1, ap (λ (k : ℕ). Close k o) number, search rules)
  has_good s (Close n o) reply behind closed is fits good = absurd cc
  has_good s c reply behind closed is fits good = absurd (not_closed roads.nodes settings.wait s c tt (sym is ∙ closed))

  one_good : (b : Batch) → IsKept b → (text : List ℕ) (o p : Outcome) (r t : List ℕ) → BeginsWithGood settings roads b text o r →
      BeginsWithGood settings roads b text p t → (o ≡ p) × (r ≡ t)
  one_good b kept text o p r t one two =
      let printed : IsBlock text (lines_of true b.number o) r = subst (λ (x : List ℕ). IsBlock x (lines_of true b.number o) r) (sym one.whole)
      (outcome_block b.number o r one.fits.lines) in
      search (
        rules,
        good_is_judged settings roads b kept text (lines_of true b.number o) r printed o r one,
        good_is_judged settings roads b kept text
            (lines_of true b.number o) r printed p t two,
      )

  module _ (s : State) (p : ℕ) (todo : ℕ → Option ℕ × List Command) (sound : IsSound s) (text : List ℕ) (f : Entry) (t : List ℕ)
      (two : HasNext s p todo text f t) where
    block : List ℕ
    block = lines_text (entry_block true f.command f.reply) ++ t

    first : IsFirstLine text (entry_line p f) block
    unfolding block
    first = record { whole = two.printed; one = entry_one p f }

    next_good : f.reply ≡ Closed → HasGood s f.command block t
    unfolding block
    next_good closed = has_good s f.command f.reply t closed two.comes.reply two.fits two.good

    -- where an entry comes next, neither the text nor the round is at its end
    next_goes : (j : Journal) (rest : List ℕ) (cause : Cause) → cause ≢ Block refusal.OutOfMemory → IsPart j rest s p todo [] text →
        Ends cause settings roads (Extent.within round j) text ⊎ AreAtEnd round j → ⊥
    next_goes j rest cause known part (inr end) = no_next (todo f.lane) f two.comes.next.0 (at_end j rest s p todo text part end f.lane) two.comes.next.1
    next_goes j rest cause known part (inl ends) =
        let at = part_end j rest s p todo text part in
        let stands : Stands settings roads (Extent.within round j) text =
        record {
          line = entry_line p f;
          after = block;
          has = first;
          form = (EntryOf f.lane, (p, f, two.comes.line, refl, refl));
          follow =
              (f, comes_next j rest s p todo text part f two.comes, ap (λ (k : ℕ). entry_line k f) at.1);
        } in
        let end = stands_end settings roads (Extent.within round j) text stands cause ends in
        let wrong = end.2 in
        let line = first_once text wrong.line (entry_line p f) wrong.after block wrong.has first in
        let reply = (same_line s p todo wrong.closing f (comes_at j rest s p todo text part wrong.closing wrong.comes) two.comes
        (ap (λ (k : ℕ). entry_line k wrong.closing) at.1 ∙ sym wrong.line_is ∙ line.0)).2 in
        let g = next_good (sym reply ∙ wrong.closed) in
        search (rules, good_not_refused settings roads g.0 (sound.kept g.0 g.2) block g.1 t g.4 end.0, known, end, line, at, g)

    -- another that comes next is the same but for the outcome of a close that is refused
    next_once : (e : Entry) (r : List ℕ) → HasNext s p todo text e r
        → (e.lane ≡ f.lane) × (e.reply ≡ f.reply) × ((step roads.nodes settings.wait s e.command).0 ≡ (step roads.nodes settings.wait s f.command).0) × (r ≡ t)
    unfolding block
    next_once e r one =
        let line = first_once text (entry_line p e) (entry_line p f) (lines_text (entry_block true e.command e.reply) ++ r) block
        (record { whole = one.printed; one = entry_one p e }) first in
        let same = same_line s p todo e f one.comes two.comes line.0 in
        elim (is_closed e.reply) [
          | inl closed ↦
              let g = has_good s e.command e.reply r closed one.comes.reply one.fits one.good in
              let h = next_good (sym same.2 ∙ closed) in
              let batch : g.0 ≡ h.0 = search (rules, g.2, h.2) in
              let goods = one_good h.0 (sound.kept h.0 h.2) block g.1 h.1 r t (search (rules, line.1, g.4)) h.4 in
              (same.0, same.2, ap (λ (c : Command). (step roads.nodes settings.wait s c).0) (search (rules, g.3, h.3, goods.0)), goods.1)
          | inr unclosed ↦ (
            same.0,
            same.2,
            same.1.state (λ closed. unclosed (one.comes.reply ∙ closed)),
            no_block e.command e.reply unclosed r ∙ line.1 ∙
                sym (no_block f.command f.reply (λ closed. unclosed (same.2 ∙ closed)) t),
          )
        ]
      where
        is_closed : (reply : Reply) → (reply ≡ Closed) ⊎ (reply ≡ Closed → ⊥)
        is_closed Closed = inl refl
        is_closed _ = inr (λ e. cc)

        no_block : (c : Command) (reply : Reply) → (reply ≡ Closed → ⊥) → (x : List ℕ) → x ≡ lines_text (entry_block true c reply) ++ x
        no_block (Close n o) Closed unclosed x = absurd (unclosed refl)
        no_block _ _ unclosed x = ap (λ (ls : List ℕ). ls ++ x) (sym lines-none)

  -- journals of the same text: their closes that were refused may have other outcomes
  record AreAlike (j l : Journal) (r t : List ℕ) : Type 0 where
    state : state_behind settings roads j ≡ state_behind settings roads l
    position : position_behind j ≡ position_behind l
    rest : r ≡ t
    sound : IsSound (state_behind settings roads l)
    there : (e : Entry) → MayComeNext settings roads round j e → MayComeNext settings roads round l e
    back : (e : Entry) → MayComeNext settings roads round l e → MayComeNext settings roads round j e
    end_there : AreAtEnd round j → AreAtEnd round l
    end_back : AreAtEnd round l → AreAtEnd round j

  -- within a round a text ends, or the round does
  abbrev RoundEnds : Cause → Journal → List ℕ → Type 0
  RoundEnds cause j text = Ends cause settings roads (Extent.within round j) text ⊎ AreAtEnd round j

  module _ (j l : Journal) (r t : List ℕ) (one other : Cause) (known : one ≢ Block refusal.OutOfMemory) (also : other ≢ Block refusal.OutOfMemory)
      (stop : RoundEnds one j r) (halt : RoundEnds other l t) where
    -- a round has the same entries in the same text
    one_entries : (es fs : List Entry) (s : State) (p : ℕ) (todo : ℕ → Option ℕ × List Command) (text : List ℕ) → IsPart j r s p todo es text →
        IsPart l t s p todo fs text → IsSound s → AreAlike j l r t
    one_entries [] [] s p todo text a b sound =
        search (
          rules,
          part_end j r s p todo text a,
          part_end l t s p todo text b,
          comes_at j r s p todo text a,
          comes_at l t s p todo text b,
          comes_next j r s
              p todo text a,
          comes_next l t s p todo text b,
          at_end j r s p todo text a,
          at_end l t s p todo text b,
          end_at j r s p todo text a,
          end_at l t s p
              todo text b,
        )
    one_entries [] (f ∷ fs) s p todo text a b sound =
        absurd (next_goes s p todo sound text f (entries_text (one_more p) fs ++ t) (part_next l t s p todo text f fs b) j r one known a
        (subst (RoundEnds one j) (sym (part_end j r s p todo text a).2) stop))
    one_entries (e ∷ es) [] s p todo text a b sound =
        absurd (next_goes s p todo sound text e (entries_text (one_more p) es ++ r) (part_next j r s p todo text e es a) l t other also b
        (subst (RoundEnds other l) (sym (part_end l t s p todo text b).2) halt))
    one_entries (e ∷ es) (f ∷ fs) s p todo text a b sound =
        let same = next_once s p todo sound text f (entries_text (one_more p) fs ++ t) (part_next l t s p todo text f fs b) e
        (entries_text (one_more p) es ++ r) (part_next j r s p todo text e es a) in
        let after : State = (step roads.nodes settings.wait s f.command).0 in
        let mine = part_more j r s p todo text e es a in
        one_entries es fs after (one_more p) (todo_after todo f.lane f.reply) (entries_text (one_more p) fs ++ t)
        (subst (λ (X : Type 0). X) (λ i. IsPart j r (same.2 i) (one_more p) (todo_after todo (same.0 i) (same.1 i)) es (same.3 i)) mine)
        (part_more l t s p todo text f fs b) (record {
          consistent = step-consistent roads.nodes settings.wait s f.command sound.consistent;
          kept =
              kept_behind roads.nodes settings.wait s f.command sound;
        })

  ends_over : (j l : Journal) (r t : List ℕ) → AreAlike j l r t → (cause : Cause) (text : List ℕ) → Ends cause settings roads (Extent.within round j) text →
      Ends cause settings roads (Extent.within round l) text
  ends_over j l r t alike Over text ends = let at : Extent.within round j ≡ Extent.finished = ends.0 in absurd cc
  ends_over j l r t alike Wrong text ends = (
    ends.0,
    ends.1,
    ends.2,
    ends.3,
    λ follow. ends.4 (
      follow.0,
      alike.back follow.0 follow.1,
      follow.2 ∙
          ap (λ (k : ℕ). entry_line k follow.0) (sym alike.position),
    ),
  )
  ends_over j l r t alike (Block refused) text wrong = search (rules, alike.there)
  ends_over j l r t alike _ text ends = ends

-- the journal of a round from a state and a position on
abbrev pub journal_from : State → ℕ → List Entry → Journal
journal_from s p entries = record { first = p; base = s; entries = entries }

-- the line that comes next between rounds
abbrev pub line_between : List NumberedLanes → ℕ → List ℕ
line_between [] p = numbered (codes "done ") p
line_between (r ∷ rs) p = numbered (codes "round ") r.number

module _ (settings : Settings) (roads : Roads) (cause : Cause) (rest : List ℕ) where
  -- the text ends here, and this is what is left
  abbrev pub EndsHere : Extent → List ℕ → Type 0
  EndsHere place text = Ends cause settings roads place text × (text ≡ rest)

  -- between rounds the text ends, or it goes on with the next line, and this holds of what follows
  abbrev pub IsRestBetween : (List ℕ → Type 0) → List NumberedLanes → List NumberedLanes → ℕ → List ℕ → Type 0
  IsRestBetween Behind passed later p text = EndsHere (Extent.between passed later p) text ⊎
      ((after : List ℕ) × (text ≡ line_between later p ++ 10 ∷ after) × Behind after)

  -- behind its line the text goes on with a round from a state and a position on; it ends within, or this holds of what follows
  pub record IsRestOfRound (Behind : State → ℕ → List ℕ → Type 0) (round : NumberedLanes) (s : State) (p : ℕ) (text : List ℕ) : Type 0 where
    pub entries : List Entry
    pub behind : List ℕ
    pub begins : BeginsRound settings roads round (journal_from s p entries)
    pub printed : text ≡ entries_text p entries ++ behind
    pub ends : ((AreAtEnd round (journal_from s p entries) → ⊥) × EndsHere (Extent.within round (journal_from s p entries)) behind)
        ⊎ (AreAtEnd round (journal_from s p entries) × Behind (state_after roads.nodes settings.wait s entries) (next_position p entries) behind)

  -- what follows the next line behind rounds that passed, up to where the text ends
  abbrev pub IsRestBehind : List NumberedLanes → List NumberedLanes → State → ℕ → List ℕ → Type 0
  IsRestBehind passed [] s p text = EndsHere Extent.finished text
  IsRestBehind passed (r ∷ rs) s p text = IsRestOfRound (λ x n behind. IsRestBetween (IsRestBehind (passed ++ r ∷ []) rs x n) (passed ++ r ∷ []) rs n behind) r
      s p text

  -- between rounds that passed and these, from a state and a position on
  abbrev pub IsRestOf : List NumberedLanes → List NumberedLanes → State → ℕ → List ℕ → Type 0
  IsRestOf passed later s p text = IsRestBetween (IsRestBehind passed later s p) passed later p text

module _ (settings : Settings) (roads : Roads) where
  -- the next line between rounds may stand there
  line_stands : (passed later : List NumberedLanes) (p : ℕ) → All (λ r. r.number ≤ 1000000000) later → p < 2 ^ 64 →
      IsInForm (Extent.between passed later p) (line_between later p) × MayFollow settings roads (Extent.between passed later p) (line_between later p) ×
      (is_one_line (line_between later p) ≡ true)
  line_stands [] [] p numbers low = ((DoneOf p, (low, refl), λ lane e. cc), refl, numbered_one_line (codes "done ") p refl)
  line_stands (q ∷ qs) [] p numbers low = ((DoneOf p, (low, refl)), refl, numbered_one_line (codes "done ") p refl)
  line_stands [] (r ∷ rs) p numbers low = (
    (
      RoundOf r.number,
      (omega (arith, All-head (λ (x : NumberedLanes). x.number ≤ 1000000000) r rs numbers), refl),
      λ lane e. cc,
    ),
    refl,
    numbered_one_line (codes "round ") r.number refl,
  )
  line_stands (q ∷ qs) (r ∷ rs) p numbers low = (
    (RoundOf r.number, (omega (arith, All-head (λ (x : NumberedLanes). x.number ≤ 1000000000) r rs numbers), refl)),
    refl,
    numbered_one_line (codes "round ")
        r.number refl,
  )

  module _ (one other : Cause) (known : one ≢ Block refusal.OutOfMemory) (also : other ≢ Block refusal.OutOfMemory) (r t : List ℕ) where
    module _ (passed later : List NumberedLanes) (p : ℕ) (numbers : All (λ r. r.number ≤ 1000000000) later) (low : p < 2 ^ 64) (text : List ℕ) where
      -- between rounds a text that goes on doesn't end
      between_goes : (after : List ℕ) → text ≡ line_between later p ++ 10 ∷ after → (cause : Cause) →
          Ends cause settings roads (Extent.between passed later p) text → ⊥
      between_goes after whole cause ends =
          let line = line_stands passed later p numbers low in
          (stands_end settings roads (Extent.between passed later p) text
          (record { line = line_between later p; after = after; has = record { whole = whole; one = line.2 }; form = line.0; follow = line.1 }) cause
          ends).2

      pub one_between : (Behind Also : List ℕ → Type 0) → ((after : List ℕ) → Behind after → Also after → (one ≡ other) × (r ≡ t)) →
          IsRestBetween settings roads one r Behind passed later p text → IsRestBetween settings roads other t Also passed later p text →
          (one ≡ other) × (r ≡ t)
      one_between Behind Also again (inl a) (inl b) = (
        one_cause settings roads (Extent.between passed later p) text one other known also a.0 b.0,
        sym a.1 ∙
            b.1,
      )
      one_between Behind Also again (inl a) (inr b) = absurd (between_goes b.0 b.1 one a.0)
      one_between Behind Also again (inr a) (inl b) = absurd (between_goes a.0 a.1 other b.0)
      one_between Behind Also again (inr a) (inr b) =
          search (rules, again, cut_once (line_between later p) (line_between later p) a.0 b.0, line_stands passed later p numbers low)

    one_round : (round : NumberedLanes) (s : State) (p : ℕ) (text : List ℕ) → IsSound s → p < 2 ^ 64 → (Behind Also : State → ℕ → List ℕ → Type 0)
        → ((x : State) (n : ℕ) (behind : List ℕ) → IsSound x → n < 2 ^ 64 → Behind x n behind → Also x n behind → (one ≡ other) × (r ≡ t))
        → IsRestOfRound settings roads one r Behind round s p text → IsRestOfRound settings roads other t Also round s p text → (one ≡ other) × (r ≡ t)
    one_round round s p text sound low Behind Also again a b =
        let j = journal_from s p a.entries in
        let l = journal_from s p b.entries in
        let alike = one_entries settings roads round j l a.behind b.behind one other known also (⊎_elim (λ y. inl y.1.0) (λ y. inr y.0) a.ends)
        (⊎_elim (λ y. inl y.1.0) (λ y. inr y.0) b.ends) a.entries b.entries s p (λ lane. (None, lane_at round lane)) text (search rules) (search rules)
        sound in
        elim a.ends [
          | inl x ↦ elim b.ends [
            | inl y ↦ (
              one_cause settings roads (Extent.within round l) b.behind one other known also
                  (ends_over settings roads round j l a.behind b.behind alike one b.behind
                  (subst (λ (v : List ℕ). Ends one settings roads (Extent.within round j) v) alike.rest x.1.0)) y.1.0,
              sym x.1.1 ∙ alike.rest ∙ y.1.1,
            )
            | inr y ↦ absurd (x.0 (alike.end_back y.0))
          ]
          | inr x ↦ elim b.ends [
            | inl y ↦ absurd (y.0 (alike.end_there x.0))
            | inr y ↦
                again (state_behind settings roads l) (position_behind l) b.behind alike.sound (next-low p b.entries)
                (subst (λ (X : Type 0). X) (λ i. Behind (alike.state i) (alike.position i) (alike.rest i)) x.1) y.1
          ]
        ]

    -- a text ends once
    pub one_behind : (passed later : List NumberedLanes) (s : State) (p : ℕ) (text : List ℕ) → All (λ round. round.number ≤ 1000000000) later → IsSound s →
        p < 2 ^ 64
        → IsRestBehind settings roads one r passed later s p text → IsRestBehind settings roads other t passed later s p text → (one ≡ other) × (r ≡ t)
    one_behind passed [] s p text numbers sound low a b = (one_cause settings roads Extent.finished text one other known also a.0 b.0, sym a.1 ∙ b.1)
    one_behind passed (round ∷ rs) s p text numbers sound low a b =
        let on : List NumberedLanes = passed ++ round ∷ [] in
        let tail = All-tail (λ (q : NumberedLanes). q.number ≤ 1000000000) round rs numbers in
        one_round round s p text sound low (IsRestOf settings roads one r on rs) (IsRestOf settings roads other t on rs)
        (λ x n v is_sound few. one_between on rs n tail few v (IsRestBehind settings roads one r on rs x n) (IsRestBehind settings roads other t on rs x n)
        (λ after. one_behind on rs x n after tail is_sound few)) a b
