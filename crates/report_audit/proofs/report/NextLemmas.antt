-- What comes next within a round.
use Rattle.std.proofs.Common.{◌≡◌, ℕ, ◌<◌, true, List, [], ◌∷◌, ◌++◌, length, set, refl, sym, ap, ◌∙◌, subst, append-nil, append_assoc, arith, rules}
use Rattle.report_audit.proofs.Common.{
  of_lane,
  IsCloseOf,
  IsLaneBeginning,
  journal_of,
  entry_line,
  lines_text,
  entry_block,
  IsNextLine,
  LaneProgress,
  progress_at,
  progress_after,
  HaveCome,
  IsNext,
  come_more,
  one_more,
  BookView,
  IsApplied,
  IsBook,
  state_after,
  step,
  Command,
  Close,
  Entry,
  Journal,
  Outcome,
  Reply,
  applied-book,
  Settings,
  Roads,
  NumberedLanes,
  lane_at,
  IsFirstLine,
  MayComeNext,
  position_behind,
  state_behind,
  with_entry,
  entries_text,
  IsBookOf,
}
use Rattle.report_audit.proofs.lemmas.lines.NextLemmas.{one_kind}
use Rattle.report_audit.specs.declared.lines.next.NextLine.TheVariants.{Entry as EntryOf}
use Rattle.report_audit.proofs.report.LaneLemmas.{begins_next, come_begins}
use Rattle.report_audit.proofs.report.TextLemmas.{entries-more, entries-none}

-- a book's state is the one behind its journal
module _ (settings : Settings) (roads : Roads) (b : BookView) (of : IsBookOf settings roads b) where
  pub book_state : b.state ≡ state_behind settings roads (journal_of b)
  book_state = of.kept.state ∙ (λ i. state_after (of.nodes i) (of.wait i) b.base b.entries)

  pub book_step : (c : Command) → step b.nodes b.wait b.state c ≡ step roads.nodes settings.wait (state_behind settings roads (journal_of b)) c
  book_step c = λ i. step (of.nodes i) (of.wait i) (book_state i) c

-- a book with one more entry
module _ (old new : BookView) (lane : ℕ) (command : Command) (reply : Reply) (applied : IsApplied old lane command reply new) where
  pub journal_applied : journal_of new ≡ with_entry (journal_of old) (record { lane = lane; command = command; reply = reply })
  journal_applied = λ i. record { first = applied.first i; base = applied.base i; entries = applied.entries i }

  pub book_applied : IsBook old → IsBook new
  book_applied kept = subst IsBook (sym same) (applied-book old lane command reply new.state new.spare kept applied.stepped)
    where
      same : new ≡ record {
        nodes = old.nodes;
        wait = old.wait;
        first = old.first;
        base = old.base;
        entries =
            old.entries ++ (record { lane = lane; command = command; reply = reply }) ∷ [];
        state = new.state;
        spare = new.spare;
      }
      same = λ i. record {
        nodes = applied.nodes i;
        wait = applied.wait i;
        first = applied.first i;
        base = applied.base i;
        entries = applied.entries i;
        state =
            new.state;
        spare = new.spare;
      }

  pub book_of_applied : (settings : Settings) (roads : Roads) → IsBookOf settings roads old → IsBookOf settings roads new
  book_of_applied settings roads of = record {
    nodes = applied.nodes ∙ of.nodes;
    wait = applied.wait ∙ of.wait;
    kept = book_applied of.kept;
    low =
        (let first = applied.first in let low = of.low in omega arith);
  }

-- an entry by its parts
pub entry_by : (e : Entry) (lane : ℕ) (command : Command) (reply : Reply) → e.lane ≡ lane → e.command ≡ command → e.reply ≡ reply →
    e ≡ record { lane = lane; command = command; reply = reply }
entry_by e lane command reply a b c = λ i. record { lane = a i; command = b i; reply = c i }

-- an entry that may come next and whose line is in form as one of a lane
module _ (settings : Settings) (roads : Roads) (round : NumberedLanes) (j : Journal) (lanes : List LaneProgress) (come : HaveCome round lanes j.entries) where
  pub candidate_lane : (e : Entry) (lane : ℕ) (line : List ℕ) → MayComeNext settings roads round j e → line ≡ entry_line (position_behind j) e →
      IsNextLine (EntryOf lane) line → e.lane ≡ lane
  candidate_lane e lane line comes is form =
      let same : EntryOf e.lane ≡ EntryOf lane = one_kind (EntryOf e.lane) (EntryOf lane) line (position_behind j, e, comes.line, refl, is) form in
      cc

  pub candidate_next : (e : Entry) (lane : ℕ) (line : List ℕ) → MayComeNext settings roads round j e → line ≡ entry_line (position_behind j) e →
      IsNextLine (EntryOf lane) line
      → IsNext (lane_at round lane) (progress_at lanes lane) e.command
  candidate_next e lane line comes is form =
      subst (λ (k : ℕ). IsNext (lane_at round k) (progress_at lanes k) e.command) (candidate_lane e lane line comes is form)
      (begins_next round lanes j.entries e come comes.next)

  -- with its next command each lane goes on
  pub next_begins : (e : Entry) → e.lane < length lanes → IsNext (lane_at round e.lane) (progress_at lanes e.lane) e.command
      → IsLaneBeginning (lane_at round e.lane) (of_lane e.lane (j.entries ++ e ∷ []))
  next_begins e low next =
      come_begins round (set lanes e.lane (progress_after (progress_at lanes e.lane) e.reply)) (j.entries ++ e ∷ [])
      (come_more round lanes j.entries e low come next) e.lane

-- the text of one entry
pub read_one : (p : ℕ) (e : Entry) (text line after rest : List ℕ) → IsFirstLine text line after → line ≡ entry_line p e →
    after ≡ lines_text (entry_block true e.command e.reply) ++ rest
    → text ≡ entries_text p (e ∷ []) ++ rest
read_one p e text line after rest has is behind = search (
  rules,
  lines_text,
  entry_block,
  entry_line,
  append_assoc,
  append-nil,
  entries-none,
  one_more,
  entries-more,
)

-- which command closes a batch
pub close_of : (batch : ℕ) (c : Command) → IsCloseOf batch c → (o : Outcome) × (c ≡ Close batch o)
close_of batch (Close closed o) is = (o, ap (λ (n : ℕ). Close n o) is)
close_of batch _ is = absurd is
