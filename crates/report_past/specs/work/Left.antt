-- What is left of a run where a reading stands.
use Rattle.std.specs.Prelude.{◌≡◌, ◌⊎◌, ℕ, ◌<◌, ◌^◌, Bool, true, false, List, [], ◌∷◌, ◌++◌, Option, None, Some, IfSome}
use Rattle.std.specs.List.{All}
use Rattle.dispatch_engine.specs.lanes.Lane.{IsCloseOf}
use Rattle.dispatch_engine.specs.lanes.Locked.{sealed_by}
use Rattle.dispatch_engine.specs.outcome.Outcome.{IsGoodOutcome}
use Rattle.dispatch_report.specs.Block.{block_lines}
use Rattle.dispatch_report.specs.Entry.{entry_line}
use Rattle.dispatch_report.specs.Lines.{lines_text}
use Rattle.input_rows.specs.script.Round.{MayStand}
use Rattle.pool_io.specs.Faults.{one_more}
use Rattle.report_audit.specs.block.Fits.{FitsTypes}
use Rattle.report_audit.specs.declared.lines.next.NextLine.{NextLine}
use Rattle.report_audit.specs.declared.lines.next.NextLine.TheVariants.{Entry as EntryOf}
use Rattle.report_audit.specs.lines.Cut.{is_one_line}
use Rattle.report_audit.specs.lines.Next.{IsEntry, IsNextLine}
use Rattle.report_past.specs.Past.{dropped_text}
use Rattle.report_past.specs.Told.{close_of}
use Rattle.report_past.specs.Whole.{after_lines}
use Rattle.report_past.specs.work.Reading.{Stand, StandsIn, start_text}
use Rattle.request_book.specs.Book.{next_position}
use Rattle.request_book.specs.register.Step.{step}
use Rattle.request_book.specs.values.Batch.{Batch}
use Rattle.request_book.specs.declared.values.command.Command.TheVariants.{Close}
use Rattle.request_book.specs.declared.values.journal.Entry.{Entry}
use Rattle.request_book.specs.declared.values.outcome.Outcome.{Outcome}
use Rattle.request_book.specs.declared.values.state.State.{State}
use Rattle.rider_limits.specs.declared.settings.Settings.{Settings}
use Rattle.road_network.specs.Roads.{Roads}

-- the entries of a lane go on, where a batch of this number, if any, is to be closed first: a whole lane owes no close at
-- its end
abbrev pub Goes : Bool → Option ℕ → List Entry → Type 0
Goes whole None [] = Unit {0}
Goes whole (Some batch) [] = whole ≡ false
Goes whole None (e ∷ es) = MayStand e.lane e.command × (e.lane < 16) × Goes whole (sealed_by e.reply) es
Goes whole (Some batch) (e ∷ es) = IsCloseOf batch e.command × Goes whole None es

module _ (settings : Settings) (roads : Roads) where
  -- this text is left of a run where the last row had this round, the book has this state, and this is the position of the
  -- next entry: what is dropped; or a row, or the close of the batch that is open, and what follows
  pub data IsLeft : Option ℕ → State → ℕ → List ℕ → Type 0 where
    drops : (last : Option ℕ) (s : State) (p : ℕ) (text : List ℕ) (round entries : Option ℕ)
        → IfSome round (λ n. n < 2 ^ 32) → IfSome entries (λ n. n < 2 ^ 64) → text ≡ dropped_text round entries → IsLeft last s p text
    row : (last : Option ℕ) (s : State) (p : ℕ) (text : List ℕ) (round : Option ℕ) (number : ℕ) (e : Entry) (rest : List ℕ)
        → StandsIn last s.sealed round number → MayStand e.lane e.command → e.lane < 16 → (e.lane ≡ 0 → s.sealed ≡ None)
        → IsEntry p e → e.reply ≡ (step roads.nodes settings.wait s e.command).1
        → IsLeft (Some number) (step roads.nodes settings.wait s e.command).0 (one_more p) rest
        → text ≡ start_text round ++ (entry_line p e ++ 10 ∷ rest) → IsLeft last s p text
    close : (last : Option ℕ) (s : State) (p : ℕ) (text : List ℕ) (batch : Batch) (outcome : Outcome) (rest : List ℕ)
        → s.sealed ≡ Some batch → IsEntry p (close_of batch outcome) → FitsTypes batch.number outcome → IsGoodOutcome settings roads batch outcome
        → IsLeft last (step roads.nodes settings.wait s (Close batch.number outcome)).0 (one_more p) rest
        → text ≡ entry_line p (close_of batch outcome) ++ 10 ∷ (lines_text (block_lines true batch.number outcome) ++ rest) → IsLeft last s p text

-- the text is whole lines, behind which no block is open; before them one is, or none
pub record EndsWhole (text : List ℕ) : Type 0 where
  pub inside : Bool
  pub lines : List (List ℕ)
  pub ones : All (λ line. is_one_line line ≡ true) lines
  pub printed : text ≡ lines_text lines
  pub closed : after_lines inside lines ≡ false

-- no run leaves a text that begins with this one
abbrev pub IsLeftNowhere : List ℕ → Type 0
IsLeftNowhere text =
    (settings : Settings) (roads : Roads) (last : Option ℕ) (s : State) (p : ℕ) (more : List ℕ) → EndsWhole text → IsLeft settings roads last s p (text ++ more) → ⊥

-- the text has no line feed, or its first line is none that stands between blocks
abbrev pub HasNoNextLine : List ℕ → Type 0
HasNoNextLine text = (is_one_line text ≡ true) ⊎ ((line : List ℕ) × (after : List ℕ) × (text ≡ line ++ 10 ∷ after) × (is_one_line line ≡ true) × ((x : NextLine) → IsNextLine x line → ⊥))

-- the line is that of an entry of this lane, behind the line of a round or not
abbrev pub IsItem : Option ℕ → ℕ → List ℕ → Type 0
IsItem round lane line = IfSome round (λ n. n < 2 ^ 32) × IsNextLine (EntryOf lane) line

module _ (settings : Settings) (roads : Roads) where
  -- the text is left of a run where a reading stands
  abbrev pub IsLeftAt : Stand → List ℕ → Type 0
  IsLeftAt s text = IsLeft settings roads s.last s.book.state (next_position s.book.first s.book.entries) text

  -- whatever a run leaves that begins with the text, where the reading stood: from this rest on it is left where the reading
  -- stands now
  abbrev pub StaysLeft : Stand → List ℕ → Stand → List ℕ → Type 0
  StaysLeft old text new rest = (more : List ℕ) → EndsWhole text → IsLeftAt old (text ++ more) → IsLeftAt new (rest ++ more) × EndsWhole rest

  -- no run leaves a text that begins with this one where the reading stands
  abbrev pub IsNotLeft : Stand → List ℕ → Type 0
  IsNotLeft s text = (more : List ℕ) → EndsWhole text → IsLeftAt s (text ++ more) → ⊥
