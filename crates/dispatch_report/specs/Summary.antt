-- The texts of a made workload's run: its shape, and one line for each batch.
use Rattle.std.specs.Prelude.{ℕ, List, [], ◌∷◌, ◌++◌, codes, length, count_by, sum_by}
use Rattle.std.specs.List.{flat_map, list_any}
use Rattle.dispatch_report.specs.Lines.{lines_text}
use Rattle.dispatch_report.specs.Words.{numbered, signed}
use Rattle.request_book.specs.declared.values.command.Command.{Command}
use Rattle.request_book.specs.declared.values.command.Command.TheVariants.{Close}
use Rattle.request_book.specs.declared.values.journal.Journal.{Journal}
use Rattle.request_book.specs.declared.values.outcome.Answer.{Answer}
use Rattle.request_book.specs.declared.values.outcome.Answer.TheVariants.{Overflow, Planned as Plan}
use Rattle.request_book.specs.declared.values.reply.Reply.{Reply}
use Rattle.request_book.specs.declared.values.reply.Reply.TheVariants.{Closed}
use Rattle.rider_limits.specs.declared.load_shape.LoadShape.{LoadShape}

-- the shape of a made workload: its seed, the square network, the vehicles, the requests of a batch, and the batches
unfoldable pub load_text : LoadShape → List ℕ
load_text shape =
    lines_text (((numbered (codes "load seed=") shape.seed ++ numbered (codes " side=") shape.side)
    ++ (numbered (codes " vehicles=") shape.vehicles ++ numbered (codes " riders=") shape.riders ++ numbered (codes " rounds=") shape.rounds)) ∷ [])

-- what came of a batch: who is served and who is left out, how many trips there could be and how many pick a rider up,
-- what the plan costs, and what no lawful plan costs less than
abbrev pub answer_text : Answer → List ℕ
answer_text Overflow = codes " overflow"
answer_text (Plan plan) =
    (numbered (codes " served ") (sum_by (λ trip. count_by (λ stop. stop.pick) trip.stops.items) plan.chosen) ++ numbered (codes " out ") (length plan.left))
    ++ (numbered (codes " rows ") (length plan.rows) ++ numbered (codes " trips ") (count_by (λ trip. list_any (λ stop. stop.pick) trip.stops.items) plan.chosen))
    ++ (numbered (codes " cost ") plan.cost ++ signed (codes " bound ") plan.bound)

-- the line of a close that was answered `closed`; no other entry has one
abbrev pub batch_lines : Command → Reply → List (List ℕ)
batch_lines (Close batch outcome) Closed = (numbered (codes "batch ") batch ++ answer_text outcome.answer) ∷ []
batch_lines _ _ = []

-- what a round adds
unfoldable pub summary_text : Journal → List ℕ
summary_text journal = lines_text (flat_map (λ e. batch_lines e.command e.reply) journal.entries)
