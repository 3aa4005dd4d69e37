-- The names that the proofs of this crate cite from elsewhere, passed on from one place. Declares nothing.
pub use Rattle.std.proofs.Math.Seq.{take-append-add}
pub use Rattle.std.proofs.lemmas.List.{drop_all, map-append, take-append-le}
pub use Rattle.std.proofs.lemmas.Result.{IfOk-equal, err_from_is_err_and}
pub use Rattle.std.specs.Io.KnownBytes.{Appends}
pub use Rattle.dispatch_report.specs.Block.{stop_text}
unfoldable pub use Rattle.dispatch_report.specs.Day.{day_end_text}
pub use Rattle.dispatch_report.specs.Entry.{entry_line}
unfoldable pub use Rattle.dispatch_report.specs.Head.{head_text}
unfoldable pub use Rattle.dispatch_report.specs.Round.{end_text, entries_lines, round_text}
pub use Rattle.dispatch_report.specs.Round.{entry_block}
unfoldable pub use Rattle.dispatch_report.specs.Summary.{load_text, summary_text}
pub use Rattle.dispatch_report.specs.Summary.{batch_lines}
pub use Rattle.dispatch_report.specs.Words.{numbered, signed, spaced}
pub use Rattle.pool_io.specs.Views.{Change, SinkView, sink_seen}
pub use Rattle.dispatch_report.specs.Written.{WritesText}
pub use Rattle.dispatch_report.specs.work.Lines.{IsSame, WritesBytes, WritesLines}
pub use Rattle.pool_io.specs.Faults.{Rose, one_more}
pub use Rattle.pool_io.specs.Sink.{AppendsPart}
pub use Rattle.request_book.specs.declared.values.command.Command.{Command}
pub use Rattle.request_book.specs.declared.values.command.Command.TheVariants.{Close}
pub use Rattle.request_book.specs.declared.values.journal.Entry.{Entry}
pub use Rattle.request_book.specs.declared.values.outcome.Outcome.{Outcome}
pub use Rattle.request_book.specs.declared.values.reply.Reply.{Reply}
pub use Rattle.request_book.specs.declared.values.reply.Reply.TheVariants.{Closed}
