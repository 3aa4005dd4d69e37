-- The names that the proofs of this crate cite from elsewhere, passed on from one place. Declares nothing.
pub use Rattle.std.proofs.KnownBytes.{Appends-trans, Consumes-kept, Consumes-trans}
pub use Rattle.std.proofs.lemmas.Bool.{cases_Bool, false≢true}
pub use Rattle.std.proofs.lemmas.Bool.Decides.{nat_tests}
pub use Rattle.std.proofs.lemmas.List.{drop-append-le, drop-take, length-map, nil_from_length, take-append-le, take_more, take_rest}
pub use Rattle.std.proofs.lemmas.Option.{none-some}
pub use Rattle.std.proofs.lemmas.Slice.Eq.{bytes_eq-Decides, slice_eq-Decides}
pub use Rattle.std.specs.Io.KnownBytes.{Appends, Consumes}
pub use Rattle.std.specs.List.{position_from}
unfoldable pub use Rattle.csv.specs.Reading.{Reached, records_from}
pub use Rattle.csv.specs.Reading.{ReadRecord, default_config, strip_bom}
pub use Rattle.csv.specs.Records.{field_at, fields_of}
pub use Rattle.csv.specs.declared.reader.Reader.{Reader}
pub use Rattle.pool_io.specs.Table.{Table, table_of}
pub use Rattle.pool_io.specs.declared.records.RowFault.TheVariants.{OutOfMemory, UnequalLength}
pub use Rattle.pool_io.specs.lemmas.Records.{even_rows, header_fields, is_record, records_of}
pub use Rattle.pool_io.specs.work.Cutting.{AreEnds, cut_fields, cut_rows, start_at}
pub use Rattle.pool_io.specs.work.Progress.{HasRead}
