use Rattle.std.proofs.Common.{List, ℕ, Err, ap, subst}
use Rattle.dispatch_report.proofs.Common.{Appends, err_from_is_err_and, AppendsPart}
use Rattle.dispatch_report.proofs.LineLemmas.{piece_failed, piece_written}
use Rattle.dispatch_report.proofs.lines.write_piece.Goals as goal

pub returns-in_err-write_all-clause-bytes : goal.returns-in_err-write_all-clause-bytes
returns-in_err-write_all-clause-bytes g c =
    let P : List ℕ → Type 0 = λ bytes. AppendsPart (g.K.Sink.written c.args.sink.now) (g.K.Sink.written c.write_all.new.sink) bytes in
    let e = c.in_err-write_all.ensures in
    let p = err_from_is_err_and c.from_residual.result c.from_residual.ensures.1 in
    rw p.1
    (piece_failed _ _ c.args.piece.now.items _ c.in_err-write_all.field-0.0 p.0 p.2 (subst P c.as_slice.ensures.value e.part)
    (λ is. e.fault (ap Err is)) e.never_falls)

pub returns-clause-bytes : goal.returns-clause-bytes
returns-clause-bytes g c =
    let P : List ℕ → Type 0 = λ bytes. Appends (g.K.Sink.written c.args.sink.now) (g.K.Sink.written c.write_all.new.sink) bytes in
    piece_written _ _ c.args.piece.now.items _ (subst P c.as_slice.ensures.value c.in_ok-write_all.ensures.whole) c.clear.ensures.items
    c.in_ok-write_all.ensures.never_falls
