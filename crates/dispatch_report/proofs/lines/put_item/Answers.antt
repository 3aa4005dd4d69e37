use Rattle.std.proofs.Common.{◌++◌, ◌∷◌, []}
use Rattle.dispatch_report.proofs.Common.{err_from_is_err_and}
use Rattle.dispatch_report.proofs.LineLemmas.{added_goes, added_waits, line_put, nothing_written}
use Rattle.dispatch_report.proofs.lines.put_item.Goals as goal

pub returns-in_err-put : goal.returns-in_err-put
returns-in_err-put g c =
    let p = err_from_is_err_and c.from_residual.result c.from_residual.ensures.1 in rw p.1 (nothing_written _ _ _ _ p.0 p.2)

pub returns-in_err-put_bytes : goal.returns-in_err-put_bytes
returns-in_err-put_bytes g c =
    let p = err_from_is_err_and c.from_residual-in_err-put_bytes.result c.from_residual-in_err-put_bytes.ensures.1 in rw p.1 (nothing_written _ _ _ _ p.0 p.2)

pub returns-then-len-lt-FULL : goal.returns-then-len-lt-FULL
returns-then-len-lt-FULL g c =
    let old = c.args.piece.now.items in
    let text = g.L.Line.text c.args.kind.now c.args.item.now in
    added_waits _ old _ (text ++ 10 ∷ []) (line_put old _ _ text c.in_ok-put.ensures c.in_ok-put_bytes.ensures.ok)

pub returns : goal.returns
returns g c =
    let old = c.args.piece.now.items in
    let text = g.L.Line.text c.args.kind.now c.args.item.now in
    added_goes old _ (text ++ 10 ∷ []) (line_put old _ _ text c.in_ok-put.ensures c.in_ok-put_bytes.ensures.ok) c.write_piece.ensures.bytes
