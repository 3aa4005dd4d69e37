use Rattle.std.proofs.Common.{◌+◌, true, false, subst, arith}
use Rattle.input_rows.specs.live.Lines.{Streamed, bytes_to_come}
use Rattle.input_rows.specs.work.live.Pieces.{TakesPiece}
use Rattle.input_rows.proofs.live.PieceLemmas.{piece-ended, piece-inner}
use Rattle.input_rows.proofs.live.lines.LineStream.take_piece.Goals as goal

pub returns-then-self-clause-piece : goal.returns-then-self-clause-piece
returns-then-self-clause-piece g c =
    let s = c.self.inside in
    let left = g.S.Source.left s.source in
    let end = c.line_end-end.result in
    subst (λ (was : Streamed). TakesPiece was.to_come (bytes_to_come left s.buffer (s.at + end) s.filled) c.args.line.now.items c.add_front.new.line.items
    false) c.self.view_is
    (piece-inner left s.buffer s.at s.filled end c.args.line.now.items c.add_front.new.line.items c.if-self.true (omega (arith, s.inside))
    c.line_end-end.ensures.before c.in_ok-add_front.ensures.added)

pub returns-clause-piece : goal.returns-clause-piece
returns-clause-piece g c =
    let s = c.self.inside in
    let left = g.S.Source.left s.source in
    let end = c.line_end-end.result in
    subst (λ (was : Streamed). TakesPiece was.to_come (bytes_to_come left s.buffer (s.at + end + 1) s.filled) c.args.line.now.items c.add_front.new.line.items
    true) c.self.view_is
    (piece-ended left s.buffer s.at s.filled end c.args.line.now.items c.add_front.new.line.items (omega arith) (omega (arith, s.inside))
    c.line_end-end.ensures.before (c.line_end-end.ensures.at (omega arith)) c.in_ok-add_front.ensures.added)
