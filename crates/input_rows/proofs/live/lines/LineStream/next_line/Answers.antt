use Rattle.std.proofs.Common.{arith}
use Rattle.input_rows.proofs.live.PieceLemmas.{taken-ended, taken-kept, taken-last, taken-more}
use Rattle.input_rows.proofs.live.lines.LineStream.next_line.Goals as goal

pub returns-then-not-branch-clause-line : goal.returns-then-not-branch-clause-line
returns-then-not-branch-clause-line g c =
    taken-last _ _ _ (taken-kept _ _ _ _ c.pieces.invariant.0 c.in_ok-has_more.ensures.kept) (c.in_ok-has_more.ensures.ended c.if-not-branch.true)

pub returns-then-branch-clause-line : goal.returns-then-branch-clause-line
returns-then-branch-clause-line g c =
    taken-ended _ _ _ _ _ (taken-kept _ _ _ _ c.pieces.invariant.0 c.in_ok-has_more.ensures.kept) (rw c.if-branch.true at c.in_ok-take_piece.ensures.piece)

pub pieces-preserved : goal.pieces-preserved
pieces-preserved g c = (
  taken-more _ _ _ _ _ (taken-kept _ _ _ _ c.pieces.invariant.0 c.in_ok-has_more.ensures.kept) (rw c.if-branch.false at c.in_ok-take_piece.ensures.piece),
  c.in_ok-take_piece.ensures.short,
  omega (arith, c.pieces.invariant.2, c.in_ok-has_more.ensures.never_falls, c.take_piece.ensures.faults),
)
