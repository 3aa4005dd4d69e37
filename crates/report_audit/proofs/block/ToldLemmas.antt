-- A block that can be told is that of the outcome as which it is judged.
use Rattle.std.proofs.Common.{◌≡◌, ℕ, true, List, ◌++◌, length, map, sym, ap, ◌∙◌}
use Rattle.report_audit.proofs.Common.{
  Batch,
  BlockLine,
  CanBeTold,
  IsBlock,
  Outcome,
  Point,
  block_line_text,
  block_lines,
  judged_outcome,
  length-map,
  lines_of,
  lines_text,
  told_by,
}
use Rattle.report_audit.proofs.block.NumberedLemmas.{vehicle_ids}
use Rattle.report_audit.proofs.block.OutcomeLemmas.{lines_are}

module _ (batch : Batch) (text : List ℕ) (lines : List BlockLine) (rest : List ℕ) (block : IsBlock text lines rest)
    (number : (told_by lines).batch ≡ batch.number)
    (can : (q : Point) → CanBeTold q (told_by lines)) (outcome : Outcome) (is : outcome ≡ judged_outcome (vehicle_ids batch) (told_by lines)) where
  printed_is : lines ≡ lines_of true batch.number outcome
  printed_is =
      lines_are (vehicle_ids batch) lines block.begins.order block.ended can ∙ (λ i. lines_of true (number i) (sym is i))

  pub told_text : text ≡ lines_text (block_lines true batch.number outcome) ++ rest
  told_text = block.begins.whole ∙ ap (λ (ls : List BlockLine). lines_text (map block_line_text ls) ++ rest) printed_is

  pub told_count : length lines ≡ length (block_lines true batch.number outcome)
  told_count = ap length printed_is ∙ sym (length-map (lines_of true batch.number outcome) block_line_text)
