use Rattle.std.proofs.Common.{◌≡◌, false, sym, ◌∙◌, arith}
use Rattle.std.proofs.lemmas.List.Elements.{All-more}
use Rattle.input_rows.specs.live.Lines.{ends_line}
use Rattle.input_rows.proofs.live.lines.line_end.Goals as goal

pub loop-place-preserved : goal.loop-place-preserved
loop-place-preserved c = All-more (λ byte. ends_line byte ≡ false) c.args.bytes.now c.loop-place.place 0 (omega arith) c.loop-place.invariant
    (sym c.ends_line.ensures ∙ c.if-ends_line.false)
