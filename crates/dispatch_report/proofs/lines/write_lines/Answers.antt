use Rattle.std.proofs.Common.{◌<◌, ◌++◌, ◌∷◌, [], map, take, length, ◌+◌, arith}
use Rattle.dispatch_report.proofs.LineLemmas.{no_lines, then, same_lines, map-next}
use Rattle.dispatch_report.proofs.lines.write_lines.Goals as goal

pub items-init : goal.items-init
items-init g c = no_lines _ _

pub items-preserved : goal.items-preserved
items-preserved g c =
    let text = g.L.Line.text c.args.kind.now in
    let items = c.args.items.now in
    let i = c.items.item-index in
    let x = c.item-item.result in
    let within : i < length items = omega arith in
    same_lines (map text (take i items) ++ text x ∷ []) (map text (take (i + 1) items)) (map-next text items i x within c.item-item.is)
    (then {ys = text x ∷ []} c.items.invariant c.write_item.ensures)
