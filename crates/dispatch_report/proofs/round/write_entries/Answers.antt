use Rattle.std.proofs.Common.{◌<◌, ◌≤◌, ◌++◌, [], drop, length, suc, refl, sym, ap, ◌∙◌, append_assoc, append-nil, add-one, arith}
use Rattle.dispatch_report.proofs.Common.{entries_lines, one_more}
use Rattle.dispatch_report.proofs.EntryLemmas.{entry_lines, entries_lines-at, entries_lines-end}
use Rattle.dispatch_report.proofs.LineLemmas.{no_lines, then, same_lines}
use Rattle.dispatch_report.proofs.round.write_entries.Goals as goal

pub loop-entry-init : goal.loop-entry-init
loop-entry-init g c = ([], no_lines _ _, refl)

pub loop-entry-preserved : goal.loop-entry-preserved
loop-entry-preserved g c =
    let entries = c.args.entries.now in
    let i = c.loop-entry.entry-index in
    let within : i < length entries = omega arith in
    let done = c.loop-entry.invariant in
    let lines = entry_lines c.args.proof c.loop-entry.position c.entry-item.result in
    let rest = entries_lines c.args.proof (one_more c.loop-entry.position) (drop (suc i) entries) in
    let whole = append_assoc done.0 lines rest ∙ ap (λ ls. done.0 ++ ls) (entries_lines-at c.args.proof c.loop-entry.position entries i c.entry-item.result
    within c.entry-item.is) ∙ done.2 in
    (done.0 ++ lines, then done.1 c.write_entry.ensures, rw (add-one, c.saturating_add-position.ensures) whole)

pub returns : goal.returns
returns g c =
    let done = c.loop-entry.invariant in
    let past : length c.args.entries.now ≤ c.loop-entry.entry-index = omega arith in
    same_lines done.0 (entries_lines c.args.proof c.args.first c.args.entries.now)
    (sym (append-nil done.0) ∙ ap (λ ls. done.0 ++ ls)
    (sym (entries_lines-end c.args.proof c.loop-entry.position c.args.entries.now c.loop-entry.entry-index past)) ∙ done.2)
    done.1
