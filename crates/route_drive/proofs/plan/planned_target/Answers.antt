use Rattle.std.proofs.Common.{◌≡◌, ◌<◌, true, List, length, get_or, Some, sym, ap, ◌∙◌, subst, arith, ◌==◌, find, option_and_then, option_map}
use Rattle.route_drive.proofs.Common.{MoveLine, BookRider}
use Rattle.route_drive.proofs.EnterLemmas.{find_hit}
use Rattle.route_drive.proofs.plan.planned_target.Goals as goal

pub returns-then-eq : goal.returns-then-eq
returns-then-eq c =
    let p = λ (m : MoveLine). m.vehicle == c.args.vehicle in
    let items = c.as_slice-line-items.result.now in
    let i = c.loop-line.line-index in
    let line = c.line-item.result in
    let within : c.loop-line.line-index < length c.as_slice-line-items.result.now = omega arith in
    let hit : (c.line-item.result.vehicle == c.args.vehicle) ≡ true = sym c.eq.ensures ∙ c.if-eq.true in
    let there : p (get_or items i line) ≡ true = subst (λ (m : MoveLine). (m.vehicle == c.args.vehicle) ≡ true) c.line-item.is hit in
    let found : find p items ≡ Some line = c.loop-line.invariant ∙ find_hit p items i line within there ∙ ap (λ (m : MoveLine). Some m) (sym c.line-item.is) in
    let planned : find p c.args.planned.now.moves ≡ Some line = subst (λ (ms : List MoveLine). find p ms ≡ Some line) c.as_slice-line-items.ensures found in
    c.origin_of.ensures ∙ sym (ap (option_and_then (λ (m : MoveLine). option_map (λ (r : BookRider). r.origin)
    (find (λ (r : BookRider). r.id == m.rider) c.args.riders.now))) planned)
