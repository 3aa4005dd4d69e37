use Rattle.std.proofs.Common.{◌≡◌, ◌==◌, ◌||◌, ℕ, List, false, Option, Some, get_or, sym, ap, ◌∙◌, subst, MatchOption}
use Rattle.dispatch_engine.proofs.Common.{list_any, row_at, riders_at, choice_at, is_in, HasNoRow, IsRowOf, TripRow, row_read}
use Rattle.plan_rules.proofs.lemmas.ServedLemmas.{served_more, served_kept}
use Rattle.dispatch_engine.proofs.outcome.left.mark_choice.Goals as goal

pub returns-in-Some : goal.returns-in-Some
returns-in-Some c =
    let g = c.args.graph.now in
    let v = c.args.vehicle in
    let k = c.in-Some.row in
    let old = c.args.marks.now in
    let choice : choice_at c.args.chosen.now v ≡ Some k = c.in-Some.is in
    let own : IsRowOf g v k = subst (λ (o : Option ℕ). MatchOption o (HasNoRow g v) (IsRowOf g v)) choice (c.requires.plan.own v c.requires.vehicle) in
    let read : c.index-rows-row.result ≡ row_at g k = row_read g c.rows.result.now k c.index-rows-row.result c.rows.ensures.value own.within
    c.index-rows-row.is in
    let riders : c.as_slice.result.now ≡ riders_at g k = c.as_slice.ensures.value ∙ ap (λ (r : TripRow). r.riders.items) (sym c.index-rows-row.is ∙ read) in
    served_more g c.args.chosen.now v old c.mark_riders.new.marks c.requires.marked c.mark_riders.ensures.len
    (λ r l. c.mark_riders.ensures.marked r l
    ∙ ap (λ (xs : List ℕ). get_or old r false || list_any (λ y. y == r) xs) riders
    ∙ ap (λ (o : Option ℕ). get_or old r false || is_in g o r) (sym choice))

pub returns-in_default : goal.returns-in_default
returns-in_default c = served_kept c.args.graph.now c.args.chosen.now c.args.vehicle c.args.marks.now c.requires.marked c.in_default.is
