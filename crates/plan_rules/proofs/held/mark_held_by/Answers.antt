use Rattle.std.proofs.Common.{◌≡◌, ◌==◌, ◌||◌, ℕ, ◌+◌, ◌<◌, false, true, List, length, Option, Some, None, get_or, slice_index, refl, sym, ap, ◌∙◌, arith}
use Rattle.plan_rules.proofs.Common.{list_any, false≢true, get_or_read, row_at, riders_at, choice_at, is_in, graph_of, TripRow}
use Rattle.plan_rules.proofs.lemmas.GraphLemmas.{row_between, row_read}
use Rattle.plan_rules.proofs.lemmas.HeldLemmas.{unmarked_apart, marked_held, holds_at, held_at}
use Rattle.plan_rules.proofs.lemmas.ServedLemmas.{served_more, served_kept}
use Rattle.plan_rules.proofs.held.mark_held_by.Goals as goal

pub returns-then-is_any_marked-clause-variant : goal.returns-then-is_any_marked-clause-variant
returns-then-is_any_marked-clause-variant c =
    let g = graph_of c.args.parts.now in
    let v = c.args.vehicle in
    let k = c.in-Some.row in
    let choice : choice_at g.held v ≡ Some k = sym (get_or_read g.held v c.index.result.now c.requires.held c.index.ensures None) ∙ c.in-Some.is in
    let own = row_between g v k (slice_index c.args.starts.now v) (slice_index c.args.starts.now (v + 1))
    (c.requires.starts.starts v (omega (arith, c.requires.vehicle))) (c.requires.starts.starts (v + 1) (omega (arith, c.requires.vehicle)))
    c.if-row-first.false c.if-end-row.false in
    let within : k < length g.rows = own.within in
    let read : c.index-in-Some.result.now ≡ row_at g k = row_read g g.rows k c.index-in-Some.result.now refl within c.index-in-Some.ensures in
    let riders : c.as_slice-riders.result.now ≡ riders_at g k = c.as_slice-riders.ensures.value ∙ ap (λ (r : TripRow). r.riders.items) read in
    let some : list_any (λ q. get_or c.args.marks.now q false) (riders_at g k) ≡ true = ap (list_any (λ q. get_or c.args.marks.now q false)) (sym riders) ∙
    sym c.is_any_marked.ensures ∙ c.if-is_any_marked.true in (
      λ e. absurd (false≢true e),
      λ h. absurd (marked_held g g.held v k c.args.marks.now c.requires.marked (c.requires.rows k within) some (held_at g v (Some k) choice h).1),
    )

pub returns-in-None-clause-marked : goal.returns-in-None-clause-marked
returns-in-None-clause-marked c = λ _.
    let g = graph_of c.args.parts.now in
    let choice : choice_at g.held c.args.vehicle ≡ None = sym (get_or_read g.held c.args.vehicle c.index.result.now c.requires.held c.index.ensures None) ∙
    c.in-None.is in
    served_kept g g.held c.args.vehicle c.args.marks.now c.requires.marked choice

pub returns-else-is_any_marked-clause-variant : goal.returns-else-is_any_marked-clause-variant
returns-else-is_any_marked-clause-variant c =
    let g = graph_of c.args.parts.now in
    let v = c.args.vehicle in
    let k = c.in-Some.row in
    let choice : choice_at g.held v ≡ Some k = sym (get_or_read g.held v c.index.result.now c.requires.held c.index.ensures None) ∙ c.in-Some.is in
    let own = row_between g v k (slice_index c.args.starts.now v) (slice_index c.args.starts.now (v + 1))
    (c.requires.starts.starts v (omega (arith, c.requires.vehicle))) (c.requires.starts.starts (v + 1) (omega (arith, c.requires.vehicle)))
    c.if-row-first.false c.if-end-row.false in
    let within : k < length g.rows = own.within in
    let read : c.index-in-Some.result.now ≡ row_at g k = row_read g g.rows k c.index-in-Some.result.now refl within c.index-in-Some.ensures in
    let riders : c.as_slice-riders.result.now ≡ riders_at g k = c.as_slice-riders.ensures.value ∙ ap (λ (r : TripRow). r.riders.items) read in
    let none : list_any (λ q. get_or c.args.marks.now q false) (riders_at g k) ≡ false = ap (list_any (λ q. get_or c.args.marks.now q false)) (sym riders) ∙
    sym c.is_any_marked.ensures ∙ c.if-is_any_marked.false in (
      λ _. holds_at g v (Some k) choice (own, unmarked_apart g g.held v k c.args.marks.now c.requires.marked (c.requires.rows k within) none),
      λ _. refl,
    )

pub returns-else-is_any_marked-clause-marked : goal.returns-else-is_any_marked-clause-marked
returns-else-is_any_marked-clause-marked c = λ _.
    let g = graph_of c.args.parts.now in
    let v = c.args.vehicle in
    let k = c.in-Some.row in
    let choice : choice_at g.held v ≡ Some k = sym (get_or_read g.held v c.index.result.now c.requires.held c.index.ensures None) ∙ c.in-Some.is in
    let own = row_between g v k (slice_index c.args.starts.now v) (slice_index c.args.starts.now (v + 1))
    (c.requires.starts.starts v (omega (arith, c.requires.vehicle))) (c.requires.starts.starts (v + 1) (omega (arith, c.requires.vehicle)))
    c.if-row-first.false c.if-end-row.false in
    let within : k < length g.rows = own.within in
    let read : c.index-in-Some.result.now ≡ row_at g k = row_read g g.rows k c.index-in-Some.result.now refl within c.index-in-Some.ensures in
    let riders : c.as_slice-riders.result.now ≡ riders_at g k = c.as_slice-riders.ensures.value ∙ ap (λ (r : TripRow). r.riders.items) read in
    served_more g g.held v c.args.marks.now c.mark_riders.new.marks c.requires.marked c.mark_riders.ensures.len
    (λ r l. c.mark_riders.ensures.marked r l
    ∙ ap (λ (xs : List ℕ). get_or c.args.marks.now r false || list_any (λ y. y == r) xs) riders
    ∙ ap (λ (o : Option ℕ). get_or c.args.marks.now r false || is_in g o r) (sym choice))
