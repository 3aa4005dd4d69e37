use Rattle.std.proofs.Common.{◌≡◌, ◌==◌, ◌||◌, ◌+◌, ◌<◌, ℕ, true, false, List, length, get_or, Option, Some, sym, ap, ◌∙◌, subst, arith}
use Rattle.plan_rules.proofs.Common.{list_any, false≢true, row_at, riders_at, choice_at, is_in, MarksServed, TripRow}
use Rattle.plan_rules.proofs.lemmas.GraphLemmas.{row_read}
use Rattle.plan_rules.proofs.lemmas.PlanLemmas.{plan_rows}
use Rattle.plan_rules.proofs.lemmas.ServedLemmas.{once_at_first, served_more, served_kept, once_kept, once_apart, served_twice}
use Rattle.plan_rules.proofs.rules.serves_once.Goals.{in-Some+else-is_any_marked, in_default}
use Rattle.plan_rules.proofs.rules.serves_once.Goals as goal

pub loop-choice-init : goal.loop-choice-init
loop-choice-init c = record { marked = c.requires.clear; once = once_at_first c.args.graph.now c.args.chosen.now }

pub returns-then-is_any_marked-clause-value : goal.returns-then-is_any_marked-clause-value
returns-then-is_any_marked-clause-value c =
    let g = c.args.graph.now in
    let n = c.loop-choice.choice-index in
    let k = c.in-Some.row in
    let choice : choice_at c.args.chosen.now n ≡ Some k = c.in-Some.is in
    let within : k < length g.rows = plan_rows g c.args.chosen.now c.requires.plan n k choice in
    let read : get_or c.rows-rows.result.now k c.index-rows-row.result ≡ row_at g k = sym c.index-rows-row.is ∙
    row_read g c.rows-rows.result.now k c.index-rows-row.result c.rows-rows.ensures.value within c.index-rows-row.is in
    let riders : c.as_slice-riders.result.now ≡ riders_at g k = c.as_slice-riders.ensures.value ∙ ap (λ (r : TripRow). r.riders.items) read in
    let some : list_any (λ q. get_or c.loop-choice.served q false) (riders_at g k) ≡ true =
    ap (list_any (λ q. get_or c.loop-choice.served q false)) (sym riders) ∙ sym c.is_any_marked.ensures ∙ c.if-is_any_marked.true in (
      λ e. absurd (false≢true e),
      λ once. absurd (served_twice g c.args.chosen.now n k c.loop-choice.served c.loop-choice.invariant.marked
          (omega (arith, c.loop-choice-test.true, c.requires.plan.sized)) choice (c.rows-rows.ensures.good.rows k within) some once),
    )

pub loop-choice-preserved : goal.loop-choice-preserved
loop-choice-preserved c =
    let g = c.args.graph.now in
    let chosen = c.args.chosen.now in
    let n = c.loop-choice.choice-index in
    let old = c.loop-choice.served in
    elim c.match-choice.branch [
      | in-Some+else-is_any_marked w ↦
          let k = w.in-Some.row in
          let choice : choice_at chosen n ≡ Some k = w.in-Some.is in
          let within : k < length g.rows = plan_rows g chosen c.requires.plan n k choice in
          let read : get_or c.rows-rows.result.now k w.index-rows-row.result ≡ row_at g k = sym w.index-rows-row.is ∙
          row_read g c.rows-rows.result.now k w.index-rows-row.result c.rows-rows.ensures.value within w.index-rows-row.is in
          let riders : w.as_slice-riders.result.now ≡ riders_at g k = w.as_slice-riders.ensures.value ∙ ap (λ (r : TripRow). r.riders.items) read in
          let none : list_any (λ q. get_or old q false) (riders_at g k) ≡ false = ap (list_any (λ q. get_or old q false)) (sym riders) ∙
          sym w.is_any_marked.ensures ∙ w.if-is_any_marked.false in
          let new = w.mark_riders.new.marks in
          let marked : (r : ℕ) → r < length old → get_or new r false ≡ (get_or old r false || is_in g (choice_at chosen n) r) = λ r l.
          w.mark_riders.ensures.marked r l
          ∙ ap (λ (xs : List ℕ). get_or old r false || list_any (λ x. x == r) xs) riders
          ∙ ap (λ (o : Option ℕ). get_or old r false || is_in g o r) (sym choice) in record {
            marked = subst (MarksServed g chosen (n + 1)) (sym w.served-is) (served_more g chosen n old new c.loop-choice.invariant.marked
                w.mark_riders.ensures.len marked);
            once = once_apart g chosen n k old c.loop-choice.invariant.marked c.loop-choice.invariant.once choice (c.rows-rows.ensures.good.rows k within) none;
          }
      | in_default w ↦ record {
        marked = subst (MarksServed g chosen (n + 1)) (sym w.served-is) (served_kept g chosen n old c.loop-choice.invariant.marked w.in_default.is);
        once = once_kept g chosen n c.loop-choice.invariant.once w.in_default.is;
      }
    ]
