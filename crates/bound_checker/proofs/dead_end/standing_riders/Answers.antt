use Rattle.std.proofs.Common.{◌≡◌, ◌==◌, ◌||◌, ℕ, ◌+◌, ◌<◌, Bool, false, List, length, get_or, sym, ap, ◌∙◌, subst, arith}
use Rattle.std.specs.List.{list_any}
use Rattle.bound_checker.proofs.Common.{with_items_is, riders_at, has_rider, usable_of, TripRow, row_read, MarksStanding}
use Rattle.bound_checker.proofs.DeadEndLemmas.{row_marked, row_unmarked}
use Rattle.bound_checker.proofs.dead_end.standing_riders.Goals.{then-allowed-row, else-allowed-row}
use Rattle.bound_checker.proofs.dead_end.standing_riders.Goals as goal

pub loop-row-preserved : goal.loop-row-preserved
loop-row-preserved c =
    let g = c.args.graph.now in
    let u = usable_of c.args.allowed.now in
    let k = c.loop-row.row in
    let old : List Bool = c.loop-row.standing.items in
    let rows : List TripRow = c.rows-rows.result.now in
    let within : k < length g.rows = omega (arith, c.loop-row-test.true, ap length c.rows-rows.ensures.value) in
    elim c.if-allowed-row.branch [
      | then-allowed-row w ↦
          let new : List Bool = w.mark.new.marks in
          let riders : w.as_slice.result.now ≡ riders_at g k = w.as_slice.ensures.value ∙ ap (λ (r : TripRow). r.riders.items)
          (sym w.index-rows-row.is ∙ row_read g rows k w.index-rows-row.result c.rows-rows.ensures.value within w.index-rows-row.is) in
          let long : length new ≡ length old = w.mark.ensures.len ∙ ap length w.deref_mut.ensures.value in
          let marked : (r : ℕ) → r < length old → get_or new r false ≡ (get_or old r false || has_rider g k r) = λ r l.
          w.mark.ensures.marked r (subst (λ (n : ℕ). r < n) (sym (ap length w.deref_mut.ensures.value)) l)
          ∙ ap (λ (xs : List Bool). get_or xs r false || list_any (λ x. x == r) w.as_slice.result.now) w.deref_mut.ensures.value
          ∙ ap (λ (xs : List ℕ). get_or old r false || list_any (λ x. x == r) xs) riders in
          let items = with_items_is c.loop-row.standing new (omega (arith, long, c.loop-row.standing.ok.0)) in
          subst (λ (xs : List Bool). MarksStanding g u (k + 1) xs) (sym (ap (λ v. v.items) w.standing-is ∙ items))
          (row_marked g u k old new w.if-allowed-row.true long marked c.loop-row.invariant)
      | else-allowed-row w ↦
          subst (λ (xs : List Bool). MarksStanding g u (k + 1) xs) (sym (ap (λ v. v.items) w.standing-is))
          (row_unmarked g u k old w.if-allowed-row.false c.loop-row.invariant)
    ]
