use Rattle.std.proofs.Common.{◌≡◌, ◌||◌, ◌==◌, ℕ, ◌+◌, List, true, false, length, get_or, refl, sym, ap, ◌∙◌, subst, arith}
use Rattle.plan_rules.proofs.Common.{list_any, false≢true, row_at, riders_at, usable_of, TripRow, MarksSole}
use Rattle.plan_rules.proofs.lemmas.GraphLemmas.{row_read}
use Rattle.plan_rules.proofs.lemmas.MarkLemmas.{IsMarking}
use Rattle.plan_rules.proofs.DeadEndLemmas.{sole_more, sole_kept, clash_from, no_clash}
use Rattle.plan_rules.proofs.dead_end.has_clash.Goals.{in-Some+else-is_any_marked, in-None}
use Rattle.plan_rules.proofs.dead_end.has_clash.Goals as goal

pub returns-then-is_any_marked-clause-value : goal.returns-then-is_any_marked-clause-value
returns-then-is_any_marked-clause-value c =
    let g = c.args.graph.now in
    let u = usable_of c.args.allowed.now in
    let k = c.in-Some.row in
    let sole = c.in-Some.ensures.found in
    let x = get_or c.rows-rows.result.now k c.index-rows-row.result in
    let read : x ≡ row_at g k = sym c.index-rows-row.is ∙ row_read g c.rows-rows.result.now k c.index-rows-row.result c.rows-rows.ensures.value
    sole.row.row.within c.index-rows-row.is in
    let riders : c.as_slice-riders.result.now ≡ riders_at g k = c.as_slice-riders.ensures.value ∙ ap (λ (r : TripRow). r.riders.items) read in
    let some : list_any (λ q. get_or c.loop-vehicle.marks q false) (riders_at g k) ≡ true =
    ap (list_any (λ q. get_or c.loop-vehicle.marks q false)) (sym riders) ∙ sym c.is_any_marked.ensures ∙ c.if-is_any_marked.true in (
      λ _. clash_from g u c.loop-vehicle.vehicle k c.loop-vehicle.marks sole some c.loop-vehicle.invariant.marked,
      λ _. refl,
    )

pub loop-vehicle-preserved : goal.loop-vehicle-preserved
loop-vehicle-preserved c =
    let g = c.args.graph.now in
    let u = usable_of c.args.allowed.now in
    let n = c.loop-vehicle.vehicle in
    let old = c.loop-vehicle.marks in
    elim c.match-sole_row.branch [
      | in-Some+else-is_any_marked w ↦
          let k = w.in-Some.row in
          let sole = w.in-Some.ensures.found in
          let x = get_or c.rows-rows.result.now k w.index-rows-row.result in
          let read : x ≡ row_at g k = sym w.index-rows-row.is ∙ row_read g c.rows-rows.result.now k w.index-rows-row.result c.rows-rows.ensures.value
          sole.row.row.within w.index-rows-row.is in
          let riders : w.as_slice-riders.result.now ≡ riders_at g k = w.as_slice-riders.ensures.value ∙ ap (λ (r : TripRow). r.riders.items) read in
          let none : list_any (λ q. get_or old q false) (riders_at g k) ≡ false = ap (list_any (λ q. get_or old q false)) (sym riders) ∙
          sym w.is_any_marked.ensures ∙ w.if-is_any_marked.false in
          let adds : IsMarking old w.mark_riders.new.marks (riders_at g k) = record {
            sized = w.mark_riders.ensures.len;
            marked = λ r l. w.mark_riders.ensures.marked r l ∙ ap (λ (xs : List ℕ). get_or old r false || list_any (λ y. y == r) xs) riders;
          } in
          record {
            marked = subst (MarksSole g u (n + 1)) (sym w.marks-is) (sole_more g u n k old w.mark_riders.new.marks adds c.loop-vehicle.invariant.len
                (c.rows-rows.ensures.good.rows k sole.row.row.within) sole none c.loop-vehicle.invariant.marked);
            len = ap length w.marks-is ∙ w.mark_riders.ensures.len ∙ c.loop-vehicle.invariant.len;
          }
      | in-None w ↦ record {
        marked = subst (MarksSole g u (n + 1)) (sym w.marks-is) (sole_kept g u n old w.in-None.ensures.none c.loop-vehicle.invariant.marked);
        len = ap length w.marks-is ∙ c.loop-vehicle.invariant.len;
      }
    ]

pub returns-clause-value : goal.returns-clause-value
returns-clause-value c =
    let g = c.args.graph.now in
    let u = usable_of c.args.allowed.now in
    let ended : c.loop-vehicle.vehicle ≡ g.vehicles = omega (arith, c.vehicle_count-vehicle-end.ensures.value) in (
      λ e. absurd (false≢true e),
      λ clash. absurd (no_clash g u c.loop-vehicle.marks c.vehicle_count-vehicle-end.ensures.good
          (subst (λ (n : ℕ). MarksSole g u n c.loop-vehicle.marks) ended c.loop-vehicle.invariant.marked) clash),
    )
