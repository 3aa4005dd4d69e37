use Rattle.std.proofs.Common.{◌≡◌, ◌<◌, ◌∷◌, [], List, length, get_or, refl, sym, ap, ◌∙◌, arith}
use Rattle.trip_graph.proofs.Common.{get_or_default, TripOf}
use Rattle.std.proofs.lemmas.Bool.{eqb-true}
use Rattle.trip_graph.proofs.batch.Runs.{next_none, next_skip, next_take}
use Rattle.trip_graph.proofs.batch.run.next_run.Goals.{then-not-is_empty, else-not-is_empty}
use Rattle.trip_graph.proofs.batch.run.next_run.Goals as goal

nothing : (rows : List TripOf) → length rows ≡ 0 → rows ≡ []
nothing [] none = refl
nothing (row ∷ rows) none = absurd (omega arith)

pub vehicles-init : goal.vehicles-init
vehicles-init c =
    let none = c.new-vehicles.ensures in
    let count = ap length none in
    let lt = c.requires in
    record {
      next = rw none (next_none c.args.lists.now c.args.from);
      counted = omega arith;
      within = omega arith;
    }

pub vehicles-preserved : goal.vehicles-preserved
vehicles-preserved c =
    let inv = c.vehicles.invariant in
    let counted = inv.counted in
    let lists = c.args.lists.now in
    let end = c.vehicles.end in
    let lt : end < length lists = c.vehicles-test.true in
    elim c.if-not-is_empty.branch [
      | then-not-is_empty w ↦
          let long = w.push.ensures.len in
          record {
            next = rw (w.vehicles-is, w.push.ensures.items) (next_take lists c.args.from c.vehicles.vehicles.items end inv.next);
            counted = rw w.vehicles-is (omega arith);
            within = omega arith;
          }
      | else-not-is_empty w ↦
          let zero : length c.rows.result.now ≡ 0 = eqb-true (length c.rows.result.now) 0 (sym c.is_empty.ensures ∙ w.if-not-is_empty.false) in
          let empty : get_or lists end [] ≡ [] = get_or_default lists end [] c.index-lists-end.result lt ∙ sym c.index-lists-end.is ∙ sym c.rows.ensures ∙
          nothing c.rows.result.now zero in
          record {
            next = rw w.vehicles-is (next_skip lists c.args.from c.vehicles.vehicles.items end inv.next empty);
            counted = rw w.vehicles-is (omega arith);
            within = omega arith;
          }
    ]
