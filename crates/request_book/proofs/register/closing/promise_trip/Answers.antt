use Rattle.std.proofs.Common.{◌+◌, drop, map, Vec, Global, vec_len, vec_capacity, sym, ap, subst, ◌∙◌, arith}
use Rattle.request_book.proofs.Common.{BookRider, PlannedStop, Pick, trip_picks, promised_in_turn, takes_promise, changed_at, KeysDiffer}
use Rattle.request_book.proofs.lemmas.register.CloseLemmas.{stops-pick, stops-drop, stops-all, takes_promise-id}
use Rattle.request_book.proofs.lemmas.values.KeyedLemmas.{KeysDiffer-changed_at, map-changed_at}
use Rattle.request_book.proofs.register.closing.promise_trip.Goals.{then-stop, else-stop}
use Rattle.request_book.proofs.register.closing.promise_trip.Goals as goal

pub loop-stop-preserved : goal.loop-stop-preserved
loop-stop-preserved c =
    let batch = c.args.batch.now in
    let v = c.args.vehicle in
    let xs = c.args.stops.now in
    let i = c.loop-stop.stop-index in
    let rs = c.loop-stop.riders.items in
    let inv = c.loop-stop.invariant in
    let x = c.stop-item.result in
    let p : Pick = record { rider = x.rider; promise = record { vehicle = v; pickup = x.second } } in
    let at = c.stop-item.is in
    elim c.if-stop.branch [
      | then-stop w ↦
          let changed = w.promise_one.ensures.changed in
          let is = ap (λ (r : Vec BookRider Global). r.items) w.riders-is in
          let turned = λ (s : PlannedStop). promised_in_turn batch (trip_picks v (drop (i + 1) xs))
          (changed_at (λ r. r.id) s.rider (takes_promise batch (record { rider = s.rider; promise = record { vehicle = v; pickup = s.second } })) rs) in
          record {
            turn = ap (promised_in_turn batch (trip_picks v (drop (i + 1) xs))) (is ∙ changed) ∙ ap turned at ∙
                stops-pick batch v xs i x rs c.loop-stop-test.true (sym (ap (λ (s : PlannedStop). s.pick) at) ∙ w.if-stop.true) ∙ inv.turn;
            ids = inv.ids ∙ sym (ap (map (λ r. r.id)) (is ∙ changed) ∙ map-changed_at (λ r. r.id) x.rider (takes_promise batch p) (takes_promise-id batch p)
                rs);
            differ = subst (KeysDiffer (λ r. r.id)) (sym (is ∙ changed)) (KeysDiffer-changed_at (λ r. r.id) x.rider (takes_promise batch p)
                (takes_promise-id batch p) rs inv.differ);
            len = omega (arith, inv.len, w.promise_one.ensures.len, ap vec_len w.riders-is);
            capacity = omega (arith, inv.capacity, w.promise_one.ensures.capacity, ap vec_capacity w.riders-is);
          }
      | else-stop w ↦
          let is = ap (λ (r : Vec BookRider Global). r.items) w.riders-is in
          record {
            turn = ap (promised_in_turn batch (trip_picks v (drop (i + 1) xs))) is ∙ stops-drop batch v xs i x rs c.loop-stop-test.true
                (sym (ap (λ (s : PlannedStop). s.pick) at) ∙ w.if-stop.false) ∙ inv.turn;
            ids = inv.ids ∙ sym (ap (map (λ r. r.id)) is);
            differ = subst (KeysDiffer (λ r. r.id)) (sym is) inv.differ;
            len = omega (arith, inv.len, ap vec_len w.riders-is);
            capacity = omega (arith, inv.capacity, ap vec_capacity w.riders-is);
          }
    ]

pub returns-clause-promised : goal.returns-clause-promised
returns-clause-promised c =
    sym (stops-all c.args.batch.now c.args.vehicle c.args.stops.now c.loop-stop.stop-index c.loop-stop.riders.items (omega arith)) ∙ c.loop-stop.invariant.turn
