use Rattle.std.proofs.Common.{◌≡◌, ◌<◌, None, List, length, get_or, sym, ap, subst, ◌∙◌}
use Rattle.request_book.proofs.Common.{Passenger, Vehicle, find_passenger}
use Rattle.request_book.proofs.lemmas.values.KeyedLemmas.{without_key-absent, remove-without_key}
use Rattle.request_book.proofs.register.riding.let_out.Goals.{in-Some, in_default}
use Rattle.request_book.proofs.register.riding.let_out.Goals as goal

pub returns : goal.returns
returns c =
    let v = c.args.vehicle.now in
    let r = c.args.rider.now in
    let out : List Passenger → Vehicle = λ ps. record v { node = r.destination; time = c.args.time; aboard = record { items = ps } } in
    let put : Vehicle → Vehicle = λ u. record u { node = r.destination; time = c.args.time } in
    let xs = v.aboard.items in
    elim c.match-seat.branch [
      | in-Some w ↦
          let at = w.in-Some.seat in
          let within : at < length xs = subst (λ ys. at < length ys) c.as_slice.ensures.value w.in-Some.ensures.0 in
          let d = w.remove.result in
          let named : (get_or xs at d).rider ≡ r.id = subst (λ ys. (get_or ys at d).rider ≡ r.id) c.as_slice.ensures.value (w.in-Some.ensures.1 d) in
          ap put w.vehicle-is ∙ ap out (w.remove.ensures.items ∙ remove-without_key (λ p. p.rider) at r.id xs d c.requires within named)
      | in_default w ↦
          let none = subst (λ ys. find_passenger r.id ys ≡ None) c.as_slice.ensures.value w.in_default.ensures in
          ap put w.vehicle-is ∙ ap out (sym (without_key-absent (λ p. p.rider) r.id xs none))
    ]
