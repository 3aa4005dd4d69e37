use Rattle.std.proofs.Common.{◌≡◌, take, option_and_then}
use Rattle.request_book.proofs.Common.{after_seal, asking, find_rider, over_id}
use Rattle.std.specs.List.{filter_map}
use Rattle.request_book.proofs.register.Register.part.Given as goal

abbrev pub invariant-loop-id : goal.invariant-loop-id
invariant-loop-id l = record {
  over : l.expired.items ≡ filter_map (λ id. option_and_then (over_id l.wait l.second) (find_rider id l.self.riders.items)) (take l.id-index l.id-items);
  asking : l.shown.items ≡ filter_map (λ id. option_and_then (λ r. asking l.second (after_seal l.wait l.second r)) (find_rider id l.self.riders.items))
      (take l.id-index l.id-items);
}
