use Rattle.std.proofs.Common.{nat_lt, sym, ◌∙◌, rules}
use Rattle.std.proofs.lemmas.List.Sorted.{IsPartitionedBy-ltb, IsPartitionPoint-from_clause}
use Rattle.input_rows.proofs.fleet.FleetPlaceLemmas.{has_id_at-found, has_id_at-other, IsNonDecreasingBy-ids, place_between}
use Rattle.input_rows.proofs.fleet.place.find_place.Goals as goal

pub returns-then-has_id_at : goal.returns-then-has_id_at
returns-then-has_id_at c = has_id_at-found c.args.vehicles.now c.partition_point-place.result c.args.id (sym c.has_id_at.ensures ∙ c.if-has_id_at.true)

pub returns : goal.returns
returns c =
    let vehicles = c.args.vehicles.now in
    let place = c.partition_point-place.result in
    place_between vehicles c.args.id place c.requires c.partition_point-place.ensures.bound
    (IsPartitionPoint-from_clause (λ v. nat_lt v.id c.args.id) vehicles place c.partition_point-place.ensures.partitioned
    (IsPartitionedBy-ltb (λ v. v.id) vehicles c.args.id (IsNonDecreasingBy-ids vehicles c.requires))
    (λ a r g called. search rules))
    (has_id_at-other vehicles place c.args.id (sym c.has_id_at.ensures ∙ c.if-has_id_at.false))
