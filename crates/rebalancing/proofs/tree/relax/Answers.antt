use Rattle.std.proofs.Common.{◌≡◌, ◌+◌, ◌-◌, ◌<◌, ◌≤◌, slice_index, length, inl, inr, refl, arith}
use Rattle.rebalancing.proofs.Relaxing.{IsRelaxing-skip, IsRelaxing-more}
use Rattle.rebalancing.proofs.tree.relax.Goals.{
  then-place-rider-eq0+then-nearest-riders,
  then-nearest-riders-via-then-nearest-riders,
  then-nearest-riders-via-else-nearest-riders+then-tight_at-rider,
  then-place-rider-eq0+else-nearest-riders+else-tight_at-rider,
  else-place-rider-eq0,
}
use Rattle.rebalancing.proofs.tree.relax.Goals as goal

pub loop-rider-preserved : goal.loop-rider-preserved
loop-rider-preserved c =
    let i = c.loop-rider.rider in
    let row = c.args.reached.now.row.now in
    let price = c.args.rider_price.now in
    let inv = c.loop-rider.invariant in
    let within : c.loop-rider.rider < length c.args.reached.now.row.now = omega arith in
    let covered : slice_index c.args.reached.now.row.now c.loop-rider.rider ≤ c.args.reached.now.offset + slice_index c.args.rider_price.now
    c.loop-rider.rider = c.requires.covers c.loop-rider.rider within in
    let fits : slice_index c.args.reached.now.row.now c.loop-rider.rider + ((c.args.reached.now.offset + slice_index c.args.rider_price.now c.loop-rider.rider)
    - slice_index c.args.reached.now.row.now c.loop-rider.rider) ≡ c.args.reached.now.offset + slice_index c.args.rider_price.now c.loop-rider.rider =
    omega arith in
    elim c.if-place-rider-eq0.branch [
      | then-place-rider-eq0+then-nearest-riders w ↦
          rw (w.tight_at-is, w.parent_of-is, w.nearest-is)
          (IsRelaxing-more row price c.args.place.now c.args.reached.now.offset c.args.reached.now.position c.args.tight_at.now c.args.parent_of.now _ _ i
          (length row) c.loop-rider.nearest inv
          _ _ _ i w.improve.ensures fits w.if-place-rider-eq0.true within
          (inl (
            refl,
            elim w.then-nearest-riders.branch [
              | then-nearest-riders-via-then-nearest-riders v ↦ inl v.if-nearest-riders.true
              | then-nearest-riders-via-else-nearest-riders+then-tight_at-rider v ↦ inr (omega (arith, v.if-tight_at-rider.true))
            ],
          )))
      | then-place-rider-eq0+else-nearest-riders+else-tight_at-rider w ↦
          rw (w.tight_at-is, w.parent_of-is, w.nearest-is)
          (IsRelaxing-more row price c.args.place.now c.args.reached.now.offset c.args.reached.now.position c.args.tight_at.now c.args.parent_of.now _ _ i
          (length row) c.loop-rider.nearest inv
          _ _ _ c.loop-rider.nearest w.improve.ensures fits w.if-place-rider-eq0.true within
          (inr (refl, w.if-nearest-riders.false, w.if-tight_at-rider.false)))
      | else-place-rider-eq0 w ↦
          rw (w.tight_at-is, w.parent_of-is, w.nearest-is)
          (IsRelaxing-skip row price c.args.place.now c.args.reached.now.offset c.args.reached.now.position c.args.tight_at.now c.args.parent_of.now _ _ i
          (length row) c.loop-rider.nearest inv
          (omega (arith, w.if-place-rider-eq0.false)))
    ]
