use Rattle.std.proofs.Common.{◌≡◌, ◌<◌, length, ap, arith}
use Rattle.assignment_search.proofs.rider_index.RiderIndex.new.Goals as goal

pub returns : goal.returns
returns c = λ k i l h.
    let long : length c.rows.result.now ≡ length c.args.graph.now.rows = ap length c.rows.ensures.value in
    let low : k < length c.rows.result.now = omega (arith, l, long) in
    record {
      place = k;
      from_on = omega arith;
      before = omega (arith, low, c.in_ok-rows.ensures.len);
      within = omega (arith, low, c.in_ok-rows.ensures.len);
      row = c.in_ok-rows.ensures.each k low;
    }
