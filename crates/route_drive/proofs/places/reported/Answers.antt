use Rattle.std.proofs.Common.{◌≡◌, ℕ, ◌≤◌, [], max, inr, refl, ap, arith}
use Rattle.route_drive.proofs.Common.{NodeAt, le-ltb}
use Rattle.route_drive.proofs.places.reported.Goals as goal

pub returns-in_default-2 : goal.returns-in_default-2
returns-in_default-2 c =
    let free : c.args.at.free ≤ c.args.now = (let no = c.if-now-at.false in omega (arith, no, c.get-now.ensures.value)) in
    let second : c.max.result ≡ max c.args.now c.args.at.free = omega arith in
    record {
      steps = [];
      way = rw (le-ltb c.args.now c.args.at.free free, c.in-Some.is) (inr (refl, rw c.in_default-2.is at c.in_ok-steps.ensures));
      is = ap (λ (s : ℕ). let p : NodeAt = record { node = c.args.at.node; second = s } in p) second;
    }
