use Rattle.std.proofs.Common.{◌≡◌, ◌-◌, ap, sym, arith, Option}
use Rattle.route_drive.proofs.Common.{option_map_or, BookRider, waited}
use Rattle.route_drive.proofs.counts.wait_of.Goals as goal

pub returns-in-Some : goal.returns-in-Some
returns-in-Some c =
    let found = sym c.in-Some.ensures in
    let told : waited c.args.book.now.state.riders c.args.served ≡ c.args.served.second - c.in-Some.found.time =
    ap (λ (o : Option BookRider). option_map_or (λ (r : BookRider). c.args.served.second - r.time) o 0) found in
    let less : c.saturating_sub.result ≡ c.get.result - c.get-in-Some.result = c.saturating_sub.ensures in
    omega (arith, told, c.get.ensures.value, c.get-in-Some.ensures.value, less)

pub returns-in-None : goal.returns-in-None
returns-in-None c =
    sym (ap (λ (o : Option BookRider). option_map_or (λ (r : BookRider). c.args.served.second - r.time) o 0) (sym c.in-None.ensures))
