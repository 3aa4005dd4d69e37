use Rattle.std.proofs.Common.{◌≡◌, ◌-◌, refl, sym, subst, arith, ℕ, Option, MatchOption}
use Rattle.route_drive.proofs.Common.{All-look_up, IsNode, BookRider, index_in, IsTimeBetween, ideal_dropoff}
use Rattle.route_drive.proofs.counts.delay_of.Goals as goal

pub seconds_between-requires-clause-from : goal.seconds_between-requires-clause-from
seconds_between-requires-clause-from c =
    let nodes = c.args.arcs.now.network.now.nodes in
    (All-look_up (λ (r : BookRider). r.id) (λ (r : BookRider). IsNode nodes r.origin × IsNode nodes r.destination) c.args.served.rider
    c.args.book.now.state.riders c.in-Some.found c.requires.named (sym c.in-Some.ensures)).0

pub seconds_between-requires-clause-to : goal.seconds_between-requires-clause-to
seconds_between-requires-clause-to c =
    let nodes = c.args.arcs.now.network.now.nodes in
    (All-look_up (λ (r : BookRider). r.id) (λ (r : BookRider). IsNode nodes r.origin × IsNode nodes r.destination) c.args.served.rider
    c.args.book.now.state.riders c.in-Some.found c.requires.named (sym c.in-Some.ensures)).1

pub returns-in_ok-seconds-in-Some : goal.returns-in_ok-seconds-in-Some
returns-in_ok-seconds-in-Some c =
    let roads = c.args.arcs.now.network.now in
    let less : c.saturating_sub.result ≡ c.get.result - c.ideal_of-ideal.result = c.saturating_sub.ensures in
    let is : c.saturating_sub.result ≡ c.args.served.second - ideal_dropoff c.in-Some.found.time c.in_ok-seconds-in-Some.seconds =
    omega (arith, c.get.ensures.value, c.ideal_of-ideal.ensures, less) in
    subst (λ (o : Option BookRider). MatchOption o (c.saturating_sub.result ≡ 0)
    (λ (r : BookRider). (s : ℕ) × IsTimeBetween roads.arcs (index_in roads.nodes r.origin) (index_in roads.nodes r.destination) s ×
    (c.saturating_sub.result ≡ c.args.served.second - ideal_dropoff r.time s)))
    c.in-Some.ensures (c.in_ok-seconds-in-Some.seconds, c.in_ok-seconds-in-Some.ensures, is)

pub returns-in-None : goal.returns-in-None
returns-in-None c =
    let roads = c.args.arcs.now.network.now in
    let none : ℕ = 0 in
    subst (λ (o : Option BookRider). MatchOption o (none ≡ 0)
    (λ (r : BookRider). (s : ℕ) × IsTimeBetween roads.arcs (index_in roads.nodes r.origin) (index_in roads.nodes r.destination) s ×
    (none ≡ c.args.served.second - ideal_dropoff r.time s)))
    c.in-None.ensures refl
