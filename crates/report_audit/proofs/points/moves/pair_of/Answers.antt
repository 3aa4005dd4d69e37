use Rattle.std.proofs.Common.{◌≡◌, ℕ, [], sym, ap, ◌∙◌}
use Rattle.report_audit.proofs.Common.{IsPairWithin, MoveLine, point_count, travel_time}
use Rattle.report_audit.proofs.lemmas.points.MatchLemmas.{seconds_read}
use Rattle.report_audit.proofs.points.moves.pair_of.Goals as goal

pub returns-in_default : goal.returns-in_default
returns-in_default c = λ pair within is. c.in_default.ensures pair.0 within.0 (sym (ap (λ (m : MoveLine). m.vehicle) is))

pub returns-in_default-place_of_rider : goal.returns-in_default-place_of_rider
returns-in_default-place_of_rider c = λ pair within is. c.in_default-place_of_rider.ensures pair.1 within.1 (sym (ap (λ (m : MoveLine). m.rider) is))

pub returns-then-seconds-step : goal.returns-then-seconds-step
returns-then-seconds-step c =
    let here : ℕ × ℕ = (c.in-Some.place, c.in-Some-place_of_rider.wanted) in let within : IsPairWithin _ _ here =
    (c.in-Some.ensures.0, c.in-Some-place_of_rider.ensures.0) in
    let read = seconds_read (point_count c.args.times.now) (travel_time c.args.times.now) c.args.settled.now c.args.idle.now c.args.left.now []
    c.requires.places
    c.as_slice.result.now c.as_slice-2.result.now c.index-as_slice-idle.result c.index-as_slice-left.result c.as_slice.ensures c.as_slice-2.ensures here
    within in
    let seconds = sym c.if-seconds-step.true ∙ c.seconds.ensures ∙ read in
    (within, λ i. record { vehicle = sym c.in-Some.ensures.1 i; rider = sym c.in-Some-place_of_rider.ensures.1 i; seconds = seconds i })

pub returns-else-seconds-step : goal.returns-else-seconds-step
returns-else-seconds-step c = λ pair within is.
    let places = c.requires.places in
    let here : ℕ × ℕ = (c.in-Some.place, c.in-Some-place_of_rider.wanted) in
    let read = seconds_read (point_count c.args.times.now) (travel_time c.args.times.now) c.args.settled.now c.args.idle.now c.args.left.now [] places
    c.as_slice.result.now c.as_slice-2.result.now c.index-as_slice-idle.result c.index-as_slice-left.result c.as_slice.ensures c.as_slice-2.ensures here
    (c.in-Some.ensures.0, c.in-Some-place_of_rider.ensures.0) in
    let first : pair.0 ≡ here.0 = places.own_vehicles pair.0 here.0 within.0 c.in-Some.ensures.0
    (sym (ap (λ (m : MoveLine). m.vehicle) is) ∙ sym c.in-Some.ensures.1) in
    let second : pair.1 ≡ here.1 = places.own_riders pair.1 here.1 within.1 c.in-Some-place_of_rider.ensures.0
    (sym (ap (λ (m : MoveLine). m.rider) is) ∙ sym c.in-Some-place_of_rider.ensures.1) in
    c.if-seconds-step.false (c.seconds.ensures ∙ read ∙ sym (rw (first, second) at (ap (λ (m : MoveLine). m.seconds) is)))
