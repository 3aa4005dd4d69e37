use Rattle.std.proofs.Common.{◌≡◌, inl, inr, refl}
use Rattle.route_drive.proofs.Common.{cases_lt, false≢true, longest}
use Rattle.route_drive.proofs.EnterLemmas.{told_in_time}
use Rattle.route_drive.proofs.entering.enter_vehicle.Goals as goal

pub returns-in_default-clause-late : goal.returns-in_default-clause-late
returns-in_default-clause-late c = λ _. elim (cases_lt longest c.args.there.second) [
  | inl h ↦ h
  | inr le ↦ absurd (false≢true (c.in_default.ensures.valid.1 le))
]

pub returns-in-Ok-clause-entered : goal.returns-in-Ok-clause-entered
returns-in-Ok-clause-entered c =
    let time : c.in-Some.time ≡ c.args.there.second = c.in-Some.ensures.value in
    rw (c.as_slice.ensures.value, time) at c.in-Ok.ensures.entered

pub returns-in-Ok-clause-in_time : goal.returns-in-Ok-clause-in_time
returns-in-Ok-clause-in_time c = told_in_time c.args.vehicle c.args.now c.args.course.now c.args.there c.in-Ok.ensures.in_time (c.in-Some.ensures.valid.0 refl)
