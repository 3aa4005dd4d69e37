use Rattle.std.proofs.Common.{rules, inl, refl}
use Rattle.ridepool.specs.Resume.{EndsResume}
use Rattle.ridepool.specs.work.Resume.{day_of}
use Rattle.ridepool.proofs.resume_call.go_on.Goals as goal

pub invariant_of-solver : goal.invariant_of-solver
invariant_of-solver g c = search rules

pub restart-answer-requires-clause-ready : goal.restart-answer-requires-clause-ready
restart-answer-requires-clause-ready g c κs within = c.requires.ready

pub returns-in_default : goal.returns-in_default
returns-in_default g c text past =
    let kept = c.ended.ensures in
    rw (kept.0, kept.1, kept.2, kept.3) (EndsResume.unstored (inl (record { out = refl; notifiers = refl })))

pub returns : goal.returns
returns g c text past =
    c.restart-answer.ensures (day_of c.args.day.settings c.args.inputs.now.network c.args.inputs.now.fleet text c.args.inputs.now.said) refl past
