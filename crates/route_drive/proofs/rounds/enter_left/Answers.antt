use Rattle.std.proofs.Common.{◌≡◌, ◌+◌, ◌<◌, ◌∷◌, ◌++◌, [], length, map, take, inl, inr, refl, arith}
use Rattle.route_drive.proofs.Common.{All-push, IsInTime, cases_lt, false≢true, longest, map_more, stop_command, second_of, Command}
use Rattle.route_drive.proofs.EnterLemmas.{Adds-trans, any_mapped, late_stop, stop_in_time}
use Rattle.route_drive.proofs.rounds.enter_left.Goals as goal

pub returns-in_default-clause-late : goal.returns-in_default-clause-late
returns-in_default-clause-late c = λ _.
    let within : c.loop-stop.stop-index < length c.args.stops.now = omega arith in
    let late : longest < c.stop-item.result.second = elim (cases_lt longest c.stop-item.result.second) [
      | inl h ↦ h
      | inr le ↦ absurd (false≢true (c.in_default.ensures.valid.1 le))
    ] in
    any_mapped (λ (c : Command). longest < second_of c) (stop_command c.args.vehicle) c.args.stops.now c.loop-stop.stop-index c.stop-item.result within
    c.stop-item.is (late_stop c.args.vehicle c.stop-item.result late)

pub loop-stop-preserved : goal.loop-stop-preserved
loop-stop-preserved c =
    let stops = c.args.stops.now in
    let i = c.loop-stop.stop-index in
    let command = stop_command c.args.vehicle in
    let own = stop_command c.args.vehicle c.stop-item.result in
    let before = map (stop_command c.args.vehicle) (take i stops) in
    let within : c.loop-stop.stop-index < length c.args.stops.now = omega arith in
    let more : map command (take (i + 1) stops) ≡ before ++ own ∷ [] = rw (map_more command stops i c.stop-item.result within, ← c.stop-item.is) refl in
    record {
      entered = rw more (Adds-trans 0 c.args.round.now c.loop-stop.round c.put.new.round before (own ∷ []) c.loop-stop.invariant.entered
          (rw c.command_of.ensures.value at c.in-Ok.ensures));
      in_time = rw more (All-push IsInTime before own c.loop-stop.invariant.in_time (stop_in_time c.args.vehicle c.stop-item.result
          (c.in-Some.ensures.valid.0 refl)));
    }
