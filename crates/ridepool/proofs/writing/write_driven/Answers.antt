use Rattle.std.proofs.Common.{Err, List, ap, refl, subst, sym}
use Rattle.ridepool.proofs.Common.{HoldsRounds, BeginsRounds, EndsRounds, day_ending}
use Rattle.dispatch_report.specs.Day.{day_end_text}
use Rattle.ridepool.specs.declared.held_day.HeldRound.{HeldRound}
use Rattle.ridepool.proofs.WriteLemmas.{stops_fault, written_all, end_unwritten}
use Rattle.ridepool.proofs.writing.write_driven.Goals as goal

pub returns-in-Err-clause-rounds : goal.returns-in-Err-clause-rounds
returns-in-Err-clause-rounds g c = λ made holds.
    let s = c.args.day.now.settings.now in
    let roads = c.args.day.now.network.now in
    stops_fault s roads (BeginsRounds made) (EndsRounds made (day_ending c.args.run.now made)) made _ _ _ _ _ _ c.in-Err.status (λ begun first. first)
    (c.in-Err.ensures.rounds s roads c.args.day.now.told made (subst (λ (l : List HeldRound). HoldsRounds s roads c.args.day.now.told made l)
    (sym c.as_slice.ensures.value) holds) c.requires)

pub returns-in-Ok-write_day_end-clause-rounds : goal.returns-in-Ok-write_day_end-clause-rounds
returns-in-Ok-write_day_end-clause-rounds g c = λ made holds.
    let s = c.args.day.now.settings.now in
    let roads = c.args.day.now.network.now in
    let end = day_ending c.args.run.now made in
    let h = c.in-Ok.ensures.rounds s roads c.args.day.now.told made (subst (λ (l : List HeldRound). HoldsRounds s roads c.args.day.now.told made l)
    (sym c.as_slice.ensures.value) holds) c.requires in
    let is = ap (day_end_text c.args.run.now) h.1 in
    written_all s roads (BeginsRounds made) (EndsRounds made end) made end (g.K.Sink.written c.args.out.now) (g.K.Sink.written c.write_held.new.out)
    (g.K.Sink.written c.write_day_end.new.sink) _ _
    (refl, refl) h.0 (rw (sym is) c.in-Ok-write_day_end.ensures.bytes)

pub returns-in-Err-write_day_end-clause-rounds : goal.returns-in-Err-write_day_end-clause-rounds
returns-in-Err-write_day_end-clause-rounds g c = λ made holds.
    let s = c.args.day.now.settings.now in
    let roads = c.args.day.now.network.now in
    let end = day_ending c.args.run.now made in
    let h = c.in-Ok.ensures.rounds s roads c.args.day.now.told made (subst (λ (l : List HeldRound). HoldsRounds s roads c.args.day.now.told made l)
    (sym c.as_slice.ensures.value) holds) c.requires in
    let is = ap (day_end_text c.args.run.now) h.1 in
    end_unwritten s roads (BeginsRounds made) (EndsRounds made end) made end (g.K.Sink.written c.args.out.now) (g.K.Sink.written c.write_held.new.out)
    (g.K.Sink.written c.write_day_end.new.sink) _ _
    (g.K.Sink.faults c.args.out.now) (g.K.Sink.faults c.write_held.new.out) (g.K.Sink.faults c.write_day_end.new.sink)
    c.in-Err-write_day_end.fault c.status_of.result c.status_of.ensures
    (refl, refl) h.0 (rw (sym is) c.in-Err-write_day_end.ensures.bytes)
    c.write_held.ensures.never_falls (λ is. c.in-Err-write_day_end.ensures.fault (ap Err is))
