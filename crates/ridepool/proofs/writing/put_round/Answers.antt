use Rattle.std.proofs.Common.{Err, ap, refl}
use Rattle.ridepool.proofs.Common.{IsUnput}
use Rattle.ridepool.proofs.WriteLemmas.{text_unwritten}
use Rattle.ridepool.proofs.writing.put_round.Goals as goal

pub returns-in-Ok-tell_journal-clause-round : goal.returns-in-Ok-tell_journal-clause-round
returns-in-Ok-tell_journal-clause-round g c = record { text = c.in-Ok.ensures.bytes; told = c.in-Ok-tell_journal.ensures }

pub returns-in-Err-tell_journal-clause-round : goal.returns-in-Err-tell_journal-clause-round
returns-in-Err-tell_journal-clause-round g c = IsUnput.untold c.in-Ok.ensures.bytes c.in-Err-tell_journal.ensures

pub returns-in-Err-clause-round : goal.returns-in-Err-clause-round
returns-in-Err-clause-round g c =
    IsUnput.unwritten _
    (text_unwritten _ (g.K.Sink.written c.args.out.now) (g.K.Sink.written c.write_added.new.out) (g.K.Sink.faults c.args.out.now)
    (g.K.Sink.faults c.write_added.new.out)
    c.in-Err.fault c.status_of.result c.status_of.ensures c.in-Err.ensures.bytes (λ is. c.in-Err.ensures.fault (ap Err is)))
    refl
