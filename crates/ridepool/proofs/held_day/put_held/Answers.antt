use Rattle.std.proofs.Common.{Err, ap, refl, ◌∙◌}
use Rattle.ridepool.proofs.Common.{length-map, notices, IsUnput, added_by}
use Rattle.ridepool.proofs.HeldLemmas.{heard_held}
use Rattle.ridepool.proofs.WriteLemmas.{text_unwritten}
use Rattle.ridepool.proofs.held_day.put_held.Goals as goal

pub returns-in-Ok-clause-round : goal.returns-in-Ok-clause-round
returns-in-Ok-clause-round g c = λ settings roads told made holds none. record {
  text = rw (c.as_slice.ensures.value, holds.text) at c.in-Ok.ensures.bytes;
  told = heard_held told c.args.round.now.notices.items (notices roads.nodes settings.wait made.journal) _ _ holds.notices
      (λ nobody. length-map c.args.notifiers.now.items _ ∙ none nobody) (rw c.deref.ensures.value at c.tell_all.ensures.heard);
}

pub returns-in-Err-clause-round : goal.returns-in-Err-clause-round
returns-in-Err-clause-round g c = λ settings roads told made holds none.
    IsUnput.unwritten _
    (text_unwritten (added_by settings made) (g.K.Sink.written c.args.out.now) (g.K.Sink.written c.write_bytes.new.out) (g.K.Sink.faults c.args.out.now)
    (g.K.Sink.faults c.write_bytes.new.out)
    c.in-Err.fault c.status_of.result c.status_of.ensures (rw (c.as_slice.ensures.value, holds.text) at c.in-Err.ensures.bytes)
    (λ is. c.in-Err.ensures.fault (ap Err is)))
    refl
