use Rattle.std.proofs.Common.{Err, ap, subst, ◌∙◌}
use Rattle.ridepool.proofs.Common.{Appends, AppendsPart, yes_text, IsTextFault}
use Rattle.ridepool.proofs.WriteLemmas.{nothing_of, some_yes}
use Rattle.ridepool.proofs.auditing.write_yes.Goals as goal

pub returns-in_default-clause-text : goal.returns-in_default-clause-text
returns-in_default-clause-text g c = IsTextFault.unstored (nothing_of (yes_text c.args.audited.now) (g.K.Sink.written c.args.out.now)
    (some_yes c.args.audited.now))

pub returns-in-Ok-write_all-clause-text : goal.returns-in-Ok-write_all-clause-text
returns-in-Ok-write_all-clause-text g c =
    subst (Appends (g.K.Sink.written c.args.out.now) (g.K.Sink.written c.write_all.new.sink)) (c.deref.ensures.value ∙ c.in-Ok.ensures)
    c.in-Ok-write_all.ensures.whole

pub returns-in-Err-WriteFault-clause-text : goal.returns-in-Err-WriteFault-clause-text
returns-in-Err-WriteFault-clause-text g c =
    IsTextFault.failed (c.in-Err-WriteFault.ensures.fault (ap Err c.in-Err-WriteFault.field-0-is))
    (subst (AppendsPart (g.K.Sink.written c.args.out.now) (g.K.Sink.written c.write_all.new.sink)) (c.deref.ensures.value ∙ c.in-Ok.ensures)
    c.in-Err-WriteFault.ensures.part)

pub returns-clause-text : goal.returns-clause-text
returns-clause-text g c =
    IsTextFault.unstored
    (subst (AppendsPart (g.K.Sink.written c.args.out.now) (g.K.Sink.written c.write_all.new.sink)) (c.deref.ensures.value ∙ c.in-Ok.ensures)
    c.in-Err-OutOfMemory.ensures.part)
