use Rattle.std.proofs.Common.{◌≡◌, ℕ, List, refl, subst}
use Rattle.ridepool.proofs.Common.{Keeps-refl, DayRound, IsRoundFault, IsUnput, NotifierView, PutsRound}
use Rattle.request_book.specs.declared.values.journal.Journal.{Journal}
use Rattle.ridepool.proofs.WriteLemmas.{next_journal, wrote_round}
use Rattle.ridepool.proofs.writing.write_next.Goals as goal

-- what holds of a round holds of it by another name of its number
numbered : (P : DayRound → List NotifierView → List NotifierView → Type 0) (j : Journal) (n m : List NotifierView) (p q : ℕ) → p ≡ q
    → P (record { number = p; journal = j }) n m → P (record { number = q; journal = j }) n m
numbered P j n m p q same holds = subst (λ k. P (record { number = k; journal = j }) n m) same holds

pub returns-in_default-clause-round : goal.returns-in_default-clause-round
returns-in_default-clause-round g c = IsRoundFault.unrun (Keeps-refl (g.K.Sink.written c.args.out.now)) refl

pub returns-in_default-take_round-clause-round : goal.returns-in_default-take_round-clause-round
returns-in_default-take_round-clause-round g c = IsRoundFault.unrun (Keeps-refl (g.K.Sink.written c.args.out.now)) refl

pub returns-in-Ok-put-clause-round : goal.returns-in-Ok-put-clause-round
returns-in-Ok-put-clause-round g c =
    let s = c.args.solver.now.settings.now in
    let roads = c.args.solver.now.network.now in
    let before = g.K.Sink.written c.args.out.now in
    let after = g.K.Sink.written c.put_round-put.new.out in
    let journal = c.in-Ok-take_round.journal in
    wrote_round s roads c.args.book c.in-Ok.book c.take_round.new.self c.args.round.now before after _ _ journal
    c.in-Ok.ensures.run c.in-Ok.ensures.same c.in-Ok.ensures.kept c.in-Ok.ensures.ready c.in-Ok-take_round.ensures.journal c.in-Ok-take_round.ensures.next
    (numbered (λ r n m. PutsRound s roads r before after n m) journal _ _ _ _ c.number.ensures.value c.in-Ok-put.ensures.round)

pub returns-in-Err-clause-round : goal.returns-in-Err-clause-round
returns-in-Err-clause-round g c =
    let s = c.args.solver.now.settings.now in
    let roads = c.args.solver.now.network.now in
    let before = g.K.Sink.written c.args.out.now in
    let after = g.K.Sink.written c.put_round-put.new.out in
    let journal = c.in-Ok-take_round.journal in
    IsRoundFault.unput journal c.in-Err.status
    (next_journal s roads c.args.book c.in-Ok.book c.args.round.now journal c.in-Ok.ensures.run c.in-Ok.ensures.same c.in-Ok-take_round.ensures.journal)
    (numbered (λ r n m. IsUnput s roads r before after n m (g.K.Sink.faults c.args.out.now) (g.K.Sink.faults c.put_round-put.new.out) c.in-Err.status) journal _
    _ _ _ c.number.ensures.value c.in-Err.ensures.round)
