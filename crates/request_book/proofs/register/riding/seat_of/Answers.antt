use Rattle.std.proofs.Common.{◌≡◌, eqb, false, sym, ap, ◌∙◌, arith}
use Rattle.request_book.proofs.Common.{eqb-false}
use Rattle.request_book.proofs.lemmas.register.RegisterLemmas.{look_up-drop_more, look_up-drop_all}
use Rattle.request_book.proofs.register.riding.seat_of.Goals as goal

pub loop-seat-preserved : goal.loop-seat-preserved
loop-seat-preserved c =
    let xs = c.args.aboard.now in
    let i = c.loop-seat.seat in
    let p = c.index-aboard-seat.result in
    let apart : eqb p.rider c.args.rider ≡ false = sym c.eq.ensures ∙ c.if-eq.false in
    look_up-drop_more (λ q. q.rider) c.args.rider i xs p c.loop-seat-test.true
    (λ e. eqb-false p.rider c.args.rider apart (ap (λ q. q.rider) c.index-aboard-seat.is ∙ e))
    ∙ c.loop-seat.invariant

pub returns : goal.returns
returns c =
    sym c.loop-seat.invariant ∙ look_up-drop_all (λ p. p.rider) c.args.rider c.loop-seat.seat c.args.aboard.now (omega arith)
