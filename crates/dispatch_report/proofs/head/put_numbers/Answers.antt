use Rattle.std.proofs.Common.{List, ℕ, ◌≡◌, ◌++◌, [], refl, ap, append-nil, append_assoc, codes}
use Rattle.dispatch_report.proofs.Common.{IfOk-equal, numbered}
use Rattle.dispatch_report.proofs.head.put_numbers.Goals as goal

six : (a b c d e f : List ℕ) → a ++ (b ++ (c ++ (d ++ (e ++ (f ++ []))))) ≡ ((a ++ b) ++ c) ++ ((d ++ e) ++ f)
six a b c d e f = rw (append-nil f, append_assoc (a ++ b) c ((d ++ e) ++ f), append_assoc a b (c ++ ((d ++ e) ++ f)), append_assoc d e f) refl

pub returns : goal.returns
returns c =
    let s = c.args.settings.now in
    let whole = six (numbered (codes "settings wait=") s.wait) (numbered (codes " delay=") s.delay) (numbered (codes " trip=") s.trip)
    (numbered (codes " penalty=") s.penalty) (numbered (codes " budget=") s.budget) (numbered (codes " pairs=") s.pairs) in
    IfOk-equal c.put_fields.result c.put_fields.new.line.items _ _
    (rw (c.from.ensures, c.from-2.ensures, c.from-3.ensures, c.from-4.ensures, c.from-5.ensures, c.from-6.ensures) at c.put_fields.ensures)
    (ap (λ (l : List ℕ). c.args.line.now.items ++ l) whole)
