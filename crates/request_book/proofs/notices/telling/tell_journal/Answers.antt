use Rattle.std.proofs.Common.{sym, arith}
use Rattle.std.specs.Prelude.{vec_len}
use Rattle.std.proofs.lemmas.Bool.{eqb-true}
use Rattle.request_book.proofs.lemmas.notices.HeardLemmas.{nobody-hears}
use Rattle.request_book.proofs.notices.telling.tell_journal.Goals as goal

pub returns-then-is_empty : goal.returns-then-is_empty
returns-then-is_empty g c =
    let all = c.args.notifiers.now in
    nobody-hears _ _ all.items (omega (arith, all.ok.0, all.ok.1, eqb-true (vec_len all) 0 (sym c.if-is_empty.ensures)))
