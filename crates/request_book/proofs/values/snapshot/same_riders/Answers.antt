use Rattle.std.proofs.Common.{rules}
use Rattle.std.proofs.lemmas.Slice.Eq.{slice_eq-Decides}
use Rattle.request_book.proofs.values.snapshot.same_riders.Goals as goal

pub returns : goal.returns
returns c = slice_eq-Decides (λ a b. search (rules, slice_eq-Decides)) c.args.a.now c.args.b.now c.eq.result c.eq.ensures
