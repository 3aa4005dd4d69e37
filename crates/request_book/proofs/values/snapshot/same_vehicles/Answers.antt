use Rattle.std.proofs.Common.{rules, refl}
use Rattle.std.proofs.lemmas.Slice.Eq.{slice_eq-Decides}
use Rattle.request_book.proofs.values.SameLemmas.{vehicles_agree-Decides}
use Rattle.request_book.proofs.values.snapshot.same_vehicles.Goals as goal

pub returns : goal.returns
returns c =
    slice_eq-Decides (vehicles_agree-Decides _ (λ xs ys. slice_eq-Decides (λ p q. search rules) xs ys _ refl))
    c.args.a.now c.args.b.now c.eq.result c.eq.ensures
