use Rattle.std.proofs.Common.{◌∙◌, sym, ap, refl, rules}
use Rattle.std.proofs.lemmas.Bool.{eqb-true, not-false}
use Rattle.std.proofs.lemmas.Slice.Eq.{slice_eq-Decides}
use Rattle.request_book.specs.values.Batch.{Batch}
use Rattle.request_book.proofs.values.SameLemmas.{same_batch}
use Rattle.request_book.proofs.values.snapshot.Snapshot.same.Goals as goal

pub returns : goal.returns
returns c =
    let now = eqb-true _ _ (not-false _ (sym c.if-ne.ensures)) in
    let vehicles = sym c.as_slice.ensures ∙ c.if-not-same_vehicles.ensures.0 refl ∙ c.as_slice-2.ensures in
    let riders = sym c.as_slice-3.ensures ∙ c.if-not-same_riders.ensures.0 refl ∙ c.as_slice-4.ensures in
    let expired = slice_eq-Decides (λ a b. search rules) c.as_slice-5.result.now c.as_slice-6.result.now c.eq.result c.eq.ensures in (
      (λ h.
          sym c.self.view_is
          ∙ same_batch _ _ c.if-self-other.false now vehicles riders (sym c.as_slice-5.ensures ∙ expired.0 h ∙ c.as_slice-6.ensures)
          ∙ c.other.view_is),
      (λ e.
          expired.1
          (c.as_slice-5.ensures
          ∙ ap (λ (b : Batch). b.expired) (c.self.view_is ∙ e ∙ sym c.other.view_is)
          ∙ sym c.as_slice-6.ensures)),
    )
