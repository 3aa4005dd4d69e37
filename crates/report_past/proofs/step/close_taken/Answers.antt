use Rattle.std.proofs.Common.{◌≡◌, None, Some, inl, inr, sym, ◌∙◌}
use Rattle.report_past.proofs.RowLeftLemmas.{no_block_of, no_closing_of}
use Rattle.report_past.proofs.step.close_taken.Goals as goal

pub take_close-closed-requires-after_bounds : goal.take_close-closed-requires-after_bounds
take_close-closed-requires-after_bounds g c κs within = c.requires c.in-Some.snapshot (sym c.take.ensures.value ∙ c.in-Some.is)

pub returns-in-Ok-Some-clause-close : goal.returns-in-Ok-Some-clause-close
returns-in-Ok-Some-clause-close g c =
    let takes = rw (rw c.in-Ok-Some.is at c.in-Ok-Some.field-0-is) at c.in-Ok-Some.ensures.close in
    (c.take.ensures.after, (c.in-Some.snapshot, sym c.take.ensures.value ∙ c.in-Some.is, takes))

pub returns-in_default-clause-refused : goal.returns-in_default-clause-refused
returns-in_default-clause-refused g c = λ _ b is. let no : None ≡ Some b = sym c.in_default.is ∙ c.take.ensures.value ∙ is in cc

pub returns-in-Ok-None-clause-refused : goal.returns-in-Ok-None-clause-refused
returns-in-Ok-None-clause-refused g c = λ _ b is.
    let none = rw (rw c.in-Ok-None.is at c.in-Ok-None.field-0-is) at c.in-Ok-None.ensures.close in
    inl (no_closing_of c.args.book.now c.in-Some.snapshot b c.args.item.now.line.now (sym c.in-Some.is ∙ c.take.ensures.value ∙ is) none)

pub returns-in-Err-clause-refused : goal.returns-in-Err-clause-refused
returns-in-Err-clause-refused g c = λ fails b is.
    inr (no_block_of c.args.context.now.settings.now c.args.context.now.network.now c.in-Some.snapshot b c.args.item.now.after.now
    (sym c.in-Some.is ∙ c.take.ensures.value ∙ is) (c.in-Err.ensures.none (λ memory. fails (c.block_fault.ensures memory))))
