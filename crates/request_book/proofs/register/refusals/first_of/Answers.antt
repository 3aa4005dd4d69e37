use Rattle.std.proofs.Common.{◌≡◌, true, false, Option, Some, None, get_or, refl, sym, ap, ◌∙◌, arith, is_some}
use Rattle.request_book.proofs.Common.{BookRefusal}
use Rattle.std.proofs.lemmas.Bool.{true≢false}
use Rattle.request_book.proofs.lemmas.register.RegisterLemmas.{first_of-more, first_of-here, first_of-all}
use Rattle.request_book.proofs.register.refusals.first_of.Goals as goal

none_from : (o : Option BookRefusal) → is_some o ≡ false → o ≡ None
none_from None e = refl
none_from (Some r) e = absurd (true≢false e)

pub returns-then-is_some : goal.returns-then-is_some
returns-then-is_some c =
    let xs = c.args.refusals.now in
    let i = c.loop-refusal.refusal-index in
    let x = c.refusal-item.result in
    let holds : is_some (get_or xs i x) ≡ true = sym (ap is_some c.refusal-item.is) ∙ sym c.is_some.ensures ∙ c.if-is_some.true in
    c.refusal-item.is ∙ sym (first_of-here xs i x c.loop-refusal-test.true holds) ∙ c.loop-refusal.invariant

pub loop-refusal-preserved : goal.loop-refusal-preserved
loop-refusal-preserved c =
    let xs = c.args.refusals.now in
    let i = c.loop-refusal.refusal-index in
    let x = c.refusal-item.result in
    let none : get_or xs i x ≡ None = sym c.refusal-item.is ∙ none_from x (sym c.is_some.ensures ∙ c.if-is_some.false) in
    first_of-more xs i x c.loop-refusal-test.true none ∙ c.loop-refusal.invariant

pub returns : goal.returns
returns c = sym (first_of-all c.args.refusals.now c.loop-refusal.refusal-index (omega arith)) ∙ c.loop-refusal.invariant
