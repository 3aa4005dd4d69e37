use Rattle.std.proofs.Common.{refl, sym, ap, ◌∙◌, Some, arith}
use Rattle.pool_base.proofs.lemmas.NumeralLemmas.{is_numeral-digits, number_up_to-given, number_up_to-large, number_up_to-refused}
use Rattle.pool_base.proofs.numeral.read_number_up_to.Goals as goal

pub returns-in_default-clause-value : goal.returns-in_default-clause-value
returns-in_default-clause-value c =
    let e = c.read_number.ensures in
    sym (number_up_to-refused c.args.most c.args.text.now c.read_number.result (omega arith) (rw c.in_default.is refl) e.empty e.not_digit e.too_large)

pub returns-then-n-most-clause-value : goal.returns-then-n-most-clause-value
returns-then-n-most-clause-value c =
    let v = c.in-Ok.ensures.value in
    ap (λ n. Some n) v.2 ∙ sym (number_up_to-given c.args.most c.args.text.now (is_numeral-digits c.args.text.now v.0 v.1) (omega arith))

pub returns-else-n-most-clause-value : goal.returns-else-n-most-clause-value
returns-else-n-most-clause-value c = sym (number_up_to-large c.args.most c.args.text.now (omega (arith, c.in-Ok.ensures.value.2)))
