use Rattle.std.proofs.Common.{◌≡◌, ℕ, ◌<◌, ◌^◌, List, length, decimal, refl, arith}
use Rattle.std.proofs.lemmas.Str.Parse.{IsNumeralModel, numerals_by_fold, tells_by_index}
use Rattle.std.proofs.lemmas.Fmt.{decimal_nonempty, digits_decimal, digits_value-decimal}
use Rattle.pool_base.specs.Number.{AllDigits}
use Rattle.pool_base.specs.lemmas.Number.{value_after}
use Rattle.pool_base.proofs.number.number_reads_back.Goals as goal

-- numerals are read as std reads them
own : IsNumeralModel AllDigits (value_after 0)
own = numerals_by_fold AllDigits tells_by_index value_after (record { empty = λ n. refl; more = λ n c cs _. refl })

pub returns : goal.returns
returns c =
    let n = c.args.n in
    let small : n < 2 ^ 64 = omega arith in
    let some : 0 < length (decimal n) = decimal_nonempty n small in
    record {
      some = λ e. let f : List ℕ → ℕ = length in let zero_long : length (decimal n) ≡ 0 = rw e in omega arith;
      digits = digits_decimal own n small;
      value = digits_value-decimal own n small;
    }
