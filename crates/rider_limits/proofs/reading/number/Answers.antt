use Rattle.std.proofs.Common.{◌≡◌, Some, map, is_some, sym, ap, ◌∙◌, arith}
use Rattle.std.specs.String.{string_bytes}
use Rattle.std.specs.Option.{option_map_or}
use Rattle.pool_base.specs.Number.{value_of}
use Rattle.pool_base.specs.Numeral.{number_up_to}
use Rattle.pool_base.proofs.lemmas.NumeralLemmas.{number_up_to-given}
use Rattle.rider_limits.specs.Key.{about}
use Rattle.rider_limits.specs.Words.{text_given}
use Rattle.rider_limits.proofs.GivenLemmas.{IsTakenText, given_is_taken}
use Rattle.rider_limits.proofs.reading.number.Goals as goal
use Rattle.rider_limits.proofs.reading.number.Goals.{After-read_number_up_to}

given : (c : After-read_number_up_to) → text_given (about c.args.key).name (map string_bytes c.args.options.now) ≡ Some c.in-Some.text.now
given c = ap (λ name. text_given name (map string_bytes c.args.options.now)) (sym c.name.ensures) ∙ sym c.in-Some.ensures

taken : (c : After-read_number_up_to) → IsTakenText c.args.key c.in-Some.text.now
taken c =
    given_is_taken c.args.command c.args.key (map string_bytes c.args.options.now) c.in-Some.text.now c.requires.faultless c.requires.number (given c)

read : (c : After-read_number_up_to) → c.read_number_up_to.result ≡ Some (value_of c.in-Some.text.now)
read c =
    let t = taken c in
    c.read_number_up_to.ensures.value ∙ ap (number_up_to 18446744073709551615) c.as_bytes.ensures.value
    ∙ number_up_to-given 18446744073709551615 c.in-Some.text.now t.numeral (omega (arith, t.small))

pub unwrap-requires : goal.unwrap-requires
unwrap-requires c = ap is_some (read c)

pub returns-in-Some-clause-value : goal.returns-in-Some-clause-value
returns-in-Some-clause-value c =
    let d = (goal.at.returns-in-Some-clause-value c).After-read_number_up_to in
    let is : Some c.unwrap.result ≡ Some (value_of c.in-Some.text.now) = sym c.unwrap.ensures ∙ read d in
    let value : c.unwrap.result ≡ value_of c.in-Some.text.now = cc in
    value ∙ sym (ap (λ o. option_map_or value_of o (about c.args.key).default_number) (given d))

pub returns-in-Some-clause-within : goal.returns-in-Some-clause-within
returns-in-Some-clause-within c =
    let d = (goal.at.returns-in-Some-clause-within c).After-read_number_up_to in
    let is : Some c.unwrap.result ≡ Some (value_of c.in-Some.text.now) = sym c.unwrap.ensures ∙ read d in
    let value : c.unwrap.result ≡ value_of c.in-Some.text.now = cc in
    let t = taken d in
    rw value t.taken
