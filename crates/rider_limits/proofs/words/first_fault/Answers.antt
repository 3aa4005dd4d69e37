use Rattle.std.proofs.Common.{◌≡◌, ◌+◌, map, take, arith, sym, ap, ◌∙◌}
use Rattle.std.specs.String.{string_bytes}
use Rattle.rider_limits.specs.Words.{option_of, option_fault}
use Rattle.rider_limits.proofs.WordsLemmas.{words_fault-here, words_fault-step}
use Rattle.rider_limits.proofs.words.first_fault.Goals as goal
use Rattle.rider_limits.proofs.words.first_fault.Goals.{After-word_fault}

-- what is wrong with the word at the loop's place
judged : (c : After-word_fault) → option_fault (map string_bytes (take c.loop-index.index c.args.options.now)) (c.loop-index.index + 2)
    (option_of c.args.command (string_bytes c.index-options-index.result)) ≡ c.word_fault.result
judged c =
    ap (λ word. option_fault (map string_bytes (take c.loop-index.index c.args.options.now)) (c.loop-index.index + 2) (option_of c.args.command word))
    (sym c.as_str.ensures.value)
    ∙ sym c.word_fault.ensures

pub returns-in-Some : goal.returns-in-Some
returns-in-Some c =
    sym (words_fault-here string_bytes c.args.command c.args.options.now c.loop-index.index c.index-options-index.result c.in-Some.fault (omega arith)
    c.index-options-index.is (judged (goal.at.returns-in-Some c).After-word_fault ∙ c.in-Some.is) c.loop-index.invariant)

pub loop-index-preserved : goal.loop-index-preserved
loop-index-preserved c =
    words_fault-step string_bytes c.args.command c.args.options.now c.loop-index.index c.index-options-index.result (omega arith) c.index-options-index.is
    (judged (goal.at.loop-index-preserved c).After-word_fault ∙ c.in_default.is) c.loop-index.invariant
