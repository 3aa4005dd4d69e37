use Rattle.std.proofs.Common.{sym, ap, ◌∙◌, lit<}
use Rattle.std.specs.Option.{option_map}
use Rattle.std.proofs.lemmas.Str.Pattern.{split_once_first}
use Rattle.rider_limits.proofs.WordsLemmas.{option_of-lacks, option_of-parts}
use Rattle.rider_limits.proofs.words.option_of.Goals as goal

pub returns-in_err-name : goal.returns-in_err-name
returns-in_err-name c =
    let parts = split_once_first 61 c.args.word.now c.split_once.result c.split_once.ensures.cases (lit< tt) in
    rw c.from_residual.ensures (option_of-lacks c.args.command c.args.word.now c.split_once.result parts c.in_err-name.was)

pub returns-in_err-key : goal.returns-in_err-key
returns-in_err-key c =
    let parts = split_once_first 61 c.args.word.now c.split_once.result c.split_once.ensures.cases (lit< tt) in
    rw c.from_residual-in_err-key.ensures
    (option_of-parts c.args.command c.args.word.now c.split_once.result (c.in_ok-name.name, c.in_ok-name.text) parts c.in_ok-name.was
    ∙ ap (option_map (λ key. (key, c.in_ok-name.text.now))) (sym c.of.ensures ∙ c.in_err-key.was))

pub returns : goal.returns
returns c =
    let parts = split_once_first 61 c.args.word.now c.split_once.result c.split_once.ensures.cases (lit< tt) in
    option_of-parts c.args.command c.args.word.now c.split_once.result (c.in_ok-name.name, c.in_ok-name.text) parts c.in_ok-name.was
    ∙ ap (option_map (λ key. (key, c.in_ok-name.text.now))) (sym c.of.ensures ∙ c.in_ok-key.was)
