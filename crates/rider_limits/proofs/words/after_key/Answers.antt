use Rattle.std.proofs.Common.{◌∷◌, ◌++◌, sym, ap, ◌∙◌, lit<}
use Rattle.std.proofs.lemmas.Str.Pattern.{strip_prefix_char}
use Rattle.rider_limits.proofs.WordsLemmas.{after_key-from, after_key-lacks}
use Rattle.rider_limits.proofs.words.after_key.Goals as goal

pub returns-in_err-strip_prefix : goal.returns-in_err-strip_prefix
returns-in_err-strip_prefix c =
    rw c.from_residual.ensures (sym (after_key-lacks c.args.key.now c.args.word.now (λ rest. c.in_err-strip_prefix.ensures.cases (61 ∷ rest))))

pub returns : goal.returns
returns c =
    let strips = c.in_ok-strip_prefix.ensures.cases in
    let rest = c.in_ok-strip_prefix.field-0.now in
    after_key-from c.args.key.now c.args.word.now rest c.strip_prefix-2.result
    (strips.1.1 ∙ ap (λ r. c.args.key.now ++ r) (sym strips.2))
    (strip_prefix_char 61 rest c.strip_prefix-2.result c.strip_prefix-2.ensures.cases (lit< tt))
