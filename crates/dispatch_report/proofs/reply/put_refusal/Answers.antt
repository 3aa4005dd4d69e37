use Rattle.std.proofs.Common.{◌++◌, ap, sym, ◌∙◌}
use Rattle.std.proofs.lemmas.Result.{on_ok_weaker}
use Rattle.dispatch_report.proofs.ReplyLemmas.{put_two, refusal_told}
use Rattle.dispatch_report.specs.lemmas.Named.{spaced_or_none}
use Rattle.dispatch_report.proofs.reply.put_refusal.Goals as goal

pub returns-in-Some-clause-printed : goal.returns-in-Some-clause-printed
returns-in-Some-clause-printed c =
    let told = refusal_told c.args.refusal.now _ (sym c.in-Some.is ∙ c.told_number.ensures.number) in
    on_ok_weaker c.put_spaced_or_none.result (λ put. put_two c.args.line.now.items _ _ _ _ _ c.in_ok-put_bytes.ensures.ok put
    (ap (λ ws. ws ++ spaced_or_none c.in-Some.number) c.refusal_words.ensures ∙ told)) c.put_spaced_or_none.ensures
