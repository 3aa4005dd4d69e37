use Rattle.std.proofs.Common.{◌≡◌, ◌++◌, codes, ap, sym, subst, ◌∙◌}
use Rattle.std.proofs.lemmas.Result.{on_ok_weaker}
use Rattle.dispatch_report.proofs.Common.{Reply}
use Rattle.dispatch_report.proofs.ReplyLemmas.{put_two, sealed_parts}
use Rattle.dispatch_report.specs.Entry.{reply_text}
use Rattle.dispatch_report.specs.Words.{spaced}
use Rattle.dispatch_report.specs.work.Named.{reply_words}
use Rattle.dispatch_report.proofs.reply.put_reply.Goals as goal

pub returns-in-Sealed-clause-printed : goal.returns-in-Sealed-clause-printed
returns-in-Sealed-clause-printed c =
    let n = c.in-Sealed.batch in
    let parts = subst (λ (r : Reply). reply_words r ++ spaced n ≡ codes " " ++ reply_text r) (sym c.in-Sealed.is) (sealed_parts n) in
    on_ok_weaker c.put_spaced.result (λ put. put_two c.args.line.now.items _ _ _ _ _ c.in_ok-put_bytes.ensures.ok put
    (ap (λ ws. ws ++ spaced n) c.reply_words.ensures ∙ parts)) c.put_spaced.ensures
