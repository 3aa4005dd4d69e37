use Rattle.std.proofs.Common.{ℕ, ◌==◌, Option, length, min, unwrap_or, ap, ◌∙◌}
use Rattle.report_audit.proofs.block.NumberedLemmas.{place_or_len}
use Rattle.report_audit.proofs.block.judged.number_among.Goals as goal

pub returns : goal.returns
returns c =
    let place = c.unwrap_or-place.ensures ∙ ap (λ (o : Option ℕ). unwrap_or o (length c.args.ids.now)) c.place_among.ensures ∙
    place_or_len (λ (other : ℕ). other == c.args.id) c.args.ids.now in
    c.min.ensures ∙ ap (λ (n : ℕ). min n 4294967295) place
