use Rattle.std.proofs.Common.{[], ◌∷◌}
use Rattle.input_rows.proofs.Common.{on_ok_weaker, plain, both, seal_row, reports, submits, all_reports, batch_rows}
use Rattle.input_rows.proofs.made.WrittenLemmas.{Writes-plain, Writes-both}
use Rattle.input_rows.proofs.made.script.put_batch.Goals as goal

pub returns : goal.returns
unfolding batch_rows reports all_reports submits
returns c =
    let shape = c.args.shape.now in
    let k = c.args.k in
    on_ok_weaker c.put_seal.result (λ sealed.
    Writes-both (reports shape k) (both (submits shape k) (plain (seal_row k ∷ []))) _ _ _ _ _ _ c.in_ok-put_reports.ensures
    (Writes-both (submits shape k) (plain (seal_row k ∷ [])) _ _ _ _ _ _ c.in_ok-put_submits.ensures (Writes-plain (seal_row k) _ _ _ sealed)))
    c.put_seal.ensures
