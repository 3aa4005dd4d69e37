use Rattle.std.proofs.Common.{◌++◌, sym, ap, subst, ◌∙◌, append_assoc}
use Rattle.dispatch_engine.specs.lanes.Run.{IsRun, position_after_run}
use Rattle.dispatch_report.specs.Round.{end_text}
use Rattle.live_dispatch.specs.Live.{journals_text, rows_rounds}
use Rattle.report_past.proofs.lemmas.LawLemmas.{goes_on, position-append, texts-append}
use Rattle.report_past.proofs.lemmas.LaterLemmas.{later_rounds}
use Rattle.report_past.proofs.laws.a_day_goes_on.Goals as goal

pub returns-clause-run : goal.returns-clause-run
returns-clause-run c settings roads s position rows more told made are later run good on =
    subst (λ rs. IsRun settings roads s position rs (told ++ made)) (sym (later_rounds rows more are later))
    (goes_on settings roads s position (rows_rounds rows) (rows_rounds more) told made run good on)

pub returns-clause-text : goal.returns-clause-text
returns-clause-text c settings roads s position rows more told made are later run =
    let old = journals_text settings.proof (rows_rounds rows) told in
    let new = journals_text settings.proof (rows_rounds more) made in
    let end = position_after_run (position_after_run position told) made in
    ap (λ rs. journals_text settings.proof rs (told ++ made) ++ end_text (position_after_run position (told ++ made))) (later_rounds rows more are later)
    ∙ ap (λ t. t ++ end_text (position_after_run position (told ++ made))) (texts-append settings roads settings.proof s position (rows_rounds rows)
    (rows_rounds more) told made run)
    ∙ ap (λ p. (old ++ new) ++ end_text p) (position-append position told made)
    ∙ append_assoc old new (end_text end)
