use Rattle.std.proofs.Common.{[], ◌∷◌, sym, ◌∙◌, subst}
use Rattle.report_audit.proofs.Common.{AreLawful, HeadLine}
use Rattle.report_audit.proofs.lemmas.lines.WholeHead.{head_fails}
use Rattle.report_audit.proofs.lemmas.lines.HeadLemmas.{settings_of_one}
use Rattle.report_audit.proofs.lemmas.lines.NumeralLemmas.{not_so}
use Rattle.report_audit.proofs.lines.head.settings_behind.Goals as goal

pub returns-then-not-is_lawful : goal.returns-then-not-is_lawful
returns-then-not-is_lawful c =
    let told = c.in-Some-read_settings.ensures in
    head_fails c.in-Some.line.now c.in-Some.rest.now HeadLine.settings (HeadLine.sizes (c.args.nodes, c.args.arcs) ∷ HeadLine.fleet c.args.vehicles ∷ []) 2
    c.in-Some.ensures (c.in-Some-read_settings.told, told.0, told.1)
    (λ h. not_so c.is_lawful.result c.is_lawful.ensures.whole c.if-not-is_lawful.true (subst AreLawful
    (settings_of_one h.0 c.in-Some-read_settings.told h.1 told.0 (sym h.3 ∙ told.1)) h.2))
