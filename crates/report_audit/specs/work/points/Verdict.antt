use Rattle.std.specs.Prelude.{ℕ}
use Rattle.report_audit.specs.points.Verdict.{point_place}
use Rattle.report_audit.specs.declared.points.verdict.Verdict.{Verdict}
use Rattle.report_audit.specs.declared.points.verdict.Verdict.TheVariants.{Good, Fails}

-- the place of the point that fails, and one behind all where none does
abbrev pub verdict_place : Verdict → ℕ
verdict_place Good = 9
verdict_place (Fails p) = point_place p
