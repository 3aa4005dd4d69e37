use Rattle.std.specs.Prelude.{◌≡◌, ℕ, true}
use Rattle.report_audit.specs.declared.lines.head.SettingsText.{SettingsText}
use Rattle.rider_limits.specs.Range.{AreInRange}
use Rattle.rider_limits.specs.declared.settings.Mode.TheVariants.{Run}
use Rattle.rider_limits.specs.declared.settings.Settings.{Settings}
use Rattle.rider_limits.specs.declared.settings.TimesWay.TheVariants.{Rows}

-- The settings that a head tells.

-- the settings of a run by searches, with so many workers, whose report prints the search trees
pub record AreSettingsOf (count : ℕ) (s : Settings) : Type 0 where
  pub mode : s.mode ≡ Run
  pub times : s.times ≡ Rows
  pub workers : s.workers ≡ count
  pub proof : s.proof ≡ true

-- the numbers are those of such settings; of the workers, whose number no line tells, one will do
pub record AreLawful (s : SettingsText) : Type 0 where
  pub range : AreInRange s.wait s.delay s.trip s.penalty s.budget s.pairs 1 s.dwell
  pub proof : s.proof ≡ 1
