-- A text that begins with the head of a report.
use Rattle.std.specs.Prelude.{◌≡◌, ℕ, List, ◌++◌}
use Rattle.dispatch_report.specs.Head.{head_text}
use Rattle.report_audit.specs.lines.Settings.{AreSettingsOf}
use Rattle.rider_limits.specs.declared.settings.Settings.{Settings}
use Rattle.road_network.specs.Roads.{Roads}

-- the text is the head of a report of this network and so many vehicles, with these settings and so many workers, and
-- this follows
pub record BeginsWithHead (workers : ℕ) (roads : Roads) (vehicles : ℕ) (text : List ℕ) (s : Settings) (rest : List ℕ) : Type 0 where
  pub whole : text ≡ head_text s roads vehicles ++ rest
  pub settings : AreSettingsOf workers s
