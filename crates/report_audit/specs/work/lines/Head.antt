-- The lines of a head, one behind the other.
use Rattle.report_audit.specs.declared.lines.head.SettingsText.{SettingsText}
use Rattle.rider_limits.specs.declared.settings.Settings.{Settings}
use Rattle.std.specs.Prelude.{ℕ, ◌≤◌, List, codes, ◌==◌, if◌then◌else◌, [], ◌≡◌, ◌∷◌}
use Rattle.dispatch_report.specs.Words.{numbered}
use Rattle.report_audit.specs.lines.HeadLines.{settings_text, AreSettings, sizes_text}
use Rattle.report_audit.specs.lines.Line.{IsFirstLine}
use Rattle.report_audit.specs.lines.Settings.{AreLawful}

-- the numbers that a line tells of such settings
abbrev pub told_of : Settings → SettingsText
told_of s = record { wait = s.wait; delay = s.delay; trip = s.trip; penalty = s.penalty; budget = s.budget; pairs = s.pairs; proof = 1; dwell = s.dwell }

-- the dwell, told only where there is one
abbrev pub dwell_text : ℕ → List ℕ
dwell_text dwell = if dwell == 0 then [] else numbered (codes " dwell=") dwell

-- a number below 2^32
abbrev pub IsShortNumber : ℕ → Type 0
IsShortNumber n = n ≤ 4294967295

-- a text begins with these lines, and this follows them
abbrev pub LinesThen : List (List ℕ) → List ℕ → List ℕ → Type 0
LinesThen [] text rest = text ≡ rest
LinesThen (l ∷ ls) text rest = (after : List ℕ) × IsFirstLine text l after × LinesThen ls after rest

-- the lines of a head
abbrev pub fleet_line : ℕ → List ℕ
fleet_line vehicles = numbered (codes "fleet vehicles=") vehicles

abbrev pub sizes_lines : ℕ × ℕ → ℕ → List (List ℕ)
sizes_lines sizes vehicles = sizes_text sizes ∷ fleet_line vehicles ∷ []

abbrev pub told_lines : SettingsText → ℕ × ℕ → ℕ → List (List ℕ)
told_lines told sizes vehicles = codes "ridepool report 1" ∷ settings_text told ∷ sizes_lines sizes vehicles

-- a text begins with these lines, of which the settings are lawful
abbrev pub HasLines : List (List ℕ) → SettingsText → List ℕ → List ℕ → Type 0
HasLines lines told text rest = LinesThen lines text rest × AreSettings told × AreLawful told

abbrev pub HasHead : SettingsText → ℕ × ℕ → ℕ → List ℕ → List ℕ → Type 0
HasHead told sizes vehicles = HasLines (told_lines told sizes vehicles) told
