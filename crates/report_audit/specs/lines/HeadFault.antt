-- Why a text begins with no head.
use Rattle.std.specs.Prelude.{◌≡◌, ℕ, ◌+◌, ◌<◌, ◌^◌, ◌⊎◌, true, List, [], ◌∷◌, codes, length}
use Rattle.dispatch_report.specs.Words.{numbered}
use Rattle.report_audit.specs.lines.Line.{IsFirstLine}
use Rattle.report_audit.specs.lines.Settings.{AreLawful}
use Rattle.report_audit.specs.declared.lines.head_fault.HeadFault.{HeadFault}
use Rattle.report_audit.specs.declared.lines.head_fault.HeadFault.TheVariants.{Cut, Form, Head}
use Rattle.report_audit.specs.lines.Cut.{is_one_line}
use Rattle.report_audit.specs.lines.HeadLines.{settings_text, AreSettings, sizes_text, AreSizes}
use Rattle.report_audit.specs.declared.lines.head.SettingsText.{SettingsText}
use Rattle.road_network.specs.Roads.{Roads}

-- a line of a head: the report's name, the settings, the sizes of a network with so many nodes and arcs, and a fleet of so
-- many vehicles
pub data HeadLine : Type 0 where
  name : HeadLine
  settings : HeadLine
  sizes : ℕ × ℕ → HeadLine
  fleet : ℕ → HeadLine

-- a line has its form, whichever numbers it tells
abbrev pub HasForm : HeadLine → List ℕ → Type 0
HasForm HeadLine.name line = line ≡ codes "ridepool report 1"
HasForm HeadLine.settings line = (s : SettingsText) × AreSettings s × (line ≡ settings_text s)
HasForm (HeadLine.sizes own) line = (told : ℕ × ℕ) × AreSizes told × (line ≡ sizes_text told)
HasForm (HeadLine.fleet own) line = (told : ℕ) × (told < 2 ^ 64) × (line ≡ numbered (codes "fleet vehicles=") told)

-- a line tells what it must: of settings lawful ones, of a network and a fleet its own numbers
abbrev pub FitsLine : HeadLine → List ℕ → Type 0
FitsLine HeadLine.name line = line ≡ codes "ridepool report 1"
FitsLine HeadLine.settings line = (s : SettingsText) × AreSettings s × AreLawful s × (line ≡ settings_text s)
FitsLine (HeadLine.sizes own) line = line ≡ sizes_text own
FitsLine (HeadLine.fleet own) line = line ≡ numbered (codes "fleet vehicles=") own

-- the first line of a text, which is the report's line of this number, fails: no line feed stands any more, or the line
-- isn't of its form, or it is of its form and doesn't fit
abbrev pub LineFails : HeadLine → ℕ → List ℕ → HeadFault → Type 0
LineFails form number text (Cut line) = (line ≡ number) × (is_one_line text ≡ true)
LineFails form number text (Form line) = (line ≡ number) × (first rest : List ℕ) × IsFirstLine text first rest × (HasForm form first → ⊥)
LineFails form number text (Head line) = (line ≡ number) × (first rest : List ℕ) × IsFirstLine text first rest × HasForm form first × (FitsLine form first → ⊥)

-- one of these lines fails, of which the first has this number, and those before it fit
abbrev pub LinesFail : List HeadLine → ℕ → List ℕ → HeadFault → Type 0
LinesFail [] number text fault = ⊥
LinesFail (form ∷ forms) number text fault =
    LineFails form number text fault ⊎ ((rest : List ℕ) × ((line : List ℕ) × IsFirstLine text line rest × FitsLine form line) × LinesFail forms (number + 1) rest fault)

-- how many nodes and arcs a network has
abbrev pub sizes_of : Roads → ℕ × ℕ
sizes_of roads = (length roads.nodes, length roads.arcs)

-- the lines of a head
abbrev pub head_lines : ℕ × ℕ → ℕ → List HeadLine
head_lines own vehicles = HeadLine.name ∷ HeadLine.settings ∷ HeadLine.sizes own ∷ HeadLine.fleet vehicles ∷ []

-- a line of the head fails
abbrev pub HeadFails : Roads → ℕ → List ℕ → HeadFault → Type 0
HeadFails roads vehicles = LinesFail (head_lines (sizes_of roads) vehicles) 1
