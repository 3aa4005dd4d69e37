-- The first lines of a report, by their numbers.
use Rattle.std.specs.Prelude.{ℕ, ◌==◌, ◌<◌, ◌≤◌, ◌^◌, List, [], ◌++◌, codes, if◌then◌else◌}
use Rattle.dispatch_report.specs.Words.{numbered}
use Rattle.report_audit.specs.declared.lines.head.SettingsText.{SettingsText}

-- the line of the settings; the dwell only where there is one
abbrev pub settings_text : SettingsText → List ℕ
settings_text s =
    (numbered (codes "settings wait=") s.wait ++ numbered (codes " delay=") s.delay ++ numbered (codes " trip=") s.trip)
    ++ (numbered (codes " penalty=") s.penalty ++ numbered (codes " budget=") s.budget ++ numbered (codes " pairs=") s.pairs)
    ++ numbered (codes " proof=") s.proof
    ++ (if s.dwell == 0 then [] else numbered (codes " dwell=") s.dwell)

-- each number is below 2^32
pub record AreSettings (s : SettingsText) : Type 0 where
  pub wait : s.wait ≤ 4294967295
  pub delay : s.delay ≤ 4294967295
  pub trip : s.trip ≤ 4294967295
  pub penalty : s.penalty ≤ 4294967295
  pub budget : s.budget ≤ 4294967295
  pub pairs : s.pairs ≤ 4294967295
  pub proof : s.proof ≤ 4294967295
  pub dwell : s.dwell ≤ 4294967295

-- the line of the network: how many nodes and arcs it has
abbrev pub sizes_text : ℕ × ℕ → List ℕ
sizes_text sizes = numbered (codes "network nodes=") sizes.0 ++ numbered (codes " arcs=") sizes.1

-- the numbers of nodes and arcs are within 64 bits
abbrev pub AreSizes : ℕ × ℕ → Type 0
AreSizes sizes = (sizes.0 < 2 ^ 64) × (sizes.1 < 2 ^ 64)
