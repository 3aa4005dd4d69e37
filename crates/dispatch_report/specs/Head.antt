-- The first lines of a report.
use Rattle.std.specs.Prelude.{ℕ, ◌==◌, List, [], ◌∷◌, ◌++◌, length, codes, if◌then◌else◌}
use Rattle.dispatch_report.specs.Lines.{lines_text}
use Rattle.dispatch_report.specs.Words.{numbered}
use Rattle.rider_limits.specs.declared.settings.Settings.{Settings}
use Rattle.road_network.specs.Roads.{Roads}

-- the settings of a run; the dwell only where there is one
abbrev pub settings_line : Settings → List ℕ
settings_line s =
    (numbered (codes "settings wait=") s.wait ++ numbered (codes " delay=") s.delay ++ numbered (codes " trip=") s.trip)
    ++ (numbered (codes " penalty=") s.penalty ++ numbered (codes " budget=") s.budget ++ numbered (codes " pairs=") s.pairs)
    ++ (if s.proof then codes " proof=1" else codes " proof=0")
    ++ (if s.dwell == 0 then [] else numbered (codes " dwell=") s.dwell)

-- the name of a report, the settings, and how large network and fleet are
unfoldable pub head_text : Settings → Roads → ℕ → List ℕ
head_text settings roads vehicles =
    lines_text ((codes "ridepool report 1" ∷ []) ++ (settings_line settings ∷ [])
    ++ ((numbered (codes "network nodes=") (length roads.nodes) ++ numbered (codes " arcs=") (length roads.arcs)) ∷ [])
    ++ (numbered (codes "fleet vehicles=") vehicles ∷ []))
