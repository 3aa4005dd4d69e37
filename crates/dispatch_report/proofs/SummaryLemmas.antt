-- The lines of batches.
use Rattle.std.proofs.Common.{◌≡◌, ℕ, List, [], refl}
use Rattle.dispatch_report.proofs.Common.{batch_lines, Command, Close, Entry, Outcome, Reply, Closed}

-- the lines that an entry adds
abbrev pub entry_summary : Entry → List (List ℕ)
entry_summary e = batch_lines e.command e.reply

-- only a close adds a line
pub batch_lines-other : (command : Command) (reply : Reply) → ((batch : ℕ) (outcome : Outcome) → command ≡ Close batch outcome → ⊥) →
    batch_lines command reply ≡ []
batch_lines-other (Close batch outcome) reply other = absurd (other batch outcome refl)
batch_lines-other _ reply other = refl

-- only where it was answered `closed`
pub closed_lines-other : (batch : ℕ) (outcome : Outcome) (reply : Reply) → (reply ≡ Closed → ⊥) → batch_lines (Close batch outcome) reply ≡ []
closed_lines-other batch outcome Closed other = absurd (other refl)
closed_lines-other batch outcome _ other = refl
