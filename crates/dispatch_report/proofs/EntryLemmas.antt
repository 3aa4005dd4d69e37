-- The lines of entries, one after the other.
use Rattle.std.proofs.Common.{◌≡◌, ℕ, suc, ◌<◌, ◌≤◌, Bool, List, [], ◌∷◌, ◌++◌, length, get_or, drop, refl, sym, ◌∙◌, ap}
use Rattle.dispatch_report.proofs.Common.{drop_all, entry_line, entry_block, entries_lines, one_more, Command, Close, Entry, Outcome, Reply, Closed}
use Rattle.std.proofs.Math.Seq.{drop-cons}

-- the lines of one entry
abbrev pub entry_lines : Bool → ℕ → Entry → List (List ℕ)
entry_lines proof position e = (entry_line position e ∷ []) ++ entry_block proof e.command e.reply

-- the lines of the entries from one on begin with the lines of that one
pub entries_lines-at : (proof : Bool) (position : ℕ) (es : List Entry) (i : ℕ) (e : Entry) → i < length es → e ≡ get_or es i e
    → entry_lines proof position e ++ entries_lines proof (one_more position) (drop (suc i) es) ≡ entries_lines proof position (drop i es)
unfolding entries_lines
entries_lines-at proof position es i e within is =
    ap (λ x. entries_lines proof position (x ∷ drop (suc i) es)) is
    ∙ ap (λ xs. entries_lines proof position xs) (sym (drop-cons es i e within))

-- past the last entry there is no line
pub entries_lines-end : (proof : Bool) (position : ℕ) (es : List Entry) (i : ℕ) → length es ≤ i → entries_lines proof position (drop i es) ≡ []
unfolding entries_lines
entries_lines-end proof position es i past = ap (λ xs. entries_lines proof position xs) (drop_all i es past)

-- only a close has a block
pub entry_block-other : (proof : Bool) (command : Command) (reply : Reply) → ((batch : ℕ) (outcome : Outcome) → command ≡ Close batch outcome → ⊥) →
    entry_block proof command reply ≡ []
entry_block-other proof (Close batch outcome) reply other = absurd (other batch outcome refl)
entry_block-other proof _ reply other = refl

-- only where it was answered `closed`
pub closed_block-other : (proof : Bool) (batch : ℕ) (outcome : Outcome) (reply : Reply) → (reply ≡ Closed → ⊥) →
    entry_block proof (Close batch outcome) reply ≡ []
closed_block-other proof batch outcome Closed other = absurd (other refl)
closed_block-other proof batch outcome _ other = refl
