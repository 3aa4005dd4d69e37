-- What comes of an audit, from what came of its parts.
use Rattle.std.proofs.Common.{◌≡◌, ℕ, List, Option, Result, Ok, Err, MatchResult, subst, refl}
use Rattle.ridepool.proofs.Common.{
  Appends,
  Change,
  Audited,
  yes_text,
  IsRunReport,
  Inputs,
  Reads,
  SourceView,
  RunStatus,
  IsAuditFault,
  RefusesBytes,
  WritesYes,
  IsTextFault,
}
use Rattle.ridepool.proofs.ReadingLemmas.{reads_as}
use Rattle.pool_base.specs.declared.which.Which.TheVariants as file

module _ (i : Inputs) (s : Change SourceView) (bytes now : List ℕ) (a b : Option (List ℕ)) (low high : ℕ) (whole : Reads file.Report s (λ came. came ≡ bytes))
    (is : now ≡ bytes) where
  -- a report that is judged, and the line written or not
  pub judged : (audited : Audited) (r : Result (Unit {0}) RunStatus) → IsRunReport i now audited
      → MatchResult r (λ _. Appends a b (yes_text audited)) (IsTextFault (yes_text audited) a b low high)
      → MatchResult r (λ _. WritesYes i s a b) (IsAuditFault i s a b low high)
  judged audited (Ok x) confirmed text =
      record {
        audited = audited;
        read = reads_as s bytes (λ t. IsRunReport i t audited) whole (subst (λ t. IsRunReport i t audited) is confirmed);
        text =
            text;
      }
  judged audited (Err e) confirmed why =
      IsAuditFault.unwritten e audited (reads_as s bytes (λ t. IsRunReport i t audited) whole (subst (λ t. IsRunReport i t audited) is confirmed)) why

-- one that is refused, with nothing written
pub unjudged : (i : Inputs) (s : Change SourceView) (bytes now : List ℕ) (a : Option (List ℕ)) (low : ℕ) (e : RunStatus) →
    Reads file.Report s (λ came. came ≡ bytes) → now ≡ bytes
    → RefusesBytes i now e → IsAuditFault i s a a low low e
unjudged i s bytes now a low e whole is why =
    IsAuditFault.refused e bytes whole (subst (λ t. RefusesBytes i t e) is why) (record { bytes = refl; faults = refl })
