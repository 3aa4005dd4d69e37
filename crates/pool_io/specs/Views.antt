-- What is seen of a sink and a source in a call.
use Rattle.std.specs.Prelude.{◌≡◌, ℕ, List, Option}

-- one thing, at the entry of a call and at its exit
pub record Change (A : Type 0) : Type 0 where
  pub before : A
  pub after : A

-- a thing is as it was
abbrev pub IsUntouched : {A : Type 0} → Change A → Type 0
IsUntouched c = c.after ≡ c.before

-- what a sink tells: the bytes written so far, if it tells any, and how many writes failed
pub record SinkView : Type 0 where
  pub written : Option (List ℕ)
  pub faults : ℕ

-- a sink in a call, by what its type tells of it
abbrev pub sink_seen : {K : Type 0} → (K → Option (List ℕ)) → (K → ℕ) → K → K → Change SinkView
sink_seen written faults old new =
    record {
      before = record { written = written old; faults = faults old };
      after = record { written = written new; faults = faults new };
    }

-- what a source tells: the bytes still to come, if it tells any; how many came so far; how many reads failed
pub record SourceView : Type 0 where
  pub left : Option (List ℕ)
  pub taken : ℕ
  pub faults : ℕ

-- a source in a call, by what its type tells of it
abbrev pub source_seen : {S : Type 0} → (S → Option (List ℕ)) → (S → ℕ) → (S → ℕ) → S → S → Change SourceView
source_seen left taken faults old new = record {
  before = record { left = left old; taken = taken old; faults = faults old };
  after = record { left = left new; taken = taken new; faults = faults new };
}
