use Rattle.std.specs.Prelude.{ℕ, Bool}

-- what a source over a reader shows: whether there is no reader, how many bytes came, and how many reads failed
pub record ReaderState : Type 0 where
  pub missing : Bool
  pub taken : ℕ
  pub faults : ℕ
