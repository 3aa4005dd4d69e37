use Rattle.std.specs.Prelude.{◌≡◌, ℕ, List, ◌++◌}
use Rattle.rand_core.specs.Stream.{Stream}
use Rattle.input_rows.specs.lemmas.made.Parts.{csv_lines}
use Rattle.input_rows.specs.made.Part.{Part}

-- the rows of a part were written behind a text, with these draws before and after
pub record Writes (part : Part) (old new : List ℕ) (before after : Stream) : Type 0 where
  pub text : new ≡ old ++ csv_lines (part before).0
  pub left : after ≡ (part before).1
