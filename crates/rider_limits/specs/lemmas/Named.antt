use Rattle.std.specs.Prelude.{Bool, not}
use Rattle.rider_limits.specs.declared.subcommand.Subcommand.{Subcommand}
use Rattle.rider_limits.specs.Key.{solves}

-- a command judges a printed report
abbrev pub judges : Subcommand → Bool
judges command = not (solves command)
