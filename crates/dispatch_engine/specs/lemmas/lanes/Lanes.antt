use Rattle.request_book.specs.declared.values.command.Command.{Command}
use Rattle.request_book.specs.declared.values.command.Command.TheVariants.{Seal, Close}

-- the command is no seal and no close
abbrev pub IsPlain : Command → Type 0
IsPlain (Seal now) = ⊥
IsPlain (Close batch outcome) = ⊥
IsPlain _ = Unit {0}
