use Rattle.std.specs.Prelude.{ℕ, ◌≤◌, Bool, ◌&&◌, List}
use Rattle.std.specs.Str.{bytes_eq}
use Rattle.rider_limits.specs.declared.subcommand.Subcommand.{Subcommand}
use Rattle.rider_limits.specs.declared.key.Key.{Key}
use Rattle.rider_limits.specs.declared.key.Takes.{Takes}
use Rattle.rider_limits.specs.declared.key.Takes.TheVariants.{FileName, Number, Way}
use Rattle.rider_limits.specs.Key.{about}

-- a command has this key, and this is its name
abbrev pub is_key : Subcommand → List ℕ → Key → Bool
is_key command name key = (about key).has command && bytes_eq (about key).name name

-- a key takes a number
abbrev pub IsNumber : Takes → Type 0
IsNumber FileName = ⊥
IsNumber (Number _ _) = Unit {0}
IsNumber Way = ⊥

-- a number is one that a key takes
abbrev pub IsAccepted : Takes → ℕ → Type 0
IsAccepted FileName n = ⊥
IsAccepted (Number least greatest) n = (least ≤ n) × (n ≤ greatest)
IsAccepted Way n = ⊥
