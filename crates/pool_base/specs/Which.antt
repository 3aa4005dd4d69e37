use Rattle.std.specs.Prelude.{ℕ, List, codes}
use Rattle.pool_base.specs.declared.which.Which.{Which}
use Rattle.pool_base.specs.declared.which.Which.TheVariants.{Network, Fleet, Script, Report}

-- the word by which commands and messages name a file
abbrev pub file_name : Which → List ℕ
file_name Network = codes "network"
file_name Fleet = codes "fleet"
file_name Script = codes "script"
file_name Report = codes "report"
