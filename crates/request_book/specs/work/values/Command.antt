use Rattle.request_book.specs.declared.values.command.Command.{Command}
use Rattle.request_book.specs.declared.values.command.Command.TheVariants.{Report, Pickup, Dropoff}

-- what a vehicle does
abbrev pub IsOfVehicle : Command → Type 0
IsOfVehicle (Report vehicle node time) = Unit {0}
IsOfVehicle (Pickup vehicle rider time) = Unit {0}
IsOfVehicle (Dropoff vehicle rider time) = Unit {0}
IsOfVehicle _ = ⊥
