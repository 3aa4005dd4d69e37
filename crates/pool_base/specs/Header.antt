use Rattle.std.specs.Prelude.{ℕ, List, codes}

-- the header line of the network's file, without its end
abbrev pub network_header : List ℕ
network_header = codes "from,to,seconds"

-- the header line of the fleet's file, without its end
abbrev pub fleet_header : List ℕ
fleet_header = codes "vehicle,seats,node,second"

-- of a script of the first version, whose requests are for one person each
abbrev pub script_header : List ℕ
script_header = codes "round,lane,command,a,b,c,d"

-- of a script of the second version, which adds the party
abbrev pub party_header : List ℕ
party_header = codes "round,lane,command,a,b,c,d,e"
