use Rattle.std.specs.Prelude.{ℕ, Bool, true, false, not, ◌&&◌, ◌||◌, List, [], ◌∷◌, Option, nat_le, nat_lt, length, codes}
use Rattle.std.specs.List.{find}
use Rattle.std.specs.Option.{option_map_or}
use Rattle.std.specs.Str.{bytes_eq}
use Rattle.pool_base.specs.Numeral.{number_up_to}
use Rattle.pool_base.specs.Which as file
use Rattle.pool_base.specs.declared.which.Which.{Which}
use Rattle.pool_base.specs.declared.which.Which.TheVariants.{Network, Fleet, Script, Report}
use Rattle.rider_limits.specs.declared.subcommand.Subcommand.{Subcommand}
use Rattle.rider_limits.specs.declared.subcommand.Subcommand.TheVariants.{Run, Load, Drive, Audit, Resume}
use Rattle.rider_limits.specs.declared.key.Key.{Key}
use Rattle.rider_limits.specs.declared.key.Key.TheVariants.{Input, Notices, Wait, Delay, Trip, Penalty, Budget, Pairs, Workers, Proof, Dwell, Times, Seed, Side, Vehicles, Riders, Rounds, Judge}
use Rattle.rider_limits.specs.declared.key.Takes.{Takes}
use Rattle.rider_limits.specs.declared.key.Takes.TheVariants.{FileName, Number, Way}

-- the word of a command
abbrev pub command_name : Subcommand → List ℕ
command_name Run = codes "run"
command_name Load = codes "load"
command_name Drive = codes "drive"
command_name Audit = codes "audit"
command_name Resume = codes "resume"

-- the command of a word; `resume` is a call of its own
abbrev pub command_of : List ℕ → Option Subcommand
command_of word = find (λ command. bytes_eq (command_name command) word) (Run ∷ Load ∷ Drive ∷ Audit ∷ [])

-- a command reads this file: a made workload none, and only an audit and a resumed day a report
abbrev pub reads : Subcommand → Which → Bool
reads Load which = false
reads Audit which = true
reads Resume which = true
reads command Report = false
reads command which = true

-- a command needs this file: it reads it, and a resumed day has its rows from standard input where no script is named
abbrev pub needs : Subcommand → Which → Bool
needs Resume Script = false
needs command which = reads command which

-- a command makes its inputs from a seed
abbrev pub makes_inputs : Subcommand → Bool
makes_inputs Load = true
makes_inputs _ = false

-- a command solves batches by settings that its words give; an audit and a resumed day take them from a printed report
abbrev pub solves : Subcommand → Bool
solves Audit = false
solves Resume = false
solves _ = true

-- a command goes on from a printed report
abbrev pub resumes : Subcommand → Bool
resumes Resume = true
resumes _ = false

-- a command prints a report whose settings its words give
abbrev pub prints_report : Subcommand → Bool
prints_report command = solves command && not (makes_inputs command)

-- a row of the table of keys: the key's name, the commands that have it, what it takes, its number where no word gives one
pub record KeyRow : Type 0 where
  pub name : List ℕ
  pub has : Subcommand → Bool
  pub takes : Takes
  pub default_number : ℕ

-- the table of keys
abbrev pub about : Key → KeyRow
about (Input which) = record { name = file.file_name which; has = λ command. reads command which; takes = FileName; default_number = 0 }
about Notices = record { name = codes "notices"; has = λ command. prints_report command || resumes command; takes = FileName; default_number = 0 }
about Wait = record { name = codes "wait"; has = solves; takes = Number 0 7200; default_number = 120 }
about Delay = record { name = codes "delay"; has = solves; takes = Number 0 7200; default_number = 180 }
about Trip = record { name = codes "trip"; has = solves; takes = Number 1 6; default_number = 4 }
about Penalty = record { name = codes "penalty"; has = solves; takes = Number 0 1000000000; default_number = 10000 }
about Budget = record { name = codes "budget"; has = solves; takes = Number 1 50000; default_number = 200 }
about Pairs = record { name = codes "pairs"; has = solves; takes = Number 1 2000000; default_number = 200000 }
about Workers = record { name = codes "workers"; has = λ _. true; takes = Number 1 64; default_number = 4 }
about Proof = record { name = codes "proof"; has = prints_report; takes = Number 0 1; default_number = 0 }
about Dwell = record { name = codes "dwell"; has = solves; takes = Number 0 600; default_number = 0 }
about Times = record { name = codes "times"; has = λ command. solves command || resumes command; takes = Way; default_number = 0 }
about Seed = record { name = codes "seed"; has = makes_inputs; takes = Number 0 1000000000; default_number = 1 }
about Side = record { name = codes "side"; has = makes_inputs; takes = Number 2 100; default_number = 20 }
about Vehicles = record { name = codes "vehicles"; has = makes_inputs; takes = Number 1 500; default_number = 100 }
about Riders = record { name = codes "riders"; has = makes_inputs; takes = Number 1 1000; default_number = 150 }
about Rounds = record { name = codes "rounds"; has = makes_inputs; takes = Number 1 100; default_number = 4 }
about Judge = record { name = codes "judge"; has = resumes; takes = Number 0 1; default_number = 0 }

-- the key of this name that a command has, of all keys
unfoldable pub key_of : Subcommand → List ℕ → Option Key
key_of command name =
    find (λ key. (about key).has command && bytes_eq (about key).name name)
    (Input Network ∷ Input Fleet ∷ Input Script ∷ Input Report ∷ Notices
    ∷ Wait ∷ Delay ∷ Trip ∷ Penalty ∷ Budget ∷ Pairs ∷ Workers ∷ Proof ∷ Dwell ∷ Times
    ∷ Seed ∷ Side ∷ Vehicles ∷ Riders ∷ Rounds ∷ Judge ∷ [])

-- a key takes this text: a file's name, a number from the first to the second, or one of two words
abbrev pub accepts : Takes → List ℕ → Bool
accepts FileName text = nat_lt 0 (length text)
accepts (Number least greatest) text = option_map_or (nat_le least) (number_up_to greatest text) false
accepts Way text = bytes_eq (codes "rows") text || bytes_eq (codes "labels") text
