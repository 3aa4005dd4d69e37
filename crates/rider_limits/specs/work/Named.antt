use Rattle.std.specs.Prelude.{ℕ, ◌+◌, Bool, ◌&&◌, List, Option, is_none, length, take, slice_index_or, [], ◌∷◌}
use Rattle.std.specs.List.{find}
use Rattle.pool_base.specs.InOrder.{first_fault}
use Rattle.rider_limits.specs.declared.subcommand.Subcommand.{Subcommand}
use Rattle.rider_limits.specs.declared.word_fault.WordFault.{WordFault}
use Rattle.pool_base.specs.Which as file
use Rattle.pool_base.specs.declared.which.Which.{Which}
use Rattle.pool_base.specs.declared.which.Which.TheVariants.{Network, Fleet, Script, Report}
use Rattle.rider_limits.specs.Key.{needs}
use Rattle.rider_limits.specs.Words.{text_given, option_of, option_fault}

-- Parts of the words and keys, as proofs call them.

-- what is wrong with the word at a place behind the command, if anything; the command is word 1
abbrev pub fault_at : Subcommand → List (List ℕ) → ℕ → Option WordFault
fault_at command words place = option_fault (take place words) (place + 2) (option_of command (slice_index_or words place []))

-- the first fault of the words behind a command
abbrev pub words_fault : Subcommand → List (List ℕ) → Option WordFault
words_fault command words = first_fault (fault_at command words) (length words)

-- no word names a file
abbrev pub is_missing : List (List ℕ) → Which → Bool
is_missing words which = is_none (text_given (file.file_name which) words)

-- the first file that a command needs and these words don't name
abbrev pub missing_file : Subcommand → List (List ℕ) → Option Which
missing_file command words = find (λ which. needs command which && is_missing words which) (Network ∷ Fleet ∷ Script ∷ Report ∷ [])
