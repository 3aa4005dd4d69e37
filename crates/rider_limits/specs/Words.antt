use Rattle.std.specs.Prelude.{ℕ, ◌+◌, ◌&&◌, List, [], ◌∷◌, ◌++◌, Option, Some, None, is_some, is_none, nat_eq, nat_lt, length, take, drop, slice_index_or, if◌then◌else◌, ◌==◌}
use Rattle.std.specs.List.{find, starts_with, position_or_len, before_first, after_first}
use Rattle.std.specs.Option.{option_map, option_map_or, option_or}
use Rattle.pool_base.specs.InOrder.{first_fault}
use Rattle.pool_base.specs.Which as file
use Rattle.pool_base.specs.declared.which.Which.TheVariants.{Network, Fleet, Script, Report}
use Rattle.rider_limits.specs.declared.subcommand.Subcommand.{Subcommand}
use Rattle.rider_limits.specs.declared.subcommand.Subcommand.TheVariants.{Resume}
use Rattle.rider_limits.specs.declared.key.Key.{Key}
use Rattle.rider_limits.specs.declared.word_fault.WordFault.{WordFault}
use Rattle.rider_limits.specs.declared.word_fault.WordFault.TheVariants.{NoCommand, UnknownKey, Repeated, BadValue, MissingFile}
use Rattle.rider_limits.specs.Key.{command_of, key_of, needs, about, accepts}

-- what stands behind a key and `=`, where a word begins with them
unfoldable pub after_key : List ℕ → List ℕ → Option (List ℕ)
after_key key word = if starts_with nat_eq word (key ++ 61 ∷ []) then Some (drop (length key + 1) word) else None

-- what stands behind a key and `=` in the first word that begins with them
abbrev pub text_given : List ℕ → List (List ℕ) → Option (List ℕ)
text_given key [] = None
text_given key (word ∷ words) = option_or (after_key key word) (text_given key words)

-- the command's key that stands before a word's first `=`, and what stands behind it
unfoldable pub option_of : Subcommand → List ℕ → Option (Key × List ℕ)
option_of command word =
    if nat_lt (position_or_len (λ c. c == 61) word) (length word)
    then option_map (λ key. (key, after_first (λ c. c == 61) word)) (key_of command (before_first (λ c. c == 61) word))
    else None

-- what is wrong with a word that gives this key and text, or none: an unknown key, else a key that an earlier word
-- has, else a value that the key doesn't take
abbrev pub option_fault : List (List ℕ) → ℕ → Option (Key × List ℕ) → Option WordFault
option_fault earlier word None = Some (UnknownKey word)
option_fault earlier word (Some (key, text)) =
    if is_some (text_given (about key).name earlier) then Some (Repeated word)
    else (if accepts (about key).takes text then None else Some (BadValue word))

-- what is wrong with the words behind a command, if anything: the first fault of a word, or else the first file that the
-- command needs and no word names; words count from 1
abbrev pub fault_behind : Subcommand → List (List ℕ) → Option WordFault
fault_behind command words = option_or
    (first_fault (λ place. option_fault (take place words) (place + 2) (option_of command (slice_index_or words place []))) (length words))
    (option_map (λ which. MissingFile which)
    (find (λ which. needs command which && is_none (text_given (file.file_name which) words)) (Network ∷ Fleet ∷ Script ∷ Report ∷ [])))

-- why words are refused, if they are: the first word is no command, or else by what is wrong behind it
abbrev pub fault_of : List (List ℕ) → Option WordFault
fault_of [] = Some NoCommand
fault_of (word ∷ words) = option_map_or (λ command. fault_behind command words) (command_of word) (Some NoCommand)

-- why the words of `resume` are refused, if they are; the first is its name, and no other is asked for
abbrev pub resume_fault : List (List ℕ) → Option WordFault
resume_fault [] = Some NoCommand
resume_fault (word ∷ words) = fault_behind Resume words
