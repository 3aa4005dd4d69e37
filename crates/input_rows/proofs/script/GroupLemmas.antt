use Rattle.std.proofs.Common.{rules, ◌≡◌, ◌≢◌, ℕ, ◌<◌, Bool, false, ◌&&◌, cond, eqb, List, [], ◌∷◌, ◌++◌, map, refl, arith}
use Rattle.input_rows.proofs.Common.{and_left, map-append, All-head, All-tail, filter-append, ScriptRow, commands_of, empty_round, with_command, round_of}
use Rattle.std.specs.List.{All}
use Rattle.std.proofs.lemmas.Bool.{ne_eqb}
use Rattle.std.proofs.lemmas.Bool.Decides.{nat_tests}
use Rattle.std.proofs.lemmas.List.{append-nil, length-set, get_or-set_same, get_or-set_other}
use Rattle.std.proofs.lemmas.List.FromFn.{length-map-range_with_len, get_or-map-range_with_len, fill_by_all}

-- two functions that agree on a list map it alike
pub map-agree : {X Y : Type 0} (f g : X → Y) (xs : List X) → All (λ x. f x ≡ g x) xs → map f xs ≡ map g xs
map-agree f g [] agree = refl
map-agree f g (x ∷ xs) agree = search (rules, All-head, All-tail, (map-agree f g xs))

-- whether a row is one of a round's lane
abbrev is_of : ℕ → ℕ → ScriptRow → Bool
is_of number lane script_row = eqb script_row.round number && eqb script_row.lane lane

-- one more row adds its command to its own round and lane
commands_of-push : (script_rows : List ScriptRow) (script_row : ScriptRow) (number lane : ℕ) →
    commands_of (script_rows ++ script_row ∷ []) number lane ≡ commands_of script_rows number lane ++ cond (is_of number lane script_row)
    (script_row.command ∷ []) []
commands_of-push script_rows script_row number lane = search (rules, filter-append, map-append)

-- the rows of other rounds and lanes add nothing
commands_of-push_other : (script_rows : List ScriptRow) (script_row : ScriptRow) (number lane : ℕ) → is_of number lane script_row ≡ false →
    commands_of (script_rows ++ script_row ∷ []) number lane ≡ commands_of script_rows number lane
commands_of-push_other script_rows script_row number lane other = search (rules, commands_of-push, append-nil)

-- a row's own round has its command at the end of its lane
pub round_of-push : (script_rows : List ScriptRow) (script_row : ScriptRow) → script_row.lane < 16 →
    round_of (script_rows ++ script_row ∷ []) script_row.round ≡ with_command (round_of script_rows script_row.round) script_row.lane script_row.command
round_of-push script_rows script_row within = grind (
  arith,
  nat_tests,
  length-map-range_with_len,
  get_or-map-range_with_len,
  commands_of-push,
  append-nil,
  get_or-set_same,
  get_or-set_other,
  fill_by_all,
  length-set,
)

-- another round stays as it was
pub round_of-push_other : (script_rows : List ScriptRow) (script_row : ScriptRow) (number : ℕ) → number ≢ script_row.round →
    round_of (script_rows ++ script_row ∷ []) number ≡ round_of script_rows number
round_of-push_other script_rows script_row number other = search (rules, and_left, ne_eqb, map-agree, commands_of-push_other)

-- rows of other rounds give no command
commands_of-none : (script_rows : List ScriptRow) (number lane : ℕ) → All (λ n. n ≢ number) (map (λ l. l.round) script_rows) →
    commands_of script_rows number lane ≡ []
commands_of-none [] number lane none = refl
commands_of-none (script_row ∷ script_rows) number lane none =
    let other = All-head (λ n. n ≢ number) script_row.round (map (λ l. l.round) script_rows) none in
    let rest = commands_of-none script_rows number lane (All-tail (λ n. n ≢ number) script_row.round (map (λ l. l.round) script_rows) none) in
    grind (arith, nat_tests)

-- a number that no row has gives a round without commands
pub round_of-none : (script_rows : List ScriptRow) (number : ℕ) → All (λ n. n ≢ number) (map (λ l. l.round) script_rows) →
    round_of script_rows number ≡ empty_round number
round_of-none script_rows number none = search (rules, map-agree, commands_of-none)
