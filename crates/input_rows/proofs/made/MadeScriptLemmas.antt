use Rattle.std.proofs.Common.{
  rules,
  ◌≡◌,
  ℕ,
  zero,
  suc,
  ◌+◌,
  ◌-◌,
  ◌*◌,
  ◌%◌,
  ◌<◌,
  ◌≤◌,
  Bool,
  true,
  false,
  cond,
  ltb,
  List,
  [],
  ◌∷◌,
  Ok,
  Err,
  map,
  length,
  get_or,
  unwrap_or,
  refl,
  sym,
  ap,
  ◌∙◌,
  arith,
}
use Rattle.input_rows.proofs.Common.{
  length-map,
  mod_below,
  Stream,
  next_u64,
  ◌>>=◌,
  all_or_first,
  number_at,
  all_or_first-all,
  LoadShape,
  Field,
  draw,
  plain,
  both,
  each,
  draws_of,
  nothing,
  all_reports,
  other_than,
  seal_row,
  reports,
  submits,
  script_part,
  fleet_part,
  network_part,
  drawn_node,
  report_row,
  submit_row,
  batch_rows,
}
use Rattle.std.proofs.lemmas.Bool.{le-ltb}
use Rattle.std.proofs.Math.Nat.{mul-le-mul}
use Rattle.request_book.specs.declared.values.command.Command.{Command}
use Rattle.input_rows.specs.declared.script.fault.ScriptFault.TheVariants.{TooManyRows}
use Rattle.input_rows.specs.declared.script.version.ScriptVersion.TheVariants.{One}
use Rattle.input_rows.specs.script.Word.{word_of}
use Rattle.input_rows.specs.script.ScriptRow.{party_in, three_in, command_in, leaves_empty, script_row_in}
use Rattle.input_rows.specs.script.Round.{NumberedLanes}
use Rattle.input_rows.specs.script.Script.{script_of}
use Rattle.input_rows.specs.lemmas.script.Named.{script_row_at, round_before, rounds_of}
use Rattle.input_rows.proofs.lemmas.script.ScriptRowLemmas.{round_before-first}
use Rattle.input_rows.proofs.made.FieldLemmas.{AllFit, small_number}
use Rattle.input_rows.proofs.made.TextLemmas.{fields_of, RowsFit}
use Rattle.input_rows.proofs.made.PartLemmas.{Step, Lead, Lead-fit, IsPart, IsPart-nothing, IsPart-both, IsPart-each, IsPart-cond}
use Rattle.input_rows.proofs.made.MadeFleetLemmas.{drawn_small}
use Rattle.request_book.specs.declared.values.command.Command.TheVariants as command
use Rattle.input_rows.specs.declared.made.row.Field.TheVariants as field

-- the row of a command of this round, which is accepted behind a row of this round or an earlier one
pub record IsLine (round : ℕ) (row : List Field) : Type 0 where
  pub long : length row ≡ 7
  pub fits : AllFit row
  pub lane : ℕ
  pub command : Command
  pub named : number_at (fields_of row) 0 ≡ round
  pub given : (number last : ℕ) → last ≤ round → script_row_in One number last (fields_of row) ≡ Ok (record { round = round; lane = lane; command = command })

-- a row of a command of a round between two numbers
abbrev pub LineStep : Step
LineStep low row next = (round : ℕ) × (low ≤ round) × (round ≤ next) × IsLine round row

-- a row alone
one_line : (low round high : ℕ) (row : List Field) → low ≤ round → round ≤ high → IsLine round row → Lead LineStep low high (row ∷ [])
one_line low round high row below above line = (high, (round, below, above, line), refl)

-- the number in a row's first column
named_first : (n : ℕ) (fields : List Field) → n ≤ 1000000000 → number_at (fields_of (field.Number n ∷ fields)) 0 ≡ n
named_first n fields small = ap (λ o. unwrap_or o 0) (small_number n small)

-- the reports of a batch
IsLines-report : (shape : LoadShape) (k v : ℕ) → 2 ≤ shape.side → shape.side ≤ 100 → k < 100 → v ≤ 500 →
    IsPart LineStep (2 * k) (2 * k) 1 (report_row shape k v)
unfolding report_row script_row_in command_in three_in leaves_empty word_of
IsLines-report shape k v two small early few = record {
  lead = λ s.
      let node : ℕ = (drawn_node shape.side s).0 in
      let node_small : node ≤ 1000000000 = drawn_small shape.side s two small in
      one_line (2 * k) (2 * k) (2 * k) (field.Number (2 * k) ∷ field.Number 0 ∷ field.Report ∷ field.Number v ∷ field.Number node ∷ field.Number (60 * k) ∷
      field.Empty ∷ []) (omega arith) (omega arith)
      (record {
        long = refl;
        named = named_first (2 * k) [] (omega arith);
        fits = (omega arith, (omega arith, (tt, (omega arith, (node_small, (omega arith, (tt, tt)))))));
        lane = 0;
        command = command.Report v node (60 * k);
        given = λ number last behind.
            rw (
              small_number (2 * k) (omega arith),
              small_number 0 (omega arith),
              small_number v (omega arith),
              small_number node node_small,
              small_number
                  (60 * k) (omega arith),
              le-ltb (2 * k) last behind,
            ) refl;
      });
  few = λ s. omega arith;
}

IsLines-reports : (shape : LoadShape) (k : ℕ) → 2 ≤ shape.side → shape.side ≤ 100 → shape.vehicles ≤ 500 → k < 100 →
    IsPart LineStep (2 * k) (2 * k) (shape.vehicles * 1) (reports shape k)
unfolding reports all_reports
IsLines-reports shape k two small few early =
    IsPart-cond LineStep (2 * k) (2 * k) (shape.vehicles * 1) (ltb 0 k) (each (λ n. report_row shape k (n + 1)) shape.vehicles) nothing
    (IsPart-each LineStep (λ n. 2 * k) 1 (λ n. report_row shape k (n + 1)) shape.vehicles (λ n below. IsLines-report shape k (n + 1) two small early
    (omega arith)))
    (IsPart-nothing LineStep (2 * k) (shape.vehicles * 1))

other_small_by : (origin n : ℕ) (c : Bool) → cond c n (n + 1) ≤ n + 1
other_small_by origin n true = omega arith
other_small_by origin n false = omega arith

-- the requests of a batch
IsLines-submit : (shape : LoadShape) (k m : ℕ) → 2 ≤ shape.side → shape.side ≤ 100 → shape.riders ≤ 1000 → k < 100 → m ≤ 1000 →
    IsPart LineStep (2 * k) (2 * k) 1 (submit_row shape k m)
unfolding submit_row draw script_row_in command_in party_in leaves_empty word_of
IsLines-submit shape k m two small few early within = record {
  lead = λ s.
      let least : 2 * 2 ≤ shape.side * shape.side = mul-le-mul two two in
      let most : shape.side * shape.side ≤ 100 * 100 = mul-le-mul small small in
      let origin : ℕ = (drawn_node shape.side s).0 in
      let origin_small : origin ≤ 1000000000 = drawn_small shape.side s two small in
      let rest : Stream = (drawn_node shape.side s).1 in
      let drawn : ℕ = (next_u64 rest).0 % (shape.side * shape.side - 1) in
      let drawn_below : drawn < shape.side * shape.side - 1 = mod_below (next_u64 rest).0 (shape.side * shape.side - 1) (omega (arith, least)) in
      let destination : ℕ = other_than origin (1 + drawn) in
      let destination_most : destination ≤ 1 + drawn + 1 = other_small_by origin (1 + drawn) (ltb (1 + drawn) origin) in
      let destination_small : destination ≤ 1000000000 = omega (arith, destination_most, drawn_below, most) in
      let later : Stream = (next_u64 rest).1 in
      let second : ℕ = (next_u64 later).0 % 60 in
      let second_below : second < 60 = mod_below (next_u64 later).0 60 (omega arith) in
      let third : m % 3 < 3 = mod_below m 3 (omega arith) in
      let ids : k * shape.riders ≤ 100 * 1000 = mul-le-mul (let low : k ≤ 100 = omega arith in low) few in
      one_line (2 * k) (2 * k) (2 * k)
      (field.Number (2 * k) ∷ field.Number (1 + m % 3) ∷ field.Submit ∷ field.Number (k * shape.riders + m) ∷ field.Number origin ∷ field.Number destination ∷
      field.Number (60 * k + second) ∷ []) (omega arith) (omega arith)
      (record {
        long = refl;
        named = named_first (2 * k) [] (omega arith);
        fits = (omega arith, (omega (arith, third), (tt, (omega (arith, ids), (origin_small, (destination_small, (omega (arith, second_below), tt)))))));
        lane = 1 + m % 3;
        command = command.Submit (k * shape.riders + m) origin destination (60 * k + second) 1;
        given = λ number last behind.
            let rider = small_number (k * shape.riders + m) (omega (arith, ids)) in
            rw (
              small_number (2 * k) (omega arith),
              small_number (1 + m % 3) (omega (arith, third)),
              rider,
              small_number origin origin_small,
              small_number destination destination_small,
              small_number (60 * k + second) (omega (arith, second_below)),
              le-ltb 15 (1 + m % 3) (omega (arith, third)),
              le-ltb (2 * k) last behind,
            ) refl;
      });
  few = λ s. omega arith;
}

IsLines-submits : (shape : LoadShape) (k : ℕ) → 2 ≤ shape.side → shape.side ≤ 100 → shape.riders ≤ 1000 → k < 100 →
    IsPart LineStep (2 * k) (2 * k) (shape.riders * 1) (submits shape k)
unfolding submits
IsLines-submits shape k two small few early =
    IsPart-each LineStep (λ n. 2 * k) 1 (λ n. submit_row shape k (n + 1)) shape.riders (λ n below. IsLines-submit shape k (n + 1) two small few early
    (omega arith))

-- the seal of a batch, before the round of the next
IsLines-seal : (k : ℕ) → k < 100 → IsPart LineStep (2 * k) (2 * suc k) 1 (plain (seal_row k ∷ []))
unfolding script_row_in command_in leaves_empty word_of
IsLines-seal k early = record {
  lead = λ s.
      one_line (2 * k) (2 * k + 1) (2 * suc k) (seal_row k) (omega arith) (omega arith)
      (record {
        long = refl;
        named = named_first (2 * k + 1) [] (omega arith);
        fits = (omega arith, (omega arith, (tt, (omega arith, (tt, (tt, (tt, tt)))))));
        lane = 0;
        command = command.Seal (60 * (k + 1));
        given = λ number last behind.
            rw (small_number (2 * k + 1) (omega arith), small_number 0 (omega arith), small_number (60 * (k + 1)) (omega arith), le-ltb (2 * k + 1) last behind)
            refl;
      });
  few = λ s. omega arith;
}

IsLines-batch : (shape : LoadShape) (k : ℕ) → 2 ≤ shape.side → shape.side ≤ 100 → shape.vehicles ≤ 500 → shape.riders ≤ 1000 → k < 100 →
    IsPart LineStep (2 * k) (2 * suc k) (shape.vehicles * 1 + (shape.riders * 1 + 1)) (batch_rows shape k)
unfolding batch_rows reports all_reports submits
IsLines-batch shape k two small vehicles riders early =
    IsPart-both LineStep (2 * k) (2 * k) (2 * suc k) (shape.vehicles * 1) (shape.riders * 1 + 1) (reports shape k)
    (both (submits shape k) (plain (seal_row k ∷ [])))
    (IsLines-reports shape k two small vehicles early)
    (IsPart-both LineStep (2 * k) (2 * k) (2 * suc k) (shape.riders * 1) 1 (submits shape k) (plain (seal_row k ∷ []))
    (IsLines-submits shape k two small riders early) (IsLines-seal k early))

IsLines-script : (shape : LoadShape) → 2 ≤ shape.side → shape.side ≤ 100 → shape.vehicles ≤ 500 → shape.riders ≤ 1000 → shape.rounds ≤ 100 →
    IsPart LineStep 0 (2 * shape.rounds) (shape.rounds * (shape.vehicles * 1 + (shape.riders * 1 + 1))) (script_part shape)
unfolding script_part
IsLines-script shape two small vehicles riders rounds =
    IsPart-each LineStep (λ k. 2 * k) (shape.vehicles * 1 + (shape.riders * 1 + 1)) (batch_rows shape) shape.rounds
    (λ k below. IsLines-batch shape k two small vehicles riders (omega arith))

line_fits : (low next : ℕ) (row : List Field) → LineStep low row next → (length row ≡ 7) × AllFit row
line_fits low next row step = search rules

-- the round before a row, where the rows stand behind a row of this round
abbrev round_behind : ℕ → List (List (List ℕ)) → ℕ → ℕ
round_behind low records zero = low
round_behind low records (suc k) = number_at (get_or records k []) 0

same_before : (records : List (List (List ℕ))) (k : ℕ) → round_before records k ≡ round_behind 0 records k
same_before records zero = round_before-first records
same_before records (suc k) = refl

-- the row before a row of the rest
behind_first : (low round : ℕ) (row : List Field) (rows : List (List Field)) (k : ℕ) → number_at (fields_of row) 0 ≡ round →
    round_behind round (map fields_of rows) k ≡ round_behind low (map fields_of (row ∷ rows)) (suc k)
behind_first low round row rows zero named = sym named
behind_first low round row rows (suc k) named = refl

-- rows of commands whose rounds never fall are accepted, each behind the one before
lines_given : (last low high : ℕ) (rows : List (List Field)) (number k : ℕ) → last ≤ low → Lead LineStep low high rows → k < length rows →
    (line : _) × (script_row_in One number (round_behind last (map fields_of rows) k) (get_or (map fields_of rows) k []) ≡ Ok line)
lines_given last low high [] number k behind lead below = absurd (omega (arith, below))
lines_given last low high (row ∷ rows) number zero behind lead below =
    let line : IsLine lead.1.0 row = lead.1.3 in
    (record { round = lead.1.0; lane = line.lane; command = line.command }, line.given number last (omega (arith, behind, lead.1.1)))
lines_given last low high (row ∷ rows) number (suc k) behind lead below = search (
  rules,
  fields_of,
  behind_first,
  (lines_given lead.1.0 lead.0 high rows number k lead.1.2 lead.2),
)

-- the rounds that rows give
script_given : (high : ℕ) (rows : List (List Field)) → Lead LineStep 0 high rows → length rows ≤ 200000 →
    (rounds : List NumberedLanes) × (script_of One (map fields_of rows) ≡ Ok rounds)
script_given high rows lines few =
    let records : List (List (List ℕ)) = map fields_of rows in
    let size : length records ≡ length rows = length-map rows fields_of in
    let given = all_or_first-all (script_row_at One records) (length records)
    (λ k below.
    let line = lines_given 0 0 high rows (k + 1) k (omega arith) lines (omega (arith, below, size)) in
    (line.0, ap (λ last. script_row_in One (k + 1) last (get_or records k [])) (same_before records k) ∙ line.1)) in
    let is = ap (λ b. cond b (Err TooManyRows) (all_or_first (script_row_at One records) (length records) >>= λ ls. Ok (rounds_of ls)))
    (le-ltb 200000 (length records) (omega (arith, size, few)))
    ∙ ap (λ r. r >>= λ ls. Ok (rounds_of ls)) given.1 in
    (rounds_of given.0, is)

-- the rows of the script of a shape
abbrev pub input_rows : LoadShape → List (List Field)
input_rows shape = (script_part shape (fleet_part shape (network_part shape (draws_of shape.seed)).1).1).0

-- the rows of a shape's script give its rounds
pub script_accepted : (shape : LoadShape) → 2 ≤ shape.side → shape.side ≤ 100 → shape.vehicles ≤ 500 → shape.riders ≤ 1000 → shape.rounds ≤ 100 →
    RowsFit 7 (input_rows shape) × (rounds : List NumberedLanes) × (script_of One (map fields_of (input_rows shape)) ≡ Ok rounds)
script_accepted shape two small vehicles riders rounds =
    let is : IsPart LineStep 0 (2 * shape.rounds) (shape.rounds * (shape.vehicles * 1 + (shape.riders * 1 + 1))) (script_part shape) =
    IsLines-script shape two small vehicles riders rounds in
    let draws : Stream = (fleet_part shape (network_part shape (draws_of shape.seed)).1).1 in
    let lines : Lead LineStep 0 (2 * shape.rounds) (input_rows shape) = is.lead draws in
    let count : length (input_rows shape) ≤ shape.rounds * (shape.vehicles * 1 + (shape.riders * 1 + 1)) = is.few draws in
    let batch : shape.vehicles * 1 + (shape.riders * 1 + 1) ≤ 1501 = omega (arith, vehicles, riders) in
    let most : shape.rounds * (shape.vehicles * 1 + (shape.riders * 1 + 1)) ≤ 100 * 1501 = mul-le-mul rounds batch in
    let given = script_given (2 * shape.rounds) (input_rows shape) lines (omega (arith, count, most)) in
    (Lead-fit LineStep 7 line_fits 0 (2 * shape.rounds) (input_rows shape) lines, given.0, given.1)
