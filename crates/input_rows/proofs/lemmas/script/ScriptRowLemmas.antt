use Rattle.std.proofs.Common.{◌≡◌, ℕ, false, not, eqb, nat_lt, List, Ok, refl, subst, arith}
use Rattle.input_rows.proofs.Common.{
  field_at,
  refused_where,
  then_ok,
  refused_where-passed,
  Command,
  Number,
  LaneRange,
  RoundBack,
  UnknownCommand,
  ExtraField,
  SealLane,
  ScriptRow,
  ScriptVersion,
  three_in,
  command_in,
  leaves_empty,
  script_row_in,
  IsBehind,
  MayStand,
  round_before,
}
use Rattle.std.specs.Option.{ok_or}
use Rattle.std.proofs.lemmas.Bool.{ltb-false}
use Rattle.std.proofs.lemmas.Bool.Decides.{nat_tests}
use Rattle.pool_base.specs.Numeral.{number_in, number_at, number_up_to}
use Rattle.pool_base.proofs.lemmas.NumeralLemmas.{number_in-at, number_in-within}
use Rattle.request_book.specs.declared.values.command.Command.TheVariants.{Seal as seal, Close as close}
use Rattle.input_rows.specs.declared.script.word.Word.{Word}
use Rattle.input_rows.specs.declared.script.word.Word.TheVariants.{Seal}
use Rattle.input_rows.specs.script.Word.{word_of}

-- before the first row stands round 0
pub round_before-first : (records : List (List (List ℕ))) → round_before records 0 ≡ 0
unfolding number_up_to
round_before-first records = refl

-- a command by its word stands where its word may
MayStand-command_in : (version : ScriptVersion) (row : ℕ) (fields : List (List ℕ)) (word : Word) (command : Command) (lane : ℕ) →
    command_in version row fields word ≡ Ok command → (elim word [ Seal ↦ not (eqb lane 0) | _ ↦ false ]) ≡ false → MayStand lane command
unfolding command_in three_in
MayStand-command_in version row fields word (seal now) lane is stands = grind (arith, nat_tests)
MayStand-command_in version row fields word (close batch outcome) lane is stands = grind (arith, nat_tests)
MayStand-command_in version row fields word _ lane is stands = tt

-- what is known of a row that is read: it stands behind the row before, and its round is the number in its first column
pub record IsRead (fields : List (List ℕ)) (last : ℕ) (script_row : ScriptRow) : Type 0 where
  pub behind : IsBehind last script_row
  pub named : script_row.round ≡ number_at fields 0

pub IsRead-script_row_in : (version : ScriptVersion) (row last : ℕ) (fields : List (List ℕ)) (script_row : ScriptRow) →
    script_row_in version row last fields ≡ Ok script_row → IsRead fields last script_row
unfolding script_row_in
IsRead-script_row_in version row last fields script_row is =
    then_ok (number_in Number row fields 0) _ script_row (IsRead fields last script_row) is (λ round numbered is.
    then_ok (number_in Number row fields 1) _ script_row (IsRead fields last script_row) is (λ lane _ is.
    then_ok (refused_where (nat_lt 15 lane) (LaneRange row)) _ script_row (IsRead fields last script_row) is (λ u in_range is.
    then_ok (refused_where (nat_lt round last) (RoundBack row)) _ script_row (IsRead fields last script_row) is (λ v forward is.
    then_ok (ok_or (word_of (field_at fields 2)) (UnknownCommand row)) _ script_row (IsRead fields last script_row) is (λ word _ is.
    then_ok (command_in version row fields word) _ script_row (IsRead fields last script_row) is (λ command read is.
    then_ok (refused_where (not (leaves_empty version fields word)) (ExtraField row)) _ script_row (IsRead fields last script_row) is (λ w _ is.
    then_ok (refused_where (elim word [ Seal ↦ not (eqb lane 0) | _ ↦ false ]) (SealLane row)) _ script_row (IsRead fields last script_row) is (λ x stands is.
    let same : record { round = round; lane = lane; command = command } ≡ script_row = cc in
    subst (IsRead fields last) same (record {
      named = number_in-at Number row fields 0 round numbered;
      behind = record {
        number = number_in-within Number row fields 0 round numbered;
        round = ltb-false round last (refused_where-passed (nat_lt round last) (RoundBack row) v forward);
        lane = (let most = ltb-false 15 lane (refused_where-passed (nat_lt 15 lane) (LaneRange row) u in_range) in omega arith);
        stands = MayStand-command_in version row fields word command lane read (refused_where-passed (elim word [ Seal ↦ not (eqb lane 0) | _ ↦ false ])
            (SealLane row) x stands);
      };
    })))))))))
