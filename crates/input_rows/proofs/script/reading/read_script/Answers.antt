use Rattle.std.proofs.Common.{◌≡◌, All, suc, ◌+◌, ◌<◌, ◌≤◌, [], ◌∷◌, ◌++◌, length, refl, Ok, Err, sym, ap, subst, ◌∙◌, arith}
use Rattle.input_rows.proofs.Common.{All-nil, IsRound, err_from_is_err_and, record_at, all_or_first-ok, round_before, script_row_at}
use Rattle.input_rows.proofs.lemmas.script.ScriptRowLemmas.{IsRead-script_row_in, round_before-first}
use Rattle.input_rows.proofs.script.ScriptLemmas.{Built, Built-none, Built-more, with_script_row-kept, script_row_at-read, script_of-refused, script_of-all}
use Rattle.input_rows.proofs.script.reading.read_script.Goals as goal

pub loop-row-init : goal.loop-row-init
loop-row-init c = record {
  script_rows = [];
  read = refl;
  built = subst (Built [] 0) (sym c.new-rounds.ensures.items) Built-none;
  before =
      sym (round_before-first c.args.rows.now.records);
  kept = subst (All IsRound) (sym c.new-rounds.ensures.items) (All-nil IsRound);
}

pub returns-in_err-script_row-clause-refused : goal.returns-in_err-script_row-clause-refused
returns-in_err-script_row-clause-refused c =
    let p = err_from_is_err_and c.from_residual.result c.from_residual.ensures.1 in
    let records = c.args.rows.now.records in
    let row = c.loop-row.row in
    let kept = c.loop-row.invariant in
    let fault = c.in_err-script_row.field-0.0 in
    let few : length records ≤ 200000 = omega arith in
    let within : row < length records = omega arith in
    rw (p.1, p.2) (λ _.
    script_of-refused c.args.version records row kept.script_rows fault few within kept.read
    (script_row_at-read c.args.version records row c.loop-row.last (Err fault) kept.before (sym c.in_err-script_row.ensures)))

pub add_script_row-requires : goal.add_script_row-requires
add_script_row-requires c =
    let read = IsRead-script_row_in c.args.version (c.loop-row.row + 1) c.loop-row.last (record_at c.args.rows.now c.loop-row.row) c.in_ok-script_row.script_row
    (sym c.in_ok-script_row.ensures) in
    record { round = omega arith; number = read.behind.number; lane = read.behind.lane; stands = read.behind.stands }

pub loop-row-preserved : goal.loop-row-preserved
loop-row-preserved c =
    let version = c.args.version in
    let records = c.args.rows.now.records in
    let row = c.loop-row.row in
    let kept = c.loop-row.invariant in
    let script_row = c.in_ok-script_row.script_row in
    let is = sym c.in_ok-script_row.ensures in
    let read = IsRead-script_row_in version (row + 1) c.loop-row.last (record_at c.args.rows.now row) script_row is in
    let next : suc row ≡ row + 1 = omega arith in
    record {
      script_rows = kept.script_rows ++ script_row ∷ [];
      read = all_or_first-ok (script_row_at version records) row kept.script_rows script_row kept.read
          (script_row_at-read version records row c.loop-row.last (Ok script_row) kept.before is);
      built = subst (Built (kept.script_rows ++ script_row ∷ []) script_row.round) (sym c.in_ok-add_script_row.ensures.added)
          (Built-more kept.script_rows c.loop-row.last c.loop-row.rounds.items script_row kept.built read.behind);
      before = read.named ∙ ap (round_before records) next;
      kept = subst (All IsRound) (sym c.in_ok-add_script_row.ensures.added) (with_script_row-kept c.loop-row.rounds.items script_row c.loop-row.last kept.kept
          read.behind);
    }

pub returns-clause-accepted : goal.returns-clause-accepted
returns-clause-accepted c =
    let records = c.args.rows.now.records in
    let kept = c.loop-row.invariant in
    let few : length records ≤ 200000 = omega arith in
    let all : c.loop-row.row ≡ length records = omega arith in
    script_of-all c.args.version records c.loop-row.row kept.script_rows few all kept.read
    ∙ ap (λ rounds. Ok rounds) (sym kept.built.made ∙ sym c.of.ensures)
