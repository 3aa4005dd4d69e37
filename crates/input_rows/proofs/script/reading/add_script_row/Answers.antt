use Rattle.std.proofs.Common.{◌≡◌, ◌-◌, ◌++◌, [], ◌∷◌, true, false, length, set, sym, ap, ◌∙◌}
use Rattle.input_rows.proofs.Common.{on_ok_weaker, joins}
use Rattle.input_rows.proofs.script.ScriptLemmas.{with_script_row-begins, added_to_last}
use Rattle.input_rows.proofs.script.reading.add_script_row.Goals as goal

pub returns-then-joins-clause-added : goal.returns-then-joins-clause-added
returns-then-joins-clause-added c =
    let rounds = c.args.rounds.now in
    let script_row = c.args.script_row in
    let count = c.len-last.result in
    let joined : joins rounds.items script_row.round ≡ true =
    ap (λ rs. joins rs script_row.round) (sym c.deref.ensures.value) ∙ sym c.joins.ensures.value ∙ c.if-joins.true in
    let size : count ≡ length rounds.items = c.len-last.ensures ∙ sym c.deref.ensures.len ∙ ap length c.deref.ensures.value in
    on_ok_weaker c.add.result
    (λ new. ap (set rounds.items (count - 1)) new ∙ added_to_last rounds.items script_row count c.index_mut.result.now joined size c.index_mut.ensures.value)
    c.add.ensures.added

pub returns-clause-added : goal.returns-clause-added
returns-clause-added c =
    let items = c.args.rounds.now.items in
    let script_row = c.args.script_row in
    let apart : joins items script_row.round ≡ false =
    ap (λ rs. joins rs script_row.round) (sym c.deref.ensures.value) ∙ sym c.joins.ensures.value ∙ c.if-joins.false in
    c.in_ok-push.ensures.items
    ∙ ap (λ r. items ++ r ∷ []) c.in_ok-round.ensures.begun
    ∙ sym (with_script_row-begins items script_row apart)
