use Rattle.report_past.proofs.ItemLeftLemmas.{no_round_cut, no_round_first}
use Rattle.report_past.proofs.TakeLemmas.{starts_round}
use Rattle.report_past.proofs.item.round_first.Goals as goal

pub returns-in-Some-round_number-clause-start : goal.returns-in-Some-round_number-clause-start
returns-in-Some-round_number-clause-start c =
    starts_round c.args.text.now c.in-Some.line.now c.in-Some.after.now c.in-Some-round_number.number c.in-Some.ensures.0 c.in-Some-round_number.ensures.1

pub returns-in-Some-round_number-clause-low : goal.returns-in-Some-round_number-clause-low
returns-in-Some-round_number-clause-low c = c.in-Some-round_number.ensures.0

pub returns-in-None-round_number-clause-none : goal.returns-in-None-round_number-clause-none
returns-in-None-round_number-clause-none c = λ _.
    no_round_first c.a_line_between_blocks_has_no_feed.ensures c.args.text.now c.in-Some.line.now c.in-Some.after.now c.in-Some.ensures.0
    c.in-Some.ensures.1 c.in-None-round_number.ensures

pub returns-in-None-clause-none : goal.returns-in-None-clause-none
returns-in-None-clause-none c = λ _. no_round_cut c.args.text.now c.in-None.ensures
