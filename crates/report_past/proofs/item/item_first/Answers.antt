use Rattle.std.proofs.Common.{◌≡◌, ◌++◌, [], ap, length, subst, ◌∙◌, arith}
use Rattle.std.proofs.lemmas.Result.{err_from_is_err_and}
use Rattle.report_audit.specs.declared.lines.next.NextLine.{NextLine}
use Rattle.report_audit.specs.lines.Next.{IsNextLine}
use Rattle.report_past.specs.work.Reading.{start_text}
use Rattle.report_past.proofs.ItemLeftLemmas.{bad_done, bad_round, no_next}
use Rattle.report_past.proofs.TakeLemmas.{dropped_done, dropped_end, empty_list}
use Rattle.report_past.proofs.item.item_first.Goals as goal

pub returns-then-is_empty-clause-found : goal.returns-then-is_empty-clause-found
returns-then-is_empty-clause-found c =
    let none = empty_list c.round_first-round.result.1.now (grind (arith, c.is_empty.ensures, c.if-is_empty.true)) in
    dropped_end c.args.rest.now c.round_first-round.result.1.now c.round_first-round.result.0 c.round_first-round.ensures.start none

pub returns-in_err-next-clause-refused : goal.returns-in_err-next-clause-refused
returns-in_err-next-clause-refused c =
    let p = err_from_is_err_and c.from_residual.result c.from_residual.ensures.1 in
    let some : c.round_first-round.result.1.now ≡ [] → ⊥ = λ none. grind (arith, c.is_empty.ensures, c.if-is_empty.false, ap length none) in
    rw p.1 (no_next c.a_line_between_blocks_has_no_feed.ensures c.a_line_is_of_one_kind.ensures c.args.rest.now c.round_first-round.result.1.now
    c.round_first-round.result.0 c.round_first-round.ensures.start c.round_first-round.ensures.low c.round_first-round.ensures.none some
    c.in_err-next.ensures.none)

pub returns-in-Entry-clause-found : goal.returns-in-Entry-clause-found
returns-in-Entry-clause-found c = (
  c.round_first-round.ensures.start ∙ ap (λ t. start_text c.round_first-round.result.0 ++ t) c.in_ok-next.ensures.first.0,
  (c.round_first-round.ensures.low, subst (λ (x : NextLine). IsNextLine x c.in_ok-next.next.line.now) c.in-Entry.is c.in_ok-next.ensures.first.2),
)

pub returns-then-is_empty-2-clause-found : goal.returns-then-is_empty-2-clause-found
returns-then-is_empty-2-clause-found c =
    let none = empty_list c.in_ok-next.next.after.now (grind (arith, c.is_empty-in-Done.ensures, c.if-is_empty-2.true)) in
    let is = subst (λ (x : NextLine). IsNextLine x c.in_ok-next.next.line.now) c.in-Done.is c.in_ok-next.ensures.first.2 in
    dropped_done c.args.rest.now c.round_first-round.result.1.now c.in_ok-next.next.line.now c.in_ok-next.next.after.now c.round_first-round.result.0
    c.in-Done.entries c.round_first-round.ensures.start c.in_ok-next.ensures.first.0 is.1 none

pub returns-else-is_empty-2-clause-refused : goal.returns-else-is_empty-2-clause-refused
returns-else-is_empty-2-clause-refused c =
    let some : c.in_ok-next.next.after.now ≡ [] → ⊥ = λ none. grind (arith, c.is_empty-in-Done.ensures, c.if-is_empty-2.false, ap length none) in
    let is = subst (λ (x : NextLine). IsNextLine x c.in_ok-next.next.line.now) c.in-Done.is c.in_ok-next.ensures.first.2 in
    bad_done c.a_line_between_blocks_has_no_feed.ensures c.a_line_is_of_one_kind.ensures c.args.rest.now c.round_first-round.result.1.now
    c.round_first-round.result.0 c.round_first-round.ensures.start c.round_first-round.ensures.low c.round_first-round.ensures.none
    c.in_ok-next.next.line.now c.in_ok-next.next.after.now c.in_ok-next.ensures.first.0 c.in_ok-next.ensures.first.1 c.in-Done.entries is some

pub returns-in-Round-clause-refused : goal.returns-in-Round-clause-refused
returns-in-Round-clause-refused c =
    let is = subst (λ (x : NextLine). IsNextLine x c.in_ok-next.next.line.now) c.in-Round.is c.in_ok-next.ensures.first.2 in
    bad_round c.a_line_between_blocks_has_no_feed.ensures c.a_line_is_of_one_kind.ensures c.args.rest.now c.round_first-round.result.1.now
    c.round_first-round.result.0 c.round_first-round.ensures.start c.round_first-round.ensures.low c.round_first-round.ensures.none
    c.in_ok-next.next.line.now c.in_ok-next.next.after.now c.in_ok-next.ensures.first.0 c.in_ok-next.ensures.first.1 c.in-Round._number is
