use Rattle.std.proofs.Common.{◌++◌, ◌∷◌, subst, arith}
use Rattle.report_past.proofs.PastLeftLemmas.{refused_first, refused_on, stays_here, stays_on}
use Rattle.report_past.proofs.TakeLemmas.{dropped_none, empty_list, shorter_rest}
use Rattle.report_past.specs.work.Reading.{stand, start_text}
use Rattle.report_past.specs.work.Taking.{Reached}
use Rattle.report_past.proofs.past.read_items.Goals as goal

pub items-init : goal.items-init
items-init g c = (
  c.requires,
  stays_here c.args.context.now.settings.now c.args.context.now.network.now
      (stand c.args.last.now c.args.book.now c.args.open.now c.args.notices.now.items) c.args.context.now.text.now,
)

pub take_item-requires-after_bounds : goal.take_item-requires-after_bounds
take_item-requires-after_bounds g c κs within =
    let is = rw c.in-Ok-Some.field-0-is at c.in-Ok-Some.ensures.found in
    subst (Reached c.args.context.now.settings.now c.args.context.now.network.now c.args.context.now.fleet.now c.args.context.now.judge
    c.args.context.now.text.now (stand c.items.last c.items.book c.items.open c.items.notices.items)) is.0 c.items.invariant.0

pub items-smaller : goal.items-smaller
items-smaller g c =
    let is = rw c.in-Ok-Some.field-0-is at c.in-Ok-Some.ensures.found in
    shorter_rest c.items.rest.now (start_text c.in-Ok-Some.item.round) c.in-Ok-Some.item.line.now c.in-Ok-Some.item.after.now c.in-Ok.after.now is.0
    c.in-Ok.ensures.shorter

pub items-preserved : goal.items-preserved
items-preserved g c =
    let is = rw c.in-Ok-Some.field-0-is at c.in-Ok-Some.ensures.found in (
      c.in-Ok.ensures.reached,
      stays_on c.args.context.now.settings.now c.args.context.now.network.now
          (stand c.args.last.now c.args.book.now c.args.open.now c.args.notices.now.items) (stand c.items.last c.items.book c.items.open c.items.notices.items)
          c.args.context.now.text.now c.items.rest.now c.items.invariant.1
          (stand c.take_item.new.last c.take_item.new.book c.take_item.new.open c.take_item.new.notices.items)
          (start_text c.in-Ok-Some.item.round ++ (c.in-Ok-Some.item.line.now ++ 10 ∷ c.in-Ok-Some.item.after.now)) c.in-Ok.after.now is.0
          (c.in-Ok.ensures.left is.1),
    )

pub returns-in-Err-take_item-clause-refused : goal.returns-in-Err-take_item-clause-refused
returns-in-Err-take_item-clause-refused g c = λ fails.
    let is = rw c.in-Ok-Some.field-0-is at c.in-Ok-Some.ensures.found in
    refused_on c.args.context.now.settings.now c.args.context.now.network.now
    (stand c.args.last.now c.args.book.now c.args.open.now c.args.notices.now.items) (stand c.items.last c.items.book c.items.open c.items.notices.items)
    c.args.context.now.text.now c.items.rest.now c.items.invariant.1
    (start_text c.in-Ok-Some.item.round ++ (c.in-Ok-Some.item.line.now ++ 10 ∷ c.in-Ok-Some.item.after.now)) is.0
    (c.in-Err-take_item.ensures.refused fails is.1)

pub returns-in-Ok-None-clause-reached : goal.returns-in-Ok-None-clause-reached
returns-in-Ok-None-clause-reached g c =
    let dropped = rw c.in-Ok-None.field-0-is at c.in-Ok-None.ensures.found in (dropped, c.items.invariant.0)

pub returns-in-Err-clause-refused : goal.returns-in-Err-clause-refused
returns-in-Err-clause-refused g c = λ fails.
    refused_first c.args.context.now.settings.now c.args.context.now.network.now
    (stand c.args.last.now c.args.book.now c.args.open.now c.args.notices.now.items) (stand c.items.last c.items.book c.items.open c.items.notices.items)
    c.args.context.now.text.now c.items.rest.now c.items.invariant.1 c.in-Err.ensures.refused

pub returns-clause-reached : goal.returns-clause-reached
returns-clause-reached g c =
    (dropped_none c.items.rest.now (empty_list c.items.rest.now (grind (arith, c.is_empty.ensures, c.items-test.false))), c.items.invariant.0)
