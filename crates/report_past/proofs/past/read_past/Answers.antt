use Rattle.std.proofs.lemmas.Result.{err_from_is_err_and}
use Rattle.report_past.proofs.PastLeftLemmas.{past_fails}
use Rattle.report_past.proofs.TakeLemmas.{past_is, reached_start}
use Rattle.report_past.specs.work.Reading.{stand}
use Rattle.report_past.proofs.past.read_past.Goals as goal

pub read_items-requires-after_bounds : goal.read_items-requires-after_bounds
read_items-requires-after_bounds g c κs within =
    reached_start c.args.settings.now c.args.network.now c.args.fleet.now c.args.judge c.split_at.result.0.now c.in_ok-book.book c.new-notices.result.items
    c.in_ok-book.ensures c.new-notices.ensures.items

pub returns-in-Ok-give_up-clause-past : goal.returns-in-Ok-give_up-clause-past
returns-in-Ok-give_up-clause-past g c =
    past_is c.args.settings.now c.args.network.now c.args.fleet.now c.args.judge c.args.text.now c.split_at.result.0.now
    c.split_at-in-Ok-give_up.result.0.now c.in-Ok.rest.now c.whole_size-size.result
    (stand c.read_items.new.last c.read_items.new.book c.read_items.new.open c.read_items.new.notices.items) c.give_up.new.book c.split_at.ensures.front
    c.whole_size-size.ensures.within c.whole_size-size.ensures.whole c.whole_size-size.ensures.longest c.in-Ok.ensures.reached.1 c.in-Ok.ensures.reached.0
    c.split_at-in-Ok-give_up.ensures.front c.in-Ok-give_up.ensures.fresh.0 c.in-Ok-give_up.ensures.fresh.1

pub returns-in_err-book-clause-refused : goal.returns-in_err-book-clause-refused
returns-in_err-book-clause-refused g c =
    let p = err_from_is_err_and c.from_residual.result c.from_residual.ensures.1 in rw p.1 (λ fails left. fails p.2)

pub returns-in-Ok-clause-refused : goal.returns-in-Ok-clause-refused
returns-in-Ok-clause-refused g c = λ fails left. fails c.in-Err-give_up.ensures.memory

pub returns-clause-refused : goal.returns-clause-refused
returns-clause-refused g c =
    past_fails c.args.settings.now c.args.network.now c.args.fleet.now c.args.text.now c.split_at.result.0.now c.whole_size-size.result c.in_ok-book.book
    c.new-notices.result.items c.in-Err.fault c.split_at.ensures.front c.whole_size-size.ensures.whole c.in_ok-book.ensures c.in-Err.ensures.refused
