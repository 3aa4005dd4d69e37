use Rattle.std.proofs.Common.{◌++◌, ◌∷◌}
use Rattle.report_past.proofs.TakeLemmas.{closed_shorter, item_closed, item_rowed, reached_nodes, rowed_shorter}
use Rattle.report_past.proofs.TurnLeftLemmas.{left_close, left_row, refused_close, refused_place, refused_row}
use Rattle.report_past.specs.work.Reading.{stand, start_text}
use Rattle.report_past.proofs.step.take_item.Goals as goal

pub close_taken-requires-after_bounds : goal.close_taken-requires-after_bounds
close_taken-requires-after_bounds g c κs within = λ b is.
    reached_nodes c.args.context.now.settings.now c.args.context.now.network.now c.args.context.now.fleet.now c.args.context.now.judge
    c.args.context.now.text.now (start_text c.args.item.round ++ (c.args.item.line.now ++ 10 ∷ c.args.item.after.now))
    (stand c.args.last.now c.args.book.now c.args.open.now c.args.notices.now.items) c.requires c.keeps.ensures b is

pub returns-then-is_closing-clause-reached : goal.returns-then-is_closing-clause-reached
returns-then-is_closing-clause-reached g c =
    item_closed c.args.context.now.settings.now c.args.context.now.network.now c.args.context.now.fleet.now c.args.context.now.judge
    c.args.context.now.text.now c.args.last.now c.args.book.now c.args.open.now c.args.notices.now.items c.args.item.round c.args.item.line.now
    c.args.item.after.now c.in-Some.number c.requires c.in-Some.ensures c.close_taken.new.book c.close_taken.new.open c.close_taken.new.notices.items
    c.close_taken.result c.close_taken.ensures.close

pub returns-then-is_closing-clause-shorter : goal.returns-then-is_closing-clause-shorter
returns-then-is_closing-clause-shorter g c =
    closed_shorter c.args.context.now.settings.now c.args.context.now.network.now c.args.context.now.fleet.now c.args.context.now.judge c.args.book.now
    c.close_taken.new.book c.args.open.now c.close_taken.new.open c.args.item.line.now c.args.item.after.now c.close_taken.new.notices.items
    c.close_taken.result c.close_taken.ensures.close

pub returns-else-is_closing-clause-reached : goal.returns-else-is_closing-clause-reached
returns-else-is_closing-clause-reached g c =
    item_rowed c.args.context.now.settings.now c.args.context.now.network.now c.args.context.now.fleet.now c.args.context.now.judge
    c.args.context.now.text.now c.args.last.now c.args.book.now c.args.open.now c.args.notices.now.items c.args.item.round c.args.item.line.now
    c.args.item.after.now c.in-Some.number c.requires c.in-Some.ensures c.row_taken.new.book c.row_taken.new.open c.row_taken.new.last c.row_taken.result
    c.row_taken.ensures.row

pub returns-else-is_closing-clause-shorter : goal.returns-else-is_closing-clause-shorter
returns-else-is_closing-clause-shorter g c =
    rowed_shorter c.args.book.now c.row_taken.new.book c.args.open.now c.row_taken.new.open c.args.item.line.now c.args.item.after.now c.in-Some.number
    c.row_taken.new.last c.row_taken.result c.row_taken.ensures.row

pub returns-in_default-clause-refused : goal.returns-in_default-clause-refused
returns-in_default-clause-refused g c =
    refused_place c.a_line_between_blocks_has_no_feed.ensures c.a_line_is_of_one_kind.ensures c.a_block_ends_once.ensures.one c.a_block_ends_once.ensures.last
    c.args.context.now.settings.now c.args.context.now.network.now c.args.context.now.fleet.now c.args.context.now.judge c.args.context.now.text.now
    c.args.last.now c.args.book.now c.args.open.now c.args.notices.now.items c.args.item.round c.args.item.lane c.args.item.line.now
    c.args.item.after.now c.requires c.start_fault.result c.in_default.ensures

pub returns-then-is_closing-clause-left : goal.returns-then-is_closing-clause-left
returns-then-is_closing-clause-left g c =
    left_close c.a_line_between_blocks_has_no_feed.ensures c.a_line_is_of_one_kind.ensures c.a_block_ends_once.ensures.one c.a_block_ends_once.ensures.last
    c.args.context.now.settings.now c.args.context.now.network.now c.args.context.now.fleet.now c.args.context.now.judge c.args.context.now.text.now
    c.args.last.now c.args.book.now c.args.open.now c.args.notices.now.items c.args.item.round c.args.item.lane c.args.item.line.now
    c.args.item.after.now c.requires (c.is_closing.ensures.yes c.if-is_closing.true).0 c.close_taken.new.book c.close_taken.new.open
    c.close_taken.new.notices.items c.close_taken.result c.close_taken.ensures.close

pub returns-then-is_closing-clause-refused : goal.returns-then-is_closing-clause-refused
returns-then-is_closing-clause-refused g c =
    let yes = c.is_closing.ensures.yes c.if-is_closing.true in
    refused_close c.a_line_between_blocks_has_no_feed.ensures c.a_line_is_of_one_kind.ensures c.a_block_ends_once.ensures.one c.a_block_ends_once.ensures.last
    c.args.context.now.settings.now c.args.context.now.network.now c.args.context.now.fleet.now c.args.context.now.judge c.args.context.now.text.now
    c.args.last.now c.args.book.now c.args.open.now c.args.notices.now.items c.args.item.round c.args.item.lane c.args.item.line.now
    c.args.item.after.now c.requires yes.1 yes.0 c.close_taken.result c.close_taken.ensures.refused

pub returns-else-is_closing-clause-left : goal.returns-else-is_closing-clause-left
returns-else-is_closing-clause-left g c =
    left_row c.a_line_between_blocks_has_no_feed.ensures c.a_line_is_of_one_kind.ensures c.a_block_ends_once.ensures.one c.a_block_ends_once.ensures.last
    c.args.context.now.settings.now c.args.context.now.network.now c.args.context.now.fleet.now c.args.context.now.judge c.args.context.now.text.now
    c.args.last.now c.args.book.now c.args.open.now c.args.notices.now.items c.args.item.round c.args.item.lane c.args.item.line.now
    c.args.item.after.now c.requires (c.is_closing.ensures.no c.if-is_closing.false) c.in-Some.number c.row_taken.new.book c.row_taken.new.open
    c.row_taken.new.last c.in-Some.ensures c.row_taken.result c.row_taken.ensures.row

pub returns-else-is_closing-clause-refused : goal.returns-else-is_closing-clause-refused
returns-else-is_closing-clause-refused g c =
    refused_row c.a_line_between_blocks_has_no_feed.ensures c.a_line_is_of_one_kind.ensures c.a_block_ends_once.ensures.one c.a_block_ends_once.ensures.last
    c.args.context.now.settings.now c.args.context.now.network.now c.args.context.now.fleet.now c.args.context.now.judge c.args.context.now.text.now
    c.args.last.now c.args.book.now c.args.open.now c.args.notices.now.items c.args.item.round c.args.item.lane c.args.item.line.now
    c.args.item.after.now c.requires (c.is_closing.ensures.no c.if-is_closing.false) c.row_taken.result c.row_taken.ensures.refused
