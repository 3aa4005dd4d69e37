use Rattle.std.proofs.Common.{false, ap}
use Rattle.std.specs.Option.{option_map_or}
use Rattle.request_book.specs.values.Batch.{Batch}
use Rattle.request_book.specs.declared.values.batch_rider.Rider.{Rider}
use Rattle.request_book.specs.values.Rider.{is_active}
use Rattle.request_book.specs.values.State.{find_rider}
use Rattle.request_book.specs.notices.Notices.{notice_of}
use Rattle.request_book.proofs.notices.NoticeLemmas.{noted-next}
use Rattle.request_book.proofs.notices.noting.note_batch.Goals as goal

pub loop-rider-preserved : goal.loop-rider-preserved
loop-rider-preserved c =
    noted-next (λ (r : Rider). option_map_or (λ known. is_active known.status) (find_rider r.id c.args.before.now.riders.items) false)
    (λ (r : Rider). notice_of c.args.batch.now.number c.as_slice-chosen.result.now r.id)
    c.as_slice-rider-items.result.now c.loop-rider.rider-index c.rider-item.result c.args.told.now.items c.loop-rider.told.items c.note_rider.new.told.items
    c.loop-rider-test.true c.rider-item.is c.loop-rider.invariant (rw (ap (λ (b : Batch). b.number) c.batch.view_is) at c.in_ok-note_rider-in-Planned.ensures)
