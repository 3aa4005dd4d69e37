use Rattle.std.proofs.Common.{◌≡◌, ◌++◌, false, map, take}
use Rattle.std.specs.Prelude.{filter}
use Rattle.std.specs.Option.{option_map_or}
use Rattle.request_book.specs.values.Rider.{is_active}
use Rattle.request_book.specs.values.State.{find_rider}
use Rattle.request_book.specs.notices.Notices.{notice_of}
use Rattle.request_book.proofs.notices.noting.note_batch.Given as goal

abbrev pub invariant-loop-rider : goal.invariant-loop-rider
invariant-loop-rider l =
    l.told.items ≡ l.initial.told.items ++ map (λ r. notice_of l.batch.number l.chosen r.id)
    (filter (λ r. option_map_or (λ known. is_active known.status) (find_rider r.id l.before.riders.items) false) (take l.rider-index l.rider-items))
