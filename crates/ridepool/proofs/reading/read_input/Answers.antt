use Rattle.std.proofs.Common.{Err, ap}
use Rattle.ridepool.proofs.ReadingLemmas.{read_failed, no_memory_left, was_too_long}
use Rattle.ridepool.proofs.reading.read_input.Goals as goal

pub returns-in-Err-ReadFault : goal.returns-in-Err-ReadFault
returns-in-Err-ReadFault g c =
    let e = c.in-Err-ReadFault.ensures in
    read_failed _ c.args.which _ c.most_bytes.ensures _ e.moved e.too_long (ap Err c.in-Err-ReadFault.field-0-is) e.fault

pub returns-in-Err-TooLong : goal.returns-in-Err-TooLong
returns-in-Err-TooLong g c =
    let e = c.in-Err-TooLong.ensures in
    was_too_long _ c.args.which _ c.most_bytes.ensures _ e.moved e.too_long _ (ap Err c.in-Err-TooLong.field-0-is) e.its_limit

pub returns-in-Err-OutOfMemory : goal.returns-in-Err-OutOfMemory
returns-in-Err-OutOfMemory g c =
    let e = c.in-Err-OutOfMemory.ensures in
    no_memory_left _ c.args.which _ c.most_bytes.ensures _ e.moved e.too_long (ap Err c.in-Err-OutOfMemory.field-0-is)
