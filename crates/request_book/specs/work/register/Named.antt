use Rattle.std.specs.Prelude.{ℕ, Option, Some, None, if◌then◌else◌}
use Rattle.request_book.specs.declared.values.rider.BookRider.{BookRider}
use Rattle.request_book.specs.register.Sealing.{is_over}

-- Parts of the book's steps, as proofs call them.

-- the id of a rider whose wait is over
abbrev pub over_id : ℕ → ℕ → BookRider → Option ℕ
over_id wait now r = if is_over wait now r then Some r.id else None
