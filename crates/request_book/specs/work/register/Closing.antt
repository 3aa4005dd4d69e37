use Rattle.std.specs.Prelude.{Bool, true, false, ◌&&◌, List, ◌∷◌, if◌then◌else◌, []}
use Rattle.request_book.specs.declared.values.batch_rider.Rider.{Rider}
use Rattle.request_book.specs.declared.values.rider.BookRider.{BookRider}
use Rattle.request_book.specs.declared.values.rider.Status.{Status}
use Rattle.request_book.specs.declared.values.rider.Status.TheVariants.{Waiting, Promised}
use Rattle.request_book.specs.register.Closing.{Pick}
use Rattle.request_book.specs.lemmas.register.Named.{in_batch}
use Rattle.request_book.specs.values.Keyed.{changed_at}
use Rattle.request_book.specs.values.Rider.{is_active, with_status}

-- How a close gives riders what a plan gives them, one after another.

-- a rider of the pool waits again
abbrev pub waits_again : BookRider → BookRider
waits_again r = if is_active r.status then with_status Waiting r else r

-- the rider waits, with no promise
abbrev pub is_waiting : Status → Bool
is_waiting Waiting = true
is_waiting _ = false

-- the rider, where a pick stop is theirs: who is in the snapshot and waits is promised
abbrev pub takes_promise : List Rider → Pick → BookRider → BookRider
takes_promise riders p r = if in_batch riders p.rider && is_waiting r.status then with_status (Promised p.promise) r else r

-- the riders after these pick stops, one after another
unfoldable pub promised_in_turn : List Rider → List Pick → List BookRider → List BookRider
promised_in_turn riders [] rs = rs
promised_in_turn riders (p ∷ ps) rs = promised_in_turn riders ps (changed_at (λ r. r.id) p.rider (takes_promise riders p) rs)
