-- The steps of a call of `live`.
use Rattle.std.specs.Prelude.{◌≡◌, List, ℕ, Option, Some, Result, Ok, Err}
use Rattle.pool_io.specs.Views.{Change, SinkView}
use Rattle.live_dispatch.specs.declared.fault.LiveFault.{LiveFault}
use Rattle.live_dispatch.specs.declared.fault.LiveFault.TheVariants as live
use Rattle.input_rows.specs.declared.live.start.StartFault.{StartFault}
use Rattle.input_rows.specs.declared.live.start.StartFault.TheVariants as start
use Rattle.pool_base.specs.declared.which.Which.TheVariants as file
use Rattle.rider_limits.specs.Words.{fault_of}
use Rattle.request_book.specs.notices.Told.{NotifierView}
use Rattle.ridepool.specs.Live.{LiveSeen, headless_status}
use Rattle.ridepool.specs.declared.status.RunStatus.{RunStatus}
use Rattle.ridepool.specs.declared.status.RunStatus.TheVariants.{Done, Words, ReadFault, WriteFault, OutOfMemory}

-- a call behind its inputs, by its parts
abbrev pub live_seen : Option (List ℕ) → ℕ → ℕ → Change SinkView → List NotifierView → List NotifierView → LiveSeen
live_seen script low high out told left = record { script = script; reads = record { before = low; after = high }; out = out; notifiers = record { before = told; after = left } }

-- the words are refused, or there was no memory for them
abbrev pub RefusesWords : List (List ℕ) → RunStatus → Type 0
RefusesWords words (Words fault) = fault_of words ≡ Some fault
RefusesWords words OutOfMemory = Unit {0}
RefusesWords words _ = ⊥

-- the answer to a script that doesn't start
abbrev pub status_of_start : StartFault → RunStatus
status_of_start (start.Header fault) = headless_status fault
status_of_start start.ReadFault = ReadFault file.Script
status_of_start start.OutOfMemory = OutOfMemory

-- the answer to the end of the rows
abbrev pub status_of_end : Result (Unit {0}) LiveFault → RunStatus
status_of_end (Ok done) = Done
status_of_end (Err live.ReadFault) = ReadFault file.Script
status_of_end (Err live.WriteFault) = WriteFault
status_of_end (Err live.OutOfMemory) = OutOfMemory
