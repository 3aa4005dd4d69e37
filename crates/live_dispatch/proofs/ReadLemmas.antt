-- Rows that are read one by one.
use Rattle.std.proofs.Common.{◌≡◌, ℕ, List, [], ◌∷◌, ◌++◌, map, Option, sym, ap, ◌∙◌}
use Rattle.std.specs.Prelude.{Bool, Result, Ok, Err, IfOk, OnErr, false, true}
use Rattle.dispatch_report.specs.declared.fault.ReportFault.{ReportFault}
use Rattle.request_book.specs.Book.{BookView}
use Rattle.live_dispatch.specs.Desk.{DeskView, OutputsView}
use Rattle.live_dispatch.specs.Phase.{desk_after, commands_in, row_command, GoesOn, RanRows}
use Rattle.std.specs.Result.{is_err}
use Rattle.std.proofs.lemmas.Bool.{false≢true}
use Rattle.std.proofs.lemmas.List.{map-append}
use Rattle.std.proofs.lemmas.List.Elements.{All-push}
use Rattle.live_dispatch.specs.declared.desk.LaneCommand.{LaneCommand}
use Rattle.dispatch_engine.specs.declared.lanes.locked.LockedReply.{LockedReply}
use Rattle.seat_lock.specs.Values.{PassValue}
use Rattle.seat_lock.specs.declared.logged.LoggedCall.{LoggedCall}
use Rattle.input_rows.specs.declared.script.script_row.ScriptRow.{ScriptRow}
use Rattle.input_rows.specs.live.Rows.{TakesRows}
use Rattle.live_dispatch.proofs.lemmas.TakenLemmas.{takes-more}

-- rows were run so far
abbrev pub HasRun : {B : Type 0} → ℕ → Option (List ScriptRow) → Option (List ScriptRow) → PassValue B LaneCommand LockedReply → Type 0
HasRun round old now p = RanRows round (commands_in p) (TakesRows old now)

-- one more row
pub run-more : (round : ℕ) (old now next : Option (List ScriptRow)) {B : Type 0} (p q : PassValue B LaneCommand LockedReply) (line : ScriptRow)
    (call : ℕ × LoggedCall LaneCommand LockedReply)
    → HasRun round old now p → TakesRows now next (line ∷ []) → GoesOn round line → q.calls ≡ p.calls ++ call ∷ [] → call.1.call ≡ row_command line →
    HasRun round old next q
run-more round old now next p q line call so_far taken may calls is = record {
  run = so_far.run ++ line ∷ [];
  going = All-push (GoesOn round) so_far.run line so_far.going may;
  called =
      ap (λ (cs : List (ℕ × LoggedCall LaneCommand LockedReply)). map (λ c. c.1.call) cs) calls
      ∙ map-append (λ (c : ℕ × LoggedCall LaneCommand LockedReply). c.1.call) p.calls (call ∷ [])
      ∙ ap (λ (l : List LaneCommand). l ++ call.1.call ∷ []) so_far.called
      ∙ ap (λ (c : LaneCommand). map row_command so_far.run ++ c ∷ []) is
      ∙ sym (map-append row_command so_far.run (line ∷ []));
  taken = takes-more old now next so_far.run (line ∷ []) so_far.taken taken;
}

-- the same rows, of which something else holds
pub ran-so : (round : ℕ) (cs : List LaneCommand) (Are Be : List ScriptRow → Type 0) → ((run : List ScriptRow) → Are run → Be run) → RanRows round cs Are →
    RanRows round cs Be
ran-so round cs Are Be so ran = record { run = ran.run; going = ran.going; called = ran.called; taken = so ran.run ran.taken }

-- what holds of a result that is no error
pub called_ok : {A E : Type 0} {P : A → Type 0} (r : Result A E) → is_err r ≡ false → IfOk r P → (x : A) × P x
called_ok (Ok x) fine h = (x, h)
called_ok (Err e) fine h = absurd (false≢true (sym fine))

-- what holds where a result is an error
pub refused_err : {A E P : Type 0} (r : Result A E) → is_err r ≡ true → OnErr r P → P
refused_err (Ok x) stopped h = absurd (false≢true stopped)
refused_err (Err e) stopped h = h

-- a desk whose parts are known
pub desk-is : (d : DeskView) (start book : BookView) (proof : Bool) (opened from now : OutputsView) (fault : Option ReportFault)
    → d ≡ record { book = book; proof = d.proof; opened = opened; now = now; fault = fault } → d.proof ≡ proof → opened ≡ from
    → d ≡ desk_after start proof from book now fault
desk-is d start book proof opened from now fault parts told is = parts ∙ (λ i. record { book = book; proof = told i; opened = is i; now = now; fault = fault })
