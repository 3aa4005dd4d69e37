-- The step table is what the register works: refusals as a list of those that hold.
use Rattle.std.proofs.Common.{rules, arith, ◌≡◌, ℕ, true, false, List, Option, Some, None, sym, ap, subst, ◌∙◌, is_some}
use Rattle.request_book.proofs.Common.{
  one_more,
  Command,
  Answer,
  BookRefusal,
  Reply,
  Accepted,
  Cancelled,
  Placed,
  Picked,
  Dropped,
  Sealed,
  Closed,
  BookRider,
  State,
  would_seal,
  batch_of,
  sealed_state,
  submit,
  cancel,
  report,
  pickup,
  dropoff,
  seal,
  close,
  answered,
  step,
  closed_state,
  after_answer,
  without,
  first_of,
  submit_step,
  cancel_step,
  report_step,
  pickup_step,
  dropoff_step,
  seal_refusal,
  seal_step,
  close_step,
  table_step,
  batch_unless,
}
use Rattle.request_book.specs.declared.values.command.Command.TheVariants as command

submit-table : (nodes : List ℕ) (s : State) (r : BookRider) → answered s Accepted (submit nodes s r) ≡ submit_step nodes s r
unfolding submit submit_step first_of
submit-table nodes s r = grind arith

cancel-table : (s : State) (rider : ℕ) → answered s Cancelled (cancel s rider) ≡ cancel_step s rider
unfolding cancel cancel_step first_of
cancel-table s rider = grind arith

report-table : (nodes : List ℕ) (s : State) (vehicle node time : ℕ) → answered s Placed (report nodes s vehicle node time) ≡ report_step nodes s vehicle node
    time
unfolding report report_step first_of
report-table nodes s vehicle node time = grind arith

pickup-table : (s : State) (vehicle rider time : ℕ) → answered s Picked (pickup s vehicle rider time) ≡ pickup_step s vehicle rider time
unfolding pickup pickup_step first_of
pickup-table s vehicle rider time = grind arith

dropoff-table : (s : State) (vehicle rider time : ℕ) → answered s Dropped (dropoff s vehicle rider time) ≡ dropoff_step s vehicle rider time
unfolding dropoff dropoff_step first_of without
dropoff-table s vehicle rider time = grind arith

seal-table : (wait : ℕ) (s : State) (now : ℕ) → answered s (Sealed (one_more s.batches)) (seal wait s now) ≡ seal_step wait s now
unfolding seal seal_step sealed_state first_of
seal-table wait s now = grind arith

-- what a seal would show, by its refusal
pub would_seal-table : (wait : ℕ) (s : State) (now : ℕ) → would_seal wait s now ≡ batch_unless (seal_refusal s now) (batch_of wait s now)
unfolding seal first_of
would_seal-table wait s now = grind arith

close-table : (s : State) (batch : ℕ) (a : Answer) → answered s Closed (close s batch a) ≡ close_step s batch a
unfolding close close_step closed_state after_answer first_of
close-table s batch a = grind arith

-- a step of the book is what the register works
pub step-table : (nodes : List ℕ) (wait : ℕ) (s : State) (c : Command) → step nodes wait s c ≡ table_step nodes wait s c
unfolding step table_step
step-table nodes wait s (command.Submit rider origin destination time party) = search (rules, submit-table)
step-table nodes wait s (command.Cancel rider) = cancel-table s rider
step-table nodes wait s (command.Report vehicle node time) = report-table nodes s vehicle node time
step-table nodes wait s (command.Pickup vehicle rider time) = pickup-table s vehicle rider time
step-table nodes wait s (command.Dropoff vehicle rider time) = dropoff-table s vehicle rider time
step-table nodes wait s (command.Seal now) = seal-table wait s now
step-table nodes wait s (command.Close batch outcome) = close-table s batch outcome.answer

-- what the register works for the command that a match told
pub step-is : (nodes : List ℕ) (wait : ℕ) (s : State) (c d : Command) → c ≡ d → table_step nodes wait s d ≡ step nodes wait s c
step-is nodes wait s c d e = sym (ap (table_step nodes wait s) e) ∙ sym (step-table nodes wait s c)

-- what holds of the register's step holds of the book's
pub by-table : (P : State × Reply → Type 0) (nodes : List ℕ) (wait : ℕ) (s : State) (c : Command) → P (table_step nodes wait s c) → P (step nodes wait s c)
by-table P nodes wait s c = subst P (sym (step-table nodes wait s c))

-- a seal that is refused would show nothing, and another the batch
pub would_seal-refused : (wait : ℕ) (s : State) (now : ℕ) (o : Option BookRefusal) → o ≡ seal_refusal s now → is_some o ≡ true → None ≡ would_seal wait s now
would_seal-refused wait s now o e some = grind (arith, would_seal-table wait s now)

pub would_seal-open : (wait : ℕ) (s : State) (now : ℕ) (o : Option BookRefusal) → o ≡ seal_refusal s now → is_some o ≡ false →
    Some (batch_of wait s now) ≡ would_seal wait s now
would_seal-open wait s now o e none = grind (arith, would_seal-table wait s now)
