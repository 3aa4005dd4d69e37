use Rattle.std.proofs.Common.{◌≡◌, drop}
use Rattle.request_book.proofs.Common.{first_of}
use Rattle.request_book.proofs.register.refusals.first_of.Given as goal

abbrev pub invariant-loop-refusal : goal.invariant-loop-refusal
invariant-loop-refusal l = first_of (drop l.refusal-index l.refusals) ≡ first_of l.refusals
