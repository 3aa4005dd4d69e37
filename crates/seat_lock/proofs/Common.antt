-- The names that the proofs of this crate cite from elsewhere, passed on from one place. Declares nothing.
pub use Rattle.std.proofs.Math.Seq.{drop-append_seam}
pub use Rattle.std.specs.List.{enumerate_from}
pub use Rattle.atomic_table.specs.Table.{Allows, Final, Joins, Me, Seen, Splits, State, gives, keeps, opening, rest, step, stepped, takes}
pub use Rattle.seat_lock.specs.Values.{PassValue, calls_of, entry}
pub use Rattle.seat_lock.specs.declared.logged.LoggedCall.{LoggedCall}
pub use Rattle.seat_lock.specs.declared.view.Claim.{Claim}
pub use Rattle.seat_lock.specs.declared.view.Stage.TheVariants.{Idle, InTurn, Waiting}
pub use Rattle.seat_lock.specs.declared.view.View.{View}
pub use Rattle.seat_lock.specs.work.Moves.{LooksAt, NotesAt, drew, gave_way, held, looked, noted, since}
pub use Rattle.seat_lock.specs.work.Passes.{IsClosed, claim_of, new_pass}
pub use Rattle.seat_lock.specs.work.Rule.{Agrees, Claimed, IsHome, IsInTurn, IsOut, Kept, Knows, Laned, Sound, below, lane_weight, ticket_weight, total}
pub use Rattle.seat_lock.specs.work.Turns.{CanNote, CanServe, IsSameSeat}
pub use Rattle.seat_lock.specs.work.Views.{
  IsPass,
  calls_in,
  claim,
  first_claim,
  first_view,
  fresh_claims,
  in_turn,
  lane_given,
  lane_view,
  lanes_joined,
  lanes_kept,
  lanes_view,
  other_claims,
  pass_value,
  spent_view,
  with_stage,
}
pub use lib.ListN.{get_elem?}
pub use mathlib.Core.Logic.{dite}
pub use mathlib.Core.Option.{none, some, some-injective, some-ne-none}
pub use native.Mathlib.Decide.{ℕ_discrete}
