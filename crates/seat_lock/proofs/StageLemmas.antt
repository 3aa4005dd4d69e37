-- What a seat's stage says of its ticket.
use Rattle.std.proofs.Common.{◌≡◌, ℕ, zero, suc, List, [], ◌∷◌, set, sym, refl, ◌∙◌, subst}
use Rattle.seat_lock.proofs.Common.{some, some-injective, some-ne-none, get_elem?, LoggedCall, Idle, Waiting, InTurn, ticket_weight, IsInTurn, Knows}
use Rattle.seat_lock.specs.declared.view.Stage.{Stage}
use Rattle.seat_lock.proofs.Totals.{at, at-same}

module _ {A : Type 0} where
  pub same_at : (l : List A) (i : ℕ) (a b : A) → get_elem? l i ≡ some a → get_elem? l i ≡ some b → a ≡ b
  same_at l i a b p q = some-injective a b (sym p ∙ q)

  pub set_at : (l : List A) (i : ℕ) (a b : A) → get_elem? l i ≡ some a → get_elem? (set l i b) i ≡ some b
  set_at [] i a b e = absurd (some-ne-none a (sym e))
  set_at (x ∷ xs) zero a b e = refl
  set_at (x ∷ xs) (suc i) a b e = set_at xs i a b e

module _ {C R : Type 0} where
  pub in_turn_weight : (n : ℕ) (es : List (LoggedCall C R)) (st : Stage C R) → IsInTurn st → Knows n es st → ticket_weight (at n) st ≡ 1
  in_turn_weight n es (InTurn x l) t k = at-same n x k.0
  in_turn_weight n es _ t k = absurd t

  -- what a seat out of turn knows stays so
  pub knows_on : (n n' : ℕ) (es es' : List (LoggedCall C R)) (st : Stage C R) → ¬ IsInTurn st → Knows n es st → Knows n' es' st
  knows_on n n' es es' (InTurn x l) t k = absurd (t tt)
  knows_on n n' es es' _ t k = tt

  pub idle_out : (st : Stage C R) → st ≡ Idle → ¬ IsInTurn st
  idle_out st is t = subst IsInTurn is t

  pub waiting_out : (st : Stage C R) (x : ℕ) → st ≡ Waiting x → ¬ IsInTurn st
  waiting_out st x is t = subst IsInTurn is t
