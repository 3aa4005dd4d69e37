-- Passes as they are handed out and taken back.
use Rattle.std.proofs.lemmas.Bool.Decides.{nat_tests}
use Rattle.std.proofs.Common.{rules, ◌≡◌, ℕ, zero, suc, ◌+◌, ◌-◌, ◌<◌, List, [], ◌∷◌, ◌++◌, map, length, get_or, All, Option, Some, sym, ap, ◌∙◌, subst, arith}
use Rattle.std.specs.List.{Contains}
use Rattle.std.proofs.lemmas.List.{get_or_append_left, length-map}
use Rattle.std.proofs.lemmas.List.Elements.{All-contains, Contains-append_left, Contains-push}
use Rattle.std.proofs.Math.Seq.{get_or-append_seam}
use Rattle.seat_lock.proofs.Common.{
  Me,
  LoggedCall,
  View,
  Idle,
  PassValue,
  calls_of,
  calls_in,
  lane_view,
  lanes_view,
  lane_given,
  lanes_kept,
  pass_value,
  IsPass,
  Claimed,
  Laned,
  claim_of,
  new_pass,
}
use Rattle.seat_lock.specs.Values.{LockValue, IsNew, AreAllPasses}
use Rattle.atomic_table.specs.declared.shared.Seat.{Seat}

module _ {A : Type 0} where
  -- a list built element by element
  pub pushed_each : (xs : List A) (x : A) (n : ℕ) (f : ℕ → A) → length xs ≡ n → ((k : ℕ) (d : A) → k < n → get_or xs k d ≡ f k) → x ≡ f n → (k : ℕ) (d : A) →
      k < n + 1 → get_or (xs ++ x ∷ []) k d ≡ f k
  pushed_each xs x n f long each is k d lt = grind (arith, each k d, get_or_append_left xs (x ∷ []) d k, get_or-append_seam xs x [] d)

  -- what holds of each element holds of one in the middle
  pub All-middle : (P : A → Type 0) (xs ys zs : List A) (p : A) → (ys ++ p ∷ []) ++ zs ≡ xs → All P xs → P p
  All-middle P xs ys zs p is all = All-contains P xs p all (subst (λ l. Contains l p) is (Contains-append_left (ys ++ p ∷ []) zs p (Contains-push ys p)))

  pub some_mapped : {D : Type 0} (f : A → D) (xs : List A) → 0 < length xs → 0 < length (map f xs)
  some_mapped f xs h = omega (arith, length-map xs f)

-- a list has one value alone
pub same_alone : {B : Type 0} (xs : List (Option B)) (a b : B) → xs ≡ Some a ∷ [] → xs ≡ Some b ∷ [] → a ≡ b
same_alone xs a b p q = let both : Some a ∷ [] ≡ Some b ∷ [] = sym p ∙ q in cc

module _ {B C R : Type 0} where
  -- the seat of one lane is the seat of a pass
  pub IsPass-at : (s : Seat (Option B) (View B C R)) (start : B) (lane : ℕ) (calls : List (ℕ × LoggedCall C R)) (seen : ℕ) →
      s.me ≡ (lane_view start lane calls seen Idle, []) → IsPass s lane
  IsPass-at s start lane calls seen e = search rules

  pub pass_value-at : (s : Seat (Option B) (View B C R)) (start : B) (lane : ℕ) (calls : List (ℕ × LoggedCall C R)) (seen : ℕ) →
      s.me ≡ (lane_view start lane calls seen Idle, [])
      → pass_value s lane ≡ record { table = s.table_id; start = Some start; lane = lane; calls = calls; seen = seen }
  pass_value-at s start lane calls seen e = ap (λ (m : Me (Option B) (View B C R)). record
      { table = s.table_id; start = m.0.start; lane = lane; calls = calls_in m.0.claims; seen = m.0.seen }) e

  -- there is a lane left
  lanes_left : (m : Me (Option B) (View B C R)) (start : B) (lane lanes : ℕ) → m ≡ (lanes_view start lane (lanes - lane), []) → lane < lanes →
      m ≡ (lanes_view start lane (suc (lanes - (lane + 1))), [])
  lanes_left m start lane lanes is lt = is ∙ ap (λ (n : ℕ). (lanes_view start lane n, [])) (let z : lanes - lane ≡ suc (lanes - (lane + 1)) = omega arith in z)

  pub given_is : (m m' : Me (Option B) (View B C R)) (start : B) (lane lanes : ℕ) → m ≡ (lanes_view start lane (lanes - lane), []) → lane < lanes →
      m' ≡ (lane_given m.0, []) → m' ≡ (lane_view start lane [] 0 Idle, [])
  given_is m m' start lane lanes is lt e = e ∙ ap (λ (n : Me (Option B) (View B C R)). (lane_given n.0, [])) (lanes_left m start lane lanes is lt)

  pub kept_is : (m m' : Me (Option B) (View B C R)) (start : B) (lane lanes : ℕ) → m ≡ (lanes_view start lane (lanes - lane), []) → lane < lanes →
      m' ≡ (lanes_kept m.0, m.1) → m' ≡ (lanes_view start (lane + 1) (lanes - (lane + 1)), [])
  kept_is m m' start lane lanes is lt e = grind (arith, nat_tests, (lanes_left m start lane lanes is lt))

  -- passes that were handed out are all passes of the lock, and new
  pub all_new : (lock : LockValue B) (lanes : ℕ) (passes : List (PassValue B C R)) → lock.lanes ≡ lanes → length passes ≡ lanes →
      ((k : ℕ) (d : PassValue B C R) → k < lanes → get_or passes k d ≡ new_pass lock.table lock.start k) → AreAllPasses lock passes × All IsNew passes
  all_new lock lanes passes is len each =
      let at : (k : ℕ) (d : PassValue B C R) → k < length passes → get_or passes k d ≡ new_pass lock.table lock.start k =
      λ k d lt. each k d (omega (arith, len, lt)) in (
        record {
          len = len ∙ sym is;
          own = λ k d lt. (ap (λ p. p.table) (at k d lt), ap (λ p. p.start) (at k d lt));
          lanes = λ k d lt. ap (λ p. p.lane) (at k d lt);
        },
        λ k d lt. (ap (λ p. p.calls) (at k d lt), ap (λ p. p.seen) (at k d lt)),
      )

  -- the claims of passes, one by one
  pub claimed_each : (entries : List (LoggedCall C R)) (passes : List (PassValue B C R)) → Claimed entries (map claim_of passes) →
      (k : ℕ) (d : PassValue B C R) → k < length passes → (get_or passes k d).calls ≡ calls_of (get_or passes k d).lane entries
  claimed_each entries [] c k d lt = absurd (omega arith)
  claimed_each entries (p ∷ ps) c zero d lt = c.0
  claimed_each entries (p ∷ ps) c (suc k) d lt = claimed_each entries ps c.1 k d (omega arith)

pub All-laned : {C R : Type 0} (lanes n : ℕ) (entries : List (LoggedCall C R)) → lanes ≡ n → Laned lanes entries → All (λ e. e.lane < n) entries
All-laned lanes n [] is l k d lt = absurd (omega arith)
All-laned lanes n (e ∷ es) is l zero d lt = subst (λ (z : ℕ). e.lane < z) is l.0
All-laned lanes n (e ∷ es) is l (suc k) d lt = All-laned lanes n es is l.1 k d (omega arith)
