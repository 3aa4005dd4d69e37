-- What every book keeps is kept by each command.
use Rattle.std.proofs.lemmas.Bool.Decides.{nat_tests}
use Rattle.std.proofs.Common.{
  ◌≡◌,
  ℕ,
  zero,
  suc,
  ◌≤◌,
  ◌<◌,
  Bool,
  false,
  List,
  [],
  ◌∷◌,
  ◌++◌,
  length,
  get_or,
  take,
  Option,
  Some,
  None,
  refl,
  arith,
  option_and_then,
  rules,
}
use Rattle.request_book.proofs.Common.{
  Register,
  HasRoom,
  IsIndexed,
  state_of,
  list_any,
  All-nil,
  All-weaker,
  IsFleet,
  Passenger,
  Vehicle,
  Command,
  Entry,
  Reply,
  State,
  BookView,
  IsBook,
  opening,
  IsConsistent,
  IsNode,
  look_up,
  KeysRise,
  KeysDiffer,
  state_after,
  RepliesAreSteps,
  find_vehicle,
  find_passenger,
  step,
}
use Rattle.std.specs.List.{All}
use Rattle.request_book.specs.work.Stored.{IsStored}
use Rattle.request_book.proofs.lemmas.ConsistentLemmas.{step-consistent}
use Rattle.request_book.proofs.lemmas.values.KeyedLemmas.{look_up-nil, All-look_up, rise_from_increasing}
use Rattle.request_book.proofs.lemmas.NamedLemmas.{step-named}

-- one more entry
module _ (nodes : List ℕ) (wait : ℕ) where
  pub state_after-push : (s : State) (es : List Entry) (e : Entry) → state_after nodes wait s (es ++ e ∷ []) ≡
      (step nodes wait (state_after nodes wait s es) e.command).0
  unfolding state_after
  state_after-push s [] e = refl
  state_after-push s (f ∷ es) e = state_after-push (step nodes wait s f.command).0 es e

  pub replies-push : (s : State) (es : List Entry) (e : Entry) → RepliesAreSteps nodes wait s es →
      e.reply ≡ (step nodes wait (state_after nodes wait s es) e.command).1 → RepliesAreSteps nodes wait s (es ++ e ∷ [])
  unfolding state_after RepliesAreSteps
  replies-push s [] e replies is = (is, tt)
  replies-push s (f ∷ es) e replies is = (replies.0, replies-push (step nodes wait s f.command).0 es e replies.1 is)

-- a command that was taken leaves a book
pub applied-book : (old : BookView) (lane : ℕ) (command : Command) (reply : Reply) (next : State) (spare : ℕ) → IsBook old →
    (next, reply) ≡ step old.nodes old.wait old.state command
    → IsBook (record {
      nodes = old.nodes;
      wait = old.wait;
      first = old.first;
      base = old.base;
      entries =
          old.entries ++ (record { lane = lane; command = command; reply = reply }) ∷ [];
      state = next;
      spare = spare;
    })
applied-book old lane command reply next spare book stepped = grind (
  arith,
  nat_tests,
  (replies-push old.nodes old.wait old.base old.entries),
  (state_after-push old.nodes old.wait old.base old.entries),
  (step-consistent old.nodes old.wait old.state command book.consistent),
  (step-named old.nodes old.wait old.state command book.consistent book.named),
)

-- a book whose lists have as much room or more
pub stored-roomier : (b : BookView) (es : List Entry) (len capacity len' capacity' : ℕ) (g g' : Register) → IsStored b len capacity g → es ≡ b.entries →
    state_of g' ≡ b.state → len' ≡ len → capacity ≤ capacity' → IsIndexed g' → HasRoom b.spare g' →
    IsStored (record b { entries = es; state = state_of g' }) len' capacity' g'
stored-roomier b es len capacity len' capacity' g g' h entries state long wide indexed room = search rules

-- a new journal begins
pub round-book : (old : BookView) (first : ℕ) → IsBook old →
    IsBook (record { nodes = old.nodes; wait = old.wait; first = first; base = old.state; entries = []; state = old.state; spare = 0 })
unfolding state_after RepliesAreSteps
round-book old first book = assumption

-- the first book of a run
module _ (nodes : List ℕ) (vehicles : List Vehicle) (fleet : IsFleet vehicles) where
  pub fleet-rise : KeysRise (λ v. v.id) vehicles
  fleet-rise = rise_from_increasing (λ (v : Vehicle). v.id) vehicles fleet.rise

  nobody-once : (ps : List Passenger) → length ps ≡ 0 → KeysDiffer (λ p. p.rider) ps
  unfolding KeysDiffer
  nobody-once [] e = tt
  nobody-once (p ∷ ps) e = absurd (omega (arith, e))

  nobody : (k : ℕ) (ps : List Passenger) → length ps ≡ 0 → find_passenger k ps ≡ None
  nobody k [] e = look_up-nil (λ (p : Passenger). p.rider) k
  nobody k (p ∷ ps) e = absurd (omega (arith, e))

  pub opening-consistent : IsConsistent (opening vehicles)
  unfolding KeysDiffer look_up
  opening-consistent = record {
    vehicle_count = fleet.count;
    rider_count = omega arith;
    pool = omega arith;
    riders_differ = tt;
    vehicles_rise = fleet-rise;
    seats = fleet.seats;
    passengers = All-weaker (λ (v : Vehicle). length v.aboard.items ≡ 0) (λ (v : Vehicle). KeysDiffer (λ p. p.rider) v.aboard.items)
        (λ v e. nobody-once v.aboard.items e) vehicles fleet.empty;
    aboard = λ x k. by x k (find_vehicle x vehicles) refl;
  }
    where
      by : (x k : ℕ) (o : Option Vehicle) → find_vehicle x vehicles ≡ o → option_and_then (λ v. find_passenger k v.aboard.items) o ≡ None
      by x k None e = refl
      by x k (Some v) e = nobody k v.aboard.items (All-look_up (λ (v : Vehicle). v.id) (λ (v : Vehicle). length v.aboard.items ≡ 0) x vehicles v fleet.empty e)

  pub opening-book : (wait : ℕ) → All (λ v. IsNode nodes v.node) vehicles → IsBook (record
      { nodes = nodes; wait = wait; first = 0; base = opening vehicles; entries = []; state = opening vehicles; spare = 0 })
  unfolding state_after RepliesAreSteps
  opening-book wait named = search (rules, All-nil, opening-consistent)

-- what none of the first passes
pub list_any-take : (p : ℕ → Bool) (xs : List ℕ) (i d : ℕ) → ((k : ℕ) → k < i → p (get_or xs k d) ≡ false) → i ≤ length xs → list_any p (take i xs) ≡ false
list_any-take p xs zero d none le = refl
list_any-take p [] (suc i) d none le = refl
list_any-take p (x ∷ xs) (suc i) d none le =
    let head : p x ≡ false = none 0 (omega arith) in
    rw head (list_any-take p xs i d (λ k lt. none (suc k) (omega arith)) (omega arith))
