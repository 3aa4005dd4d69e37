-- What each step leaves: riders who they are, so that the waits and delays that are told at the end of a day are those of
-- its pickups and drop-offs, and the vehicles by their ids.
use Rattle.std.proofs.Common.{
  ◌≡◌,
  ℕ,
  Bool,
  true,
  false,
  cond,
  List,
  [],
  ◌∷◌,
  ◌++◌,
  length,
  map,
  Option,
  None,
  Some,
  refl,
  sym,
  ap,
  ◌∙◌,
  option_map,
  ◌==◌,
  rules,
}
use Rattle.route_drive.proofs.Common.{
  false≢true,
  length-map,
  Batch,
  Rider,
  Vehicle,
  look_up-map,
  look_up-push_found,
  map-changed_at,
  after_answer,
  in_batch,
  planned_status,
  closed_state,
  changed_at,
  state_after,
  with_status,
  sealed_state,
  find_rider,
  step,
  answer,
  picked_up,
  dropped_off,
  stands_at,
  takes_in,
  lets_out,
  submit_step,
  submit_refusal,
  cancel_step,
  report_step,
  pickup_step,
  dropoff_step,
  seal_step,
  close_step,
  table_step,
  by-table,
  Command,
  Submit,
  Cancel,
  Report,
  Pickup,
  Dropoff,
  Seal,
  Close,
  Answer,
  BookRefusal,
  Entry,
  Reply,
  Accepted,
  Picked,
  Dropped,
  Closed,
  BookRider,
  Status,
  Waiting,
  State,
  is_dropped,
  is_picked,
  Outcome,
}
use Rattle.request_book.specs.declared.values.outcome.Answer.TheVariants as answers

-- a rider of whatever status
abbrev pub IsSame : BookRider → BookRider → Type 0
IsSame r t = t ≡ with_status t.status r

-- who is found is found later, with the same request
abbrev pub Keeps : List BookRider → List BookRider → Type 0
Keeps riders later = (id : ℕ) (r : BookRider) → find_rider id riders ≡ Some r → (t : BookRider) × (find_rider id later ≡ Some t) × IsSame r t

same_status : (b : Bool) (status : Status) (r : BookRider) → IsSame r (cond b (with_status status r) r)
same_status true status r = refl
same_status false status r = refl

pub keeps_self : (riders : List BookRider) → Keeps riders riders
keeps_self riders id r found = (r, found, same_status false r.status r)

pub keeps_trans : (a b c : List BookRider) → Keeps a b → Keeps b c → Keeps a c
keeps_trans a b c one two id r found = search rules

keeps_mapped : (f : BookRider → BookRider) → ((r : BookRider) → IsSame r (f r)) → (riders : List BookRider) → Keeps riders (map f riders)
keeps_mapped f same riders id r found = (
  f r,
  look_up-map (λ (x : BookRider). x.id) f (λ x. ap (λ (r : BookRider). r.id) (same x)) id riders ∙
      ap (option_map f) found,
  same r,
)

keeps_changed : (id : ℕ) (status : Status) (riders : List BookRider) → Keeps riders (changed_at (λ (r : BookRider). r.id) id (with_status status) riders)
unfolding changed_at
keeps_changed id status riders = keeps_mapped (λ (r : BookRider). cond (r.id == id) (with_status status r) r) (λ r. same_status (r.id == id) status r) riders

keeps_answered : (batch : List Rider) (a : Answer) (riders : List BookRider) → Keeps riders (after_answer batch a riders)
unfolding after_answer
keeps_answered batch answers.Overflow riders = keeps_self riders
keeps_answered batch (answers.Planned plan) riders = search (rules, keeps_mapped, same_status, in_batch, planned_status)

abbrev pub IsPickup : Command → Type 0
IsPickup (Pickup vehicle rider time) = Unit {0}
IsPickup command = ⊥

abbrev pub IsDropoff : Command → Type 0
IsDropoff (Dropoff vehicle rider time) = Unit {0}
IsDropoff command = ⊥

-- what a step leaves; only a pickup is answered `picked`, and only a drop-off `dropped`
pub record Leaves (s : State) (c : Command) (after : State × Reply) : Type 0 where
  pub riders : Keeps s.riders after.0.riders
  pub ids : map (λ v. v.id) after.0.vehicles ≡ map (λ v. v.id) s.vehicles
  pub picked : is_picked after.1 ≡ true → IsPickup c
  pub dropped : is_dropped after.1 ≡ true → IsDropoff c

answer-leaves : (s : State) (c : Command) (o : Option BookRefusal) (reply : Reply) (next : State) → Leaves s c (next, reply) →
    Leaves s c (answer s o reply next)
answer-leaves s c None reply next new = new
answer-leaves s c (Some why) reply next new = record {
  riders = keeps_self s.riders;
  ids = refl;
  picked = λ e. absurd (false≢true e);
  dropped =
      λ e. absurd (false≢true e);
}

other-leaves : (s next : State) (c : Command) (reply : Reply) → is_picked reply ≡ false → is_dropped reply ≡ false → Keeps s.riders next.riders →
    map (λ v. v.id) next.vehicles ≡ map (λ v. v.id) s.vehicles
    → Leaves s c (next, reply)
other-leaves s next c reply p d riders ids = record {
  riders = riders;
  ids = ids;
  picked = λ e. absurd (false≢true (sym p ∙ e));
  dropped =
      λ e. absurd (false≢true (sym d ∙ e));
}

picked-leaves : (s : State) (vehicle rider time : ℕ) (r : Option BookRider) → Leaves s (Pickup vehicle rider time) (picked_up s r vehicle time, Picked)
picked-leaves s vehicle rider time None = record { riders = keeps_self s.riders; ids = refl; picked = λ e. tt; dropped = λ e. absurd (false≢true e) }
picked-leaves s vehicle rider time (Some r) = search (rules, keeps_changed, map-changed_at, takes_in)

dropped-leaves : (s : State) (vehicle rider time : ℕ) (r : Option BookRider) → Leaves s (Dropoff vehicle rider time) (dropped_off s r vehicle time, Dropped)
dropped-leaves s vehicle rider time None = record { riders = keeps_self s.riders; ids = refl; picked = λ e. absurd (false≢true e); dropped = λ e. tt }
dropped-leaves s vehicle rider time (Some r) = search (rules, keeps_changed, map-changed_at, lets_out)

closed-leaves : (s : State) (k : ℕ) (outcome : Outcome) → Leaves s (Close k outcome) (closed_state s outcome.answer, Closed)
unfolding closed_state
closed-leaves s k outcome = elim (s.sealed) as (λ (o : Option Batch). let t : State = elim o
    [ None ↦ s | Some b ↦ record s { riders = after_answer b.riders outcome.answer s.riders; sealed = None } ] in Leaves s (Close k outcome) (t, Closed)) [
      | None ↦ other-leaves s s (Close k outcome) Closed refl refl (keeps_self s.riders) refl
      | Some b ↦ other-leaves s (record s { riders = after_answer b.riders outcome.answer s.riders; sealed = None }) (Close k outcome) Closed refl refl
          (keeps_answered b.riders outcome.answer s.riders) refl
    ]

table-leaves : (nodes : List ℕ) (wait : ℕ) (s : State) (c : Command) → Leaves s c (table_step nodes wait s c)
unfolding table_step submit_step cancel_step report_step pickup_step dropoff_step seal_step close_step sealed_state
table-leaves nodes wait s (Submit rider origin destination time party) =
    let r : BookRider = record { id = rider; origin = origin; destination = destination; time = time; party = party; status = Waiting } in
    answer-leaves s _ (submit_refusal nodes s r) Accepted (record s { riders = s.riders ++ r ∷ [] })
    (other-leaves s (record s { riders = s.riders ++ r ∷ [] }) _ Accepted refl refl (λ id q found.
    (q, look_up-push_found (λ (x : BookRider). x.id) id r q s.riders found, same_status false q.status q)) refl)
table-leaves nodes wait s (Cancel rider) = search (rules, answer-leaves, other-leaves, keeps_changed)
table-leaves nodes wait s (Report vehicle node time) = search (rules, answer-leaves, stands_at, other-leaves, keeps_self, map-changed_at)
table-leaves nodes wait s (Pickup vehicle rider time) = answer-leaves s _ _ Picked (picked_up s (find_rider rider s.riders) vehicle time)
    (picked-leaves s vehicle rider time (find_rider rider s.riders))
table-leaves nodes wait s (Dropoff vehicle rider time) = answer-leaves s _ _ Dropped (dropped_off s (find_rider rider s.riders) vehicle time)
    (dropped-leaves s vehicle rider time (find_rider rider s.riders))
table-leaves nodes wait s (Seal now) = search (rules, answer-leaves, sealed_state, other-leaves, keeps_mapped, same_status)
table-leaves nodes wait s (Close batch outcome) = answer-leaves s _ _ Closed (closed_state s outcome.answer) (closed-leaves s batch outcome)

pub step-leaves : (nodes : List ℕ) (wait : ℕ) (s : State) (c : Command) → Leaves s c (step nodes wait s c)
step-leaves nodes wait s c = by-table (Leaves s c) nodes wait s c (table-leaves nodes wait s c)

pub riders_stay : (nodes : List ℕ) (wait : ℕ) (s : State) (es : List Entry) → Keeps s.riders (state_after nodes wait s es).riders
unfolding state_after
riders_stay nodes wait s [] = keeps_self s.riders
riders_stay nodes wait s (e ∷ es) = keeps_trans s.riders (step nodes wait s e.command).0.riders
    (state_after nodes wait (step nodes wait s e.command).0 es).riders
    (step-leaves nodes wait s e.command).riders (riders_stay nodes wait (step nodes wait s e.command).0 es)

pub ids_stay : (nodes : List ℕ) (wait : ℕ) (s : State) (es : List Entry) → map (λ v. v.id) (state_after nodes wait s es).vehicles ≡ map (λ v. v.id) s.vehicles
unfolding state_after
ids_stay nodes wait s [] = refl
ids_stay nodes wait s (e ∷ es) = ids_stay nodes wait (step nodes wait s e.command).0 es ∙ (step-leaves nodes wait s e.command).ids

pub count_stays : (nodes : List ℕ) (wait : ℕ) (s : State) (es : List Entry) → length (state_after nodes wait s es).vehicles ≡ length s.vehicles
count_stays nodes wait s es =
    sym (length-map (state_after nodes wait s es).vehicles (λ (v : Vehicle). v.id)) ∙ ap length (ids_stay nodes wait s es) ∙
    length-map s.vehicles (λ (v : Vehicle). v.id)
