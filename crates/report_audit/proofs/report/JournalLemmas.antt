-- Journals, entry by entry.
use Rattle.std.proofs.Common.{◌≡◌, ℕ, ◌<◌, ◌^◌, List, [], ◌∷◌, ◌++◌, Option, Some, None, Result, Ok, Err, refl, sym, ap, ◌∙◌, subst, eq-eqb, arith, rules}
use Rattle.report_audit.proofs.Common.{
  Batch,
  IsGoodClose,
  ClosesAreGood,
  last_sealed,
  plain-quiet,
  one_more,
  next_position,
  would_seal,
  IsNoClose,
  state_after,
  batch_of,
  sealed_state,
  answered,
  cancel,
  dropoff,
  pickup,
  report,
  seal,
  step,
  submit,
  Command,
  Submit,
  Cancel,
  Report,
  Pickup,
  Dropoff,
  Seal,
  Close,
  Entry,
  Outcome,
  BookRefusal,
  Reply,
  Cancelled,
  Closed,
  Dropped,
  Picked,
  Placed,
  Sealed,
  State,
  answer,
  seal_refusal,
  seal_step,
  close_step,
  table_step,
  batch_unless,
  by-table,
  would_seal-table,
  Settings,
  Roads,
  snapshot_before,
  IsTold,
  AreTold,
}
use Rattle.dispatch_engine.specs.lemmas.lanes.Lanes.{IsPlain}
use Rattle.request_book.specs.lemmas.register.Closing.{after_answer, closed_state}
use Rattle.request_book.specs.lemmas.register.Refusals.{first_of}
use Rattle.report_audit.proofs.report.TextLemmas.{next-none, next-more}

-- replies
module _ (nodes : List ℕ) (wait : ℕ) where
  pub after-none : (s : State) → state_after nodes wait s [] ≡ s
  unfolding state_after
  after-none s = refl

-- closes
module _ (settings : Settings) (roads : Roads) where
  pub closes-push : (s : State) (es : List Entry) (e : Entry) → ClosesAreGood settings roads s es →
      IsGoodClose settings roads (state_after roads.nodes settings.wait s es) e.command e.reply → ClosesAreGood settings roads s (es ++ e ∷ [])
  unfolding state_after ClosesAreGood
  closes-push s [] e closes good = (good, tt)
  closes-push s (f ∷ es) e closes good = (closes.0, closes-push (step roads.nodes settings.wait s f.command).0 es e closes.1 good)

  pub closes-none : (s : State) → ClosesAreGood settings roads s []
  unfolding ClosesAreGood
  closes-none s = tt

-- numbers
pub told-push : (p : ℕ) (es : List Entry) (e : Entry) → p < 2 ^ 64 → AreTold p es → IsTold (next_position p es) e → AreTold p (es ++ e ∷ [])
told-push p [] e low told is = (subst (λ (k : ℕ). IsTold k e) (next-none p low) is, tt)
told-push p (f ∷ es) e low told is = (told.0, told-push (one_more p) es e (omega arith) told.1 (subst (λ (k : ℕ). IsTold k e) (sym (next-more p f es)) is))

-- which batch stands sealed behind a command
seal-after : (wait : ℕ) (s : State) (now : ℕ) → last_sealed s.sealed (would_seal wait s now) ≡ (seal_step wait s now).0.sealed
unfolding seal_step sealed_state
seal-after wait s now = ap (last_sealed s.sealed) (would_seal-table wait s now) ∙ by (seal_refusal s now)
  where
    by : (o : Option BookRefusal) → last_sealed s.sealed (batch_unless o (batch_of wait s now)) ≡
        (answer s o (Sealed (one_more s.batches)) (sealed_state wait s now)).0.sealed
    by None = refl
    by (Some refusal) = refl

table-after : (nodes : List ℕ) (wait : ℕ) (s : State) (now : ℕ) → last_sealed s.sealed (would_seal wait s now) ≡ (table_step nodes wait s (Seal now)).0.sealed
unfolding table_step
table-after nodes wait s now = seal-after wait s now

plain-after : (nodes : List ℕ) (wait : ℕ) (s : State) (command : Command) → IsPlain command → s.sealed ≡ (step nodes wait s command).0.sealed
plain-after nodes wait s command plain = sym (plain-quiet nodes wait s command plain).sealed

pub sealed-after : (nodes : List ℕ) (wait : ℕ) (s : State) (command : Command) → IsNoClose command →
    last_sealed s.sealed (snapshot_before wait s command) ≡ (step nodes wait s command).0.sealed
sealed-after nodes wait s (Submit rider origin destination time party) is = plain-after nodes wait s (Submit rider origin destination time party) tt
sealed-after nodes wait s (Cancel rider) is = plain-after nodes wait s (Cancel rider) tt
sealed-after nodes wait s (Report vehicle node time) is = plain-after nodes wait s (Report vehicle node time) tt
sealed-after nodes wait s (Pickup vehicle rider time) is = plain-after nodes wait s (Pickup vehicle rider time) tt
sealed-after nodes wait s (Dropoff vehicle rider time) is = plain-after nodes wait s (Dropoff vehicle rider time) tt
sealed-after nodes wait s (Seal now) is = by-table (λ p. last_sealed s.sealed (would_seal wait s now) ≡ p.0.sealed) nodes wait s (Seal now)
    (table-after nodes wait s now)
sealed-after nodes wait s (Close batch outcome) is = absurd is

-- a batch that stands sealed is closed by its number
pub close-is : (nodes : List ℕ) (wait : ℕ) (s : State) (b : Batch) (outcome : Outcome) → s.sealed ≡ Some b
    → step nodes wait s (Close b.number outcome) ≡ (record s { riders = after_answer b.riders outcome.answer s.riders; sealed = None }, Closed)
unfolding table_step close_step closed_state first_of
close-is nodes wait s b outcome e = by-table (λ p. p ≡ (record s { riders = after_answer b.riders outcome.answer s.riders; sealed = None }, Closed)) nodes wait
    s (Close b.number outcome) (rw (e, eq-eqb b.number b.number refl) refl)

-- only a close is answered `closed`
answered_is : (s : State) (own : Reply) (r : Result State BookRefusal) → (own ≡ Closed → ⊥) → (answered s own r).1 ≡ Closed → ⊥
answered_is s own (Ok next) other is = other is
answered_is s own (Err refused) other is = cc

pub not_closed : (nodes : List ℕ) (wait : ℕ) (s : State) (c : Command) → IsNoClose c → (step nodes wait s c).1 ≡ Closed → ⊥
unfolding step
not_closed nodes wait s (Submit rider origin destination time party) plain is = search (rules, answered_is, submit)
not_closed nodes wait s (Cancel rider) plain is = answered_is s Cancelled (cancel s rider) (λ e. cc) is
not_closed nodes wait s (Report vehicle node time) plain is = answered_is s Placed (report nodes s vehicle node time) (λ e. cc) is
not_closed nodes wait s (Pickup vehicle rider time) plain is = answered_is s Picked (pickup s vehicle rider time) (λ e. cc) is
not_closed nodes wait s (Dropoff vehicle rider time) plain is = answered_is s Dropped (dropoff s vehicle rider time) (λ e. cc) is
not_closed nodes wait s (Seal now) plain is = answered_is s (Sealed (one_more s.batches)) (seal wait s now) (λ e. cc) is
not_closed nodes wait s (Close batch outcome) plain is = plain
