-- The calls in a book's journal, entry by entry.
use Rattle.std.proofs.Common.{◌≡◌, ℕ, suc, false, List, [], ◌∷◌, ◌++◌, length, Option, Some, refl, sym, ap, subst, ◌∙◌, arith}
use Rattle.std.specs.Prelude.{All, option_map}
use Rattle.request_book.specs.values.Batch.{Batch}
use Rattle.request_book.specs.Points.{named_nodes}
use Rattle.request_book.specs.Book.{BookView, IsApplied, IsBook, is_light}
use Rattle.request_book.specs.Consistent.{IsNode}
use Rattle.request_book.specs.Replay.{state_after}
use Rattle.request_book.specs.register.Sealing.{batch_of}
use Rattle.request_book.specs.lemmas.register.Named.{sealed_state}
use Rattle.request_book.specs.register.Step.{step, seal}
use Rattle.request_book.specs.declared.values.command.Command.{Command}
use Rattle.request_book.specs.declared.values.journal.Entry.{Entry}
use Rattle.request_book.specs.declared.values.reply.Reply.{Reply}
use Rattle.request_book.specs.declared.values.state.State.{State}
use Rattle.seat_lock.specs.declared.logged.LoggedCall.{LoggedCall}
use Rattle.dispatch_engine.specs.lanes.Locked.{sealed_by, snapshot_after, call_of, calls_from, log_of, Fits, snapshot_before}

module _ (nodes : List ℕ) (wait : ℕ) where
  pub calls-append : (s : State) (es later : List Entry) → calls_from nodes wait s (es ++ later) ≡ calls_from nodes wait s es ++ calls_from nodes wait
      (state_after nodes wait s es) later
  unfolding calls_from state_after
  calls-append s [] later = refl
  calls-append s (e ∷ es) later = ap (λ l. call_of (step nodes wait s e.command).0 e ∷ l) (calls-append (step nodes wait s e.command).0 es later)

  pub calls-length : (s : State) (es : List Entry) → length (calls_from nodes wait s es) ≡ length es
  unfolding calls_from
  calls-length s [] = refl
  calls-length s (e ∷ es) = ap suc (calls-length (step nodes wait s e.command).0 es)

-- the batch that a command seals is the one that it would seal
pub step-snapshot : (nodes : List ℕ) (wait : ℕ) (s : State) (command : Command) → snapshot_after (step nodes wait s command).1 (step nodes wait s command).0 ≡
    snapshot_before wait s command
unfolding step
step-snapshot nodes wait s command = grind arith

-- a command that was applied is one more call
pub applied-call : (old new : BookView) (lane : ℕ) (command : Command) (reply : Reply) (snapshot : Option Batch)
    → IsBook old → IsApplied old lane command reply new → snapshot ≡ snapshot_before old.wait old.state command
    → log_of new ≡ log_of old ++ (record { lane = lane; call = command; reply = record { reply = reply; snapshot = snapshot } }) ∷ []
unfolding calls_from
applied-call old new lane command reply snapshot book applied is =
    let e : Entry = record { lane = lane; command = command; reply = reply } in
    let call : Option Batch → LoggedCall _ _ = λ o. record { lane = lane; call = command; reply = record { reply = reply; snapshot = o } } in
    let after : State = state_after old.nodes old.wait old.base old.entries in
    let made : (new.state, reply) ≡ step old.nodes old.wait after command = applied.stepped ∙ ap (λ s. step old.nodes old.wait s command) book.state in
    let shown : snapshot_after reply (step old.nodes old.wait after command).0 ≡ snapshot =
    ap (λ p. snapshot_after p (step old.nodes old.wait after command).0) (ap (λ p. p.1) made)
    ∙ step-snapshot old.nodes old.wait after command
    ∙ ap (λ s. snapshot_before old.wait s command) (sym book.state)
    ∙ sym is in
    (λ i. calls_from (applied.nodes i) (applied.wait i) (applied.base i) (applied.entries i))
    ∙ calls-append old.nodes old.wait old.base old.entries (e ∷ [])
    ∙ ap (λ o. log_of old ++ call o ∷ []) shown

-- the number of a batch, if any
abbrev number_of : Option Batch → Option ℕ
number_of = option_map (λ b. b.number)

-- a reply tells the batch that its command would seal
pub step-sealed : (nodes : List ℕ) (wait : ℕ) (s : State) (command : Command) → number_of (snapshot_before wait s command) ≡ sealed_by
    (step nodes wait s command).1
unfolding step seal sealed_state batch_of
step-sealed nodes wait s command = grind arith

-- where a command seals a batch, it is a seal, and the batch stands sealed
pub record HasSealed (command : Command) (after : State × Reply) (b : Batch) : Type 0 where
  pub seals : is_light command ≡ false
  pub stands : after.0.sealed ≡ Some b

pub step-seals : (nodes : List ℕ) (wait : ℕ) (s : State) (command : Command) (b : Batch) → snapshot_before wait s command ≡ Some b →
    HasSealed command (step nodes wait s command) b
unfolding step
step-seals nodes wait s command b e = record { seals = grind arith; stands = grind arith }

pub applied-fits : (old new : BookView) (lane : ℕ) (command : Command) (reply : Reply) (snapshot : Option Batch)
    → IsBook new → IsApplied old lane command reply new → snapshot ≡ snapshot_before old.wait old.state command
    → Fits old.nodes command (record { reply = reply; snapshot = snapshot })
applied-fits old new lane command reply snapshot book applied is =
    let after = step old.nodes old.wait old.state command in
    let told : reply ≡ after.1 = ap (λ p. p.1) applied.stepped in
    let state : new.state ≡ after.0 = ap (λ p. p.0) applied.stepped in
    let sealed : (b : Batch) → snapshot ≡ Some b → HasSealed command after b = λ b e. step-seals old.nodes old.wait old.state command b (sym is ∙ e) in
    record {
      sealed = ap number_of is ∙ step-sealed old.nodes old.wait old.state command ∙ ap sealed_by (sym told);
      named = λ b e. subst (λ nodes. All (IsNode nodes) (named_nodes b)) applied.nodes (book.named.sealed b
          (ap (λ (t : State). t.sealed) state ∙ (sealed b e).stands));
      seals = λ b e. (sealed b e).seals;
    }
