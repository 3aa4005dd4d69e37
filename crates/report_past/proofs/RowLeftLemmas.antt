-- Which lines are of no row that may come next.
use Rattle.std.proofs.Common.{◌≡◌, ℕ, ◌<◌, Bool, false, List, Option, Some, None, IsTrue, ◌↔◌, unwrap_or, sym, ap, subst, ◌∙◌}
use Rattle.std.specs.Option.{is_some}
use Rattle.dispatch_report.specs.Entry.{entry_line}
use Rattle.input_rows.specs.script.Round.{MayStand}
use Rattle.report_audit.specs.lines.Next.{IsEntry}
use Rattle.report_past.proofs.TakeLemmas.{not_both}
use Rattle.report_past.proofs.lemmas.StepLemmas.{no_close}
use Rattle.report_past.specs.work.Taking.{HasNoBlock, IsNextRow, IsNoClosing}
use Rattle.request_book.specs.Book.{BookView, next_position}
use Rattle.request_book.specs.register.Step.{step}
use Rattle.request_book.specs.values.Batch.{Batch}
use Rattle.request_book.specs.values.Command.{IsNoClose}
use Rattle.request_book.specs.declared.values.command.Command.{Command}
use Rattle.request_book.specs.declared.values.journal.Entry.{Entry}
use Rattle.rider_limits.specs.declared.settings.Settings.{Settings}
use Rattle.road_network.specs.Roads.{Roads}

abbrev IsNone : Option (ℕ × Command) → Type 0
IsNone None = Unit {0}
IsNone (Some read) = ⊥

module _ (line : List ℕ) (found : Option (ℕ × Command))
    (exact : (position : ℕ) (e : Entry) → IsEntry position e → IsNoClose e.command → line ≡ entry_line position e → found ≡ Some (e.lane, e.command)) where
  module _ (lane : ℕ) (command : Command) (is : found ≡ Some (lane, command)) where
    -- a row of this line has this lane and this command
    pub only_row : (position : ℕ) (e : Entry) → IsEntry position e → IsNoClose e.command → line ≡ entry_line position e →
        (e.lane ≡ lane) × (e.command ≡ command)
    only_row position e told plain line_is =
        let same : (e.lane, e.command) ≡ (lane, command) = ap (λ o. unwrap_or o (lane, command)) (sym (exact position e told plain line_is) ∙ is) in
        (ap (λ p. p.0) same, ap (λ p. p.1) same)

  module _ (book : BookView) (open_batch : Option Batch) where
    pub unread : found ≡ None → (e : Entry) → IsNextRow book open_batch line e → ⊥
    unread none e next =
        subst IsNone (sym none ∙ exact (next_position book.first book.entries) e next.told (no_close e.lane e.command next.stands) next.line_is) tt

    module _ (lane : ℕ) (command : Command) (is : found ≡ Some (lane, command)) where
      own : (e : Entry) → IsNextRow book open_batch line e → (e.lane ≡ lane) × (e.command ≡ command)
      own e next = only_row lane command is (next_position book.first book.entries) e next.told (no_close e.lane e.command next.stands) next.line_is

      pub unfit : (said is_open : Bool) → is_open ≡ is_some open_batch → IsTrue said ↔ ((lane < 16) × MayStand lane command × (lane ≡ 0 → is_open ≡ false))
          → said ≡ false → (e : Entry) → IsNextRow book open_batch line e → ⊥
      unfit said is_open open_is may off e next =
          let same = own e next in
          not_both said off (may.1 (
            subst (λ l. l < 16) same.0 next.within,
            subst (λ l. MayStand l command) same.0 (subst (MayStand e.lane) same.1 next.stands),
            λ zero. open_is ∙ ap is_some (next.free (same.0 ∙ zero)),
          ))

      pub untold : (line ≡ entry_line (next_position book.first book.entries)
          (record { lane = lane; command = command; reply = (step book.nodes book.wait book.state command).1 }) → ⊥)
          → (e : Entry) → IsNextRow book open_batch line e → ⊥
      untold none e next =
          let same = own e next in
          let reply = next.reply ∙ ap (λ c. (step book.nodes book.wait book.state c).1) same.1 in
          none (next.line_is ∙ (λ i. entry_line (next_position book.first book.entries) (record { lane = same.0 i; command = same.1 i; reply = reply i })))

-- of the batch that was taken out
same_batch : (a b : Batch) → Some a ≡ Some b → a ≡ b
same_batch a b is = ap (λ o. unwrap_or o a) is

pub no_closing_of : (book : BookView) (a b : Batch) (line : List ℕ) → Some a ≡ Some b → IsNoClosing book a line → IsNoClosing book b line
no_closing_of book a b line is none = subst (λ c. IsNoClosing book c line) (same_batch a b is) none

pub no_block_of : (settings : Settings) (roads : Roads) (a b : Batch) (text : List ℕ) → Some a ≡ Some b → HasNoBlock settings roads a text →
    HasNoBlock settings roads b text
no_block_of settings roads a b text is none = subst (λ c. HasNoBlock settings roads c text) (same_batch a b is) none
