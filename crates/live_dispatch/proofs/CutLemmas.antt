-- From what two passes called to the entries of the journal.
use Rattle.std.proofs.Common.{◌≡◌, ℕ, ◌+◌, Bool, eqb, List, [], ◌∷◌, ◌++◌, map, refl, sym, ap, subst, ◌∙◌, arith}
use Rattle.std.proofs.lemmas.Bool.Decides.{nat_tests}
use Rattle.std.specs.Prelude.{Option, filter}
use Rattle.std.specs.List.{enumerate_from}
use Rattle.request_book.specs.values.Batch.{Batch}
use Rattle.request_book.specs.declared.values.journal.Entry.{Entry}
use Rattle.request_book.specs.declared.values.state.State.{State}
use Rattle.request_book.specs.register.Step.{step}
use Rattle.rider_limits.specs.declared.settings.Settings.{Settings}
use Rattle.road_network.specs.Roads.{Roads}
use Rattle.input_rows.specs.declared.script.script_row.ScriptRow.{ScriptRow}
use Rattle.seat_lock.specs.Values.{calls_of, GainsCalls, PassValue}
use Rattle.dispatch_engine.specs.lanes.Locked.{calls_from}
use Rattle.dispatch_engine.specs.declared.lanes.locked.LockedReply.{LockedReply}
use Rattle.live_dispatch.specs.Desk.{desk_call, desk_log, desk_root, DeskView, IsDesk}
use Rattle.live_dispatch.specs.declared.desk.LaneCommand.{LaneCommand}
use Rattle.live_dispatch.specs.Phase.{commands_in, commands_of_pass, ClosesBatch, HasRunOpen, RanRows, TakesRun}
use Rattle.live_dispatch.specs.declared.read_on.Halt.{Halt}

module _ (nodes : List ℕ) (wait : ℕ) where
  -- the calls of a pass, as entries of its lanes
  commands-cut : (pass n : ℕ) (s : State) (es : List Entry)
      → map (λ p. p.1.call) (filter (λ p. eqb p.1.lane pass) (enumerate_from n (map desk_call (calls_from nodes wait s es)))) ≡ commands_of_pass pass es
  unfolding calls_from
  commands-cut pass n s [] = refl
  commands-cut pass n s (e ∷ es) = grind (arith, nat_tests, commands-cut pass (n + 1) (step nodes wait s e.command).0 es)

-- the commands of a pass, where the journal was empty before
pass-commands : (d : DeskView) (before : List _) (passes : List (PassValue DeskView LaneCommand LockedReply)) (k : ℕ)
    (p : PassValue DeskView LaneCommand LockedReply)
    → (gains : GainsCalls before (desk_log d) passes) → before ≡ [] → p.calls ≡ calls_of k gains.since → commands_in p ≡ commands_of_pass k d.book.entries
pass-commands d before passes k p gains none is =
    let log : gains.since ≡ desk_log d = sym (gains.gained ∙ ap (λ l. l ++ gains.since) none) in
    ap (λ cs. map (λ c. c.1.call) cs) (is ∙ ap (calls_of k) log) ∙ commands-cut d.book.nodes d.book.wait k 0 d.book.base d.book.entries

-- what came of an open batch, from what its two passes called
pub open-run : (settings : Settings) (roads : Roads) (b : Batch) (round : ℕ) (old new : Option (List ScriptRow)) (got after held start : DeskView)
    (closed : Bool) (end : Halt)
    (first second : PassValue DeskView LaneCommand LockedReply)
    → got ≡ after → held ≡ start → after.opened ≡ start.now → IsDesk got → desk_root got ≡ desk_root held →
    GainsCalls (desk_log held) (desk_log got) (first ∷ second ∷ [])
    → desk_log start ≡ [] → ClosesBatch settings roads b closed (commands_in first) → RanRows round (commands_in second) (TakesRun end old new)
    → HasRunOpen settings roads b round old new start after closed end
open-run settings roads b round old new got after held start closed end first second is was opened kept root gains none close rows =
    let commands : (k : ℕ) (p : PassValue DeskView LaneCommand LockedReply) → p.calls ≡ calls_of k gains.since →
    commands_in p ≡ commands_of_pass k after.book.entries =
    λ k p calls. pass-commands got (desk_log held) (first ∷ second ∷ []) k p gains (ap desk_log was ∙ none) calls ∙
    ap (λ (d : DeskView). commands_of_pass k d.book.entries) is in
    record {
      desk = subst IsDesk is kept;
      root = sym (ap desk_root is) ∙ root ∙ ap desk_root was;
      opened = opened;
      close = subst (ClosesBatch settings roads b closed) (commands 0 first (gains.cut 0 first (omega arith))) close;
      rows = subst (λ cs. RanRows round cs (TakesRun end old new)) (commands 1 second (gains.cut 1 second (omega arith))) rows;
    }

-- a desk whose journal is empty has no call
pub no-log : (d : DeskView) → d.book.entries ≡ [] → desk_log d ≡ []
unfolding calls_from
no-log d none = ap (λ es. map desk_call (calls_from d.book.nodes d.book.wait d.book.base es)) none
