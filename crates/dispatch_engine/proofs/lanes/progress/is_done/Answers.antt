use Rattle.std.proofs.Common.{◌<◌, ◌≤◌, ℕ, [], Option, length, drop, sym, subst, ⊎_elim}
use Rattle.dispatch_engine.proofs.Common.{cases_lt, IsLaneRunFrom}
use Rattle.std.proofs.lemmas.Bool.{le-leb, leb-true}
use Rattle.dispatch_engine.proofs.lemmas.lanes.ProgressLemmas.{rest_none, rest_some}
use Rattle.dispatch_engine.proofs.lanes.progress.is_done.Goals as goal

pub returns-in-None : goal.returns-in-None
returns-in-None c =
    let commands = c.args.commands.now in let taken = c.args.progress.taken in (
      λ yes. subst (λ (o : Option ℕ). IsLaneRunFrom o (drop taken commands) []) (sym c.in-None.is)
          (rest_none commands taken (leb-true (length commands) taken yes)),
      λ rest. ⊎_elim
          (λ (less : taken < length commands). absurd
          (rest_some commands taken less (subst (λ (o : Option ℕ). IsLaneRunFrom o (drop taken commands) []) c.in-None.is rest)))
          (λ (ge : length commands ≤ taken). le-leb (length commands) taken ge)
          (cases_lt taken (length commands)),
    )
