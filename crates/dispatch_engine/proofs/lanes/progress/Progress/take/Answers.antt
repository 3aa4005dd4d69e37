use Rattle.std.proofs.Common.{◌≡◌, ◌<◌, ◌++◌, ◌∷◌, [], List, length, set, sym, ap, ◌∙◌, subst, arith}
use Rattle.dispatch_engine.proofs.Common.{get_or_default, LaneProgress, HaveCome, IsNext, at_start, progress_after, progress_at, Command, Entry, lane_at}
use Rattle.dispatch_engine.proofs.lemmas.lanes.ProgressLemmas.{come_more}
use Rattle.dispatch_engine.proofs.lanes.progress.Progress.take.Goals as goal

pub returns : goal.returns
returns c =
    let round = c.args.round.now in let lane = c.args.lane in let reply = c.args.reply in
    let old : List LaneProgress = c.args.self.now in
    let lanes : List LaneProgress = c.self.inside.lanes.items in
    let low : lane < length lanes = (let n = c.self.invariant in omega (arith, n)) in
    let here : c.index-progress.result.now ≡ progress_at old lane =
    c.index-progress.ensures ∙ get_or_default lanes lane c.index-progress.result.now at_start low ∙
    ap (λ (ls : List LaneProgress). progress_at ls lane) c.self.view_is in
    let stands : (command : Command) → IsNext (lane_at round lane) (progress_at old lane) command →
    set lanes lane c.behind.result ≡ set old lane (progress_after (progress_at old lane) reply) =
    λ command next.
    let told : IsNext c.lane.result.now c.index-progress.result.now command =
    subst (λ (s : LaneProgress). IsNext c.lane.result.now s command) (sym here) (subst (λ (cs : List Command). IsNext cs (progress_at old lane) command)
    (sym c.lane.ensures.commands) next) in
    let after : c.behind.result ≡ progress_after (progress_at old lane) reply = c.behind.ensures command told ∙
    ap (λ (s : LaneProgress). progress_after s reply) here in
    ap (λ (s : LaneProgress). set lanes lane s) after ∙ ap (λ (ls : List LaneProgress). set ls lane (progress_after (progress_at old lane) reply))
    c.self.view_is in
    record {
      come = λ entries command come next.
          let e : Entry = record { lane = lane; command = command; reply = reply } in
          subst (λ (ls : List LaneProgress). HaveCome round ls (entries ++ e ∷ [])) (sym (stands command next))
          (come_more round old entries e (subst (λ (ls : List LaneProgress). lane < length ls) c.self.view_is low) come next);
      stands = stands;
      sixteen = ap (λ (ls : List LaneProgress). length ls) (sym c.self.view_is) ∙ c.self.invariant;
    }
