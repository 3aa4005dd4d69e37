use Rattle.std.proofs.Common.{ℕ, ◌<◌, length, ◌++◌, sym, ap, ◌∙◌, subst}
use Rattle.seat_lock.proofs.Common.{PassValue, calls_of, Claimed, Laned}
use Rattle.seat_lock.proofs.Positions.{each_once}
use Rattle.seat_lock.proofs.Handing.{claimed_each, All-laned}
use Rattle.seat_lock.proofs.lock.SeatLock.finish.Goals as goal

pub returns-clause-log : goal.returns-clause-log
returns-clause-log g c =
    let e = c.close.ensures in
    let r = c.requires in
    let view = c.self.view_is in
    let lanes = ap (λ v. v.lanes) view ∙ sym r.len in
    let cut = λ (k : ℕ) (d : PassValue _ _ _) (lt : k < length c.args.passes.items). claimed_each e.entries c.args.passes.items
    (subst (Claimed e.entries) c.join_all-all.ensures.all.claims e.claimed) k d lt ∙ ap (λ n. calls_of n e.entries) (r.lanes k d lt) in record {
      since = e.entries;
      gained = e.logged ∙ ap (λ v. g.B.Logged.log v.start ++ e.entries) view;
      cut = cut;
      lanes = All-laned _ _ _ lanes e.laned;
      once = λ n. each_once n e.entries (λ (p : PassValue _ _ _). p.calls) c.args.passes.items cut (subst (λ (k : ℕ). Laned k e.entries) lanes e.laned);
    }
