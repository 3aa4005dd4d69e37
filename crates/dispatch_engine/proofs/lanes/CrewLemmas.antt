-- From passes to lanes at work, and back.
use Rattle.std.proofs.Common.{◌≡◌, ℕ, ◌<◌, ◌≤◌, true, List, [], length, map, All, Result, Ok, Err, ◌∙◌, arith}
use Rattle.dispatch_engine.proofs.Common.{
  get_or-map,
  length-map,
  BookView,
  Command,
  Settings,
  Roads,
  NumberedLanes,
  AreAllPasses,
  IsNew,
  IsPassOf,
  LockValue,
  BookPass,
  HasRun,
  IsLaneRun,
  at_rest,
  AreInOrder,
  HasRunLane,
  HasWorked,
  HaveRunLanes,
  IsToWork,
  LaneWork,
}
use Rattle.std.proofs.lemmas.List.Elements.{All-map}
use Rattle.std.specs.Result.{is_ok, OnOk}
use Rattle.dispatch_engine.proofs.lanes.PassLemmas.{ran-fresh}

pub when-ok : {T E : Type 0} (r : Result T E) (P : Type 0) → is_ok r ≡ true → OnOk r P → P
when-ok (Ok x) P is p = p
when-ok (Err e) P is p = absurd cc

-- a pass that had made no call has run these commands
pub lane-run : (settings : Settings) (roads : Roads) (commands : List Command) (old new : BookPass) → old.calls ≡ [] →
    HasRun settings roads (IsLaneRun commands) old new → HasRunLane settings roads commands new
lane-run settings roads commands old new fresh ran =
    let both = ran-fresh settings roads old new commands ran fresh in
    record { run = both.0; closes = both.1 }

module _ (book : LockValue BookView) (passes : List BookPass) (all : AreAllPasses book passes) where
  pub rest-ready : All IsNew passes → book.lanes ≤ 16 → All (λ pass. IsToWork book (at_rest pass)) passes
  rest-ready new few k d lt = record {
    own = all.own k d lt;
    fresh = (new k d lt).0;
    lane = omega (arith, all.lanes k d lt, all.len, lt, few);
  }

module _ (settings : Settings) (roads : Roads) (round : NumberedLanes) (book : LockValue BookView) (crew : List LaneWork)
    (worked : All (HasWorked settings roads round book) crew) (order : AreInOrder crew) where
  of-crew : (k : ℕ) → k < length (map (λ w. w.pass) crew) → k < length crew
  of-crew k lt = omega (arith, length-map crew (λ (w : LaneWork). w.pass))

  pub passes-all : length crew ≡ book.lanes → AreAllPasses book (map (λ w. w.pass) crew)
  passes-all len = record {
    len = length-map crew (λ w. w.pass) ∙ len;
    own = All-map (IsPassOf book) (λ w. w.pass) crew (λ k d lt. (worked k d lt).own);
    lanes = λ k d lt. let here = of-crew k lt in rw (get_or-map (λ w. w.pass) crew k (at_rest d) d here) (order k (at_rest d) here);
  }

  pub passes-run : All (λ w. w.done ≡ true) crew → HaveRunLanes settings roads round (map (λ w. w.pass) crew)
  passes-run done k d lt =
      let here = of-crew k lt in
      rw (get_or-map (λ w. w.pass) crew k (at_rest d) d here) (rw (order k (at_rest d) here) at ((worked k (at_rest d) here).ran (done k (at_rest d) here)))
