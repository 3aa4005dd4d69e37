-- A run of rounds and of one more, a lane's run and one more, and what both begin with.
use Rattle.std.proofs.Common.{
  arith,
  ◌≡◌,
  ℕ,
  ◌+◌,
  ◌<◌,
  Bool,
  List,
  [],
  ◌∷◌,
  ◌++◌,
  length,
  get_or,
  take,
  map,
  filter,
  Option,
  Some,
  None,
  refl,
  sym,
  ap,
  subst,
  ◌∙◌,
  append_assoc,
  add-one,
  eqb,
  All,
  Contains,
}
use Rattle.dispatch_engine.proofs.Common.{
  Batch,
  Command,
  Entry,
  Reply,
  next_position,
  state_after,
  Journal,
  State,
  Settings,
  Roads,
  NumberedLanes,
  sealed_by,
  with_snapshot,
  IsLaneBeginning,
  IsLaneRun,
  IsLaneRunFrom,
  IsRoundRun,
  IsRun,
  position_after_run,
  state_after_run,
}
use Rattle.std.proofs.Math.Seq.{take-suc}
use Rattle.std.proofs.lemmas.Bool.{eqb-true}
use Rattle.std.proofs.lemmas.Map.Views.{Contains-from_any}
use Rattle.request_book.specs.Points.{named_nodes}
use Rattle.request_book.specs.Consistent.{IsNode}
use Rattle.dispatch_engine.specs.lanes.Locked.{Fits}

-- items up to the next one
pub take_next : {X : Type 0} (xs : List X) (i : ℕ) (x : X) → i < length xs → x ≡ get_or xs i x → take i xs ++ x ∷ [] ≡ take (i + 1) xs
take_next xs i x within is = ap (λ y. take i xs ++ y ∷ []) is ∙ sym (rw add-one (take-suc xs i x within))

-- those of the images that count are the images of those that count
pub filter-mapped : {X Y : Type 0} (f : X → Y) (p : Y → Bool) (xs : List X) → filter p (map f xs) ≡ map f (filter (λ x. p (f x)) xs)
filter-mapped f p [] = refl
filter-mapped f p (x ∷ xs) = grind (arith, filter-mapped f p xs)

-- what a batch names is on the roads
pub snapshot-known : (nodes roads : List ℕ) (command : Command) (reply : Reply) (b : Batch) → nodes ≡ roads →
    Fits nodes command (with_snapshot reply (Some b)) → All (λ node. Contains roads node) (named_nodes b)
snapshot-known nodes roads command reply b is fits = λ k d within.
    let node = get_or (named_nodes b) k d in
    Contains-from_any {eq = λ q n. eqb n q} (λ x y same. sym (eqb-true y x same)) node roads
    (subst (λ (ns : List ℕ). IsNode ns node) is (fits.named b refl k d within))

-- a lane's run, and one more
pub run-append : (pending : Option ℕ) (cs ds : List Command) (es fs : List Entry) → IsLaneRunFrom pending cs es → IsLaneRun ds fs →
    IsLaneRunFrom pending (cs ++ ds) (es ++ fs)
run-append None [] ds [] fs p q = q
run-append None (c ∷ cs) ds (e ∷ es) fs p q = (p.0, run-append (sealed_by e.reply) cs ds es fs p.1 q)
run-append (Some batch) cs ds (e ∷ es) fs p q = (p.0, run-append None cs ds es fs p.1 q)
run-append _ _ ds _ fs p q = absurd p

-- after a run of some commands a beginning of a run of others
pub begun-next : (cs ds : List Command) (es fs : List Entry) → IsLaneRun cs es → IsLaneBeginning ds fs → IsLaneBeginning (cs ++ ds) (es ++ fs)
begun-next cs ds es fs p q = (q.0, subst (IsLaneRun (cs ++ ds)) (sym (append_assoc es fs q.0)) (run-append None cs ds es (fs ++ q.0) p q.1))

pub position-more : (position : ℕ) (js : List Journal) (j : Journal) → position_after_run position (js ++ j ∷ []) ≡ next_position
    (position_after_run position js) j.entries
position-more position [] j = refl
position-more position (k ∷ js) j = position-more (next_position position k.entries) js j

module _ (settings : Settings) (roads : Roads) where
  pub run-more : (s : State) (position : ℕ) (rs : List NumberedLanes) (js : List Journal) (r : NumberedLanes) (j : Journal)
      → IsRun settings roads s position rs js → j.base ≡ state_after_run settings roads s js → j.first ≡ position_after_run position js →
      IsRoundRun settings roads r j
      → IsRun settings roads s position (rs ++ r ∷ []) (js ++ j ∷ [])
  run-more s position [] [] r j run base first round = (base, first, round, tt)
  run-more s position (q ∷ rs) (k ∷ js) r j run base first round =
      (run.0, run.1, run.2, run-more (state_after roads.nodes settings.wait s k.entries) (next_position position k.entries) rs js r j run.3 base first round)
  run-more s position _ _ r j run base first round = absurd run

  pub state-more : (s : State) (js : List Journal) (j : Journal) → state_after_run settings roads s (js ++ j ∷ []) ≡ state_after roads.nodes settings.wait
      (state_after_run settings roads s js) j.entries
  state-more s [] j = refl
  state-more s (k ∷ js) j = state-more (state_after roads.nodes settings.wait s k.entries) js j
