-- A plan's parts make it good, and its lists grow by one item.
use Rattle.std.proofs.Common.{◌≡◌, ◌<◌, ◌+◌, ◌++◌, ◌∷◌, ℕ, List, [], ℤ, sym, ◌∙◌, subst, map, take, length, get_or, refl}
use Rattle.std.proofs.lemmas.List.{get_or-map, map_more}
use Rattle.stop_orders.specs.task.Settled.{rider_at, vehicle_at}
use Rattle.stop_orders.specs.declared.task.settled.Settled.{Settled}
use Rattle.dispatch_engine.specs.outcome.Moves.{move_from_to, move_line}
use Rattle.dispatch_engine.proofs.Common.{Settings, Posed, AreLists}
use Rattle.assignment_search.specs.Found.{IsSearchAnswer}
use Rattle.assignment_search.specs.declared.found.Found.{Found}
use Rattle.plan_rules.specs.declared.node.Node.{Node}
use Rattle.request_book.specs.declared.values.outcome.Planned.{Planned}
use Rattle.dispatch_engine.specs.outcome.Outcome.{IsGoodPlan}
use Rattle.dispatch_engine.specs.declared.outcome.point.Point.TheVariants as point

-- a found plan with the lists that belong to it
pub good_plan : (settings : Settings) (p : Posed) (found : Found) (planned : Planned) → IsSearchAnswer p.graph settings.budget found →
    planned.cost ≡ found.cost → planned.bound ≡ found.bound → planned.tree ≡ found.tree
    → AreLists p found.plan planned → IsGoodPlan settings planned p
good_plan settings p found planned of cost_is bound_is tree_is lists = by
  where
    With : ℕ → ℤ → List Node → Type 0
    With cost bound tree = IsSearchAnswer p.graph settings.budget (record { plan = found.plan; cost = cost; bound = bound; tree = tree })

    answer : With planned.cost planned.bound planned.tree
    answer = subst (λ (t : List Node). With planned.cost planned.bound t) (sym tree_is) (subst (λ (b : ℤ). With planned.cost b found.tree) (sym bound_is)
        (subst (λ (c : ℕ). With c found.bound found.tree) (sym cost_is) of))

    by : IsGoodPlan settings planned p
    by point.Answer = tt
    by point.Graphs = (lists.lapsed, lists.rv, lists.rr, lists.rows)
    by point.Late = lists.late
    by point.Trips = record { chosen = found.plan; plan = of.lawful.plan; trips = lists.trips; holds = tt }
    by point.Plan = record { chosen = found.plan; plan = of.lawful.plan; trips = lists.trips; holds = (of.lawful, answer.costs, lists.left) }
    by point.Bound = answer.shown
    by point.Tree = (answer.close, answer.fair)
    by point.Best = record { chosen = found.plan; plan = of.lawful.plan; trips = lists.trips; holds = of.best }
    by point.Moves = record { chosen = found.plan; plan = of.lawful.plan; trips = lists.trips; holds = lists.moves }

-- a list that tells one item more of another
pub map_pushed : {X Y : Type 0} (f : X → Y) (xs : List X) (i : ℕ) (d : X) (y : Y) (told now : List Y) → i < length xs → told ≡ map f (take i xs) →
    now ≡ told ++ y ∷ [] → y ≡ f (get_or xs i d) → now ≡ map f (take (i + 1) xs)
map_pushed f xs i d y told now below so_far pushed is = pushed ∙ rw (so_far, is) (sym (map_more f xs i d below))

-- the move of a pair of places of two lists
pub move_of_pair : (tau : ℕ → ℕ → ℕ) (settled : Settled) (vehicles riders : List ℕ) (place wanted : ℕ) → place < length vehicles → wanted < length riders
    → move_from_to tau settled (get_or vehicles place 0) (get_or riders wanted 0) ≡ move_line tau settled vehicles riders (place, wanted)
move_of_pair tau settled vehicles riders place wanted within there = rw (
  get_or-map (λ v. (vehicle_at settled v).start) vehicles place 0 0 within,
  get_or-map
      (λ r. (rider_at settled r).leg.origin) riders wanted 0 0 there,
) refl
