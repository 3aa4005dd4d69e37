use Rattle.std.proofs.Common.{◌≡◌, ℕ, ◌+◌, ◌<◌, List, [], ◌∷◌, ◌++◌, length, get_or, map, take, append_assoc, refl, ◌∙◌, arith}
use Rattle.travel_times.proofs.Common.{map_more}
use Rattle.std.proofs.lemmas.List.{take_all}
use Rattle.travel_times.proofs.table.rows.push_row.Goals as goal

-- what one more element gives
told_next : {X Y : Type 0} (f : X → Y) (new now old : List Y) (xs : List X) (i : ℕ) (d : X) → new ≡ now ++ f (get_or xs i d) ∷ [] →
    now ≡ old ++ map f (take i xs) → i < length xs → new ≡ old ++ map f (take (i + 1) xs)
told_next f new now old xs i d pushed so_far within = pushed ∙ rw (so_far, map_more f xs i d within, append_assoc) refl

pub loop-point-preserved : goal.loop-point-preserved
loop-point-preserved c = told_next _ _ _ _ c.args.points.now c.loop-point.point-index 0 c.in_ok-push.ensures.items c.loop-point.invariant (omega arith)

pub returns : goal.returns
returns c = rw (take_all c.loop-point.point-index c.args.points.now (omega arith)) at c.loop-point.invariant
