use Rattle.std.proofs.Common.{◌≡◌, ℕ, ◌+◌, ◌<◌, List, [], ◌∷◌, ◌++◌, length, get_or, take, append_assoc, refl, ◌∙◌, arith}
use Rattle.travel_times.proofs.Common.{Hop}
use Rattle.std.proofs.lemmas.List.{take_all, take_more}
use Rattle.travel_times.proofs.search.arcs.push_hops.Goals as goal

-- one more element
appended : {X : Type 0} (new now old xs : List X) (i : ℕ) (x d : X) → new ≡ now ++ x ∷ [] → now ≡ old ++ take i xs → x ≡ get_or xs i d → i < length xs →
    new ≡ old ++ take (i + 1) xs
appended new now old xs i x d pushed so_far is within = pushed ∙ rw (so_far, is, take_more xs i d within, append_assoc) refl

pub loop-hop-preserved : goal.loop-hop-preserved
loop-hop-preserved c =
    let none : Hop = record { to = 0; seconds = 0 } in
    appended _ _ _ c.args.leaving.now c.loop-hop.hop-index _ none c.in_ok-push.ensures.items c.loop-hop.invariant c.of.ensures (omega arith)

pub returns : goal.returns
returns c = rw (take_all c.loop-hop.hop-index c.args.leaving.now (omega arith)) at c.loop-hop.invariant
