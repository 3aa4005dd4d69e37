use Rattle.std.proofs.Common.{◌≡◌, ℕ, ℤ, w64, [], ◌∷◌, ◌++◌, map, take, pos, neg_ℤ, to_z, of_z, sym, ap, ◌∙◌, arith}
use Rattle.rebalancing.proofs.Common.{map_more}
use Rattle.std.proofs.lemmas.List.{take_all}
use Rattle.std.proofs.lemmas.Int.{to_z-of_z}
use Rattle.rebalancing.proofs.best_moves.negated.Goals as goal

pub loop-price-preserved : goal.loop-price-preserved
loop-price-preserved c =
    let below : ℕ → ℤ = λ p. neg_ℤ (pos p) in
    let i = c.loop-price.price-index in
    let back : to_z w64 (of_z w64 c.below_zero.result) ≡ c.below_zero.result = to_z-of_z w64 c.below_zero.result (record { sfits = c.below_zero.type_inv }) in
    let pushed : c.push.new.self.items ≡ c.loop-price.potentials.items ++ c.below_zero.result ∷ [] = rw back at c.in_ok-push.ensures.items in
    pushed
    ∙ ap (λ l. l ++ c.below_zero.result ∷ []) c.loop-price.invariant
    ∙ ap (λ x. map below (take i c.args.prices.now) ++ x ∷ []) c.below_zero.ensures
    ∙ sym (map_more below c.args.prices.now i 0 (omega arith))

pub returns : goal.returns
returns c = c.loop-price.invariant ∙ ap (map (λ (p : ℕ). neg_ℤ (pos p))) (take_all c.loop-price.price-index c.args.prices.now (omega arith))
