use Rattle.std.proofs.Common.{◌≡◌, ℕ, List, [], ◌∷◌, ◌++◌, ap, ◌∙◌}
use Rattle.input_rows.proofs.Common.{Stream, text_under, draws_of, network_part, fleet_part, script_part, arcs_right, arcs_down, arcs_of_row, Writes, texts_of}
use Rattle.std.proofs.lemmas.List.{append_assoc}
use Rattle.rider_limits.specs.declared.load_shape.LoadShape.{LoadShape}
use Rattle.pool_base.specs.Header.{script_header, fleet_header, network_header}

-- rows that were written one after another, from the seed's draws on, make the shape's texts
pub texts_of-written : (shape : LoadShape) (seed : ℕ) (n f t : List ℕ) (u v w : Stream) → seed ≡ shape.seed
    → Writes (network_part shape) (network_header ++ 10 ∷ []) n (draws_of seed) u
    → Writes (fleet_part shape) (fleet_header ++ 10 ∷ []) f u v
    → Writes (script_part shape) (script_header ++ 10 ∷ []) t v w
    → record { network = n; fleet = f; script = t } ≡ texts_of shape
unfolding texts_of network_part arcs_of_row arcs_right arcs_down fleet_part script_part
texts_of-written shape seed n f t u v w is network fleet script =
    let s = ap draws_of is in
    let left : u ≡ (network_part shape (draws_of shape.seed)).1 = network.left ∙ ap (λ d. (network_part shape d).1) s in
    let last : v ≡ (fleet_part shape (network_part shape (draws_of shape.seed)).1).1 = fleet.left ∙ ap (λ d. (fleet_part shape d).1) left in
    let network_is = network.text ∙ append_assoc network_header (10 ∷ []) _ ∙ ap (λ d. text_under network_header (network_part shape d).0) s in
    let fleet_is = fleet.text ∙ append_assoc fleet_header (10 ∷ []) _ ∙ ap (λ d. text_under fleet_header (fleet_part shape d).0) left in
    let script_is = script.text ∙ append_assoc script_header (10 ∷ []) _ ∙ ap (λ d. text_under script_header (script_part shape d).0) last in
    λ k. record { network = network_is k; fleet = fleet_is k; script = script_is k }
