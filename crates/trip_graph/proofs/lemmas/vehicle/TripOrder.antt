use Rattle.std.proofs.Common.{◌≡◌, ℕ, ◌+◌, ◌<◌, ◌≤◌, ◌⊎◌, inl, inr, List, [], ◌∷◌, ◌++◌, length, take, refl, sym, ◌∙◌, arith, get_or, rules}
use Rattle.trip_graph.proofs.Common.{take_more, IsLower}
use Rattle.std.proofs.lemmas.List.{append-nil, take_all}

pub lower_irrefl : (a : List ℕ) → IsLower a a → ⊥
lower_irrefl [] h = h
lower_irrefl (x ∷ xs) (inl h) = omega arith
lower_irrefl (x ∷ xs) (inr h) = lower_irrefl xs h.1

pub lower_trans : (a b c : List ℕ) → IsLower a b → IsLower b c → IsLower a c
lower_trans [] b c h k = absurd h
lower_trans (x ∷ xs) [] c h k = absurd h
lower_trans (x ∷ xs) (y ∷ ys) [] h k = absurd k
lower_trans (x ∷ xs) (y ∷ ys) (z ∷ zs) (inl h) (inl k) = inl (omega arith)
lower_trans (x ∷ xs) (y ∷ ys) (z ∷ zs) (inl h) (inr k) = inl (let e = k.0 in omega arith)
lower_trans (x ∷ xs) (y ∷ ys) (z ∷ zs) (inr h) (inl k) = inl (let e = h.0 in omega arith)
lower_trans (x ∷ xs) (y ∷ ys) (z ∷ zs) (inr h) (inr k) = inr (h.0 ∙ k.0, lower_trans xs ys zs h.1 k.1)

pub lower_asym : (a b : List ℕ) → IsLower a b → IsLower b a → ⊥
lower_asym a b h k = lower_irrefl a (lower_trans a b a h k)

pub lower_append : (a b s t : List ℕ) → IsLower a b → IsLower (a ++ s) (b ++ t)
lower_append [] b s t h = absurd h
lower_append (x ∷ xs) [] s t h = absurd h
lower_append (x ∷ xs) (y ∷ ys) s t (inl h) = inl h
lower_append (x ∷ xs) (y ∷ ys) s t (inr h) = inr (h.0, lower_append xs ys s t h.1)

-- what decides stands in the front that both have
pub lower_front : (a b s : List ℕ) → length b ≤ length a → IsLower (a ++ s) b → IsLower a b
lower_front [] [] s e h = absurd (elim s as (λ v. IsLower v [] → ⊥) [ [] ↦ λ k. k | _ ∷ _ ↦ λ k. k ] h)
lower_front [] (y ∷ ys) s e h = absurd (omega arith)
lower_front (x ∷ xs) [] s e h = absurd h
lower_front (x ∷ xs) (y ∷ ys) s e (inl h) = inl h
lower_front (x ∷ xs) (y ∷ ys) s e (inr h) = inr (h.0, lower_front xs ys s (omega arith) h.1)

-- a trip below p and c has a lower front, or is p and less than c
pub lower_back : (p t : List ℕ) (c : ℕ) → length t ≡ length p + 1 → IsLower t (p ++ c ∷ []) → IsLower t p ⊎ ((e : ℕ) × (t ≡ p ++ e ∷ []) × (e < c))
lower_back [] [] c e h = absurd h
lower_back [] (x ∷ []) c e (inl h) = inr (x, refl, h)
lower_back [] (x ∷ []) c e (inr h) = absurd h.1
lower_back [] (x ∷ (y ∷ ys)) c e h = absurd (omega arith)
lower_back (z ∷ zs) [] c e h = absurd h
lower_back (z ∷ zs) (x ∷ xs) c e (inl h) = inl (inl h)
lower_back (z ∷ zs) (x ∷ xs) c e (inr h) = search (rules, (lower_back zs xs c))

-- a trip after q and x, and not after q and z, begins with q
pub squeeze : (q y : List ℕ) (x z : ℕ) → length y ≡ length q + 1 → IsLower (q ++ x ∷ []) y → IsLower y (q ++ z ∷ []) ⊎ (y ≡ q ++ z ∷ []) →
    (w : ℕ) × (y ≡ q ++ w ∷ [])
squeeze q y x z e h (inr k) = (z, k)
squeeze [] [] x z e h (inl k) = absurd k
squeeze [] (v ∷ []) x z e h (inl k) = (v, refl)
squeeze [] (v ∷ (u ∷ us)) x z e h (inl k) = absurd (omega arith)
squeeze (p ∷ ps) [] x z e h (inl k) = absurd k
squeeze (p ∷ ps) (v ∷ vs) x z e (inl h) (inl (inl k)) = absurd (omega arith)
squeeze (p ∷ ps) (v ∷ vs) x z e (inl h) (inl (inr k)) = absurd (let g = k.0 in omega arith)
squeeze (p ∷ ps) (v ∷ vs) x z e (inr h) (inl (inl k)) = absurd (let g = h.0 in omega arith)
squeeze (p ∷ ps) (v ∷ vs) x z e (inr h) (inl (inr k)) = search (rules, (squeeze ps vs x z))

-- a lower last rider makes the trip lower
pub lower_last : (p : List ℕ) (d e : ℕ) → d < e → IsLower (p ++ d ∷ []) (p ++ e ∷ [])
lower_last [] d e h = inl h
lower_last (x ∷ xs) d e h = inr (refl, lower_last xs d e h)

-- what is below a trip is below the trip with one more rider
pub lower_longer : (t p s : List ℕ) → IsLower t p → IsLower t (p ++ s)
lower_longer t p s h = rw append-nil at (lower_append t p [] s h)

pub lower_raise : (p t : List ℕ) (c d : ℕ) → length t ≡ length p + 1 → c ≤ d → IsLower t (p ++ c ∷ []) → IsLower t (p ++ d ∷ [])
lower_raise p t c d e h k = search (rules, lower_longer, lower_last, lower_back)

-- a trip is its front and its last rider
pub front_and_last : (t : List ℕ) (m : ℕ) → length t ≡ m + 1 → t ≡ take m t ++ get_or t m 0 ∷ []
front_and_last t m e = let within : m < length t = omega arith in sym (take_all (m + 1) t (omega arith)) ∙ take_more t m 0 within
