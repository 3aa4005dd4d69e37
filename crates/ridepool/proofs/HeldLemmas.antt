-- Rounds of a day that are held.
use Rattle.std.proofs.Common.{◌≡◌, ℕ, zero, suc, ◌<◌, Bool, true, false, List, [], ◌∷◌, ◌++◌, length, get_or, refl, sym, subst, arith}
use Rattle.ridepool.proofs.Common.{AllZip, NotifierView, HaveHeard}
use Rattle.request_book.specs.declared.notices.notice.Notice.{Notice}

module _ {X Y : Type 0} (R : X → Y → Type 0) where
  -- two lists that go together do so at each place
  pub zip-at : (xs : List X) (ys : List Y) (i : ℕ) (y : Y) → i < length ys → y ≡ get_or ys i y → AllZip R xs ys →
      (x : X) × (i < length xs) × (x ≡ get_or xs i x) × R x y
  zip-at [] [] i y within is all = absurd (omega (arith, within))
  zip-at [] (z ∷ ys) i y within is all = absurd all
  zip-at (x ∷ xs) [] i y within is all = absurd all
  zip-at (x ∷ xs) (z ∷ ys) zero y within is all = (x, omega arith, refl, subst (R x) (sym is) all.0)
  zip-at (x ∷ xs) (z ∷ ys) (suc i) y within is all = let rest = zip-at xs ys i y (omega (arith, within)) is
      all.1 in (rest.0, omega (arith, rest.1), rest.2, rest.3)

  pub zip-push : (xs : List X) (ys : List Y) (x : X) (y : Y) → AllZip R xs ys → R x y → AllZip R (xs ++ x ∷ []) (ys ++ y ∷ [])
  zip-push [] [] x y all one = (one, tt)
  zip-push (z ∷ xs) (w ∷ ys) x y all one = (all.0, zip-push xs ys x y all.1 one)
  zip-push _ _ x y all one = absurd all

-- whoever is told what is held has heard the notices, or there is nobody
nobody : (ms ns : List Notice) (n k : List NotifierView) → length n ≡ 0 → HaveHeard ms n k → HaveHeard ns n k
nobody ms ns _ _ none HaveHeard.none = HaveHeard.none
nobody ms ns _ _ none (HaveHeard.kept before after others left heard rest) = absurd (let e : suc (length others) ≡ 0 = none in omega (arith, e))
nobody ms ns _ _ none (HaveHeard.dropped before others left unsure rest) = absurd (let e : suc (length others) ≡ 0 = none in omega (arith, e))

pub heard_held : (told : Bool) (ms ns : List Notice) (n k : List NotifierView) → (told ≡ true → ms ≡ ns) → (told ≡ false → length n ≡ 0) → HaveHeard ms n k →
    HaveHeard ns n k
heard_held true ms ns n k same none heard = subst (λ (l : List Notice). HaveHeard l n k) (same refl) heard
heard_held false ms ns n k same none heard = nobody ms ns n k (none refl) heard
