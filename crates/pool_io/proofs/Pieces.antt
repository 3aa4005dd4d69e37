-- What goes in pieces, one after another, goes as a whole.
use Rattle.std.proofs.Common.{rules, ◌≡◌, ℕ, ◌+◌, List, ◌++◌, Option, take, drop, sym, ap, subst, ◌∙◌, arith}
use Rattle.pool_io.proofs.Common.{drop-take, Appends, Consumes, Appends-trans, Consumes-trans}
use Rattle.std.proofs.lemmas.List.{take-append-drop, take-take}

pub take-add : {A : Type 0} (front more : ℕ) (xs : List A) → take (front + more) xs ≡ take front xs ++ take more (drop front xs)
take-add front more xs =
    sym (take-append-drop front (take (front + more) xs)) ∙ ap (λ (ys : List _). ys ++ drop front (take (front + more) xs))
    (take-take front (front + more) xs (omega arith))
    ∙ ap (λ (ys : List _). take front xs ++ ys) (drop-take front more xs)

pub Appends-take : (a b c : Option (List ℕ)) (front more : ℕ) (xs : List ℕ) → Appends a b (take front xs) → Appends b c (take more (drop front xs)) →
    Appends a c (take (front + more) xs)
Appends-take a b c front more xs first second = subst (Appends a c) (sym (take-add front more xs))
    (Appends-trans a b c (take front xs) (take more (drop front xs)) first second)

pub Consumes-take : (a b c : Option (List ℕ)) (front more : ℕ) (xs ys : List ℕ) → Consumes a b (take front xs) → take front ys ≡ take front xs →
    Consumes b c (take more (drop front ys)) → Consumes a c (take (front + more) ys)
Consumes-take a b c front more xs ys first same second = search (rules, take-add, Consumes-trans)
