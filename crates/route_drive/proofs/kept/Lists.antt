-- Filters, and lists whose parts are counted.
use Rattle.std.proofs.Common.{◌≡◌, ℕ, zero, suc, ◌*◌, ◌<◌, ◌≤◌, Bool, true, false, not, List, [], ◌∷◌, length, map, filter, refl, ap, ◌∙◌, arith, inl, inr}
use Rattle.route_drive.proofs.Common.{AllByRecursion, cases_Bool, length-filter_both, nat_tests}
pub use Rattle.stop_orders.proofs.lemmas.task.DeletionLemmas.{skips, takes}

-- the test of the renamed is a test of what was
pub filter_renamed : {X Y : Type 0} (p : Y → Bool) (q : X → Bool) (g : X → Y) (P : X → Type 0) → ((x : X) → P x → p (g x) ≡ q x) → (xs : List X) →
    AllByRecursion P xs → filter p (map g xs) ≡ map g (filter q xs)
filter_renamed p q g P same [] all = refl
filter_renamed p q g P same (x ∷ xs) all = grind (arith, nat_tests, same x all.0, filter_renamed p q g P same xs all.1)

-- two maps that agree at each element
pub map_agrees : {X Y : Type 0} (f g : X → Y) (P : X → Type 0) → ((x : X) → P x → f x ≡ g x) → (xs : List X) → AllByRecursion P xs → map f xs ≡ map g xs
map_agrees f g P same [] all = refl
map_agrees f g P same (x ∷ xs) all = cc (same x all.0, map_agrees f g P same xs all.1)

pub all_weaker : {X : Type 0} (P Q : X → Type 0) → ((x : X) → P x → Q x) → (xs : List X) → AllByRecursion P xs → AllByRecursion Q xs
all_weaker P Q move [] all = tt
all_weaker P Q move (x ∷ xs) all = (move x all.0, all_weaker P Q move xs all.1)

pub all_from : {X : Type 0} (P : X → Type 0) → ((x : X) → P x) → (xs : List X) → AllByRecursion P xs
all_from P each [] = tt
all_from P each (x ∷ xs) = (each x, all_from P each xs)

pub all_mapped : {X Y : Type 0} (P : X → Type 0) (Q : Y → Type 0) (g : X → Y) → ((x : X) → P x → Q (g x)) → (xs : List X) → AllByRecursion P xs →
    AllByRecursion Q (map g xs)
all_mapped P Q g move [] all = tt
all_mapped P Q g move (x ∷ xs) all = (move x all.0, all_mapped P Q g move xs all.1)

pub both : {X : Type 0} (P Q : X → Type 0) (xs : List X) → AllByRecursion P xs → AllByRecursion Q xs → AllByRecursion (λ x. P x × Q x) xs
both P Q [] p q = tt
both P Q (x ∷ xs) p q = ((p.0, q.0), both P Q xs p.1 q.1)

-- a filter keeps what holds of all, and keeps only what passes
pub all_filtered : {X : Type 0} (P : X → Type 0) (p : X → Bool) (xs : List X) → AllByRecursion P xs → AllByRecursion (λ x. P x × (p x ≡ true)) (filter p xs)
all_filtered P p [] all = tt
all_filtered P p (x ∷ xs) all = grind (arith, nat_tests, all_filtered P p xs all.1)

-- a filter keeps all, or none
pub filter_all : {X : Type 0} (p : X → Bool) (xs : List X) → AllByRecursion (λ x. p x ≡ true) xs → filter p xs ≡ xs
filter_all p [] all = refl
filter_all p (x ∷ xs) all = rw all.0 (ap (λ ys. x ∷ ys) (filter_all p xs all.1))

pub filter_none : {X : Type 0} (p : X → Bool) (xs : List X) → AllByRecursion (λ x. p x ≡ false) xs → filter p xs ≡ []
filter_none p [] all = refl
filter_none p (x ∷ xs) all = rw all.0 (filter_none p xs all.1)

-- a filter by one test of what another keeps
pub filter_filter : {X : Type 0} (p q : X → Bool) → ((x : X) → p x ≡ true → q x ≡ true) → (xs : List X) → filter p (filter q xs) ≡ filter p xs
filter_filter p q le [] = refl
filter_filter p q le (x ∷ xs) = grind (arith, nat_tests, le x, filter_filter p q le xs)

-- tests of which no two hold at once, each of so many elements, take so many elements together
pub many_apart : {X : Type 0} (p : ℕ → X → Bool) (c : ℕ) → ((i j : ℕ) (x : X) → p i x ≡ true → p j x ≡ true → i ≡ j) → (n : ℕ) (xs : List X) →
    ((i : ℕ) → i < n → length (filter (p i) xs) ≡ c) → n * c ≤ length xs
many_apart p c apart zero xs each = omega arith
many_apart {X} p c apart (suc n) xs each =
    let others : List X = filter (λ x. not (p n x)) xs in
    let ih : n * c ≤ length others = many_apart p c apart n others (λ i h.
    ap length (filter_filter (p i) (λ x. not (p n x))
    (λ x e. elim (cases_Bool (p n x)) [ inl k ↦ absurd (let same : i ≡ n = apart i n x e k in omega arith) | inr k ↦ ap not k ]) xs) ∙ each i (omega arith))
    in
    omega (arith, ih, length-filter_both (p n) (λ x. not (p n x)) (λ x. refl) xs, each n (omega arith))
