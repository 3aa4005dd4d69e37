-- A leaf replaced by a branch with its ends, and the values beside them.
use Rattle.std.proofs.Common.{◌≡◌, ℕ, zero, suc, ◌+◌, ◌<◌, List, [], ◌∷◌, ◌++◌, length, get_or, take, drop, refl, ap, arith, rules}
use Rattle.std.specs.List.{insert, remove}

replace_suc : {X : Type 0} (xs : List X) (i : ℕ) (b p q : X) → i < length xs → insert (insert (insert (remove xs i) i b) (suc i) p) (suc (suc i)) q ≡ take i xs
    ++ (b ∷ p ∷ q ∷ drop (suc i) xs)
replace_suc [] i b p q l = absurd (omega (arith, l))
replace_suc (x ∷ xs) zero b p q l = refl
replace_suc (x ∷ xs) (suc i) b p q l = ap (λ ys. x ∷ ys) (replace_suc xs i b p q (omega (arith, l)))

pub edit_replace : {X : Type 0} (xs : List X) (i : ℕ) (b p q : X) → i < length xs → insert (insert (insert (remove xs i) i b) (i + 1) p) (i + 2) q ≡ take i xs
    ++ (b ∷ p ∷ q ∷ drop (suc i) xs)
edit_replace xs i b p q l = search (rules, replace_suc)

keep_suc : {X : Type 0} (xs : List X) (i : ℕ) (p q d : X) → i < length xs → insert (insert xs (suc i) p) (suc (suc i)) q ≡ take i xs ++
    (get_or xs i d ∷ p ∷ q ∷ drop (suc i) xs)
keep_suc [] i p q d l = absurd (omega (arith, l))
keep_suc (x ∷ xs) zero p q d l = refl
keep_suc (x ∷ xs) (suc i) p q d l = ap (λ ys. x ∷ ys) (keep_suc xs i p q d (omega (arith, l)))

pub edit_keep : {X : Type 0} (xs : List X) (i : ℕ) (p q d : X) → i < length xs → insert (insert xs (i + 1) p) (i + 2) q ≡ take i xs ++
    (get_or xs i d ∷ p ∷ q ∷ drop (suc i) xs)
edit_keep xs i p q d l = search (rules, keep_suc)

-- two more elements
pub edit_length : {X : Type 0} (xs : List X) (i : ℕ) (b p q : X) → i < length xs → length (take i xs ++ (b ∷ p ∷ q ∷ drop (suc i) xs)) ≡ length xs + 2
edit_length [] i b p q l = absurd (omega (arith, l))
edit_length (x ∷ xs) zero b p q l = omega arith
edit_length (x ∷ xs) (suc i) b p q l = omega (arith, edit_length xs i b p q (omega (arith, l)))

-- where an element comes to stand with two more after the one at i
abbrev pub moved : ℕ → ℕ → ℕ
moved i zero = zero
moved zero (suc k) = suc (suc (suc k))
moved (suc i) (suc k) = suc (moved i k)

-- where an element of the edited list comes from: it is an old one or one of the two
pub data Origin (xs : List ℕ) (i p q d j : ℕ) : Type 0 where
  Old : (k : ℕ) → k < length xs → j ≡ moved i k → get_or (take i xs ++ (get_or xs i d ∷ p ∷ q ∷ drop (suc i) xs)) j d ≡ get_or xs k d → Origin xs i p q d j
  First : j ≡ suc i → get_or (take i xs ++ (get_or xs i d ∷ p ∷ q ∷ drop (suc i) xs)) j d ≡ p → Origin xs i p q d j
  Second : j ≡ suc (suc i) → get_or (take i xs ++ (get_or xs i d ∷ p ∷ q ∷ drop (suc i) xs)) j d ≡ q → Origin xs i p q d j

pub edit_origin : (xs : List ℕ) (i j p q d : ℕ) → i < length xs → j < length xs + 2 → Origin xs i p q d j
edit_origin [] i j p q d l h = absurd (omega (arith, l))
edit_origin (x ∷ xs) zero zero p q d l h = Old 0 l refl refl
edit_origin (x ∷ xs) zero (suc zero) p q d l h = First refl refl
edit_origin (x ∷ xs) zero (suc (suc zero)) p q d l h = Second refl refl
edit_origin (x ∷ xs) zero (suc (suc (suc j))) p q d l h = Old (suc j) (omega (arith, h)) refl refl
edit_origin (x ∷ xs) (suc i) zero p q d l h = Old 0 (omega arith) refl refl
edit_origin (x ∷ xs) (suc i) (suc j) p q d l h = later (edit_origin xs i j p q d (omega (arith, l)) (omega (arith, h)))
  where
    later : Origin xs i p q d j → Origin (x ∷ xs) (suc i) p q d (suc j)
    later (Old k low at is) = Old (suc k) (omega (arith, low)) (ap suc at) is
    later (First at is) = First (ap suc at) is
    later (Second at is) = Second (ap suc at) is
