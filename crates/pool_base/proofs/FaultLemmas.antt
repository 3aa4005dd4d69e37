use Rattle.std.proofs.Common.{rules, ◌≡◌, ℕ, List, refl, sym, subst}
use Rattle.std.proofs.lemmas.Bool.{cases_order}
use Rattle.pool_base.specs.TimesFault.{IsFirst, IsFirstPair, IsFirstTriple, IsFirstFault}
use Rattle.pool_base.specs.declared.times.TimesFault.{TimesFault}
use Rattle.pool_base.specs.declared.times.TimesFault.TheVariants.{Size, TooLong, Diagonal, Triangle}

-- there is one first place
pub IsFirst-unique : (n : ℕ) (P : ℕ → Type 0) (a b : ℕ) → IsFirst n P a → IsFirst n P b → a ≡ b
IsFirst-unique n P a b f g = search (rules, cases_order)

-- there is one first pair
pub IsFirstPair-unique : (n : ℕ) (P : ℕ → ℕ → Type 0) (a b i j : ℕ) → IsFirstPair n P a b → IsFirstPair n P i j → (a ≡ i) × (b ≡ j)
IsFirstPair-unique n P a b i j f g =
    let same : a ≡ i = IsFirst-unique n _ a i f.first g.first in
    let Q : ℕ → Type 0 = λ x. IsFirst n (P x) j in
    (same, IsFirst-unique n (P a) b j f.second (subst Q (sym same) g.second))

-- there are one first three places
pub IsFirstTriple-unique : (n : ℕ) (P : ℕ → ℕ → ℕ → Type 0) (a b c i j k : ℕ) → IsFirstTriple n P a b c → IsFirstTriple n P i j k → (a ≡ i) × (b ≡ j) × (c ≡ k)
IsFirstTriple-unique n P a b c i j k f g =
    let same : a ≡ i = IsFirst-unique n _ a i f.first g.first in
    let Q : ℕ → Type 0 = λ x. IsFirstPair n (P x) j k in
    let rest = IsFirstPair-unique n (P a) b c j k f.others (subst Q (sym same) g.others) in
    (same, rest.0, rest.1)

-- cells have one first fault
pub IsFirstFault-unique : (n : ℕ) (cells : List ℕ) (f g : TimesFault) → IsFirstFault n cells f → IsFirstFault n cells g → f ≡ g
IsFirstFault-unique n cells Size Size p q = refl
IsFirstFault-unique n cells Size (TooLong a b) p q = absurd (p q.0)
IsFirstFault-unique n cells Size (Diagonal a) p q = absurd (p q.0)
IsFirstFault-unique n cells Size (Triangle a b c) p q = absurd (p q.0)
IsFirstFault-unique n cells (TooLong a b) Size p q = absurd (q p.0)
IsFirstFault-unique n cells (TooLong a b) (TooLong i j) p q =
    let same = IsFirstPair-unique n _ a b i j p.1 q.1 in
    let first = same.0 in
    let second = same.1 in
    cc
IsFirstFault-unique n cells (TooLong a b) (Diagonal i) p q = absurd (q.1 a b p.1.first.within p.1.second.within p.1.second.holds)
IsFirstFault-unique n cells (TooLong a b) (Triangle i j k) p q = absurd (q.1 a b p.1.first.within p.1.second.within p.1.second.holds)
IsFirstFault-unique n cells (Diagonal a) Size p q = absurd (q p.0)
IsFirstFault-unique n cells (Diagonal a) (TooLong i j) p q = absurd (p.1 i j q.1.first.within q.1.second.within q.1.second.holds)
IsFirstFault-unique n cells (Diagonal a) (Diagonal i) p q = search (rules, IsFirst-unique)
IsFirstFault-unique n cells (Diagonal a) (Triangle i j k) p q = absurd (q.2 a p.2.within p.2.holds)
IsFirstFault-unique n cells (Triangle a b c) Size p q = absurd (q p.0)
IsFirstFault-unique n cells (Triangle a b c) (TooLong i j) p q = absurd (p.1 i j q.1.first.within q.1.second.within q.1.second.holds)
IsFirstFault-unique n cells (Triangle a b c) (Diagonal i) p q = absurd (p.2 i q.2.within q.2.holds)
IsFirstFault-unique n cells (Triangle a b c) (Triangle i j k) p q =
    let same = IsFirstTriple-unique n _ a b c i j k p.3 q.3 in
    let first = same.0 in
    let second = same.1 in
    let third = same.2 in
    cc
