-- What comes first among so many places.
use Rattle.std.proofs.Common.{
  rules,
  ◌≡◌,
  ℕ,
  zero,
  suc,
  ◌+◌,
  ◌<◌,
  Bool,
  true,
  false,
  List,
  [],
  ◌∷◌,
  ◌++◌,
  Option,
  Some,
  None,
  Result,
  Ok,
  Err,
  refl,
  ap,
  ◌∙◌,
  arith,
}
use Rattle.std.specs.Option.{option_or}
use Rattle.pool_base.specs.InOrder.{◌>>=◌, refused_where, all_or_first, first_fault}

-- what comes after a step that answers, answers only where the step does
pub then_ok : {A B F : Type 0} (r : Result A F) (next : A → Result B F) (b : B) (P : Type 0) → (r >>= next) ≡ Ok b → ((a : A) → r ≡ Ok a → next a ≡ Ok b → P) →
    P
then_ok (Ok a) next b P is gives = gives a refl is
then_ok (Err fault) next b P is gives = absurd cc

-- a test that refuses nothing fails
pub refused_where-passed : {F : Type 0} (t : Bool) (fault : F) (u : Unit {0}) → refused_where t fault ≡ Ok u → t ≡ false
refused_where-passed true fault u is = absurd cc
refused_where-passed false fault u is = refl

-- one more place that gives
pub all_or_first-ok : {A F : Type 0} (at : ℕ → Result A F) (n : ℕ) (xs : List A) (x : A) → all_or_first at n ≡ Ok xs → at n ≡ Ok x →
    all_or_first at (n + 1) ≡ Ok (xs ++ x ∷ [])
all_or_first-ok at n xs x before here = search rules

-- the first place that refuses
pub all_or_first-err : {A F : Type 0} (at : ℕ → Result A F) (n place : ℕ) (xs : List A) (fault : F) → place < n → all_or_first at place ≡ Ok xs →
    at place ≡ Err fault → all_or_first at n ≡ Err fault
all_or_first-err at zero place xs fault below before here = absurd (omega (arith, below))
all_or_first-err at (suc n) place xs fault below before here = search (rules, (all_or_first-err at n place xs fault))

-- where every place gives, all are given
pub all_or_first-all : {A F : Type 0} (at : ℕ → Result A F) (n : ℕ) → ((k : ℕ) → k < n → (x : A) × (at k ≡ Ok x)) → (xs : List A) × (all_or_first at n ≡ Ok xs)
all_or_first-all at zero gives = ([], refl)
all_or_first-all at (suc n) gives =
    let before = all_or_first-all at n (λ k below. gives k (omega (arith, below))) in
    let here = gives n (omega arith) in
    let next : suc n ≡ n + 1 = omega arith in
    (before.0 ++ here.0 ∷ [], ap (all_or_first at) next ∙ all_or_first-ok at n before.0 here.0 before.1 here.1)

-- one more place without a fault
pub first_fault-none : {F : Type 0} (at : ℕ → Option F) (n : ℕ) → first_fault at n ≡ None → at n ≡ None → first_fault at (n + 1) ≡ None
first_fault-none at n before here = search rules

-- the first place with a fault
pub first_fault-some : {F : Type 0} (at : ℕ → Option F) (n place : ℕ) (fault : F) → place < n → first_fault at place ≡ None → at place ≡ Some fault →
    first_fault at n ≡ Some fault
first_fault-some at zero place fault below before here = absurd (omega (arith, below))
first_fault-some at (suc n) place fault below before here = search (rules, (first_fault-some at n place fault))

-- where no place has a fault, there is none
pub first_fault-all : {F : Type 0} (at : ℕ → Option F) (n : ℕ) → ((k : ℕ) → k < n → at k ≡ None) → first_fault at n ≡ None
first_fault-all at zero none = refl
first_fault-all at (suc n) none = search (rules, (first_fault-all at n))

no_fault_first : {F : Type 0} (a b : Option F) → option_or a b ≡ None → a ≡ None
no_fault_first None b none = refl
no_fault_first (Some x) b none = absurd cc

no_fault_second : {F : Type 0} (a b : Option F) → option_or a b ≡ None → b ≡ None
no_fault_second None b none = none
no_fault_second (Some x) b none = absurd cc

-- where there is no fault, no place has one
pub first_fault-each : {F : Type 0} (at : ℕ → Option F) (n place : ℕ) → first_fault at n ≡ None → place < n → at place ≡ None
first_fault-each at zero place none below = absurd (omega (arith, below))
first_fault-each at (suc n) place none below = search (rules, no_fault_second, no_fault_first, (first_fault-each at n place))
