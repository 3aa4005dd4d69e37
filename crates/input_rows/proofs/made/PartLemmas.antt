use Rattle.std.proofs.Common.{rules, ◌≡◌, ℕ, zero, suc, ◌+◌, ◌*◌, ◌<◌, ◌≤◌, Bool, true, false, cond, List, [], ◌∷◌, ◌++◌, length, refl, sym, subst, arith}
use Rattle.input_rows.proofs.Common.{Stream, Field, Part, both, each, nothing}
use Rattle.std.proofs.lemmas.List.{length-append}
use Rattle.std.proofs.Math.Nat.{suc-mul}
use Rattle.input_rows.proofs.made.FieldLemmas.{AllFit}
use Rattle.input_rows.proofs.made.TextLemmas.{RowsFit}

-- what holds of a row that leads from one number to the next
abbrev pub Step : Type 1
Step = ℕ → List Field → ℕ → Type 0

-- rows that lead from one number to another, one behind the other
abbrev pub Lead : Step → ℕ → ℕ → List (List Field) → Type 0
Lead step low high [] = low ≡ high
Lead step low high (row ∷ rows) = (next : ℕ) × step low row next × Lead step next high rows

Lead-append : (step : Step) (low mid high : ℕ) (xs ys : List (List Field)) → Lead step low mid xs → Lead step mid high ys → Lead step low high (xs ++ ys)
Lead-append step low mid high [] ys left right = subst (λ n. Lead step n high ys) (sym left) right
Lead-append step low mid high (row ∷ xs) ys left right = (left.0, left.1, Lead-append step left.0 mid high xs ys left.2 right)

-- rows whose fields are as many, and numbers of the files
pub Lead-fit : (step : Step) (k : ℕ) → ((low next : ℕ) (row : List Field) → step low row next → (length row ≡ k) × AllFit row) →
    (low high : ℕ) (rows : List (List Field)) → Lead step low high rows → RowsFit k rows
Lead-fit step k fits low high [] lead = tt
Lead-fit step k fits low high (row ∷ rows) lead = search (rules, (Lead-fit step k fits lead.0 high rows lead.2))

-- a part of so many such rows at the most
pub record IsPart (step : Step) (low high most : ℕ) (part : Part) : Type 0 where
  pub lead : (s : Stream) → Lead step low high (part s).0
  pub few : (s : Stream) → length (part s).0 ≤ most

pub IsPart-nothing : (step : Step) (n most : ℕ) → IsPart step n n most nothing
IsPart-nothing step n most = record { lead = λ s. refl; few = λ s. omega arith }

pub IsPart-both : (step : Step) (low mid high m n : ℕ) (first second : Part) → IsPart step low mid m first → IsPart step mid high n second →
    IsPart step low high (m + n) (both first second)
IsPart-both step low mid high m n first second here rest = search (rules, Lead-append, length-append)

-- parts, each of which goes on at the number where the one before ended
pub IsPart-each : (step : Step) (at : ℕ → ℕ) (most : ℕ) (parts : ℕ → Part) (n : ℕ) → ((k : ℕ) → k < n → IsPart step (at k) (at (suc k)) most (parts k)) →
    IsPart step (at 0) (at n) (n * most) (each parts n)
IsPart-each step at most parts zero all = record { lead = λ s. refl; few = λ s. omega arith }
IsPart-each step at most parts (suc n) all =
    let before : IsPart step (at 0) (at n) (n * most) (each parts n) = IsPart-each step at most parts n (λ k below. all k (omega arith)) in
    let both_are = IsPart-both step (at 0) (at n) (at (suc n)) (n * most) most (each parts n) (parts n) before (all n (omega arith)) in
    record { lead = both_are.lead; few = λ s. let size : suc n * most ≡ n * most + most = suc-mul n most in omega (arith, both_are.few s, size) }

pub IsPart-cond : (step : Step) (low high most : ℕ) (c : Bool) (one other : Part) → IsPart step low high most one → IsPart step low high most other →
    IsPart step low high most (cond c one other)
IsPart-cond step low high most true one other one_is other_is = one_is
IsPart-cond step low high most false one other one_is other_is = other_is
