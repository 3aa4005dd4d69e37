-- The records that a reader reached are the first of all records of a text.
use Rattle.std.proofs.Common.{rules, ◌≡◌, ℕ, zero, suc, ◌+◌, ◌-◌, ◌<◌, ◌≤◌, ◌⊎◌, inl, inr, List, [], ◌∷◌, ◌++◌, Some, None, length, refl, ap, ◌∙◌, arith}
use Rattle.pool_io.proofs.Common.{cases_Bool, none-some, Reached, records_from, default_config, strip_bom, records_of}
use Rattle.std.proofs.lemmas.List.{append-nil}
use Rattle.csv.specs.Machine.{Read, next_record, step, is_end, fields_after, field_after}
use Rattle.csv.specs.declared.parser.Config.{Config}
use Rattle.csv.specs.declared.parser.State.{State}
use Rattle.csv.specs.declared.parser.State.TheVariants as st

-- what a record's end leaves: the state at a start and no byte, or fewer bytes
abbrev Shrinks : ℕ → Read → Type 0
Shrinks n q = ((q.1 ≡ st.StartRecord) × (q.2 ≡ [])) ⊎ (length q.2 < n)

some_read : (p q : Read) (n : ℕ) → Some p ≡ Some q → Shrinks n p → Shrinks n q
some_read p q n e h = let same : p ≡ q = cc in rw same at h

-- a record takes bytes, or ends an empty rest
next_takes : (cfg : Config) (s : State) (fields : List (List ℕ)) (field xs : List ℕ) (q : Read) → next_record cfg s fields field xs ≡ Some q →
    Shrinks (length xs) q
unfolding next_record
next_takes cfg s fields field [] q e = search (rules, cases_Bool, some_read, none-some)
next_takes cfg s fields field (c ∷ rest) q e =
    elim (cases_Bool (is_end (step cfg s c).1)) [
      | inl passes ↦ some_read (fields_after (step cfg s c).1 fields field, (step cfg s c).0, rest) q (suc (length rest)) (rw passes at e) (inr (omega arith))
      | inr fails ↦ elim (next_takes cfg (step cfg s c).0 (fields_after (step cfg s c).1 fields field) (field_after (step cfg s c).1 c field) rest q
          (rw fails at e)) [
            | inl ended ↦ inl ended
            | inr shorter ↦ inr (omega (arith, shorter))
          ]
    ]

-- from a start no record comes of no byte
no_more : (t : State) (zs : List ℕ) → t ≡ st.StartRecord → zs ≡ [] → (q : Read) → next_record default_config t [] [] zs ≡ Some q → ⊥
unfolding next_record
no_more t zs start none q e = none-some q (rw (start, none) at e)

-- there are at most as many records as bytes, and one
reached_fits : (s : State) (xs : List ℕ) (rows : List (List (List ℕ))) (s2 : State) (ys : List ℕ) → Reached default_config s xs rows s2 ys →
    length rows ≤ length xs + 1
unfolding Reached
reached_fits s xs [] s2 ys h = omega arith
reached_fits s xs (r ∷ []) s2 ys h = omega arith
reached_fits s xs (r ∷ r2 ∷ rows) s2 ys h = elim (next_takes default_config s [] [] xs h.0 h.1) [
  | inl ended ↦ absurd (no_more h.0.1 h.0.2 ended.0 ended.1 h.3.0 h.3.1)
  | inr shorter ↦ omega (arith, shorter, reached_fits h.0.1 h.0.2 (r2 ∷ rows) s2 ys h.3)
]

records_from-reached : (cfg : Config) (n : ℕ) (s : State) (xs : List ℕ) (rows : List (List (List ℕ))) (s2 : State) (ys : List ℕ) → Reached cfg s xs rows s2 ys →
    length rows ≤ n
    → records_from cfg n s xs ≡ rows ++ records_from cfg (n - length rows) s2 ys
unfolding Reached records_from
records_from-reached cfg n s xs [] s2 ys h fits = search rules
records_from-reached cfg zero s xs (r ∷ rows) s2 ys h fits = absurd (omega (arith, fits))
records_from-reached cfg (suc n) s xs (r ∷ rows) s2 ys h fits = search (rules, (records_from-reached cfg n h.0.1 h.0.2 rows s2 ys h.3))

records_from-end : (cfg : Config) (n : ℕ) (s : State) (ys : List ℕ) → next_record cfg s [] [] ys ≡ None → records_from cfg n s ys ≡ []
unfolding records_from
records_from-end cfg zero s ys e = refl
records_from-end cfg (suc n) s ys e = rw e refl

-- what was reached begins the records of the bytes
pub records_of-begin : (bytes : List ℕ) (rows : List (List (List ℕ))) (s : State) (ys : List ℕ) →
    Reached default_config st.StartRecord (strip_bom bytes) rows s ys
    → (more : List (List (List ℕ))) × (records_of bytes ≡ rows ++ more)
records_of-begin bytes rows s ys h =
    let fits = reached_fits st.StartRecord (strip_bom bytes) rows s ys h in (
      records_from default_config (length (strip_bom bytes) + 1 - length rows) s ys,
      records_from-reached default_config (length (strip_bom bytes) + 1)
          st.StartRecord (strip_bom bytes) rows s ys h fits,
    )

-- where no record comes after, these are all
pub records_of-all : (bytes : List ℕ) (rows : List (List (List ℕ))) (s : State) (ys : List ℕ) →
    Reached default_config st.StartRecord (strip_bom bytes) rows s ys
    → next_record default_config s [] [] ys ≡ None → records_of bytes ≡ rows
records_of-all bytes rows s ys h none =
    let fits = reached_fits st.StartRecord (strip_bom bytes) rows s ys h in
    let e = records_from-reached default_config (length (strip_bom bytes) + 1) st.StartRecord (strip_bom bytes) rows s ys h fits in
    let empty = records_from-end default_config (length (strip_bom bytes) + 1 - length rows) s ys none in
    e ∙ ap (λ (more : List (List (List ℕ))). rows ++ more) empty ∙ append-nil rows
