-- A line that is read piece by piece.
use Rattle.std.proofs.Common.{
  ◌≡◌,
  ℕ,
  ◌+◌,
  ◌-◌,
  ◌<◌,
  ◌≤◌,
  true,
  false,
  List,
  [],
  ◌∷◌,
  ◌++◌,
  Option,
  None,
  Some,
  length,
  get_or,
  take,
  drop,
  map,
  sym,
  ap,
  subst,
  ◌∙◌,
  append_assoc,
  append-nil,
  arith,
  inl,
  inr,
  length-take,
  length-drop,
  nat_lt,
  min,
}
use Rattle.std.specs.Io.KnownBytes.{prepend_known, Consumes, IsAtEnd, Keeps}
use Rattle.std.proofs.KnownBytes.{Consumes-kept, Consumes-trans}
use Rattle.std.proofs.lemmas.Bool.{cases_Bool}
use Rattle.std.proofs.lemmas.Bool.Decides.{nat_tests}
use Rattle.std.proofs.lemmas.List.{drop-drop, drop-take, drop_more, take-append-drop, take-append-le, take-take, take_all, take_min}
use Rattle.std.proofs.Math.Seq.{take-append-add}
use Rattle.std.proofs.lemmas.List.Elements.{All-append}
use Rattle.std.proofs.lemmas.List.Splits.{slice_split_at, slice_split_none}
use Rattle.input_rows.specs.live.Lines.{bytes_to_come, ends_line, front_of, lines_in, TakesLine}
use Rattle.input_rows.specs.work.live.Pieces.{EndsNoLine, HasTaken, TakesPiece}

-- of the bytes at hand the first are taken
consumes-front : (left : Option (List ℕ)) (ahead piece rest : List ℕ) → ahead ≡ piece ++ rest →
    Consumes (prepend_known ahead left) (prepend_known rest left) piece
consumes-front None ahead piece rest is = tt
consumes-front (Some xs) ahead piece rest is = ap (λ l. l ++ xs) is ∙ append_assoc piece rest xs

-- what is at hand behind some bytes
at-hand : (buffer : List ℕ) (at filled n : ℕ) → at + n ≤ filled → drop n (take (filled - at) (drop at buffer)) ≡ take (filled - (at + n)) (drop (at + n) buffer)
at-hand buffer at filled n within =
    let count : filled - at ≡ n + (filled - (at + n)) = omega (arith, within) in
    ap (λ k. drop n (take k (drop at buffer))) count ∙ drop-take n (filled - (at + n)) (drop at buffer) ∙ ap (take (filled - (at + n))) (drop-drop n at buffer)

-- the front of a line is that of its front with the rest
pub front-more : (gone piece : List ℕ) → front_of (front_of gone ++ piece) ≡ front_of (gone ++ piece)
front-more gone piece =
    elim (cases_Bool (nat_lt (length gone) 65537)) [
      | inl short ↦ let few : length gone ≤ 65537 = grind (arith, nat_tests) in ap (λ l. front_of (l ++ piece)) (take_all 65537 gone few)
      | inr long ↦ let many : 65537 ≤ length gone = grind (arith, nat_tests) in
          let full : 65537 ≤ length (take 65537 gone) = omega (arith, many, length-take 65537 gone) in
          take-append-le 65537 (take 65537 gone) piece full ∙ take-take 65537 65537 gone (omega arith) ∙ sym (take-append-le 65537 gone piece many)
    ]

-- a piece is added as far as the front goes
pub front-joined : (line piece : List ℕ) (count : ℕ) → length line ≤ 65537 → count ≡ min (65537 - length line) (length piece) →
    line ++ take count piece ≡ front_of (line ++ piece)
front-joined line piece count short is =
    let whole : length line + (65537 - length line) ≡ 65537 = omega (arith, short) in
    ap (λ n. line ++ take n piece) is ∙ ap (λ l. line ++ l) (take_min (65537 - length line) piece)
    ∙ sym (take-append-add line piece (65537 - length line)) ∙ ap (λ n. take n (line ++ piece)) whole

-- a line is taken with its end
pub piece-ended : (left : Option (List ℕ)) (buffer : List ℕ) (at filled end : ℕ) (before after : List ℕ) → at + end < filled → filled ≤ length buffer
    → EndsNoLine (take end (take (filled - at) (drop at buffer))) → ends_line (get_or (take (filled - at) (drop at buffer)) end 0) ≡ true
    → after ≡ front_of (before ++ take end (take (filled - at) (drop at buffer)))
    → TakesPiece (bytes_to_come left buffer at filled) (bytes_to_come left buffer (at + end + 1) filled) before after true
piece-ended left buffer at filled end before after inside within none here front =
    let ahead : List ℕ = take (filled - at) (drop at buffer) in
    let below : end < length ahead = omega (arith, inside, within, length-take (filled - at) (drop at buffer), length-drop at buffer) in
    let place : at + (end + 1) ≡ at + end + 1 = omega arith in
    let rest : drop (end + 1) ahead ≡ take (filled - (at + end + 1)) (drop (at + end + 1) buffer) =
    at-hand buffer at filled (end + 1) (omega (arith, inside)) ∙ ap (λ k. take (filled - k) (drop k buffer)) place in
    let split : ahead ≡ (take end ahead ++ get_or ahead end 0 ∷ []) ++ take (filled - (at + end + 1)) (drop (at + end + 1) buffer) =
    sym (take-append-drop end ahead) ∙ ap (λ l. take end ahead ++ l) (drop_more ahead end 0 below ∙ ap (λ l. get_or ahead end 0 ∷ l) rest)
    ∙ sym (append_assoc (take end ahead) (get_or ahead end 0 ∷ []) (take (filled - (at + end + 1)) (drop (at + end + 1) buffer))) in
    TakesPiece.ended (take end ahead) (get_or ahead end 0) none here front (consumes-front left ahead _ _ split)

-- all that is at hand is taken
pub piece-inner : (left : Option (List ℕ)) (buffer : List ℕ) (at filled end : ℕ) (before after : List ℕ) → at + end ≡ filled → filled ≤ length buffer
    → EndsNoLine (take end (take (filled - at) (drop at buffer)))
    → after ≡ front_of (before ++ take end (take (filled - at) (drop at buffer)))
    → TakesPiece (bytes_to_come left buffer at filled) (bytes_to_come left buffer (at + end) filled) before after false
piece-inner left buffer at filled end before after whole within none front =
    let ahead : List ℕ = take (filled - at) (drop at buffer) in
    let rest : drop end ahead ≡ take (filled - (at + end)) (drop (at + end) buffer) = at-hand buffer at filled end (omega (arith, whole)) in
    let split : ahead ≡ take end ahead ++ take (filled - (at + end)) (drop (at + end) buffer) = sym (take-append-drop end ahead) ∙
    ap (λ l. take end ahead ++ l) rest in
    TakesPiece.inner (take end ahead) none front (consumes-front left ahead _ _ split)

-- the same bytes to come
pub taken-kept : (old now next : Option (List ℕ)) (line : List ℕ) → HasTaken old now line → Keeps now next → HasTaken old next line
taken-kept old now next line taken kept = record {
  gone = taken.gone;
  inside = taken.inside;
  front = taken.front;
  took =
      Consumes-kept old now next taken.gone taken.took kept;
}

-- one more piece inside the line
pub taken-more : (old now next : Option (List ℕ)) (before after : List ℕ) → HasTaken old now before → TakesPiece now next before after false →
    HasTaken old next after
taken-more old now next before after taken (TakesPiece.inner piece none front took) = record {
  gone = taken.gone ++ piece;
  inside = All-append (λ b. ends_line b ≡ false) taken.gone piece taken.inside none;
  front = front ∙ ap (λ l. front_of (l ++ piece)) taken.front ∙ front-more taken.gone piece;
  took = Consumes-trans old now next taken.gone piece taken.took took;
}

-- the line with its end
line-ends : (old next : Option (List ℕ)) (line gone : List ℕ) (end : ℕ) → EndsNoLine gone → ends_line end ≡ true → line ≡ front_of gone →
    Consumes old next (gone ++ end ∷ []) → TakesLine true old next line
line-ends None next line gone end none here front took = tt
line-ends (Some text) None line gone end none here front took = absurd took
line-ends (Some text) (Some rest) line gone end none here front took =
    ap lines_in (took ∙ append_assoc gone (end ∷ []) rest)
    ∙ ap (map front_of) (slice_split_at ends_line gone end rest none here)
    ∙ ap (λ l. l ∷ lines_in rest) (sym front)

pub taken-ended : (old now next : Option (List ℕ)) (before after : List ℕ) → HasTaken old now before → TakesPiece now next before after true →
    TakesLine true old next after
taken-ended old now next before after taken (TakesPiece.ended piece end none here front took) =
    let all = Consumes-trans old now next taken.gone (piece ++ end ∷ []) taken.took took in
    let joined : Consumes old next ((taken.gone ++ piece) ++ end ∷ []) = subst (λ l. Consumes old next l) (sym (append_assoc taken.gone piece (end ∷ [])))
    all in
    line-ends old next after (taken.gone ++ piece) end (All-append (λ b. ends_line b ≡ false) taken.gone piece taken.inside none) here
    (front ∙ ap (λ l. front_of (l ++ piece)) taken.front ∙ front-more taken.gone piece) joined

-- the last line
pub taken-last : (old now : Option (List ℕ)) (line : List ℕ) → HasTaken old now line → IsAtEnd now → TakesLine false old now line
taken-last None now line taken end = tt
taken-last (Some text) None line taken end = absurd taken.took
taken-last (Some text) (Some rest) line taken end =
    let whole : text ≡ taken.gone = taken.took ∙ ap (λ l. taken.gone ++ l) end ∙ append-nil taken.gone in (
      ap lines_in whole ∙ ap (map front_of) (slice_split_none ends_line taken.gone taken.inside) ∙ ap (λ l. l ∷ []) (sym taken.front),
      end,
    )
