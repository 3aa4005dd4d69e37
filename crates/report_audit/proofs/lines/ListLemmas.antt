-- Texts of things one behind another, to the end of a line.
use Rattle.std.proofs.Common.{
  ◌≡◌,
  ◌≢◌,
  ℕ,
  ◌<◌,
  Bool,
  true,
  false,
  nat_eq,
  length,
  codes,
  List,
  [],
  ◌∷◌,
  ◌++◌,
  refl,
  sym,
  ap,
  ◌∙◌,
  append_assoc,
  append-nil,
  length-append,
  subst,
  arith,
  rules,
}
use Rattle.report_audit.proofs.Common.{
  flat_map-append,
  All-append,
  All-cons,
  All-head,
  All-tail,
  BeginsWith,
  BeginsWithNone,
  ends_number,
  numbered,
  spaced,
  IsId,
}
use Rattle.std.specs.List.{flat_map, All}
use Rattle.report_audit.proofs.lemmas.lines.ReadingLemmas.{EndsOnce, StandsApart, TextIsOfOne, numbered_once, spaced_apart}

-- a thing that may stand behind others of its kind: no such text is empty
pub record IsItem {X : Type 0} (t : X → List ℕ) (Is : X → Type 0) : Type 0 where
  pub form : EndsOnce t Is
  pub behind : StandsApart t
  pub some : (x : X) → 0 < length (t x)

-- what the items are that are left to be read, where a text is that of such items
pub record LeftToRead {X : Type 0} (t : X → List ℕ) (Is : X → Type 0) (items : List X) (rest : List ℕ) (all : List X) (left : List X) : Type 0 where
  pub parts : all ≡ items ++ left
  pub text : rest ≡ flat_map t left
  pub lawful : All Is left

-- items read so far, and the text that is left
pub record ReadSoFar {X : Type 0} (t : X → List ℕ) (Is : X → Type 0) (text : List ℕ) (items : List X) (rest : List ℕ) : Type 0 where
  pub whole : text ≡ flat_map t items ++ rest
  pub lawful : All Is items
  pub only : (all : List X) → All Is all → text ≡ flat_map t all → (left : List X) × LeftToRead t Is items rest all left

module _ {X : Type 0} {t : X → List ℕ} {Is : X → Type 0} (item : IsItem t Is) where
  pub many_end : (xs : List X) → ends_number (flat_map t xs) ≡ true
  many_end [] = refl
  many_end (x ∷ xs) = item.behind.apart x (flat_map t xs) (many_end xs)

  begins_many : (rest : List ℕ) (x : X) (xs : List X) → All Is (x ∷ xs) → rest ≡ flat_map t (x ∷ xs) → BeginsWith t Is rest x (flat_map t xs)
  begins_many rest x xs lawful e = record { whole = e; lawful = All-head Is x xs lawful; ends = many_end xs }

  -- less text is left after an item
  pub shorter_after : {rest : List ℕ} {x : X} {after : List ℕ} → BeginsWith t Is rest x after → length after < length rest
  shorter_after {rest} {x} {after} b = search (rules, length-append)

  not_empty : (x : X) (after : List ℕ) → [] ≡ t x ++ after → ⊥
  not_empty x after e =
      let f : List ℕ → ℕ = length in
      let long : 0 ≡ length (t x ++ after) = ap f e in
      omega (arith, long, length-append (t x) after, item.some x)

  pub many_of_one : TextIsOfOne (flat_map t) (All Is)
  many_of_one [] [] ia ib e = refl
  many_of_one [] (y ∷ ys) ia ib e = absurd (not_empty y (flat_map t ys) e)
  many_of_one (x ∷ xs) [] ia ib e = absurd (not_empty x (flat_map t xs) (sym e))
  many_of_one (x ∷ xs) (y ∷ ys) ia ib e =
      let text : List ℕ = flat_map t (x ∷ xs) in
      let same = item.form.once text x y (flat_map t xs) (flat_map t ys) (begins_many text x xs ia refl) (begins_many text y ys ib e) in
      let head : x ≡ y = same.0 in
      let tail : xs ≡ ys = many_of_one xs ys (All-tail Is x xs ia) (All-tail Is y ys ib) same.1 in
      cc

  -- where no text is left, the items are those that are given
  pub so_far_done : {text : List ℕ} {items : List X} {rest : List ℕ} → ReadSoFar t Is text items rest → nat_eq (length rest) 0 ≡ true → (given : List X) →
      given ≡ items → All Is given × (text ≡ flat_map t given)
  so_far_done {text} {items} {rest = []} so done given e = search rules
  so_far_done {text} {items} {rest = c ∷ cs} so done given e = search rules

  -- where no item follows, and not the end
  pub so_far_stuck : {text : List ℕ} {items : List X} {rest : List ℕ} → ReadSoFar t Is text items rest → nat_eq (length rest) 0 ≡ false →
      BeginsWithNone t Is rest → (all : List X) → All Is all → text ≢ flat_map t all
  so_far_stuck {text} {items} {rest} so more none all lawful e = by (so.only all lawful e).0 (so.only all lawful e).1
    where
      by : (left : List X) → LeftToRead t Is items rest all left → ⊥
      by [] l = let f : List ℕ → Bool = λ r. nat_eq (length r) 0 in let zero_long : nat_eq (length rest) 0 ≡ true = ap f l.text in cc
      by (x ∷ xs) l = none x (flat_map t xs) (begins_many rest x xs l.lawful l.text)

  next_left : (items : List X) (rest : List ℕ) (x : X) (after : List ℕ) → BeginsWith t Is rest x after → (all left : List X) →
      LeftToRead t Is items rest all left → (more : List X) × LeftToRead t Is (items ++ x ∷ []) after all more
  next_left items rest x after b all [] l = absurd (not_empty x after (sym l.text ∙ b.whole))
  next_left items rest x after b all (y ∷ ys) l =
      let same = item.form.once rest x y after (flat_map t ys) b (begins_many rest y ys l.lawful l.text) in
      let head : x ≡ y = same.0 in
      let parts = l.parts ∙ ap (λ (z : X). items ++ z ∷ ys) (sym head) ∙ sym (append_assoc items (x ∷ []) ys) in
      (ys, record { parts = parts; text = same.1; lawful = All-tail Is y ys l.lawful })

  -- one item more, of a list that is given as that
  pub so_far_more : {text : List ℕ} {items : List X} {rest : List ℕ} {x : X} {after : List ℕ} {new : List X} {given : X} → ReadSoFar t Is text items rest →
      BeginsWith t Is rest x after → new ≡ items ++ given ∷ [] → given ≡ x → ReadSoFar t Is text new after
  so_far_more {text} {items} {rest} {x} {after} {new} {given} so b is same =
      let all : items ++ x ∷ [] ≡ new = sym (is ∙ ap (λ n. items ++ n ∷ []) same) in
      subst (λ (xs : List X). ReadSoFar t Is text xs after) all
      (record {
        whole =
            so.whole ∙ ap (λ r. flat_map t items ++ r) b.whole ∙ sym (append_assoc (flat_map t items) (t x) after)
            ∙ ap (λ r. r ++ after) (ap (λ r. flat_map t items ++ r) (sym (append-nil (t x))) ∙ sym (flat_map-append t items (x ∷ [])));
        lawful = All-append Is items (x ∷ []) so.lawful (All-cons Is x [] b.lawful (λ k d within. absurd (omega arith)));
        only = λ every lawful e. let l = so.only every lawful e in next_left items rest x after b every l.0 l.1;
      })

pub ruleset so_far = (so_far_done, shorter_after)

-- ids, each behind a space
pub spaced_item : IsItem spaced IsId
unfolding numbered
spaced_item = record { form = numbered_once (codes " ") 1000000000 (omega arith); behind = spaced_apart; some = λ n. omega arith }
