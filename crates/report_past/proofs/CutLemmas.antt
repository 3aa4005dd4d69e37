-- Lines of a text, and which of them are whole.
use Rattle.std.proofs.Common.{
  ◌≡◌,
  ℕ,
  ◌-◌,
  ◌≤◌,
  Bool,
  true,
  false,
  not,
  ◌==◌,
  List,
  [],
  ◌∷◌,
  ◌++◌,
  length,
  take,
  drop,
  refl,
  sym,
  ap,
  subst,
  ◌∙◌,
  append_assoc,
  length-append,
  take-append-drop,
  arith,
  rules,
}
use Rattle.std.proofs.lemmas.Bool.Decides.{nat_tests}
use Rattle.std.proofs.lemmas.Bool.{and_parts, and_from}
use Rattle.std.proofs.lemmas.List.{length-take-le}
use Rattle.std.proofs.lemmas.List.Elements.{All-append, All-head, All-nil, All-tail, All-push}
use Rattle.std.specs.List.{All}
unfoldable use Rattle.dispatch_report.specs.Lines.{lines_text}
use Rattle.report_audit.specs.lines.Cut.{is_one_line}
unfoldable use Rattle.report_past.specs.Whole.{after_lines}
use Rattle.report_past.specs.Whole.{IsWholeText, after_line}
unfoldable use Rattle.report_past.specs.work.Walk.{are_inside}
use Rattle.report_past.specs.work.Walk.{Walked}

abbrev One : List ℕ → Type 0
One line = is_one_line line ≡ true

-- lines end at line feeds, and there alone
pub cut_once : (a b r s : List ℕ) → is_one_line a ≡ true → is_one_line b ≡ true → a ++ 10 ∷ r ≡ b ++ 10 ∷ s → (a ≡ b) × (r ≡ s)
cut_once [] [] r s ia ib e = grind arith
cut_once [] (b ∷ ys) r s ia ib e = grind (arith, nat_tests)
cut_once (a ∷ xs) [] r s ia ib e = grind (arith, nat_tests)
cut_once (a ∷ xs) (b ∷ ys) r s ia ib e = grind (arith, nat_tests, cut_once xs ys r s)

-- a text with a line feed isn't one line
pub no_one_line : (a r : List ℕ) → is_one_line (a ++ 10 ∷ r) ≡ true → ⊥
no_one_line [] r h = cc
no_one_line (c ∷ cs) r h = no_one_line cs r (and_parts (not (c == 10)) (is_one_line (cs ++ 10 ∷ r)) h).1

-- the first line of a text of lines, and the others
pub first_line : (x : List ℕ) (xs : List (List ℕ)) (rest : List ℕ) → lines_text (x ∷ xs) ++ rest ≡ x ++ 10 ∷ (lines_text xs ++ rest)
unfolding lines_text
first_line x xs rest = search (rules, append_assoc)

pub no_text : (rest : List ℕ) → lines_text [] ++ rest ≡ rest
unfolding lines_text
no_text rest = refl

-- lines, and one more
text-append : (xs ys : List (List ℕ)) (rest : List ℕ) → lines_text (xs ++ ys) ++ rest ≡ lines_text xs ++ (lines_text ys ++ rest)
text-append [] ys rest = sym (no_text (lines_text ys ++ rest))
text-append (x ∷ xs) ys rest =
    first_line x (xs ++ ys) rest ∙ ap (λ t. x ++ 10 ∷ t) (text-append xs ys rest) ∙ sym (first_line x xs (lines_text ys ++ rest))

pub one_text : (x rest : List ℕ) → lines_text (x ∷ []) ++ rest ≡ x ++ 10 ∷ rest
one_text x rest = first_line x [] rest ∙ ap (λ t. x ++ 10 ∷ t) (no_text rest)

after-append : (i : Bool) (xs ys : List (List ℕ)) → after_lines i (xs ++ ys) ≡ after_lines (after_lines i xs) ys
unfolding after_lines
after-append i [] ys = refl
after-append i (x ∷ xs) ys = after-append (after_line i x) xs ys

inside-push : (i : Bool) (xs : List (List ℕ)) (x : List ℕ) → are_inside i xs ≡ true → after_line (after_lines i xs) x ≡ true →
    are_inside i (xs ++ x ∷ []) ≡ true
unfolding are_inside after_lines
inside-push i [] x h now = and_from (after_line i x) true now refl
inside-push i (y ∷ ys) x h now =
    let parts = and_parts (after_line i y) (are_inside (after_line i y) ys) h in
    and_from (after_line i y) (are_inside (after_line i y) (ys ++ x ∷ [])) parts.0 (inside-push (after_line i y) ys x parts.1 now)

pub after_more : (i : Bool) (x : List ℕ) (xs : List (List ℕ)) → after_lines i (x ∷ xs) ≡ after_lines (after_line i x) xs
unfolding after_lines
after_more i x xs = refl

pub after_none : (i : Bool) → after_lines i [] ≡ i
unfolding after_lines
after_none i = refl

inside_more : (i : Bool) (x : List ℕ) (xs : List (List ℕ)) → are_inside i (x ∷ xs) ≡ true → (after_line i x ≡ true) × (are_inside (after_line i x) xs ≡ true)
unfolding are_inside
inside_more i x xs h = and_parts (after_line i x) (are_inside (after_line i x) xs) h

-- the first lines of equal texts are the same
same_first : (m x : List ℕ) (ms xs : List (List ℕ)) (s r : List ℕ) → One m → One x → lines_text (m ∷ ms) ++ s ≡ lines_text (x ∷ xs) ++ r →
    (m ≡ x) × (lines_text ms ++ s ≡ lines_text xs ++ r)
same_first m x ms xs s r om ox e = cut_once m x (lines_text ms ++ s) (lines_text xs ++ r) om ox (sym (first_line m ms s) ∙ e ∙ first_line x xs r)

no_more : (m : List ℕ) (ms : List (List ℕ)) (s r : List ℕ) → is_one_line r ≡ true → lines_text (m ∷ ms) ++ s ≡ r → ⊥
no_more m ms s r one e = no_one_line m (lines_text ms ++ s) (subst (λ t. is_one_line t ≡ true) (sym e ∙ first_line m ms s) one)

-- no beginning of lines behind each of which a block is open is whole
no_end : (xs ms : List (List ℕ)) (r s : List ℕ) (i : Bool) → All One xs → All One ms → is_one_line r ≡ true → i ≡ true → are_inside i xs ≡ true
    → lines_text ms ++ s ≡ lines_text xs ++ r → after_lines i ms ≡ false → ⊥
no_end xs [] r s i ox om one on h e done = let off = sym (after_none i) ∙ done in cc
no_end [] (m ∷ ms) r s i ox om one on h e done = no_more m ms s r one (e ∙ no_text r)
no_end (x ∷ xs) (m ∷ ms) r s i ox om one on h e done =
    let same = same_first m x ms xs s r (All-head One m ms om) (All-head One x xs ox) e in
    let more = inside_more i x xs h in
    no_end xs ms r s (after_line i x) (All-tail One x xs ox) (All-tail One m ms om) one more.0 more.1 same.1
    (ap (λ l. after_lines (after_line i l) ms) (sym same.0) ∙ sym (after_more i m ms) ∙ done)

-- a whole beginning isn't longer than the whole lines
pub whole_le : (xs os ms : List (List ℕ)) (r s : List ℕ) (i : Bool) → All One xs → All One os → All One ms → is_one_line r ≡ true → after_lines i xs ≡ false →
    are_inside false os ≡ true
    → lines_text ms ++ s ≡ lines_text xs ++ (lines_text os ++ r) → after_lines i ms ≡ false → length (lines_text ms) ≤ length (lines_text xs)
unfolding lines_text
whole_le xs os [] r s i ox oo om one off h e done = omega arith
whole_le [] [] (m ∷ ms) r s i ox oo om one off h e done = absurd (no_more m ms s r one e)
whole_le [] (o ∷ os) (m ∷ ms) r s i ox oo om one off h e done =
    let is_off : i ≡ false = sym (after_none i) ∙ off in
    let same = same_first m o ms os s r (All-head One m ms om) (All-head One o os oo) e in
    let more = inside_more false o os h in
    absurd
    (no_end os ms r s (after_line false o) (All-tail One o os oo) (All-tail One m ms om) one more.0 more.1 same.1
    (ap (λ l. after_lines (after_line false l) ms) (sym same.0) ∙ ap (λ j. after_lines (after_line j m) ms) (sym is_off) ∙ sym (after_more i m ms) ∙ done))
whole_le (x ∷ xs) os (m ∷ ms) r s i ox oo om one off h e done =
    let same = same_first m x ms xs s (lines_text os ++ r) (All-head One m ms om) (All-head One x xs ox)
    (e ∙ first_line x xs (lines_text os ++ r) ∙ sym (first_line x xs (lines_text os ++ r))) in
    let less =
    whole_le xs os ms r s (after_line i x) (All-tail One x xs ox) oo (All-tail One m ms om) one (sym (after_more i x xs) ∙ off) h same.1
    (ap (λ l. after_lines (after_line i l) ms) (sym same.0) ∙ sym (after_more i m ms) ∙ done)
    in
    omega (
      arith,
      less,
      ap length same.0,
      length-append (m ++ 10 ∷ []) (lines_text ms),
      length-append (x ++ 10 ∷ []) (lines_text xs),
      length-append m (10 ∷ []),
      length-append x (10 ∷ []),
    )

-- one line more was walked through, and a block is open behind it
pub walk_on : (text rest line after : List ℕ) (inside now : Bool) (kept : ℕ) → Walked text rest inside kept → rest ≡ line ++ 10 ∷ after → One line →
    now ≡ after_line inside line → now ≡ true → Walked text after now kept
walk_on text rest line after inside now kept w cut one is on =
    let was = ap (λ b. after_line b line) (sym w.inside_is) ∙ sym is in
    record {
      whole = w.whole;
      others = w.others ++ line ∷ [];
      ones = w.ones;
      other_ones = All-push One w.others line w.other_ones one;
      printed = w.printed ∙ ap (λ t. lines_text w.whole ++ (lines_text w.others ++ t)) (cut ∙ sym (one_text line after)) ∙
          ap (λ t. lines_text w.whole ++ t) (sym (text-append w.others (line ∷ []) after));
      closed = w.closed;
      kept_is = w.kept_is;
      inside_is = sym (after-append false w.others (line ∷ []) ∙ after_more (after_lines false w.others) line [] ∙
          after_none (after_line (after_lines false w.others) line) ∙ was);
      still = inside-push false w.others line w.still (was ∙ on);
    }

none_inside : (i : Bool) → are_inside i [] ≡ true
unfolding are_inside
none_inside i = refl

length_of_front : (text front rest : List ℕ) → text ≡ front ++ rest → length text - length rest ≡ length front
length_of_front text front rest e = omega (arith, ap length e, length-append front rest)

-- one line more was walked through, and all are whole behind it
pub walk_whole : (text rest line after : List ℕ) (inside now : Bool) (kept : ℕ) → Walked text rest inside kept → rest ≡ line ++ 10 ∷ after → One line →
    now ≡ after_line inside line → now ≡ false → Walked text after now (length text - length after)
walk_whole text rest line after inside now kept w cut one is off =
    let was = ap (λ b. after_line b line) (sym w.inside_is) ∙ sym is in
    let more : List (List ℕ) = w.others ++ line ∷ [] in
    let printed : text ≡ lines_text (w.whole ++ more) ++ after =
    w.printed ∙ ap (λ t. lines_text w.whole ++ (lines_text w.others ++ t)) (cut ∙ sym (one_text line after)) ∙
    ap (λ t. lines_text w.whole ++ t) (sym (text-append w.others (line ∷ []) after))
    ∙ sym (text-append w.whole more after)
    in
    record {
      whole = w.whole ++ more;
      others = [];
      ones = All-append One w.whole more w.ones (All-push One w.others line w.other_ones one);
      other_ones = All-nil One;
      printed = printed ∙ ap (λ t. lines_text (w.whole ++ more) ++ t) (sym (no_text after));
      closed =
          after-append false w.whole more ∙ ap (λ b. after_lines b more) w.closed ∙ after-append false w.others (line ∷ []) ∙
          after_more (after_lines false w.others) line []
          ∙ after_none (after_line (after_lines false w.others) line) ∙ was ∙ off;
      kept_is = length_of_front text (lines_text (w.whole ++ more)) after printed;
      inside_is = off ∙ sym (after_none false);
      still = none_inside false;
    }

-- what was walked through to its end is whole as far as it can be
pub walked_out : (text rest : List ℕ) (inside : Bool) (kept m : ℕ) → Walked text rest inside kept → is_one_line rest ≡ true → m ≤ length text →
    IsWholeText (take m text) → m ≤ kept
walked_out text rest inside kept m w one most is =
    let whole : lines_text is.lines ++ drop m text ≡ text = ap (λ t. t ++ drop m text) (sym is.printed) ∙ take-append-drop m text in
    let less = whole_le w.whole w.others is.lines rest (drop m text) false w.ones w.other_ones is.ones one w.closed w.still (whole ∙ w.printed) is.closed in
    omega (arith, less, ap length is.printed, w.kept_is, length-take-le m text most)

-- at the beginning nothing was walked through
pub walk_none : (text : List ℕ) → Walked text text false 0
unfolding lines_text after_lines are_inside
walk_none text = record {
  whole = [];
  others = [];
  ones = All-nil One;
  other_ones = All-nil One;
  printed = refl;
  closed = refl;
  kept_is = refl;
  inside_is = refl;
  still = refl;
}
