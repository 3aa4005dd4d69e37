-- A text begins with one block at most.
use Rattle.std.proofs.Common.{
  ◌≡◌,
  ◌≢◌,
  ℕ,
  zero,
  suc,
  ◌+◌,
  ◌/◌,
  nat_lt,
  true,
  false,
  not,
  ◌==◌,
  ℤ,
  pos,
  negsuc,
  Option,
  None,
  Some,
  List,
  [],
  ◌∷◌,
  ◌++◌,
  length,
  map,
  codes,
  decimal,
  refl,
  sym,
  ap,
  ◌∙◌,
  subst,
  append_assoc,
  ne_eqb,
  arith,
  rules,
}
use Rattle.report_audit.proofs.Common.{
  and_parts,
  and_from,
  All-head,
  All-tail,
  stop_text,
  lines_text,
  numbered,
  signed,
  spaced,
  IsBlock,
  BeginsBlock,
  IsCutBlock,
  IsBadBlock,
  BlockFails,
  block_line_text,
  IsBlockLine,
  is_one_line,
  kind_place,
  may_follow_at,
  follow_on,
  last_place,
  order_text,
  PlannedStop,
  BlockLine,
}
use Rattle.dispatch_report.specs.declared.block_line.BlockLine.TheVariants.{Batch}
use Rattle.std.specs.List.{All, flat_map}
use Rattle.std.proofs.lemmas.Bool.{cond_both}
use Rattle.std.proofs.lemmas.Bool.Decides.{nat_tests}
use Rattle.std.proofs.lemmas.List.Folds.{list_all-append}
use Rattle.std.specs.Fmt.{digit_glyph, digits_onto}
unfoldable use Rattle.std.specs.Fmt.{digits}
use Rattle.report_audit.specs.declared.lines.block_lines.BlockFault.{BlockFault}
use Rattle.report_audit.specs.declared.lines.block_lines.BlockFault.TheVariants.{OutOfMemory as NoMemory, Cut, Form}
use Rattle.report_audit.proofs.lines.OneLine.{block_line_of_one}

-- lines end at line feeds, and there alone
pub cut_once : (a b r s : List ℕ) → is_one_line a ≡ true → is_one_line b ≡ true → a ++ 10 ∷ r ≡ b ++ 10 ∷ s → (a ≡ b) × (r ≡ s)
cut_once [] [] r s ia ib e = grind arith
cut_once [] (b ∷ ys) r s ia ib e = grind (arith, nat_tests)
cut_once (a ∷ xs) [] r s ia ib e = grind (arith, nat_tests)
cut_once (a ∷ xs) (b ∷ ys) r s ia ib e = grind (arith, nat_tests, cut_once xs ys r s)

-- no digit is a line feed
glyph_line : (d : ℕ) → not (digit_glyph false d == 10) ≡ true
glyph_line d = ap not (ne_eqb (digit_glyph false d) 10 (cond_both (nat_lt d 10) (48 + d) (87 + d) (λ c. c ≢ 10) (λ low e. omega arith) (λ high e. omega arith)))

digits_line : (k n : ℕ) (behind : List ℕ) → is_one_line behind ≡ true → is_one_line (digits_onto k 10 false n behind) ≡ true
digits_line zero n behind one = one
digits_line (suc k) n behind one = search (rules, and_from, glyph_line, cond_both, (digits_line k (n / 10)))

pub decimal_line : (n : ℕ) → is_one_line (decimal n) ≡ true
unfolding digits
decimal_line n = digits_line 64 n [] refl

pub append_one_line : (a b : List ℕ) → is_one_line a ≡ true → is_one_line b ≡ true → is_one_line (a ++ b) ≡ true
append_one_line a b ia ib = list_all-append (λ c. not (c == 10)) a b ∙ and_from (is_one_line a) (is_one_line b) ia ib

pub numbered_one_line : (words : List ℕ) (n : ℕ) → is_one_line words ≡ true → is_one_line (numbered words n) ≡ true
unfolding numbered
numbered_one_line words n one = append_one_line words (decimal n) one (decimal_line n)

pub spaced_one_line : (n : ℕ) → is_one_line (spaced n) ≡ true
spaced_one_line n = numbered_one_line (codes " ") n refl

signed_one_line : (words : List ℕ) (z : ℤ) → is_one_line words ≡ true → is_one_line (signed words z) ≡ true
unfolding signed
signed_one_line words (pos n) one = append_one_line words (decimal n) one (decimal_line n)
signed_one_line words (negsuc n) one = append_one_line words (45 ∷ decimal (suc n)) one (decimal_line (suc n))

many_one_line : {X : Type 0} (t : X → List ℕ) → ((x : X) → is_one_line (t x) ≡ true) → (xs : List X) → is_one_line (flat_map t xs) ≡ true
many_one_line t one [] = refl
many_one_line t one (x ∷ xs) = append_one_line (t x) (flat_map t xs) (one x) (many_one_line t one xs)

stop_one_line : (stop : PlannedStop) → is_one_line (stop_text stop) ≡ true
stop_one_line stop = search (rules, append_one_line, numbered_one_line)

order_one_line : (delay : ℕ) (stops : Option (List PlannedStop)) → is_one_line (order_text (delay, stops)) ≡ true
order_one_line delay None = refl
order_one_line delay (Some stops) = search (rules, append_one_line, spaced_one_line, many_one_line, stop_one_line)

pub two_line : (words : List ℕ) (a b : ℕ) → is_one_line words ≡ true → is_one_line (numbered words a ++ spaced b) ≡ true
two_line words a b one = append_one_line (numbered words a) (spaced b) (numbered_one_line words a one) (spaced_one_line b)

ruleset one_lines = (append_one_line, numbered_one_line, signed_one_line, spaced_one_line, many_one_line, stop_one_line, order_one_line)

-- no line of a block has a line feed before its end
pub block_line_one_line : (x : BlockLine) → is_one_line (block_line_text x) ≡ true
block_line_one_line (Batch n) = search (rules, one_lines)
block_line_one_line _ = search (rules, one_lines)

-- the first line of a text of lines, and the others
first_line : (x : BlockLine) (xs : List BlockLine) (rest : List ℕ) → lines_text (map block_line_text (x ∷ xs)) ++ rest ≡ block_line_text x ++ 10 ∷
    (lines_text (map block_line_text xs) ++ rest)
unfolding lines_text
first_line x xs rest = search (rules, append_assoc)

-- a text begins with no line that may follow one of this place
abbrev IsStuck : ℕ → List ℕ → Type 0
IsStuck place r = (x : BlockLine) (behind : List ℕ) → IsBlockLine x → may_follow_at place x ≡ true → r ≢ block_line_text x ++ 10 ∷ behind

-- nothing follows the last line
follows_end : (y : BlockLine) → may_follow_at 16 y ≡ true → ⊥
follows_end (Batch n) h = cc
follows_end _ h = cc

end_stuck : (text : List ℕ) (xs : List BlockLine) (r : List ℕ) → IsBlock text xs r → IsStuck (last_place 0 xs) r
end_stuck text xs r block x behind is may e = follows_end x (subst (λ p. may_follow_at p x ≡ true) block.ended may)

-- a text with a line feed isn't one line
pub no_one_line : (a r : List ℕ) → is_one_line (a ++ 10 ∷ r) ≡ true → ⊥
no_one_line [] r h = cc
no_one_line (c ∷ cs) r h = no_one_line cs r (and_parts (not (c == 10)) (is_one_line (cs ++ 10 ∷ r)) h).1

cut_stuck : (text : List ℕ) (xs : List BlockLine) (r : List ℕ) → IsCutBlock text xs r → IsStuck (last_place 0 xs) r
cut_stuck text xs r cut x behind is may e = no_one_line (block_line_text x) behind (subst (λ t. is_one_line t ≡ true) e cut.cut)

bad_stuck : (text : List ℕ) (xs : List BlockLine) (r line after : List ℕ) → IsBadBlock text xs r line after → IsStuck (last_place 0 xs) r
bad_stuck text xs r line after bad x behind is may e = grind (arith, nat_tests, (cut_once line), (block_line_one_line x))

-- lines behind which none follows, at the beginning of one text, are the same
stuck_same : (place : ℕ) (xs ys : List BlockLine) (r s : List ℕ) → All IsBlockLine xs → All IsBlockLine ys → follow_on place xs ≡ true →
    follow_on place ys ≡ true → IsStuck (last_place place xs) r → IsStuck (last_place place ys) s →
    lines_text (map block_line_text xs) ++ r ≡ lines_text (map block_line_text ys) ++ s → (xs ≡ ys) × (r ≡ s)
unfolding lines_text
stuck_same place [] [] r s ix iy fx fy kx ky e = (refl, e)
stuck_same place [] (y ∷ ys) r s ix iy fx fy kx ky e = search (rules, All-head, and_parts, first_line)
stuck_same place (x ∷ xs) [] r s ix iy fx fy kx ky e = search (rules, All-head, and_parts, first_line)
stuck_same place (x ∷ xs) (y ∷ ys) r s ix iy fx fy kx ky e =
    let hx = All-head IsBlockLine x xs ix in
    let hy = All-head IsBlockLine y ys iy in
    let cut =
    cut_once (block_line_text x) (block_line_text y) (lines_text (map block_line_text xs) ++ r) (lines_text (map block_line_text ys) ++ s)
    (block_line_one_line x) (block_line_one_line y) (sym (first_line x xs r) ∙ e ∙ first_line y ys s)
    in
    let head : x ≡ y = block_line_of_one x y hx hy cut.0 in
    let place_same : kind_place x ≡ kind_place y = ap kind_place head in
    let rest =
    stuck_same (kind_place x) xs ys r s (All-tail IsBlockLine x xs ix) (All-tail IsBlockLine y ys iy)
    (and_parts (may_follow_at place x) (follow_on (kind_place x) xs) fx).1
    (subst (λ p. follow_on p ys ≡ true) (sym place_same) (and_parts (may_follow_at place y) (follow_on (kind_place y) ys) fy).1)
    kx (subst (λ p. IsStuck (last_place p ys) s) (sym place_same) ky) cut.1
    in
    (ap (λ z. z ∷ xs) head ∙ ap (λ zs. y ∷ zs) rest.0, rest.1)

stop_once : (text : List ℕ) (xs ys : List BlockLine) (r s : List ℕ) → BeginsBlock text xs r → BeginsBlock text ys s → IsStuck (last_place 0 xs) r →
    IsStuck (last_place 0 ys) s → (xs ≡ ys) × (r ≡ s)
stop_once text xs ys r s bx by kx ky = stuck_same 0 xs ys r s bx.lawful by.lawful bx.order by.order kx ky (sym bx.whole ∙ by.whole)

-- what a text's block is, is known of the text
pub block_of_one : (text : List ℕ) (xs ys : List BlockLine) (r s : List ℕ) → IsBlock text xs r → IsBlock text ys s → (xs ≡ ys) × (r ≡ s)
block_of_one text xs ys r s bx by = stop_once text xs ys r s bx.begins by.begins (end_stuck text xs r bx) (end_stuck text ys s by)

-- a text that begins with a block isn't cut, and no line is out of form
pub block_no_fault : (text : List ℕ) (ys : List BlockLine) (s : List ℕ) → IsBlock text ys s → (fault : BlockFault) → fault ≢ NoMemory → BlockFails text fault →
    ⊥
block_no_fault text ys s block NoMemory other fails = other refl
block_no_fault text ys s block (Cut n) other (xs, r, size, cut) =
    cut.going (ap (last_place 0) (stop_once text xs ys r s cut.begins block.begins (cut_stuck text xs r cut) (end_stuck text ys s block)).0 ∙ block.ended)
block_no_fault text ys s block (Form n) other (xs, r, line, after, size, bad) =
    bad.going (ap (last_place 0) (stop_once text xs ys r s bad.begins block.begins (bad_stuck text xs r line after bad) (end_stuck text ys s block)).0 ∙
    block.ended)

same_length : (n m : ℕ) (xs ys : List BlockLine) → length xs ≡ n → length ys ≡ m → xs ≡ ys → n ≡ m
same_length n m xs ys a b e = sym a ∙ ap length e ∙ b

cut_not_bad : (r s line after : List ℕ) → is_one_line r ≡ true → s ≡ line ++ 10 ∷ after → r ≡ s → ⊥
cut_not_bad r s line after one next e = no_one_line line after (subst (λ t. is_one_line t ≡ true) (e ∙ next) one)

-- a text fails in one way
pub one_fault : (text : List ℕ) (fault other : BlockFault) → fault ≢ NoMemory → other ≢ NoMemory → BlockFails text fault → BlockFails text other → fault ≡ other
one_fault text NoMemory other mx my fx fy = absurd (mx refl)
one_fault text (Cut n) NoMemory mx my fx fy = absurd (my refl)
one_fault text (Form n) NoMemory mx my fx fy = absurd (my refl)
one_fault text (Cut n) (Cut m) mx my (xs, r, size, cut) (ys, s, long, other) =
    ap Cut (same_length n m xs ys size long (stop_once text xs ys r s cut.begins other.begins (cut_stuck text xs r cut) (cut_stuck text ys s other)).0)
one_fault text (Cut n) (Form m) mx my (xs, r, size, cut) (ys, s, line, after, long, bad) =
    absurd (cut_not_bad r s line after cut.cut bad.next (stop_once text xs ys r s cut.begins bad.begins (cut_stuck text xs r cut)
    (bad_stuck text ys s line after bad)).1)
one_fault text (Form n) (Cut m) mx my (xs, r, line, after, size, bad) (ys, s, long, cut) =
    absurd (cut_not_bad s r line after cut.cut bad.next
    (sym (stop_once text xs ys r s bad.begins cut.begins (bad_stuck text xs r line after bad) (cut_stuck text ys s cut)).1))
one_fault text (Form n) (Form m) mx my (xs, r, line, after, size, bad) (ys, s, next, behind, long, other) =
    ap Form (same_length n m xs ys size long (stop_once text xs ys r s bad.begins other.begins (bad_stuck text xs r line after bad)
    (bad_stuck text ys s next behind other)).0)
