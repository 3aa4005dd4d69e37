-- The line of a close, and the block behind it.
use Rattle.std.proofs.Common.{◌≡◌, ℕ, ◌-◌, ◌<◌, eqb, Bool, true, false, not, List, [], ◌∷◌, ◌++◌, map}
use Rattle.std.proofs.Common.{length, drop, codes, decimal, refl, sym, ap, subst, ◌∙◌, append_assoc, length-append, inl, inr, arith}
use Rattle.std.proofs.lemmas.Bool.Decides.{nat_tests}
use Rattle.std.proofs.lemmas.List.Elements.{All-append, All-cons, All-head, All-nil, All-tail}
use Rattle.std.specs.Cmp.Lexicographic.{pointwise}
use Rattle.std.specs.List.{All, ends_with}
use Rattle.dispatch_report.specs.Block.{block_line_text, block_lines, late_as_line, lines_of_answer, row_as_line, tree_line, trip_as_line}
use Rattle.dispatch_report.specs.Entry.{command_text, entry_line}
use Rattle.dispatch_report.specs.Words.{spaced}
use Rattle.dispatch_report.specs.declared.block_line.BlockLine.{BlockLine}
use Rattle.dispatch_report.specs.declared.block_line.BlockLine.TheVariants.{
  Batch,
  Expired,
  Lapsed,
  Late,
  Alone,
  Shared,
  TripRow,
  Trip,
  Out,
  Move,
  Cost,
  Bound,
  Nodes,
  End,
}
use Rattle.dispatch_report.specs.declared.block_line.BlockLine.TheVariants as variant
use Rattle.plan_rules.specs.declared.node.Node.{Node}
use Rattle.plan_rules.specs.declared.node.Node.TheVariants as node
use Rattle.report_audit.specs.block.Fits.{FitsTypes}
use Rattle.report_audit.specs.lines.BlockLine.{IsBlockLine}
use Rattle.report_audit.specs.lines.Cut.{is_one_line}
use Rattle.report_past.proofs.WholeLeftLemmas.{Blocks}
use Rattle.report_past.specs.Told.{close_of}
use Rattle.report_past.specs.Whole.{after_line, is_end, opens}
use Rattle.request_book.specs.values.Batch.{Batch as OneBatch}
use Rattle.request_book.specs.declared.values.command.Command.TheVariants.{Close}
use Rattle.request_book.specs.declared.values.outcome.Answer.{Answer}
use Rattle.request_book.specs.declared.values.outcome.Answer.TheVariants as answer
use Rattle.request_book.specs.declared.values.outcome.Outcome.{Outcome}
use Rattle.request_book.specs.declared.values.outcome.TripRowLine.{TripRowLine}

-- a text ends with its last part
drop_front : (f n : List ℕ) → drop (length f) (f ++ n) ≡ n
drop_front [] n = refl
drop_front (x ∷ f) n = drop_front f n

front_length : (f n : List ℕ) → length (f ++ n) - length n ≡ length f
front_length f n = omega (arith, length-append f n)

ends_append : (f n : List ℕ) → ends_with eqb (f ++ n) n ≡ pointwise eqb n n
ends_append f n = (λ i. pointwise eqb n (drop (front_length f n i) (f ++ n))) ∙ ap (λ t. pointwise eqb n t) (drop_front f n)

-- behind the line of a close a block is open
abbrev before_closed : ℕ → OneBatch → Outcome → List ℕ
before_closed p batch outcome = decimal p ++ spaced 0 ++ codes " " ++ command_text (Close batch.number outcome)

closed_words : (p : ℕ) (batch : OneBatch) (outcome : Outcome) → entry_line p (close_of batch outcome) ≡ before_closed p batch outcome ++ codes " closed"
closed_words p batch outcome = append_assoc (before_closed p batch outcome) (codes " ") (codes "closed")

opens_behind : (f : List ℕ) → opens (f ++ codes " closed") ≡ true
opens_behind f = ends_append f (codes " closed")

long_no_end : (line : List ℕ) → 3 < length line → is_end line ≡ false
long_no_end line long = grind (arith, nat_tests, long)

no_end_behind : (f : List ℕ) → is_end (f ++ codes " closed") ≡ false
no_end_behind f = long_no_end (f ++ codes " closed") (omega (arith, length-append f (codes " closed")))

open_behind : (inside : Bool) (line : List ℕ) → opens line ≡ true → is_end line ≡ false → after_line inside line ≡ true
open_behind true line opened plain = ap not plain
open_behind false line opened plain = opened

pub open_after : (inside : Bool) (p : ℕ) (batch : OneBatch) (outcome : Outcome) → after_line inside (entry_line p (close_of batch outcome)) ≡ true
open_after inside p batch outcome =
    open_behind inside (entry_line p (close_of batch outcome))
    (ap opens (closed_words p batch outcome) ∙ opens_behind (before_closed p batch outcome))
    (ap is_end (closed_words p batch outcome) ∙ no_end_behind (before_closed p batch outcome))

-- the last line of a block is its end, and no other is
abbrev NotEnd : BlockLine → Type 0
NotEnd End = ⊥
NotEnd _ = Unit {0}

none_end : {X : Type 0} (f : X → BlockLine) → ((x : X) → NotEnd (f x)) → (xs : List X) → All NotEnd (map f xs)
none_end f plain [] = All-nil NotEnd
none_end f plain (x ∷ xs) = All-cons NotEnd (f x) (map f xs) (plain x) (none_end f plain xs)

tree_no_end : (rows : List TripRowLine) (n : Node) → NotEnd (tree_line rows n)
tree_no_end rows (node.Branch vehicle row) = tt
tree_no_end rows (node.Leaf multipliers) = tt
tree_no_end rows node.Dead = tt

one_no_end : (x : BlockLine) → NotEnd x → All NotEnd (x ∷ [])
one_no_end x plain = All-cons NotEnd x [] plain (All-nil NotEnd)

answer_no_end : (a : Answer) → All NotEnd (lines_of_answer true a)
answer_no_end answer.Overflow = one_no_end variant.Overflow tt
answer_no_end (answer.Planned plan) =
    let lapsed = map Lapsed plan.lapsed in
    let late = map late_as_line plan.late in
    let alone = map Alone plan.rv in
    let shared = map Shared plan.rr in
    let rows = map row_as_line plan.rows in
    let chosen = map trip_as_line plan.chosen in
    let left = map Out plan.left in
    let moves = map Move plan.moves in
    let cost : List BlockLine = Cost plan.cost ∷ [] in
    let bound : List BlockLine = Bound plan.bound ∷ [] in
    let nodes : List BlockLine = Nodes (length plan.tree) ∷ [] in
    let tree = map (tree_line plan.rows) plan.tree in
    let first = All-append NotEnd (lapsed ++ late ++ alone ++ shared) rows
    (All-append NotEnd (lapsed ++ late ++ alone) shared
    (All-append NotEnd (lapsed ++ late) alone
    (All-append NotEnd lapsed late (none_end Lapsed (λ _. tt) plan.lapsed) (none_end late_as_line (λ _. tt) plan.late))
    (none_end Alone (λ _. tt) plan.rv))
    (none_end Shared (λ _. tt) plan.rr))
    (none_end row_as_line (λ _. tt) plan.rows) in
    let second = All-append NotEnd (chosen ++ left) moves
    (All-append NotEnd chosen left (none_end trip_as_line (λ _. tt) plan.chosen) (none_end Out (λ _. tt) plan.left))
    (none_end Move (λ _. tt) plan.moves) in
    let third = All-append NotEnd (cost ++ bound) nodes
    (All-append NotEnd cost bound (one_no_end (Cost plan.cost) tt) (one_no_end (Bound plan.bound) tt))
    (one_no_end (Nodes (length plan.tree)) tt) in
    let fourth = none_end (tree_line plan.rows) (tree_no_end plan.rows) plan.tree in
    let one = lapsed ++ late ++ alone ++ shared ++ rows in
    let two = chosen ++ left ++ moves in
    let three = cost ++ bound ++ nodes in
    All-append NotEnd (one ++ two ++ three) tree (All-append NotEnd (one ++ two) three (All-append NotEnd one two first second) third) fourth

front_no_end : (batch : ℕ) (outcome : Outcome) → All NotEnd ((Batch batch ∷ []) ++ map Expired outcome.expired ++ lines_of_answer true outcome.answer)
front_no_end batch outcome =
    All-append NotEnd ((Batch batch ∷ []) ++ map Expired outcome.expired) (lines_of_answer true outcome.answer)
    (All-append NotEnd (Batch batch ∷ []) (map Expired outcome.expired) (one_no_end (Batch batch) tt) (none_end Expired (λ _. tt) outcome.expired))
    (answer_no_end outcome.answer)

is_end_is : (t : List ℕ) → is_end t ≡ true → t ≡ codes "end"
is_end_is [] h = let plain : false ≡ true = h in cc
is_end_is (a ∷ []) h = let plain : false ≡ true = h in cc
is_end_is (a ∷ b ∷ []) h = let plain : false ≡ true = h in cc
is_end_is (a ∷ b ∷ c ∷ []) h = grind (arith, nat_tests, h)
is_end_is (a ∷ b ∷ c ∷ d ∷ t) h = absurd (let plain : false ≡ true = sym (long_no_end (a ∷ b ∷ c ∷ d ∷ t) (omega arith)) ∙ h in cc)

no_true : (b : Bool) → (b ≡ true → ⊥) → b ≡ false
no_true false plain = refl
no_true true plain = absurd (plain refl)

module _ (one : (x : BlockLine) → IsBlockLine x → is_one_line (block_line_text x) ≡ true)
    (ends_once : (x : BlockLine) → IsBlockLine x → block_line_text x ≡ codes "end" → x ≡ End) where
  not_end : (x : BlockLine) → IsBlockLine x → NotEnd x → is_end (block_line_text x) ≡ false
  not_end x is plain = no_true (is_end (block_line_text x)) (λ h. subst NotEnd (ends_once x is (is_end_is (block_line_text x) h)) plain)

  lines_block : (front : List BlockLine) → All IsBlockLine (front ++ End ∷ []) → All NotEnd front → Blocks (map block_line_text (front ++ End ∷ []))
  lines_block [] are plain = (refl, inl (refl, refl))
  lines_block (x ∷ front) are plain =
      let is = All-head IsBlockLine x (front ++ End ∷ []) are in (
        one x is,
        inr (not_end x is (All-head NotEnd x front plain), lines_block front (All-tail IsBlockLine x (front ++ End ∷ []) are) (All-tail NotEnd x front plain)),
      )

  pub block_of : (batch : ℕ) (outcome : Outcome) → FitsTypes batch outcome → Blocks (block_lines true batch outcome)
  block_of batch outcome fits =
      lines_block ((Batch batch ∷ []) ++ map Expired outcome.expired ++ lines_of_answer true outcome.answer) fits.lines (front_no_end batch outcome)
