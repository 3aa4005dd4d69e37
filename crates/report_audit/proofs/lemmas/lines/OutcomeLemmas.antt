-- An outcome's lines are a block, and lines of a block are read one more at a time.
use Rattle.std.proofs.Common.{◌≡◌, ℕ, ◌≤◌, true, List, [], ◌∷◌, ◌++◌, map, nat_le, refl, arith, rules, sym, ap, ◌∙◌, subst, append_assoc, append-nil}
use Rattle.report_audit.proofs.Common.{
  and_from,
  lines_text,
  Outcome,
  IsBlock,
  IsBlockLine,
  kind_place,
  is_between,
  may_follow_at,
  follow_on,
  last_place,
  BlockLine,
  Expired,
  Lapsed,
  Alone,
  Shared,
  Out,
  Move,
  End,
  flat_map-append,
  map-append,
  All-append,
  All-cons,
  BeginsBlock,
  block_line_text,
}
use Rattle.dispatch_report.specs.declared.block_line.BlockLine.TheVariants.{Batch}
use Rattle.dispatch_report.specs.Block.{row_as_line, trip_as_line, late_as_line, tree_line, lines_of_answer, lines_of, block_lines}
use Rattle.std.specs.List.{All}
use Rattle.std.proofs.lemmas.Bool.{le-leb}
use Rattle.std.proofs.lemmas.Bool.Decides.{nat_tests}
use Rattle.plan_rules.specs.declared.node.Node.{Node}
use Rattle.plan_rules.specs.declared.node.Node.TheVariants.{Branch as Branches, Leaf as Ends, Dead as Closed}
use Rattle.request_book.specs.declared.values.outcome.Answer.{Answer}
use Rattle.request_book.specs.declared.values.outcome.Answer.TheVariants.{Overflow as TooMany, Planned as Plan}
use Rattle.request_book.specs.declared.values.outcome.Planned.{Planned}
use Rattle.request_book.specs.declared.values.outcome.TripRowLine.{TripRowLine}

-- lines behind lines
pub last_join : (p : ℕ) (xs ys : List BlockLine) → last_place p (xs ++ ys) ≡ last_place (last_place p xs) ys
last_join p [] ys = refl
last_join p (x ∷ xs) ys = last_join (kind_place x) xs ys

pub follow_join : (p : ℕ) (xs ys : List BlockLine) → follow_on p xs ≡ true → follow_on (last_place p xs) ys ≡ true → follow_on p (xs ++ ys) ≡ true
follow_join p [] ys fx fy = fy
follow_join p (x ∷ xs) ys fx fy = grind (arith, follow_join (kind_place x) xs ys)

-- lines in their order from a place on, the last of them between two places
record Run (p : ℕ) (lines : List BlockLine) (low high : ℕ) : Type 0 where
  order : follow_on p lines ≡ true
  low_end : low ≤ last_place p lines
  high_end : last_place p lines ≤ high

run_join : (p : ℕ) (xs ys : List BlockLine) (low high bottom top : ℕ) → Run p xs low high → ((q : ℕ) → low ≤ q → q ≤ high → Run q ys bottom top) →
    Run p (xs ++ ys) bottom top
run_join p xs ys low high bottom top rx ry = let r = ry (last_place p xs) rx.low_end rx.high_end in grind (arith, follow_join p xs ys, last_join p xs ys)

between : (low high n : ℕ) → low ≤ n → n ≤ high → is_between low high n ≡ true
between low high n l h = and_from (nat_le low n) (nat_le n high) (le-leb low n l) (le-leb n high h)

-- a list of one kind
kind_run : {X : Type 0} (K : X → BlockLine) (base place : ℕ) → base ≤ place → ((x : X) → kind_place (K x) ≡ place) →
    ((q : ℕ) (x : X) → base ≤ q → q ≤ place → may_follow_at q (K x) ≡ true) → (xs : List X) (p : ℕ) → base ≤ p → p ≤ place → Run p (map K xs) base place
kind_run K base place fits at may [] p l h = record { order = refl; low_end = l; high_end = h }
kind_run {X} K base place fits at may (x ∷ xs) p l h = grind (arith, nat_tests, at x, may p x, kind_run K base place fits at may xs (kind_place (K x)))

wider : (p : ℕ) (xs : List BlockLine) (low high bottom top : ℕ) → Run p xs low high → bottom ≤ low → high ≤ top → Run p xs bottom top
wider p xs low high bottom top r l h = grind arith

-- a list of one kind, behind a list before it
then_kind : {X : Type 0} (K : X → BlockLine) (place : ℕ) (p : ℕ) (before : List BlockLine) (high : ℕ) → 1 ≤ place → high ≤ place →
    ((x : X) → kind_place (K x) ≡ place) → ((q : ℕ) (x : X) → 1 ≤ q → q ≤ place → may_follow_at q (K x) ≡ true) → Run p before 1 high → (xs : List X) →
    Run p (before ++ map K xs) 1 place
then_kind K place p before high some le at may r xs =
    run_join p before (map K xs) 1 high 1 place r (λ q l h. kind_run K 1 place some at may xs q l (let a : q ≤ high = h in omega arith))

-- the lists of a plan up to the rows
graph_run : (p : ℕ) → 1 ≤ p → p ≤ 2 → (plan : Planned) → Run p (map Lapsed plan.lapsed ++ map late_as_line plan.late ++ map Alone plan.rv ++ map Shared plan.rr
    ++ map row_as_line plan.rows) 1 7
graph_run p l h plan =
    then_kind row_as_line 7 p _ 6 (omega arith) (omega arith) (λ x. refl) (λ q x. between 1 7 q)
    (then_kind Shared 6 p _ 5 (omega arith) (omega arith) (λ x. refl) (λ q x. between 1 6 q)
    (then_kind Alone 5 p _ 4 (omega arith) (omega arith) (λ x. refl) (λ q x. between 1 5 q)
    (then_kind late_as_line 4 p _ 3 (omega arith) (omega arith) (λ x. refl) (λ q x. between 1 4 q)
    (kind_run Lapsed 1 3 (omega arith) (λ x. refl) (λ q x. between 1 3 q) plan.lapsed p l (omega arith))
    plan.late) plan.rv) plan.rr) plan.rows

choice_run : (p : ℕ) → 1 ≤ p → p ≤ 7 → (plan : Planned) → Run p (map trip_as_line plan.chosen ++ map Out plan.left ++ map Move plan.moves) 1 10
choice_run p l h plan =
    then_kind Move 10 p _ 9 (omega arith) (omega arith) (λ x. refl) (λ q x. between 1 10 q)
    (then_kind Out 9 p _ 8 (omega arith) (omega arith) (λ x. refl) (λ q x. between 1 9 q)
    (kind_run trip_as_line 1 8 (omega arith) (λ x. refl) (λ q x. between 1 8 q) plan.chosen p l (omega arith))
    plan.left) plan.moves

tree_run : (rows : List TripRowLine) (p : ℕ) → 13 ≤ p → p ≤ 13 → (tree : List Node) → Run p (map (tree_line rows) tree) 13 14
tree_run rows p l h tree = kind_run (tree_line rows) 13 14 (omega arith) at may tree p l (omega arith)
  where
    at : (node : Node) → kind_place (tree_line rows node) ≡ 14
    at (Branches vehicle row) = refl
    at (Ends multipliers) = refl
    at Closed = refl

    may : (q : ℕ) (node : Node) → 13 ≤ q → q ≤ 14 → may_follow_at q (tree_line rows node) ≡ true
    may q (Branches vehicle row) = between 13 14 q
    may q (Ends multipliers) = between 13 14 q
    may q Closed = between 13 14 q

answer_run : (answer : Answer) (p : ℕ) → 1 ≤ p → p ≤ 2 → Run p (lines_of_answer true answer) 13 15
answer_run TooMany p l h = record { order = and_from (is_between 1 2 p) true (between 1 2 p l h) refl; low_end = omega arith; high_end = omega arith }
answer_run (Plan plan) p l h =
    wider p _ 13 14 13 15
    (run_join p _ _ 13 13 13 14
    (run_join p _ _ 1 10 13 13
    (run_join p _ _ 1 7 1 10 (graph_run p l h plan) (λ q lq hq. choice_run q lq hq plan))
    (λ q lq hq. search rules))
    (λ q lq hq. tree_run plan.rows q lq hq plan.tree))
    (omega arith) (omega arith)

outcome_run : (batch : ℕ) (outcome : Outcome) → Run 0 (lines_of true batch outcome) 16 16
outcome_run batch outcome =
    run_join 0 _ (End ∷ []) 13 15 16 16
    (run_join 0 _ _ 1 2 13 15
    (run_join 0 (Batch batch ∷ []) _ 1 1 1 2 (record { order = refl; low_end = omega arith; high_end = omega arith })
    (λ q l h. kind_run Expired 1 2 (omega arith) (λ x. refl) (λ r x. between 1 2 r) outcome.expired q l (let a : q ≤ 1 = h in omega arith)))
    (λ q l h. answer_run outcome.answer q l h))
    (λ q l h. record { order = and_from (is_between 13 15 q) true (between 13 15 q l h) refl; low_end = omega arith; high_end = omega arith })

-- the text of an outcome's block begins with the block of its lines
pub outcome_block : (batch : ℕ) (outcome : Outcome) (rest : List ℕ) → All IsBlockLine (lines_of true batch outcome) →
    IsBlock (lines_text (block_lines true batch outcome) ++ rest) (lines_of true batch outcome) rest
outcome_block batch outcome rest lawful = grind (arith, nat_tests, (outcome_run batch outcome))

text_more : (lines : List BlockLine) (line : BlockLine) → lines_text (map block_line_text (lines ++ line ∷ [])) ≡ lines_text (map block_line_text lines) ++
    (block_line_text line ++ 10 ∷ [])
unfolding lines_text
text_more lines line = search (rules, map-append, flat_map-append, append-nil)

-- lines read so far, and the place of the last
pub record BlockSoFar (text : List ℕ) (lines : List BlockLine) (rest : List ℕ) (place : ℕ) : Type 0 where
  pub begins : BeginsBlock text lines rest
  pub at : place ≡ last_place 0 lines

pub block_more : {text : List ℕ} {lines : List BlockLine} {rest : List ℕ} {place : ℕ} {line : List ℕ} {after : List ℕ} (x : BlockLine) {new : List BlockLine}
    {next : ℕ} → BlockSoFar text lines rest place → rest ≡ line ++ 10 ∷ after → IsBlockLine x → line ≡ block_line_text x → may_follow_at place x ≡ true →
    next ≡ kind_place x → new ≡ lines ++ x ∷ [] → BlockSoFar text new after next
block_more {text} {lines} {rest} {place} {line} {after} x {new} {next} so cut lawful is follows there e =
    subst (λ (ls : List BlockLine). BlockSoFar text ls after next) (sym e)
    (record {
      begins = record {
        whole =
            so.begins.whole ∙ ap (λ r. lines_text (map block_line_text lines) ++ r) (cut ∙ ap (λ l. l ++ 10 ∷ after) is ∙
            sym (append_assoc (block_line_text x) (10 ∷ []) after))
            ∙ sym (append_assoc (lines_text (map block_line_text lines)) (block_line_text x ++ 10 ∷ []) after)
            ∙ ap (λ r. r ++ after) (sym (text_more lines x));
        lawful = All-append IsBlockLine lines (x ∷ []) so.begins.lawful (All-cons IsBlockLine x [] lawful (λ k d within. absurd (omega arith)));
        order = follow_join 0 lines (x ∷ []) so.begins.order (and_from _ true (subst (λ p. may_follow_at p x ≡ true) so.at follows) refl);
      };
      at = there ∙ sym (last_join 0 lines (x ∷ []));
    })
