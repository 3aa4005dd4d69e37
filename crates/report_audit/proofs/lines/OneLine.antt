-- A text is that of one line of a block.
use Rattle.std.proofs.Common.{◌≡◌, ℕ, ◌+◌, eqb, ◌*◌, ◌<◌, ◌≤◌, ◌^◌, List, ◌++◌, get_or, codes, Option, None, Some, false, refl, sym, ap, arith, rules}
use Rattle.report_audit.proofs.Common.{
  eqb-false,
  append_cancel_left,
  stop_text,
  pair_line,
  numbered,
  signed,
  spaced,
  block_line_text,
  IsBlockLine,
  IsId,
  AreIds,
  FitsStop,
  both_texts,
  BothAre,
  BlockLine,
  order_text,
  IsOrder,
  PlannedStop,
  Expired,
  Overflow,
  Lapsed,
  Late,
  Alone,
  Shared,
  TripRow,
  Trip,
  Out,
  Move,
  Cost,
  Bound,
  Nodes,
  Branch,
  Leaf,
  Dead,
  End,
}
use Rattle.dispatch_report.specs.declared.block_line.BlockLine.TheVariants.{Batch}
use Rattle.std.specs.List.{All, flat_map}
use Rattle.report_audit.proofs.lines.StopLemmas.{order_ends, stop_item}
use Rattle.report_audit.proofs.lines.ListLemmas.{many_end, many_of_one, spaced_item}
use Rattle.report_audit.proofs.lemmas.lines.ReadingLemmas.{
  EndsOnce,
  TextIsOfOne,
  both_of_one,
  both_once,
  numbered_below,
  numbered_once,
  numbered_within,
  of_one,
  spaced_apart,
  spaced_ends,
}
use Rattle.report_audit.proofs.lines.SignedLemmas.{signed_words_once, long_item}
use Rattle.report_audit.proofs.lemmas.lines.NumeralLemmas.{no_number}
use Rattle.dispatch_report.specs.declared.block_line.TripText.{TripText}
use Rattle.dispatch_report.specs.declared.block_line.LateText.{LateText}
use Rattle.request_book.specs.declared.values.outcome.MoveLine.{MoveLine}
use Rattle.dispatch_report.specs.declared.block_line.TripRowText.{TripRowText}

-- ids, and numbers behind them
id_once : (words : List ℕ) → EndsOnce (numbered words) IsId
id_once words = numbered_once words 1000000000 (omega arith)

ids_of_one : (words : List ℕ) → TextIsOfOne (pair_line words) AreIds
ids_of_one words = of_one (both_once spaced_apart (id_once words) (id_once (codes " ")))

head_once : (words : List ℕ) (most : ℕ) → most ≤ 2 ^ 64 → EndsOnce (both_texts (numbered words) spaced) (BothAre IsId (λ n. n < most))
head_once words most small = both_once spaced_apart (id_once words) (numbered_within (codes " ") (λ n is. omega (arith, is)))

row_of_one : TextIsOfOne (λ x. block_line_text (TripRow x)) (λ x. IsBlockLine (TripRow x))
row_of_one a b ia ib e =
    let row : (ℕ × ℕ) × List ℕ → TripRowText = λ p. record { vehicle = p.0.0; cost = p.0.1; riders = p.1 } in
    ap row
    (both_of_one (flat_map spaced) (All IsId) (many_end spaced_item) (head_once (codes "row ") (2 ^ 64) (omega arith)) (many_of_one spaced_item)
    ((a.vehicle, a.cost), a.riders) ((b.vehicle, b.cost), b.riders) ((ia.0, ia.1), ia.2) ((ib.0, ib.1), ib.2) e)

trip_of_one : TextIsOfOne (λ x. block_line_text (Trip x)) (λ x. IsBlockLine (Trip x))
trip_of_one a b ia ib e =
    let trip : (ℕ × ℕ) × List PlannedStop → TripText = λ p. record { vehicle = p.0.0; cost = p.0.1; stops = p.1 } in
    ap trip
    (both_of_one (flat_map stop_text) (All FitsStop) (many_end stop_item) (head_once (codes "trip ") (2 ^ 64) (omega arith)) (many_of_one stop_item)
    ((a.vehicle, a.cost), a.stops) ((b.vehicle, b.cost), b.stops) ((ia.0, ia.1), ia.2) ((ib.0, ib.1), ib.2) e)

move_of_one : TextIsOfOne (λ x. block_line_text (Move x)) (λ x. IsBlockLine (Move x))
move_of_one a b ia ib e =
    let move : (ℕ × ℕ) × ℕ → MoveLine = λ p. record { vehicle = p.0.0; rider = p.0.1; seconds = p.1 } in
    let seconds : EndsOnce spaced (λ n. n < 2 ^ 32) = numbered_within (codes " ") (λ n is. omega (arith, is)) in
    ap move
    (both_of_one spaced (λ n. n < 2 ^ 32) spaced_ends (both_once spaced_apart (id_once (codes "move ")) (id_once (codes " "))) (of_one seconds)
    ((a.vehicle, a.rider), a.seconds) ((b.vehicle, b.rider), b.seconds) ((ia.0, ia.1), ia.2) ((ib.0, ib.1), ib.2) e)

-- a late vehicle's order
none_is_no_delay : (delay : ℕ) (rest : List ℕ) → delay < 2 ^ 128 → codes " none" ≡ spaced delay ++ rest → ⊥
unfolding numbered
none_is_no_delay delay rest small e = search (rules, no_number)

order_of_one : TextIsOfOne order_text IsOrder
order_of_one (da, None) (db, None) ia ib e = search rules
order_of_one (da, None) (db, Some b) ia ib e = absurd (none_is_no_delay db (flat_map stop_text b) (omega (arith, ib.0)) e)
order_of_one (da, Some a) (db, None) ia ib e = absurd (none_is_no_delay da (flat_map stop_text a) (omega (arith, ia.0)) (sym e))
order_of_one (da, Some a) (db, Some b) ia ib e =
    let order : ℕ × List PlannedStop → ℕ × Option (List PlannedStop) = λ p. (p.0, Some p.1) in
    let delay : EndsOnce spaced (λ n. n < 2 ^ 64) = numbered_within (codes " ") (λ n is. omega (arith, is)) in
    ap order (both_of_one (flat_map stop_text) (All FitsStop) (many_end stop_item) delay (many_of_one stop_item) (da, a) (db, b) ia ib e)

late_of_one : TextIsOfOne (λ x. block_line_text (Late x)) (λ x. IsBlockLine (Late x))
late_of_one a b ia ib e =
    let late : ℕ × (ℕ × Option (List PlannedStop)) → LateText = λ p. record { vehicle = p.0; delay = p.1.0; stops = p.1.1 } in
    ap late (both_of_one order_text IsOrder order_ends (id_once (codes "late ")) order_of_one (a.vehicle, (a.delay, a.stops)) (b.vehicle, (b.delay, b.stops))
    (ia.0, ia.1) (ib.0, ib.1) e)

-- the first three bytes of a line, which tell its kind
abbrev first_bytes : List ℕ → ℕ
first_bytes text = get_or text 0 0 * 65536 + get_or text 1 0 * 256 + get_or text 2 0

kinds_differ : (a b : List ℕ) → a ≡ b → eqb (first_bytes a) (first_bytes b) ≡ false → ⊥
kinds_differ a b e other = (eqb-false (first_bytes a) (first_bytes b) other (ap first_bytes e))

-- a text is that of one line of a block at most
pub block_line_of_one : TextIsOfOne block_line_text IsBlockLine
unfolding numbered signed
block_line_of_one (Batch x) (Batch y) ix iy e = ap Batch (numbered_below (codes "batch ") x y ix iy e)
block_line_of_one (Expired x) (Expired y) ix iy e = ap Expired (of_one (id_once (codes "expired ")) x y ix iy e)
block_line_of_one Overflow Overflow ix iy e = refl
block_line_of_one (Lapsed x) (Lapsed y) ix iy e = ap Lapsed (of_one (id_once (codes "lapsed ")) x y ix iy e)
block_line_of_one (Late x) (Late y) ix iy e = ap Late (late_of_one x y ix iy e)
block_line_of_one (Alone x) (Alone y) ix iy e = ap Alone (ids_of_one (codes "rv ") x y ix iy e)
block_line_of_one (Shared x) (Shared y) ix iy e = ap Shared (ids_of_one (codes "rr ") x y ix iy e)
block_line_of_one (TripRow x) (TripRow y) ix iy e = ap TripRow (row_of_one x y ix iy e)
block_line_of_one (Trip x) (Trip y) ix iy e = ap Trip (trip_of_one x y ix iy e)
block_line_of_one (Out x) (Out y) ix iy e = ap Out (of_one (id_once (codes "out ")) x y ix iy e)
block_line_of_one (Move x) (Move y) ix iy e = ap Move (move_of_one x y ix iy e)
block_line_of_one (Cost x) (Cost y) ix iy e = ap Cost (numbered_below (codes "cost ") x y ix iy e)
block_line_of_one (Bound x) (Bound y) ix iy e = ap Bound (of_one (signed_words_once (codes "bound ")) x y ix iy e)
block_line_of_one (Nodes x) (Nodes y) ix iy e = ap Nodes (numbered_below (codes "nodes ") x y ix iy e)
block_line_of_one (Branch x) (Branch y) ix iy e = ap Branch (of_one (head_once (codes "branch ") (2 ^ 32) (omega arith)) x y ix iy e)
block_line_of_one (Leaf x) (Leaf y) ix iy e =
    ap Leaf (many_of_one long_item x y ix iy (append_cancel_left (codes "leaf") (flat_map (signed (codes " ")) x) (flat_map (signed (codes " ")) y) e))
block_line_of_one Dead Dead ix iy e = refl
block_line_of_one End End ix iy e = refl
block_line_of_one _ _ ix iy e = absurd (kinds_differ _ _ e refl)

-- the last line alone is `end`
pub end_alone : (x : BlockLine) → IsBlockLine x → block_line_text x ≡ codes "end" → x ≡ End
end_alone x is e = block_line_of_one x End is tt e
