use Rattle.std.proofs.Common.{◌≡◌, ◌<◌, ◌+◌, ◌*◌, ◌∙◌, length, slice_index, sym, arith}
use Rattle.std.proofs.lemmas.List.{get_or_read}
use Rattle.pool_io.proofs.Common.{cut_fields, start_at}
use Rattle.std.proofs.lemmas.Nat.{mul-add-lt}
use Rattle.pool_io.proofs.CutRows.{length-cut_rows, cut_rows-field}
use Rattle.pool_io.proofs.CutFields.{FieldAt, field_here}
use Rattle.pool_io.proofs.table.Rows.field.Goals.{After-self}
use Rattle.pool_io.proofs.table.Rows.field.Goals as goal

row_within : (c : After-self) → c.args.row < c.self.inside.count
row_within c = rw (← c.self.view_is, length-cut_rows) at c.requires.row

column_within : (c : After-self) → c.args.column < c.self.inside.columns
column_within c = rw (← c.self.view_is) at c.requires.column

place_within : (c : After-self) → c.args.row * c.self.inside.columns + c.args.column < length c.self.inside.ends.items
place_within c = omega (
  arith,
  mul-add-lt c.args.row c.self.inside.columns c.args.column c.self.inside.count (row_within c) (column_within c),
  c.self.invariant.0,
)

at_place : (c : After-self) → FieldAt 0 c.self.inside.ends.items c.self.inside.bytes.items (c.args.row * c.self.inside.columns + c.args.column)
at_place c = field_here 0 c.self.inside.ends.items c.self.inside.bytes.items (c.args.row * c.self.inside.columns + c.args.column) c.self.invariant.2
    (place_within c)

pub overflow_mul-place : goal.overflow_mul-place
overflow_mul-place c = omega (arith, place_within c, c.self.invariant.0, c.self.invariant.1)

pub overflow_add-place : goal.overflow_add-place
overflow_add-place c = omega (arith, place_within c, c.self.invariant.0, c.self.invariant.1)

pub start_of-requires : goal.start_of-requires
start_of-requires c = rw c.deref-2.ensures.value (place_within (goal.at.start_of-requires c).After-self)

pub index-requires : goal.index-requires
index-requires c = omega (arith, place_within (goal.at.index-requires c).After-self, c.self.inside.ends.ok.0)

pub slice_bounds-result-count : goal.slice_bounds-result-count
slice_bounds-result-count c =
    let self = (goal.at.slice_bounds-result-count c).After-self in
    let ends = c.self.inside.ends.items in
    let place = c.args.row * c.self.inside.columns + c.args.column in
    let start : c.start_of.result ≡ start_at 0 ends place = rw c.deref-2.ensures.value at c.start_of.ensures in
    let end : c.index.result.now ≡ slice_index ends place = get_or_read ends place c.index.result.now (place_within self) c.index.ensures 0 in
    rw (start, end) (at_place self).rises

pub slice_bounds-result-start : goal.slice_bounds-result-start
slice_bounds-result-start c =
    let self = (goal.at.slice_bounds-result-start c).After-self in
    let ends = c.self.inside.ends.items in
    let place = c.args.row * c.self.inside.columns + c.args.column in
    let start : c.start_of.result ≡ start_at 0 ends place = rw c.deref-2.ensures.value at c.start_of.ensures in
    let end : c.index.result.now ≡ slice_index ends place = get_or_read ends place c.index.result.now (place_within self) c.index.ensures 0 in
    omega (arith, start, end, (at_place self).rises)

pub slice_bounds-result-end : goal.slice_bounds-result-end
slice_bounds-result-end c =
    let self = (goal.at.slice_bounds-result-end c).After-self in
    let ends = c.self.inside.ends.items in
    let place = c.args.row * c.self.inside.columns + c.args.column in
    let end : c.index.result.now ≡ slice_index ends place = get_or_read ends place c.index.result.now (place_within self) c.index.ensures 0 in
    omega (arith, end, (at_place self).within, c.deref.ensures.len, c.self.inside.bytes.ok.0)

pub returns : goal.returns
returns c =
    let self = (goal.at.returns c).After-self in
    let ends = c.self.inside.ends.items in
    let bytes = c.self.inside.bytes.items in
    let place = c.args.row * c.self.inside.columns + c.args.column in
    let start : c.start_of.result ≡ start_at 0 ends place = rw c.deref-2.ensures.value at c.start_of.ensures in
    let end : c.index.result.now ≡ slice_index ends place = get_or_read ends place c.index.result.now (place_within self) c.index.ensures 0 in
    let same = cut_rows-field c.self.inside.count c.self.inside.columns (cut_fields 0 ends bytes) c.args.row c.args.column (row_within self)
    (column_within self) in
    rw (start, end, c.deref.ensures.value, ← c.self.view_is) (sym (same ∙ (at_place self).field))
