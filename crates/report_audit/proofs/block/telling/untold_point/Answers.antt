use Rattle.std.proofs.Common.{arith}
use Rattle.report_audit.proofs.Common.{both_ways, told_in}
use Rattle.report_audit.proofs.block.TellingLemmas.{told_below}
use Rattle.report_audit.proofs.lemmas.points.VerdictLemmas.{last_place}
use Rattle.report_audit.proofs.block.telling.untold_point.Goals as goal

pub returns-then-not-are_short_rows : goal.returns-then-not-are_short_rows
returns-then-not-are_short_rows c =
    let before = told_below (told_in c.args.told.now) 1 (λ h. absurd (omega (arith, h))) (λ h. absurd (omega (arith, h))) (λ h. absurd (omega (arith, h)))
    (λ h. absurd (omega (arith, h))) in
    (before, λ all. both_ways _ c.if-not-are_short_rows.true (c.are_short_rows.ensures.1 (rw c.deref.ensures.value all)))

pub returns-then-not-are_short_lates : goal.returns-then-not-are_short_lates
returns-then-not-are_short_lates c =
    let rows = rw c.deref.ensures.value at (c.are_short_rows.ensures.0 c.if-not-are_short_rows.false) in
    let before = told_below (told_in c.args.told.now) 2 (λ h. rows) (λ h. absurd (omega (arith, h))) (λ h. absurd (omega (arith, h)))
    (λ h. absurd (omega (arith, h))) in
    (before, λ all. both_ways _ c.if-not-are_short_lates.true (c.are_short_lates.ensures.1 (rw c.deref-2.ensures.value all)))

pub returns-then-not-are_short_trips : goal.returns-then-not-are_short_trips
returns-then-not-are_short_trips c =
    let rows = rw c.deref.ensures.value at (c.are_short_rows.ensures.0 c.if-not-are_short_rows.false) in
    let late = rw c.deref-2.ensures.value at (c.are_short_lates.ensures.0 c.if-not-are_short_lates.false) in
    let before = told_below (told_in c.args.told.now) 3 (λ h. rows) (λ h. late) (λ h. absurd (omega (arith, h))) (λ h. absurd (omega (arith, h))) in
    (before, λ all. both_ways _ c.if-not-are_short_trips.true (c.are_short_trips.ensures.1 (rw c.deref-3.ensures.value all)))

pub returns-else-is_tree_told : goal.returns-else-is_tree_told
returns-else-is_tree_told c =
    let rows = rw c.deref.ensures.value at (c.are_short_rows.ensures.0 c.if-not-are_short_rows.false) in
    let late = rw c.deref-2.ensures.value at (c.are_short_lates.ensures.0 c.if-not-are_short_lates.false) in
    let trips = rw c.deref-3.ensures.value at (c.are_short_trips.ensures.0 c.if-not-are_short_trips.false) in
    let before = told_below (told_in c.args.told.now) 5 (λ h. rows) (λ h. late) (λ h. trips) (λ h. absurd (omega (arith, h))) in
    (before, λ tree. both_ways _ c.if-is_tree_told.false (c.is_tree_told.ensures.1 tree))

pub returns-then-is_tree_told : goal.returns-then-is_tree_told
returns-then-is_tree_told c =
    let rows = rw c.deref.ensures.value at (c.are_short_rows.ensures.0 c.if-not-are_short_rows.false) in
    let late = rw c.deref-2.ensures.value at (c.are_short_lates.ensures.0 c.if-not-are_short_lates.false) in
    let trips = rw c.deref-3.ensures.value at (c.are_short_trips.ensures.0 c.if-not-are_short_trips.false) in
    λ q. told_below (told_in c.args.told.now) 9 (λ h. rows) (λ h. late) (λ h. trips) (λ h. c.is_tree_told.ensures.0 c.if-is_tree_told.true) q (last_place q)
