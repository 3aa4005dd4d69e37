use Rattle.std.proofs.Common.{sym, ◌∙◌}
use Rattle.report_audit.proofs.Common.{both_ways, point_count, travel_time}
use Rattle.std.proofs.lemmas.Bool.{eq-eqb, eqb-true}
use Rattle.report_audit.proofs.lemmas.points.LateLemmas.{rightly_no}
use Rattle.report_audit.proofs.lemmas.points.MatchLemmas.{few_told, moves_best, moves_tell}
use Rattle.report_audit.proofs.points.moves.are_best.Goals as goal

pub returns-then-not-branch : goal.returns-then-not-branch
returns-then-not-branch c =
    rightly_no (λ are. both_ways _ c.if-not-branch.true
    (c.in_ok-tell_pairs.ensures.1 (
      are.pairs,
      moves_tell (point_count c.args.times.now) (travel_time c.args.times.now) c.args.settled.now c.args.idle.now
          c.args.left.now c.args.moves.now c.requires.places are,
    )))

pub total_of-requires : goal.total_of-requires
total_of-requires c =
    let told = c.in_ok-tell_pairs.ensures.0 c.if-not-branch.false in
    record {
      few = few_told (point_count c.args.times.now) (travel_time c.args.times.now) c.args.settled.now c.args.idle.now c.args.left.now c.args.moves.now
          c.requires.places told.0 told.1 c.requires.few_vehicles;
    }

pub returns-then-moves-count : goal.returns-then-moves-count
returns-then-moves-count c =
    let told = c.in_ok-tell_pairs.ensures.0 c.if-not-branch.false in
    let best = c.in_ok-count.ensures in
    let is = moves_best (point_count c.args.times.now) (travel_time c.args.times.now) c.args.settled.now c.args.idle.now c.args.left.now c.args.moves.now
    c.requires.places told.0 told.1 best.0 best.1 in
    rightly_no (λ are. c.if-moves-count.true (sym told.1.sized ∙ (is.0 are).0 ∙ sym best.2))

pub returns : goal.returns
returns c =
    let told = c.in_ok-tell_pairs.ensures.0 c.if-not-branch.false in
    let best = c.in_ok-count.ensures in
    let is = moves_best (point_count c.args.times.now) (travel_time c.args.times.now) c.args.settled.now c.args.idle.now c.args.left.now c.args.moves.now
    c.requires.places told.0 told.1 best.0 best.1 in (
      λ yes. is.1 (told.1.sized ∙ c.if-moves-count.false ∙ best.2, sym c.total_of.ensures ∙ eqb-true _ _ yes ∙ best.3),
      λ are. eq-eqb _ _ (c.total_of.ensures ∙ (is.0 are).1 ∙ sym best.3),
    )
