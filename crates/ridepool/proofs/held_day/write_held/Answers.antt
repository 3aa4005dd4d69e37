use Rattle.std.proofs.Common.{◌<◌, ◌≡◌, ◌+◌, ◌-◌, ◌^◌, min, length, refl, ◌∙◌, ap, arith, ℕ}
use Rattle.ridepool.proofs.Common.{err_from_is_err_and, next_position, HoldsRound}
use Rattle.ridepool.proofs.HeldLemmas.{zip-at}
use Rattle.std.proofs.lemmas.Slice.Zip.{AllZip-long}
use Rattle.ridepool.proofs.WriteLemmas.{put_none, put_next, put_whole, position_next, stops_next}
use Rattle.ridepool.proofs.held_day.write_held.Goals as goal

pub loop-round-init : goal.loop-round-init
loop-round-init g c = record {
  put = λ settings roads told made holds none. (put_none settings roads (g.K.Sink.written c.args.out.now) _, refl);
  fewer = omega arith;
  up = omega arith;
}

pub loop-round-preserved : goal.loop-round-preserved
loop-round-preserved g c = record {
  put = λ settings roads told made holds none.
      let i = c.loop-round.round-index in
      let within : c.loop-round.round-index < length c.args.rounds.now = omega arith in
      let at = zip-at (HoldsRound settings roads told) made c.args.rounds.now i c.round-item.result within c.round-item.is holds in
      let before = c.loop-round.invariant.put settings roads told made holds none in
      let fewer = c.loop-round.invariant.fewer in
      let puts = c.in_ok-put_held.ensures.round settings roads told at.0 at.3 (λ nobody. let zero = none nobody in omega (arith, fewer, zero)) in
      let next : c.saturating_add-position.result ≡ next_position c.loop-round.position at.0.journal.entries = c.saturating_add-position.ensures ∙
      ap (λ (n : ℕ). min (c.loop-round.position + n) (2 ^ 64 - 1)) at.3.entries in (
        put_next settings roads made i at.0 (g.K.Sink.written c.args.out.now) (g.K.Sink.written c.loop-round.out) (g.K.Sink.written c.put_held.new.out) _ _ _
            at.1 at.2 before.0 puts,
        position_next settings roads made i at.0 c.loop-round.position c.saturating_add-position.result at.1 at.2 before.1 next,
      );
  fewer = omega (arith, c.loop-round.invariant.fewer, c.put_held.ensures.fewer);
  up = omega (arith, c.loop-round.invariant.up, c.put_held.ensures.never_falls);
}

pub returns-in_err-put_held-clause-rounds : goal.returns-in_err-put_held-clause-rounds
returns-in_err-put_held-clause-rounds g c = λ settings roads told made holds none.
    let i = c.loop-round.round-index in
    let within : c.loop-round.round-index < length c.args.rounds.now = omega arith in
    let at = zip-at (HoldsRound settings roads told) made c.args.rounds.now i c.round-item.result within c.round-item.is holds in
    let before = c.loop-round.invariant.put settings roads told made holds none in
    let fewer = c.loop-round.invariant.fewer in
    let p = err_from_is_err_and c.from_residual.result c.from_residual.ensures.1 in
    rw (p.1, p.2)
    (stops_next settings roads made i at.0
    (g.K.Sink.written c.args.out.now) (g.K.Sink.written c.loop-round.out) (g.K.Sink.written c.put_held.new.out) _ _ _
    (g.K.Sink.faults c.args.out.now) (g.K.Sink.faults c.loop-round.out) (g.K.Sink.faults c.put_held.new.out)
    c.in_err-put_held.field-0.0 at.1 at.2 c.loop-round.invariant.up before.0 (c.in_err-put_held.ensures.round settings roads told at.0 at.3
    (λ nobody. let zero = none nobody in omega (arith, fewer, zero))))

pub returns-clause-rounds : goal.returns-clause-rounds
returns-clause-rounds g c = λ settings roads told made holds none.
    let i = c.loop-round.round-index in
    let before = c.loop-round.invariant.put settings roads told made holds none in
    let size = AllZip-long (HoldsRound settings roads told) made c.args.rounds.now holds in
    let end : c.loop-round.round-index ≡ length made = omega (arith, size) in
    put_whole settings roads made i (g.K.Sink.written c.args.out.now) (g.K.Sink.written c.loop-round.out) _ _ c.loop-round.position end before.0 before.1
