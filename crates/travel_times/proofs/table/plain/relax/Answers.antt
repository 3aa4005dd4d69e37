use Rattle.std.proofs.Common.{◌≡◌, ◌<◌, length, get_or, inl, inr, refl, arith}
use Rattle.travel_times.proofs.Common.{get_or_default, Hop}
use Rattle.travel_times.proofs.lemmas.search.SearchLemmas.{RelaxesHops-take, RelaxesHops-skip}
use Rattle.travel_times.proofs.table.plain.relax.Goals.{
  then-through-seconds+then-through-le-LONGEST,
  else-through-seconds,
  else-through-seconds-via-then-through-seconds+else-through-le-LONGEST,
  else-through-seconds-via-else-through-seconds,
}
use Rattle.travel_times.proofs.table.plain.relax.Goals as goal

pub loop-hop-preserved : goal.loop-hop-preserved
loop-hop-preserved c =
    let hops = c.args.hops.now in
    let i = c.loop-hop.hop-index in
    let inv = c.loop-hop.invariant in
    let none : Hop = record { to = 0; seconds = 0 } in
    let inside : c.loop-hop.hop-index < length c.args.hops.now = omega arith in
    let read : get_or hops i none ≡ get_or hops i (get_or hops i none) = get_or_default hops i none (get_or hops i none) inside in
    let among = c.requires.hops i none inside in
    let s_length : length c.loop-hop.seconds ≡ length c.args.seconds.now = inv.seconds_length in
    let w_length : length c.loop-hop.waiting ≡ length c.args.waiting.now = inv.waiting_length in
    let lengths : length c.args.waiting.now ≡ length c.args.seconds.now = c.requires.lengths in
    let within : (get_or c.args.hops.now c.loop-hop.hop-index none).to < length c.loop-hop.seconds = omega (arith, among.0, s_length) in
    elim c.if-through-seconds.branch [
      | then-through-seconds+then-through-le-LONGEST w ↦
          rw (w.seconds-is, w.waiting-is)
          (RelaxesHops-take inv {hop = get_or hops i none} inside read refl w.if-through-le-LONGEST.true w.if-through-seconds.true within (omega arith))
      | else-through-seconds w ↦
          rw (w.seconds-is, w.waiting-is)
          (RelaxesHops-skip inv {hop = get_or hops i none} inside read (elim w.else-through-seconds.branch [
            | else-through-seconds-via-then-through-seconds+else-through-le-LONGEST v ↦ inr (omega (arith, v.if-through-le-LONGEST.false))
            | else-through-seconds-via-else-through-seconds v ↦ inl (omega (arith, v.if-through-seconds.false))
          ]))
    ]
