use Rattle.std.proofs.Common.{◌≡◌, ◌+◌, ◌<◌, length, get_or, inl, inr, arith}
use Rattle.travel_times.proofs.Common.{Hop}
use Rattle.travel_times.proofs.lemmas.search.SearchLemmas.{RelaxesHops-take, RelaxesHops-skip}
use Rattle.travel_times.proofs.search.search.relax.Goals.{
  then-through-seconds+then-through-le-LONGEST+in_ok-push,
  else-through-seconds,
  else-through-seconds-via-then-through-seconds+else-through-le-LONGEST,
  else-through-seconds-via-else-through-seconds,
}
use Rattle.travel_times.proofs.search.search.relax.Goals as goal

pub loop-hop-preserved : goal.loop-hop-preserved
loop-hop-preserved c =
    let hops = c.args.hops.now in
    let i = c.loop-hop.hop-index in
    let inv = c.loop-hop.invariant in
    let hop : Hop = c.hop-item.result in
    let inside : c.loop-hop.hop-index < length c.args.hops.now = omega arith in
    let read : c.hop-item.result ≡ get_or c.args.hops.now c.loop-hop.hop-index c.hop-item.result = c.hop-item.is in
    let among : c.hop-item.result.to < length c.args.seconds.now = rw (← read) at ((c.requires.hops i hop inside).0) in
    let s_length : length c.loop-hop.seconds ≡ length c.args.seconds.now = inv.seconds_length in
    let w_length : length c.loop-hop.waiting ≡ length c.args.waiting.now = inv.waiting_length in
    let lengths : length c.args.waiting.now ≡ length c.args.seconds.now = c.requires.lengths in
    let within : c.hop-item.result.to < length c.loop-hop.seconds = omega (arith, among, s_length) in
    let through : c.args.here + c.seconds.result ≡ c.args.here + c.hop-item.result.seconds = omega (arith, c.seconds.ensures) in
    elim c.if-through-seconds.branch [
      | then-through-seconds+then-through-le-LONGEST+in_ok-push w ↦
          rw (w.seconds-is, w.waiting-is, c.to-to.ensures)
          (RelaxesHops-take inv {hop = hop} inside read through w.if-through-le-LONGEST.true (rw c.to-to.ensures at w.if-through-seconds.true) within
          (omega arith))
      | else-through-seconds w ↦
          rw (w.seconds-is, w.waiting-is)
          (RelaxesHops-skip inv {hop = hop} inside read (elim w.else-through-seconds.branch [
            | else-through-seconds-via-then-through-seconds+else-through-le-LONGEST v ↦ inr (omega (arith, through, v.if-through-le-LONGEST.false))
            | else-through-seconds-via-else-through-seconds v ↦ inl (let far = rw c.to-to.ensures at v.if-through-seconds.false in omega (arith, through, far))
          ]))
    ]
