use Rattle.std.proofs.Common.{◌<◌, All, length}
use Rattle.travel_times.proofs.Common.{Hub, HandsOver}
use Rattle.travel_times.proofs.labels.draft.hand_over.Given as goal

abbrev pub invariant-loop-node : goal.invariant-loop-node
invariant-loop-node l = record {
  hands : HandsOver l.start l.via l.taken l.node-index l.initial.seconds l.initial.labels l.seconds l.labels;
  hubs : All (λ label. All (λ (hub : Hub). hub.node < length l.via) label) l.labels;
}
