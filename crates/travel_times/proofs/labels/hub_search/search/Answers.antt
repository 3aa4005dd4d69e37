use Rattle.std.proofs.Common.{◌≡◌, ℕ, ◌<◌, true, [], List, length, get_or, slice_index, sym, subst, ◌∙◌, arith}
use Rattle.travel_times.proofs.Common.{get_or_read, length-set, All-push, IsNextTaken, RelaxesHops, Hub, IsTold}
use Rattle.travel_times.proofs.lemmas.search.SearchLemmas.{none_waits_near}
use Rattle.travel_times.proofs.labels.Searching.{all_noted, hops_within, prune_end, prune_start, prune_step, relax_step}
use Rattle.travel_times.proofs.labels.hub_search.search.Goals as goal

pub loop-node-preserved-then-is_told : goal.loop-node-preserved-then-is_told
loop-node-preserved-then-is_told c =
    let inv = c.loop-node.invariant in
    let node = c.in-Some.node in
    let next : IsNextTaken c.loop-node.waiting c.next_near.new.waiting node = c.in-Some.ensures.some in
    let below : c.in-Some.node < length c.args.known.now.hops.now = let l : c.in-Some.node < length c.loop-node.waiting =
    next.within in omega (arith, l, inv.waiting) in
    let label : c.as_slice.result.now ≡ get_or c.args.known.now.labels.now node [] = c.as_slice.ensures ∙ sym c.index-known-node.is ∙
    get_or_read c.args.known.now.labels.now node c.index-known-node.result (omega (arith, below, c.requires.labels)) c.index-known-node.is [] in
    let told = subst (λ (l : List Hub). IsTold l c.args.known.now.via.now (slice_index c.loop-node.seconds node)) label
    (c.is_told.ensures.0 c.if-is_told.true) in
    record {
      seconds = inv.seconds;
      waiting = next.same_length ∙ inv.waiting;
      pruning = λ arcs among are. rw c.in_ok-push-2.ensures.items (prune_step (inv.pruning arcs among are) next told);
      taken = λ old. rw c.in_ok-push-2.ensures.items (All-push (λ (v : ℕ). v < length c.args.known.now.hops.now) c.loop-node.taken.items node (inv.taken old)
          below);
    }

pub relax-requires-clause-hops : goal.relax-requires-clause-hops
relax-requires-clause-hops c =
    let inv = c.loop-node.invariant in
    let node = c.in-Some.node in
    let next : IsNextTaken c.loop-node.waiting c.next_near.new.waiting node = c.in-Some.ensures.some in
    let below : c.in-Some.node < length c.args.known.now.hops.now = let l : c.in-Some.node < length c.loop-node.waiting =
    next.within in omega (arith, l, inv.waiting) in
    let hops : c.as_slice-in-Some.result.now ≡ get_or c.args.known.now.hops.now node [] = c.as_slice-in-Some.ensures ∙ sym c.index-known-node-in-Some.is ∙
    get_or_read c.args.known.now.hops.now node c.index-known-node-in-Some.result below c.index-known-node-in-Some.is [] in
    rw (hops, inv.seconds) (hops_within c.requires.hops.0 (length c.args.known.now.hops.now) node (get_or c.args.known.now.hops.now node []) c.requires.hops.1
    (c.requires.hops.2.placed node below))

pub loop-node-preserved : goal.loop-node-preserved
loop-node-preserved c =
    let inv = c.loop-node.invariant in
    let node = c.in-Some.node in
    let next : IsNextTaken c.loop-node.waiting c.next_near.new.waiting node = c.in-Some.ensures.some in
    let below : c.in-Some.node < length c.args.known.now.hops.now = let l : c.in-Some.node < length c.loop-node.waiting =
    next.within in omega (arith, l, inv.waiting) in
    let hops : c.as_slice-in-Some.result.now ≡ get_or c.args.known.now.hops.now node [] = c.as_slice-in-Some.ensures ∙ sym c.index-known-node-in-Some.is ∙
    get_or_read c.args.known.now.hops.now node c.index-known-node-in-Some.result below c.index-known-node-in-Some.is [] in
    let relaxes : RelaxesHops (get_or c.args.known.now.hops.now node []) (length (get_or c.args.known.now.hops.now node []))
    (slice_index c.loop-node.seconds node) c.loop-node.seconds c.next_near.new.waiting c.relax.new.seconds c.relax.new.waiting =
    rw hops at c.in_ok-relax.ensures.relaxes in
    record {
      seconds = relaxes.seconds_length ∙ inv.seconds;
      waiting = relaxes.waiting_length ∙ next.same_length ∙ inv.waiting;
      pruning = λ arcs among are. rw c.in_ok-push-2.ensures.items (relax_step (inv.pruning arcs among are) next (are.placed node below) relaxes);
      taken = λ old. rw c.in_ok-push-2.ensures.items (All-push (λ (v : ℕ). v < length c.args.known.now.hops.now) c.loop-node.taken.items node (inv.taken old)
          below);
    }

pub returns-clause-none : goal.returns-clause-none
returns-clause-none c =
    let inv = c.loop-node.invariant in
    let pruning = inv.pruning c.requires.hops.0 c.requires.hops.1 c.requires.hops.2 in
    rw c.in_default.ensures.unchanged (none_waits_near c.loop-node.seconds c.loop-node.waiting pruning.reached
    (rw c.in_default.ensures.unchanged at c.in_default.ensures.none))

pub loop-node-init : goal.loop-node-init
loop-node-init c =
    record {
      seconds = length-set c.args.seconds.now c.args.start 0 ∙ c.requires.seconds.0;
      waiting = length-set c.args.waiting.now c.args.start true ∙ c.requires.waiting.0;
      pruning = λ arcs among are. prune_start arcs (length c.args.known.now.hops.now) c.args.start c.args.known.now.labels.now c.args.known.now.via.now
          c.args.seconds.now c.args.waiting.now c.args.taken.now.items c.requires.seconds c.requires.waiting c.requires.start;
      taken = λ old. old;
    }

pub returns-clause-found : goal.returns-clause-found
returns-clause-found c = λ arcs among are. prune_end (c.loop-node.invariant.pruning arcs among are)
    (rw (← c.in_default.ensures.unchanged) (returns-clause-none c))

pub returns-clause-noted : goal.returns-clause-noted
returns-clause-noted c = all_noted (c.loop-node.invariant.pruning c.requires.hops.0 c.requires.hops.1 c.requires.hops.2)
    (rw (← c.in_default.ensures.unchanged) (returns-clause-none c))
