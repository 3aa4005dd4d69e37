use Rattle.std.proofs.Common.{◌≡◌, ◌<◌, length, arith}
use Rattle.route_drive.proofs.Common.{get_or_read, no_found, found_at}
use Rattle.route_drive.proofs.TreeLemmas.{IsWalkBack-more, reverse-push}
use Rattle.route_drive.proofs.walk.steps_to.Goals as goal

pub loop-at-preserved : goal.loop-at-preserved
loop-at-preserved c =
    let found = c.args.tree.now.found.items in
    let at = c.loop-at.at in
    let tree = c.requires.tree in
    let inside : c.loop-at.at < length c.args.tree.now.found.items = c.loop-at.invariant.within in
    let read : c.index-in-loop-at.result.now ≡ found_at c.args.tree.now.found.items c.loop-at.at =
    get_or_read found at c.index-in-loop-at.result.now inside c.index-in-loop-at.ensures no_found in
    let earlier : (found_at c.args.tree.now.found.items c.loop-at.at).by < c.loop-at.at = tree.earlier at (omega arith) inside in
    let by : (found_at c.args.tree.now.found.items c.loop-at.at).by < length c.args.tree.now.found.items = omega arith in
    let read_by : c.index-in-loop-at-2.result.now ≡ found_at c.args.tree.now.found.items (found_at c.args.tree.now.found.items c.loop-at.at).by =
    get_or_read found (found_at found at).by c.index-in-loop-at-2.result.now by (rw read at c.index-in-loop-at-2.ensures) no_found in
    record {
      within = rw read by;
      back = rw (c.in_ok-push-2.ensures.items, reverse-push c.loop-at.steps.items c.step_at-in-loop-at.result, c.step_at-in-loop-at.ensures, read_by, read)
          (IsWalkBack-more c.args.network.now c.args.times.now _ _ _ _ (tree.tight at (omega arith) inside) c.loop-at.invariant.back);
    }
