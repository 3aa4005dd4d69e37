use Rattle.std.proofs.Common.{◌≡◌, ℕ, ◌<◌, ◌≤◌, length, map, slice_index, get_or, set, true, false, sym, ap, ◌∙◌, arith, rules}
use Rattle.route_drive.proofs.Common.{get_or_read, Hop, hop_of, leaving, Found, no_found, found_at, is_seen, AreHopsOpened, get_or-set_same}
use Rattle.route_drive.proofs.TreeLemmas.{IsTree-mark, Grows-mark, Grows-none, AreHopsOpened-more, IsOpened-all, IsTight-hop, hop_among}
use Rattle.route_drive.proofs.tree.open.Goals.{
  then-there-most+then-here-hop+then-not-index+in_ok-mark,
  else-there-most,
  else-there-most-via-then-there-most+then-here-hop+else-not-index,
  else-there-most-via-then-there-most+else-here-hop,
  else-there-most-via-else-there-most,
}
use Rattle.route_drive.proofs.tree.open.Goals as goal

pub offset_bounds-times-hop : goal.offset_bounds-times-hop
offset_bounds-times-hop c =
    let inside : c.loop-hop.hop-index < length c.arcs_from-hop-items.result.now = omega arith in
    let w = hop_among c.args.network.now c.arcs_from-hop-items.result.now c.index.result.now.node c.loop-hop.hop-index (record { to = 0; seconds = 0 })
    c.keeps.ensures c.arcs_from-hop-items.ensures inside in
    let few = c.keeps.ensures.few_nodes in
    search rules

pub bounds-times-hop : goal.bounds-times-hop
bounds-times-hop c =
    let inside : c.loop-hop.hop-index < length c.arcs_from-hop-items.result.now = omega arith in
    let w = hop_among c.args.network.now c.arcs_from-hop-items.result.now c.index.result.now.node c.loop-hop.hop-index (record { to = 0; seconds = 0 })
    c.keeps.ensures c.arcs_from-hop-items.ensures inside in
    omega (arith, w, c.requires.size)

pub index-requires-then-here-hop : goal.index-requires-then-here-hop
index-requires-then-here-hop c =
    let inside : c.loop-hop.hop-index < length c.arcs_from-hop-items.result.now = omega arith in
    let w = hop_among c.args.network.now c.arcs_from-hop-items.result.now c.index.result.now.node c.loop-hop.hop-index (record { to = 0; seconds = 0 })
    c.keeps.ensures c.arcs_from-hop-items.ensures inside in
    omega (arith, w, c.requires.size, c.loop-hop.invariant.tree.marks, c.loop-hop.tree.seen.ok.0)

pub mark-requires : goal.mark-requires
mark-requires c =
    let inside : c.loop-hop.hop-index < length c.arcs_from-hop-items.result.now = omega arith in
    let w = hop_among c.args.network.now c.arcs_from-hop-items.result.now c.index.result.now.node c.loop-hop.hop-index (record { to = 0; seconds = 0 })
    c.keeps.ensures c.arcs_from-hop-items.ensures inside in
    omega (arith, w, c.requires.size, c.loop-hop.invariant.tree.marks)

pub loop-hop-preserved : goal.loop-hop-preserved
loop-hop-preserved c =
    let roads = c.args.network.now in
    let times = c.args.times.now in
    let hops = c.arcs_from-hop-items.result.now in
    let i = c.loop-hop.hop-index in
    let d : Hop = record { to = 0; seconds = 0 } in
    let seen = c.loop-hop.tree.seen.items in
    let found = c.loop-hop.tree.found.items in
    let inv = c.loop-hop.invariant in
    let size = c.requires.size in
    let marks = inv.tree.marks in
    let inside : c.loop-hop.hop-index < length c.arcs_from-hop-items.result.now = omega arith in
    let among = hop_among roads hops c.index.result.now.node i d c.keeps.ensures c.arcs_from-hop-items.ensures inside in
    let to : ℕ = (get_or c.arcs_from-hop-items.result.now c.loop-hop.hop-index d).to in
    let in_times : (get_or c.arcs_from-hop-items.result.now c.loop-hop.hop-index d).to < length c.args.times.now = omega (arith, among, size) in
    let in_seen : (get_or c.arcs_from-hop-items.result.now c.loop-hop.hop-index d).to < length c.loop-hop.tree.seen.items = omega (arith, among, size, marks) in
    let next : c.args.next < length c.loop-hop.tree.found.items = (let l = inv.grows.longer in let n = c.requires.next in omega (arith, l, n)) in
    let read : c.index.result.now ≡ found_at c.args.tree.now.found.items c.args.next = get_or_read c.args.tree.now.found.items c.args.next c.index.result.now
    c.requires.next c.index.ensures no_found in
    let node_is : (found_at c.loop-hop.tree.found.items c.args.next).node ≡ c.index.result.now.node =
    ap (λ (f : Found). f.node) (inv.grows.kept c.args.next c.requires.next ∙ sym read) in
    elim c.if-there-most.branch [
      | then-there-most+then-here-hop+then-not-index+in_ok-mark w ↦
          let dark : w.index-then-here-hop.result.now ≡ false = search rules in
          let unseen : is_seen c.loop-hop.tree.seen.items to ≡ false = sym (get_or_read seen to w.index-then-here-hop.result.now in_seen
          w.index-then-here-hop.ensures false) ∙ dark in
          let tight = IsTight-hop roads.arcs times hops c.index.result.now.node i d c.arcs_from-hop-items.ensures inside w.if-here-hop.true in
          record {
            tree = rw (w.tree-is, w.in_ok-mark.ensures.seen, w.in_ok-mark.ensures.found)
                (IsTree-mark roads.arcs times seen found c.args.next to inv.tree next (rw node_is tight) in_times
                (let near = w.if-there-most.true in let most = c.requires.most in omega (arith, near, most)) unseen);
            grows = rw (w.tree-is, w.in_ok-mark.ensures.seen, w.in_ok-mark.ensures.found)
                (Grows-mark roads.arcs times seen found c.args.next to c.args.tree.now.seen.items c.args.tree.now.found.items in_seen inv.grows);
            opened = rw (w.tree-is, w.in_ok-mark.ensures.seen)
                (AreHopsOpened-more hops i (slice_index times c.index.result.now.node) times c.args.most seen (set seen to true) d inv.opened
                (Grows-mark roads.arcs times seen found c.args.next to seen found in_seen (Grows-none seen found)).still inside
                (λ near rises. get_or-set_same seen to true false in_seen));
          }
      | else-there-most w ↦ record {
        tree = rw w.tree-is inv.tree;
        grows = rw w.tree-is inv.grows;
        opened = rw w.tree-is
            (AreHopsOpened-more hops i (slice_index times c.index.result.now.node) times c.args.most seen seen d inv.opened (λ n h. h) inside
            (λ near rises. elim w.else-there-most.branch [
              | else-there-most-via-then-there-most+then-here-hop+else-not-index v ↦
                  let light : v.index-then-here-hop.result.now ≡ true = search rules in
                  sym (get_or_read seen to v.index-then-here-hop.result.now in_seen v.index-then-here-hop.ensures false) ∙ light
              | else-there-most-via-then-there-most+else-here-hop v ↦ absurd (let no = v.if-here-hop.false in omega (arith, no, rises))
              | else-there-most-via-else-there-most v ↦ absurd (let no = v.if-there-most.false in omega (arith, no, near))
            ]));
      }
    ]

pub returns : goal.returns
returns c =
    let roads = c.args.network.now in
    let times = c.args.times.now in
    let seen = c.loop-hop.tree.seen.items in
    let inv = c.loop-hop.invariant in
    let read : c.index.result.now ≡ found_at c.args.tree.now.found.items c.args.next = get_or_read c.args.tree.now.found.items c.args.next c.index.result.now
    c.requires.next c.index.ensures no_found in
    let all : length c.arcs_from-hop-items.result.now ≤ c.loop-hop.hop-index = omega arith in
    let opened : AreHopsOpened (map hop_of (leaving c.index.result.now.node roads.arcs)) (length (map hop_of (leaving c.index.result.now.node roads.arcs)))
    (slice_index times c.index.result.now.node) times c.args.most seen =
    rw (← c.arcs_from-hop-items.ensures) (λ k d lt h near rises. inv.opened k d (omega arith) h near rises) in
    (inv.tree, inv.grows, rw (← read) (IsOpened-all roads.arcs times c.args.most seen c.index.result.now.node opened))
