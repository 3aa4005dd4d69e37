use Rattle.std.proofs.Common.{◌≡◌, All, length, map, drop, filter, true, ap, ◌∙◌, subst, arith}
use Rattle.std.proofs.lemmas.List.{take_at}
use Rattle.road_network.specs.Roads.{IsNetwork, Roads}
use Rattle.road_hierarchy.specs.work.build.Turns.{turn_of}
use Rattle.road_hierarchy.specs.work.build.Checked.{IsReady}
use Rattle.road_hierarchy.specs.work.sweeps.Marks.{MarksBack, MarksOn, is_marked}
use Rattle.road_hierarchy.proofs.table.Parting.{part_made, turned_below}
use Rattle.road_hierarchy.proofs.table.part.Part.of.Goals as goal

pub marks_of-requires : goal.marks_of-requires
marks_of-requires c =
    let ready : IsReady c.args.hierarchy.now c.hierarchy.inside.turns.items c.hierarchy.inside.up.items c.hierarchy.inside.down.items =
    subst (λ (r : Roads). IsReady r c.hierarchy.inside.turns.items c.hierarchy.inside.up.items c.hierarchy.inside.down.items) c.hierarchy.view_is
    c.hierarchy.invariant in
    let same : c.in_ok-turned.turned.items ≡ map (turn_of c.hierarchy.inside.turns.items) c.args.points.now = subst (λ xs. c.in_ok-turned.turned.items ≡ map
    (turn_of xs) c.args.points.now) c.deref.ensures.value c.in_ok-turned.ensures in
    let held = c.hierarchy.inside.turns.ok.0 in
    rw c.deref-2.ensures.value (λ k d lt. omega (
      arith,
      held,
      c.len-nodes.ensures,
      turned_below c.args.hierarchy.now c.hierarchy.inside.turns.items
          c.hierarchy.inside.up.items c.hierarchy.inside.down.items c.args.points.now c.in_ok-turned.turned.items ready c.requires same k d lt,
    ))

pub invariant_of-result : goal.invariant_of-result
invariant_of-result c =
    let roads = c.args.hierarchy.now in
    let turns = c.hierarchy.inside.turns.items in
    let up = c.hierarchy.inside.up.items in
    let down = c.hierarchy.inside.down.items in
    let points = c.args.points.now in
    let turned = c.in_ok-turned.turned.items in
    let begun = c.in_ok-known.known.items in
    let known = c.mark_onward.new.marks in
    let begun' = c.in_ok-wanted.wanted.items in
    let wanted = c.mark_back.new.marks in
    let ready : IsReady c.args.hierarchy.now c.hierarchy.inside.turns.items c.hierarchy.inside.up.items c.hierarchy.inside.down.items =
    subst (λ (r : Roads). IsReady r c.hierarchy.inside.turns.items c.hierarchy.inside.up.items c.hierarchy.inside.down.items) c.hierarchy.view_is
    c.hierarchy.invariant in
    let network : IsNetwork c.args.hierarchy.now = subst (λ (r : Roads). IsNetwork r) c.hierarchy.view_is c.keeps.ensures in
    let same : c.in_ok-turned.turned.items ≡ map (turn_of c.hierarchy.inside.turns.items) c.args.points.now = subst (λ xs. c.in_ok-turned.turned.items ≡ map
    (turn_of xs) c.args.points.now) c.deref.ensures.value c.in_ok-turned.ensures in
    let starts : All (λ turn. is_marked c.in_ok-known.known.items turn ≡ true) c.in_ok-turned.turned.items = subst (λ xs. All
    (λ turn. is_marked c.in_ok-known.known.items turn ≡ true) xs) c.deref-2.ensures.value c.in_ok-known.ensures.marked in
    let starts' : All (λ turn. is_marked c.in_ok-wanted.wanted.items turn ≡ true) c.in_ok-turned.turned.items = subst (λ xs. All
    (λ turn. is_marked c.in_ok-wanted.wanted.items turn ≡ true) xs) c.deref-6.ensures.value c.in_ok-wanted.ensures.marked in
    let on : MarksOn c.hierarchy.inside.up.items c.in_ok-known.known.items c.mark_onward.new.marks =
    subst (λ m. MarksOn c.hierarchy.inside.up.items m c.mark_onward.new.marks) c.deref_mut.ensures.value
    (subst (λ u. MarksOn u c.deref_mut.result.now c.mark_onward.new.marks) c.deref-3.ensures.value c.mark_onward.ensures) in
    let back : MarksBack c.hierarchy.inside.down.items c.in_ok-wanted.wanted.items c.mark_back.new.marks =
    subst (λ m. MarksBack c.hierarchy.inside.down.items m c.mark_back.new.marks) c.deref_mut-2.ensures.value
    (subst (λ d. MarksBack d c.deref_mut-2.result.now c.mark_back.new.marks) c.deref-7.ensures.value c.mark_back.ensures) in
    let held = c.hierarchy.inside.turns.ok.0 in
    let n_is : c.len-nodes.result ≡ length c.hierarchy.inside.turns.items = omega (arith, held, c.len-nodes.ensures) in
    let read_known = c.deref-5.ensures.value ∙ take_at known (drop (length known) begun) c.in_ok-known.known.len
    (omega (arith, c.in_ok-known.known.ok.0, c.mark_onward.ensures.same_length, ap length c.deref_mut.ensures.value)) in
    let read_wanted = c.deref-9.ensures.value ∙ take_at wanted (drop (length wanted) begun') c.in_ok-wanted.wanted.len
    (omega (arith, c.in_ok-wanted.wanted.ok.0, c.mark_back.ensures.same_length, ap length c.deref_mut-2.ensures.value)) in
    let up_is : c.in_ok-up.up.items ≡ filter (λ arc. is_marked c.mark_onward.new.marks arc.from) c.hierarchy.inside.up.items =
    subst (λ m. c.in_ok-up.up.items ≡ filter (λ arc. is_marked m arc.from) c.hierarchy.inside.up.items) read_known
    (subst (λ u. c.in_ok-up.up.items ≡ filter (λ arc. is_marked c.deref-5.result.now arc.from) u) c.deref-4.ensures.value c.in_ok-up.ensures) in
    let down_is : c.in_ok-down.down.items ≡ filter (λ arc. is_marked c.mark_back.new.marks arc.to) c.hierarchy.inside.down.items =
    subst (λ m. c.in_ok-down.down.items ≡ filter (λ arc. is_marked m arc.to) c.hierarchy.inside.down.items) read_wanted
    (subst (λ d. c.in_ok-down.down.items ≡ filter (λ arc. is_marked c.deref-9.result.now arc.to) d) c.deref-8.ensures.value c.in_ok-down.ensures) in
    let part = part_made roads turns up down points turned begun known begun' wanted c.len-nodes.result c.in_ok-up.up.items c.in_ok-down.down.items network
    ready c.requires same starts on starts' back n_is up_is down_is in
    record { below = part.below; up_turn = part.up_turn; up_within = part.up_within; down_turn = part.down_turn; down_within = part.down_within }

pub returns-clause-part : goal.returns-clause-part
returns-clause-part c =
    let roads = c.args.hierarchy.now in
    let turns = c.hierarchy.inside.turns.items in
    let up = c.hierarchy.inside.up.items in
    let down = c.hierarchy.inside.down.items in
    let points = c.args.points.now in
    let turned = c.in_ok-turned.turned.items in
    let begun = c.in_ok-known.known.items in
    let known = c.mark_onward.new.marks in
    let begun' = c.in_ok-wanted.wanted.items in
    let wanted = c.mark_back.new.marks in
    let ready : IsReady c.args.hierarchy.now c.hierarchy.inside.turns.items c.hierarchy.inside.up.items c.hierarchy.inside.down.items =
    subst (λ (r : Roads). IsReady r c.hierarchy.inside.turns.items c.hierarchy.inside.up.items c.hierarchy.inside.down.items) c.hierarchy.view_is
    c.hierarchy.invariant in
    let network : IsNetwork c.args.hierarchy.now = subst (λ (r : Roads). IsNetwork r) c.hierarchy.view_is c.keeps.ensures in
    let same : c.in_ok-turned.turned.items ≡ map (turn_of c.hierarchy.inside.turns.items) c.args.points.now = subst (λ xs. c.in_ok-turned.turned.items ≡ map
    (turn_of xs) c.args.points.now) c.deref.ensures.value c.in_ok-turned.ensures in
    let starts : All (λ turn. is_marked c.in_ok-known.known.items turn ≡ true) c.in_ok-turned.turned.items = subst (λ xs. All
    (λ turn. is_marked c.in_ok-known.known.items turn ≡ true) xs) c.deref-2.ensures.value c.in_ok-known.ensures.marked in
    let starts' : All (λ turn. is_marked c.in_ok-wanted.wanted.items turn ≡ true) c.in_ok-turned.turned.items = subst (λ xs. All
    (λ turn. is_marked c.in_ok-wanted.wanted.items turn ≡ true) xs) c.deref-6.ensures.value c.in_ok-wanted.ensures.marked in
    let on : MarksOn c.hierarchy.inside.up.items c.in_ok-known.known.items c.mark_onward.new.marks =
    subst (λ m. MarksOn c.hierarchy.inside.up.items m c.mark_onward.new.marks) c.deref_mut.ensures.value
    (subst (λ u. MarksOn u c.deref_mut.result.now c.mark_onward.new.marks) c.deref-3.ensures.value c.mark_onward.ensures) in
    let back : MarksBack c.hierarchy.inside.down.items c.in_ok-wanted.wanted.items c.mark_back.new.marks =
    subst (λ m. MarksBack c.hierarchy.inside.down.items m c.mark_back.new.marks) c.deref_mut-2.ensures.value
    (subst (λ d. MarksBack d c.deref_mut-2.result.now c.mark_back.new.marks) c.deref-7.ensures.value c.mark_back.ensures) in
    let held = c.hierarchy.inside.turns.ok.0 in
    let n_is : c.len-nodes.result ≡ length c.hierarchy.inside.turns.items = omega (arith, held, c.len-nodes.ensures) in
    let read_known = c.deref-5.ensures.value ∙ take_at known (drop (length known) begun) c.in_ok-known.known.len
    (omega (arith, c.in_ok-known.known.ok.0, c.mark_onward.ensures.same_length, ap length c.deref_mut.ensures.value)) in
    let read_wanted = c.deref-9.ensures.value ∙ take_at wanted (drop (length wanted) begun') c.in_ok-wanted.wanted.len
    (omega (arith, c.in_ok-wanted.wanted.ok.0, c.mark_back.ensures.same_length, ap length c.deref_mut-2.ensures.value)) in
    let up_is : c.in_ok-up.up.items ≡ filter (λ arc. is_marked c.mark_onward.new.marks arc.from) c.hierarchy.inside.up.items =
    subst (λ m. c.in_ok-up.up.items ≡ filter (λ arc. is_marked m arc.from) c.hierarchy.inside.up.items) read_known
    (subst (λ u. c.in_ok-up.up.items ≡ filter (λ arc. is_marked c.deref-5.result.now arc.from) u) c.deref-4.ensures.value c.in_ok-up.ensures) in
    let down_is : c.in_ok-down.down.items ≡ filter (λ arc. is_marked c.mark_back.new.marks arc.to) c.hierarchy.inside.down.items =
    subst (λ m. c.in_ok-down.down.items ≡ filter (λ arc. is_marked m arc.to) c.hierarchy.inside.down.items) read_wanted
    (subst (λ d. c.in_ok-down.down.items ≡ filter (λ arc. is_marked c.deref-9.result.now arc.to) d) c.deref-8.ensures.value c.in_ok-down.ensures) in
    part_made roads turns up down points turned begun known begun' wanted c.len-nodes.result c.in_ok-up.up.items c.in_ok-down.down.items network ready
    c.requires same starts on starts' back n_is up_is down_is
