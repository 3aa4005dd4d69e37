use Rattle.std.proofs.Common.{◌≡◌, ℤ, set, sym, subst, w64, to_z, of_z}
use Rattle.assignment_search.proofs.Common.{usable_of, AreCeilings}
use Rattle.std.proofs.lemmas.Int.{to_z-of_z}
use Rattle.assignment_search.proofs.CeilingLemmas.{ceilings_lower}
use Rattle.assignment_search.proofs.ceiling.lower.Goals as goal

pub returns-then-room-rooms : goal.returns-then-room-rooms
returns-then-room-rooms c =
    let g = c.args.graph.now in
    let u = usable_of c.args.allowed.now in
    let back : to_z w64 (of_z w64 c.args.room) ≡ c.args.room = to_z-of_z w64 c.args.room (record { sfits = c.ranges.room.sfits }) in
    record {
      ceilings = subst (λ (z : ℤ). AreCeilings g u (set c.args.rooms.now c.args.rider z)) (sym back)
          (ceilings_lower g u c.args.rooms.now c.args.rider c.args.room c.requires.ceilings c.requires.rider c.requires.above c.requires.modest);
    }
