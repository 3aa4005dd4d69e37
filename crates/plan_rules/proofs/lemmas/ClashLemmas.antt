-- Dead ends by their two causes.
use Rattle.std.proofs.Common.{◌↔◌, Bool, IsTrue}
use Rattle.plan_rules.proofs.Common.{Graph, Usable, IsClash, IsStranded, IsDeadEnd, Clash, Stranded}

pub dead_by_clash : (g : Graph) (usable : Usable) → IsClash g usable → IsDeadEnd g usable
dead_by_clash g usable c = Clash c.first c.second c.first_row c.second_row c.rider c.differ c.first_sole c.second_sole c.in_first c.in_second

-- without a clash a dead end is one where a rider is stranded
pub dead_where_stranded : (g : Graph) (usable : Usable) (b : Bool) → (IsClash g usable → ⊥) → IsTrue b ↔ IsStranded g usable → IsTrue b ↔ IsDeadEnd g usable
dead_where_stranded g usable b none stranded = (λ e. let s = stranded.0 e in Stranded s.rider s.must s.nowhere, by_cause)
  where
    by_cause : IsDeadEnd g usable → IsTrue b
    by_cause (Clash v w j k r differ a c in_a in_c) =
        absurd (none (record {
          first = v;
          second = w;
          first_row = j;
          second_row = k;
          rider = r;
          differ = differ;
          first_sole = a;
          second_sole = c;
          in_first =
              in_a;
          in_second = in_c;
        }))
    by_cause (Stranded r must nowhere) = stranded.1 (record { rider = r; must = must; nowhere = nowhere })
