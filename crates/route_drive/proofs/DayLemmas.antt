-- Days judged round by round.
use Rattle.std.proofs.lemmas.Bool.Decides.{nat_tests}
use Rattle.std.proofs.Common.{◌≡◌, ℕ, ◌+◌, ◌<◌, max, List, [], ◌∷◌, ◌++◌, length, get_or, take, unwrap_or, sym, ap, ◌∙◌, arith, rules}
use Rattle.route_drive.proofs.Common.{take_more, NumberedLanes, empty_round, seal_of, latest_seal, round_fault, fault_at, get_or_read}

pub latest-push : (rounds : List NumberedLanes) (r : NumberedLanes) → latest_seal (rounds ++ r ∷ []) ≡ max (unwrap_or (seal_of r) 0) (latest_seal rounds)
latest-push [] r = omega arith
latest-push (x ∷ rounds) r = search (rules, (latest-push rounds r))

pub fault_here : (rounds : List NumberedLanes) (i latest : ℕ) (r : NumberedLanes) → i < length rounds → r ≡ get_or rounds i r →
    latest ≡ latest_seal (take i rounds) → fault_at rounds i ≡ round_fault latest r
fault_here rounds i latest r h is are = ap (λ n. round_fault n (get_or rounds i (empty_round 0))) (sym are) ∙
    ap (round_fault latest) (sym (get_or_read rounds i r h is (empty_round 0)))

pub latest-more : (rounds : List NumberedLanes) (i latest : ℕ) (r : NumberedLanes) → i < length rounds → r ≡ get_or rounds i r →
    latest ≡ latest_seal (take i rounds)
    → max (unwrap_or (seal_of r) 0) latest ≡ latest_seal (take (i + 1) rounds)
latest-more rounds i latest r h is are = grind (arith, nat_tests, (latest-push (take i rounds) r), (take_more rounds i r h))
