-- Who is served by entries that follow one another, and the counts of them.
use Rattle.std.proofs.Common.{
  ◌≡◌,
  ℕ,
  ◌+◌,
  ◌^◌,
  ◌<◌,
  max,
  Bool,
  List,
  [],
  ◌∷◌,
  ◌++◌,
  length,
  get_or,
  map,
  filter,
  take,
  refl,
  sym,
  ap,
  ◌∙◌,
  subst,
  arith,
  append_assoc,
  append-nil,
  Contains,
  min,
  ◌-◌,
  rules,
}
use Rattle.route_drive.proofs.Common.{
  AllZip,
  take_more,
  get_or_default,
  length-map,
  map-append,
  Any-from_list_any,
  filter-append,
  IsNode,
  Entry,
  Reply,
  BookRider,
  Roads,
  ServedRider,
  DayRound,
  greatest,
  AreCounts,
  IsDelayOf,
  dropped_among,
  entries_of,
  is_dropped,
  is_picked,
  picked_among,
  wait_of,
  AddsServed,
  AreServed,
  IsDelayed,
  all_served_by,
  waited,
  eqb-true,
  flat_map_more,
  map_push,
}
use Rattle.route_drive.specs.declared.counts.Served.{Served}

pub greatest-push : (xs : List ℕ) (x : ℕ) → greatest (xs ++ x ∷ []) ≡ max (greatest xs) x
greatest-push [] x = omega arith
greatest-push (y ∷ xs) x = let rest = greatest-push xs x in omega (arith, rest)

pub greatest_more : {X : Type 0} (f : X → ℕ) (xs : List X) (k : ℕ) (x : X) (worst n : ℕ) → k < length xs → x ≡ get_or xs k x →
    worst ≡ greatest (map f (take k xs)) → n ≡ f x
    → max worst n ≡ greatest (map f (take (k + 1) xs))
greatest_more f xs k x worst n within is so one =
    let parts : take (k + 1) xs ≡ take k xs ++ x ∷ [] = take_more xs k x within ∙ ap (λ y. take k xs ++ y ∷ []) (sym is) in
    let more = greatest-push (map f (take k xs)) (f x) ∙ ap (λ (w : ℕ). max w (f x)) (sym so) in
    rw (parts, map_push f (take k xs) x, one) (sym more)

pub entries_of-push : (made : List DayRound) (r : DayRound) → entries_of (made ++ r ∷ []) ≡ entries_of made ++ r.journal.entries
entries_of-push made r = sym (flat_map_more (λ (x : DayRound). x.journal.entries) [] made r)

-- whom earlier entries and later ones served
served-append : (p : Reply → Bool) (es fs : List Entry) → all_served_by (filter (λ e. p e.reply) (es ++ fs)) ≡ all_served_by (filter (λ e. p e.reply) es) ++
    all_served_by (filter (λ e. p e.reply) fs)
served-append p es fs = search (rules, filter-append, map-append)

-- no entry follows
pub adds_none : (served : Served) → AddsServed [] served served
adds_none served = record { picked = sym (append-nil served.picked.items); dropped = sym (append-nil served.dropped.items) }

adds-trans : (es fs : List Entry) (a b c : Served) → AddsServed es a b → AddsServed fs b c → AddsServed (es ++ fs) a c
adds-trans es fs a b c one two = record {
  picked = grind (arith, append_assoc, two.picked, one.picked, served-append is_picked es fs);
  dropped = grind (arith, append_assoc, two.dropped, one.dropped, served-append is_dropped es fs);
}

-- one more of the entries that follow
pub adds_more : (entries : List Entry) (k : ℕ) (e : Entry) (a b c : Served) → k < length entries → e ≡ get_or entries k e
    → AddsServed (take k entries) a b → AddsServed (e ∷ []) b c → AddsServed (take (k + 1) entries) a c
adds_more entries k e a b c within is adds one =
    let parts : take (k + 1) entries ≡ take k entries ++ e ∷ [] = take_more entries k e within ∙ ap (λ (x : Entry). take k entries ++ x ∷ []) (sym is) in
    subst (λ (es : List Entry). AddsServed es a c) (sym parts) (adds-trans (take k entries) (e ∷ []) a b c adds one)

-- one more round is noted
pub served_more : (made : List DayRound) (r : DayRound) (a b : Served) → AreServed (entries_of made) a → AddsServed r.journal.entries a b →
    AreServed (entries_of (made ++ r ∷ [])) b
served_more made r a b are adds =
    let es = entries_of made in
    let fs = r.journal.entries in
    subst (λ (l : List Entry). AreServed l b) (sym (entries_of-push made r)) (record {
      picked = adds.picked ∙ ap (λ l. l ++ all_served_by (picked_among fs)) are.picked ∙ sym (served-append is_picked es fs);
      dropped = adds.dropped ∙ ap (λ l. l ++ all_served_by (dropped_among fs)) are.dropped ∙ sym (served-append is_dropped es fs);
    })

-- the counts, by those who were served
waits_of : (riders : List BookRider) (es : List Entry) → map (waited riders) (all_served_by es) ≡ map (wait_of riders) es
waits_of riders [] = refl
waits_of riders (e ∷ es) = ap (λ l. wait_of riders e ∷ l) (waits_of riders es)

delays_of : (roads : Roads) (riders : List BookRider) (es : List Entry) (ds : List ℕ) → AllZip (IsDelayed roads riders) (all_served_by es) ds →
    AllZip (IsDelayOf roads riders) es ds
delays_of roads riders [] [] are = tt
delays_of roads riders (e ∷ es) (d ∷ ds) are = (are.0, delays_of roads riders es ds are.1)
delays_of roads riders es ds are = absurd are

count_is : (n : ℕ) (served : List ServedRider) (es : List Entry) → n ≡ length served → n < 2 ^ 64 → served ≡ all_served_by es → n ≡ min (length es) (2 ^ 64 - 1)
count_is n served es is small are = search (rules, length-map)

pub counts_are : (roads : Roads) (riders : List BookRider) (served : Served) (es : List Entry) (picked dropped wait delay : ℕ) (delays : List ℕ)
    → picked ≡ length served.picked.items → picked < 2 ^ 64 → dropped ≡ length served.dropped.items → dropped < 2 ^ 64
    → wait ≡ greatest (map (waited riders) served.picked.items) → AllZip (IsDelayed roads riders) served.dropped.items delays → delay ≡ greatest delays
    → AreServed es served → AreCounts roads riders es (record { picked = picked; dropped = dropped; worst_wait = wait; worst_delay = delay })
counts_are roads riders served es picked dropped wait delay delays picks few drops less waits are worst is = search (rules, count_is, waits_of, delays_of)

-- a node that is found is among the nodes
pub node_known : (nodes : List ℕ) (node : ℕ) → IsNode nodes node → Contains nodes node
node_known nodes node found = search (rules, Any-from_list_any, eqb-true, get_or_default)
