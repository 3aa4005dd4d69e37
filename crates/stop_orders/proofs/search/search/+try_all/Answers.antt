use Rattle.std.proofs.Common.{◌≡◌, ℕ, ◌<◌, ◌≤◌, ◌+◌, ◌∷◌, ◌++◌, [], List, length, get_or, length-append, refl, subst, sym, ap, ◌∙◌, arith, All}
use Rattle.stop_orders.proofs.Common.{
  get_or_default,
  All-push,
  point_count,
  travel_time,
  Pick,
  with_stop,
  left_count,
  Candidate,
  task_riders,
  task_passengers,
  next_label,
  label_at,
  IsSmallLabel,
  labels_of,
  IsLabelPlaced,
  LeadsTo,
  IsCandidate,
  IsTried,
  IsLabelDone,
  Searched,
}
use Rattle.stop_orders.proofs.lemmas.task.DoneLemmas.{left_count-falls}
use Rattle.stop_orders.proofs.lemmas.search.PlainLemmas.{IsAllDone-at, IsAllDone-not_at, path_back}
use Rattle.std.proofs.lemmas.Bool.{true≢false}
use Rattle.std.proofs.lemmas.List.{take_all}
use Rattle.stop_orders.proofs.search.LabelLemmas.{known_next, second_most, small_next, leads_next}
use Rattle.stop_orders.proofs.search.SearchLemmas.{on_ok, searched_better, exhausted_tried, tried_exhausted, tries_more, exhausted_all, on_err}
use Rattle.stop_orders.proofs.search.search.+try_all.Goals as goal

-- what is read where there is no such candidate
abbrev no_candidate : Candidate
no_candidate = record { stop = Pick 0; second = 0 }

read_again : (items : List Candidate) (i : ℕ) → i < length items → get_or items i no_candidate ≡ get_or items i (get_or items i no_candidate)
read_again items i h = get_or_default items i no_candidate (get_or items i no_candidate) h

-- an element of the slice is one of the candidates
candidate_at : (P : Candidate → Type 0) (items slice : List Candidate) (i : ℕ) → slice ≡ items → i < length slice → All P items →
    P (get_or slice i no_candidate)
candidate_at P items slice i e h all = subst (λ xs. All P xs) (sym e) all i no_candidate h

pub returns-then-is_better-clause-searched : goal.returns-then-is_better-clause-searched
returns-then-is_better-clause-searched t c =
    let task = c.args.task.now in
    let label = c.args.label.now in
    let all = IsAllDone-at _ _ (task_riders task) (task_passengers task) label.done c.len.ensures.value c.len-2.ensures.value
    (c.is_all.ensures.0 c.if-is_all.true) in
    let same : c.copy_of_stops.result.items ≡ c.args.path.now.items = c.copy_of_stops.ensures ∙ c.deref.ensures.0 in
    searched_better (point_count c.args.times.now) (travel_time c.args.times.now) c.args.times.now.table.times task c.requires.valid c.args.path.now.items
    c.args.path.now.items label c.args.best.now
    (record { stops = c.copy_of_stops.result; delay = label.delay }) (labels_of c.args.store.now) c.requires.leads all same refl
    (λ n. true≢false (sym c.if-is_better.true ∙ c.is_better.ensures.1 n)) c.requires.settled

pub label_after-next-requires-clause-known : goal.label_after-next-requires-clause-known
label_after-next-requires-clause-known t c =
    let task = c.args.task.now in
    let label = c.args.label.now in
    let is = candidate_at (IsCandidate (travel_time c.args.times.now) task label) c.list_candidates.new.candidates.items c.as_slice-candidate-items.result.now
    c.loop-candidate.candidate-index c.as_slice-candidate-items.ensures.value c.loop-candidate-test.true c.list_candidates.ensures.each in
    known_next (task_riders task) (task_passengers task) label.done (get_or c.as_slice-candidate-items.result.now c.loop-candidate.candidate-index
    no_candidate).stop is.next

pub label_after-next-requires-clause-second : goal.label_after-next-requires-clause-second
label_after-next-requires-clause-second t c =
    let task = c.args.task.now in
    let label = c.args.label.now in
    let is = candidate_at (IsCandidate (travel_time c.args.times.now) task label) c.list_candidates.new.candidates.items c.as_slice-candidate-items.result.now
    c.loop-candidate.candidate-index c.as_slice-candidate-items.ensures.value c.loop-candidate-test.true c.list_candidates.ensures.each in
    let s = (get_or c.as_slice-candidate-items.result.now c.loop-candidate.candidate-index no_candidate).stop in
    second_most (point_count c.args.times.now) (travel_time c.args.times.now) c.args.times.now.table.times task c.requires.valid label s _
    (omega (arith, c.requires.small.free)) is.can is.second

pub label_after-next-requires-clause-seats : goal.label_after-next-requires-clause-seats
label_after-next-requires-clause-seats t c =
    let is = candidate_at (IsCandidate (travel_time c.args.times.now) c.args.task.now c.args.label.now) c.list_candidates.new.candidates.items
    c.as_slice-candidate-items.result.now c.loop-candidate.candidate-index c.as_slice-candidate-items.ensures.value c.loop-candidate-test.true
    c.list_candidates.ensures.each in
    is.can.2

pub is_hopeless-requires-clause-small : goal.is_hopeless-requires-clause-small
is_hopeless-requires-clause-small t c =
    let task = c.args.task.now in
    let label = c.args.label.now in
    let tau = travel_time c.args.times.now in
    let points = point_count c.args.times.now in
    let s = (get_or c.as_slice-candidate-items.result.now c.loop-candidate.candidate-index no_candidate).stop in
    let is = candidate_at (IsCandidate tau task label) c.list_candidates.new.candidates.items c.as_slice-candidate-items.result.now
    c.loop-candidate.candidate-index c.as_slice-candidate-items.ensures.value c.loop-candidate-test.true c.list_candidates.ensures.each in
    let same : c.label_after-next.result ≡ next_label tau task label s = c.label_after-next.ensures ∙ ap (λ n. label_at task label s n) is.second in
    let fall = left_count-falls (task_riders task) (task_passengers task) label.done c.requires.valid.rider_count s is.next in
    subst (λ l. IsSmallLabel points (left_count (task_riders task) (task_passengers task) l.done) l) (sym same)
    (small_next points tau c.args.times.now.table.times task c.requires.valid label s (left_count (task_riders task) (task_passengers task) label.done)
    (left_count (task_riders task) (task_passengers task) (with_stop label.done s)) c.requires.small fall is.next is.can)

pub loop-candidate-preserved-then-is_hopeless : goal.loop-candidate-preserved-then-is_hopeless
loop-candidate-preserved-then-is_hopeless t c =
    let task = c.args.task.now in
    let label = c.args.label.now in
    let tau = travel_time c.args.times.now in
    let points = point_count c.args.times.now in
    let time = c.args.times.now.table.times in
    let inv = c.loop-candidate.invariant in
    let best = c.loop-candidate.best in
    let labels = labels_of c.loop-candidate.store in
    let candidate = (get_or c.as_slice-candidate-items.result.now c.loop-candidate.candidate-index no_candidate) in
    let is = candidate_at (IsCandidate tau task label) c.list_candidates.new.candidates.items c.as_slice-candidate-items.result.now
    c.loop-candidate.candidate-index c.as_slice-candidate-items.ensures.value c.loop-candidate-test.true c.list_candidates.ensures.each in
    let s = candidate.stop in
    let same : c.label_after-next.result ≡ next_label tau task label s = c.label_after-next.ensures ∙ ap (λ n. label_at task label s n) is.second in
    let searched : Searched points tau task c.label_after-next.result best best labels = record
    { found = inv.found; good = λ d n. n; exhausted = c.is_hopeless.ensures c.if-is_hopeless.true; settled = inv.settled } in
    let tried = tried_exhausted points tau time task c.requires.valid label c.label_after-next.result candidate.stop best same searched.exhausted in
    tries_more points tau task label c.label_after-next.result c.args.path.now.items c.loop-candidate.path.items c.loop-candidate.path.items c.args.best.now
    best best labels labels
    c.as_slice-candidate-items.result.now c.loop-candidate.candidate-index candidate c.loop-candidate-test.true
    (read_again c.as_slice-candidate-items.result.now c.loop-candidate.candidate-index c.loop-candidate-test.true) inv.same searched tried inv

pub push-requires : goal.push-requires
push-requires t c =
    let task = c.args.task.now in
    let label = c.args.label.now in
    let is = candidate_at (IsCandidate (travel_time c.args.times.now) task label) c.list_candidates.new.candidates.items c.as_slice-candidate-items.result.now
    c.loop-candidate.candidate-index c.as_slice-candidate-items.ensures.value c.loop-candidate-test.true c.list_candidates.ensures.each in
    let fall = left_count-falls (task_riders task) (task_passengers task) label.done c.requires.valid.rider_count
    (get_or c.as_slice-candidate-items.result.now c.loop-candidate.candidate-index no_candidate).stop is.next in
    let same : length c.loop-candidate.path.items ≡ length c.args.path.now.items = ap length c.loop-candidate.invariant.same in
    let room : length c.loop-candidate.path.items < 22 = omega (arith, c.requires.room, fall, same) in
    (omega arith, room)

pub try_all-requires : goal.try_all-requires
try_all-requires t c =
    let task = c.args.task.now in
    let label = c.args.label.now in
    let tau = travel_time c.args.times.now in
    let points = point_count c.args.times.now in
    let time = c.args.times.now.table.times in
    let candidate = (get_or c.as_slice-candidate-items.result.now c.loop-candidate.candidate-index no_candidate) in
    let s = candidate.stop in
    let is = candidate_at (IsCandidate tau task label) c.list_candidates.new.candidates.items c.as_slice-candidate-items.result.now
    c.loop-candidate.candidate-index c.as_slice-candidate-items.ensures.value c.loop-candidate-test.true c.list_candidates.ensures.each in
    let same : c.label_after-next.result ≡ next_label tau task label s = c.label_after-next.ensures ∙ ap (λ n. label_at task label s n) is.second in
    let fall = left_count-falls (task_riders task) (task_passengers task) label.done c.requires.valid.rider_count s is.next in
    let pushed : c.push.new.self.items ≡ c.args.path.now.items ++ s ∷ [] = c.push.ensures.items ∙ ap (λ xs. xs ++ s ∷ []) c.loop-candidate.invariant.same in
    let longer : length c.push.new.self.items ≡ length c.args.path.now.items + 1 = ap length pushed ∙ length-append c.args.path.now.items (s ∷ []) in
    let left : left_count (task_riders task) (task_passengers task) c.label_after-next.result.done + 1 ≤ left_count (task_riders task) (task_passengers task)
    label.done =
    subst (λ l. left_count (task_riders task) (task_passengers task) l.done + 1 ≤ left_count (task_riders task) (task_passengers task) label.done) (sym same)
    fall in
    let measure = c.decreases in
    let less : left_count (task_riders task) (task_passengers task) c.label_after-next.result.done < t = omega (arith, left, measure) in
    let leads = leads_next points tau time task c.requires.valid label c.args.path.now.items s c.requires.leads is.next is.can in
    let small = small_next points tau time task c.requires.valid label s (left_count (task_riders task) (task_passengers task) label.done)
    (left_count (task_riders task) (task_passengers task) (with_stop label.done s)) c.requires.small fall is.next is.can in (
      less,
      (
        c.requires.valid,
        (
          subst (λ p. LeadsTo tau task p c.label_after-next.result) (sym pushed) (subst (λ l. LeadsTo tau task (c.args.path.now.items ++ s ∷ []) l) (sym same)
              leads),
          (
            subst (λ l. IsSmallLabel points (left_count (task_riders task) (task_passengers task) l.done) l) (sym same) small,
            (
              omega (arith, left, longer, c.requires.room),
              (c.loop-candidate.invariant.found, c.loop-candidate.invariant.settled),
            ),
          ),
        ),
      ),
    )

pub loop-candidate-preserved : goal.loop-candidate-preserved
loop-candidate-preserved t c =
    let task = c.args.task.now in
    let label = c.args.label.now in
    let tau = travel_time c.args.times.now in
    let points = point_count c.args.times.now in
    let path = c.args.path.now.items in
    let candidate = (get_or c.as_slice-candidate-items.result.now c.loop-candidate.candidate-index no_candidate) in
    let s = candidate.stop in
    let is = candidate_at (IsCandidate tau task label) c.list_candidates.new.candidates.items c.as_slice-candidate-items.result.now
    c.loop-candidate.candidate-index c.as_slice-candidate-items.ensures.value c.loop-candidate-test.true c.list_candidates.ensures.each in
    let same : c.label_after-next.result ≡ next_label tau task label s = c.label_after-next.ensures ∙ ap (λ n. label_at task label s n) is.second in
    let pushed : c.push.new.self.items ≡ path ++ s ∷ [] = c.push.ensures.items ∙ ap (λ xs. xs ++ s ∷ []) c.loop-candidate.invariant.same in
    let back = path_back path c.try_all.new.path.items c.pop.new.self.items s (c.in_ok-try_all.ensures.path ∙ pushed) c.pop.ensures.rest in
    let searched = c.in_ok-try_all.ensures.searched in
    let tried = tried_exhausted points tau c.args.times.now.table.times task c.requires.valid label c.label_after-next.result s c.try_all.new.best same
    searched.exhausted in
    tries_more points tau task label c.label_after-next.result path c.loop-candidate.path.items c.pop.new.self.items c.args.best.now c.loop-candidate.best
    c.try_all.new.best (labels_of c.loop-candidate.store) (labels_of c.try_all.new.store)
    c.as_slice-candidate-items.result.now c.loop-candidate.candidate-index candidate c.loop-candidate-test.true
    (read_again c.as_slice-candidate-items.result.now c.loop-candidate.candidate-index c.loop-candidate-test.true) back searched tried
    c.loop-candidate.invariant

pub returns-then-not-is_of_use-clause-searched : goal.returns-then-not-is_of_use-clause-searched
returns-then-not-is_of_use-clause-searched t c =
    let task = c.args.task.now in
    let label = c.args.label.now in
    let tau = travel_time c.args.times.now in
    let points = point_count c.args.times.now in
    let more = IsAllDone-not_at _ _ _ (task_riders task) (task_passengers task) label.done c.len.ensures.value c.len-2.ensures.value c.is_all.ensures
    c.if-is_all.false in
    let inv = c.loop-candidate.invariant in
    let best = c.loop-candidate.best in
    let tried = subst (λ xs. All (λ c. IsTried tau task best label c.stop) xs) (take_all c.loop-candidate.candidate-index c.as_slice-candidate-items.result.now
    c.loop-candidate-test.false ∙ c.as_slice-candidate-items.ensures.value) inv.tried in
    record {
      found = inv.found;
      good = inv.good;
      exhausted = exhausted_tried points tau c.args.times.now.table.times task c.requires.valid label best c.list_candidates.new.candidates.items more
          c.list_candidates.ensures tried;
      settled = inv.settled;
    }

pub returns-clause-searched : goal.returns-clause-searched
returns-clause-searched t c =
    let task = c.args.task.now in
    let label = c.args.label.now in
    let tau = travel_time c.args.times.now in
    let points = point_count c.args.times.now in
    let more = IsAllDone-not_at _ _ _ (task_riders task) (task_passengers task) label.done c.len.ensures.value c.len-2.ensures.value c.is_all.ensures
    c.if-is_all.false in
    let inv = c.loop-candidate.invariant in
    let best = c.loop-candidate.best in
    let tried = subst (λ xs. All (λ c. IsTried tau task best label c.stop) xs) (take_all c.loop-candidate.candidate-index c.as_slice-candidate-items.result.now
    c.loop-candidate-test.false ∙ c.as_slice-candidate-items.ensures.value) inv.tried in
    let exhausted = exhausted_tried points tau c.args.times.now.table.times task c.requires.valid label best c.list_candidates.new.candidates.items more
    c.list_candidates.ensures tried in
    let free : label.free ≤ 30000000000 = omega (arith, c.requires.small.free) in
    let placed : IsLabelPlaced points label = record { place = c.requires.small.place; free = free } in
    let settled : IsLabelDone points tau task best label = record { placed = placed; exhausted = exhausted } in
    on_ok c.keep.result (labels_of c.keep.new.self ≡ labels_of c.loop-candidate.store ++ label ∷ [])
    (Searched points tau task label c.args.best.now best (labels_of c.keep.new.self)) (λ e. record {
      found = inv.found;
      good = inv.good;
      exhausted = exhausted;
      settled = subst (λ ls. All (IsLabelDone points tau task best) ls) (sym e) (All-push (IsLabelDone points tau task best) (labels_of c.loop-candidate.store)
          label inv.settled settled);
    }) c.keep.ensures

pub returns-else-is_better-clause-searched : goal.returns-else-is_better-clause-searched
returns-else-is_better-clause-searched t c =
    let task = c.args.task.now in
    let all = IsAllDone-at _ _ (task_riders task) (task_passengers task) c.args.label.now.done c.len.ensures.value c.len-2.ensures.value
    (c.is_all.ensures.0 c.if-is_all.true) in
    let exhausted = exhausted_all (point_count c.args.times.now) (travel_time c.args.times.now) c.args.times.now.table.times c.args.task.now c.requires.valid
    c.args.label.now c.args.best.now all (c.is_better.ensures.0 c.if-is_better.false) in
    record { found = c.requires.found; good = λ d n. n; exhausted = exhausted; settled = c.requires.settled }

pub loop-candidate-init : goal.loop-candidate-init
loop-candidate-init t c = record {
  same = refl;
  found = c.requires.found;
  good = λ d n. n;
  settled = c.requires.settled;
  tried =
      λ k d h. absurd (omega (arith, h));
}

pub is_hopeless-requires-clause-valid : goal.is_hopeless-requires-clause-valid
is_hopeless-requires-clause-valid t c = c.requires.valid

pub returns-in_err-try_all-clause-path : goal.returns-in_err-try_all-clause-path
returns-in_err-try_all-clause-path t c = on_err c.from_residual.result _ c.from_residual.ensures.0

pub returns-in_err-try_all-clause-searched : goal.returns-in_err-try_all-clause-searched
returns-in_err-try_all-clause-searched t c = on_err c.from_residual.result _ c.from_residual.ensures.0

pub returns-clause-path : goal.returns-clause-path
returns-clause-path t c = on_ok c.keep.result _ (c.loop-candidate.path.items ≡ c.args.path.now.items) (λ _. c.loop-candidate.invariant.same) c.keep.ensures

pub list_candidates-requires-clause-valid : goal.list_candidates-requires-clause-valid
list_candidates-requires-clause-valid t c = c.requires.valid

pub bounds-candidate-items-candidate-index : goal.bounds-candidate-items-candidate-index
bounds-candidate-items-candidate-index t c = c.loop-candidate-test.true

pub label_after-next-requires-clause-few : goal.label_after-next-requires-clause-few
label_after-next-requires-clause-few t c = c.requires.valid.rider_count

pub label_after-next-requires-clause-fewer : goal.label_after-next-requires-clause-fewer
label_after-next-requires-clause-fewer t c = c.requires.valid.passenger_count

pub label_after-next-requires-clause-dwell : goal.label_after-next-requires-clause-dwell
label_after-next-requires-clause-dwell t c = c.requires.valid.dwell

pub label_after-next-requires-clause-room : goal.label_after-next-requires-clause-room
label_after-next-requires-clause-room t c = omega (arith, c.requires.small.room)

pub label_after-next-requires-clause-delay : goal.label_after-next-requires-clause-delay
label_after-next-requires-clause-delay t c = omega (arith, c.requires.small.delay)

pub is_hopeless-requires-clause-settled : goal.is_hopeless-requires-clause-settled
is_hopeless-requires-clause-settled t c = c.loop-candidate.invariant.settled
