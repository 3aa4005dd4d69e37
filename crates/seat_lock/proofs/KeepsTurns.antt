-- Each move keeps the lock's rule.
use Rattle.std.proofs.lemmas.Bool.Decides.{nat_tests}
use Rattle.std.proofs.Common.{
  rules,
  ◌≡◌,
  ◌≢◌,
  ℕ,
  zero,
  suc,
  ◌+◌,
  ◌%◌,
  ◌^◌,
  ◌<◌,
  ◌≤◌,
  ◌⊎◌,
  List,
  [],
  ◌∷◌,
  ◌++◌,
  length,
  drop,
  set,
  get_or,
  Option,
  Some,
  sym,
  refl,
  ap,
  ◌∙◌,
  subst,
  inl,
  inr,
  ⊎_elim,
  arith,
  le_refl,
  append-nil,
  length-append,
  mod-eq_of_lt,
}
use Rattle.seat_lock.proofs.Common.{
  drop-append_seam,
  some,
  none,
  some-injective,
  some-ne-none,
  dite,
  ℕ_discrete,
  get_elem?,
  State,
  Me,
  step,
  keeps,
  takes,
  gives,
  stepped,
  Allows,
  Splits,
  Joins,
  opening,
  Final,
  Seen,
  LoggedCall,
  View,
  Claim,
  Idle,
  Waiting,
  InTurn,
  calls_of,
  fresh_claims,
  first_claim,
  other_claims,
  with_stage,
  in_turn,
  lane_view,
  first_view,
  spent_view,
  lane_given,
  lanes_kept,
  lanes_joined,
  total,
  below,
  ticket_weight,
  lane_weight,
  IsInTurn,
  Claimed,
  Laned,
  Agrees,
  Sound,
  IsHome,
  IsOut,
  Kept,
  since,
  drew,
  LooksAt,
  looked,
  noted,
  gave_way,
  IsClosed,
  CanNote,
  CanServe,
}
use Rattle.std.proofs.Math.Nat.{mod-add-mod}
use Rattle.std.proofs.lemmas.List.{set-get_or}
use mathlib.Core.List.{append_assoc}
use Rattle.atomic_table.proofs.Lists.{at_set, at_snoc, at_longer, set_else, set_again, one_turn}
use Rattle.seat_lock.specs.declared.view.Stage.{Stage}
use Rattle.seat_lock.proofs.Totals.{
  total-set,
  total-append,
  term-le,
  terms-le,
  total-le,
  total-ext,
  at,
  at-same,
  below-past,
  below-hit,
  below-most,
  below-count,
  lane_weight-count,
  lane_weight-append,
  lane_weight-cut,
  length-fresh,
  fresh-most,
  fresh-within,
}
use Rattle.seat_lock.proofs.StageLemmas.{same_at, set_at, in_turn_weight, knows_on, idle_out, waiting_out}
use Rattle.seat_lock.proofs.Calls.{Claimed-push, Claimed-append, Laned-push}
use mathlib.Core.Option as maybe

module _ {B C R Root : Type 0} (root : B → Root) (log : B → List (LoggedCall C R)) (spare : B → ℕ) (start : B) (lanes : ℕ) where
  abbrev V : Type 0
  V = View B C R

  abbrev St : Type 0
  St = State (Option B) V

  abbrev M : Type 0
  M = Me (Option B) V

  abbrev Es : Type 0
  Es = List (LoggedCall C R)

  abbrev Homes : Type 0
  Homes = List (maybe.Option (Option B))

  abbrev Rule : St → Type 0
  Rule = Kept root log spare start lanes

  abbrev Slot : Es → Homes → List V → Type 0
  Slot es homes views = IsHome root log spare start es homes views ⊎ IsOut homes views

  each_set : (F : V → Type 0) (vs : List V) (id : ℕ) (w : V) → F w → ((j : ℕ) (u : V) → j ≢ id → get_elem? vs j ≡ some u → F u) → (j : ℕ) (u : V) →
      get_elem? (set vs id w) j ≡ some u → F u
  each_set F vs id w mine others j u e = ⊎_elim (λ (t : (j ≡ id) × (w ≡ u)). subst F t.1 mine)
      (λ (t : (j ≢ id) × (get_elem? vs j ≡ some u)). others j u t.0 t.1) (at_set vs id j w u e)

  -- a seat out of turn has a new view out of turn
  slot_stays : (es : Es) (homes : Homes) (views : List V) (id : ℕ) (v w : V) → get_elem? views id ≡ some v → ¬ IsInTurn v.stage → ¬ IsInTurn w.stage →
      Slot es homes views → Slot es homes (set views id w)
  slot_stays es homes views id v w here out out' (inl h) = inl record {
    value = h.value;
    lies = h.lies;
    sound = h.sound;
    nobody =
        each_set (λ u. ¬ IsInTurn u.stage) views id w out' (λ j u _ e. h.nobody j u e);
  }
  slot_stays es homes views id v w here out out' (inr h) = search (rules, set_else, same_at)

  -- a ticket stands in one view
  one_ticket : (s : St) → Rule s → (i j : ℕ) (v w : V) (x : ℕ) → get_elem? s.views i ≡ some v → get_elem? s.views j ≡ some w →
      ticket_weight (at x) v.stage ≡ 1 → ticket_weight (at x) w.stage ≡ 1 → i ≡ j
  one_ticket s r i j v w x a b p q = dite (ℕ_discrete i j) (λ e. e)
      (λ ne. let two = terms-le (λ (u : V). ticket_weight (at x) u.stage) s.views i j v w ne a b in let all = r.queue (at x) in let most =
      below-most x r.drawn in absurd (omega (arith, two, all, most, p, q)))

  -- a ticket out is a number from the one served on
  ticket_range : (s : St) (r : Rule s) (i : ℕ) (v : V) (x : ℕ) → get_elem? s.views i ≡ some v → ticket_weight (at x) v.stage ≡ 1 →
      (r.served ≤ x) × (x < r.drawn)
  ticket_range s r i v x a p = grind (arith, nat_tests, term-le, (below-most x), (below-hit x), (below-past x))

  -- no more tickets are out than there are lanes
  crowd : (s : St) (r : Rule s) → r.drawn ≤ r.served + 16
  crowd s r = let all = r.queue (λ _. 1) in let few = r.few in
      let fits = total-le (λ (u : V). ticket_weight (λ _. 1) u.stage) (λ u. length u.claims) s.views (λ j v e. (r.each_view j v e).queued) in
      let lane = total-ext (λ (u : V). lane_weight (λ _. 1) u.claims) (λ u. length u.claims) s.views (λ v. lane_weight-count v.claims) in
      let out = r.lanes_out (λ _. 1) in let fresh = lane_weight-count (fresh_claims {C = C} {R = R} 0 lanes) in let long = length-fresh C R 0 lanes in
      omega (arith, all, fits, lane, out, fresh, long, below-count r.served, below-count r.drawn)

  -- a seat that claims a lane is the only one to
  one_lane : (s : St) → Rule s → (i j : ℕ) (v w : V) (lane : ℕ) → get_elem? s.views i ≡ some v → get_elem? s.views j ≡ some w → i ≢ j →
      1 ≤ lane_weight (at lane) v.claims → lane_weight (at lane) w.claims ≡ 0
  one_lane s r i j v w lane a b ne p = let two = terms-le (λ (u : V). lane_weight (at lane) u.claims) s.views i j v w ne a b in let out =
      r.lanes_out (at lane) in let most = fresh-most C R lane 0 lanes in omega (arith, two, out, most, p)

  lane_below : (s : St) → Rule s → (i : ℕ) (v : V) (lane : ℕ) → get_elem? s.views i ≡ some v → 1 ≤ lane_weight (at lane) v.claims → lane < lanes
  lane_below s r i v lane a p = let one = term-le (λ (u : V). lane_weight (at lane) u.claims) s.views i v a in let out = r.lanes_out (at lane) in
      let inside : lane < 0 + lanes = fresh-within C R lane 0 lanes (omega (arith, one, out, p)) in omega arith

  -- a step that changes nothing
  still : (s : St) → Rule s → (i id : ℕ) (v : V) (cs : List (ℕ × Option B)) → get_elem? s.views id ≡ some v →
      Rule (stepped s i (get_or s.words i 0) id cs v keeps)
  still s r i id v cs here = subst (λ (z : List ℕ × List V). Rule record { words = z.0; homes = s.homes; views = z.1 })
      (λ k. (sym (set-get_or s.words i 0) k, sym (set_again s.views id v here) k)) r

  -- a sum over the views after one of them changed
  queue_set : (s : St) (r : Rule s) (id : ℕ) (v w : V) (h : ℕ → ℕ) → get_elem? s.views id ≡ some v
      → total (λ (u : V). ticket_weight h u.stage) (set s.views id w) + ticket_weight h v.stage + below h r.served ≡ below h r.drawn + ticket_weight h w.stage
  queue_set s r id v w h here = let moved = total-set (λ (u : V). ticket_weight h u.stage) s.views id v w here in let all =
      r.queue h in omega (arith, moved, all)

  lanes_set : (s : St) → Rule s → (id : ℕ) (v w : V) (h : ℕ → ℕ) → get_elem? s.views id ≡ some v
      → total (λ (u : V). lane_weight h u.claims) (set s.views id w) + lane_weight h v.claims ≡ lane_weight h (fresh_claims {C = C} {R = R} 0 lanes) +
      lane_weight h w.claims
  lanes_set s r id v w h here = let moved = total-set (λ (u : V). lane_weight h u.claims) s.views id v w here in let all =
      r.lanes_out h in omega (arith, moved, all)

  lanes_same : (s : St) → Rule s → (id : ℕ) (v w : V) (h : ℕ → ℕ) → get_elem? s.views id ≡ some v → lane_weight h w.claims ≡ lane_weight h v.claims
      → total (λ (u : V). lane_weight h u.claims) (set s.views id w) ≡ lane_weight h (fresh_claims {C = C} {R = R} 0 lanes)
  lanes_same s r id v w h here same = let t = lanes_set s r id v w h here in omega (arith, t, same)

  pub draws : (slots id : ℕ) (me : M) → me.0.stage ≡ Idle → 0 < length me.0.claims → Allows Rule slots id me 0 (λ n. (n + 1) % 2 ^ 64)
      (drew (step slots 0 1 0 none) me)
  draws slots id me idle claims s r wide here small = let v : V = me.0 in let w : V = with_stage (Waiting r.drawn) v in let fit = r.each_view id v here in (
    w,
    keeps,
    tt,
    record {
      drawn = suc r.drawn;
      served = r.served;
      entries = r.entries;
      few = r.few;
      words = ap (λ (ws : List ℕ). set ws 0 ((get_or ws 0 0 + 1) % 2 ^ 64)) r.words
          ∙ ap (λ (n : ℕ). n ∷ (r.served % 2 ^ 64) ∷ length r.entries ∷ []) (mod-add-mod r.drawn (2 ^ 64) 1 ∙
          ap (λ (n : ℕ). n % 2 ^ 64) (let e : r.drawn + 1 ≡ suc r.drawn = omega arith in e));
      short = r.short;
      laned = r.laned;
      queue = λ h. let moved = queue_set s r id v w h here in let none_before : ticket_weight h v.stage ≡ 0 =
          ap (ticket_weight h) idle in omega (arith, moved, none_before);
      lanes_out = λ h. lanes_same s r id v w h here refl;
      each_view = each_set (Agrees start r.served r.entries) s.views id w record {
        opened = fit.opened;
        behind = fit.behind;
        claimed = fit.claimed;
        knows =
            tt;
        queued = omega arith;
      } (λ j u _ e. r.each_view j u e);
      slot = slot_stays r.entries s.homes s.views id v w here (idle_out v.stage idle) (λ t. t) r.slot;
    },
    (r.drawn, sym (ap (λ (ws : List ℕ). get_or ws 0 0) r.words), refl),
  )

  -- the seat that sees its number takes the value
  comes : (slots id : ℕ) (me : M) (s : St) (r : Rule s) (x : ℕ) → me.0.stage ≡ Waiting x → 0 < length me.0.claims → me.1 ≡ [] → x ≡ r.served →
      get_elem? s.views id ≡ some me.0
      → (h : IsHome root log spare start r.entries s.homes s.views) → Rule (stepped s 1 (get_or s.words 1 0) id me.1
      (in_turn x r.entries (length r.entries) me.0) (takes 0 (Some h.value)))
  comes slots id me s r x st claims empty same here h = let v : V = me.0 in let w : V = in_turn x r.entries (length r.entries) v in let fit =
      r.each_view id v here in record {
        drawn = r.drawn;
        served = r.served;
        entries = r.entries;
        few = r.few;
        words = set-get_or s.words 1 0 ∙ r.words;
        short = r.short;
        laned = r.laned;
        queue = λ k. let moved = queue_set s r id v w k here in let before : ticket_weight k v.stage ≡ k x =
            ap (ticket_weight k) st in omega (arith, moved, before);
        lanes_out = λ k. lanes_same s r id v w k here refl;
        each_view = each_set (Agrees start r.served r.entries) s.views id w record {
          opened = fit.opened;
          behind = le_refl (length r.entries);
          claimed =
              fit.claimed;
          knows = (same, refl);
          queued = omega arith;
        } (λ j u _ e. r.each_view j u e);
        slot = inr record { lies = ap (λ (hs : Homes). set hs 0 none) h.lies; who = id; view = w; at = set_at s.views id v w here; turn = tt };
      }

  pub looks : (slots id : ℕ) (me : M) (x : ℕ) → me.0.stage ≡ Waiting x → 0 < length me.0.claims → me.1 ≡ [] →
      Allows Rule slots id me 1 (λ n. n) (looked root log spare (step slots 1 0 0 none) me)
  looks slots id me x st claims empty s r wide here small =
      let v : V = me.0 in
      let n_is : get_or s.words 1 0 ≡ r.served % 2 ^ 64 = ap (λ (ws : List ℕ). get_or ws 1 0) r.words in
      let mine : ticket_weight (at x) v.stage ≡ 1 = ap (ticket_weight (at x)) st ∙ at-same x x refl in
      let range = ticket_range s r id v x here mine in
      let near = crowd s r in
      let fit = r.each_view id v here in
      dite (ℕ_discrete (x % 2 ^ 64) (r.served % 2 ^ 64))
      (λ hit. let same : r.served ≡ x = one_turn r.served x (2 ^ 64) range.0 (omega (arith, range.1, near)) (sym hit) in
      ⊎_elim
      (λ (h : IsHome root log spare start r.entries s.homes s.views).
      let w : V = in_turn x r.entries (length r.entries) v in (
        w,
        takes 0 (Some h.value),
        ap (λ (hs : Homes). get_elem? hs 0) h.lies,
        comes slots id me s r x st claims empty (sym same) here h,
        subst (LooksAt root log spare me (get_or s.words 1 0) (w, (0, Some h.value) ∷ me.1)) (sym st) (
          (λ _. record {
            start = start;
            value = h.value;
            entries = r.entries;
            opened = fit.opened claims;
            sound = h.sound;
            short = r.short;
            behind =
                fit.behind;
            claimed = fit.claimed;
            now = ap (λ (c : List (ℕ × Option B)). (w, (0, Some h.value) ∷ c)) empty;
          }),
          λ miss. absurd (miss (hit ∙ sym n_is)),
        ),
      ))
      (λ (h : IsOut s.homes s.views).
      let other = r.each_view h.who h.view h.at in
      let theirs : ticket_weight (at r.served) h.view.stage ≡ 1 = in_turn_weight r.served r.entries h.view.stage h.turn other.knows in
      let ours : ticket_weight (at r.served) v.stage ≡ 1 = subst (λ (k : ℕ). ticket_weight (at k) v.stage ≡ 1) (sym same) mine in
      let me_too = one_ticket s r h.who id h.view v r.served h.at here theirs ours in
      absurd (waiting_out v.stage x st (subst (λ (u : V). IsInTurn u.stage) (same_at s.views id h.view v
      (subst (λ (k : ℕ). get_elem? s.views k ≡ some h.view) me_too h.at) here) h.turn)))
      r.slot)
      (λ miss. (
        v,
        keeps,
        tt,
        still s r 1 id v me.1 here,
        subst (LooksAt root log spare me (get_or s.words 1 0) me) (sym st) ((λ hit. absurd (miss (hit ∙ n_is))), λ _. refl),
      ))

  since-is : (a b : B) (es : Es) → log b ≡ log a ++ es → since log a b ≡ es
  since-is a b es e = ap (drop (length (log a))) e ∙ drop-append_seam (log a) es

  start_is : (a : B) → Some a ≡ Some start → a ≡ start
  start_is a e = cc

  -- only the seat in turn is in turn
  others_out : (s : St) (r : Rule s) (id : ℕ) (v : V) → get_elem? s.views id ≡ some v → ticket_weight (at r.served) v.stage ≡ 1 → (j : ℕ) (u : V) → j ≢ id →
      get_elem? s.views j ≡ some u → ¬ IsInTurn u.stage
  others_out s r id v here mine j u ne e t = ne (one_ticket s r j id u v r.served e here (in_turn_weight r.served r.entries u.stage t (r.each_view j u e).knows)
      mine)

  -- while a seat is in turn, the slot is out
  lies_out : (s : St) (r : Rule s) (id : ℕ) (v : V) → get_elem? s.views id ≡ some v → IsInTurn v.stage → s.homes ≡ none ∷ []
  lies_out s r id v here t = ⊎_elim (λ (h : IsHome root log spare start r.entries s.homes s.views). absurd (h.nobody id v here t))
      (λ (h : IsOut s.homes s.views). h.lies) r.slot

  -- the entry is noted: the log has it, at the end, as a call of the seat's lane
  note_kept : (s : St) (r : Rule s) (id : ℕ) (a b : B) (e : LoggedCall C R) (l seen x : ℕ) (calls : List (ℕ × LoggedCall C R)) (es : Es)
      (cs : List (ℕ × Option B))
      → get_elem? s.views id ≡ some (lane_view a l calls seen (InTurn x r.entries)) → since log a b ≡ r.entries ++ e ∷ [] → e.lane ≡ l → x ≡ r.served →
      a ≡ start → length (log b) < 2 ^ 63 → length (since log a b) ≤ length (log b)
      → Rule (stepped s 2 ((get_or s.words 2 0 + 1) % 2 ^ 64) id cs (lane_view a l (calls_of l (since log a b)) (length (since log a b))
      (InTurn x (since log a b))) keeps)
  note_kept s r id a b e l seen x calls es cs here grown is same began short within =
      let v : V = lane_view a l calls seen (InTurn x r.entries) in
      let now : Es = since log a b in
      let w : V = lane_view a l (calls_of l now) (length now) (InTurn x now) in
      let fit = r.each_view id v here in
      let longer : length now ≡ length r.entries + 1 = ap length grown ∙ length-append r.entries (e ∷ []) in
      let mine : ticket_weight (at r.served) v.stage ≡ 1 = at-same r.served x same in
      let lane_mine : lane_weight (at l) v.claims ≡ 1 = (let z : at l l ≡ 1 = at-same l l refl in omega arith) in
      let lane_in : l < lanes = lane_below s r id v l here (omega arith) in record {
        drawn = r.drawn;
        served = r.served;
        entries = now;
        few = r.few;
        words = ap (λ (ws : List ℕ). set ws 2 ((get_or ws 2 0 + 1) % 2 ^ 64)) r.words
            ∙ ap (λ (n : ℕ). (r.drawn % 2 ^ 64) ∷ (r.served % 2 ^ 64) ∷ n ∷ []) (mod-eq_of_lt (omega (arith, r.short)) ∙ sym longer);
        short = omega arith;
        laned = subst (Laned lanes) (sym grown) (Laned-push lanes r.entries e r.laned (subst (λ (k : ℕ). k < lanes) (sym is) lane_in));
        queue = λ k. let moved = queue_set s r id v w k here in omega (arith, moved);
        lanes_out = λ k. lanes_same s r id v w k here refl;
        each_view = each_set (Agrees start r.served now) s.views id w
            record { opened = λ _. ap Some began; behind = le_refl (length now); claimed = (refl, tt); knows = (same, refl); queued = omega arith }
            (λ j u ne at_j. let other = r.each_view j u at_j in record {
              opened = other.opened;
              behind = (let z : u.seen ≤ length r.entries = other.behind in omega arith);
              claimed = subst (λ (k : Es). Claimed k u.claims) (sym grown) (Claimed-push l r.entries e u.claims is
                  (one_lane s r id j v u l here at_j (λ eq. ne (sym eq)) (omega arith)) other.claimed);
              knows = knows_on r.served r.served r.entries now u.stage (others_out s r id v here mine j u ne at_j) other.knows;
              queued = other.queued;
            });
        slot = inr record { lies = lies_out s r id v here tt; who = id; view = w; at = set_at s.views id v w here; turn = tt };
      }

  pub notes : (slots id : ℕ) (a b : B) (e : LoggedCall C R) (l seen x : ℕ) (calls : List (ℕ × LoggedCall C R)) (es : Es) → log b ≡ (log a ++ es) ++ e ∷ [] →
      e.lane ≡ l → length (log b) < 2 ^ 63
      → Allows Rule slots id (lane_view a l calls seen (InTurn x es), (0, Some b) ∷ []) 2 (λ n. (n + 1) % 2 ^ 64)
      (noted log (step slots 2 1 0 none) (lane_view a l calls seen (InTurn x es), (0, Some b) ∷ []))
  notes slots id a b e l seen x calls es grown is short s r wide here small =
      let v : V = lane_view a l calls seen (InTurn x es) in
      let fit = r.each_view id v here in
      let began : a ≡ start = start_is a (fit.opened (omega arith)) in
      let known : es ≡ r.entries = fit.knows.1 in
      let now : Es = since log a b in
      let whole : log b ≡ log a ++ (es ++ e ∷ []) = grown ∙ append_assoc (log a) es (e ∷ []) in
      let more : now ≡ es ++ e ∷ [] = since-is a b (es ++ e ∷ []) whole in
      let long = ap length whole ∙ length-append (log a) (es ++ e ∷ []) in
      let within : length now ≤ length (log b) = omega (arith, long, ap length more) in (
        lane_view a l (calls_of l now) (length now) (InTurn x now),
        keeps,
        tt,
        note_kept s r id a b e l seen x calls es ((0, Some b) ∷ []) (subst (λ (k : Es). get_elem? s.views id ≡ some (lane_view a l calls seen (InTurn x k)))
            known here) (more ∙ ap (λ (k : Es). k ++ e ∷ []) known) is fit.knows.0 began short within,
        (ap (λ (ws : List ℕ). get_or ws 2 0) r.words ∙ ap length (sym known), refl),
      )

  pub serves : (slots id : ℕ) (a b : B) (l seen x : ℕ) (calls : List (ℕ × LoggedCall C R)) (es : Es) → Sound root log spare a es b
      → Allows Rule slots id (lane_view a l calls seen (InTurn x es), (0, Some b) ∷ []) 1 (λ n. (n + 1) % 2 ^ 64)
      (gave_way (step slots 1 1 0 none) (lane_view a l calls seen (InTurn x es), (0, Some b) ∷ []))
  serves slots id a b l seen x calls es good s r wide here small =
      let v : V = lane_view a l calls seen (InTurn x es) in
      let w : V = lane_view a l calls seen Idle in
      let fit = r.each_view id v here in
      let began : a ≡ start = start_is a (fit.opened (omega arith)) in
      let known : es ≡ r.entries = fit.knows.1 in
      let same : x ≡ r.served = fit.knows.0 in
      let mine : ticket_weight (at r.served) v.stage ≡ 1 = at-same r.served x same in
      let out = others_out s r id v here mine in (
        w,
        gives,
        tt,
        record {
          drawn = r.drawn;
          served = suc r.served;
          entries = r.entries;
          few = r.few;
          words = ap (λ (ws : List ℕ). set ws 1 ((get_or ws 1 0 + 1) % 2 ^ 64)) r.words
              ∙ ap (λ (n : ℕ). (r.drawn % 2 ^ 64) ∷ n ∷ length r.entries ∷ []) (mod-add-mod r.served (2 ^ 64) 1 ∙
              ap (λ (n : ℕ). n % 2 ^ 64) (let e : r.served + 1 ≡ suc r.served = omega arith in e));
          short = r.short;
          laned = r.laned;
          queue = λ k. let moved = queue_set s r id v w k here in let at_x : k x ≡ k r.served = ap k same in omega (arith, moved, at_x);
          lanes_out = λ k. lanes_same s r id v w k here refl;
          each_view = each_set (Agrees start (suc r.served) r.entries) s.views id w record {
            opened = fit.opened;
            behind = fit.behind;
            claimed =
                fit.claimed;
            knows = tt;
            queued = omega arith;
          }
              (λ j u ne at_j. let other = r.each_view j u at_j in record {
                opened = other.opened;
                behind = other.behind;
                claimed = other.claimed;
                knows =
                    knows_on r.served (suc r.served) r.entries r.entries u.stage (out j u ne at_j) other.knows;
                queued = other.queued;
              });
          slot = inl record {
            value = b;
            lies = ap (λ (hs : Homes). set hs 0 (some (Some b))) (lies_out s r id v here tt);
            sound = subst (λ (k : B × Es). Sound root log spare k.0 k.1 b) (λ i. (began i, known i)) good;
            nobody = each_set (λ u. ¬ IsInTurn u.stage) s.views id w (λ t. t) out;
          };
        },
        refl,
      )

  -- the same two, at the view that the code has
  pub notes_as : (slots id : ℕ) (me : M) → CanNote log me → Allows Rule slots id me 2 (λ n. (n + 1) % 2 ^ 64) (noted log (step slots 2 1 0 none) me)
  notes_as slots id me n = subst (λ (m : M). Allows Rule slots id m 2 (λ k. (k + 1) % 2 ^ 64) (noted log (step slots 2 1 0 none) m)) (sym n.is)
      (notes slots id n.start n.value n.last n.lane n.seen n.ticket n.calls n.entries n.grown n.own n.short)

  pub serves_as : (slots id : ℕ) (me : M) → CanServe root log spare me → Allows Rule slots id me 1 (λ n. (n + 1) % 2 ^ 64) (gave_way (step slots 1 1 0 none) me)
  serves_as slots id me n = subst (λ (m : M). Allows Rule slots id m 1 (λ k. (k + 1) % 2 ^ 64) (gave_way (step slots 1 1 0 none) m)) (sym n.is)
      (serves slots id n.start n.value n.lane n.seen n.ticket n.calls n.entries n.sound)

  pub cuts : (id : ℕ) (v : V) → v.stage ≡ Idle → Splits Rule id v (lanes_kept v) (lane_given v)
  cuts id v idle s r here =
      let left : V = lanes_kept v in
      let right : V = lane_given v in
      let fit = r.each_view id v here in
      let views : List V = set s.views id left in
      let none_held : (h : ℕ → ℕ) → ticket_weight h v.stage ≡ 0 = λ h. ap (ticket_weight h) idle in
      let parted : Claimed r.entries (first_claim v.claims) × Claimed r.entries (other_claims v.claims) = parts r.entries v.claims fit.claimed in
      let sizes = lane_weight-cut (λ _. 1) v.claims in
      record {
        drawn = r.drawn;
        served = r.served;
        entries = r.entries;
        few = r.few;
        words = r.words;
        short = r.short;
        laned = r.laned;
        queue = λ h. let all = total-append (λ (u : V). ticket_weight h u.stage) views (right ∷ []) in let moved =
            queue_set s r id v left h here in let idle_both = none_held h in omega (arith, all, moved, idle_both);
        lanes_out = λ h. let all = total-append (λ (u : V). lane_weight h u.claims) views (right ∷ []) in let moved =
            lanes_set s r id v left h here in let cut = lane_weight-cut h v.claims in omega (arith, all, moved, cut);
        each_view = λ j u e. ⊎_elim
            (each_set (Agrees start r.served r.entries) s.views id left record {
              opened = λ some_one. fit.opened (fewer v.claims some_one);
              behind =
                  fit.behind;
              claimed = parted.1;
              knows = fit.knows;
              queued = omega (arith, none_held (λ _. 1));
            } (λ i y _ at_i. r.each_view i y at_i) j u)
            (λ (t : right ≡ u). subst (Agrees start r.served r.entries) t record {
              opened = λ some_one. fit.opened (some_first v.claims some_one);
              behind =
                  fit.behind;
              claimed = parted.0;
              knows = fit.knows;
              queued = omega (arith, none_held (λ _. 1));
            })
            (at_snoc views right u j e);
        slot = ⊎_elim
            (λ (h : IsHome root log spare start r.entries s.homes views). inl record {
              value = h.value;
              lies = h.lies;
              sound = h.sound;
              nobody =
                  λ j u e. ⊎_elim (h.nobody j u) (λ (t : right ≡ u). subst (λ (y : V). ¬ IsInTurn y.stage) t (idle_out v.stage idle))
                  (at_snoc views right u j e);
            })
            (λ (h : IsOut s.homes views). inr record {
              lies = h.lies;
              who = h.who;
              view = h.view;
              at = at_longer views (right ∷ []) h.who h.view h.at;
              turn =
                  h.turn;
            })
            (slot_stays r.entries s.homes s.views id v left here (idle_out v.stage idle) (idle_out v.stage idle) r.slot);
      }
    where
      parts : (es : Es) (claims : List (Claim C R)) → Claimed es claims → Claimed es (first_claim claims) × Claimed es (other_claims claims)
      parts es [] k = (tt, tt)
      parts es (c ∷ cs) k = ((k.0, tt), k.1)

      fewer : (claims : List (Claim C R)) → 0 < length (other_claims claims) → 0 < length claims
      fewer [] h = h
      fewer (c ∷ cs) h = omega arith

      some_first : (claims : List (Claim C R)) → 0 < length (first_claim claims) → 0 < length claims
      some_first [] h = h
      some_first (c ∷ cs) h = omega arith

  pub glues : (id : ℕ) (v : V) (other : ℕ) (w : V) → v.stage ≡ Idle → w.stage ≡ Idle → 0 < length v.claims →
      Joins Rule id v other w (lanes_joined v w) spent_view
  glues id v other w idle idle' some_claim s r here apart there =
      let both : V = lanes_joined v w in
      let views : List V = set s.views id both in
      let was : get_elem? s.views other ≡ some w = sym (set_else s.views id other both apart) ∙ there in
      let fit = r.each_view id v here in
      let fit' = r.each_view other w was in
      let zero_v : (h : ℕ → ℕ) → ticket_weight h v.stage ≡ 0 = λ h. ap (ticket_weight h) idle in
      let zero_w : (h : ℕ → ℕ) → ticket_weight h w.stage ≡ 0 = λ h. ap (ticket_weight h) idle' in
      record {
        drawn = r.drawn;
        served = r.served;
        entries = r.entries;
        few = r.few;
        words = r.words;
        short = r.short;
        laned = r.laned;
        queue = λ h. let moved = total-set (λ (u : V). ticket_weight h u.stage) views other w spent_view there in let before =
            queue_set s r id v both h here in let a = zero_v h in let b = zero_w h in omega (arith, moved, before, a, b);
        lanes_out = λ h. let moved = total-set (λ (u : V). lane_weight h u.claims) views other w spent_view there in let before =
            lanes_set s r id v both h here in let sum = lane_weight-append h w.claims v.claims in omega (arith, moved, before, sum);
        each_view = each_set (Agrees start r.served r.entries) views other spent_view record
            { opened = λ some_one. absurd (omega arith); behind = omega arith; claimed = tt; knows = tt; queued = omega arith }
            (λ j u _ e. each_set (Agrees start r.served r.entries) s.views id both
            record {
              opened = λ _. fit.opened some_claim;
              behind = fit.behind;
              claimed = Claimed-append r.entries w.claims v.claims fit'.claimed fit.claimed;
              knows = fit.knows;
              queued = omega (arith, zero_v (λ _. 1));
            }
            (λ i y _ at_i. r.each_view i y at_i) j u e);
        slot = slot_stays r.entries s.homes views other w spent_view there (idle_out w.stage idle') (λ t. t)
            (slot_stays r.entries s.homes s.views id v both here (idle_out v.stage idle) (idle_out v.stage idle) r.slot);
      }

  pub begins : 0 < lanes → lanes ≤ 16 → Rule (opening (0 ∷ 0 ∷ 0 ∷ []) (Some start ∷ []) (first_view start lanes))
  begins some_lane few = record {
    drawn = 0;
    served = 0;
    entries = [];
    few = few;
    words = refl;
    short = omega arith;
    laned = tt;
    queue = λ h. refl;
    lanes_out = λ h. (let z : lane_weight h (fresh_claims {C = C} {R = R} 0 lanes) + 0 ≡ lane_weight h (fresh_claims {C = C} {R = R} 0 lanes) =
        omega arith in z);
    each_view = λ j v e. only (Agrees start 0 []) (first_view start lanes) j v record {
      opened = λ _. refl;
      behind = omega arith;
      claimed =
          none_made 0 lanes;
      knows = tt;
      queued = omega arith;
    } e;
    slot = inl record {
      value = start;
      lies = refl;
      sound = record { rooted = refl; logged = sym (append-nil (log start)); roomy = omega arith };
      nobody =
          λ j v e. only (λ u. ¬ IsInTurn u.stage) (first_view start lanes) j v (λ t. t) e;
    };
  }
    where
      only : (F : V → Type 0) (w : V) (j : ℕ) (v : V) → F w → get_elem? (w ∷ []) j ≡ some v → F v
      only F w zero v f e = subst F (some-injective w v e) f
      only F w (suc j) v f e = absurd (some-ne-none v (sym e))

      none_made : (from n : ℕ) → Claimed {C = C} {R = R} [] (fresh_claims from n)
      none_made from zero = tt
      none_made from (suc n) = (refl, none_made (suc from) n)

  -- what a seat that claims every lane finds when the table is closed
  pub record Closes (v : V) (xs : List (Option B)) : Type 0 where
    pub value : B
    pub lies : get_elem? xs 0 ≡ some (Some value)
    pub entries : Es
    pub sound : Sound root log spare start entries value
    pub claimed : Claimed entries v.claims
    pub laned : Laned lanes entries

  pub closes : (v : V) (xs : List (Option B)) (r : Option B) (b : B) → Closes v xs → get_elem? xs 0 ≡ some r → r ≡ Some b →
      IsClosed root log start lanes v.claims b
  closes v xs r b e at_zero is = search rules

  pub ends : (id : ℕ) (v : V) (ws : List ℕ) (xs : List (Option B)) → v.stage ≡ Idle → length v.claims ≡ lanes → Final (Seen Rule id v) ws xs → Closes v xs
  ends id v ws xs idle every (s, seen, is, wide, values) =
      let r = seen.0 in
      let here = seen.1 in
      ⊎_elim
      (λ (h : IsHome root log spare start r.entries s.homes s.views). record {
        value = h.value;
        lies =
            values 0 (Some h.value) (ap (λ (hs : Homes). get_elem? hs 0) h.lies);
        entries = r.entries;
        sound = h.sound;
        claimed =
            (r.each_view id v here).claimed;
        laned = r.laned;
      })
      (λ (h : IsOut s.homes s.views).
      let fit = r.each_view h.who h.view h.at in
      let apart : id ≢ h.who = λ same. idle_out v.stage idle (subst (λ (u : V). IsInTurn u.stage)
      (same_at s.views id h.view v (subst (λ (k : ℕ). get_elem? s.views k ≡ some h.view) (sym same) h.at) here) h.turn) in
      let two = terms-le (λ (u : V). lane_weight (λ _. 1) u.claims) s.views id h.who v h.view apart here h.at in
      let all = r.lanes_out (λ _. 1) in
      let mine = lane_weight-count v.claims in
      let theirs = lane_weight-count h.view.claims in
      let fresh = lane_weight-count (fresh_claims {C = C} {R = R} 0 lanes) in
      let long = length-fresh C R 0 lanes in
      let one = in_turn_one h.view.stage h.turn in
      absurd (omega (arith, two, all, mine, theirs, fresh, long, one, fit.queued, every)))
      r.slot
    where
      in_turn_one : (st : Stage C R) → IsInTurn st → ticket_weight (λ _. 1) st ≡ 1
      in_turn_one (InTurn x l) t = refl
      in_turn_one _ t = absurd t
