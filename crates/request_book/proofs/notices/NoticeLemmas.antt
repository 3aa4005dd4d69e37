-- The notices of a journal, one after the other.
use Rattle.std.proofs.Common.{
  ◌≡◌,
  ℕ,
  ◌+◌,
  ◌<◌,
  ◌≤◌,
  Bool,
  true,
  false,
  cond,
  List,
  [],
  ◌∷◌,
  ◌++◌,
  length,
  get_or,
  map,
  take,
  drop,
  Some,
  None,
  refl,
  sym,
  ap,
  subst,
  ◌∙◌,
  append_assoc,
}
use Rattle.std.specs.Prelude.{filter, unwrap_or}
use Rattle.std.proofs.lemmas.List.{append-nil, drop_all, at_drop_more, map-append}
use Rattle.std.proofs.lemmas.List.Elements.{filter_more}
use Rattle.request_book.specs.register.Step.{step}
use Rattle.request_book.specs.declared.values.journal.Entry.{Entry}
use Rattle.request_book.specs.declared.values.outcome.ChosenTrip.{ChosenTrip}
use Rattle.request_book.specs.declared.values.reply.Reply.{Reply}
use Rattle.request_book.specs.declared.values.state.State.{State}
use Rattle.request_book.specs.notices.Notices.{notice_of, trip_notice, entry_notices, notices_from}
use Rattle.request_book.specs.declared.notices.notice.Notice.{Notice}
use Rattle.request_book.specs.declared.notices.notice.Notice.TheVariants.{Unserved}

module _ (batch : ℕ) (chosen : List ChosenTrip) (rider : ℕ) where
  at_trip : (i : ℕ) (x : ChosenTrip) → i < length chosen → x ≡ get_or chosen i x
      → notice_of batch (drop i chosen) rider ≡ unwrap_or (trip_notice batch x rider) (notice_of batch (drop (i + 1) chosen) rider)
  unfolding notice_of
  at_trip i x within is =
      at_drop_more (λ trips. notice_of batch trips rider) chosen i x within
      ∙ ap (λ trip. unwrap_or (trip_notice batch trip rider) (notice_of batch (drop (i + 1) chosen) rider)) (sym is)

  -- the trip picks the rider up, or doesn't
  pub notice-here : (i : ℕ) (x : ChosenTrip) (n : Notice) → i < length chosen → x ≡ get_or chosen i x → trip_notice batch x rider ≡ Some n
      → notice_of batch (drop i chosen) rider ≡ n
  notice-here i x n within is some = at_trip i x within is ∙ ap (λ o. unwrap_or o (notice_of batch (drop (i + 1) chosen) rider)) some

  pub notice-next : (i : ℕ) (x : ChosenTrip) → i < length chosen → x ≡ get_or chosen i x → trip_notice batch x rider ≡ None
      → notice_of batch (drop (i + 1) chosen) rider ≡ notice_of batch (drop i chosen) rider
  notice-next i x within is none = sym (at_trip i x within is ∙ ap (λ o. unwrap_or o (notice_of batch (drop (i + 1) chosen) rider)) none)

  pub notice-none : (i : ℕ) → length chosen ≤ i → notice_of batch (drop i chosen) rider ≡ Unserved batch rider
  unfolding notice_of
  notice-none i end = ap (λ trips. notice_of batch trips rider) (drop_all i chosen end)

-- one more entry
pub notices-more : (nodes : List ℕ) (wait : ℕ) (s : State) (es : List Entry) (i : ℕ) (e : Entry) → i < length es → e ≡ get_or es i e
    → notices_from nodes wait s (drop i es) ≡ entry_notices s e.command e.reply ++ notices_from nodes wait (step nodes wait s e.command).0 (drop (i + 1) es)
unfolding notices_from
notices-more nodes wait s es i e within is =
    at_drop_more (notices_from nodes wait s) es i e within
    ∙ ap (λ x. entry_notices s x.command x.reply ++ notices_from nodes wait (step nodes wait s x.command).0 (drop (i + 1) es)) (sym is)

-- the notices of the entries so far, with those of one more
pub told-next : (nodes : List ℕ) (wait : ℕ) (s next : State) (reply : Reply) (es : List Entry) (i : ℕ) (e : Entry) (told more all : List Notice)
    → i < length es → e ≡ get_or es i e → more ≡ told ++ entry_notices s e.command e.reply
    → (next, reply) ≡ step nodes wait s e.command → told ++ notices_from nodes wait s (drop i es) ≡ all
    → more ++ notices_from nodes wait next (drop (i + 1) es) ≡ all
told-next nodes wait s next reply es i e told more all within is adds stepped h =
    let stepped_to : next ≡ (step nodes wait s e.command).0 = ap (λ p. p.0) stepped in
    rw (adds, append_assoc, stepped_to, ← notices-more nodes wait s es i e within is) h

pub told-end : (nodes : List ℕ) (wait : ℕ) (s : State) (es : List Entry) (i : ℕ) (told all : List Notice) → length es ≤ i →
    told ++ notices_from nodes wait s (drop i es) ≡ all → told ≡ all
unfolding notices_from
told-end nodes wait s es i told all end h = sym (ap (λ xs. told ++ notices_from nodes wait s xs) (drop_all i es end) ∙ append-nil told) ∙ h

-- one item more of what is told of those items that are asked for
pub noted-next : {X Y : Type 0} (p : X → Bool) (f : X → Y) (xs : List X) (i : ℕ) (x : X) (first told now : List Y) → i < length xs → x ≡ get_or xs i x
    → told ≡ first ++ map f (filter p (take i xs)) → now ≡ told ++ cond (p x) (f x ∷ []) [] → now ≡ first ++ map f (filter p (take (i + 1) xs))
noted-next {X} p f xs i x first told now below read so_far more = by
  where
    one : (b : Bool) (y : X) → map f (cond b (y ∷ []) []) ≡ cond b (f y ∷ []) []
    one true y = refl
    one false y = refl

    longer : filter p (take (i + 1) xs) ≡ filter p (take i xs) ++ cond (p x) (x ∷ []) []
    longer = subst (λ (y : X). filter p (take (i + 1) xs) ≡ filter p (take i xs) ++ cond (p y) (y ∷ []) []) (sym read) (filter_more p xs i x below)

    by : now ≡ first ++ map f (filter p (take (i + 1) xs))
    by = more ∙ rw (so_far, longer, map-append f (filter p (take i xs)) (cond (p x) (x ∷ []) []), one (p x) x)
        (append_assoc first (map f (filter p (take i xs))) (cond (p x) (f x ∷ []) []))
