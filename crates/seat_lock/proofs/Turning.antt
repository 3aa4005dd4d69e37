-- What a seat knows in the course of a turn.
use Rattle.std.proofs.Common.{
  rules,
  arith,
  ◌≡◌,
  ℕ,
  ◌+◌,
  ◌≤◌,
  Bool,
  true,
  false,
  IsTrue,
  IsFalse,
  List,
  [],
  ◌∷◌,
  ◌++◌,
  length,
  length-append,
  Option,
  Some,
  None,
  refl,
  sym,
  ap,
  ◌∙◌,
  subst,
}
use Rattle.seat_lock.proofs.Common.{
  drop-append_seam,
  Me,
  rest,
  LoggedCall,
  View,
  Idle,
  Waiting,
  InTurn,
  calls_of,
  claim,
  calls_in,
  with_stage,
  in_turn,
  lane_view,
  since,
  held,
  NotesAt,
  Sound,
}
use mathlib.Core.List.{append_assoc}
use Rattle.seat_lock.proofs.Calls.{calls-own}

-- a seat holds one value
pub same_held : {B : Type 0} (xs : List (ℕ × Option B)) (a b : B) → xs ≡ (0, Some a) ∷ [] → xs ≡ (0, Some b) ∷ [] → a ≡ b
same_held xs a b p q = let both : Some a ≡ Some b = sym (ap held p) ∙ ap held q in cc

module _ {B C R : Type 0} where
  -- the view of the lane's seat, once its turn has come and the value is back in the slot
  pub back_in_slot : (v : View B C R) (m1 m2 m3 m4 : Me (Option B) (View B C R)) (start value after : B) (lane x0 x : ℕ) (calls : List (ℕ × LoggedCall C R))
      (entries : List (LoggedCall C R)) (cs : List (ℕ × Option B))
      → m1 ≡ (with_stage (Waiting x0) v, cs) → v.claims ≡ claim lane calls ∷ [] → m1.0.start ≡ Some start →
      m2 ≡ (in_turn x entries (length entries) m1.0, (0, Some value) ∷ []) → m3 ≡ (m2.0, (0, None) ∷ []) → m4 ≡ (m3.0, (0, Some after) ∷ [])
      → m4 ≡ (lane_view start lane calls (length entries) (InTurn x entries), (0, Some after) ∷ [])
  back_in_slot v m1 m2 m3 m4 start value after lane x0 x calls entries cs waits claims opened turn out back = search rules

  -- what the seat knows of a log that has grown by one entry
  since-grown : (log : B → List (LoggedCall C R)) (start b : B) (entries : List (LoggedCall C R)) (e : LoggedCall C R) →
      log b ≡ (log start ++ entries) ++ e ∷ [] → since log start b ≡ entries ++ e ∷ []
  since-grown log start b entries e grown = ap (Rattle.std.proofs.Common.drop (length (log start))) (grown ∙ append_assoc (log start) entries (e ∷ [])) ∙
      drop-append_seam (log start) (entries ++ e ∷ [])

  -- the position that was found, and what the seat knows once the entry of the value in the slot is noted
  pub noted_is : (log : B → List (LoggedCall C R)) (start b : B) (m4 m5 : Me (Option B) (View B C R)) (lane seen x position : ℕ)
      (calls : List (ℕ × LoggedCall C R)) (entries : List (LoggedCall C R)) (e : LoggedCall C R)
      → m4 ≡ (lane_view start lane calls seen (InTurn x entries), (0, Some b) ∷ []) → NotesAt log m4.0.start (held m4.1) m4.0.claims m4.0.stage position m5 →
      log b ≡ (log start ++ entries) ++ e ∷ []
      → (position ≡ length entries) × (m5 ≡ (
        lane_view start lane (calls_of lane (entries ++ e ∷ [])) (length (entries ++ e ∷ []))
            (InTurn x (entries ++ e ∷ [])),
        (0, Some b) ∷ [],
      ))
  noted_is log start b m4 m5 lane seen x position calls entries e is noted grown =
      let n = subst (λ (m : Me (Option B) (View B C R)). NotesAt log m.0.start (held m.1) m.0.claims m.0.stage position m5) is noted in (
        n.0,
        n.1 ∙ ap (λ (l : List (LoggedCall C R)). (lane_view start lane (calls_of lane l) (length l) (InTurn x l), (0, Some b) ∷ []))
            (since-grown log start b entries e grown),
      )

  -- the pass has the call at the position that was found
  pub calls_grown : (m5 m6 : Me (Option B) (View B C R)) (start b : B) (lane x position : ℕ) (calls : List (ℕ × LoggedCall C R))
      (entries : List (LoggedCall C R)) (e : LoggedCall C R)
      → (position ≡ length entries) × (m5 ≡ (
        lane_view start lane (calls_of lane (entries ++ e ∷ [])) (length (entries ++ e ∷ []))
            (InTurn x (entries ++ e ∷ [])),
        (0, Some b) ∷ [],
      )) → m6 ≡ (with_stage Idle m5.0, rest m5.1)
      → e.lane ≡ lane → calls ≡ calls_of lane entries → (calls_in m6.0.claims ≡ calls ++ (position, e) ∷ []) × (m6.0.seen ≡ position + 1)
  calls_grown m5 m6 start b lane x position calls entries e noted served own known = (
    ap (λ (m : Me (Option B) (View B C R)). calls_in m.0.claims) served ∙ ap (λ (m : Me (Option B) (View B C R)). calls_in m.0.claims) noted.1 ∙
        calls-own lane entries e own ∙ sym (λ i. known i ++ (noted.0 i, e) ∷ []),
    ap (λ (m : Me (Option B) (View B C R)). m.0.seen) served ∙ ap (λ (m : Me (Option B) (View B C R)). m.0.seen) noted.1 ∙
        omega (arith, length-append entries (e ∷ []), noted.0),
  )

module _ {B C R Root : Type 0} (root : B → Root) (log : B → List (LoggedCall C R)) (spare : B → ℕ) where
  -- a call that was refused leaves the value sound
  pub stays_sound : (start value took after : B) (entries : List (LoggedCall C R)) → took ≡ value → Sound root log spare start entries value →
      root after ≡ root took → log after ≡ log took → spare took ≤ spare after → Sound root log spare start entries after
  stays_sound start value took after entries same sound r l room =
      let s = subst (Sound root log spare start entries) (sym same) sound in record {
        rooted = r ∙ s.rooted;
        logged = l ∙ s.logged;
        roomy =
            omega (arith, s.roomy, room);
      }

  -- and one that was played gives it an entry more
  pub grows_sound : (start value took after : B) (entries : List (LoggedCall C R)) (e : LoggedCall C R) (light : Bool) → took ≡ value →
      Sound root log spare start entries value → root after ≡ root took → log after ≡ log took ++ e ∷ []
      → (IsTrue light → spare took ≤ spare after + 1) → (IsFalse light → spare took ≤ spare after) → Sound root log spare start (entries ++ e ∷ []) after
  grows_sound start value took after entries e light same sound r l spends heavy =
      let s = subst (Sound root log spare start entries) (sym same) sound in record {
        rooted = r ∙ s.rooted;
        logged = l ∙ ap (λ (k : List (LoggedCall C R)). k ++ e ∷ []) s.logged ∙ append_assoc (log start) entries (e ∷ []);
        roomy = omega (arith, s.roomy, length-append entries (e ∷ []), one_less light spends heavy);
      }
    where
      one_less : {x y : ℕ} (b : Bool) → (IsTrue b → x ≤ y + 1) → (IsFalse b → x ≤ y) → x ≤ y + 1
      one_less true f g = f refl
      one_less false f g = omega (arith, g refl)
