-- Notices that are told one after the other.
use Rattle.std.proofs.Common.{
  ◌≡◌,
  ℕ,
  suc,
  ◌+◌,
  ◌<◌,
  ◌≤◌,
  List,
  [],
  ◌∷◌,
  ◌++◌,
  length,
  get_or,
  set,
  take,
  drop,
  map,
  refl,
  sym,
  ap,
  subst,
  ◌∙◌,
  append_assoc,
  add-one,
  arith,
  drop-cons,
}
use Rattle.std.specs.List.{remove}
use Rattle.std.proofs.Math.Seq.{take-append_seam, drop-append_seam}
use Rattle.std.proofs.lemmas.List.{append-nil, map-append, length-take-le, take_more, take_more_set, take-set, take_all, drop_all, drop-set-lt}
use Rattle.request_book.specs.declared.notices.notice.Notice.{Notice}
use Rattle.request_book.specs.notices.Told.{NotifierView, HasHeard, HaveHeard}
use Rattle.request_book.proofs.lemmas.notices.HeardLemmas.{heard-more}

-- one more notice
pub heard-next : (notices : List Notice) (i : ℕ) (x : Notice) (a b c : NotifierView) → i < length notices → x ≡ get_or notices i x
    → HasHeard (take i notices) a b → HasHeard (x ∷ []) b c → HasHeard (take (i + 1) notices) a c
heard-next notices i x a b c within is p q =
    subst (λ xs. HasHeard xs a c) (ap (λ y. take i notices ++ y ∷ []) is ∙ sym (take_more notices i x within)) (heard-more a b c (take i notices) (x ∷ []) p q)

-- what some have heard, and others
heard-both : (notices : List Notice) (a b c d : List NotifierView) → HaveHeard notices a b → HaveHeard notices c d → HaveHeard notices (a ++ c) (b ++ d)
heard-both notices _ _ c d HaveHeard.none q = q
heard-both notices _ _ c d (HaveHeard.kept x y a b heard p) q = HaveHeard.kept x y (a ++ c) (b ++ d) heard (heard-both notices a b c d p q)
heard-both notices _ _ c d (HaveHeard.dropped x a b unsure p) q = HaveHeard.dropped x (a ++ c) (b ++ d) unsure (heard-both notices a b c d p q)

-- the notifiers up to a place are left of some first ones and have heard; those from there on are untouched
pub record HaveHeardUpTo {A : Type 0} (seen : A → NotifierView) (notices : List Notice) (at : ℕ) (before now : List A) : Type 0 where
  pub first : List A
  pub heard : HaveHeard notices (map seen first) (map seen (take at now))
  pub whole : before ≡ first ++ drop at now

pub heard-none : {A : Type 0} (seen : A → NotifierView) (notices : List Notice) (before : List A) → HaveHeardUpTo seen notices 0 before before
heard-none seen notices before = record { first = []; heard = HaveHeard.none; whole = refl }

take-remove : {A : Type 0} (at : ℕ) (now : List A) → at < length now → take at (remove now at) ≡ take at now
take-remove at now within =
    subst (λ k. take k (take at now ++ drop (suc at) now) ≡ take at now) (length-take-le at now (omega arith))
    (take-append_seam (take at now) (drop (suc at) now))

drop-remove : {A : Type 0} (at : ℕ) (now : List A) → at < length now → drop at (remove now at) ≡ drop (at + 1) now
drop-remove at now within =
    subst (λ k. drop k (take at now ++ drop (suc at) now) ≡ drop (suc at) now) (length-take-le at now (omega arith))
    (drop-append_seam (take at now) (drop (suc at) now))
    ∙ ap (λ k. drop k now) (sym (add-one at))

remove-set : {A : Type 0} (xs : List A) (i : ℕ) (y : A) → remove (set xs i y) i ≡ remove xs i
remove-set xs i y = ap (λ ys. ys ++ drop (suc i) (set xs i y)) (take-set xs i y) ∙ ap (λ ys. take i xs ++ ys) (drop-set-lt (suc i) xs i y (omega arith))

module _ {A : Type 0} (seen : A → NotifierView) (notices : List Notice) (at : ℕ) (before now : List A) (x : A) (within : at < length now)
    (is : x ≡ get_or now at x)
    (h : HaveHeardUpTo seen notices at before now) where
  -- one more of the first
  behind : (rest : List A) → rest ≡ drop (at + 1) now → before ≡ (h.first ++ x ∷ []) ++ rest
  behind rest same =
      h.whole ∙ ap (λ ys. h.first ++ ys) (drop-cons now at x within ∙ ap (λ k. get_or now at x ∷ drop k now) (sym (add-one at)) ∙
      ap (λ y. y ∷ drop (at + 1) now) (sym is))
      ∙ sym (append_assoc h.first (x ∷ []) (drop (at + 1) now)) ∙ ap (λ ys. (h.first ++ x ∷ []) ++ ys) (sym same)

  -- the notifier at the place was told, and is kept
  pub told-kept : (n : A) → HasHeard notices (seen x) (seen n) → HaveHeardUpTo seen notices (at + 1) before (set now at n)
  told-kept n heard = record {
    first = h.first ++ x ∷ [];
    heard =
        subst (HaveHeard notices (map seen (h.first ++ x ∷ []))) (sym (ap (map seen) (take_more_set now at n within) ∙ map-append seen (take at now) (n ∷ [])))
        (subst (λ xs. HaveHeard notices xs (map seen (take at now) ++ seen n ∷ [])) (sym (map-append seen h.first (x ∷ [])))
        (heard-both notices (map seen h.first) (map seen (take at now)) (seen x ∷ []) (seen n ∷ []) h.heard
        (HaveHeard.kept (seen x) (seen n) [] [] heard HaveHeard.none)));
    whole = behind (drop (at + 1) (set now at n)) (drop-set-lt (at + 1) now at n (omega arith));
  }

  -- the notifier at the place failed, and is gone
  pub told-gone : (n : A) (left : List A) → left ≡ remove (set now at n) at → (seen x).steady < length notices → HaveHeardUpTo seen notices at before left
  told-gone n left is-left unsure =
      let same : left ≡ remove now at = is-left ∙ remove-set now at n in
      record {
        first = h.first ++ x ∷ [];
        heard =
            subst (HaveHeard notices (map seen (h.first ++ x ∷ []))) (append-nil (map seen (take at now)) ∙
            ap (map seen) (sym (ap (take at) same ∙ take-remove at now within)))
            (subst (λ xs. HaveHeard notices xs (map seen (take at now) ++ [])) (sym (map-append seen h.first (x ∷ [])))
            (heard-both notices (map seen h.first) (map seen (take at now)) (seen x ∷ []) [] h.heard (HaveHeard.dropped (seen x) [] [] unsure HaveHeard.none)));
        whole = behind (drop at left) (ap (drop at) same ∙ drop-remove at now within);
      }

pub told-all : {A : Type 0} (seen : A → NotifierView) (notices : List Notice) (at : ℕ) (before now : List A) → length now ≤ at →
    HaveHeardUpTo seen notices at before now → HaveHeard notices (map seen before) (map seen now)
told-all seen notices at before now end h =
    let first : before ≡ h.first = h.whole ∙ ap (λ xs. h.first ++ xs) (drop_all at now end) ∙ append-nil h.first in
    subst (λ xs. HaveHeard notices (map seen xs) (map seen now)) (sym first) (subst (λ xs. HaveHeard notices (map seen h.first) (map seen xs))
    (take_all at now end) h.heard)
