-- Notices that notifiers are told one list after the other.
use Rattle.std.proofs.Common.{◌≡◌, List, map, length, [], ◌∷◌, ◌++◌, Option, Some, None, refl, ap, ◌∙◌, append_assoc, sym, arith, length-append}
use Rattle.std.proofs.lemmas.List.{append-nil}
use Rattle.request_book.specs.declared.notices.notice.Notice.{Notice}
use Rattle.request_book.specs.notices.Told.{HasTold, NotifierView, HasHeard, HaveHeard}

pub told-nothing : (o : Option (List Notice)) → HasTold o o []
told-nothing None = tt
told-nothing (Some xs) = sym (append-nil xs)

pub told-more : (a b c : Option (List Notice)) (xs ys : List Notice) → HasTold a b xs → HasTold b c ys → HasTold a c (xs ++ ys)
told-more None b c xs ys p q = tt
told-more (Some a) None c xs ys p q = absurd p
told-more (Some a) (Some b) None xs ys p q = absurd q
told-more (Some a) (Some b) (Some c) xs ys p q = q ∙ ap (λ zs. zs ++ ys) p ∙ append_assoc a xs ys

pub heard-nothing : (n : NotifierView) → HasHeard [] n n
heard-nothing n = record { told = told-nothing n.told; faults = refl; steady = omega arith }

pub heard-more : (a b c : NotifierView) (xs ys : List Notice) → HasHeard xs a b → HasHeard ys b c → HasHeard (xs ++ ys) a c
heard-more a b c xs ys p q = record {
  told = told-more a.told b.told c.told xs ys p.told q.told;
  faults = q.faults ∙ p.faults;
  steady = omega (arith, p.steady, q.steady, length-append xs ys);
}

-- where nothing is told, all stay as they are
pub all-heard-nothing : (ns : List NotifierView) → HaveHeard [] ns ns
all-heard-nothing [] = HaveHeard.none
all-heard-nothing (n ∷ ns) = HaveHeard.kept n n ns ns (heard-nothing n) (all-heard-nothing ns)

-- two lists of notices, one after the other
pub all-heard-more : (xs ys : List Notice) (olds kepts lefts : List NotifierView) → HaveHeard xs olds kepts → HaveHeard ys kepts lefts →
    HaveHeard (xs ++ ys) olds lefts
all-heard-more xs ys _ _ _ HaveHeard.none HaveHeard.none = HaveHeard.none
all-heard-more xs ys _ _ _ (HaveHeard.kept a b olds kepts p ps) (HaveHeard.kept _ c _ lefts q qs) =
    HaveHeard.kept a c olds lefts (heard-more a b c xs ys p q) (all-heard-more xs ys olds kepts lefts ps qs)
all-heard-more xs ys _ _ _ (HaveHeard.kept a b olds kepts p ps) (HaveHeard.dropped _ _ lefts q qs) =
    HaveHeard.dropped a olds lefts (omega (arith, p.steady, q, length-append xs ys)) (all-heard-more xs ys olds kepts lefts ps qs)
all-heard-more xs ys _ _ lefts (HaveHeard.dropped a olds kepts p ps) qs =
    HaveHeard.dropped a olds lefts (omega (arith, p, length-append xs ys)) (all-heard-more xs ys olds kepts lefts ps qs)

-- where there is nobody, all have heard anything
pub nobody-hears : {A : Type 0} (seen : A → NotifierView) (notices : List Notice) (xs : List A) → length xs ≡ 0 → HaveHeard notices (map seen xs) (map seen xs)
nobody-hears seen notices [] none = HaveHeard.none
nobody-hears seen notices (x ∷ xs) none = absurd (omega (arith, none))
