-- Each move keeps the rule of the claim word.
use Rattle.std.proofs.Common.{
  ◌≡◌,
  ◌≢◌,
  ℕ,
  suc,
  ◌+◌,
  ◌%◌,
  ◌^◌,
  ◌<◌,
  ◌≤◌,
  List,
  [],
  ◌∷◌,
  ◌++◌,
  set,
  get_or,
  sum_by,
  sym,
  refl,
  ap,
  ◌∙◌,
  subst,
  ⊎_elim,
  arith,
  mod-eq_of_lt,
}
use mathlib.Core.Option.{some, none}
use lib.ListN.{get_elem?}
use Rattle.atomic_table.specs.Table.{State, Me, step, keeps, Allows, Splits, Joins, Final, Seen}
use Rattle.atomic_table.proofs.Lists.{at_set, at_snoc, set_else}
use Rattle.std.proofs.lemmas.Bool.Decides.{nat_tests}
use Rattle.std.proofs.lemmas.List.Sums.{sum_by-append, sum_by_push}
use Rattle.shared_work.specs.declared.claims.Drawn.{Drawn}
use Rattle.shared_work.specs.work.Claims.{below, at, past, draws, others_kept, one_given, joined, Agrees, Kept, drew}
use Rattle.shared_work.proofs.Sums.{sum-set, term-le, sum-alone, sum-le, sum-count, below-hit, below-count, below-over, below-none}

module _ (pieces workers : ℕ) where
  abbrev St : Type 0
  St = State (Unit {0}) Drawn

  abbrev M : Type 0
  M = Me (Unit {0}) Drawn

  abbrev Rule : St → Type 0
  Rule = Kept pieces workers

  each_set : (vs : List Drawn) (id : ℕ) (w : Drawn) → Agrees pieces w → ((j : ℕ) (u : Drawn) → get_elem? vs j ≡ some u → Agrees pieces u) →
      (j : ℕ) (u : Drawn) → get_elem? (set vs id w) j ≡ some u → Agrees pieces u
  each_set vs id w mine others j u e = ⊎_elim (λ (t : (j ≡ id) × (w ≡ u)). subst (Agrees pieces) t.1 mine)
      (λ (t : (j ≢ id) × (get_elem? vs j ≡ some u)). others j u t.1) (at_set vs id j w u e)

  -- the word stays small
  bound : (s : St) (r : Rule s) → r.drawn ≤ pieces + workers
  bound s r =
      omega (
        arith,
        below-over pieces r.drawn,
        r.once (past pieces),
        r.whole,
        sum-le (λ (v : Drawn). sum_by (past pieces) v.numbers) (λ v. v.parts) s.views
            (λ j v e. (r.each_view j v e).few_past),
      )

  pub draws_kept : (slots id : ℕ) (me : M) → 0 < me.0.parts → sum_by (past pieces) me.0.numbers ≡ 0 →
      Allows Rule slots id me 0 (λ n. (n + 1) % 2 ^ 64) (drew (step slots 0 1 0 none) me)
  draws_kept slots id me part none_past s r wide here small =
      let v : Drawn = me.0 in
      let n : ℕ = r.drawn in
      let w : Drawn = draws v.parts (v.numbers ++ n ∷ []) in
      let found : get_or s.words 0 0 ≡ n = ap (λ (ws : List ℕ). get_or ws 0 0) r.words in (
        w,
        keeps,
        tt,
        record {
          drawn = suc n;
          words = ap (λ (ws : List ℕ). set ws 0 ((get_or ws 0 0 + 1) % 2 ^ 64)) r.words ∙ ap (λ (k : ℕ). k ∷ [])
              (mod-eq_of_lt (omega (arith, bound s r, r.small, r.few)) ∙ (let e : n + 1 ≡ suc n = omega arith in e));
          small = r.small;
          few = r.few;
          once = λ h. omega (arith, sum-set (λ (u : Drawn). sum_by h u.numbers) s.views id v w here, sum_by_push h v.numbers n, r.once h);
          whole = omega (arith, sum-set (λ (u : Drawn). u.parts) s.views id v w here, r.whole);
          each_view = each_set s.views id w record {
            few_past = omega (arith, sum_by_push (past pieces) v.numbers n, past-most n, none_past);
            idle =
                λ z. absurd (omega arith);
          } (λ j u e. r.each_view j u e);
        },
        (
          omega (arith, term-le (λ (u : Drawn). sum_by (λ _. 1) u.numbers) s.views id v here, r.once (λ _. 1), sum-count v.numbers, below-count n, found),
          ap (λ (k : ℕ). (draws v.parts (v.numbers ++ k ∷ []), me.1)) (sym found),
        ),
      )
    where
      past-most : (n : ℕ) → past pieces n ≤ 1
      past-most n = grind (arith, nat_tests)

  pub cuts : (id : ℕ) (v : Drawn) → 0 < v.parts → v.numbers ≡ [] → Splits Rule id v (others_kept v) (one_given v)
  cuts id v some_part none_drawn s r here =
      let left : Drawn = others_kept v in
      let right : Drawn = one_given v in
      let views : List Drawn = set s.views id left in record {
        drawn = r.drawn;
        words = r.words;
        small = r.small;
        few = r.few;
        once = λ h. omega (
          arith,
          sum_by_push (λ (u : Drawn). sum_by h u.numbers) views right,
          sum-set (λ (u : Drawn). sum_by h u.numbers) s.views id v left
              here,
          r.once h,
        );
        whole = omega (arith, sum_by_push (λ (u : Drawn). u.parts) views right, sum-set (λ (u : Drawn). u.parts) s.views id v left here, r.whole);
        each_view = λ j u e. ⊎_elim
            (each_set s.views id left record {
              few_past = (let z : sum_by (past pieces) v.numbers ≡ 0 =
                  ap (sum_by (past pieces)) none_drawn in omega (arith, z));
              idle = λ _. none_drawn;
            } (λ i y at_i. r.each_view i y at_i) j u)
            (λ (t : right ≡ u). subst (Agrees pieces) t record { few_past = omega arith; idle = λ _. refl })
            (at_snoc views right u j e);
      }

  pub glues : (id : ℕ) (v : Drawn) (other : ℕ) (w : Drawn) → Joins Rule id v other w (joined v w) (draws 0 [])
  glues id v other w s r here apart there =
      let both : Drawn = joined v w in
      let spent : Drawn = draws 0 [] in
      let views : List Drawn = set s.views id both in
      let was : get_elem? s.views other ≡ some w = sym (set_else s.views id other both apart) ∙ there in
      let fit = r.each_view id v here in
      let fit' = r.each_view other w was in record {
        drawn = r.drawn;
        words = r.words;
        small = r.small;
        few = r.few;
        once = λ h. omega (
          arith,
          sum-set (λ (u : Drawn). sum_by h u.numbers) views other w spent there,
          sum-set (λ (u : Drawn). sum_by h u.numbers) s.views id
              v both here,
          sum_by-append h v.numbers w.numbers,
          r.once h,
        );
        whole = omega (arith, sum-set (λ (u : Drawn). u.parts) views other w spent there, sum-set (λ (u : Drawn). u.parts) s.views id v both here, r.whole);
        each_view = each_set views other spent record { few_past = omega arith; idle = λ _. refl }
            (λ j u e. each_set s.views id both
            record {
              few_past = omega (arith, sum_by-append (past pieces) v.numbers w.numbers, fit.few_past, fit'.few_past);
              idle = λ z. (λ i. fit.idle (let k : v.parts ≡ 0 = omega arith in k) i ++ fit'.idle (let k : w.parts ≡ 0 = omega arith in k) i);
            }
            (λ i y at_i. r.each_view i y at_i) j u e);
      }

  -- who stands for all workers has drawn all numbers
  pub ends : (id : ℕ) (v : Drawn) (ws : List ℕ) (xs : List (Unit {0})) → v.parts ≡ workers → Final (Seen Rule id v) ws xs →
      (drawn : ℕ) × ((h : ℕ → ℕ) → sum_by h v.numbers ≡ below h drawn)
  ends id v ws xs all (s, seen, is, wide, values) =
      let r = seen.0 in (
        r.drawn,
        λ h. sym (sum-alone (λ (u : Drawn). sum_by h u.numbers) (λ u. u.parts) s.views id v seen.1
            (λ i u e idle. ap (sum_by h) ((r.each_view i u e).idle idle)) (r.whole ∙ sym all)) ∙ r.once h,
      )

-- where a number past the pieces was drawn, each piece was drawn once
pub each_drawn : (pieces drawn : ℕ) (numbers : List ℕ) → ((h : ℕ → ℕ) → sum_by h numbers ≡ below h drawn) → 1 ≤ sum_by (past pieces) numbers → (k : ℕ) →
    k < pieces → sum_by (at k) numbers ≡ 1
each_drawn pieces drawn numbers all over k lt = all (at k) ∙ below-hit k drawn (grind (arith, all (past pieces), below-none pieces drawn))
