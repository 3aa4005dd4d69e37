-- What workers have done, one by one and together.
use Rattle.std.proofs.Common.{rules, ◌≡◌, ℕ, ◌-◌, ◌<◌, ◌≤◌, true, false, List, [], ◌∷◌, ◌++◌, length, length-append, sum_by, refl, sym, ap, ◌∙◌, subst, arith}
use Rattle.std.proofs.lemmas.Bool.Decides.{nat_tests}
use Rattle.std.proofs.lemmas.List.Sums.{sum_by-append, sum_by-cons, sum_by-le, sum_by_push}
use Rattle.shared_work.specs.declared.worker.Done.{Done}
use Rattle.std.proofs.lemmas.List.{map-append}
use Rattle.std.proofs.lemmas.List.Elements.{All-push}
use Rattle.atomic_table.specs.Seated.{TableId}
use Rattle.atomic_table.specs.Table.{Me}
use Rattle.shared_work.specs.declared.claims.Drawn.{Drawn}
use Rattle.shared_work.specs.declared.worker.Worker.{Worker}
use Rattle.shared_work.specs.work.Claims.{draws, past}
use Rattle.shared_work.specs.work.Workers.{AreDoneRight, HasWorked, Matches, pieces_of}

module _ {O : Type 0} where
  sum-pieces : (h : ℕ → ℕ) (done : List (Done O)) → sum_by h (pieces_of done) ≡ sum_by (λ d. h d.piece) done
  sum-pieces h [] = refl
  sum-pieces h (d ∷ ds) = omega (arith, sum_by-cons h d.piece (pieces_of ds), sum_by-cons (λ (x : Done O). h x.piece) d ds, sum-pieces h ds)

  -- no piece that was done is past the pieces
  pub none_past : (pieces : ℕ) (right : ℕ → O → Type 0) (done : List (Done O)) → AreDoneRight pieces right done → sum_by (past pieces) (pieces_of done) ≡ 0
  none_past pieces right done all =
      omega (arith, sum-pieces (past pieces) done, sum_by-le (λ (d : Done O). past pieces d.piece) 0 done (λ k d lt. within _ (all k d lt).0))
    where
      within : (n : ℕ) → n < pieces → past pieces n ≤ 0
      within n lt = grind (arith, nat_tests)

  pub Matches-one : (pieces : ℕ) (numbers : List ℕ) (done : List (Done O)) (last : ℕ) → pieces ≤ last → numbers ≡ pieces_of done ++ last ∷ [] →
      Matches pieces numbers done
  Matches-one pieces numbers done last le is = search (rules, sum_by_push, sum-pieces)

  Matches-both : (pieces : ℕ) (ns ms : List ℕ) (ds es : List (Done O)) → Matches pieces ns ds → Matches pieces ms es → Matches pieces (ns ++ ms) (ds ++ es)
  Matches-both pieces ns ms ds es a b = search (rules, sum_by-append)

  pub Matches-joined : (pieces : ℕ) (ns ms ks : List ℕ) (ds es fs : List (Done O)) (last : ℕ) → ks ≡ ns ++ ms → fs ≡ ds ++ es → Matches pieces ns ds →
      pieces ≤ last → ms ≡ pieces_of es ++ last ∷ [] → Matches pieces ks fs
  Matches-joined pieces ns ms ks ds es fs last numbers done first le is = subst (λ (z : List ℕ × List (Done O)). Matches pieces z.0 z.1)
      (λ i. (sym numbers i, sym done i)) (Matches-both pieces ns ms ds es first (Matches-one pieces ms es last le is))

-- a draw adds its number to those of the seat
pub drew_one : (m m' : Me (Unit {0}) Drawn) (ns : List ℕ) (n : ℕ) → m ≡ (draws 1 ns, []) → m' ≡ (draws m.0.parts (m.0.numbers ++ n ∷ []), m.1) →
    m' ≡ (draws 1 (ns ++ n ∷ []), [])
drew_one m m' ns n is e = e ∙ ap (λ (k : Me (Unit {0}) Drawn). (draws k.0.parts (k.0.numbers ++ n ∷ []), k.1)) is

-- and fewer draws are left below the pieces
pub fewer_left : (m m' : Me (Unit {0}) Drawn) (n pieces : ℕ) → m' ≡ (draws m.0.parts (m.0.numbers ++ n ∷ []), m.1) → length m.0.numbers ≤ n → n < pieces →
    pieces - length m'.0.numbers < pieces - length m.0.numbers
fewer_left m m' n pieces e le lt = omega (arith, ap (λ (k : Me (Unit {0}) Drawn). length k.0.numbers) e, length-append m.0.numbers (n ∷ []), le, lt)

module _ {O : Type 0} (table : TableId) (pieces : ℕ) where
  pub broke_off : (w : Worker O) (ns : List ℕ) → w.hand.table_id ≡ table → w.hand.me ≡ (draws 1 ns, []) → w.ended ≡ false → HasWorked table pieces w
  broke_off w ns own me not = record {
    own = own;
    part = ap (λ m. m.0.parts) me;
    empty_handed = ap (λ m. m.1) me;
    ended =
        λ e. absurd (let both : true ≡ false = sym e ∙ not in cc);
  }

  pub came_to_end : (w : Worker O) (last : ℕ) → w.hand.table_id ≡ table → w.hand.me ≡ (draws 1 (pieces_of w.done.items ++ last ∷ []), []) → pieces ≤ last →
      HasWorked table pieces w
  came_to_end w last own me le = record {
    own = own;
    part = ap (λ m. m.0.parts) me;
    empty_handed = ap (λ m. m.1) me;
    ended =
        λ _. (last, le, ap (λ m. m.0.numbers) me);
  }

-- one piece more is done
pub one_done : {O : Type 0} (pieces : ℕ) (right : ℕ → O → Type 0) (xs ys : List (Done O)) (d : Done O) (m : Me (Unit {0}) Drawn) →
    m ≡ (draws 1 (pieces_of xs ++ d.piece ∷ []), []) → ys ≡ xs ++ d ∷ [] → AreDoneRight pieces right xs → d.piece < pieces → right d.piece d.out
    → (m ≡ (draws 1 (pieces_of ys), [])) × AreDoneRight pieces right ys
one_done {O} pieces right xs ys d m me is all lt fits = (
  me ∙ ap (λ (l : List ℕ). (draws 1 l, [])) (sym (map-append (λ (e : Done O). e.piece) xs (d ∷ []))) ∙
      ap (λ (l : List (Done O)). (draws 1 (pieces_of l), [])) (sym is),
  subst (AreDoneRight pieces right) (sym is) (All-push (λ (e : Done O). (e.piece < pieces) × right e.piece e.out) xs d all (lt, fits)),
)
