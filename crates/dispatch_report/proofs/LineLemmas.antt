-- Lines that are written one after the other, and what stands where one of them isn't written whole.
use Rattle.std.proofs.Common.{
  ◌≡◌,
  ℕ,
  ◌+◌,
  ◌<◌,
  ◌≤◌,
  Bool,
  true,
  false,
  cond,
  List,
  [],
  ◌∷◌,
  ◌++◌,
  length,
  take,
  Option,
  Result,
  Ok,
  Err,
  MatchResult,
  OnOk,
  arith,
  refl,
  sym,
  ◌∙◌,
  ap,
  subst,
  length-append,
  append-nil,
  append_assoc,
  add-one,
  map,
  get_or,
}
use Rattle.dispatch_report.proofs.Common.{
  Appends,
  take-append-le,
  take-append-add,
  map-append,
  Rose,
  AppendsPart,
  Change,
  SinkView,
  WritesText,
  IsSame,
  WritesBytes,
  WritesLines,
}
use Rattle.dispatch_report.specs.work.Lines.{AppendsFirst}
use Rattle.std.specs.List.{flat_map}
use Rattle.std.proofs.KnownBytes.{Appends-nil, Appends-trans}
use Rattle.std.proofs.lemmas.Grind.{flat_map-append}
use Rattle.std.proofs.Math.Seq.{take-suc}
use Rattle.pool_io.specs.declared.writing.WriteAll.{WriteAll}
use Rattle.dispatch_report.specs.Block.{block_line_text}
use Rattle.dispatch_report.specs.Lines.{lines_text}
use Rattle.dispatch_report.specs.declared.block_line.BlockLine.{BlockLine}
use Rattle.dispatch_report.specs.declared.fault.ReportFault.{ReportFault}
use Rattle.dispatch_report.specs.declared.fault.ReportFault.TheVariants.{WriteFault, OutOfMemory}
use Rattle.pool_io.specs.declared.writing.WriteAll.TheVariants as of_write

lines_text-append : (xs ys : List (List ℕ)) → lines_text (xs ++ ys) ≡ lines_text xs ++ lines_text ys
unfolding lines_text
lines_text-append xs ys = flat_map-append (λ line. line ++ 10 ∷ []) xs ys

lines_text-one : (x : List ℕ) → lines_text (x ∷ []) ≡ x ++ 10 ∷ []
unfolding lines_text
lines_text-one x = append-nil (x ++ 10 ∷ [])

lines_text-none : lines_text [] ≡ []
unfolding lines_text
lines_text-none = refl

-- a part of some bytes, after others were written
part_after : (a b c : Option (List ℕ)) (out more : List ℕ) → Appends a b out → AppendsPart b c more → AppendsPart a c (out ++ more)
part_after a b c out more first next =
    let Q : List ℕ → Type 0 = λ bytes. Appends a c bytes in
    let short : next.0 < length more = next.1 in (
      length out + next.0,
      omega (arith, length-append out more, short),
      subst Q (sym (take-append-add out more next.0)) (Appends-trans a b c out (take next.0 more) first next.2),
    )

-- a part of bytes is a part of those bytes and more
part_before : (a b : Option (List ℕ)) (front back : List ℕ) → AppendsPart a b front → AppendsPart a b (front ++ back)
part_before a b front back part =
    let Q : List ℕ → Type 0 = λ bytes. Appends a b bytes in
    let short : part.0 < length front = part.1 in
    let within : part.0 ≤ length front = omega (arith, short) in (
      part.0,
      omega (arith, length-append front back, short),
      subst Q (sym (take-append-le part.0 front back within)) part.2,
    )

-- what waits, bytes behind it, and then others
across : (p q r xs ys out : List ℕ) → out ++ q ≡ p ++ xs → out ++ (q ++ ys) ≡ p ++ (xs ++ ys)
across p q r xs ys out is = sym (append_assoc out q ys) ∙ ap (λ l. l ++ ys) is ∙ append_assoc p xs ys

-- bytes, and then others, which may fail
bytes_then : (a b c : SinkView) (p q r xs ys : List ℕ) (e : Result (Unit {0}) ReportFault) → WritesBytes (record { before = a; after = b }) p q xs (Ok tt)
    → WritesBytes (record { before = b; after = c }) q r ys e → WritesBytes (record { before = a; after = c }) p r (xs ++ ys) e
bytes_then a b c p q r xs ys (Ok u) first next =
    let f = first.bytes in
    let n = next.bytes in
    record {
      bytes = (
        f.0 ++ n.0,
        Appends-trans a.written b.written c.written f.0 n.0 f.1 n.1,
        append_assoc f.0 n.0 r ∙ ap (λ l. f.0 ++ l) n.2 ∙ across p q r xs ys f.0 f.2,
      );
      fault = λ is. cc is;
      never_falls = omega (arith, first.never_falls, next.never_falls);
    }
bytes_then a b c p q r xs ys (Err e) first next =
    let f = first.bytes in
    let P : List ℕ → Type 0 = λ bytes. AppendsPart a.written c.written bytes in
    record {
      bytes = subst P (across p q r xs ys f.0 f.2) (part_after a.written b.written c.written f.0 (q ++ ys) f.1 next.bytes);
      fault = λ is. (let rises : Rose b.faults c.faults = next.fault is in omega (arith, rises, first.never_falls));
      never_falls = omega (arith, first.never_falls, next.never_falls);
    }

-- a piece that is written whole
pub piece_written : (a b : SinkView) (p rest : List ℕ) → Appends a.written b.written p → rest ≡ [] → a.faults ≤ b.faults →
    WritesBytes (record { before = a; after = b }) p rest [] (Ok tt)
piece_written a b p rest h is up = record { bytes = (p, h, ap (λ l. p ++ l) is); fault = λ none. cc none; never_falls = up }

-- a piece that isn't
pub piece_failed : (a b : SinkView) (p rest : List ℕ) (fault : WriteAll) (e : ReportFault) →
    e ≡ elim fault [ of_write.WriteFault ↦ WriteFault | of_write.OutOfMemory ↦ OutOfMemory ]
    → AppendsPart a.written b.written p → (fault ≡ of_write.WriteFault → Rose a.faults b.faults) → a.faults ≤ b.faults
    → WritesBytes (record { before = a; after = b }) p rest [] (Err e)
piece_failed a b p rest of_write.WriteFault e is part rose up =
    let P : List ℕ → Type 0 = λ bytes. AppendsPart a.written b.written bytes in
    record { bytes = subst P (sym (append-nil p)) part; fault = λ _. rose refl; never_falls = up }
piece_failed a b p rest of_write.OutOfMemory e is part rose up =
    let P : List ℕ → Type 0 = λ bytes. AppendsPart a.written b.written bytes in
    record { bytes = subst P (sym (append-nil p)) part; fault = λ was. cc (was, is); never_falls = up }

-- for want of memory nothing is written of a line
pub nothing_written : (a : SinkView) (p rest xs : List ℕ) (e : ReportFault) → e ≡ OutOfMemory →
    WritesBytes (record { before = a; after = a }) p rest (xs ++ 10 ∷ []) (Err e)
nothing_written a p rest xs e is = record {
  bytes = (0, omega (arith, length-append p (xs ++ 10 ∷ []), length-append xs (10 ∷ [])), Appends-nil a.written);
  fault = λ was. cc (was, is);
  never_falls = omega arith;
}

-- the words of a line, and its end
pub line_put : (old words new text : List ℕ) → words ≡ old ++ text → new ≡ words ++ 10 ∷ [] → new ≡ old ++ (text ++ 10 ∷ [])
line_put old words new text is end = end ∙ ap (λ l. l ++ 10 ∷ []) is ∙ append_assoc old text (10 ∷ [])

-- what is put behind a piece waits with it
pub added_waits : (a : SinkView) (p q added : List ℕ) → q ≡ p ++ added → WritesBytes (record { before = a; after = a }) p q added (Ok tt)
added_waits a p q added is = record { bytes = ([], Appends-nil a.written, is); fault = λ none. cc none; never_falls = omega arith }

-- or goes out with it
pub added_goes : {s : Change SinkView} {rest : List ℕ} {e : Result (Unit {0}) ReportFault} (p q added : List ℕ) → q ≡ p ++ added → WritesBytes s q rest [] e →
    WritesBytes s p rest added e
added_goes {s} {rest} {e} p q added is w =
    let P : List ℕ → Type 0 = λ bytes. MatchResult e (λ _. AppendsFirst s.before.written s.after.written bytes rest)
    (λ _. AppendsPart s.before.written s.after.written bytes) in
    record { bytes = subst P (append-nil q ∙ is) w.bytes; fault = w.fault; never_falls = w.never_falls }

-- no line
pub no_lines : (a : SinkView) {p : List ℕ} (r : Result (Unit {0}) ReportFault) → WritesLines (record { before = a; after = a }) p p r r []
no_lines a {p} (Ok u) =
    let none : WritesBytes (record { before = a; after = a }) p p [] (Ok tt) = record {
      bytes = ([], Appends-nil a.written, sym (append-nil p));
      fault =
          λ is. cc is;
      never_falls = omega arith;
    } in
    record { text = subst (λ l. WritesBytes (record { before = a; after = a }) p p l (Ok tt)) (sym lines_text-none) none }
no_lines a {p} (Err e) = record { text = (record { seen = refl; waiting = refl }, refl) }

-- one line, where nothing failed before
pub line_is : {s : Change SinkView} {p q : List ℕ} {r e : Result (Unit {0}) ReportFault} {u : Unit {0}} (x : List ℕ) → r ≡ Ok u →
    WritesBytes s p q (x ++ 10 ∷ []) e → WritesLines s p q r e (x ∷ [])
line_is {s} {p} {q} {r} {e} x ok w =
    subst (λ b. WritesLines s p q b e (x ∷ [])) (sym ok) (record { text = subst (λ l. WritesBytes s p q l e) (sym (lines_text-one x)) w })

-- lines, and then others
then_of : (a b c : SinkView) (p q t : List ℕ) (x y z : Result (Unit {0}) ReportFault) (xs ys : List (List ℕ)) →
    WritesLines (record { before = a; after = b }) p q x y xs
    → WritesLines (record { before = b; after = c }) q t y z ys → WritesLines (record { before = a; after = c }) p t x z (xs ++ ys)
then_of a b c p q t (Ok u) (Ok v) z xs ys first next =
    record {
      text = subst (λ l. WritesBytes (record { before = a; after = c }) p t l z) (sym (lines_text-append xs ys))
          (bytes_then a b c p q t (lines_text xs) (lines_text ys) z first.text next.text);
    }
then_of a b c p q t (Ok u) (Err e) z xs ys first next =
    let w = first.text in
    let P : List ℕ → Type 0 = λ bytes. AppendsPart a.written b.written bytes in
    let whole : (p ++ lines_text xs) ++ lines_text ys ≡ p ++ lines_text (xs ++ ys) =
    append_assoc p (lines_text xs) (lines_text ys) ∙ ap (λ l. p ++ l) (sym (lines_text-append xs ys)) in
    let failed : WritesBytes (record { before = a; after = b }) p t (lines_text (xs ++ ys)) (Err e) =
    record {
      bytes = subst P whole (part_before a.written b.written (p ++ lines_text xs) (lines_text ys) w.bytes);
      fault = w.fault;
      never_falls =
          w.never_falls;
    } in
    let there : WritesBytes (record { before = a; after = c }) p t (lines_text (xs ++ ys)) (Err e) =
    subst (λ s. WritesBytes (record { before = a; after = s }) p t (lines_text (xs ++ ys)) (Err e)) (sym next.text.0.seen) failed in
    record { text = subst (λ r. WritesBytes (record { before = a; after = c }) p t (lines_text (xs ++ ys)) r) (sym next.text.1) there }
then_of a b c p q t (Err e) (Ok v) z xs ys first next = let is : Ok tt ≡ Err e = first.text.1 in cc
then_of a b c p q t (Err e) (Err f) z xs ys first next =
    record { text = (record { seen = next.text.0.seen ∙ first.text.0.seen; waiting = next.text.0.waiting ∙ first.text.0.waiting }, next.text.1 ∙ first.text.1) }

pub then : {a b c : SinkView} {p q t : List ℕ} {x y z : Result (Unit {0}) ReportFault} {xs ys : List (List ℕ)} →
    WritesLines (record { before = a; after = b }) p q x y xs
    → WritesLines (record { before = b; after = c }) q t y z ys → WritesLines (record { before = a; after = c }) p t x z (xs ++ ys)
then {a} {b} {c} {p} {q} {t} {x} {y} {z} {xs} {ys} first next = then_of a b c p q t x y z xs ys first next

-- lines whose last piece is written, as a text, where no byte waited
as_text_of : (a b c : SinkView) (p q : List ℕ) (lines : List (List ℕ)) (r e : Result (Unit {0}) ReportFault) → p ≡ [] →
    WritesBytes (record { before = a; after = b }) p q (lines_text lines) r
    → MatchResult r (λ _. (rest : List ℕ) × WritesBytes (record { before = b; after = c }) q rest [] e × OnOk e (rest ≡ []))
    (λ fault. IsSame (record { before = b; after = c }) q q × (e ≡ Err fault))
    → WritesText (record { before = a; after = c }) (lines_text lines) e
as_text_of a b c p q lines (Ok u) (Ok v) none first last =
    let w = bytes_then a b c p q last.0 (lines_text lines) [] (Ok v) first last.1 in
    let out : w.bytes.0 ≡ lines_text lines =
    sym (append-nil w.bytes.0) ∙ ap (λ l. w.bytes.0 ++ l) (sym last.2) ∙ w.bytes.2 ∙ ap (λ l. l ++ (lines_text lines ++ [])) none ∙
    append-nil (lines_text lines) in
    record { bytes = subst (λ t. Appends a.written c.written t) out w.bytes.1; fault = w.fault; never_falls = w.never_falls }
as_text_of a b c p q lines (Ok u) (Err e) none first last =
    let w = bytes_then a b c p q last.0 (lines_text lines) [] (Err e) first last.1 in
    let P : List ℕ → Type 0 = λ bytes. AppendsPart a.written c.written bytes in
    record {
      bytes = subst P (ap (λ l. l ++ (lines_text lines ++ [])) none ∙ append-nil (lines_text lines)) w.bytes;
      fault = w.fault;
      never_falls =
          w.never_falls;
    }
as_text_of a b c p q lines (Err f) e none first last =
    let P : List ℕ → Type 0 = λ bytes. AppendsPart a.written b.written bytes in
    let failed : WritesText (record { before = a; after = b }) (lines_text lines) (Err f) =
    record { bytes = subst P (ap (λ l. l ++ lines_text lines) none) first.bytes; fault = first.fault; never_falls = first.never_falls } in
    let there : WritesText (record { before = a; after = c }) (lines_text lines) (Err f) =
    subst (λ s. WritesText (record { before = a; after = s }) (lines_text lines) (Err f)) (sym last.0.seen) failed in
    subst (λ r. WritesText (record { before = a; after = c }) (lines_text lines) r) (sym last.1) there

pub as_text : {a b c : SinkView} {p q : List ℕ} {lines : List (List ℕ)} {r e : Result (Unit {0}) ReportFault} → p ≡ [] →
    WritesLines (record { before = a; after = b }) p q (Ok tt) r lines
    → MatchResult r (λ _. (rest : List ℕ) × WritesBytes (record { before = b; after = c }) q rest [] e × OnOk e (rest ≡ []))
    (λ fault. IsSame (record { before = b; after = c }) q q × (e ≡ Err fault))
    → WritesText (record { before = a; after = c }) (lines_text lines) e
as_text {a} {b} {c} {p} {q} {lines} {r} {e} none first last = as_text_of a b c p q lines r e none first.text last

-- the same lines
pub same_lines : {s : Change SinkView} {p q : List ℕ} {r e : Result (Unit {0}) ReportFault} (xs ys : List (List ℕ)) → xs ≡ ys → WritesLines s p q r e xs →
    WritesLines s p q r e ys
same_lines {s} {p} {q} {r} {e} xs ys is w = subst (λ ls. WritesLines s p q r e ls) is w

-- lines of a block that were written
pub record WritesBlock (sink : Change SinkView) (piece rest : List ℕ) (before after : Result (Unit {0}) ReportFault) (lines : List BlockLine) : Type 0 where
  pub texts : WritesLines sink piece rest before after (map block_line_text lines)

module _ {s : Change SinkView} {p q : List ℕ} {r e : Result (Unit {0}) ReportFault} where
  pub block : (xs : List BlockLine) → WritesLines s p q r e (map block_line_text xs) → WritesBlock s p q r e xs
  block xs w = record { texts = w }

  -- those of a list of one kind
  pub kind : {X : Type 0} (K : X → BlockLine) (xs : List X) → WritesLines s p q r e (map (λ x. block_line_text (K x)) xs) → WritesBlock s p q r e (map K xs)
  kind {X} K xs w = record { texts = same_lines _ _ (fused xs) w }
    where
      fused : (ys : List X) → map (λ x. block_line_text (K x)) ys ≡ map block_line_text (map K ys)
      fused [] = refl
      fused (y ∷ ys) = ap (λ l. block_line_text (K y) ∷ l) (fused ys)

  -- the same where they are asked for
  pub asked : {X : Type 0} (K : X → BlockLine) (xs : List X) (proof : Bool) → WritesLines s p q r e (cond proof (map (λ x. block_line_text (K x)) xs) []) →
      WritesBlock s p q r e (cond proof (map K xs) [])
  asked K xs true w = kind K xs w
  asked K xs false w = block [] w

pub then_block : {a b c : SinkView} {p q t : List ℕ} {x y z : Result (Unit {0}) ReportFault} {xs ys : List BlockLine} →
    WritesBlock (record { before = a; after = b }) p q x y xs
    → WritesBlock (record { before = b; after = c }) q t y z ys → WritesBlock (record { before = a; after = c }) p t x z (xs ++ ys)
then_block {a} {b} {c} {p} {q} {t} {x} {y} {z} {xs} {ys} first next = record {
  texts = same_lines _ _ (sym (map-append block_line_text xs ys))
      (then first.texts next.texts);
}

-- the lines of a list up to an item, and those of the item
pub flat_map-next : {X Y : Type 0} (f : X → List Y) (xs : List X) (i : ℕ) (x : X) → i < length xs → x ≡ get_or xs i x →
    flat_map f (take i xs) ++ f x ≡ flat_map f (take (i + 1) xs)
flat_map-next f xs i x within is =
    ap (λ y. flat_map f (take i xs) ++ f y) is
    ∙ ap (λ ys. flat_map f (take i xs) ++ ys) (sym (append-nil (f (get_or xs i x))))
    ∙ sym (flat_map-append f (take i xs) (get_or xs i x ∷ []))
    ∙ ap (λ ys. flat_map f ys) (sym (rw add-one (take-suc xs i x within)))

-- what was put of a list up to an item, and that item
pub put-next : {X : Type 0} (f : X → List ℕ) (xs : List X) (i : ℕ) (x : X) (old mid new : List ℕ) → i < length xs → x ≡ get_or xs i x →
    mid ≡ old ++ flat_map f (take i xs) → new ≡ mid ++ f x → new ≡ old ++ flat_map f (take (i + 1) xs)
put-next f xs i x old mid new within is before next =
    next ∙ ap (λ l. l ++ f x) before ∙ append_assoc old (flat_map f (take i xs)) (f x) ∙ ap (λ l. old ++ l) (flat_map-next f xs i x within is)

pub map-next : {X : Type 0} (f : X → List ℕ) (xs : List X) (i : ℕ) (x : X) → i < length xs → x ≡ get_or xs i x →
    map f (take i xs) ++ f x ∷ [] ≡ map f (take (i + 1) xs)
map-next f xs i x within is =
    ap (λ y. map f (take i xs) ++ f y ∷ []) is
    ∙ sym (map-append f (take i xs) (get_or xs i x ∷ []))
    ∙ ap (λ ys. map f ys) (sym (rw add-one (take-suc xs i x within)))
