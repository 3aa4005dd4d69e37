-- What is written of a text.
use Rattle.std.proofs.lemmas.Bool.Decides.{nat_tests}
use Rattle.std.proofs.Common.{
  rules,
  ◌≡◌,
  ◌≢◌,
  ℕ,
  Bool,
  cond,
  List,
  [],
  ◌∷◌,
  ◌++◌,
  take,
  drop,
  Option,
  None,
  Some,
  Result,
  Ok,
  Err,
  sym,
  ap,
  subst,
  ◌∙◌,
  append_assoc,
  append-nil,
  take-append-drop,
  length-append,
  arith,
}
use Rattle.live_dispatch.proofs.Common.{
  take-append_seam,
  Appends,
  Appends-trans,
  entry_text,
  round_line,
  Change,
  SinkView,
  WritesText,
  ReportFault,
  AppendsPart,
  BookView,
  next_position,
  step,
  Command,
  Reply,
  State,
  start_text,
  AppendsSome,
  WritesSome,
  entry_for,
}
use Rattle.std.proofs.lemmas.Bool.{ne_eqb}

pub part-some : (old new : Option (List ℕ)) (text : List ℕ) → AppendsPart old new text → AppendsSome old new text
part-some old new text part = record { written = take part.0 text; unwritten = drop part.0 text; parts = take-append-drop part.0 text; bytes = part.2 }

pub whole-some : (old new : Option (List ℕ)) (text : List ℕ) → Appends old new text → AppendsSome old new text
whole-some old new text whole = record { written = text; unwritten = []; parts = append-nil text; bytes = whole }

pub then-some : (a b c : Option (List ℕ)) (xs ys : List ℕ) → Appends a b xs → AppendsSome b c ys → AppendsSome a c (xs ++ ys)
then-some a b c xs ys first next = record {
  written = xs ++ next.written;
  unwritten = next.unwritten;
  parts = append_assoc xs next.written next.unwritten ∙ ap (λ t. xs ++ t) next.parts;
  bytes = Appends-trans a b c xs next.written first next.bytes;
}

-- all of it
pub some-whole : (old new : Option (List ℕ)) (text : List ℕ) → (s : AppendsSome old new text) → s.unwritten ≡ [] → Appends old new text
some-whole old new text s is = subst (λ b. Appends old new b) (sym (append-nil s.written) ∙ ap (λ u. s.written ++ u) (sym is) ∙ s.parts) s.bytes

-- not all of it
pub some-part : (old new : Option (List ℕ)) (text : List ℕ) → (s : AppendsSome old new text) → (x : ℕ) (xs : List ℕ) → s.unwritten ≡ x ∷ xs →
    AppendsPart old new text
some-part old new text s x xs is = grind (arith, nat_tests, (length-append s.written), (take-append_seam s.written))

pub text-some : (sink : Change SinkView) (text : List ℕ) (r : Result (Unit {0}) ReportFault) → WritesText sink text r → WritesSome sink text r
text-some sink text (Ok done) w = record { bytes = w.bytes; fault = w.fault; never_falls = w.never_falls }
text-some sink text (Err fault) w = record {
  bytes = part-some sink.before.written sink.after.written text w.bytes;
  fault = w.fault;
  never_falls =
      w.never_falls;
}

pub err-some : {A : Type 0} (sink : Change SinkView) (text : List ℕ) (fault : ReportFault) → WritesText sink text (Err fault) →
    WritesSome {A = A} sink text (Err fault)
err-some sink text fault w = search (rules, part-some)

pub some-then : {A : Type 0} (a b c : SinkView) (xs ys : List ℕ) (done : Unit {0}) (r : Result A ReportFault) →
    WritesSome (record { before = a; after = b }) xs (Ok done) → WritesSome (record { before = b; after = c }) ys r
    → WritesSome (record { before = a; after = c }) (xs ++ ys) r
some-then a b c xs ys done (Ok x) first next = search (rules, Appends-trans)
some-then a b c xs ys done (Err e) first next = search (rules, then-some)

-- a text that a fault broke off, with more behind it
pub some-broken : {A B : Type 0} (sink : Change SinkView) (xs ys : List ℕ) (fault : ReportFault) → WritesSome {A = A} sink xs (Err fault) →
    WritesSome {A = B} sink (xs ++ ys) (Err fault)
some-broken sink xs ys fault w =
    let some = w.bytes in
    record {
      bytes = record {
        written = some.written;
        unwritten = some.unwritten ++ ys;
        parts = sym (append_assoc some.written some.unwritten ys) ∙
            ap (λ t. t ++ ys) some.parts;
        bytes = some.bytes;
      };
      fault = search rules;
      never_falls = w.never_falls;
    }

-- the line of a round that begins
pub starts-none : (last : Option ℕ) (round : ℕ) → last ≡ None → start_text last round ≡ round_line round
starts-none last round is = ap (λ l. start_text l round) is

pub starts-other : (last : Option ℕ) (round number : ℕ) → last ≡ Some number → number ≢ round → start_text last round ≡ round_line round
starts-other last round number is other = ap (λ l. start_text l round) is ∙ ap (λ b. cond b [] (round_line round)) (ne_eqb number round other)

pub start-some : (sink : Change SinkView) (last : Option ℕ) (round : ℕ) (r : Result (Unit {0}) ReportFault) → start_text last round ≡ round_line round →
    WritesText sink (round_line round) r → WritesSome sink (start_text last round) r
start-some sink last round r is w = subst (λ t. WritesSome sink t r) (sym is) (text-some sink (round_line round) r w)

-- the text of a command's entry, which isn't written whole
pub entry-some : {A : Type 0} (sink : Change SinkView) (proof : Bool) (position : ℕ) (b : BookView) (lane : ℕ) (command : Command) (reply : Reply)
    (state : State) (fault : ReportFault)
    → (state, reply) ≡ step b.nodes b.wait b.state command → position ≡ next_position b.first b.entries
    → WritesText sink (entry_text proof position (record { lane = lane; command = command; reply = reply })) (Err fault)
    → WritesSome {A = A} sink (entry_text proof (next_position b.first b.entries) (entry_for b lane command)) (Err fault)
entry-some {A = A} sink proof position b lane command reply state fault stepped at w =
    let is : reply ≡ (step b.nodes b.wait b.state command).1 = ap (λ p. p.1) stepped in
    subst (λ n. WritesSome {A = A} sink (entry_text proof n (entry_for b lane command)) (Err fault)) at
    (subst (λ (r : Reply). WritesSome {A = A} sink (entry_text proof position (record { lane = lane; command = command; reply = r })) (Err fault)) is
    (err-some sink _ fault w))
