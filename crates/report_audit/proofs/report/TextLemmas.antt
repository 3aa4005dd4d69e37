-- Texts of entries and rounds.
use Rattle.std.proofs.Common.{
  ◌≡◌,
  ℕ,
  ◌<◌,
  ◌^◌,
  Bool,
  true,
  false,
  cond,
  eqb,
  List,
  [],
  ◌∷◌,
  ◌++◌,
  codes,
  decimal,
  Some,
  None,
  refl,
  sym,
  ap,
  ◌∙◌,
  append_assoc,
  arith,
  rules,
}
use Rattle.report_audit.proofs.Common.{
  command_text,
  entry_line,
  refusal_text,
  reply_text,
  rider_status_text,
  lines_text,
  entries_lines,
  entry_block,
  round_text,
  end_text,
  numbered,
  spaced,
  one_more,
  is_one_line,
  next_position,
  Command,
  Submit,
  Cancel,
  Report,
  Pickup,
  Dropoff,
  Seal,
  Close,
  Entry,
  Journal,
  BookRefusal,
  IsAboard,
  Ended,
  TimeBack,
  NotPromised,
  BatchOpen,
  ClockBack,
  NotThisBatch,
  Reply,
  Sealed,
  Refused,
  Status,
  Waiting,
  entries_text,
}
use Rattle.report_audit.proofs.lemmas.lines.OneBlock.{append_one_line, numbered_one_line, spaced_one_line, two_line}
use Rattle.std.specs.List.{flat_map}
use Rattle.std.proofs.lemmas.Grind.{flat_map-append}

-- lines
pub lines-none : lines_text [] ≡ []
unfolding lines_text
lines-none = refl

pub lines-more : (x : List ℕ) (xs : List (List ℕ)) → lines_text (x ∷ xs) ≡ x ++ 10 ∷ lines_text xs
unfolding lines_text
lines-more x xs = append_assoc x (10 ∷ []) (flat_map (λ line. line ++ 10 ∷ []) xs)

pub lines-append : (xs ys : List (List ℕ)) → lines_text (xs ++ ys) ≡ lines_text xs ++ lines_text ys
unfolding lines_text
lines-append xs ys = flat_map-append (λ line. line ++ 10 ∷ []) xs ys

-- positions
pub next-none : (p : ℕ) → p < 2 ^ 64 → next_position p [] ≡ p
next-none p low = omega arith

pub next-more : (p : ℕ) (e : Entry) (es : List Entry) → next_position (one_more p) es ≡ next_position p (e ∷ es)
next-more p e es = omega arith

pub next-low : (p : ℕ) (es : List Entry) → next_position p es < 2 ^ 64
next-low p es = omega arith

-- the text of entries
pub entries-none : (p : ℕ) → entries_text p [] ≡ []
unfolding entries_lines
entries-none p = lines-none

pub entries-more : (p : ℕ) (e : Entry) (es : List Entry) → entries_text p (e ∷ es) ≡ entry_line p e ++ 10 ∷
    (lines_text (entry_block true e.command e.reply) ++ entries_text (one_more p) es)
unfolding entries_lines
entries-more p e es = search (rules, entry_block, entries_lines, one_more, lines-append, entry_line, lines_text, lines-more, append_assoc)

pub entries-append : (p : ℕ) (xs ys : List Entry) → p < 2 ^ 64 → entries_text p (xs ++ ys) ≡ entries_text p xs ++ entries_text (next_position p xs) ys
unfolding entries_lines
entries-append p [] ys low = search (rules, entries_text, next-none, next_position, lines-none)
entries-append p (e ∷ es) ys low =
    let block : List (List ℕ) = (entry_line p e ∷ []) ++ entry_block true e.command e.reply in
    lines-append block (entries_lines true (one_more p) (es ++ ys))
    ∙ ap (λ (t : List ℕ). lines_text block ++ t) (entries-append (one_more p) es ys (omega arith))
    ∙ ap (λ (k : ℕ). lines_text block ++ (entries_text (one_more p) es ++ entries_text k ys)) (next-more p e es)
    ∙ sym (append_assoc (lines_text block) (entries_text (one_more p) es) (entries_text (next_position p (e ∷ es)) ys))
    ∙ ap (λ (t : List ℕ). t ++ entries_text (next_position p (e ∷ es)) ys) (sym (lines-append block (entries_lines true (one_more p) es)))

pub round-is : (n : ℕ) (j : Journal) → round_text n true j ≡ numbered (codes "round ") n ++ 10 ∷ entries_text j.first j.entries
unfolding round_text
round-is n j = lines-more (numbered (codes "round ") n) (entries_lines true j.first j.entries)

pub end-is : (n : ℕ) → end_text n ≡ numbered (codes "done ") n ++ 10 ∷ []
unfolding end_text
end-is n = lines-more (numbered (codes "done ") n) [] ∙ ap (λ (t : List ℕ). numbered (codes "done ") n ++ 10 ∷ t) lines-none

-- no line between blocks has a line feed within it
three_one : (words : List ℕ) (a b c : ℕ) → is_one_line words ≡ true → is_one_line (numbered words a ++ spaced b ++ spaced c) ≡ true
three_one words a b c one = append_one_line (numbered words a ++ spaced b) (spaced c) (two_line words a b one) (spaced_one_line c)

command_one : (c : Command) → is_one_line (command_text c) ≡ true
command_one (Submit rider origin destination time party) =
    append_one_line (numbered (codes "submit ") rider ++ spaced origin ++ spaced destination ++ spaced time) (cond (eqb party 1) [] (spaced party))
    (append_one_line (numbered (codes "submit ") rider ++ spaced origin ++ spaced destination) (spaced time)
    (three_one (codes "submit ") rider origin destination refl) (spaced_one_line time))
    (by (eqb party 1))
  where
    by : (b : Bool) → is_one_line (cond b [] (spaced party)) ≡ true
    by true = refl
    by false = spaced_one_line party
command_one (Cancel rider) = numbered_one_line (codes "cancel ") rider refl
command_one (Report vehicle node time) = three_one (codes "report ") vehicle node time refl
command_one (Pickup vehicle rider time) = three_one (codes "pickup ") vehicle rider time refl
command_one (Dropoff vehicle rider time) = three_one (codes "dropoff ") vehicle rider time refl
command_one (Seal now) = numbered_one_line (codes "seal ") now refl
command_one (Close batch outcome) = numbered_one_line (codes "close ") batch refl

status_one : (s : Status) → is_one_line (rider_status_text s) ≡ true
status_one Waiting = refl
status_one _ = refl

refusal_one : (r : BookRefusal) → is_one_line (refusal_text r) ≡ true
refusal_one (IsAboard vehicle) = numbered_one_line (codes "is-aboard ") vehicle refl
refusal_one (Ended status) = append_one_line (codes "ended ") (rider_status_text status) refl (status_one status)
refusal_one (TimeBack last) = numbered_one_line (codes "time-back ") last refl
refusal_one (NotPromised None) = refl
refusal_one (NotPromised (Some holder)) = append_one_line (codes "not-promised") (spaced holder) refl (spaced_one_line holder)
refusal_one (BatchOpen batch) = numbered_one_line (codes "batch-open ") batch refl
refusal_one (ClockBack last) = numbered_one_line (codes "clock-back ") last refl
refusal_one (NotThisBatch None) = refl
refusal_one (NotThisBatch (Some batch)) = append_one_line (codes "not-this-batch") (spaced batch) refl (spaced_one_line batch)
refusal_one _ = refl

reply_one : (r : Reply) → is_one_line (reply_text r) ≡ true
reply_one (Sealed batch) = numbered_one_line (codes "sealed ") batch refl
reply_one (Refused refusal) = append_one_line (codes "refused ") (refusal_text refusal) refl (refusal_one refusal)
reply_one _ = refl

pub entry_one : (p : ℕ) (e : Entry) → is_one_line (entry_line p e) ≡ true
unfolding numbered
entry_one p e =
    let front : is_one_line (decimal p ++ spaced e.lane ++ codes " ") ≡ true = append_one_line (decimal p ++ spaced e.lane) (codes " ")
    (two_line [] p e.lane refl) refl in
    append_one_line (decimal p ++ spaced e.lane ++ codes " " ++ command_text e.command ++ codes " ") (reply_text e.reply)
    (append_one_line (decimal p ++ spaced e.lane ++ codes " " ++ command_text e.command) (codes " ")
    (append_one_line (decimal p ++ spaced e.lane ++ codes " ") (command_text e.command) front (command_one e.command)) refl)
    (reply_one e.reply)
