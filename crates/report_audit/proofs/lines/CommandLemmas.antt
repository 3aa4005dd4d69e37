-- The command that an entry's line tells, and what its beginning is read as.
use Rattle.std.proofs.Common.{
  ◌≡◌,
  ℕ,
  zero,
  suc,
  ◌+◌,
  ◌*◌,
  ◌≤◌,
  ◌==◌,
  eqb,
  true,
  false,
  List,
  [],
  ◌∷◌,
  ◌++◌,
  get_or,
  codes,
  decimal,
  Option,
  IfSome,
  IsSome,
  unwrap_or,
  ◌↔◌,
  None,
  Some,
  refl,
  sym,
  ap,
  ◌∙◌,
  subst,
  append_assoc,
  arith,
  rules,
}
use Rattle.std.proofs.lemmas.Bool.{cond_both, false≢true}
use Rattle.report_audit.proofs.Common.{
  eqb-false,
  append_cancel_left,
  is_ascii_digit,
  command_text,
  reply_text,
  numbered,
  spaced,
  IsCommand,
  IsId,
  IsNoClose,
  IsEntry,
  entry_line,
  told_text,
  party_text,
  spaced_reply,
  BeginsWith,
  BeginsWithNone,
  BothAre,
  both_texts,
  ends_number,
  Command,
  Reply,
}
use Rattle.report_audit.proofs.lines.EntryLineLemmas.{party_told, parts}
use Rattle.report_audit.proofs.lemmas.lines.NumeralLemmas.{no_number}
use Rattle.report_audit.proofs.lemmas.lines.ReadingLemmas.{EndsOnce, StandsApart, both_once, decimal_once, numbered_once, pair_once, spaced_apart}
use Rattle.request_book.specs.declared.values.command.Command.TheVariants.{Submit, Cancel, Report, Pickup, Dropoff, Seal, Close}
use Rattle.request_book.specs.declared.values.journal.Entry.{Entry}
use Rattle.request_book.specs.declared.values.reply.Reply.TheVariants.{Accepted, Cancelled, Placed, Picked, Dropped, Sealed, Closed, Refused}

-- the texts of one number, of three and of four, each behind a space but the first, which stands behind words
abbrev pub AreTwo : ℕ × ℕ → Type 0
AreTwo = BothAre IsId IsId

abbrev pub three_texts : List ℕ → (ℕ × ℕ) × ℕ → List ℕ
three_texts words = both_texts (both_texts (numbered words) spaced) spaced

abbrev pub AreThree : (ℕ × ℕ) × ℕ → Type 0
AreThree = BothAre AreTwo IsId

abbrev pub four_texts : (ℕ × ℕ) × (ℕ × ℕ) → List ℕ
four_texts = both_texts (both_texts (numbered (codes " submit ")) spaced) (both_texts spaced spaced)

abbrev pub AreFour : (ℕ × ℕ) × (ℕ × ℕ) → Type 0
AreFour = BothAre AreTwo AreTwo

pub id_once : (words : List ℕ) → EndsOnce (numbered words) IsId
id_once words = numbered_once words 1000000000 (omega arith)

pub two_once : (words : List ℕ) → EndsOnce (both_texts (numbered words) spaced) AreTwo
two_once words = pair_once words 1000000000 1000000000 (omega arith) (omega arith)

three_once : (words : List ℕ) → EndsOnce (three_texts words) AreThree
three_once words = both_once spaced_apart (two_once words) (id_once (codes " "))

pub pair_apart : StandsApart (both_texts spaced spaced)
unfolding numbered
pair_apart = record { apart = λ y rest ends. refl }

four_once : EndsOnce four_texts AreFour
four_once = both_once pair_apart (two_once (codes " submit ")) (two_once (codes " "))

-- what a told command begins with
one_begins : {text : List ℕ} (words : List ℕ) (n : ℕ) (reply : Reply) → IsId n → text ≡ numbered words n ++ spaced_reply reply →
    BeginsWith (numbered words) IsId text n (spaced_reply reply)
one_begins words n reply is e = record { whole = e; lawful = is; ends = refl }

three_begins : {text : List ℕ} (words : List ℕ) (a b c : ℕ) (reply : Reply) → IsId a × IsId b × IsId c →
    text ≡ (numbered words a ++ spaced b ++ spaced c) ++ spaced_reply reply → BeginsWith (three_texts words) AreThree text ((a, b), c) (spaced_reply reply)
three_begins words a b c reply is e = record { whole = e; lawful = ((is.0, is.1), is.2); ends = refl }

gathered : (x c d p r : List ℕ) → (x ++ c ++ d ++ p) ++ r ≡ (x ++ (c ++ d)) ++ (p ++ r)
gathered x c d p r = search (rules, append_assoc)

party_ends : (party : ℕ) (reply : Reply) → ends_number (party_text party ++ spaced_reply reply) ≡ true
unfolding numbered
party_ends party reply = cond_both (party == 1) [] (spaced party) (λ t. ends_number (t ++ spaced_reply reply) ≡ true) (λ one. refl) (λ more. refl)

pub four_begins : {text : List ℕ} (a b c d party : ℕ) (reply : Reply) → IsCommand (Submit a b c d party) → text ≡ told_text (Submit a b c d party, reply) →
    BeginsWith four_texts AreFour text ((a, b), (c, d)) (party_text party ++ spaced_reply reply)
unfolding numbered
four_begins a b c d party reply is e =
    record {
      whole = e ∙ gathered (numbered (codes " submit ") a ++ spaced b) (spaced c) (spaced d) (party_text party) (spaced_reply reply);
      lawful = ((is.0, is.1), (is.2, is.3));
      ends = party_ends party reply;
    }

-- no reply begins with a digit
reply_begins : (reply : Reply) → (c : ℕ) × (cs : List ℕ) × (reply_text reply ≡ c ∷ cs) × (is_ascii_digit c ≡ false)
unfolding numbered
reply_begins Accepted = (97, _, refl, refl)
reply_begins Cancelled = (99, _, refl, refl)
reply_begins Placed = (112, _, refl, refl)
reply_begins Picked = (112, _, refl, refl)
reply_begins Dropped = (100, _, refl, refl)
reply_begins (Sealed batch) = (115, _, refl, refl)
reply_begins Closed = (99, _, refl, refl)
reply_begins (Refused refusal) = (114, _, refl, refl)

no_party : (n : ℕ) (rest : List ℕ) (reply : Reply) → n ≤ 6 → spaced_reply reply ≡ spaced n ++ rest → ⊥
unfolding numbered
no_party n rest reply few e =
    let first = reply_begins reply in
    let behind = append_cancel_left (codes " ") (reply_text reply) (decimal n ++ rest) e in
    no_number first.0 first.1 n rest first.3 (omega (arith, few)) (sym first.2 ∙ behind)

-- a party is told where it isn't one person
told_party : {text : List ℕ} (k : ℕ) (reply : Reply) → text ≡ party_text (suc (suc k)) ++ spaced_reply reply →
    text ≡ spaced (suc (suc k)) ++ spaced_reply reply
told_party k reply e = e ∙ ap (λ (t : List ℕ). t ++ spaced_reply reply) (party_told (suc (suc k)) (omega arith))

pub party_is : {text rest : List ℕ} {n : ℕ} (party : ℕ) (reply : Reply) → 1 ≤ party → party ≤ 6 → text ≡ party_text party ++ spaced_reply reply →
    BeginsWith spaced (λ m. m ≤ 6) text n rest → n ≡ party
party_is {text} {rest} {n} zero reply some few e b = absurd (omega (arith, some))
party_is {text} {rest} {n} (suc zero) reply some few e b = absurd (no_party n rest reply b.lawful (sym e ∙ b.whole))
party_is {text} {rest} {n} (suc (suc k)) reply some few e b =
    let told : BeginsWith spaced (λ m. m ≤ 6) text (suc (suc k)) (spaced_reply reply) = record { whole = told_party k reply e; lawful = few; ends = refl } in
    ((numbered_once (codes " ") 6 (omega arith)).once text n (suc (suc k)) rest (spaced_reply reply) b told).0

pub party_is_one : {text : List ℕ} (party : ℕ) (reply : Reply) → 1 ≤ party → party ≤ 6 → text ≡ party_text party ++ spaced_reply reply →
    BeginsWithNone spaced (λ m. m ≤ 6) text → 1 ≡ party
party_is_one zero reply some few e none = absurd (omega (arith, some))
party_is_one (suc zero) reply some few e none = refl
party_is_one (suc (suc k)) reply some few e none =
    absurd (none (suc (suc k)) (spaced_reply reply) (record { whole = told_party k reply e; lawful = few; ends = refl }))

-- the first two bytes of a command's word, which tell its kind
abbrev word_bytes : List ℕ → ℕ
word_bytes text = get_or text 1 0 * 256 + get_or text 2 0

words_differ : (a b : List ℕ) → a ≡ b → eqb (word_bytes a) (word_bytes b) ≡ false → ⊥
words_differ a b e other = eqb-false (word_bytes a) (word_bytes b) other (ap word_bytes e)

-- the command is the one as which its beginning is read
module _ {text : List ℕ} {rest : List ℕ} (reply : Reply) where
  pub cancel_is : {n : ℕ} → BeginsWith (numbered (codes " cancel ")) IsId text n rest → (command : Command) → IsCommand command →
      text ≡ told_text (command, reply) → Cancel n ≡ command
  unfolding numbered
  cancel_is {n} b (Cancel m) is e =
      ap Cancel ((id_once (codes " cancel ")).once text n m rest (spaced_reply reply) b (one_begins (codes " cancel ") m reply is e)).0
  cancel_is {n} b _ is e = absurd (words_differ _ _ (sym b.whole ∙ e) refl)

  pub seal_is : {n : ℕ} → BeginsWith (numbered (codes " seal ")) IsId text n rest → (command : Command) → IsCommand command →
      text ≡ told_text (command, reply) → Seal n ≡ command
  unfolding numbered
  seal_is {n} b (Seal m) is e =
      ap Seal ((id_once (codes " seal ")).once text n m rest (spaced_reply reply) b (one_begins (codes " seal ") m reply is e)).0
  seal_is {n} b _ is e = absurd (words_differ _ _ (sym b.whole ∙ e) refl)

  same_three : {r : (ℕ × ℕ) × ℕ} (words : List ℕ) (x y z : ℕ) (make : ℕ → ℕ → ℕ → Command) → IsId x × IsId y × IsId z →
      BeginsWith (three_texts words) AreThree text r rest → text ≡ (numbered words x ++ spaced y ++ spaced z) ++ spaced_reply reply →
      make r.0.0 r.0.1 r.1 ≡ make x y z
  same_three {r} words x y z make is b e =
      ap (λ (p : (ℕ × ℕ) × ℕ). make p.0.0 p.0.1 p.1)
      ((three_once words).once text r ((x, y), z) rest (spaced_reply reply) b (three_begins words x y z reply is e)).0

  pub report_is : {r : (ℕ × ℕ) × ℕ} → BeginsWith (three_texts (codes " report ")) AreThree text r rest → (command : Command) → IsCommand command →
      text ≡ told_text (command, reply) → Report r.0.0 r.0.1 r.1 ≡ command
  unfolding numbered
  report_is {r} b (Report x y z) is e = same_three (codes " report ") x y z Report is b e
  report_is {r} b _ is e = absurd (words_differ _ _ (sym b.whole ∙ e) refl)

  pub pickup_is : {r : (ℕ × ℕ) × ℕ} → BeginsWith (three_texts (codes " pickup ")) AreThree text r rest → (command : Command) → IsCommand command →
      text ≡ told_text (command, reply) → Pickup r.0.0 r.0.1 r.1 ≡ command
  unfolding numbered
  pickup_is {r} b (Pickup x y z) is e = same_three (codes " pickup ") x y z Pickup is b e
  pickup_is {r} b _ is e = absurd (words_differ _ _ (sym b.whole ∙ e) refl)

  pub dropoff_is : {r : (ℕ × ℕ) × ℕ} → BeginsWith (three_texts (codes " dropoff ")) AreThree text r rest → (command : Command) → IsCommand command →
      text ≡ told_text (command, reply) → Dropoff r.0.0 r.0.1 r.1 ≡ command
  unfolding numbered
  dropoff_is {r} b (Dropoff x y z) is e = same_three (codes " dropoff ") x y z Dropoff is b e
  dropoff_is {r} b _ is e = absurd (words_differ _ _ (sym b.whole ∙ e) refl)

-- a command that is read as none of the others is a request
pub left_is : {text : List ℕ} {found : Option Command} → BeginsWithNone (numbered (codes " cancel ")) IsId text →
    BeginsWithNone (numbered (codes " seal ")) IsId text → BeginsWithNone (three_texts (codes " report ")) AreThree text →
    BeginsWithNone (three_texts (codes " pickup ")) AreThree text → BeginsWithNone (three_texts (codes " dropoff ")) AreThree text →
    ((rider origin destination time party : ℕ) (reply : Reply) → IsCommand (Submit rider origin destination time party) →
    text ≡ told_text (Submit rider origin destination time party, reply) → found ≡ Some (Submit rider origin destination time party)) → (command : Command)
    (reply : Reply) → IsCommand command → IsNoClose command → text ≡ told_text (command, reply) → found ≡ Some command
unfolding numbered
left_is cancels seals reports pickups dropoffs submits (Submit a b c d party) reply is told e = submits a b c d party reply is e
left_is cancels seals reports pickups dropoffs submits (Cancel n) reply is told e = absurd (cancels n _ (one_begins (codes " cancel ") n reply is e))
left_is cancels seals reports pickups dropoffs submits (Seal n) reply is told e = absurd (seals n _ (one_begins (codes " seal ") n reply is e))
left_is cancels seals reports pickups dropoffs submits (Report a b c) reply is told e =
    absurd (reports ((a, b), c) _ (three_begins (codes " report ") a b c reply is e))
left_is cancels seals reports pickups dropoffs submits (Pickup a b c) reply is told e =
    absurd (pickups ((a, b), c) _ (three_begins (codes " pickup ") a b c reply is e))
left_is cancels seals reports pickups dropoffs submits (Dropoff a b c) reply is told e =
    absurd (dropoffs ((a, b), c) _ (three_begins (codes " dropoff ") a b c reply is e))
left_is cancels seals reports pickups dropoffs submits (Close batch outcome) reply is told e = absurd told

-- a request is the one as which its numbers and its party are read
pub submit_is : {text rest : List ℕ} {r : (ℕ × ℕ) × (ℕ × ℕ)} {persons : ℕ} → BeginsWith four_texts AreFour text r rest →
    ((party : ℕ) (reply : Reply) → 1 ≤ party → party ≤ 6 → rest ≡ party_text party ++ spaced_reply reply → persons ≡ party) → (a b c d party : ℕ)
    (reply : Reply) → IsCommand (Submit a b c d party) → text ≡ told_text (Submit a b c d party, reply) →
    Submit r.0.0 r.0.1 r.1.0 r.1.1 persons ≡ Submit a b c d party
submit_is {text} {rest} {r} {persons} read party_read a b c d party reply is e =
    let same = four_once.once text r ((a, b), (c, d)) rest (party_text party ++ spaced_reply reply) read (four_begins a b c d party reply is e) in
    ap (λ (p : (ℕ × ℕ) × (ℕ × ℕ)). Submit p.0.0 p.0.1 p.1.0 p.1.1 persons) same.0 ∙
    ap (λ (n : ℕ). Submit a b c d n) (party_read party reply is.4 is.5 same.1)

-- an entry's line, cut behind its position and behind its lane
module _ (position : ℕ) (e : Entry) (is : IsEntry position e) where
  pub position_begins : {line : List ℕ} → line ≡ entry_line position e →
      BeginsWith decimal (λ n. n ≤ 18446744073709551615) line position (spaced e.lane ++ told_text (e.command, e.reply))
  unfolding numbered
  position_begins whole =
      record {
        whole = whole ∙ parts (decimal position) (spaced e.lane) (codes " ") (command_text e.command) (reply_text e.reply);
        lawful = omega (arith, is.placed);
        ends = refl;
      }

  lane_begins : BeginsWith spaced (λ m. m ≤ 255) (spaced e.lane ++ told_text (e.command, e.reply)) e.lane (told_text (e.command, e.reply))
  lane_begins = record { whole = refl; lawful = omega (arith, is.lane); ends = refl }

  pub behind_position : {line after : List ℕ} {n : ℕ} → line ≡ entry_line position e → BeginsWith decimal (λ m. m ≤ 18446744073709551615) line n after →
      BeginsWith spaced (λ m. m ≤ 255) after e.lane (told_text (e.command, e.reply))
  behind_position {line} {after} {n} whole read =
      let same = (decimal_once 18446744073709551615 (omega arith)).once line n position after (spaced e.lane ++ told_text (e.command, e.reply)) read
      (position_begins whole) in
      subst (λ t. BeginsWith spaced (λ m. m ≤ 255) t e.lane (told_text (e.command, e.reply))) (sym same.1) lane_begins

  pub behind_lane : {line after rest : List ℕ} {n lane : ℕ} → line ≡ entry_line position e → BeginsWith decimal (λ m. m ≤ 18446744073709551615) line n after →
      BeginsWith spaced (λ m. m ≤ 255) after lane rest → (lane ≡ e.lane) × (rest ≡ told_text (e.command, e.reply))
  behind_lane {line} {after} {rest} {n} {lane} whole read next =
      (numbered_once (codes " ") 255 (omega arith)).once after lane e.lane rest (told_text (e.command, e.reply)) next (behind_position whole read)

-- what is read of a line, by what is read of its command
pub not_read : {X Y : Type 0} {x : X} {y : Y} → None ≡ Some x → None ≡ Some y
not_read e = absurd cc

pub told_same : {lane other : ℕ} {command same : Command} → lane ≡ other → Some command ≡ Some same →
    ◌≡◌ {A = Option (ℕ × Command)} (Some (lane, command)) (Some (other, same))
told_same e f = cc

pub made : {a b c x y z : ℕ} (make : ℕ → ℕ → ℕ → Command) → a ≡ x → b ≡ y → c ≡ z → make a b c ≡ make x y z
made make e f g = cc

pub submitted : {a b c d v x y z n : ℕ} → a ≡ v → b ≡ x → c ≡ y → d ≡ z → Submit a b c d n ≡ Submit v x y z n
submitted e f g h = cc

-- the party of a number that can be one
pub party_made : {n found : ℕ} (d : ℕ) (o : Option ℕ) (party : ℕ) → 1 ≤ party → party ≤ 6 → n ≡ party → IsSome o ↔ ((1 ≤ n) × (n ≤ 6)) →
    IfSome o (λ p. p ≡ n) → found ≡ unwrap_or o d → found ≡ party
party_made d None party some few is valid value e = absurd (false≢true (valid.1 (omega (arith, some, is), omega (arith, few, is))))
party_made d (Some p) party some few is valid value e = e ∙ value ∙ is
