-- An entry's line.
use Rattle.std.proofs.lemmas.Bool.Decides.{nat_tests}
use Rattle.std.proofs.Common.{
  ◌≡◌,
  ℕ,
  zero,
  suc,
  ◌≤◌,
  ◌<◌,
  ◌^◌,
  ◌==◌,
  inl,
  inr,
  true,
  codes,
  List,
  [],
  ◌∷◌,
  ◌++◌,
  map,
  if◌then◌else◌,
  decimal,
  None,
  Some,
  refl,
  sym,
  ap,
  ◌∙◌,
  subst,
  append_assoc,
  arith,
  rules,
}
use Rattle.std.specs.List.{AllByRecursion}
use Rattle.report_audit.proofs.Common.{
  command_text,
  reply_text,
  numbered,
  spaced,
  IsNextLine,
  told_text,
  IsAnswered,
  IsTextOf,
  IsToldBy,
  IsToldByAny,
  IsAnyReply,
  replies,
  spaced_reply,
  word_replies,
  BeginsWith,
  IsId,
  IsReply,
  ends_number,
  Reply,
}
use Rattle.report_audit.specs.declared.lines.next.NextLine.TheVariants.{Entry as EntryOf}
use Rattle.report_audit.proofs.lemmas.lines.HeadLemmas.{field_behind}
use Rattle.report_audit.proofs.lemmas.lines.ReadingLemmas.{decimal_once, numbered_once}
use Rattle.request_book.specs.declared.values.command.Command.TheVariants.{Submit, Cancel, Report, Pickup, Dropoff, Seal, Close}
use Rattle.request_book.specs.declared.values.journal.Entry.{Entry}
use Rattle.request_book.specs.declared.values.outcome.Answer.TheVariants.{Overflow}
use Rattle.request_book.specs.declared.values.reply.BookRefusal.TheVariants.{IsAboard, Ended, TimeBack, NotPromised, BatchOpen, ClockBack, NotThisBatch}
use Rattle.request_book.specs.declared.values.reply.Reply.TheVariants.{Sealed, Refused}
use Rattle.request_book.specs.declared.values.rider.Status.TheVariants.{Waiting}

-- replies by their kinds
word_told : (words : List Reply) (text : List ℕ) → AllByRecursion IsReply words → IsAnyReply (map (λ reply. (spaced_reply reply, None)) words) text →
    IsTextOf spaced_reply IsReply text
word_told [] text all is = absurd is
word_told (reply ∷ words) text all (inl e) = (reply, all.0, e)
word_told (reply ∷ words) text all (inr is) = word_told words text all.1 is

reply_told : (text : List ℕ) → IsAnyReply replies text → IsTextOf spaced_reply IsReply text
unfolding numbered
reply_told text (inl (n, is, e)) = (Sealed n, omega (arith, is), e)
reply_told text (inr (inl (n, is, e))) = (Refused (IsAboard n), is, e)
reply_told text (inr (inr (inl (n, is, e)))) = (Refused (TimeBack n), is, e)
reply_told text (inr (inr (inr (inl (n, is, e))))) = (Refused (NotPromised (Some n)), is, e)
reply_told text (inr (inr (inr (inr (inl (n, is, e)))))) = (Refused (BatchOpen n), omega (arith, is), e)
reply_told text (inr (inr (inr (inr (inr (inl (n, is, e))))))) = (Refused (ClockBack n), is, e)
reply_told text (inr (inr (inr (inr (inr (inr (inl (n, is, e)))))))) = (Refused (NotThisBatch (Some n)), omega (arith, is), e)
reply_told text (inr (inr (inr (inr (inr (inr (inr word))))))) = word_told word_replies text (search rules) word

told_reply : (text : List ℕ) → IsTextOf spaced_reply IsReply text → IsAnyReply replies text
unfolding numbered
told_reply text (Sealed n, is, e) = inl (n, omega (arith, is), e)
told_reply text (Refused (IsAboard n), is, e) = inr (inl (n, is, e))
told_reply text (Refused (TimeBack n), is, e) = inr (inr (inl (n, is, e)))
told_reply text (Refused (NotPromised (Some n)), is, e) = inr (inr (inr (inl (n, is, e))))
told_reply text (Refused (BatchOpen n), is, e) = inr (inr (inr (inr (inl (n, omega (arith, is), e)))))
told_reply text (Refused (ClockBack n), is, e) = inr (inr (inr (inr (inr (inl (n, is, e))))))
told_reply text (Refused (NotThisBatch (Some n)), is, e) = inr (inr (inr (inr (inr (inr (inl (n, omega (arith, is), e)))))))
told_reply text (Refused (Ended Waiting), is, e) = absurd is
told_reply text (_, is, e) = search rules depth 40

-- a number that a text tells first
pub told_first : (words : List ℕ) (fields : List (List ℕ × ℕ × ℕ)) {text after : List ℕ} {least most n : ℕ} → most < 2 ^ 128 →
    BeginsWith (numbered words) (λ m. m ≤ most) text n after → IsToldBy ((words, least, most) ∷ fields) text → (least ≤ n) × IsToldBy fields after
told_first words fields {text} {after} {least} {most} {n} small b (m, rest, told, some, others) =
    let same = (numbered_once words most small).once text m n rest after told b in
    (subst (λ k. least ≤ k) same.0 some, subst (IsToldBy fields) same.1 others)

-- the numbers of each command, by its words, and the least and the most that each may be
abbrev id_field : List ℕ → List ℕ × ℕ × ℕ
id_field words = (words, 0, 1000000000)

abbrev three_ids : List ℕ → List (List ℕ × ℕ × ℕ) → List (List ℕ × ℕ × ℕ)
three_ids words others = id_field words ∷ id_field (codes " ") ∷ id_field (codes " ") ∷ others

abbrev commands : List (List (List ℕ × ℕ × ℕ))
commands =
    three_ids (codes " submit ") (id_field (codes " ") ∷ [])
    ∷ three_ids (codes " submit ") (id_field (codes " ") ∷ (codes " ", 2, 6) ∷ [])
    ∷ (id_field (codes " cancel ") ∷ [])
    ∷ three_ids (codes " report ") []
    ∷ three_ids (codes " pickup ") []
    ∷ three_ids (codes " dropoff ") []
    ∷ (id_field (codes " seal ") ∷ [])
    ∷ ((codes " close ", 0, 18446744073709551615) ∷ [])
    ∷ []

joined : (x y z r : List ℕ) → x ++ (y ++ (z ++ r)) ≡ (x ++ y ++ z) ++ r
joined x y z r = search (rules, append_assoc)

-- a text of one number, and of three ids and more
one_told : {text : List ℕ} (words : List ℕ) (most n : ℕ) (reply : Reply) → n ≤ most → IsReply reply → text ≡ numbered words n ++ spaced_reply reply →
    IsToldBy ((words, 0, most) ∷ []) text
one_told words most n reply is answers e = (
  n,
  spaced_reply reply,
  record { whole = e; lawful = is; ends = refl },
  omega arith,
  told_reply (spaced_reply reply)
      (reply, answers, refl),
)

three_parts : {text : List ℕ} (words : List ℕ) (others : List (List ℕ × ℕ × ℕ)) → IsToldBy (three_ids words others) text →
    (a b c : ℕ) × (rest : List ℕ) × (IsId a × IsId b × IsId c) × IsToldBy others rest × (text ≡ (numbered words a ++ spaced b ++ spaced c) ++ rest)
three_parts words more (a, ra, wa, la, (b, rb, wb, lb, (c, rc, wc, lc, others))) = (
  a,
  b,
  c,
  rc,
  (wa.lawful, wb.lawful, wc.lawful),
  others,
  field_behind words wa (field_behind (codes " ") wb wc.whole) ∙
      joined (numbered words a) (spaced b) (spaced c) rc,
)

ride_parts : {text : List ℕ} (words : List ℕ) → IsToldBy (three_ids words []) text → (a b c : ℕ) × (reply : Reply) × (IsId a × IsId b × IsId c) × IsReply reply
    × (text ≡ (numbered words a ++ spaced b ++ spaced c) ++ spaced_reply reply)
ride_parts words is =
    let x = three_parts words [] is in
    let y = reply_told x.3 x.5 in
    (x.0, x.1, x.2, y.0, x.4, y.1, x.6 ∙ ap (λ r. (numbered words x.0 ++ spaced x.1 ++ spaced x.2) ++ r) y.2)

three_told : {text : List ℕ} (words : List ℕ) (others : List (List ℕ × ℕ × ℕ)) (a b c : ℕ) (rest : List ℕ) → IsId a × IsId b × IsId c →
    ends_number rest ≡ true → IsToldBy others rest → text ≡ (numbered words a ++ spaced b ++ spaced c) ++ rest → IsToldBy (three_ids words others) text
unfolding numbered
three_told {text} words more a b c rest is ends others e =
    let first : BeginsWith (numbered words) IsId text a (spaced b ++ (spaced c ++ rest)) =
    record { whole = e ∙ sym (joined (numbered words a) (spaced b) (spaced c) rest); lawful = is.0; ends = refl } in
    let second : BeginsWith spaced IsId (spaced b ++ (spaced c ++ rest)) b (spaced c ++ rest) = record { whole = refl; lawful = is.1; ends = refl } in (
      a,
      spaced b ++ (spaced c ++ rest),
      first,
      omega arith,
      (
        b,
        spaced c ++ rest,
        second,
        omega arith,
        (c, rest, record { whole = refl; lawful = is.2; ends = ends }, omega arith, others),
      ),
    )

-- the party is told where it isn't one person
pub party_told : (party : ℕ) → 2 ≤ party → (if party == 1 then [] else spaced party) ≡ spaced party
party_told party more = grind (arith, nat_tests)

submit_told : {text : List ℕ} (a b c d party : ℕ) (reply : Reply) → IsId a × IsId b × IsId c → IsId d → (1 ≤ party) × (party ≤ 6) → IsReply reply →
    text ≡ (numbered (codes " submit ") a ++ spaced b ++ spaced c) ++ (spaced d ++ ((if party == 1 then [] else spaced party) ++ spaced_reply reply)) →
    IsTextOf told_text IsAnswered text
unfolding numbered
submit_told a b c d party reply is time few answers e = (
  (Submit a b c d party, reply),
  ((is.0, is.1, is.2, time, few.0, few.1), answers),
  e ∙
      joined (numbered (codes " submit ") a ++ spaced b ++ spaced c) (spaced d) (if party == 1 then [] else spaced party) (spaced_reply reply),
)

pub command_told : {text : List ℕ} → IsToldByAny commands text → IsTextOf told_text IsAnswered text
unfolding numbered
command_told (inl is) =
    let x = three_parts (codes " submit ") (id_field (codes " ") ∷ []) is in
    let y = reply_told x.5.1 x.5.4 in
    submit_told x.0 x.1 x.2 x.5.0 1 y.0 x.4 x.5.2.lawful (omega arith, omega arith) y.1 (x.6 ∙
    ap (λ r. (numbered (codes " submit ") x.0 ++ spaced x.1 ++ spaced x.2) ++ r) (field_behind (codes " ") x.5.2 y.2))
command_told (inr (inl is)) =
    let x = three_parts (codes " submit ") (id_field (codes " ") ∷ (codes " ", 2, 6) ∷ []) is in
    let z = x.5.4 in
    let y = reply_told z.1 z.4 in
    let behind = field_behind (codes " ") x.5.2 (field_behind (codes " ") z.2 y.2 ∙ ap (λ p. p ++ spaced_reply y.0) (sym (party_told z.0 z.3))) in
    submit_told x.0 x.1 x.2 x.5.0 z.0 y.0 x.4 x.5.2.lawful (omega (arith, z.3), z.2.lawful) y.1
    (x.6 ∙ ap (λ r. (numbered (codes " submit ") x.0 ++ spaced x.1 ++ spaced x.2) ++ r) behind)
command_told (inr (inr (inl (n, rest, b, least, is)))) = let y = reply_told rest is in ((Cancel n, y.0), (b.lawful, y.1), field_behind (codes " cancel ") b y.2)
command_told (inr (inr (inr (inl is)))) = let x = ride_parts (codes " report ") is in ((Report x.0 x.1 x.2, x.3), (x.4, x.5), x.6)
command_told (inr (inr (inr (inr (inl is))))) = let x = ride_parts (codes " pickup ") is in ((Pickup x.0 x.1 x.2, x.3), (x.4, x.5), x.6)
command_told (inr (inr (inr (inr (inr (inl is)))))) = let x = ride_parts (codes " dropoff ") is in ((Dropoff x.0 x.1 x.2, x.3), (x.4, x.5), x.6)
command_told (inr (inr (inr (inr (inr (inr (inl (n, rest, b, least, is)))))))) = let y = reply_told rest
    is in ((Seal n, y.0), (b.lawful, y.1), field_behind (codes " seal ") b y.2)
command_told (inr (inr (inr (inr (inr (inr (inr (inl (n, rest, b, least, is))))))))) =
    let y = reply_told rest is in
    ((Close n (record { expired = []; answer = Overflow }), y.0), (omega (arith, b.lawful), y.1), field_behind (codes " close ") b y.2)
command_told (inr (inr (inr (inr (inr (inr (inr (inr is)))))))) = absurd is

submit_kind : {text : List ℕ} (a b c d party : ℕ) (reply : Reply) → IsId a × IsId b × IsId c → IsId d → (1 ≤ party) × (party ≤ 6) → IsReply reply →
    text ≡ (numbered (codes " submit ") a ++ spaced b ++ spaced c) ++ (spaced d ++ ((if party == 1 then [] else spaced party) ++ spaced_reply reply)) →
    IsToldByAny commands text
unfolding numbered
submit_kind a b c d zero reply is time few answers e = absurd (omega (arith, few.0))
submit_kind a b c d (suc zero) reply is time few answers e =
    inl (three_told (codes " submit ") (id_field (codes " ") ∷ []) a b c (spaced d ++ spaced_reply reply) is refl
    (d, spaced_reply reply, record { whole = refl; lawful = time; ends = refl }, omega arith, told_reply (spaced_reply reply) (reply, answers, refl)) e)
submit_kind a b c d (suc (suc n)) reply is time few answers e =
    let persons = suc (suc n) in
    inr (inl (three_told (codes " submit ") (id_field (codes " ") ∷ (codes " ", 2, 6) ∷ []) a b c (spaced d ++ (spaced persons ++ spaced_reply reply)) is refl (
      d,
      spaced persons ++ spaced_reply reply,
      record { whole = refl; lawful = time; ends = refl },
      omega arith,
      (
        persons,
        spaced_reply reply,
        record { whole = refl; lawful = few.1; ends = refl },
        omega arith,
        told_reply (spaced_reply reply)
            (reply, answers, refl),
      ),
    )
    (e ∙ ap (λ p. (numbered (codes " submit ") a ++ spaced b ++ spaced c) ++ (spaced d ++ (p ++ spaced_reply reply))) (party_told persons (omega arith)))))

pub told_command : {text : List ℕ} → IsTextOf told_text IsAnswered text → IsToldByAny commands text
unfolding numbered
told_command ((Submit a b c d party, reply), (is, answers), e) =
    submit_kind a b c d party reply (is.0, is.1, is.2) is.3 (is.4, is.5) answers
    (e ∙ sym (joined (numbered (codes " submit ") a ++ spaced b ++ spaced c) (spaced d) (if party == 1 then [] else spaced party) (spaced_reply reply)))
told_command ((Cancel n, reply), (is, answers), e) = inr (inr (inl (one_told (codes " cancel ") 1000000000 n reply is answers e)))
told_command ((Report a b c, reply), (is, answers), e) =
    inr (inr (inr (inl (three_told (codes " report ") [] a b c (spaced_reply reply) is refl (told_reply (spaced_reply reply) (reply, answers, refl)) e))))
told_command ((Pickup a b c, reply), (is, answers), e) =
    inr (inr (inr (inr (inl (three_told (codes " pickup ") [] a b c (spaced_reply reply) is refl (told_reply (spaced_reply reply) (reply, answers, refl)) e)))))
told_command ((Dropoff a b c, reply), (is, answers), e) =
    inr (inr (inr (inr (inr (inl (three_told (codes " dropoff ") [] a b c (spaced_reply reply) is refl (told_reply (spaced_reply reply) (reply, answers, refl))
    e))))))
told_command ((Seal n, reply), (is, answers), e) = inr (inr (inr (inr (inr (inr (inl (one_told (codes " seal ") 1000000000 n reply is answers e)))))))
told_command ((Close batch outcome, reply), (is, answers), e) =
    inr (inr (inr (inr (inr (inr (inr (inl (one_told (codes " close ") 18446744073709551615 batch reply (omega (arith, is)) answers e))))))))

-- an entry's line, cut from the front
pub record IsCut (line : List ℕ) (position : ℕ) (after : List ℕ) (lane : ℕ) (rest : List ℕ) : Type 0 where
  pub placed : BeginsWith decimal (λ n. n ≤ 18446744073709551615) line position after
  pub laned : BeginsWith spaced (λ n. n ≤ 255) after lane rest
  pub told : IsTextOf told_text IsAnswered rest

pub parts : (p l s c r : List ℕ) → p ++ l ++ s ++ c ++ s ++ r ≡ p ++ (l ++ (s ++ (c ++ (s ++ r))))
parts p l s c r = search (rules, append_assoc)

pub entry_cut : {line : List ℕ} {lane : ℕ} → IsNextLine (EntryOf lane) line → (position : ℕ) × (after rest : List ℕ) × IsCut line position after lane rest
unfolding numbered
entry_cut {line} {lane} (position, e, is, same, whole) =
    let rest = told_text (e.command, e.reply) in
    let placed : BeginsWith decimal (λ n. n ≤ 18446744073709551615) line position (spaced e.lane ++ rest) =
    record {
      whole = whole ∙ parts (decimal position) (spaced e.lane) (codes " ") (command_text e.command) (reply_text e.reply);
      lawful =
          omega (arith, is.placed);
      ends = refl;
    }
    in
    let here : BeginsWith spaced (λ m. m ≤ 255) (spaced e.lane ++ rest) e.lane rest = record { whole = refl; lawful = omega (arith, is.lane); ends = refl } in
    let laned = subst (λ (n : ℕ). BeginsWith spaced (λ m. m ≤ 255) (spaced e.lane ++ rest) n rest) same here in
    (position, spaced e.lane ++ rest, rest, record { placed = placed; laned = laned; told = ((e.command, e.reply), (is.command, is.reply), refl) })

pub cut_entry : {line : List ℕ} {position lane : ℕ} {after rest : List ℕ} → IsCut line position after lane rest → IsNextLine (EntryOf lane) line
cut_entry {line} {position} {lane} {after} {rest} cut =
    let x = cut.told.0 in
    let entry : Entry = record { lane = lane; command = x.0; reply = x.1 } in
    let whole = cut.placed.whole ∙ ap (λ r. decimal position ++ r) (cut.laned.whole ∙ ap (λ r. spaced lane ++ r) cut.told.2) in (
      position,
      entry,
      record {
        placed = omega (arith, cut.placed.lawful);
        lane = omega (arith, cut.laned.lawful);
        command = cut.told.1.0;
        reply =
            cut.told.1.1;
      },
      refl,
      whole ∙ sym (parts (decimal position) (spaced lane) (codes " ") (command_text x.0) (reply_text x.1)),
    )

-- what a line begins with is what it is cut into
pub same_position : {line : List ℕ} {position other : ℕ} {after behind : List ℕ} {lane : ℕ} {rest : List ℕ} →
    BeginsWith decimal (λ n. n ≤ 18446744073709551615) line position after → IsCut line other behind lane rest → behind ≡ after
same_position {line} {position} {other} {after} {behind} b cut = ((decimal_once 18446744073709551615 (omega arith)).once line other position behind after
    cut.placed b).1

pub same_rest : {after : List ℕ} {lane other : ℕ} {rest last : List ℕ} → BeginsWith spaced (λ n. n ≤ 255) after lane rest →
    BeginsWith spaced (λ n. n ≤ 255) after other last → (other ≡ lane) × (last ≡ rest)
same_rest {after} {lane} {other} {rest} {last} b c = (numbered_once (codes " ") 255 (omega arith)).once after other lane last rest c b

-- an entry's line begins with a number
pub entry_begins : (line : List ℕ) (lane : ℕ) → IsNextLine (EntryOf lane) line → (position : ℕ) × (rest : List ℕ) × (position < 2 ^ 64) ×
    (line ≡ decimal position ++ rest)
entry_begins line lane is = let x = entry_cut is in (x.0, x.1, omega (arith, x.3.placed.lawful), x.3.placed.whole)

-- and tells one lane
pub same_lane : (line : List ℕ) (lane other : ℕ) → IsNextLine (EntryOf lane) line → IsNextLine (EntryOf other) line → lane ≡ other
same_lane line lane other is_one is_other =
    let x = entry_cut is_one in
    let y = entry_cut is_other in
    (same_rest (subst (λ t. BeginsWith spaced (λ n. n ≤ 255) t other y.2) (same_position x.3.placed y.3) y.3.laned) x.3.laned).0
