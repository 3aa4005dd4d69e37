-- An entry's command and reply, by how they are read.
use Rattle.std.specs.Prelude.{◌≡◌, ◌==◌, ℕ, ◌≤◌, ◌⊎◌, if◌then◌else◌, List, [], ◌∷◌, ◌++◌, map, codes, Option, None, Some}
use Rattle.std.specs.Borrow.{Bor}
use Rattle.dispatch_report.specs.Entry.{command_text, reply_text}
use Rattle.dispatch_report.specs.Fits.{IsCommand, IsReply}
use Rattle.dispatch_report.specs.Words.{numbered, spaced}
use Rattle.report_audit.specs.lines.Reading.{BeginsWith}
use Rattle.request_book.specs.declared.values.command.Command.{Command}
use Rattle.request_book.specs.declared.values.reply.BookRefusal.TheVariants.{DuplicateRider, UnknownNode, SamePlace, PoolFull, BookFull, UnknownRider, Ended, UnknownVehicle, NotPromised, VehicleFull, NotAboard, NotThisBatch}
use Rattle.request_book.specs.declared.values.reply.Reply.{Reply}
use Rattle.request_book.specs.declared.values.reply.Reply.TheVariants.{Accepted, Cancelled, Placed, Picked, Dropped, Closed, Refused}
use Rattle.request_book.specs.declared.values.rider.Status.TheVariants.{Cancelled as GivenUp, Delivered, Expired}

-- the text is that of a thing
abbrev pub IsTextOf : {X : Type 0} → (X → List ℕ) → (X → Type 0) → List ℕ → Type 0
IsTextOf {X} text_of Is text = (x : X) × Is x × (text ≡ text_of x)

-- a reply behind a space
abbrev pub spaced_reply : Reply → List ℕ
spaced_reply reply = codes " " ++ reply_text reply

-- a command and its reply, each behind a space
abbrev pub told_text : Command × Reply → List ℕ
told_text told = codes " " ++ (command_text told.0 ++ spaced_reply told.1)

-- the party of a request, told where it isn't one person
abbrev pub party_text : ℕ → List ℕ
party_text party = if party == 1 then [] else spaced party

abbrev pub IsAnswered : Command × Reply → Type 0
IsAnswered told = IsCommand told.0 × IsReply told.1

-- the replies that are words alone
abbrev pub word_replies : List Reply
word_replies =
    (Accepted ∷ Cancelled ∷ Placed ∷ Picked ∷ Dropped ∷ Closed ∷ [])
    ++ map Refused (DuplicateRider ∷ UnknownNode ∷ SamePlace ∷ PoolFull ∷ BookFull ∷ UnknownRider ∷ UnknownVehicle ∷ VehicleFull ∷ NotAboard ∷ NotPromised None ∷ NotThisBatch None ∷ [])
    ++ map (λ status. Refused (Ended status)) (GivenUp ∷ Delivered ∷ Expired ∷ [])

-- the text is words, or a number behind words
abbrev pub IsReplyOf : List ℕ × Option ℕ → List ℕ → Type 0
IsReplyOf (words, None) text = text ≡ words
IsReplyOf (words, Some most) text = IsTextOf (numbered words) (λ n. n ≤ most) text

-- the text is that of a reply of one of these kinds
abbrev pub IsAnyReply : List (List ℕ × Option ℕ) → List ℕ → Type 0
IsAnyReply [] text = ⊥
IsAnyReply (kind ∷ kinds) text = IsReplyOf kind text ⊎ IsAnyReply kinds text

-- the words of each reply behind a space, and the most that the number behind them may be
abbrev pub replies : List (List ℕ × Option ℕ)
replies =
    (codes " sealed ", Some 18446744073709551615)
    ∷ (codes " refused is-aboard ", Some 1000000000)
    ∷ (codes " refused time-back ", Some 1000000000)
    ∷ (codes " refused not-promised ", Some 1000000000)
    ∷ (codes " refused batch-open ", Some 18446744073709551615)
    ∷ (codes " refused clock-back ", Some 1000000000)
    ∷ (codes " refused not-this-batch ", Some 18446744073709551615)
    ∷ map (λ reply. (spaced_reply reply, None)) word_replies

-- numbers of a line: the words before each, and the least and the most that it may be
abbrev pub fields_of : List (Bor (List ℕ) × ℕ × ℕ) → List (List ℕ × ℕ × ℕ)
fields_of = map (λ f. (f.0.now, f.1, f.2))

-- the text is such numbers, and a reply
abbrev pub IsToldBy : List (List ℕ × ℕ × ℕ) → List ℕ → Type 0
IsToldBy [] text = IsAnyReply replies text
IsToldBy (f ∷ fs) text = (n : ℕ) × (rest : List ℕ) × BeginsWith (numbered f.0) (λ m. m ≤ f.2) text n rest × (f.1 ≤ n) × IsToldBy fs rest

-- the same by one of several kinds
abbrev pub IsToldByAny : List (List (List ℕ × ℕ × ℕ)) → List ℕ → Type 0
IsToldByAny [] text = ⊥
IsToldByAny (kind ∷ kinds) text = IsToldBy kind text ⊎ IsToldByAny kinds text
