-- No line feed stands in a line between blocks.
use Rattle.std.proofs.Common.{◌≡◌, ℕ, ◌==◌, true, codes, List, [], ◌++◌, decimal, Option, None, Some, refl, sym, subst, rules}
use Rattle.std.proofs.lemmas.Bool.{cond_both}
use Rattle.std.specs.Option.{option_map_or}
use Rattle.report_audit.proofs.Common.{
  command_text,
  refusal_text,
  reply_text,
  rider_status_text,
  spaced,
  is_one_line,
  party_text,
  IsNextLine,
  BookRefusal,
  Command,
  NextLine,
  Reply,
  Status,
}
use Rattle.report_audit.specs.declared.lines.next.NextLine.TheVariants.{Round, Done, Entry as EntryOf}
use Rattle.report_audit.proofs.lemmas.lines.OneBlock.{append_one_line, decimal_line, numbered_one_line, spaced_one_line}
use Rattle.request_book.specs.declared.values.command.Command.TheVariants.{Submit}
use Rattle.request_book.specs.declared.values.reply.BookRefusal.TheVariants.{Ended, NotPromised, NotThisBatch}
use Rattle.request_book.specs.declared.values.reply.Reply.TheVariants.{Refused}
use Rattle.request_book.specs.declared.values.rider.Status.TheVariants.{Waiting}

party_one_line : (party : ℕ) → is_one_line (party_text party) ≡ true
party_one_line party = cond_both (party == 1) [] (spaced party) (λ t. is_one_line t ≡ true) (λ one. refl) (λ more. spaced_one_line party)

ruleset feeds = (append_one_line, numbered_one_line, spaced_one_line, party_one_line)

command_one_line : (command : Command) → is_one_line (command_text command) ≡ true
command_one_line (Submit rider origin destination time party) = search (rules, feeds)
command_one_line _ = search (rules, feeds)

status_one_line : (status : Status) → is_one_line (rider_status_text status) ≡ true
status_one_line Waiting = refl
status_one_line _ = refl

number_or_none : (n : Option ℕ) → is_one_line (option_map_or spaced n (codes " none")) ≡ true
number_or_none None = refl
number_or_none (Some n) = spaced_one_line n

refusal_one_line : (refusal : BookRefusal) → is_one_line (refusal_text refusal) ≡ true
refusal_one_line (Ended status) = append_one_line (codes "ended ") (rider_status_text status) refl (status_one_line status)
refusal_one_line (NotPromised holder) = append_one_line (codes "not-promised") (option_map_or spaced holder (codes " none")) refl (number_or_none holder)
refusal_one_line (NotThisBatch current) = append_one_line (codes "not-this-batch") (option_map_or spaced current (codes " none")) refl (number_or_none current)
refusal_one_line _ = search (rules, feeds)

reply_one_line : (reply : Reply) → is_one_line (reply_text reply) ≡ true
reply_one_line (Refused refusal) = append_one_line (codes "refused ") (refusal_text refusal) refl (refusal_one_line refusal)
reply_one_line _ = search (rules, feeds)

pub next_one_line : (x : NextLine) (line : List ℕ) → IsNextLine x line → is_one_line line ≡ true
next_one_line (Round number) line is = subst (λ l. is_one_line l ≡ true) (sym is.1) (numbered_one_line (codes "round ") number refl)
next_one_line (Done entries) line is = subst (λ l. is_one_line l ≡ true) (sym is.1) (numbered_one_line (codes "done ") entries refl)
next_one_line (EntryOf lane) line (position, e, is, same, whole) =
    let head = append_one_line (decimal position) (spaced e.lane) (decimal_line position) (spaced_one_line e.lane) in
    let before = append_one_line (decimal position ++ spaced e.lane) (codes " ") head refl in
    let told = append_one_line (decimal position ++ spaced e.lane ++ codes " ") (command_text e.command) before (command_one_line e.command) in
    let apart = append_one_line (decimal position ++ spaced e.lane ++ codes " " ++ command_text e.command) (codes " ") told refl in
    let all = append_one_line (decimal position ++ spaced e.lane ++ codes " " ++ command_text e.command ++ codes " ") (reply_text e.reply) apart
    (reply_one_line e.reply) in
    subst (λ l. is_one_line l ≡ true) (sym whole) all
