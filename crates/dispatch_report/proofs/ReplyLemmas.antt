-- Lines that are put together from pieces.
use Rattle.std.proofs.Common.{rules, ◌≡◌, ℕ, List, [], ◌++◌, codes, decimal, Option, refl, ap, ◌∙◌, append_assoc}
use Rattle.std.specs.Option.{option_map_or}
use Rattle.dispatch_report.specs.Entry.{refusal_text}
use Rattle.dispatch_report.specs.Words.{numbered, spaced}
use Rattle.dispatch_report.specs.lemmas.Named.{spaced_or_none}
use Rattle.dispatch_report.specs.work.Named.{refusal_words, told_number}
use Rattle.request_book.specs.declared.values.reply.BookRefusal.{BookRefusal}
use Rattle.request_book.specs.declared.values.reply.BookRefusal.TheVariants.{Ended}
use Rattle.request_book.specs.declared.values.rider.Status.TheVariants.{Waiting, Promised, Aboard, Cancelled, Delivered, Expired}

-- a line behind two pieces
pub put_two : (line words tail text put new : List ℕ) → put ≡ line ++ words → new ≡ put ++ tail → words ++ tail ≡ text → new ≡ line ++ text
put_two line words tail text put new first second is = second ∙ ap (λ xs. xs ++ tail) first ∙ append_assoc line words tail ∙ ap (λ xs. line ++ xs) is

-- the words of a refusal and what it tells
refusal_parts : (r : BookRefusal) → refusal_words r ++ option_map_or spaced_or_none (told_number r) [] ≡ refusal_text r
unfolding numbered
refusal_parts (Ended Waiting) = refl
refusal_parts (Ended (Promised p)) = refl
refusal_parts (Ended (Aboard v)) = refl
refusal_parts (Ended Cancelled) = refl
refusal_parts (Ended Delivered) = refl
refusal_parts (Ended Expired) = refl
refusal_parts _ = refl

pub refusal_told : (r : BookRefusal) (o : Option (Option ℕ)) → o ≡ told_number r → refusal_words r ++ option_map_or spaced_or_none o [] ≡ refusal_text r
refusal_told r o is = ap (λ o. refusal_words r ++ option_map_or spaced_or_none o []) is ∙ refusal_parts r

pub sealed_parts : (batch : ℕ) → codes " sealed" ++ spaced batch ≡ codes " " ++ numbered (codes "sealed ") batch
unfolding numbered
sealed_parts batch = refl

-- the line of an entry, by its place, its command and its reply
pub entry_put : (position lane told : ℕ) (command reply line a b new : List ℕ) → told ≡ lane → a ≡ line ++ (numbered [] position ++ (spaced told ++ [])) →
    b ≡ a ++ (codes " " ++ command) → new ≡ b ++ (codes " " ++ reply)
    → new ≡ line ++ (decimal position ++ spaced lane ++ codes " " ++ command ++ codes " " ++ reply)
unfolding numbered
entry_put position lane told command reply line a b new same is more last = search (rules, append_assoc)
