use Rattle.std.proofs.lemmas.Bool.Decides.{nat_tests}
use Rattle.std.proofs.Common.{
  rules,
  ◌≡◌,
  ℕ,
  suc,
  ◌+◌,
  ◌<◌,
  ◌≤◌,
  ◌^◌,
  Bool,
  true,
  false,
  not,
  cond,
  List,
  [],
  ◌∷◌,
  ◌++◌,
  Option,
  Some,
  None,
  length,
  get_or,
  take,
  nat_eq,
  refl,
  ap,
  subst,
  ◌∙◌,
  lit≤,
  arith,
}
use Rattle.std.specs.List.{list_all, prefix_len}
use Rattle.std.specs.Option.{option_map, option_or}
use Rattle.std.proofs.lemmas.List.{append_assoc, length-append, take_at, drop_at, length_push}
use Rattle.std.proofs.lemmas.Bool.{and_parts, lt-ltb, leb-true}
use Rattle.pool_base.specs.declared.which.Which.TheVariants.{Network}
use Rattle.pool_base.specs.Number.{value_of}
use Rattle.pool_base.specs.Numeral.{is_numeral}
use Rattle.pool_base.proofs.lemmas.InOrderLemmas.{first_fault-each}
use Rattle.pool_base.proofs.lemmas.NumeralLemmas.{number_up_to-some}
use Rattle.rider_limits.specs.declared.subcommand.Subcommand.{Subcommand}
use Rattle.rider_limits.specs.declared.subcommand.Subcommand.TheVariants.{Run, Load, Drive, Audit, Resume}
use Rattle.rider_limits.specs.declared.key.Key.{Key}
use Rattle.rider_limits.specs.declared.key.Key.TheVariants.{Input, Notices, Times}
use Rattle.rider_limits.specs.declared.key.Takes.TheVariants.{Number}
use Rattle.rider_limits.specs.Key.{about, key_of, accepts}
use Rattle.rider_limits.specs.work.Taken.{IsNumber, IsAccepted}
use Rattle.rider_limits.specs.Words.{after_key, text_given, option_of, option_fault}
use Rattle.rider_limits.specs.work.Named.{words_fault, fault_at}
use Rattle.rider_limits.proofs.WordsLemmas.{after_key-some}

-- a front that passes, before one that fails, is the longest front that passes
prefix_len-front : (p : ℕ → Bool) (xs : List ℕ) (y : ℕ) (ys : List ℕ) → list_all p xs ≡ true → p y ≡ false → prefix_len p (xs ++ y ∷ ys) ≡ length xs
prefix_len-front p [] y ys pass fails = ap (λ b. cond b (1 + prefix_len p ys) 0) fails
prefix_len-front p (x ∷ xs) y ys pass fails = search (rules, and_parts, (prefix_len-front p xs y ys))

-- no key's name has `=` in it
name_lacks_equals : (key : Key) → list_all (λ c. not (nat_eq c 61)) (about key).name ≡ true
name_lacks_equals (Input Network) = refl
name_lacks_equals (Input _) = refl
name_lacks_equals Notices = refl
name_lacks_equals _ = refl

-- a key is found by its name, where the command has it
key_of-name : (command : Subcommand) (key : Key) → key_of command (about key).name ≡ cond ((about key).has command) (Some key) None
unfolding key_of
key_of-name Run (Input Network) = refl
key_of-name Load (Input Network) = refl
key_of-name Drive (Input Network) = refl
key_of-name Audit (Input Network) = refl
key_of-name Resume (Input Network) = refl
key_of-name _ _ = refl

-- a word of a key's name, `=` and a text gives that key and text, where the command has the key
option_of-named : (command : Subcommand) (key : Key) (word text : List ℕ) → word ≡ (about key).name ++ 61 ∷ text →
    option_of command word ≡ option_map (λ k. (k, text)) (cond ((about key).has command) (Some key) None)
unfolding option_of
option_of-named command key word text is = search (
  rules,
  prefix_len-front,
  name_lacks_equals,
  length-append,
  lt-ltb,
  take_at,
  append_assoc,
  drop_at,
  length_push,
  key_of-name,
)

-- a key and a text without a fault, where the command has the key
has-faultless : (key : Key) (earlier : List (List ℕ)) (place : ℕ) (text : List ℕ) (has : Bool) →
    option_fault earlier place (option_map (λ k. (k, text)) (cond has (Some key) None)) ≡ None → accepts (about key).takes text ≡ true
has-faultless key earlier place text true none = grind (arith, nat_tests)
has-faultless key earlier place text false none = absurd cc

-- a word without a fault gives a key of the command a text that the key takes
faultless : (command : Subcommand) (key : Key) (earlier : List (List ℕ)) (place : ℕ) (word text : List ℕ) → word ≡ (about key).name ++ 61 ∷ text →
    option_fault earlier place (option_of command word) ≡ None → accepts (about key).takes text ≡ true
faultless command key earlier place word text is none =
    has-faultless key earlier place text ((about key).has command) (subst (λ o. option_fault earlier place o ≡ None) (option_of-named command key word text is)
    none)

-- a text that words give stands in the first of them that begins with the key
text_given-at : (key : List ℕ) (words : List (List ℕ)) (text : List ℕ) → text_given key words ≡ Some text →
    (i : ℕ) × (i < length words) × (after_key key (get_or words i []) ≡ Some text)
text_given-at key [] text given = absurd (let e : None ≡ Some text = given in cc)
text_given-at key (word ∷ words) text given = by_first (λ given. text_given-at key words text given) (after_key key word) refl given
  where
    by_first : (text_given key words ≡ Some text → (i : ℕ) × (i < length words) × (after_key key (get_or words i []) ≡ Some text)) → (o : Option (List ℕ)) →
        after_key key word ≡ o → option_or o (text_given key words) ≡ Some text → (i : ℕ) × (i < length (word ∷ words)) ×
        (after_key key (get_or (word ∷ words) i []) ≡ Some text)
    by_first later None here given = (let rest = later given in (suc rest.0, omega (arith, rest.1), rest.2))
    by_first later (Some t) here given = (0, omega arith, here ∙ given)

-- words without a fault give each key a text that it takes
given_is_accepted : (command : Subcommand) (key : Key) (words : List (List ℕ)) (text : List ℕ) → words_fault command words ≡ None →
    text_given (about key).name words ≡ Some text → accepts (about key).takes text ≡ true
given_is_accepted command key words text none given =
    let at = text_given-at (about key).name words text given in
    faultless command key (take at.0 words) (at.0 + 2) (get_or words at.0 []) text (after_key-some (about key).name (get_or words at.0 []) text at.2)
    (first_fault-each (fault_at command words) (length words) at.0 none at.1)

-- a text that a range takes is a numeral, and its value is of the range
pub record IsValueIn (least greatest : ℕ) (text : List ℕ) : Type 0 where
  pub numeral : is_numeral text ≡ true
  pub low : least ≤ value_of text
  pub high : value_of text ≤ greatest

pub accepts-number : (least greatest : ℕ) (text : List ℕ) → accepts (Number least greatest) text ≡ true → IsValueIn least greatest text
accepts-number least greatest text good = search (rules, number_up_to-some, leb-true)

-- a text that a key takes as a number
pub record IsTakenText (key : Key) (text : List ℕ) : Type 0 where
  pub numeral : is_numeral text ≡ true
  pub small : value_of text < 2 ^ 64
  pub taken : IsAccepted (about key).takes (value_of text)

number_taken : (key : Key) (least greatest : ℕ) (text : List ℕ) → (about key).takes ≡ Number least greatest → greatest ≤ 1000000000 →
    accepts (about key).takes text ≡ true → IsTakenText key text
number_taken key least greatest text is small good = search (rules, accepts-number)

pub accepted_is_taken : (key : Key) (text : List ℕ) → IsNumber (about key).takes → accepts (about key).takes text ≡ true → IsTakenText key text
accepted_is_taken (Input which) text number good = absurd number
accepted_is_taken Notices text number good = absurd number
accepted_is_taken Times text number good = absurd number
accepted_is_taken key text number good = number_taken key _ _ text refl (lit≤ tt) good

-- words without a fault give a key of numbers a numeral that it takes
pub given_is_taken : (command : Subcommand) (key : Key) (words : List (List ℕ)) (text : List ℕ) → words_fault command words ≡ None →
    IsNumber (about key).takes → text_given (about key).name words ≡ Some text → IsTakenText key text
given_is_taken command key words text none number given = search (rules, accepted_is_taken, given_is_accepted)
