use Rattle.std.proofs.Common.{
  rules,
  ◌≡◌,
  ◌≢◌,
  ℕ,
  ◌+◌,
  ◌<◌,
  true,
  cond,
  List,
  [],
  ◌∷◌,
  ◌++◌,
  Option,
  Some,
  None,
  MatchOption,
  length,
  get_or,
  take,
  drop,
  map,
  nat_eq,
  refl,
  sym,
  ap,
  ◌∙◌,
  inl,
  inr,
}
use Rattle.std.specs.List.{starts_with, position_or_len, before_first, after_first}
use Rattle.std.specs.Borrow.{Bor}
use Rattle.std.specs.Option.{option_copied, option_map}
use Rattle.std.proofs.lemmas.List.{append_assoc, append_cancel_left, drop_at, length_push, length-map, get_or-map, take-map}
use Rattle.std.proofs.lemmas.Bool.{cases_Bool, le-ltb, lt-ltb}
use Rattle.std.proofs.lemmas.Option.{MatchOption-at_some, MatchOption-at_none}
use Rattle.std.proofs.lemmas.Bool.Decides.{Decides-eqb}
use Rattle.std.proofs.lemmas.Slice.Eq.{starts_is}
use Rattle.pool_base.specs.InOrder.{first_fault}
use Rattle.pool_base.proofs.lemmas.InOrderLemmas.{first_fault-none, first_fault-some}
use Rattle.rider_limits.specs.declared.subcommand.Subcommand.{Subcommand}
use Rattle.rider_limits.specs.declared.word_fault.WordFault.{WordFault}
use Rattle.rider_limits.specs.Key.{key_of}
use Rattle.rider_limits.specs.Words.{after_key, option_of, option_fault}
use Rattle.rider_limits.specs.work.Named.{words_fault, fault_at}

-- a word that begins with the key and `=` gives what stands behind them
pub after_key-found : (key word rest : List ℕ) → word ≡ key ++ 61 ∷ rest → after_key key word ≡ Some rest
unfolding after_key
after_key-found key word rest is =
    let front : List ℕ = key ++ 61 ∷ [] in
    let whole : word ≡ front ++ rest = is ∙ sym (append_assoc key (61 ∷ []) rest) in
    let begins : starts_with nat_eq word front ≡ true = (starts_is Decides-eqb word front (starts_with nat_eq word front) refl).1 rest whole in
    let left : drop (length key + 1) word ≡ rest = ap (drop (length key + 1)) whole ∙ drop_at front rest (length key + 1) (length_push key 61) in
    ap (λ b. cond b (Some (drop (length key + 1) word)) None) begins ∙ ap (λ r. Some r) left

-- a word that doesn't gives nothing
pub after_key-lacks : (key word : List ℕ) → ((rest : List ℕ) → word ≢ key ++ 61 ∷ rest) → after_key key word ≡ None
unfolding after_key
after_key-lacks key word lacks =
    let front : List ℕ = key ++ 61 ∷ [] in
    let begins = starts_is Decides-eqb word front (starts_with nat_eq word front) refl in
    elim (cases_Bool (starts_with nat_eq word front)) [
      | inl is_true ↦ absurd (lacks (drop (length front) word) (begins.0 is_true ∙ append_assoc key (61 ∷ []) (drop (length front) word)))
      | inr is_false ↦ ap (λ b. cond b (Some (drop (length key + 1) word)) None) is_false
    ]

-- what a word gives stands in it behind the key and `=`
pub after_key-some : (key word rest : List ℕ) → after_key key word ≡ Some rest → word ≡ key ++ 61 ∷ rest
unfolding after_key
after_key-some key word rest given =
    let front : List ℕ = key ++ 61 ∷ [] in
    let begins = starts_is Decides-eqb word front (starts_with nat_eq word front) refl in
    elim (cases_Bool (starts_with nat_eq word front)) [
      | inl is_true ↦
          let whole : word ≡ front ++ drop (length front) word = begins.0 is_true in
          let is : Some (drop (length key + 1) word) ≡ Some rest = sym (ap (λ b. cond b (Some (drop (length key + 1) word)) None) is_true) ∙ given in
          let left : drop (length front) word ≡ rest = ap (λ n. drop n word) (length_push key 61) ∙ (let e : drop (length key + 1) word ≡ rest = cc in e) in
          whole ∙ ap (λ r. front ++ r) left ∙ append_assoc key (61 ∷ []) rest
      | inr is_false ↦ (let e : None ≡ Some rest = sym (ap (λ b. cond b (Some (drop (length key + 1) word)) None) is_false) ∙ given in cc)
    ]

-- where a word begins with the key, what stands behind `=` in the rest is what it gives
pub after_key-from : (key word rest : List ℕ) (r : Option (Bor (List ℕ))) → word ≡ key ++ rest →
    MatchOption r ((t : List ℕ) → rest ≢ 61 ∷ t) (λ x. rest ≡ 61 ∷ x.now) → option_copied r ≡ after_key key word
after_key-from key word rest None begins lacks = search (rules, after_key-lacks, append_cancel_left)
after_key-from key word rest (Some x) begins is = search (rules, after_key-found)

-- what `split_once` says of a word and `=`
abbrev pub Parts : List ℕ → Option (Bor (List ℕ) × Bor (List ℕ)) → Type 0
Parts word r =
    MatchOption r (position_or_len (λ c. nat_eq c 61) word ≡ length word)
    (λ x. (position_or_len (λ c. nat_eq c 61) word < length word) × (x.0.now ≡ before_first (λ c. nat_eq c 61) word) ×
    (x.1.now ≡ after_first (λ c. nat_eq c 61) word))

-- a word without `=` gives no key
pub option_of-lacks : (command : Subcommand) (word : List ℕ) (r : Option (Bor (List ℕ) × Bor (List ℕ))) → Parts word r → r ≡ None →
    option_of command word ≡ None
unfolding option_of
option_of-lacks command word r parts none = search (rules, MatchOption-at_none, le-ltb)

-- a word with `=` gives the key of what stands before it, and what stands behind it
pub option_of-parts : (command : Subcommand) (word : List ℕ) (r : Option (Bor (List ℕ) × Bor (List ℕ))) (x : Bor (List ℕ) × Bor (List ℕ)) → Parts word r →
    r ≡ Some x → option_of command word ≡ option_map (λ key. (key, x.1.now)) (key_of command x.0.now)
unfolding option_of
option_of-parts command word r x parts some = search (rules, MatchOption-at_some, lt-ltb)

-- what a word says among all words is what is wrong at its place
fault_at-word : {X : Type 0} (f : X → List ℕ) (command : Subcommand) (xs : List X) (i : ℕ) (x : X) → i < length xs → x ≡ get_or xs i x →
    fault_at command (map f xs) i ≡ option_fault (map f (take i xs)) (i + 2) (option_of command (f x))
fault_at-word f command xs i x within is = search (rules, take-map, get_or-map)

-- a word without a fault
pub words_fault-step : {X : Type 0} (f : X → List ℕ) (command : Subcommand) (xs : List X) (i : ℕ) (x : X) → i < length xs → x ≡ get_or xs i x →
    option_fault (map f (take i xs)) (i + 2) (option_of command (f x)) ≡ None → first_fault (fault_at command (map f xs)) i ≡ None →
    first_fault (fault_at command (map f xs)) (i + 1) ≡ None
words_fault-step f command xs i x within is none before = search (rules, first_fault-none, fault_at-word)

-- the first word with a fault
pub words_fault-here : {X : Type 0} (f : X → List ℕ) (command : Subcommand) (xs : List X) (i : ℕ) (x : X) (fault : WordFault) → i < length xs →
    x ≡ get_or xs i x → option_fault (map f (take i xs)) (i + 2) (option_of command (f x)) ≡ Some fault → first_fault (fault_at command (map f xs)) i ≡ None →
    words_fault command (map f xs) ≡ Some fault
words_fault-here f command xs i x fault within is some before = search (rules, length-map, first_fault-some, fault_at-word)
