-- Rows of later rounds make further rounds.
use Rattle.std.proofs.Common.{rules, ◌≡◌, ◌≢◌, ℕ, ◌≤◌, ◌<◌, ◌&&◌, not, eqb, List, [], ◌∷◌, ◌++◌, map, fold, Some, refl, ap, subst, ◌∙◌, append-nil, arith}
use Rattle.std.proofs.lemmas.Bool.Decides.{nat_tests}
use Rattle.std.proofs.lemmas.List.{map-append}
use Rattle.std.proofs.lemmas.List.Elements.{All-filter, All-head, All-tail, All-nil, All-cons, All-weaker, filter-append}
use Rattle.std.specs.List.{All, filter, range_with_len}
use Rattle.pool_base.specs.Distinct.{distinct}
use Rattle.input_rows.specs.declared.script.script_row.ScriptRow.{ScriptRow}
use Rattle.input_rows.specs.script.Script.{round_of}
use Rattle.live_dispatch.specs.Live.{rows_rounds}
use Rattle.report_past.specs.Past.{last_round}
use Rattle.report_past.specs.Told.{AreScriptRows, IsLater}
use Rattle.request_book.specs.declared.values.command.Command.{Command}

abbrev numbers : List ScriptRow → List ℕ
numbers rows = map (λ l. l.round) rows

kept_all : (x : ℕ) (ys : List ℕ) → All (λ y. x < y) ys → filter (λ m. not (eqb m x)) ys ≡ ys
kept_all x [] all = refl
kept_all x (y ∷ ys) all = grind (arith, nat_tests, All-head (λ z. x < z) y ys all, kept_all x ys (All-tail (λ z. x < z) y ys all))

pub All-distinct : (P : ℕ → Type 0) (xs : List ℕ) → All P xs → All P (distinct xs)
All-distinct P [] all = all
All-distinct P (x ∷ xs) all =
    All-cons P x (filter (λ m. not (eqb m x)) (distinct xs)) (All-head P x xs all) (All-filter (λ m. not (eqb m x)) P (distinct xs)
    (All-distinct P xs (All-tail P x xs all)))

distinct-append : (n : ℕ) (xs ys : List ℕ) → All (λ x. x ≤ n) xs → All (λ y. n < y) ys → distinct (xs ++ ys) ≡ distinct xs ++ distinct ys
distinct-append n [] ys low high = refl
distinct-append n (x ∷ xs) ys low high =
    let p = λ (m : ℕ). not (eqb m x) in
    let first : x ≤ n = All-head (λ z. z ≤ n) x xs low in
    let rest = distinct-append n xs ys (All-tail (λ z. z ≤ n) x xs low) high in
    let further = All-weaker (λ y. n < y) (λ y. x < y) (λ y h. omega (arith, h, first)) (distinct ys) (All-distinct (λ y. n < y) ys high) in
    ap (λ zs. x ∷ filter p zs) rest ∙ ap (λ zs. x ∷ zs) (filter-append p (distinct xs) (distinct ys)) ∙
    ap (λ zs. x ∷ (filter p (distinct xs) ++ zs)) (kept_all x (distinct ys) further)

-- the commands of a round's lane
abbrev pub of_round : List ScriptRow → ℕ → ℕ → List Command
of_round rows number lane = map (λ l. l.command) (filter (λ l. eqb l.round number && eqb l.lane lane) rows)

of_round-append : (xs ys : List ScriptRow) (number lane : ℕ) → of_round (xs ++ ys) number lane ≡ of_round xs number lane ++ of_round ys number lane
of_round-append xs ys number lane = search (rules, filter-append, map-append)

of_round-none : (rows : List ScriptRow) (number lane : ℕ) → All (λ l. l.round ≢ number) rows → of_round rows number lane ≡ []
of_round-none [] number lane none = refl
of_round-none (row ∷ rows) number lane none =
    let here : row.round ≢ number = All-head (λ (l : ScriptRow). l.round ≢ number) row rows none in
    grind (arith, nat_tests, of_round-none rows number lane (All-tail (λ (l : ScriptRow). l.round ≢ number) row rows none))

map-on : {X Y : Type 0} (f g : X → Y) (xs : List X) → All (λ x. f x ≡ g x) xs → map f xs ≡ map g xs
map-on f g [] same = refl
map-on f g (x ∷ xs) same = (λ i. All-head (λ y. f y ≡ g y) x xs same i ∷ map-on f g xs (All-tail (λ y. f y ≡ g y) x xs same) i)

All-of : {X : Type 0} (P : X → Type 0) (xs : List X) → ((x : X) → P x) → All P xs
All-of P [] of = All-nil P
All-of P (x ∷ xs) of = All-cons P x xs (of x) (All-of P xs of)

pub All-numbers : (P : ℕ → Type 0) (rows : List ScriptRow) → All (λ l. P l.round) rows → All P (numbers rows)
All-numbers P [] all = All-nil P
All-numbers P (l ∷ ls) all = All-cons P l.round (numbers ls) (All-head (λ (k : ScriptRow). P k.round) l ls all)
    (All-numbers P ls (All-tail (λ (k : ScriptRow). P k.round) l ls all))

same_round : (xs ys : List ScriptRow) (number : ℕ) → ((lane : ℕ) → of_round xs number lane ≡ of_round ys number lane) → round_of xs number ≡ round_of ys number
same_round xs ys number same =
    ap (λ (ls : List (List Command)). record { number = number; lanes = ls })
    (map-on (of_round xs number) (of_round ys number) (range_with_len 0 16) (All-of (λ lane. of_round xs number lane ≡ of_round ys number lane)
    (range_with_len 0 16) same))

round-front : (n : ℕ) (xs ys : List ScriptRow) (number : ℕ) → All (λ l. n < l.round) ys → number ≤ n → round_of (xs ++ ys) number ≡ round_of xs number
round-front n xs ys number high low =
    let none = All-weaker (λ (l : ScriptRow). n < l.round) (λ (l : ScriptRow). l.round ≢ number) (λ l above e. omega (arith, above, e, low)) ys high in
    same_round (xs ++ ys) xs number (λ lane. of_round-append xs ys number lane ∙ ap (λ cs. of_round xs number lane ++ cs) (of_round-none ys number lane none) ∙
    append-nil (of_round xs number lane))

round-back : (n : ℕ) (xs ys : List ScriptRow) (number : ℕ) → All (λ l. l.round ≤ n) xs → n < number → round_of (xs ++ ys) number ≡ round_of ys number
round-back n xs ys number low high =
    let none = All-weaker (λ (l : ScriptRow). l.round ≤ n) (λ (l : ScriptRow). l.round ≢ number) (λ l below e. omega (arith, below, e, high)) xs low in
    same_round (xs ++ ys) ys number (λ lane. of_round-append xs ys number lane ∙ ap (λ cs. cs ++ of_round ys number lane) (of_round-none xs number lane none))

pub further_rounds : (n : ℕ) (xs ys : List ScriptRow) → All (λ l. l.round ≤ n) xs → All (λ l. n < l.round) ys →
    rows_rounds (xs ++ ys) ≡ rows_rounds xs ++ rows_rounds ys
further_rounds n xs ys low high =
    let lows = All-distinct (λ m. m ≤ n) (numbers xs) (All-numbers (λ m. m ≤ n) xs low) in
    let highs = All-distinct (λ m. n < m) (numbers ys) (All-numbers (λ m. n < m) ys high) in
    let all = round_of (xs ++ ys) in
    ap (λ ns. map all (distinct ns)) (map-append (λ (l : ScriptRow). l.round) xs ys)
    ∙ ap (λ ns. map all ns) (distinct-append n (numbers xs) (numbers ys) (All-numbers (λ m. m ≤ n) xs low) (All-numbers (λ m. n < m) ys high))
    ∙ map-append all (distinct (numbers xs)) (distinct (numbers ys))
    ∙ ap (λ rs. rs ++ map all (distinct (numbers ys)))
    (map-on all (round_of xs) (distinct (numbers xs)) (All-weaker (λ m. m ≤ n) (λ m. all m ≡ round_of xs m) (λ m is. round-front n xs ys m high is)
    (distinct (numbers xs)) lows))
    ∙ ap (λ rs. map (round_of xs) (distinct (numbers xs)) ++ rs)
    (map-on all (round_of ys) (distinct (numbers ys)) (All-weaker (λ m. n < m) (λ m. all m ≡ round_of ys m) (λ m is. round-back n xs ys m low is)
    (distinct (numbers ys)) highs))

-- the round of the last of rows that stand behind a round
abbrev pub top : ℕ → List ScriptRow → ℕ
top last [] = last
top last (row ∷ rows) = top row.round rows

pub top-last : (last : ℕ) (rows : List ScriptRow) → fold (λ _ (row : ScriptRow). Some row.round) (Some last) rows ≡ Some (top last rows)
top-last last [] = refl
top-last last (row ∷ rows) = top-last row.round rows

top-above : (last : ℕ) (rows : List ScriptRow) → AreScriptRows last rows → last ≤ top last rows
top-above last [] are = omega arith
top-above last (row ∷ rows) are = omega (arith, are.0.round, top-above row.round rows are.1)

pub top-most : (last : ℕ) (rows : List ScriptRow) → AreScriptRows last rows → All (λ l. l.round ≤ top last rows) rows
top-most last [] are = All-nil (λ (l : ScriptRow). l.round ≤ last)
top-most last (row ∷ rows) are = All-cons (λ (l : ScriptRow). l.round ≤ top row.round rows) row rows (top-above row.round rows are.1)
    (top-most row.round rows are.1)

pub later_rounds : (rows more : List ScriptRow) → AreScriptRows 0 rows → All (IsLater (last_round rows)) more →
    rows_rounds (rows ++ more) ≡ rows_rounds rows ++ rows_rounds more
later_rounds [] more are later = refl
later_rounds (row ∷ rows) more are later =
    further_rounds (top row.round rows) (row ∷ rows) more (top-most 0 (row ∷ rows) are) (subst (λ last. All (IsLater last) more) (top-last row.round rows)
    later)
