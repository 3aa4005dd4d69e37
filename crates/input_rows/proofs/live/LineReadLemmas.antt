-- A line without a quote, read by itself and in a text.
use Rattle.std.proofs.Common.{◌≡◌, ℕ, zero, suc, Bool, true, false, cond, eqb, List, [], ◌∷◌, ◌++◌, map, take, Option, Some, refl, sym, ap, subst, ◌∙◌, arith}
use Rattle.std.specs.Prelude.{◌||◌, ◌&&◌, Contains}
use Rattle.std.specs.List.{onto_first, slice_split}
use Rattle.std.proofs.lemmas.Bool.{eqb-true}
use Rattle.csv.specs.Machine.{Read, after_end, field_after, fields_after, is_end, step}
unfoldable use Rattle.csv.specs.Machine.{next_record}
use Rattle.csv.specs.Reading.{default_config}
use Rattle.csv.specs.declared.parser.Action.{Action}
use Rattle.csv.specs.declared.parser.Action.TheVariants as act
use Rattle.csv.specs.declared.parser.State.{State}
use Rattle.csv.specs.declared.parser.State.TheVariants as st
use Rattle.csv.specs.declared.parser.Terminator.TheVariants as term
use Rattle.input_rows.specs.live.Lines.{ends_line, front_of, lines_in}

-- a byte that is no quote and ends no line
abbrev pub IsPlain : ℕ → Type 0
IsPlain c = (eqb c 34 ≡ false) × (eqb c 13 ≡ false) × (eqb c 10 ≡ false)

abbrev pub AllPlain : List ℕ → Type 0
AllPlain [] = Unit {0}
AllPlain (c ∷ cs) = IsPlain c × AllPlain cs

-- within a record, and outside of quotes
abbrev Going : State → Type 0
Going st.StartField = Unit {0}
Going st.InField = Unit {0}
Going _ = ⊥

step-comma : (s : State) → Going s → step default_config s 44 ≡ (st.StartField, act.EndField)
step-comma st.StartField going = refl
step-comma st.InField going = refl
step-comma _ going = absurd going

step-end : (s : State) → Going s → step default_config s 10 ≡ (st.StartRecord, act.EndRecord)
step-end st.StartField going = refl
step-end st.InField going = refl
step-end _ going = absurd going

step-plain : (s : State) (c : ℕ) → Going s → IsPlain c → eqb c 44 ≡ false → step default_config s c ≡ (st.InField, act.Copy)
step-plain st.InField c going plain other =
    λ i. cond (other i) (st.StartField, act.EndField) (cond (plain.1 i || plain.2 i) (after_end term.CRLF c, act.EndRecord) (st.InField, act.Copy))
step-plain st.StartField c going plain other =
    λ i. cond (true && plain.0 i) (st.InQuoted, act.Skip) (cond (other i) (st.StartField, act.EndField)
    (cond (plain.1 i || plain.2 i) (after_end term.CRLF c, act.EndRecord) (st.InField, act.Copy)))
step-plain _ c going plain other = absurd going

-- a plain byte begins a record as it goes on in one
step-first : (c : ℕ) → IsPlain c → step default_config st.StartRecord c ≡ step default_config st.StartField c
step-first c plain = λ i. cond (plain.1 i || plain.2 i) (st.StartRecord, act.Skip) (step default_config st.StartField c)

-- the next record, by what its first byte does
abbrev after : List (List ℕ) → List ℕ → ℕ → List ℕ → State × Action → Option Read
after fields field c rest p =
    cond (is_end p.1) (Some (fields_after p.1 fields field, p.0, rest)) (next_record default_config p.0 (fields_after p.1 fields field)
    (field_after p.1 c field) rest)

-- a line gives one record, alone and before others
pub record IsLineRead (s : State) (fields : List (List ℕ)) (field line : List ℕ) (all : List (List ℕ)) : Type 0 where
  pub alone : next_record default_config s fields field line ≡ Some (all, st.StartRecord, [])
  pub followed : (tail : List ℕ) → next_record default_config s fields field (line ++ 10 ∷ tail) ≡ Some (all, st.StartRecord, tail)

read-end : (s : State) (fields : List (List ℕ)) (field : List ℕ) → Going s → next_record default_config s fields field [] ≡ Some
    (fields ++ field ∷ [], st.StartRecord, [])
unfolding next_record
read-end st.StartField fields field going = refl
read-end st.InField fields field going = refl
read-end _ fields field going = absurd going

line-read : (s : State) (fields : List (List ℕ)) (field line : List ℕ) → Going s → AllPlain line → (all : List (List ℕ)) × IsLineRead s fields field line all
unfolding next_record
line-read s fields field [] going plain =
    (fields ++ field ∷ [], record { alone = read-end s fields field going; followed = λ tail. ap (after fields field 10 tail) (step-end s going) })
line-read s fields field (c ∷ line) going plain = by (λ t fs f goes. line-read t fs f line goes plain.1) (eqb c 44) refl
  where
    by : ((t : State) (fs : List (List ℕ)) (f : List ℕ) → Going t → (all : List (List ℕ)) × IsLineRead t fs f line all) → (b : Bool) → eqb c 44 ≡ b
        → (all : List (List ℕ)) × IsLineRead s fields field (c ∷ line) all
    by behind true is =
        let comma : step default_config s c ≡ (st.StartField, act.EndField) = subst (λ k. step default_config s k ≡ (st.StartField, act.EndField))
        (sym (eqb-true c 44 is)) (step-comma s going) in
        let (all, r) = behind st.StartField (fields ++ field ∷ []) [] tt in (
          all,
          record {
            alone = ap (after fields field c line) comma ∙ r.alone;
            followed = λ tail. ap (after fields field c (line ++ 10 ∷ tail)) comma ∙
                r.followed tail;
          },
        )
    by behind false is =
        let copied = step-plain s c going plain.0 is in
        let (all, r) = behind st.InField fields (field ++ c ∷ []) tt in (
          all,
          record {
            alone = ap (after fields field c line) copied ∙ r.alone;
            followed = λ tail. ap (after fields field c (line ++ 10 ∷ tail)) copied ∙
                r.followed tail;
          },
        )

-- a line that isn't empty, from the start of a record
pub whole-read : (c : ℕ) (line : List ℕ) → AllPlain (c ∷ line) → (all : List (List ℕ)) × IsLineRead st.StartRecord [] [] (c ∷ line) all
unfolding next_record
whole-read c line plain =
    let (all, r) = line-read st.StartField [] [] (c ∷ line) tt plain in
    let first = step-first c plain.0 in
    (all, record { alone = ap (after [] [] c line) first ∙ r.alone; followed = λ tail. ap (after [] [] c (line ++ 10 ∷ tail)) first ∙ r.followed tail })

-- the lines of a text without a quote are plain
abbrev pub AllLinesPlain : List (List ℕ) → Type 0
AllLinesPlain [] = Unit {0}
AllLinesPlain (line ∷ lines) = AllPlain line × AllLinesPlain lines

no-quote : (c : ℕ) (text : List ℕ) → (Contains (c ∷ text) 34 → ⊥) → (b : Bool) → eqb c 34 ≡ b → b ≡ false
no-quote c text none true is = absurd (none (0, omega arith, eqb-true c 34 is))
no-quote c text none false is = refl

none-behind : (c : ℕ) (text : List ℕ) → (Contains (c ∷ text) 34 → ⊥) → Contains text 34 → ⊥
none-behind c text none has = none (suc has.0, omega (arith, has.1), has.2)

onto-plain : (c : ℕ) (parts : List (List ℕ)) → IsPlain c → AllLinesPlain parts → AllLinesPlain (onto_first c parts)
onto-plain c [] here plain = ((here, tt), tt)
onto-plain c (part ∷ parts) here plain = ((here, plain.0), plain.1)

split-byte : (c : ℕ) (parts : List (List ℕ)) (one two : Bool) → eqb c 10 ≡ one → eqb c 13 ≡ two → eqb c 34 ≡ false → AllLinesPlain parts →
    AllLinesPlain (cond (one || two) ([] ∷ parts) (onto_first c parts))
split-byte c parts true two feed ret quote plain = (tt, plain)
split-byte c parts false true feed ret quote plain = (tt, plain)
split-byte c parts false false feed ret quote plain = onto-plain c parts (quote, ret, feed) plain

split-plain : (text : List ℕ) → (Contains text 34 → ⊥) → AllLinesPlain (slice_split ends_line text)
split-plain [] none = (tt, tt)
split-plain (c ∷ text) none =
    split-byte c (slice_split ends_line text) (eqb c 10) (eqb c 13) refl refl (no-quote c text none (eqb c 34) refl)
    (split-plain text (none-behind c text none))

take-plain : (n : ℕ) (line : List ℕ) → AllPlain line → AllPlain (take n line)
take-plain zero line plain = tt
take-plain (suc n) [] plain = tt
take-plain (suc n) (c ∷ line) plain = (plain.0, take-plain n line plain.1)

fronts-plain : (lines : List (List ℕ)) → AllLinesPlain lines → AllLinesPlain (map front_of lines)
fronts-plain [] plain = tt
fronts-plain (line ∷ lines) plain = (take-plain 65537 line plain.0, fronts-plain lines plain.1)

pub lines-plain : (text : List ℕ) → (Contains text 34 → ⊥) → AllLinesPlain (lines_in text)
lines-plain text none = fronts-plain (slice_split ends_line text) (split-plain text none)
