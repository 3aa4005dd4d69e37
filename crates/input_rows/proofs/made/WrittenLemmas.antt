use Rattle.std.proofs.Common.{◌≡◌, ℕ, ◌+◌, List, [], ◌∷◌, ◌++◌, refl, sym, ap, ◌∙◌, add-one}
use Rattle.input_rows.proofs.Common.{Stream, Field, csv_line, csv_lines, Part, plain, both, each, Writes}
use Rattle.std.proofs.lemmas.List.{append-nil, append_assoc}
use Rattle.std.proofs.lemmas.List.Concat.{flat_map-append}

-- the text of one row
pub one_row : (row : List Field) → csv_line row ≡ csv_lines (row ∷ [])
one_row row = sym (append-nil (csv_line row))

-- a row was written without a draw
pub Writes-plain : (row : List Field) (old new : List ℕ) (s : Stream) → new ≡ old ++ csv_line row → Writes (plain (row ∷ [])) old new s s
Writes-plain row old new s is = record { text = is ∙ ap (λ (t : List ℕ). old ++ t) (one_row row); left = refl }

-- two parts were written
pub Writes-both : (first second : Part) (old mid new : List ℕ) (s t u : Stream) → Writes first old mid s t → Writes second mid new t u →
    Writes (both first second) old new s u
Writes-both first second old mid new s t u here rest = record {
  text =
      rest.text ∙ ap (λ (r : List ℕ). r ++ csv_lines (second t).0) here.text ∙ append_assoc old (csv_lines (first s).0) (csv_lines (second t).0)
      ∙ ap (λ (v : Stream). old ++ (csv_lines (first s).0 ++ csv_lines (second v).0)) here.left
      ∙ ap (λ (x : List ℕ). old ++ x) (sym (flat_map-append csv_line (first s).0 (second (first s).1).0));
  left = rest.left ∙ ap (λ (v : Stream). (second v).1) here.left;
}

-- no part was written
pub Writes-none : (parts : ℕ → Part) (old : List ℕ) (s : Stream) → Writes (each parts 0) old old s s
Writes-none parts old s = record { text = sym (append-nil old); left = refl }

-- one more part was written
pub Writes-next : (parts : ℕ → Part) (n : ℕ) (old mid new : List ℕ) (s t u : Stream) → Writes (each parts n) old mid s t → Writes (parts n) mid new t u →
    Writes (each parts (n + 1)) old new s u
Writes-next parts n old mid new s t u before here = rw add-one (Writes-both (each parts n) (parts n) old mid new s t u before here)
