-- Line ends, and the empty lines before a head, are read as the grammar has them.
use Rattle.std.proofs.Common.{◌≡◌, ℕ, true, false, ◌&&◌, ◌==◌, cond, List, [], ◌∷◌, ◌++◌, refl, ap, ap₂, ◌∙◌, Option, Some, None}
use Rattle.std.proofs.lemmas.Bool.{cond-false, eqb-true, or_parts}
use Rattle.httparse.specs.Grammar.{LineEnd, crlf, lf, print_blank, print_end}
use Rattle.httparse.specs.Pieces.{Blank, BlankLines, Newline, Stops, is_newline}
use Rattle.http_heads.specs.Readers.{behind_cr, blank, empty_lines, line_end, with_line}
use Rattle.http_heads.proofs.Readers.{Reads, none_there, same_some}

-- line ends
cr_by : (text : List ℕ) (end : LineEnd) (rest : List ℕ) → behind_cr text ≡ Some (end, rest) → 13 ∷ text ≡ print_end end ++ rest
cr_by [] end rest is = none_there (end, rest) is
cr_by (x ∷ text) end rest is = elim (x == 10) as (λ t. (x == 10) ≡ t → cond {A = Option (LineEnd × List ℕ)} t (Some (crlf, text)) None ≡ Some (end, rest) → 13 ∷ x ∷ text ≡ print_end end ++ rest) [
  | true ↦ λ h i.
      ap (λ b. 13 ∷ b ∷ text) (eqb-true x 10 h) ∙ ap (λ (p : LineEnd × List ℕ). print_end p.0 ++ p.1) (same_some (crlf, text) (end, rest) i)
  | false ↦ λ h i. none_there (end, rest) i
] refl is

pub end_by : (text : List ℕ) (end : LineEnd) (rest : List ℕ) → line_end text ≡ Some (end, rest) → text ≡ print_end end ++ rest
end_by [] end rest is = none_there (end, rest) is
end_by (x ∷ text) end rest is =
    elim (x == 10) as (λ t. (x == 10) ≡ t → cond {A = Option (LineEnd × List ℕ)} t (Some (lf, text)) (cond (x == 13) (behind_cr text) None) ≡ Some (end, rest) → x ∷ text ≡ print_end end ++ rest) [
      | true ↦ λ h i.
          ap (λ b. b ∷ text) (eqb-true x 10 h) ∙ ap (λ (p : LineEnd × List ℕ). print_end p.0 ++ p.1) (same_some (lf, text) (end, rest) i)
      | false ↦ λ h. elim (x == 13) as (λ t. (x == 13) ≡ t → cond t (behind_cr text) None ≡ Some (end, rest) → x ∷ text ≡ print_end end ++ rest) [
        | true ↦ λ c i. ap (λ b. b ∷ text) (eqb-true x 13 c) ∙ cr_by text end rest i
        | false ↦ λ c i. none_there (end, rest) i
      ] refl
    ] refl is

pub ends : (end : LineEnd) (rest : List ℕ) → line_end (print_end end ++ rest) ≡ Some (end, rest)
ends crlf rest = refl
ends lf rest = refl

pub line_end_read : Reads line_end Newline Newline
line_end_read = record { sound = end_by; whole = λ end text rest is. ap line_end is ∙ ends end rest }

pub no_end : (text : List ℕ) → Stops is_newline text → line_end text ≡ None
no_end [] stops = absurd stops
no_end (x ∷ text) stops =
    let other = or_parts (x == 13) (x == 10) stops in
    cond-false (x == 10) _ _ other.1 ∙ cond-false (x == 13) _ _ other.0

-- empty lines
lines_back : (text : List ℕ) → text ≡ print_blank (empty_lines text).0 ++ (empty_lines text).1
lines_back [] = refl
lines_back (x ∷ []) =
    elim (x == 10) as (λ t. (x == 10) ≡ t → x ∷ [] ≡ print_blank (cond {A = List LineEnd × List ℕ} t (lf ∷ [], []) ([], x ∷ [])).0 ++ (cond {A = List LineEnd × List ℕ} t (lf ∷ [], []) ([], x ∷ [])).1) [
      | true ↦ λ h. ap (λ b. b ∷ []) (eqb-true x 10 h)
      | false ↦ λ h. refl
    ] refl
lines_back (x ∷ y ∷ rest) =
    elim (x == 10) as (λ t. (x == 10) ≡ t
    → x ∷ y ∷ rest ≡ print_blank (cond {A = List LineEnd × List ℕ} t (with_line lf (empty_lines (y ∷ rest))) (cond {A = List LineEnd × List ℕ} (x == 13 && y == 10) (with_line crlf (empty_lines rest)) ([], x ∷ y ∷ rest))).0
    ++ (cond {A = List LineEnd × List ℕ} t (with_line lf (empty_lines (y ∷ rest))) (cond {A = List LineEnd × List ℕ} (x == 13 && y == 10) (with_line crlf (empty_lines rest)) ([], x ∷ y ∷ rest))).1) [
      | true ↦ λ h. ap₂ (λ b bs. b ∷ bs) (eqb-true x 10 h) (lines_back (y ∷ rest))
      | false ↦ λ h. elim (x == 13) as (λ t. (x == 13) ≡ t
          → x ∷ y ∷ rest ≡ print_blank (cond {A = List LineEnd × List ℕ} (t && y == 10) (with_line crlf (empty_lines rest)) ([], x ∷ y ∷ rest)).0
          ++ (cond {A = List LineEnd × List ℕ} (t && y == 10) (with_line crlf (empty_lines rest)) ([], x ∷ y ∷ rest)).1) [
            | true ↦ λ c. elim (y == 10) as (λ t. (y == 10) ≡ t
                → x ∷ y ∷ rest ≡ print_blank (cond {A = List LineEnd × List ℕ} t (with_line crlf (empty_lines rest)) ([], x ∷ y ∷ rest)).0 ++ (cond {A = List LineEnd × List ℕ} t (with_line crlf (empty_lines rest)) ([], x ∷ y ∷ rest)).1) [
                  | true ↦ λ l. ap₂ (λ b bs. b ∷ bs) (eqb-true x 13 c) (ap₂ (λ b bs. b ∷ bs) (eqb-true y 10 l) (lines_back rest))
                  | false ↦ λ l. refl
                ] refl
            | false ↦ λ c. refl
          ] refl
    ] refl

no_lines : (rest : List ℕ) → Stops is_newline rest → empty_lines rest ≡ ([], rest)
no_lines [] stops = absurd stops
no_lines (x ∷ []) stops = cond-false (x == 10) _ _ (or_parts (x == 13) (x == 10) stops).1
no_lines (x ∷ y ∷ rest) stops =
    let other = or_parts (x == 13) (x == 10) stops in
    cond-false (x == 10) _ _ other.1 ∙ ap (λ t. cond {A = List LineEnd × List ℕ} (t && y == 10) (with_line crlf (empty_lines rest)) ([], x ∷ y ∷ rest)) other.0

lf_line : (text : List ℕ) → empty_lines (10 ∷ text) ≡ with_line lf (empty_lines text)
lf_line [] = refl
lf_line (x ∷ text) = refl

lines_are : (blanks : List LineEnd) (rest : List ℕ) → Stops is_newline rest → empty_lines (print_blank blanks ++ rest) ≡ (blanks, rest)
lines_are [] rest stops = no_lines rest stops
lines_are (crlf ∷ blanks) rest stops = ap (with_line crlf) (lines_are blanks rest stops)
lines_are (lf ∷ blanks) rest stops = lf_line (print_blank blanks ++ rest) ∙ ap (with_line lf) (lines_are blanks rest stops)

pub blank_read : Reads blank BlankLines Blank
blank_read = record {
  sound = λ text blanks rest is.
      lines_back text ∙ ap (λ (p : List LineEnd × List ℕ). print_blank p.0 ++ p.1) (same_some (empty_lines text) (blanks, rest) is);
  whole = λ blanks text rest is. ap blank is.0 ∙ ap Some (lines_are blanks rest is.1);
}
