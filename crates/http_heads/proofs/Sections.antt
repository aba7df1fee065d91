-- Field lines, and the empty line that ends them, are read as the grammar has them.
use Rattle.std.proofs.Common.{◌≡◌, ℕ, zero, suc, List, [], ◌∷◌, ◌++◌, refl, sym, ap, subst, ◌∙◌, arith, append_assoc, Option, Some, None}
use Rattle.std.specs.List.{flat_map}
use Rattle.std.proofs.lemmas.List.Elements.{All-cons, All-head, All-nil, All-tail}
use Rattle.httparse.specs.Grammar.{Field, IsField, LineEnd, is_token_byte, print_end, print_field, print_section}
use Rattle.httparse.specs.Pieces.{FieldLine, Piece, SectionOfAtMost, Text, Then, Word}
use Rattle.httparse.proofs.PieceLemmas.{FieldLine_parts, Stops-FieldLine, print_field-append}
use Rattle.http_heads.specs.Readers.{FieldParts, Lines, and_then, field, field_of, line_end, line_text, lines, lines_by, with_first, word}
use Rattle.http_heads.proofs.Readers.{Reads, both_read, none_there, same_some, word_read}
use Rattle.http_heads.proofs.LineEnds.{end_by, line_end_read, no_end}
use Rattle.http_heads.proofs.StartLines.{text_read}

-- field lines
pub name_read : Reads (word is_token_byte 58) (Word is_token_byte 58) (Word is_token_byte 58)
unfolding is_token_byte
name_read = word_read is_token_byte 58 refl refl

abbrev FieldPiece : Piece FieldParts
FieldPiece = Then (Word is_token_byte 58) Text

field_read : Reads field FieldPiece FieldPiece
field_read = both_read (word is_token_byte 58) line_text (Word is_token_byte 58) (Word is_token_byte 58) Text Text name_read text_read

as_line : (parts : FieldParts) (text rest : List ℕ) → FieldPiece parts text rest → FieldLine (field_of parts) text rest
as_line parts text rest is = (
  record { name = (is.1.0, is.1.1); raw = is.2.0 },
  is.1.2 ∙ ap (λ t. parts.0 ++ 58 ∷ t) is.2.1 ∙ sym (print_field-append (field_of parts) rest),
)

abbrev One : ℕ → Piece (FieldParts × Lines)
One room = Then FieldPiece (SectionOfAtMost room)

no_more : (room : ℕ) (text : List ℕ) (found : LineEnd × List ℕ) → line_end text ≡ Some found → (s : Lines) (rest : List ℕ) → ◌≡◌ {A = Option (Lines × List ℕ)} (Some (([], found.0), found.1)) (Some (s, rest)) → SectionOfAtMost room s text rest
no_more room text found e s rest is =
    subst (λ (p : Lines × List ℕ). SectionOfAtMost room p.0 text p.1) (same_some (([], found.0), found.1) (s, rest) is)
    ((All-nil IsField, end_by text found.0 found.1 e), omega arith)

one_more : (room : ℕ) (text : List ℕ) (parts : FieldParts) (s : Lines) (rest : List ℕ) → One room (parts, s) text rest → SectionOfAtMost (suc room) (field_of parts ∷ s.0, s.1) text rest
one_more room text parts s rest is =
    let line = as_line parts text is.0 is.1 in
    let fields = s.0 in (
      (
        All-cons IsField (field_of parts) fields line.0 is.2.0.0,
        line.1 ∙ ap (λ t. print_field (field_of parts) ++ t) is.2.0.1
            ∙ sym (append_assoc (print_field (field_of parts)) (print_section fields s.1) rest)
            ∙ sym (ap (λ t. t ++ rest) (append_assoc (print_field (field_of parts)) (flat_map print_field fields) (print_end s.1))),
      ),
      (let few = is.2.1 in omega (arith, few)),
    )

more_by : (room : ℕ) (text : List ℕ) (found : Option ((FieldParts × Lines) × List ℕ))
    → ((parts : FieldParts × Lines) (rest : List ℕ) → found ≡ Some (parts, rest) → One room parts text rest)
    → (s : Lines) (rest : List ℕ) → lines_by None found ≡ Some (s, rest) → SectionOfAtMost (suc room) s text rest
more_by room text None one s rest is = none_there (s, rest) is
more_by room text (Some f) one s rest is =
    subst (λ (p : Lines × List ℕ). SectionOfAtMost (suc room) p.0 text p.1) (same_some ((field_of f.0.0 ∷ f.0.1.0, f.0.1.1), f.1) (s, rest) is)
    (one_more room text f.0.0 f.0.1 f.1 (one f.0 f.1 refl))

none_by : (text : List ℕ) (found : Option (LineEnd × List ℕ)) → line_end text ≡ found → (s : Lines) (rest : List ℕ) → lines_by found None ≡ Some (s, rest) → SectionOfAtMost 0 s text rest
none_by text None e s rest is = none_there (s, rest) is
none_by text (Some f) e s rest is = no_more 0 text f e s rest is

lines_from : (room : ℕ) (text : List ℕ) (found : Option (LineEnd × List ℕ)) → line_end text ≡ found → (more : Option ((FieldParts × Lines) × List ℕ))
    → ((parts : FieldParts × Lines) (rest : List ℕ) → more ≡ Some (parts, rest) → One room parts text rest)
    → (s : Lines) (rest : List ℕ) → lines_by found more ≡ Some (s, rest) → SectionOfAtMost (suc room) s text rest
lines_from room text None e more one s rest is = more_by room text more one s rest is
lines_from room text (Some f) e more one s rest is = no_more (suc room) text f e s rest is

ended_here : (room : ℕ) (last : LineEnd) (text rest : List ℕ) → text ≡ print_end last ++ rest → lines room text ≡ Some (([], last), rest)
ended_here zero last text rest is = ap (λ f. lines_by f None) (line_end_read.whole last text rest is)
ended_here (suc room) last text rest is = ap (λ f. lines_by f (and_then (field text) (lines room))) (line_end_read.whole last text rest is)

-- a section of a field and more
one_first : (room : ℕ) (f : Field) (fs : List Field) (last : LineEnd) (text rest : List ℕ) → SectionOfAtMost (suc room) (f ∷ fs, last) text rest
    → FieldLine f text (print_section fs last ++ rest) × SectionOfAtMost room (fs, last) (print_section fs last ++ rest) rest
one_first room f fs last text rest is =
    let few = is.1 in (
      (
        All-head IsField f fs is.0.0,
        is.0.1 ∙ ap (λ t. t ++ rest) (append_assoc (print_field f) (flat_map print_field fs) (print_end last))
            ∙ append_assoc (print_field f) (print_section fs last) rest,
      ),
      ((All-tail IsField f fs is.0.0, refl), omega (arith, few)),
    )

all_of : (room : ℕ) (fs : List Field) (last : LineEnd) (text rest : List ℕ) → SectionOfAtMost room (fs, last) text rest → lines room text ≡ Some ((fs, last), rest)
all_of room [] last text rest is = ended_here room last text rest is.0.1
all_of zero (f ∷ fs) last text rest is = absurd (let few = is.1 in omega (arith, few))
all_of (suc room) (f ∷ fs) last text rest is =
    let parts = one_first room f fs last text rest is in
    let after = print_section fs last ++ rest in
    ap (λ e. lines_by e (and_then (field text) (lines room))) (no_end text (Stops-FieldLine f text after parts.0))
    ∙ ap (λ g. lines_by None (and_then g (lines room))) (field_read.whole (f.name, (f.raw, f.end)) text after (FieldLine_parts f text after parts.0))
    ∙ ap (λ g. lines_by None (with_first (f.name, (f.raw, f.end)) g)) (all_of room fs last after rest parts.1)

pub lines_read : (room : ℕ) → Reads (lines room) (SectionOfAtMost room) (SectionOfAtMost room)
lines_read zero = record {
  sound = λ text s rest is. none_by text (line_end text) refl s rest is;
  whole = λ s text rest is. all_of zero s.0 s.1 text rest is;
}
lines_read (suc room) = record {
  sound = λ text s rest is.
      lines_from room text (line_end text) refl (and_then (field text) (lines room))
      (λ parts more e. (both_read field (lines room) FieldPiece FieldPiece (SectionOfAtMost room) (SectionOfAtMost room) field_read (lines_read room)).sound text parts more e) s rest is;
  whole = λ s text rest is. all_of (suc room) s.0 s.1 text rest is;
}
