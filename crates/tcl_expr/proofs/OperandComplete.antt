-- Quotes, braces, brackets and variables that are spelled are read so.
use Rattle.std.proofs.Common.{◌≡◌, refl, sym, ap, ◌∙◌, ℕ, suc, ◌+◌, List, Bool, true, false, None, Some, cond, arith}
use Rattle.std.specs.Prelude.{◌||◌, Ok, slice_range}
use Rattle.tcl_words.specs.Finish.{filled, raw_of}
use Rattle.tcl_words.specs.Places.{stands, opens_name, starts_variable}
use Rattle.tcl_words.specs.Reading.{level, read_braced, read_name, read_variable, read_part, read_quoted}
use Rattle.tcl_words.specs.Skips.{turns}
use Rattle.tcl_words.specs.Tree.{Part, Parts, no_parts, and_part, from_to}
use Rattle.tcl_words.specs.declared.parse_fault.Fault.TheVariants.{MissingQuote}
use Rattle.tcl_words.specs.declared.places.Closer.TheVariants.{Quote}
use Rattle.tcl_words.specs.declared.script.Form.TheVariants.{Quoted, Braced}
use Rattle.tcl_words.proofs.Complete.{clean, all_turns, closes_well, quoted_in}
use Rattle.tcl_words.proofs.CompletePieces.{braced_read, in_quotes, parts_from}
use Rattle.tcl_words.proofs.CompleteWords.{part_complete, parts_turns}
use Rattle.tcl_words.proofs.Levels.{level_name, quoted_read, part_bracket, part_name, part_variable}
use Rattle.tcl_expr.specs.Expression.{Expression, joined}
use Rattle.tcl_expr.specs.ExpressionReading.{Read, from, taken, taken_word, taken_part, taken_bracket, literal_at}
use Rattle.tcl_expr.specs.Grammar.{SpellsQuoted, SpellsBraced}
use Rattle.tcl_expr.specs.Tokens.{white_end}
use Rattle.tcl_words.specs.Grammar.{SpellsPart}

-- parts without a fault are taken
pub taken_clean : (text : List ℕ) (ps : Parts) (last : ℕ) → taken text ps (clean last) ≡ Ok (joined ps, white_end text last)
unfolding taken
taken_clean text ps last = refl

pub quoted_complete : (room : ℕ) (text : List ℕ) (at : ℕ) (ps : Parts) (last : ℕ) → SpellsQuoted room text at ps last
    → taken_word text ((level room).quoted text (from at)) ≡ Ok (joined ps, white_end text last)
quoted_complete room text at ps last is =
    let e = is.1 in
    let q = in_quotes e.below text (at + 1) e.close ps e.inside
    (λ k. parts_from e.below Quote text (clean (at + 1)) (ps, clean e.close) (parts_turns e.below Quote text (at + 1) ps e.close (turns text) k (all_turns text (at + 1)))) in
    ap (taken_word text) (quoted_in room e.below text (clean at) e.has_room
    ∙ quoted_read (level e.below) text (clean at) (clean e.close) (clean last) q.bare_parts q.read (sym (closes_well 34 (MissingQuote at) text e.close last e.is_closed e.end_is)))
    ∙ taken_clean text (filled (at + 1) q.bare_parts) last
    ∙ ap (λ x. Ok (joined x, white_end text last)) (sym q.fills)

pub braced_complete : (room : ℕ) (text : List ℕ) (at : ℕ) (ps : Parts) (last : ℕ) → SpellsBraced room text at ps last
    → taken_word text (read_braced room text (from at)) ≡ Ok (joined ps, white_end text last)
braced_complete room text at ps last is =
    let e = is.1 in
    let raw = Some (slice_range text (at + 1) e.close) in
    ap (taken_word text) (braced_read room text at last (from_to at last) (from_to (at + 1) e.close) raw ps e (record { span_is = refl; inner_is = refl; raw_is = refl }))
    ∙ taken_clean text ps last

-- what is substituted is read as a part of a word is
abbrev pub after_openers : ℕ → List ℕ → ℕ → Bool → Bool → Bool → Read Expression
after_openers room text at b n v =
    cond b (taken_bracket at text ((level room).bracket text (from at)))
    (cond n (taken_part text (read_name room text (from at)))
    (cond v (taken_part text (read_variable (level room) text (from at))) (literal_at text at)))

part_read : (room : ℕ) (text : List ℕ) (at : ℕ) (b n v : Bool) → stands text at 91 ≡ b → opens_name text at ≡ n → starts_variable text at ≡ v → (b || v) ≡ true
    → after_openers room text at b n v ≡ taken_part text (read_part (level room) Quote text (from at))
part_read room text at true n v eb en ev some =
    sym (ap (taken_part text) (part_bracket (level room) Quote text (from at) ((level room).bracket text (from at)).1 ((level room).bracket text (from at)).0 eb refl))
part_read room text at false true v eb en ev some = sym (ap (taken_part text) (part_name (level room) Quote text (from at) eb en ∙ level_name room text (from at)))
part_read room text at false false true eb en ev some = sym (ap (taken_part text) (part_variable (level room) Quote text (from at) eb en ev))
part_read room text at false false false eb en ev some = cc

pub substituted_complete : (room : ℕ) (text : List ℕ) (at : ℕ) (p : Part) (last : ℕ) → (stands text at 91 || starts_variable text at) ≡ true → SpellsPart room Quote text at p last
    → after_openers room text at (stands text at 91) (opens_name text at) (starts_variable text at) ≡ Ok (joined (and_part p no_parts), white_end text last)
substituted_complete room text at p last starts is =
    part_read room text at (stands text at 91) (opens_name text at) (starts_variable text at) refl refl refl starts
    ∙ ap (taken_part text) (part_complete room Quote text at p last is)
    ∙ taken_clean text (and_part p no_parts) last
