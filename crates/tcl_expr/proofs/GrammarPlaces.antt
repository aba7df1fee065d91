-- What is spelled lies within the text, and leads further on.
use Rattle.std.proofs.Common.{◌≡◌, ◌⊎◌, inl, inr, refl, sym, ap, subst, ◌∙◌, ℕ, zero, suc, ◌+◌, ◌<◌, ◌≤◌}
use Rattle.std.proofs.Common.{List, [], ◌∷◌, length, drop, Bool, true, false, Option, Some, None, cond}
use Rattle.std.proofs.Common.{nat_eq, nat_lt, arith}
use Rattle.std.proofs.lemmas.Bool.Decides.{nat_tests}
use Rattle.std.specs.Prelude.{◌&&◌, ◌||◌, ◌==◌, codes}
use Rattle.std.specs.List.{list_all, starts_with}
use Rattle.tcl_words.specs.Grammar.{empty_part, SpellsPart, SpellsParts}
use Rattle.tcl_words.specs.Places.{stands, opens_name, starts_variable, skips_newline, after_blank, closes}
use Rattle.tcl_words.specs.Skips.{skip, turns}
use Rattle.tcl_words.specs.Tree.{Part, plain, variable, element, bracket, Parts, no_parts, and_part}
use Rattle.tcl_words.specs.declared.places.Closer.TheVariants.{Quote}
use Rattle.tcl_words.proofs.Further.{part_on, parts_on, braces_on}
use Rattle.tcl_words.proofs.Onward.{after_blank_on, skip_onward}
use Rattle.tcl_words.proofs.Runs.{stands_within}
use Rattle.tcl_expr.specs.Expression.{Expression, literal, joined, prefixed, row, choice}
use Rattle.tcl_expr.specs.Expression.{More, no_more, more, Cases, no_cases, case}
use Rattle.tcl_expr.specs.Grammar.{Spelling, SpellsLiteral, SpellsQuoted, SpellsBraced, SpellsSubstituted}
use Rattle.tcl_expr.specs.Grammar.{SpellsToken, SpellsClosed, SpellsOperand, SpellsPrefixes, SpellsMore}
use Rattle.tcl_expr.specs.Grammar.{SpellsRow, SpellsRows, SpellsCases, SpellsWhole, SpellsInside}
use Rattle.tcl_expr.specs.Tokens.{white_stands, white_end, reads_word, meant, first_word, before_row}
use Rattle.tcl_expr.specs.Tokens.{inside_row, prefix_at, joint_at, digit_stands, digits_end, number_end}
use Rattle.tcl_expr.specs.Tokens as table
use Rattle.tcl_expr.specs.declared.expr.Joint.{Joint}
use Rattle.tcl_expr.specs.declared.operator.Op1.{Op1}
use Rattle.tcl_expr.proofs.Places.{digit_within, zero_is_octal, byte_within, variable_within}

-- from one place within the text to a later one
pub record Lies (text : List ℕ) (at end : ℕ) : Type 0 where
  pub on : at < end
  pub within : at < length text

abbrev pub AllLie : List ℕ → Spelling → Type 0
AllLie text Spells = (at : ℕ) (e : Expression) (end : ℕ) → Spells at e end → Lies text at end

pub white_on : (text : List ℕ) (at : ℕ) → at ≤ white_end text at
unfolding white_end
white_on text at =
    skip_onward (white_stands text) (after_blank text) (λ k. let on = after_blank_on text k in omega (arith, on)) (turns text) at

-- ---- words

is_some : List ℕ → Bool
is_some [] = false
is_some (b ∷ word) = true

all_some : {A : Type 0} → List (List ℕ × Option A) → Bool
all_some [] = true
all_some (w ∷ ws) = is_some w.0 && all_some ws

both_true : (a b : Bool) → (a && b) ≡ true → (a ≡ true) × (b ≡ true)
both_true true b h = (refl, h)
both_true false b h = cc

some_length : (word : List ℕ) → is_some word ≡ true → 0 < length word
unfolding is_some
some_length [] h = cc
some_length (b ∷ word) h = omega arith

meant_end : {A : Type 0} (m : Option A) (at end : ℕ) (a : A) → meant m end ≡ Some (a, at) → at ≡ end
meant_end None at end a h = cc
meant_end (Some b) at end a h = let p : (b, end) ≡ (a, at) = cc in sym (ap (λ (q : _ × ℕ). q.1) p)

starts_past : (text : List ℕ) (at : ℕ) (word : List ℕ) → is_some word ≡ true → length text ≤ at → starts_with nat_eq (drop at text) word ≡ false
unfolding is_some
starts_past text at [] h past = cc
starts_past [] zero (b ∷ word) h past = refl
starts_past [] (suc at) (b ∷ word) h past = refl
starts_past (c ∷ text) zero (b ∷ word) h past = absurd (omega (arith, past))
starts_past (c ∷ text) (suc at) (b ∷ word) h past = starts_past text at (b ∷ word) h (omega (arith, past))

reads_past : (text : List ℕ) (at : ℕ) (word : List ℕ) → is_some word ≡ true → length text ≤ at → reads_word text at word ≡ false
unfolding reads_word
reads_past text at word h past = starts_past text at word h past

module _ {A : Type 0} (text : List ℕ) (at : ℕ) where
  first_past : (ws : List (List ℕ × Option A)) → all_some ws ≡ true → length text ≤ at → first_word ws text at ≡ None
  unfolding all_some
  first_past [] h past = refl
  first_past (w ∷ ws) h past =
      let k = both_true (is_some w.0) (all_some ws) h in
      ap (λ b. cond b (meant w.1 (at + length w.0)) (first_word ws text at)) (reads_past text at w.0 k.0 past)
      ∙ first_past ws k.1 past

  by_read : (w : List ℕ × Option A) (ws : List (List ℕ × Option A)) (a : A) (end : ℕ) (b : Bool) → 0 < length w.0
      → (later : first_word ws text at ≡ Some (a, end) → at < end)
      → (h : cond b (meant w.1 (at + length w.0)) (first_word ws text at) ≡ Some (a, end)) → at < end
  by_read w ws a end true some later h = let e = meant_end w.1 end (at + length w.0) a h in omega (arith, e, some)
  by_read w ws a end false some later h = later h

  first_on : (ws : List (List ℕ × Option A)) (a : A) (end : ℕ) → all_some ws ≡ true → first_word ws text at ≡ Some (a, end) → at < end
  unfolding all_some
  first_on [] a end h e = cc
  first_on (w ∷ ws) a end h e =
      let k = both_true (is_some w.0) (all_some ws) h in
      by_read w ws a end (reads_word text at w.0) (some_length w.0 k.0) (λ h. first_on ws a end k.1 h) e

either : {A : Type 0} (b : Bool) (x y : List (List ℕ × Option A)) → all_some x ≡ true → all_some y ≡ true → all_some (cond b x y) ≡ true
either true x y p q = p
either false x y p q = q

before_some : (k : ℕ) → all_some (before_row k) ≡ true
unfolding all_some is_some
before_some k = either (k == 1) _ _ refl (either (k == 11) _ _ refl refl)

inside_some : (k : ℕ) → all_some (inside_row k) ≡ true
unfolding all_some is_some
inside_some k =
    either (k == 2) _ _ refl (either (k == 3) _ _ refl (either (k == 4) _ _ refl (either (k == 5) _ _ refl (either (k == 6) _ _ refl (either (k == 7) _ _ refl (either (k == 8) _ _ refl (either (k == 9) _ _ refl (either (k == 10) _ _ refl (either (k == 12) _ _ refl (either (k == 13) _ _ refl refl))))))))))

pub prefix_on : (k : ℕ) (text : List ℕ) (at : ℕ) (op : Op1) (end : ℕ) → prefix_at k text at ≡ Some (op, end) → at < end
unfolding prefix_at
prefix_on k text at op end e = first_on text at (before_row k) op end (before_some k) e

pub prefix_past : (k : ℕ) (text : List ℕ) (at : ℕ) → length text ≤ at → prefix_at k text at ≡ None
unfolding prefix_at
prefix_past k text at past = first_past text at (before_row k) (before_some k) past

pub joint_on : (k : ℕ) (text : List ℕ) (at : ℕ) (o : Joint) (end : ℕ) → joint_at k text at ≡ Some (o, end) → at < end
unfolding joint_at
joint_on k text at o end e = first_on text at (inside_row k) o end (inside_some k) e

pub joint_past : (k : ℕ) (text : List ℕ) (at : ℕ) → length text ≤ at → joint_at k text at ≡ None
unfolding joint_at
joint_past k text at past = first_past text at (inside_row k) (inside_some k) past

-- ---- operands

reads_within : (text : List ℕ) (at : ℕ) (word : List ℕ) → is_some word ≡ true → reads_word text at word ≡ true → at < length text
reads_within text at word some e = by_place (nat_lt at (length text)) refl where
  by_place : (b : Bool) → nat_lt at (length text) ≡ b → at < length text
  by_place true h = grind (arith, nat_tests)
  by_place false h = (let past : length text ≤ at = grind (arith, nat_tests) in let n : reads_word text at word ≡ false = reads_past text at word some past in cc)

digits_on : (radix : ℕ) (text : List ℕ) (at : ℕ) → at ≤ digits_end radix text at
unfolding digits_end
digits_on radix text at = skip_onward (digit_stands radix text) (λ k. k + 1) (λ k. omega arith) (turns text) at

pub digits_moves : (radix : ℕ) (text : List ℕ) (at : ℕ) → digit_stands radix text at ≡ true → at < digits_end radix text at
unfolding digits_end skip
digits_moves radix text at e =
    let on = skip_onward (digit_stands radix text) (λ k. k + 1) (λ k. omega arith) (length text) (at + 1) in
    subst (λ b. at < cond b (skip (digit_stands radix text) (λ k. k + 1) (length text) (at + 1)) at) (sym e) (omega (arith, on))

pub number_on : (text : List ℕ) (at : ℕ) → digit_stands 10 text at ≡ true → at < number_end text at
unfolding number_end
number_on text at e = by_hex (reads_word text at (codes "0x") && digit_stands 16 text (at + 2)) (stands text at 48) refl where
  by_hex : (h o : Bool) → stands text at 48 ≡ o → at < cond h (digits_end 16 text (at + 2)) (cond o (digits_end 8 text at) (digits_end 10 text at))
  by_hex true o q = let on = digits_on 16 text (at + 2) in omega (arith, on)
  by_hex false true q = digits_moves 8 text at (zero_is_octal text at q)
  by_hex false false q = digits_moves 10 text at e

literal_lies : (text : List ℕ) (at last : ℕ) → SpellsLiteral text at last → Lies text at last
unfolding is_some
literal_lies text at last (inl is) = record { on = omega (arith, is.1); within = reads_within text at (codes "true") refl is.0 }
literal_lies text at last (inr (inl is)) = record { on = omega (arith, is.1); within = reads_within text at (codes "false") refl is.0 }
literal_lies text at last (inr (inr is)) =
    let on = number_on text at is.0 in record { on = omega (arith, on, is.1); within = digit_within 10 text at is.0 }

quotes_on : (below : ℕ) (text : List ℕ) (at : ℕ) (ps : Parts) (close : ℕ)
    → (closes Quote text (at + 1) ≡ true) × (at + 1 ≡ close) × (ps ≡ empty_part (at + 1))
    ⊎ (closes Quote text (at + 1) ≡ false) × SpellsParts below Quote text (at + 1) ps close → at < close
quotes_on below text at ps close (inl k) = omega (arith, k.1)
quotes_on below text at ps close (inr k) = let on = parts_on below Quote text (at + 1) ps close k.1 in omega (arith, on)

quoted_lies : (room : ℕ) (text : List ℕ) (at : ℕ) (ps : Parts) (last : ℕ) → SpellsQuoted room text at ps last → Lies text at last
quoted_lies room text at ps last is =
    let q = is.1 in
    let on = quotes_on q.below text at ps q.close q.inside in
    record { on = omega (arith, on, q.end_is); within = byte_within text at 34 is.0 }

braced_lies : (room : ℕ) (text : List ℕ) (at : ℕ) (ps : Parts) (last : ℕ) → SpellsBraced room text at ps last → Lies text at last
braced_lies room text at ps last is =
    let b = is.1 in
    let on = braces_on b.inside.0 b.below text 0 (at + 1) b.inside.1 b.close b.inside.2 in
    record { on = omega (arith, on, b.end_is); within = byte_within text at 123 is.0 }

not_quote : (text : List ℕ) (at : ℕ) → (stands text at 91 || starts_variable text at) ≡ true → closes Quote text at ≡ false
unfolding closes starts_variable opens_name stands
not_quote text at h = grind (arith, nat_tests)

starts_within : (text : List ℕ) (at : ℕ) → (stands text at 91 || starts_variable text at) ≡ true → at < length text
unfolding starts_variable opens_name stands
starts_within text at h = grind (arith, nat_tests)

substituted_lies : (room : ℕ) (text : List ℕ) (at : ℕ) (ps : Parts) (last : ℕ) → SpellsSubstituted room text at ps last → Lies text at last
substituted_lies room text at no_parts last is = absurd is
substituted_lies room text at (and_part p (and_part q ps)) last is = absurd is
substituted_lies room text at (and_part p no_parts) last is =
    record { on = part_on room Quote text at p last (not_quote text at is.0) is.1; within = starts_within text at is.0 }

pub token_lies : (room : ℕ) (text : List ℕ) (at : ℕ) (e : Expression) (last : ℕ) → SpellsToken room text at e last → Lies text at last
token_lies room text at (literal bytes) last is = literal_lies text at last is.0
token_lies room text at (joined ps) last (inl is) = quoted_lies room text at ps last is
token_lies room text at (joined ps) last (inr (inl is)) = braced_lies room text at ps last is
token_lies room text at (joined ps) last (inr (inr is)) = substituted_lies room text at ps last is
token_lies room text at (prefixed ops e) last is = absurd is
token_lies room text at (row e m) last is = absurd is
token_lies room text at (choice cs e) last is = absurd is

-- ---- rows

pub closed_on : (Inside : Spelling) (text : List ℕ) → AllLie text Inside → (close at : ℕ) (e : Expression) (end : ℕ) → SpellsClosed Inside close text at e end → at < end
closed_on Inside text lies close at e end is =
    let i = lies at e is.mid is.inside in
    let w = white_on text (is.mid + 1) in
    omega (arith, i.on, w, is.end_is)

pub operand_lies : (room : ℕ) (Inside : Spelling) (text : List ℕ) → AllLie text Inside → AllLie text (SpellsOperand room Inside text)
operand_lies room Inside text lies at e end (inl is) =
    record { on = closed_on Inside text lies 41 at e end is.1; within = byte_within text at 40 is.0 }
operand_lies room Inside text lies at e end (inr is) =
    let t = token_lies room text at e is.0 is.1 in
    let w = white_on text is.0 in
    record { on = omega (arith, t.on, w, is.2); within = t.within }

pub prefixes_on : (k : ℕ) (text : List ℕ) (at : ℕ) (ops : List Op1) (end : ℕ) → SpellsPrefixes k text at ops end → at ≤ end
prefixes_on k text at [] end is = omega (arith, is.1)
prefixes_on k text at (op ∷ ops) end is =
    let on = prefix_on k text at op is.0 is.1 in
    let w = white_on text is.0 in
    let later = prefixes_on k text (white_end text is.0) ops end is.2 in
    omega (arith, on, w, later)

pub more_on : (k : ℕ) (Tighter : Spelling) (text : List ℕ) → AllLie text Tighter → (at : ℕ) (m : More) (end : ℕ) → SpellsMore k Tighter text at m end → at ≤ end
more_on k Tighter text lies at no_more end is = omega (arith, is.1)
more_on k Tighter text lies at (more o e rest) end is =
    let on = joint_on k text at o is.0 is.2 in
    let w = white_on text is.0 in
    let next = lies (white_end text is.0) e is.1 is.3 in
    let later = more_on k Tighter text lies is.1 rest end is.4 in
    omega (arith, on, w, next.on, later)

pub row_lies : (k : ℕ) (Tighter : Spelling) (text : List ℕ) → AllLie text Tighter → AllLie text (SpellsRow k Tighter text)
row_lies k Tighter text lies at e end is =
    let before = prefixes_on k text at is.before is.start is.prefixes in
    let first = lies is.start is.first is.mid is.operand in
    let rest = more_on k Tighter text lies is.mid is.rest end is.joints in
    record { on = omega (arith, before, first.on, rest); within = omega (arith, before, first.within) }

pub rows_lie : (k : ℕ) (Operand : Spelling) (text : List ℕ) → AllLie text Operand → AllLie text (SpellsRows k Operand text)
rows_lie zero Operand text lies = lies
rows_lie (suc k) Operand text lies = row_lies (suc k) (SpellsRows k Operand text) text (rows_lie k Operand text lies)

pub cases_lie : (Inside Condition : Spelling) (text : List ℕ) → AllLie text Inside → AllLie text Condition → (at : ℕ) (cs : Cases) (last : Expression) (end : ℕ) → SpellsCases Inside Condition text at cs last end → Lies text at end
cases_lie Inside Condition text inside condition at no_cases last end is = condition at last end is.0
cases_lie Inside Condition text inside condition at (case c v cs) last end is =
    let first = condition at c is.0 is.2 in
    let value = closed_on Inside text inside 58 is.0 v is.1 is.4 in
    let later = cases_lie Inside Condition text inside condition is.1 cs last end is.5 in
    record { on = omega (arith, first.on, value, later.on); within = first.within }

pub whole_lies : (room : ℕ) (Inside : Spelling) (text : List ℕ) → AllLie text Inside → AllLie text (SpellsWhole room Inside text)
whole_lies room Inside text lies at e end is =
    cases_lie Inside (SpellsRows 13 (SpellsOperand room Inside text) text) text lies
    (rows_lie 13 (SpellsOperand room Inside text) text (operand_lies room Inside text lies)) at is.cases is.last end is.chosen

-- what an opener encloses: the opener's place is that of a byte before it
pub inside_lies : (room : ℕ) (text : List ℕ) → AllLie text (SpellsInside room text)
inside_lies zero text at e end is = absurd is
inside_lies (suc room) text at e end is =
    let w = white_on text (at + 1) in
    let i = whole_lies room (SpellsInside room text) text (inside_lies room text) (white_end text (at + 1)) e end is in
    record { on = omega (arith, w, i.on); within = omega (arith, w, i.within) }
