-- What is spelled as an expression is read so.
use Rattle.std.proofs.Common.{◌≡◌, ◌⊎◌, inl, inr, refl, sym, ap, ap₂, subst, ◌∙◌, ℕ, zero, suc, ◌+◌, ◌<◌, ◌≤◌}
use Rattle.std.proofs.Common.{List, [], ◌∷◌, length, drop, Bool, true, false, Option, Some, None, cond, nat_eq, arith}
use Rattle.std.proofs.lemmas.Bool.Decides.{nat_tests}
use Rattle.std.specs.Prelude.{Result, Ok, Err, slice_range, slice_index, nat_lt, codes, ◌||◌, ◌&&◌, ◌==◌}
use Rattle.std.specs.Char.{is_digit}
use Rattle.std.specs.List.{starts_with}
use Rattle.tcl_words.specs.Places.{stands, names, opens_name, starts_variable}
use Rattle.tcl_words.specs.Skips.{turns}
use Rattle.tcl_words.specs.Tree.{Parts, no_parts, and_part}
use Rattle.tcl_expr.specs.Expression.{Expression, literal, joined, prefixed, row, choice}
use Rattle.tcl_expr.specs.Expression.{More, no_more, more, Cases, no_cases, case}
use Rattle.tcl_expr.specs.ExpressionReading.{Read, and_then, closed_by, written, literal_at, operand_at}
use Rattle.tcl_expr.specs.ExpressionReading.{with_prefix, prefixes_at, prefixed_by, with_joint, more_at}
use Rattle.tcl_expr.specs.ExpressionReading.{row_of, row_at, with_case, cases_at, choice_of, whole_at}
use Rattle.tcl_expr.specs.ExpressionReading.{enclosed_at}
use Rattle.tcl_expr.specs.Grammar.{Spelling, SpellsLiteral, SpellsToken, SpellsClosed, SpellsOperand}
use Rattle.tcl_expr.specs.Grammar.{SpellsPrefixes, SpellsMore, SpellsRow, SpellsRows, SpellsCases}
use Rattle.tcl_expr.specs.Grammar.{SpellsWhole, SpellsInside}
use Rattle.tcl_expr.specs.Tokens.{white_end, reads_word, prefix_at, joint_at, digit_stands, number_end}
use Rattle.tcl_expr.specs.declared.expr_fault.Misread.TheVariants.{Syntax}
use Rattle.tcl_expr.specs.declared.operator.Op1.{Op1}
use Rattle.tcl_expr.proofs.GrammarPlaces.{Lies, AllLie, white_on, prefix_on, prefix_past, joint_on, joint_past}
use Rattle.tcl_expr.proofs.GrammarPlaces.{operand_lies, rows_lie, inside_lies, closed_on}
use Rattle.tcl_expr.proofs.ReadingCases.{operand_between, operand_quoted, operand_braced}
use Rattle.tcl_expr.proofs.OperandComplete.{quoted_complete, braced_complete, after_openers, substituted_complete}

-- whatever is spelled so is what this reads
abbrev pub IsComplete : (ℕ → Read Expression) → Spelling → Type 0
IsComplete read Spells = (at : ℕ) (e : Expression) (end : ℕ) → Spells at e end → read at ≡ Ok (e, end)

closes_so : (close : ℕ) (text : List ℕ) (e : Expression) (mid : ℕ) → stands text mid close ≡ true → closed_by close text e mid ≡ Ok (e, white_end text (mid + 1))
unfolding closed_by
closes_so close text e mid h = ap (λ b. cond b (Ok (e, white_end text (mid + 1))) (Err (Syntax mid))) h

module _ (Inside : Spelling) (enclosed : ℕ → Read Expression) (text : List ℕ) (complete : IsComplete enclosed Inside) where
  pub enclosed_complete : (close at : ℕ) (e : Expression) (end : ℕ) → SpellsClosed Inside close text at e end → and_then (enclosed at) (closed_by close text) ≡ Ok (e, end)
  enclosed_complete close at e end is =
      ap (λ r. and_then r (closed_by close text)) (complete at e is.mid is.inside)
      ∙ closes_so close text e is.mid is.is_closed ∙ ap (λ x. Ok (e, x)) (sym is.end_is)

-- ---- literals

front_stands : (text : List ℕ) (at b : ℕ) (word : List ℕ) → starts_with nat_eq (drop at text) (b ∷ word) ≡ true → stands text at b ≡ true
unfolding stands
front_stands [] zero b word h = cc
front_stands [] (suc at) b word h = cc
front_stands (c ∷ text) zero b word h = grind (arith, nat_tests)
front_stands (c ∷ text) (suc at) b word h = let k = front_stands text at b word h in grind (arith, nat_tests)

reads_front : (text : List ℕ) (at b : ℕ) (word : List ℕ) → reads_word text at (b ∷ word) ≡ true → stands text at b ≡ true
unfolding reads_word
reads_front text at b word h = front_stands text at b word h

not_true : (b : Bool) → (b ≡ true → ⊥) → b ≡ false
not_true true h = absurd (h refl)
not_true false h = refl

the_byte : (text : List ℕ) (at b : ℕ) → stands text at b ≡ true → slice_index text at ≡ b
unfolding stands
the_byte text at b h = grind (arith, nat_tests)

digit_is : (text : List ℕ) (at : ℕ) → digit_stands 10 text at ≡ true → is_digit (slice_index text at) 10 ≡ true
unfolding digit_stands
digit_is text at h = both (nat_lt at (length text)) (is_digit (slice_index text at) 10) h where
  both : (a b : Bool) → (a && b) ≡ true → b ≡ true
  both true b k = k
  both false b k = cc

-- a byte with which no literal begins
record NoLiteral (b : ℕ) : Type 0 where
  no_true : b ≡ 116 → ⊥
  no_false : b ≡ 102 → ⊥
  no_digit : is_digit b 10 ≡ false

literal_begins : (text : List ℕ) (at last b : ℕ) → NoLiteral b → SpellsLiteral text at last → stands text at b ≡ true → ⊥
literal_begins text at last b n (inl is) h = n.no_true (sym (the_byte text at b h) ∙ the_byte text at 116 (reads_front text at 116 _ is.0))
literal_begins text at last b n (inr (inl is)) h = n.no_false (sym (the_byte text at b h) ∙ the_byte text at 102 (reads_front text at 102 _ is.0))
literal_begins text at last b n (inr (inr is)) h =
    let d : is_digit b 10 ≡ true = ap (λ c. is_digit c 10) (sym (the_byte text at b h)) ∙ digit_is text at is.0 in
    let f = n.no_digit in cc

plain_byte : {b : ℕ} → nat_eq b 116 ≡ false → nat_eq b 102 ≡ false → is_digit b 10 ≡ false → NoLiteral b
plain_byte t f d = record { no_true = λ e. let k : nat_eq 116 116 ≡ false = ap (λ x. nat_eq x 116) (sym e) ∙ t in cc; no_false = λ e. let k : nat_eq 102 102 ≡ false = ap (λ x. nat_eq x 102) (sym e) ∙ f in cc; no_digit = d }

other_byte : (text : List ℕ) (at last b : ℕ) → NoLiteral b → SpellsLiteral text at last → stands text at b ≡ false
other_byte text at last b n is = not_true (stands text at b) (literal_begins text at last b n is)

no_variable : (text : List ℕ) (at : ℕ) → stands text at 36 ≡ false → (opens_name text at ≡ false) × (starts_variable text at ≡ false)
unfolding starts_variable opens_name
no_variable text at h = (ap (λ b. b && stands text (at + 1) 123) h, ap (λ b. (b && stands text (at + 1) 123) || (b && names text (at + 1))) h)

module _ (text : List ℕ) (at : ℕ) where
  abbrev read_written : Bool → Bool → Bool → Read Expression
  read_written t f d = cond t (written text at (at + 4)) (cond f (written text at (at + 5)) (cond d (written text at (number_end text at)) (Err (Syntax at))))

  not_word : (b : ℕ) (word : List ℕ) → (stands text at b ≡ true → ⊥) → reads_word text at (b ∷ word) ≡ false
  not_word b word h = not_true (reads_word text at (b ∷ word)) (λ k. h (reads_front text at b word k))

  digit_not : (b : ℕ) → is_digit b 10 ≡ false → digit_stands 10 text at ≡ true → stands text at b ≡ true → ⊥
  digit_not b f d h = let k : is_digit b 10 ≡ true = ap (λ c. is_digit c 10) (sym (the_byte text at b h)) ∙ digit_is text at d in cc

  literal_complete : (last : ℕ) → SpellsLiteral text at last → literal_at text at ≡ Ok (literal (slice_range text at last), white_end text last)
  unfolding literal_at
  literal_complete last (inl is) =
      ap (λ t. read_written t (reads_word text at (codes "false")) (digit_stands 10 text at)) is.0 ∙ ap (λ x. written text at x) (sym is.1)
  literal_complete last (inr (inl is)) =
      let other : reads_word text at (codes "true") ≡ false = not_word 116 _ (λ h. let e : 116 ≡ 102 = sym (the_byte text at 116 h) ∙ the_byte text at 102 (reads_front text at 102 _ is.0) in absurd (omega (arith, e))) in
      ap₂ (λ t f. read_written t f (digit_stands 10 text at)) other is.0 ∙ ap (λ x. written text at x) (sym is.1)
  literal_complete last (inr (inr is)) =
      let first : reads_word text at (codes "true") ≡ false = not_word 116 _ (digit_not 116 refl is.0) in
      let second : reads_word text at (codes "false") ≡ false = not_word 102 _ (digit_not 102 refl is.0) in
      ap₂ (λ t f. read_written t f (digit_stands 10 text at)) first second ∙ ap (read_written false false) is.0 ∙ ap (λ x. written text at x) (sym is.1)

-- ---- operands

one_byte : (text : List ℕ) (at b c : ℕ) → (b ≡ c → ⊥) → stands text at b ≡ true → stands text at c ≡ false
one_byte text at b c apart h = not_true (stands text at c) (λ k. apart (sym (the_byte text at b h) ∙ the_byte text at c k))

variable_dollar : (text : List ℕ) (at : ℕ) → starts_variable text at ≡ true → stands text at 36 ≡ true
unfolding starts_variable opens_name
variable_dollar text at v = grind arith

starts_by : (text : List ℕ) (at b : ℕ) → (91 ≡ b → ⊥) → (36 ≡ b → ⊥) → (stands text at 91 || starts_variable text at) ≡ true → stands text at b ≡ false
starts_by text at b first second h = by_test (stands text at 91) refl where
  dollar : stands text at 91 ≡ false → stands text at 36 ≡ true
  dollar k = let v : starts_variable text at ≡ true = ap (λ x. x || starts_variable text at) (sym k) ∙ h in variable_dollar text at v

  by_test : (t : Bool) → stands text at 91 ≡ t → stands text at b ≡ false
  by_test true k = one_byte text at 91 b first k
  by_test false k = one_byte text at 36 b second (dollar k)

module _ (room : ℕ) (Inside : Spelling) (enclosed : ℕ → Read Expression) (text : List ℕ) (complete : IsComplete enclosed Inside) where
  -- behind the openers of parentheses, quotes and braces
  operand_past : (at : ℕ) → stands text at 40 ≡ false → stands text at 34 ≡ false → stands text at 123 ≡ false
      → operand_at room enclosed text at ≡ after_openers room text at (stands text at 91) (opens_name text at) (starts_variable text at)
  unfolding operand_at
  operand_past at a b c = simp (a, b, c)

  literal_past : (at last : ℕ) → SpellsLiteral text at last → operand_at room enclosed text at ≡ literal_at text at
  literal_past at last is =
      let other = λ (b : ℕ) (n : NoLiteral b). other_byte text at last b n is in
      let none = no_variable text at (other 36 (plain_byte refl refl refl)) in
      operand_past at (other 40 (plain_byte refl refl refl))
      (other 34 (plain_byte refl refl refl))
      (other 123 (plain_byte refl refl refl))
      ∙ ap (λ b. after_openers room text at b (opens_name text at) (starts_variable text at)) (other 91 (plain_byte refl refl refl))
      ∙ ap₂ (λ n v. after_openers room text at false n v) none.0 none.1

  token_complete : (at : ℕ) (e : Expression) (last : ℕ) → SpellsToken room text at e last → operand_at room enclosed text at ≡ Ok (e, white_end text last)
  token_complete at (literal bytes) last is = literal_past at last is.0 ∙ literal_complete text at last is.0 ∙ ap (λ b. Ok (literal b, white_end text last)) (sym is.1)
  token_complete at (joined ps) last (inl is) =
      operand_quoted room enclosed text at (one_byte text at 34 40 (λ e. absurd (omega (arith, e))) is.0) is.0 ∙ quoted_complete room text at ps last is
  token_complete at (joined ps) last (inr (inl is)) =
      operand_braced room enclosed text at (one_byte text at 123 40 (λ e. absurd (omega (arith, e))) is.0) (one_byte text at 123 34 (λ e. absurd (omega (arith, e))) is.0) is.0 ∙ braced_complete room text at ps last is
  token_complete at (joined no_parts) last (inr (inr is)) = absurd is
  token_complete at (joined (and_part p (and_part q ps))) last (inr (inr is)) = absurd is
  token_complete at (joined (and_part p no_parts)) last (inr (inr is)) =
      operand_past at (starts_by text at 40 (λ e. absurd (omega (arith, e))) (λ e. absurd (omega (arith, e))) is.0) (starts_by text at 34 (λ e. absurd (omega (arith, e))) (λ e. absurd (omega (arith, e))) is.0) (starts_by text at 123 (λ e. absurd (omega (arith, e))) (λ e. absurd (omega (arith, e))) is.0)
      ∙ substituted_complete room text at p last is.0 is.1
  token_complete at (prefixed ops e) last is = absurd is
  token_complete at (row e m) last is = absurd is
  token_complete at (choice cs e) last is = absurd is

  pub operand_complete : IsComplete (operand_at room enclosed text) (SpellsOperand room Inside text)
  operand_complete at e end (inl is) = operand_between room enclosed text at is.0 ∙ enclosed_complete Inside enclosed text complete 41 at e end is.1
  operand_complete at e end (inr is) = token_complete at e is.0 is.1 ∙ ap (λ x. Ok (e, x)) (sym is.2)

-- ---- rows

module _ (k : ℕ) (text : List ℕ) where
  pub prefixes_complete : (n at : ℕ) (ops : List Op1) (end : ℕ) → length text < n + at → SpellsPrefixes k text at ops end → prefixes_at k text n at ≡ (ops, end)
  unfolding prefixes_at
  prefixes_complete zero at [] end enough is = ap (λ x. ([], x)) is.1
  prefixes_complete zero at (op ∷ ops) end enough is = let none = prefix_past k text at (omega (arith, enough)) in let some = is.1 in cc
  prefixes_complete (suc n) at [] end enough is = ap (with_prefix text at (prefixes_at k text n)) is.0 ∙ ap (λ x. ([], x)) is.1
  prefixes_complete (suc n) at (op ∷ ops) end enough is =
      let on = prefix_on k text at op is.0 is.1 in
      let w = white_on text is.0 in
      ap (with_prefix text at (prefixes_at k text n)) is.1
      ∙ ap (λ r. (op ∷ r.0, r.1)) (prefixes_complete n (white_end text is.0) ops end (omega (arith, enough, on, w)) is.2)

module _ (k : ℕ) (tighter : ℕ → Read Expression) (Tighter : Spelling) (text : List ℕ) (complete : IsComplete tighter Tighter) (lies : AllLie text Tighter) where
  pub more_complete : (n at : ℕ) (m : More) (end : ℕ) → length text < n + at → SpellsMore k Tighter text at m end → more_at k tighter text n at ≡ Ok (m, end)
  unfolding more_at
  more_complete zero at no_more end enough is = ap (λ x. Ok (no_more, x)) is.1
  more_complete zero at (more o e rest) end enough is = let none = joint_past k text at (omega (arith, enough)) in let some = is.2 in cc
  more_complete (suc n) at no_more end enough is = ap (with_joint tighter (more_at k tighter text n) text at) is.0 ∙ ap (λ x. Ok (no_more, x)) is.1
  more_complete (suc n) at (more o e rest) end enough is =
      let on = joint_on k text at o is.0 is.2 in
      let w = white_on text is.0 in
      let l = lies (white_end text is.0) e is.1 is.3 in
      ap (with_joint tighter (more_at k tighter text n) text at) is.2
      ∙ ap (λ r. and_then r (λ x mid. and_then (more_at k tighter text n mid) (λ q z. Ok (more o x q, z)))) (complete (white_end text is.0) e is.1 is.3)
      ∙ ap (λ r. and_then r (λ q z. Ok (more o e q, z))) (more_complete n is.1 rest end (omega (arith, enough, on, w, l.on)) is.4)

module _ (operand : ℕ → Read Expression) (Operand : Spelling) (text : List ℕ) (complete : IsComplete operand Operand) (lies : AllLie text Operand) where
  row_complete : (k : ℕ) (tighter : ℕ → Read Expression) (Tighter : Spelling) → IsComplete tighter Tighter → AllLie text Tighter → (at : ℕ) (e : Expression) (end : ℕ) → SpellsRow k Tighter text at e end
      → and_then (tighter (prefixes_at k text (turns text) at).1) (λ first mid. and_then (more_at k tighter text (turns text) mid) (λ rest z. Ok (row_of (prefixed_by (prefixes_at k text (turns text) at).0 first) rest, z))) ≡ Ok (e, end)
  row_complete k tighter Tighter tight lie at e end is =
      ap (λ p. and_then (tighter p.1) (λ first mid. and_then (more_at k tighter text (turns text) mid) (λ rest z. Ok (row_of (prefixed_by p.0 first) rest, z)))) (prefixes_complete k text (turns text) at is.before is.start (omega arith) is.prefixes)
      ∙ ap (λ r. and_then r (λ first mid. and_then (more_at k tighter text (turns text) mid) (λ rest z. Ok (row_of (prefixed_by is.before first) rest, z)))) (tight is.start is.first is.mid is.operand)
      ∙ ap (λ r. and_then r (λ rest z. Ok (row_of (prefixed_by is.before is.first) rest, z))) (more_complete k tighter Tighter text tight lie (turns text) is.mid is.rest end (omega arith) is.joints)
      ∙ ap (λ x. Ok (x, end)) (sym is.whole)

  pub rows_complete : (k : ℕ) → IsComplete (row_at k operand text) (SpellsRows k Operand text)
  unfolding row_at
  rows_complete zero at e end is = complete at e end is
  rows_complete (suc k) at e end is = row_complete (suc k) (row_at k operand text) (SpellsRows k Operand text) (rows_complete k) (rows_lie k Operand text lies) at e end is

-- ---- conditions

module _ (enclosed condition : ℕ → Read Expression) (Inside Condition : Spelling) (text : List ℕ) (inside : IsComplete enclosed Inside) (conditions : IsComplete condition Condition) (lie : AllLie text Inside) (lies : AllLie text Condition) where
  ask_by : (again : ℕ → Read (Cases × Expression)) (c : Expression) (mid : ℕ) (b : Bool) → stands text mid 63 ≡ b
      → with_case enclosed again text c mid ≡ cond b (and_then (and_then (enclosed mid) (closed_by 58 text)) (λ v next. and_then (again next) (λ q z. Ok ((case c v q.0, q.1), z)))) (Ok ((no_cases, c), mid))
  ask_by again c mid b e = ap (λ t. cond t (and_then (and_then (enclosed mid) (closed_by 58 text)) (λ v next. and_then (again next) (λ q z. Ok ((case c v q.0, q.1), z)))) (Ok ((no_cases, c), mid))) e

  pub cases_complete : (n at : ℕ) (cs : Cases) (last : Expression) (end : ℕ) → length text < n + at → SpellsCases Inside Condition text at cs last end → cases_at enclosed condition text n at ≡ Ok ((cs, last), end)
  unfolding cases_at
  cases_complete zero at no_cases last end enough is = let l = lies at last end is.0 in absurd (omega (arith, enough, l.within))
  cases_complete zero at (case c v cs) last end enough is = let l = lies at c is.0 is.2 in absurd (omega (arith, enough, l.within))
  cases_complete (suc n) at no_cases last end enough is =
      ap (λ r. and_then r (with_case enclosed (cases_at enclosed condition text n) text)) (conditions at last end is.0)
      ∙ ask_by (cases_at enclosed condition text n) last end false is.1
  cases_complete (suc n) at (case c v cs) last end enough is =
      let l = lies at c is.0 is.2 in
      let on = closed_on Inside text lie 58 is.0 v is.1 is.4 in
      ap (λ r. and_then r (with_case enclosed (cases_at enclosed condition text n) text)) (conditions at c is.0 is.2)
      ∙ ask_by (cases_at enclosed condition text n) c is.0 true is.3
      ∙ ap (λ r. and_then r (λ x next. and_then (cases_at enclosed condition text n next) (λ q z. Ok ((case c x q.0, q.1), z)))) (enclosed_complete Inside enclosed text inside 58 is.0 v is.1 is.4)
      ∙ ap (λ r. and_then r (λ q z. Ok ((case c v q.0, q.1), z))) (cases_complete n is.1 cs last end (omega (arith, enough, l.on, on)) is.5)

-- ---- a whole expression

pub whole_complete : (room : ℕ) (enclosed : ℕ → Read Expression) (Inside : Spelling) (text : List ℕ) → IsComplete enclosed Inside → AllLie text Inside → IsComplete (whole_at room enclosed text) (SpellsWhole room Inside text)
unfolding whole_at
whole_complete room enclosed Inside text complete lies at e end is =
    let operand = operand_at room enclosed text in
    let operands = SpellsOperand room Inside text in
    let lie = operand_lies room Inside text lies in
    let condition = rows_complete operand operands text (operand_complete room Inside enclosed text complete) lie 13 in
    ap (λ r. and_then r (λ r end. Ok (choice_of r.0 r.1, end))) (cases_complete enclosed (row_at 13 operand text) Inside (SpellsRows 13 operands text) text complete condition lies (rows_lie 13 operands text lie) (turns text) at is.cases is.last end (omega arith) is.chosen)
    ∙ ap (λ x. Ok (x, end)) (sym is.whole)

pub inside_complete : (room : ℕ) (text : List ℕ) → IsComplete (enclosed_at room text) (SpellsInside room text)
unfolding enclosed_at
inside_complete zero text at e end is = absurd is
inside_complete (suc room) text at e end is = whole_complete room (enclosed_at room text) (SpellsInside room text) text (inside_complete room text) (inside_lies room text) (white_end text (at + 1)) e end is
