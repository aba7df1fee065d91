-- What is read as an expression is spelled so.
use Rattle.std.proofs.Common.{◌≡◌, ◌⊎◌, inl, inr, refl, sym, ap, subst, ◌∙◌, ℕ, zero, suc, ◌+◌, ◌<◌}
use Rattle.std.proofs.Common.{List, [], ◌∷◌, length, Bool, true, false, Option, Some, None, cond, arith}
use Rattle.std.specs.Prelude.{Result, Ok, Err, slice_range, codes}
use Rattle.tcl_words.specs.Faults.{to}
use Rattle.tcl_words.specs.Places.{stands, opens_name, starts_variable}
use Rattle.tcl_words.specs.Reading.{level, read_braced, read_name, read_variable}
use Rattle.tcl_words.specs.Skips.{turns}
use Rattle.tcl_words.specs.Tree.{Parts, no_parts, and_part, bracket, from_to}
use Rattle.tcl_words.specs.declared.parse_fault.Fault as words_fault
use Rattle.tcl_words.specs.declared.progress.Progress.{Progress}
use Rattle.tcl_expr.specs.Expression.{Expression, literal, joined, More, no_more, more}
use Rattle.tcl_expr.specs.Expression.{Cases, no_cases, case}
use Rattle.tcl_expr.specs.ExpressionReading.{Read, and_then, closed_by, from, taken_by, taken, taken_word}
use Rattle.tcl_expr.specs.ExpressionReading.{taken_part, taken_bracket, written, literal_at, operand_at}
use Rattle.tcl_expr.specs.ExpressionReading.{with_prefix, prefixes_at, prefixed_by, with_joint, more_at}
use Rattle.tcl_expr.specs.ExpressionReading.{row_of, row_at, with_case, cases_at, choice_of, whole_at}
use Rattle.tcl_expr.specs.ExpressionReading.{enclosed_at}
use Rattle.tcl_expr.specs.Grammar.{Spelling, SpellsLiteral, SpellsToken, SpellsClosed, SpellsOperand}
use Rattle.tcl_expr.specs.Grammar.{SpellsPrefixes, SpellsMore, SpellsRow, SpellsRows, SpellsCases}
use Rattle.tcl_expr.specs.Grammar.{SpellsWhole, SpellsInside, SpellsQuoted, SpellsBraced}
use Rattle.tcl_expr.specs.Grammar.{SpellsSubstituted}
use Rattle.tcl_expr.specs.Tokens.{white_end, reads_word, prefix_at, joint_at, digit_stands, number_end}
use Rattle.tcl_expr.specs.declared.expr.Joint.{Joint}
use Rattle.tcl_expr.specs.declared.expr_fault.Misread.TheVariants.{Syntax}
use Rattle.tcl_expr.specs.declared.operator.Op1.{Op1}
use Rattle.tcl_expr.proofs.GrammarPlaces.{Lies, AllLie, white_on, prefix_on, prefix_past, joint_on, joint_past}
use Rattle.tcl_expr.proofs.GrammarPlaces.{operand_lies, rows_lie, inside_lies}
use Rattle.tcl_expr.proofs.OperandSound.{quoted_sound, braced_sound, bracket_sound, name_sound, variable_sound}

-- whatever this reads is spelled so
abbrev pub IsSound : (ℕ → Read Expression) → Spelling → Type 0
IsSound read Spells = (at : ℕ) (e : Expression) (end : ℕ) → read at ≡ Ok (e, end) → Spells at e end

-- what was read first, where all of it was read
record First {A B : Type 0} (r : Read A) (f : A → ℕ → Read B) (b : B) (end : ℕ) : Type 0 where
  value : A
  mid : ℕ
  first : r ≡ Ok (value, mid)
  then_read : f value mid ≡ Ok (b, end)

first_of : {A B : Type 0} (r : Read A) (f : A → ℕ → Read B) (b : B) (end : ℕ) → and_then r f ≡ Ok (b, end) → First r f b end
first_of (Ok r) f b end h = record { value = r.0; mid = r.1; first = refl; then_read = h }
first_of (Err e) f b end h = cc

record Same {A : Type 0} (x y : A) (m n : ℕ) : Type 0 where
  value : x ≡ y
  end_is : m ≡ n

same_read : {A : Type 0} (x y : A) (m n : ℕ) → ◌≡◌ {A = Read A} (Ok (x, m)) (Ok (y, n)) → Same x y m n
same_read {A} x y m n h =
    let p : ◌≡◌ {A = A × ℕ} (x, m) (y, n) = cc in
    record { value = ap (λ (q : A × ℕ). q.0) p; end_is = ap (λ (q : A × ℕ). q.1) p }

record Closed (close : ℕ) (text : List ℕ) (e : Expression) (at : ℕ) (x : Expression) (end : ℕ) : Type 0 where
  is_closed : stands text at close ≡ true
  same : e ≡ x
  end_is : end ≡ white_end text (at + 1)

closed_sound : (close : ℕ) (text : List ℕ) (e : Expression) (at : ℕ) (x : Expression) (end : ℕ) → closed_by close text e at ≡ Ok (x, end) → Closed close text e at x end
unfolding closed_by
closed_sound close text e at x end h = by_test (stands text at close) refl h where
  by_test : (b : Bool) → stands text at close ≡ b → cond {A = Read Expression} b (Ok (e, white_end text (at + 1))) (Err (Syntax at)) ≡ Ok (x, end) → Closed close text e at x end
  by_test true t k = let s = same_read e x (white_end text (at + 1)) end k in record { is_closed = t; same = s.value; end_is = sym s.end_is }
  by_test false t k = cc

-- what an opener encloses, up to its closing byte
module _ (Inside : Spelling) (enclosed : ℕ → Read Expression) (text : List ℕ) (sound : IsSound enclosed Inside) where
  pub enclosed_sound : (close at : ℕ) (e : Expression) (end : ℕ) → and_then (enclosed at) (closed_by close text) ≡ Ok (e, end) → SpellsClosed Inside close text at e end
  enclosed_sound close at e end h =
      let f = first_of (enclosed at) (closed_by close text) e end h in
      let c = closed_sound close text f.value f.mid e end f.then_read in
      record { mid = f.mid; inside = subst (λ x. Inside at x f.mid) c.same (sound at f.value f.mid f.first); is_closed = c.is_closed; end_is = c.end_is }

-- ---- literals

record Written (text : List ℕ) (at last : ℕ) (e : Expression) (end : ℕ) : Type 0 where
  same : e ≡ literal (slice_range text at last)
  end_is : end ≡ white_end text last

written_is : (text : List ℕ) (at last : ℕ) (e : Expression) (end : ℕ) → written text at last ≡ Ok (e, end) → Written text at last e end
written_is text at last e end h =
    let s = same_read (literal (slice_range text at last)) e (white_end text last) end h in record { same = sym s.value; end_is = sym s.end_is }

module _ (room : ℕ) (text : List ℕ) (at : ℕ) (e : Expression) (end : ℕ) where
  -- one token, and the white space behind it
  abbrev IsToken : Type 0
  IsToken = (last : ℕ) × SpellsToken room text at e last × (end ≡ white_end text last)

  of_literal : (last : ℕ) → SpellsLiteral text at last → written text at last ≡ Ok (e, end) → IsToken
  of_literal last is h =
      let w = written_is text at last e end h in
      (last, subst (λ x. SpellsToken room text at x last) (sym w.same) (is, refl), w.end_is)

  literal_by : (t f d : Bool) → reads_word text at (codes "true") ≡ t → reads_word text at (codes "false") ≡ f → digit_stands 10 text at ≡ d
      → cond t (written text at (at + 4)) (cond f (written text at (at + 5)) (cond d (written text at (number_end text at)) (Err (Syntax at)))) ≡ Ok (e, end) → IsToken
  literal_by true f d p q r h = of_literal (at + 4) (inl (p, refl)) h
  literal_by false true d p q r h = of_literal (at + 5) (inr (inl (q, refl))) h
  literal_by false false true p q r h = of_literal (number_end text at) (inr (inr (r, refl))) h
  literal_by false false false p q r h = cc

  pub literal_sound : literal_at text at ≡ Ok (e, end) → IsToken
  unfolding literal_at
  literal_sound h = literal_by (reads_word text at (codes "true")) (reads_word text at (codes "false")) (digit_stands 10 text at) refl refl refl h

-- ---- operands

-- parts that were read without a fault
record Taken (ps : Parts) (s : Progress) (text : List ℕ) (e : Expression) (end : ℕ) : Type 0 where
  quiet : s.fault ≡ None
  same : e ≡ joined ps
  end_is : end ≡ white_end text s.at

taken_is : (text : List ℕ) (ps : Parts) (s : Progress) (e : Expression) (end : ℕ) → taken text ps s ≡ Ok (e, end) → Taken ps s text e end
unfolding taken
taken_is text ps s e end h = by_fault s.fault refl h where
  by_fault : (o : Option words_fault.Fault) → s.fault ≡ o → taken_by o text ps s.at ≡ Ok (e, end) → Taken ps s text e end
  by_fault None q k = let x = same_read (joined ps) e (white_end text s.at) end k in record { quiet = q; same = sym x.value; end_is = sym x.end_is }
  by_fault (Some f) q k = cc

module _ (room : ℕ) (text : List ℕ) (at : ℕ) (e : Expression) (end : ℕ) where
  parts_token : (ps : Parts) (s : Progress) → ((s.fault ≡ None) → SpellsToken room text at (joined ps) s.at) → taken text ps s ≡ Ok (e, end) → IsToken room text at e end
  parts_token ps s is h =
      let t = taken_is text ps s e end h in
      (s.at, subst (λ x. SpellsToken room text at x s.at) (sym t.same) (is t.quiet), t.end_is)

module _ (room : ℕ) (Inside : Spelling) (enclosed : ℕ → Read Expression) (text : List ℕ) (sound : IsSound enclosed Inside) where
  operand_by : (at : ℕ) (e : Expression) (end : ℕ) (p q c b n v : Bool) → stands text at 40 ≡ p → stands text at 34 ≡ q → stands text at 123 ≡ c → stands text at 91 ≡ b → opens_name text at ≡ n → starts_variable text at ≡ v
      → cond p (and_then (enclosed at) (closed_by 41 text)) (cond q (taken_word text ((level room).quoted text (from at))) (cond c (taken_word text (read_braced room text (from at))) (cond b (taken_bracket at text ((level room).bracket text (from at)))
      (cond n (taken_part text (read_name room text (from at))) (cond v (taken_part text (read_variable (level room) text (from at))) (literal_at text at)))))) ≡ Ok (e, end)
      → SpellsOperand room Inside text at e end
  operand_by at e end true q c b n v hp hq hc hb hn hv h = inl (hp, enclosed_sound Inside enclosed text sound 41 at e end h)
  operand_by at e end false true c b n v hp hq hc hb hn hv h = inr (parts_token room text at e end _ _ (λ quiet. inl (quoted_sound room text at hq quiet)) h)
  operand_by at e end false false true b n v hp hq hc hb hn hv h = inr (parts_token room text at e end _ _ (λ quiet. inr (inl (braced_sound room text at hc quiet))) h)
  operand_by at e end false false false true n v hp hq hc hb hn hv h = inr (parts_token room text at e end _ _ (λ quiet. inr (inr (bracket_sound room text at hb quiet))) h)
  operand_by at e end false false false false true v hp hq hc hb hn hv h = inr (parts_token room text at e end _ _ (λ quiet. inr (inr (name_sound room text at hn quiet))) h)
  operand_by at e end false false false false false true hp hq hc hb hn hv h = inr (parts_token room text at e end _ _ (λ quiet. inr (inr (variable_sound room text at hn hv quiet))) h)
  operand_by at e end false false false false false false hp hq hc hb hn hv h = inr (literal_sound room text at e end h)

  pub operand_sound : IsSound (operand_at room enclosed text) (SpellsOperand room Inside text)
  unfolding operand_at
  operand_sound at e end h =
      operand_by at e end (stands text at 40) (stands text at 34) (stands text at 123) (stands text at 91) (opens_name text at) (starts_variable text at) refl refl refl refl refl refl h

-- ---- rows

module _ (k : ℕ) (text : List ℕ) where
  prefixes_by : (n at : ℕ) (o : Option (Op1 × ℕ)) → prefix_at k text at ≡ o → length text < suc n + at
      → ((next : ℕ) → length text < n + next → SpellsPrefixes k text next (prefixes_at k text n next).0 (prefixes_at k text n next).1)
      → SpellsPrefixes k text at (with_prefix text at (prefixes_at k text n) o).0 (with_prefix text at (prefixes_at k text n) o).1
  prefixes_by n at None e enough again = (e, refl)
  prefixes_by n at (Some o) e enough again =
      let on = prefix_on k text at o.0 o.1 e in
      let w = white_on text o.1 in
      (o.1, e, again (white_end text o.1) (omega (arith, enough, on, w)))

  pub prefixes_sound : (n at : ℕ) → length text < n + at → SpellsPrefixes k text at (prefixes_at k text n at).0 (prefixes_at k text n at).1
  unfolding prefixes_at
  prefixes_sound zero at enough = (prefix_past k text at (omega (arith, enough)), refl)
  prefixes_sound (suc n) at enough = prefixes_by n at (prefix_at k text at) refl enough (prefixes_sound n)

module _ (k : ℕ) (tighter : ℕ → Read Expression) (Tighter : Spelling) (text : List ℕ) (sound : IsSound tighter Tighter) (lies : AllLie text Tighter) where
  ends : (at : ℕ) (m : More) (end : ℕ) → joint_at k text at ≡ None → Same no_more m at end → SpellsMore k Tighter text at m end
  ends at m end e s = subst (λ x. SpellsMore k Tighter text at x end) s.value (e, s.end_is)

  more_by : (n at : ℕ) (m : More) (end : ℕ) (o : Option (Joint × ℕ)) → joint_at k text at ≡ o → length text < suc n + at
      → ((next : ℕ) (rest : More) → length text < n + next → more_at k tighter text n next ≡ Ok (rest, end) → SpellsMore k Tighter text next rest end)
      → with_joint tighter (more_at k tighter text n) text at o ≡ Ok (m, end) → SpellsMore k Tighter text at m end
  more_by n at m end None e enough again h = ends at m end e (same_read no_more m at end h)
  more_by n at m end (Some o) e enough again h =
      let f = first_of (tighter (white_end text o.1)) (λ x mid. and_then (more_at k tighter text n mid) (λ rest end. Ok (more o.0 x rest, end))) m end h in
      let g = first_of (more_at k tighter text n f.mid) (λ rest end. Ok (more o.0 f.value rest, end)) m end f.then_read in
      let q = same_read (more o.0 f.value g.value) m g.mid end g.then_read in
      let item = sound (white_end text o.1) f.value f.mid f.first in
      let on = joint_on k text at o.0 o.1 e in
      let w = white_on text o.1 in
      let l = lies (white_end text o.1) f.value f.mid item in
      let rest = again f.mid g.value (omega (arith, enough, on, w, l.on)) (g.first ∙ ap (λ x. Ok (g.value, x)) q.end_is) in
      subst (λ x. SpellsMore k Tighter text at x end) q.value (o.1, f.mid, e, item, rest)

  pub more_sound : (n at : ℕ) (m : More) (end : ℕ) → length text < n + at → more_at k tighter text n at ≡ Ok (m, end) → SpellsMore k Tighter text at m end
  unfolding more_at
  more_sound zero at m end enough h = ends at m end (joint_past k text at (omega (arith, enough))) (same_read no_more m at end h)
  more_sound (suc n) at m end enough h = more_by n at m end (joint_at k text at) refl enough (λ next rest. more_sound n next rest end) h

module _ (operand : ℕ → Read Expression) (Operand : Spelling) (text : List ℕ) (sound : IsSound operand Operand) (lies : AllLie text Operand) where
  row_read : (k : ℕ) (tighter : ℕ → Read Expression) (Tighter : Spelling) → IsSound tighter Tighter → AllLie text Tighter → (at : ℕ) (e : Expression) (end : ℕ) (before : List Op1 × ℕ) → SpellsPrefixes k text at before.0 before.1
      → and_then (tighter before.1) (λ first mid. and_then (more_at k tighter text (turns text) mid) (λ rest end. Ok (row_of (prefixed_by before.0 first) rest, end))) ≡ Ok (e, end)
      → SpellsRow k Tighter text at e end
  row_read k tighter Tighter tight lie at e end before prefixes h =
      let f = first_of (tighter before.1) (λ first mid. and_then (more_at k tighter text (turns text) mid) (λ rest end. Ok (row_of (prefixed_by before.0 first) rest, end))) e end h in
      let g = first_of (more_at k tighter text (turns text) f.mid) (λ rest end. Ok (row_of (prefixed_by before.0 f.value) rest, end)) e end f.then_read in
      let q = same_read (row_of (prefixed_by before.0 f.value) g.value) e g.mid end g.then_read in
      record {
        before = before.0;
        start = before.1;
        prefixes = prefixes;
        first = f.value;
        mid = f.mid;
        operand = tight before.1 f.value f.mid f.first;
        rest = g.value;
        joints = more_sound k tighter Tighter text tight lie (turns text) f.mid g.value end (omega arith) (g.first ∙ ap (λ x. Ok (g.value, x)) q.end_is);
        whole = sym q.value;
      }

  pub row_sound : (k : ℕ) → IsSound (row_at k operand text) (SpellsRows k Operand text)
  unfolding row_at
  row_sound zero at e end h = sound at e end h
  row_sound (suc k) at e end h =
      row_read (suc k) (row_at k operand text) (SpellsRows k Operand text) (row_sound k) (rows_lie k Operand text lies) at e end
      (prefixes_at (suc k) text (turns text) at) (prefixes_sound (suc k) text (turns text) at (omega arith)) h

-- ---- conditions

module _ (enclosed condition : ℕ → Read Expression) (Inside Condition : Spelling) (text : List ℕ) (inside : IsSound enclosed Inside) (conditions : IsSound condition Condition) where
  abbrev AreCases : ℕ → Cases × Expression → ℕ → Type 0
  AreCases at r end = SpellsCases Inside Condition text at r.0 r.1 end

  case_by : (n at mid : ℕ) (c : Expression) (r : Cases × Expression) (end : ℕ) (b : Bool) → Condition at c mid → stands text mid 63 ≡ b
      → ((next : ℕ) (q : Cases × Expression) → cases_at enclosed condition text n next ≡ Ok (q, end) → AreCases next q end)
      → cond b (and_then (and_then (enclosed mid) (closed_by 58 text)) (λ v next. and_then (cases_at enclosed condition text n next) (λ q end. Ok ((case c v q.0, q.1), end)))) (Ok ((no_cases, c), mid)) ≡ Ok (r, end)
      → AreCases at r end
  case_by n at mid c r end true is ask again h =
      let f = first_of (and_then (enclosed mid) (closed_by 58 text)) (λ v next. and_then (cases_at enclosed condition text n next) (λ q end. Ok ((case c v q.0, q.1), end))) r end h in
      let g = first_of (cases_at enclosed condition text n f.mid) (λ q end. Ok ((case c f.value q.0, q.1), end)) r end f.then_read in
      let s = same_read (case c f.value g.value.0, g.value.1) r g.mid end g.then_read in
      let value = enclosed_sound Inside enclosed text inside 58 mid f.value f.mid f.first in
      let rest = again f.mid g.value (g.first ∙ ap (λ x. Ok (g.value, x)) s.end_is) in
      subst (λ q. AreCases at q end) s.value (mid, f.mid, is, ask, value, rest)
  case_by n at mid c r end false is ask again h =
      let s = same_read (no_cases, c) r mid end h in
      subst (λ q. AreCases at q end) s.value (subst (λ x. Condition at c x) s.end_is is, subst (λ x. stands text x 63 ≡ false) s.end_is ask)

  pub cases_sound : (n at : ℕ) (r : Cases × Expression) (end : ℕ) → cases_at enclosed condition text n at ≡ Ok (r, end) → AreCases at r end
  unfolding cases_at
  cases_sound zero at r end h = cc
  cases_sound (suc n) at r end h =
      let f = first_of (condition at) (with_case enclosed (cases_at enclosed condition text n) text) r end h in
      case_by n at f.mid f.value r end (stands text f.mid 63) (conditions at f.value f.mid f.first) refl (λ next q. cases_sound n next q end) f.then_read

-- ---- a whole expression

pub whole_sound : (room : ℕ) (enclosed : ℕ → Read Expression) (Inside : Spelling) (text : List ℕ) → IsSound enclosed Inside → AllLie text Inside → IsSound (whole_at room enclosed text) (SpellsWhole room Inside text)
unfolding whole_at
whole_sound room enclosed Inside text sound lies at e end h =
    let operand = operand_at room enclosed text in
    let operands = SpellsOperand room Inside text in
    let condition = row_sound operand operands text (operand_sound room Inside enclosed text sound) (operand_lies room Inside text lies) 13 in
    let f = first_of (cases_at enclosed (row_at 13 operand text) text (turns text) at) (λ r end. Ok (choice_of r.0 r.1, end)) e end h in
    let s = same_read (choice_of f.value.0 f.value.1) e f.mid end f.then_read in
    record {
      cases = f.value.0;
      last = f.value.1;
      chosen = cases_sound enclosed (row_at 13 operand text) Inside (SpellsRows 13 operands text) text sound condition (turns text) at f.value end (f.first ∙ ap (λ x. Ok (f.value, x)) s.end_is);
      whole = sym s.value;
    }

pub inside_sound : (room : ℕ) (text : List ℕ) → IsSound (enclosed_at room text) (SpellsInside room text)
unfolding enclosed_at
inside_sound zero text at e end h = cc
inside_sound (suc room) text at e end h =
    whole_sound room (enclosed_at room text) (SpellsInside room text) text (inside_sound room text) (inside_lies room text) (white_end text (at + 1)) e end h
