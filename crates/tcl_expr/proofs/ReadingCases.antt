-- What the readers of expressions read, case by case.
use Rattle.std.proofs.Common.{◌≡◌, ℕ, zero, suc, ◌+◌, ◌-◌, ◌<◌, List, true, false}
use Rattle.std.proofs.Common.{sym, ap, subst, ◌∙◌, arith}
use Rattle.std.specs.Prelude.{Result, Ok, Err}
use Rattle.std.specs.Result.{IsErr, IsErrAnd}
use Rattle.tcl_words.specs.Places.{stands, opens_name, starts_variable}
use Rattle.tcl_words.specs.Reading.{level, read_braced, read_name, read_variable}
use Rattle.tcl_words.specs.Skips.{turns}
use Rattle.tcl_expr.specs.Expression.{Expression, Cases}
use Rattle.tcl_expr.specs.ExpressionReading.{Read, and_then, closed_by, from, literal_at, taken_word}
use Rattle.tcl_expr.specs.ExpressionReading.{taken_part, taken_bracket, operand_at, prefixes_at, more_at}
use Rattle.tcl_expr.specs.ExpressionReading.{prefixed_by, row_of, row_at, cases_at, choice_of}
use Rattle.tcl_expr.specs.ExpressionReading.{whole_at, enclosed_at}
use Rattle.tcl_expr.specs.Outcome.{Outcome}
use Rattle.tcl_expr.specs.Tokens.{white_end}
use Rattle.tcl_expr.specs.declared.expr_fault.ExprFault.{ExprFault}
use Rattle.tcl_expr.specs.declared.expr_fault.ExprFault.TheVariants.{Fault, Memory}
use Rattle.tcl_expr.specs.declared.expr_fault.Misread.{Misread}
use Rattle.tcl_expr.specs.declared.operator.Op1.{Op1}
use Rattle.tcl_expr.specs.declared.expr_fault.Misread.TheVariants.{TooDeep}

-- a fault that was given is handed on, where the whole has it too
faults_alike : {A B C D : Type 0} (view : A → C) (seen : B → D) (e : ExprFault) (part : Result C Misread)
    (says : Result D Misread) → ((f : Misread) → part ≡ Err f → says ≡ Err f)
    → Outcome view (Err e) part → Outcome seen (Err e) says
faults_alike view seen (Fault f) part says alike given = alike f given
faults_alike view seen Memory part says alike given = tt

pub handed_on : {A B C D : Type 0} (view : A → C) (seen : B → D) (e : ExprFault)
    (part : Result C Misread) (says : Result D Misread) (r : Result B ExprFault)
    → IsErr r × IsErrAnd r (λ q. q ≡ e) → ((f : Misread) → part ≡ Err f → says ≡ Err f)
    → Outcome view (Err e) part → Outcome seen r says
handed_on view seen e part says (Ok b) handed alike given = let no = handed.0 in cc
handed_on view seen e part says (Err q) handed alike given =
    let same : q ≡ e = handed.1 in
    subst (λ x. Outcome seen (Err x) says) (sym same) (faults_alike view seen e part says alike given)

module _ (room : ℕ) (enclosed : ℕ → Read Expression) (text : List ℕ) (at : ℕ) where
  pub operand_between : stands text at 40 ≡ true
      → operand_at room enclosed text at ≡ and_then (enclosed at) (closed_by 41 text)
  unfolding operand_at
  operand_between a = simp a

  pub operand_quoted : stands text at 40 ≡ false → stands text at 34 ≡ true
      → operand_at room enclosed text at ≡ taken_word text ((level room).quoted text (from at))
  unfolding operand_at
  operand_quoted a b = simp (a, b)

  pub operand_braced : stands text at 40 ≡ false → stands text at 34 ≡ false
      → stands text at 123 ≡ true
      → operand_at room enclosed text at ≡ taken_word text (read_braced room text (from at))
  unfolding operand_at
  operand_braced a b c = simp (a, b, c)

  pub operand_bracket : stands text at 40 ≡ false → stands text at 34 ≡ false
      → stands text at 123 ≡ false → stands text at 91 ≡ true
      → operand_at room enclosed text at ≡ taken_bracket at text ((level room).bracket text (from at))
  unfolding operand_at
  operand_bracket a b c d = simp (a, b, c, d)

  pub operand_name : stands text at 40 ≡ false → stands text at 34 ≡ false
      → stands text at 123 ≡ false → stands text at 91 ≡ false → opens_name text at ≡ true
      → operand_at room enclosed text at ≡ taken_part text (read_name room text (from at))
  unfolding operand_at
  operand_name a b c d e = simp (a, b, c, d, e)

  pub operand_variable : stands text at 40 ≡ false → stands text at 34 ≡ false
      → stands text at 123 ≡ false → stands text at 91 ≡ false → opens_name text at ≡ false
      → starts_variable text at ≡ true
      → operand_at room enclosed text at ≡ taken_part text (read_variable (level room) text (from at))
  unfolding operand_at
  operand_variable a b c d e f = simp (a, b, c, d, e, f)

  pub operand_literal : stands text at 40 ≡ false → stands text at 34 ≡ false
      → stands text at 123 ≡ false → stands text at 91 ≡ false → opens_name text at ≡ false
      → starts_variable text at ≡ false → operand_at room enclosed text at ≡ literal_at text at
  unfolding operand_at
  operand_literal a b c d e f = simp (a, b, c, d, e, f)

pub enclosed_below : (room : ℕ) (text : List ℕ) (opener : ℕ) → 0 < room
    → enclosed_at room text opener
    ≡ whole_at (room - 1) (enclosed_at (room - 1) text) text (white_end text (opener + 1))
unfolding enclosed_at
enclosed_below zero text opener h = absurd (omega arith)
enclosed_below (suc room) text opener h =
    let k : suc room - 1 ≡ room = omega arith in
    ap (λ m. whole_at m (enclosed_at m text) text (white_end text (opener + 1))) (sym k)

pub enclosed_deepest : (room : ℕ) (text : List ℕ) (opener : ℕ) → room ≡ 0
    → enclosed_at room text opener ≡ Err (TooDeep opener)
unfolding enclosed_at
enclosed_deepest room text opener e = rw e

module _ (operand : ℕ → Read Expression) (text : List ℕ) where
  pub row_tightest : (k at : ℕ) → k ≡ 0 → row_at k operand text at ≡ operand at
  unfolding row_at
  row_tightest k at e = rw e

  abbrev pub row_from : ℕ → (List Op1 × ℕ) → Read Expression
  row_from k before = and_then (row_at (k - 1) operand text before.1)
      (λ first mid. and_then (more_at k (row_at (k - 1) operand text) text (turns text) mid)
      (λ rest end. Ok (row_of (prefixed_by before.0 first) rest, end)))

  pub row_looser : (k at : ℕ) → 0 < k
      → row_at k operand text at ≡ row_from k (prefixes_at k text (turns text) at)
  unfolding row_at
  row_looser zero at h = absurd (omega arith)
  row_looser (suc k) at h =
      let e : suc k - 1 ≡ k = omega arith in
      let before = prefixes_at (suc k) text (turns text) at in
      ap (λ m. and_then (row_at m operand text before.1)
      (λ first mid. and_then (more_at (suc k) (row_at m operand text) text (turns text) mid)
      (λ rest end. Ok (row_of (prefixed_by before.0 first) rest, end)))) (sym e)

  -- what a row reads, once its prefixes are known
  pub row_started : (k at : ℕ) (ops : List Op1) (start : ℕ) → 0 < k
      → prefixes_at k text (turns text) at ≡ (ops, start)
      → row_at k operand text at ≡ row_from k (ops, start)
  row_started k at ops start h e = row_looser k at h ∙ ap (row_from k) e

  pub first_faults : (k at : ℕ) (ops : List Op1) (start : ℕ) (f : Misread) → 0 < k
      → prefixes_at k text (turns text) at ≡ (ops, start)
      → row_at (k - 1) operand text start ≡ Err f → row_at k operand text at ≡ Err f
  first_faults k at ops start f h e faulty =
      row_started k at ops start h e
      ∙ ap (λ r. and_then r
      (λ first mid. and_then (more_at k (row_at (k - 1) operand text) text (turns text) mid)
      (λ rest end. Ok (row_of (prefixed_by ops first) rest, end)))) faulty

  pub first_read : (k at : ℕ) (ops : List Op1) (start : ℕ) (first : Expression) (mid : ℕ) → 0 < k
      → prefixes_at k text (turns text) at ≡ (ops, start)
      → row_at (k - 1) operand text start ≡ Ok (first, mid)
      → row_at k operand text at
      ≡ and_then (more_at k (row_at (k - 1) operand text) text (turns text) mid)
      (λ rest end. Ok (row_of (prefixed_by ops first) rest, end))
  first_read k at ops start first mid h e read =
      row_started k at ops start h e
      ∙ ap (λ r. and_then r
      (λ first mid. and_then (more_at k (row_at (k - 1) operand text) text (turns text) mid)
      (λ rest end. Ok (row_of (prefixed_by ops first) rest, end)))) read

module _ (room : ℕ) (enclosed : ℕ → Read Expression) (text : List ℕ) where
  -- a whole expression is its conditions and last value
  pub whole_faults : (at : ℕ) (f : Misread)
      → cases_at enclosed (row_at 13 (operand_at room enclosed text) text) text (turns text) at ≡ Err f
      → whole_at room enclosed text at ≡ Err f
  unfolding whole_at
  whole_faults at f e = ap (λ r. and_then r (λ c end. Ok (choice_of c.0 c.1, end))) e

  pub whole_read : (at : ℕ) (cs : Cases) (last : Expression) (end : ℕ)
      → cases_at enclosed (row_at 13 (operand_at room enclosed text) text) text (turns text) at
      ≡ Ok ((cs, last), end)
      → whole_at room enclosed text at ≡ Ok (choice_of cs last, end)
  unfolding whole_at
  whole_read at cs last end e = ap (λ r. and_then r (λ c end. Ok (choice_of c.0 c.1, end))) e
