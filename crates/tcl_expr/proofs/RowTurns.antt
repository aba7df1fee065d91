-- The turns of a row of operators, and of conditions with their values.
use Rattle.std.proofs.Common.{◌≡◌, ℕ, zero, suc, ◌+◌, ◌-◌, ◌<◌, ◌≤◌, List, [], ◌∷◌, ◌++◌, length}
use Rattle.std.specs.declared.alloc.Global.{Global}
use Rattle.std.proofs.Common.{Vec, Some, None, true, false, cond, refl, sym, ap, ◌∙◌, arith}
use Rattle.std.specs.Prelude.{Ok, Err}
use Rattle.tcl_words.specs.Places.{stands}
use Rattle.tcl_words.specs.Skips.{turns}
use Rattle.tcl_expr.specs.Expression.{Expression, More, no_more, more, Cases, no_cases, case}
use Rattle.tcl_expr.specs.ExpressionReading.{Read, and_then, closed_by, with_joint, more_at}
use Rattle.tcl_expr.specs.ExpressionReading.{with_case, cases_at}
use Rattle.tcl_expr.specs.ExpressionView.{expr_view, more_view, cases_view}
use Rattle.tcl_expr.specs.Tokens.{joint_at, white_end}
use Rattle.tcl_expr.specs.declared.expr.Expr as code
use Rattle.tcl_expr.specs.declared.expr.Joint.{Joint}
use Rattle.tcl_expr.specs.declared.expr_fault.Misread.{Misread}

-- what a reader gave, as the definition has it
abbrev pub seen_expr : code.Expr × ℕ → Expression × ℕ
seen_expr r = (expr_view r.0, r.1)

abbrev pub seen_rest : Vec (Joint × code.Expr) Global × ℕ → More × ℕ
seen_rest r = (more_view r.0.items, r.1)

abbrev more_before : List (Joint × code.Expr) → More → More
more_before [] m = m
more_before (r ∷ rs) m = more r.0 (expr_view r.1) (more_before rs m)

all_more : (rs : List (Joint × code.Expr)) → more_before rs no_more ≡ more_view rs
all_more [] = refl
all_more (r ∷ rs) = ap (more r.0 (expr_view r.1)) (all_more rs)

push_more : (rs : List (Joint × code.Expr)) (r : Joint × code.Expr) (m : More)
    → more_before rs (more r.0 (expr_view r.1) m) ≡ more_before (rs ++ r ∷ []) m
push_more [] r m = refl
push_more (q ∷ rs) r m = ap (more q.0 (expr_view q.1)) (push_more rs r m)

abbrev followed : List (Joint × code.Expr) → Read More → Read More
followed rs r = and_then r (λ m end. Ok (more_before rs m, end))

module _ (k : ℕ) (tighter : ℕ → Read Expression) (text : List ℕ) where
  -- what stands in the row so far is followed by what stands there from the place on
  pub record MoreTo (start : ℕ) (rest : List (Joint × code.Expr)) (at : ℕ) : Type 0 where
    pub n : ℕ
    pub enough : length text < n + at
    pub same : more_at k tighter text (turns text) start
        ≡ followed rest (more_at k tighter text n at)

  unmoved : (r : Read More) → r ≡ followed [] r
  unmoved (Ok r) = refl
  unmoved (Err e) = refl

  pub more_begins : (at : ℕ) → MoreTo at [] at
  more_begins at = record { n = turns text; enough = omega arith; same = unmoved _ }

  abbrev joined_to : Joint → Expression → Read More → Read More
  joined_to o e r = and_then r (λ rest end. Ok (more o e rest, end))

  goes_on : (n at : ℕ) (o : Joint) (end : ℕ) → 0 < n → joint_at k text at ≡ Some (o, end)
      → more_at k tighter text n at ≡ and_then (tighter (white_end text end))
      (λ e mid. joined_to o e (more_at k tighter text (n - 1) mid))
  unfolding more_at
  goes_on zero at o end h e = absurd (omega arith)
  goes_on (suc n) at o end h e =
      let less : suc n - 1 ≡ n = omega arith in
      ap (with_joint tighter (more_at k tighter text n) text at) e
      ∙ ap (λ m. and_then (tighter (white_end text end)) (λ x mid. joined_to o x (more_at k tighter text m mid)))
      (sym less)

  stops : (n at : ℕ) → joint_at k text at ≡ None → more_at k tighter text n at ≡ Ok (no_more, at)
  unfolding more_at
  stops zero at e = refl
  stops (suc n) at e = ap (with_joint tighter (more_at k tighter text n) text at) e

  pushed : (rest : List (Joint × code.Expr)) (o : Joint) (e : code.Expr) (r : Read More)
      → followed rest (joined_to o (expr_view e) r) ≡ followed (rest ++ (o, e) ∷ []) r
  pushed rest o e (Ok r) = ap (λ m. Ok (m, r.1)) (push_more rest (o, e) r.0)
  pushed rest o e (Err f) = refl

  pub more_turn : (start at : ℕ) (rest : List (Joint × code.Expr)) (o : Joint) (end : ℕ)
      (e : code.Expr) (next : ℕ) → at ≤ length text → joint_at k text at ≡ Some (o, end)
      → tighter (white_end text end) ≡ Ok (expr_view e, next) → at < next → MoreTo start rest at
      → MoreTo start (rest ++ (o, e) ∷ []) next
  more_turn start at rest o end e next within stands read on so = record {
    n = so.n - 1;
    enough = omega (arith, so.enough);
    same = so.same
        ∙ ap (followed rest) (goes_on so.n at o end (omega (arith, so.enough)) stands
        ∙ ap (λ r. and_then r (λ x mid. joined_to o x (more_at k tighter text (so.n - 1) mid))) read)
        ∙ pushed rest o e (more_at k tighter text (so.n - 1) next);
  }

  pub more_ends : (start at : ℕ) (rest : List (Joint × code.Expr)) → joint_at k text at ≡ None
      → MoreTo start rest at → more_at k tighter text (turns text) start ≡ Ok (more_view rest, at)
  more_ends start at rest e so =
      so.same ∙ ap (followed rest) (stops so.n at e) ∙ ap (λ m. Ok (m, at)) (all_more rest)

  pub more_faults : (start at : ℕ) (rest : List (Joint × code.Expr)) (o : Joint) (end : ℕ)
      (f : Misread) → at ≤ length text → joint_at k text at ≡ Some (o, end)
      → tighter (white_end text end) ≡ Err f → MoreTo start rest at
      → more_at k tighter text (turns text) start ≡ Err f
  more_faults start at rest o end f within stands read so =
      so.same
      ∙ ap (followed rest) (goes_on so.n at o end (omega (arith, so.enough)) stands
      ∙ ap (λ r. and_then r (λ x mid. joined_to o x (more_at k tighter text (so.n - 1) mid))) read)

abbrev cases_before : List (code.Expr × code.Expr) → Cases → Cases
cases_before [] m = m
cases_before (c ∷ cs) m = case (expr_view c.0) (expr_view c.1) (cases_before cs m)

all_cases : (cs : List (code.Expr × code.Expr)) → cases_before cs no_cases ≡ cases_view cs
all_cases [] = refl
all_cases (c ∷ cs) = ap (case (expr_view c.0) (expr_view c.1)) (all_cases cs)

push_case : (cs : List (code.Expr × code.Expr)) (c : code.Expr × code.Expr) (m : Cases)
    → cases_before cs (case (expr_view c.0) (expr_view c.1) m) ≡ cases_before (cs ++ c ∷ []) m
push_case [] c m = refl
push_case (q ∷ cs) c m = ap (case (expr_view q.0) (expr_view q.1)) (push_case cs c m)

abbrev listed : List (code.Expr × code.Expr) → Read (Cases × Expression) → Read (Cases × Expression)
listed cs r = and_then r (λ m end. Ok ((cases_before cs m.0, m.1), end))

module _ (enclosed condition : ℕ → Read Expression) (text : List ℕ) where
  -- the conditions so far stand before those from the place on
  pub record CasesTo (start : ℕ) (cs : List (code.Expr × code.Expr)) (at : ℕ) : Type 0 where
    pub n : ℕ
    pub enough : length text < n + at
    pub same : cases_at enclosed condition text (turns text) start
        ≡ listed cs (cases_at enclosed condition text n at)

  unlisted : (r : Read (Cases × Expression)) → r ≡ listed [] r
  unlisted (Ok r) = refl
  unlisted (Err e) = refl

  pub cases_begin : (at : ℕ) → CasesTo at [] at
  cases_begin at = record { n = turns text; enough = omega arith; same = unlisted _ }

  abbrev cased : Expression → Expression → Read (Cases × Expression) → Read (Cases × Expression)
  cased c v r = and_then r (λ m end. Ok ((case c v m.0, m.1), end))

  -- the place after the value of a condition, which stands from the question mark to the colon
  abbrev value_at : ℕ → Read Expression
  value_at at = and_then (enclosed at) (closed_by 58 text)

  condition_read : (n at : ℕ) → 0 < n → cases_at enclosed condition text n at
      ≡ and_then (condition at) (with_case enclosed (cases_at enclosed condition text (n - 1)) text)
  unfolding cases_at
  condition_read zero at h = absurd (omega arith)
  condition_read (suc n) at h =
      let less : suc n - 1 ≡ n = omega arith in
      ap (λ m. and_then (condition at) (with_case enclosed (cases_at enclosed condition text m) text)) (sym less)

  pushed_case : (cs : List (code.Expr × code.Expr)) (c v : code.Expr) (r : Read (Cases × Expression))
      → listed cs (cased (expr_view c) (expr_view v) r) ≡ listed (cs ++ (c, v) ∷ []) r
  pushed_case cs c v (Ok r) = ap (λ m. Ok ((m, r.0.1), r.1)) (push_case cs (c, v) r.0.0)
  pushed_case cs c v (Err f) = refl

  chooses : (again : ℕ → Read (Cases × Expression)) (c : Expression) (at : ℕ)
      → stands text at 63 ≡ true
      → with_case enclosed again text c at ≡ and_then (value_at at) (λ v next. cased c v (again next))
  chooses again c at e = ap (λ b. cond b (and_then (value_at at) (λ v next. cased c v (again next))) (Ok ((no_cases, c), at))) e

  chooses_not : (again : ℕ → Read (Cases × Expression)) (c : Expression) (at : ℕ)
      → stands text at 63 ≡ false → with_case enclosed again text c at ≡ Ok ((no_cases, c), at)
  chooses_not again c at e = ap (λ b. cond b (and_then (value_at at) (λ v next. cased c v (again next))) (Ok ((no_cases, c), at))) e

  -- from the place on, where the condition was read
  from_condition : (start at : ℕ) (cs : List (code.Expr × code.Expr)) (c : Expression) (mid : ℕ)
      → at ≤ length text → condition at ≡ Ok (c, mid) → (so : CasesTo start cs at)
      → cases_at enclosed condition text (turns text) start
      ≡ listed cs (with_case enclosed (cases_at enclosed condition text (so.n - 1)) text c mid)
  from_condition start at cs c mid within read so =
      so.same ∙ ap (listed cs) (condition_read so.n at (omega (arith, so.enough))
      ∙ ap (λ r. and_then r (with_case enclosed (cases_at enclosed condition text (so.n - 1)) text)) read)

  pub cases_turn : (start at : ℕ) (cs : List (code.Expr × code.Expr)) (c : code.Expr) (mid : ℕ)
      (v : code.Expr) (next : ℕ) → at ≤ length text → condition at ≡ Ok (expr_view c, mid)
      → stands text mid 63 ≡ true → value_at mid ≡ Ok (expr_view v, next) → at < next
      → CasesTo start cs at → CasesTo start (cs ++ (c, v) ∷ []) next
  cases_turn start at cs c mid v next within read asks valued on so =
      let again = cases_at enclosed condition text (so.n - 1) in
      record {
        n = so.n - 1;
        enough = omega (arith, so.enough);
        same = from_condition start at cs (expr_view c) mid within read so
            ∙ ap (listed cs) (chooses again (expr_view c) mid asks
            ∙ ap (λ r. and_then r (λ x k. cased (expr_view c) x (again k))) valued)
            ∙ pushed_case cs c v (again next);
      }

  pub cases_end : (start at : ℕ) (cs : List (code.Expr × code.Expr)) (c : code.Expr) (mid : ℕ)
      → at ≤ length text → condition at ≡ Ok (expr_view c, mid) → stands text mid 63 ≡ false
      → CasesTo start cs at
      → cases_at enclosed condition text (turns text) start ≡ Ok ((cases_view cs, expr_view c), mid)
  cases_end start at cs c mid within read ends so =
      from_condition start at cs (expr_view c) mid within read so
      ∙ ap (listed cs) (chooses_not (cases_at enclosed condition text (so.n - 1)) (expr_view c) mid ends)
      ∙ ap (λ m. Ok ((m, expr_view c), mid)) (all_cases cs)

  pub condition_faults : (start at : ℕ) (cs : List (code.Expr × code.Expr)) (f : Misread)
      → at ≤ length text → condition at ≡ Err f → CasesTo start cs at
      → cases_at enclosed condition text (turns text) start ≡ Err f
  condition_faults start at cs f within read so =
      so.same ∙ ap (listed cs) (condition_read so.n at (omega (arith, so.enough))
      ∙ ap (λ r. and_then r (with_case enclosed (cases_at enclosed condition text (so.n - 1)) text)) read)

  pub value_faults : (start at : ℕ) (cs : List (code.Expr × code.Expr)) (c : Expression) (mid : ℕ)
      (f : Misread) → at ≤ length text → condition at ≡ Ok (c, mid) → stands text mid 63 ≡ true
      → value_at mid ≡ Err f → CasesTo start cs at
      → cases_at enclosed condition text (turns text) start ≡ Err f
  value_faults start at cs c mid f within read asks valued so =
      let again = cases_at enclosed condition text (so.n - 1) in
      from_condition start at cs c mid within read so
      ∙ ap (listed cs) (chooses again c mid asks ∙ ap (λ r. and_then r (λ x k. cased c x (again k))) valued)
