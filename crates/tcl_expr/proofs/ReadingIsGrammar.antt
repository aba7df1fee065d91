-- The reading gives an expression exactly where the text is one.
use Rattle.std.proofs.Common.{◌≡◌, ◌↔◌, refl, sym, ap, subst, ◌∙◌, ℕ, List, length, Bool, true, false, cond, arith}
use Rattle.std.proofs.lemmas.Bool.Decides.{nat_tests}
use Rattle.std.specs.Prelude.{Result, Ok, Err, ◌==◌}
use Rattle.tcl_expr.specs.Expression.{Expression}
use Rattle.tcl_expr.specs.ExpressionReading.{Read, whole_at, enclosed_at, ended, expression_within}
use Rattle.tcl_expr.specs.Grammar.{SpellsWhole, SpellsInside, SpellsWithin}
use Rattle.tcl_expr.specs.GrammarLaws.{ReadingIsGrammar, OneExpression, Grammatical}
use Rattle.tcl_expr.specs.Outcome.{Outcome}
use Rattle.tcl_expr.specs.Tokens.{white_end}
use Rattle.tcl_expr.specs.declared.expr_fault.ExprFault.{ExprFault}
use Rattle.tcl_expr.specs.declared.expr_fault.ExprFault.TheVariants.{Fault, Memory}
use Rattle.tcl_expr.specs.declared.expr_fault.Misread.{Misread}
use Rattle.tcl_expr.specs.declared.expr_fault.Misread.TheVariants.{Syntax}
use Rattle.tcl_expr.proofs.GrammarComplete.{whole_complete, inside_complete}
use Rattle.tcl_expr.proofs.GrammarPlaces.{inside_lies}
use Rattle.tcl_expr.proofs.GrammarSound.{whole_sound, inside_sound}

is_same : (n m : ℕ) → (n == m) ≡ true → n ≡ m
is_same n m h = grind (arith, nat_tests)

same_is : (n : ℕ) → (n == n) ≡ true
same_is n = grind (arith, nat_tests)

-- what was read up to the text's end
read_to_end : (text : List ℕ) (r : Read Expression) (e : Expression) → ended text r ≡ Ok e → r ≡ Ok (e, length text)
read_to_end text (Err f) e h = cc
read_to_end text (Ok r) e h = by_test (r.1 == length text) refl h where
  by_test : (b : Bool) → (r.1 == length text) ≡ b → cond {A = Result Expression Misread} b (Ok r.0) (Err (Syntax r.1)) ≡ Ok e → ◌≡◌ {A = Read Expression} (Ok r) (Ok (e, length text))
  by_test true t k = let same : r.0 ≡ e = cc in let last = is_same r.1 (length text) t in ap Ok (ap (λ x. (x, r.1)) same ∙ ap (λ n. (e, n)) last)
  by_test false t k = cc

to_end : (text : List ℕ) (r : Read Expression) (e : Expression) → r ≡ Ok (e, length text) → ended text r ≡ Ok e
to_end text r e h = ap (ended text) h ∙ ap (λ b. cond b (Ok e) (Err (Syntax (length text)))) (same_is (length text))

pub reading_is_grammar : ReadingIsGrammar
reading_is_grammar room text e = (
  λ h. whole_sound room (enclosed_at room text) (SpellsInside room text) text (inside_sound room text) (inside_lies room text) (white_end text 0) e (length text) (read_to_end text _ e h),
  λ is. to_end text _ e (whole_complete room (enclosed_at room text) (SpellsInside room text) text (inside_complete room text) (inside_lies room text) (white_end text 0) e (length text) is),
)

pub one_expression : OneExpression
one_expression room text a b p q =
    let same : Ok a ≡ Ok b = sym ((reading_is_grammar room text a).1 p) ∙ (reading_is_grammar room text b).1 q in cc

pub grammatical : {A : Type 0} (view : A → Expression) (room : ℕ) (text : List ℕ) (r : Result A ExprFault) → Outcome view r (expression_within room text) → Grammatical view room text r
grammatical view room text (Ok a) h = (reading_is_grammar room text (view a)).0 h
grammatical view room text (Err (Fault f)) h = λ e is. let same : Err f ≡ Ok e = sym h ∙ (reading_is_grammar room text e).1 is in cc
grammatical view room text (Err Memory) h = tt
