-- Texts in hexadecimal, lists and escapes read exactly: what is found is written again, and compared.
use Rattle.std.proofs.Common.{◌≡◌, ◌↔◌, ℕ, Bool, true, false, List, [], ◌∷◌, Option, Some, None, IfOk, IfSome, Result, Ok, Err, refl, sym, ap, subst, ◌∙◌}
use Rattle.std.specs.Prelude.{codes}
use Rattle.std.specs.Bool.{then_some}
use Rattle.px_bytes.specs.Escapes.{escaped}
use Rattle.px_bytes.specs.Hexadecimal.{hex_text}
use Rattle.px_bytes.specs.HexRead.{ReadsPrinted}
use Rattle.px_bytes.specs.declared.memory.Memory.{Memory}
use Rattle.tcl_lists.proofs.Again.{written_alone}
use Rattle.tcl_lists.specs.Read.{Answers, list_values}
use Rattle.tcl_lists.specs.Write.{joined}
use Rattle.tcl_lists.specs.declared.fault.ListFault.{ListFault}
use Rattle.tcl_lists.specs.declared.fault.ListFault.TheVariants as fault
use Rattle.journal_value.specs.Exact.{Exact}
use Rattle.journal_value.specs.Unescaped.{unescaped}
use Rattle.journal_value.specs.Words.{AreBytes, IsCall, call_text}
use Rattle.journal_value.proofs.Unescapes.{unescaped_back}

-- what was found is what is written so, where it is written so
pub compared : (A W : Type 0) (written : A → W) (Fits : A → Type 0) (given : W) (x : A) (same : Bool) → (same ≡ true) ↔ (written x ≡ given) → ((y : A) → Fits y → written y ≡ given → x ≡ y) → Exact A W written Fits given (then_some same x)
compared A W written Fits given x true test one = record { is_written = test.0 refl; is_only = λ y fits is. ap Some (one y fits is) }
compared A W written Fits given x false test one = record {
  is_written = tt;
  is_only = λ y fits is. let never : false ≡ true = test.1 (ap written (one y fits is) ∙ is) in cc;
}

no_dash : (word : List ℕ) → ¬ (word ≡ codes "-") → (bytes : List ℕ) → hex_text bytes ≡ word → (first : ℕ) × (more : List ℕ) × (bytes ≡ first ∷ more)
no_dash word other [] is = absurd (other (sym is))
no_dash word other (first ∷ more) is = (first, more, refl)

read_one : (word : List ℕ) (read : Option (List ℕ)) → ¬ (word ≡ codes "-") → ReadsPrinted word read → (bytes : List ℕ) → AreBytes bytes → hex_text bytes ≡ word → read ≡ Some bytes
read_one word read other reads bytes fits is =
    let b = no_dash word other bytes is in
    let text : word ≡ hex_text (b.0 ∷ b.1) = sym is ∙ ap hex_text b.2 in
    reads b.0 b.1 (subst AreBytes b.2 fits) text ∙ ap Some (sym b.2)

pub hex_none : (word : List ℕ) → ¬ (word ≡ codes "-") → ReadsPrinted word None → Exact (List ℕ) (List ℕ) hex_text AreBytes word None
hex_none word other reads = record { is_written = tt; is_only = λ bytes fits is. read_one word None other reads bytes fits is }

pub hex_compared : (word found : List ℕ) (same : Bool) → ¬ (word ≡ codes "-") → ReadsPrinted word (Some found) → (same ≡ true) ↔ (hex_text found ≡ word) → Exact (List ℕ) (List ℕ) hex_text AreBytes word (then_some same found)
hex_compared word found same other reads test =
    compared (List ℕ) (List ℕ) hex_text AreBytes word found same test (λ bytes fits is. let one = read_one word (Some found) other reads bytes fits is in cc)

pub escape_compared : (text : List ℕ) (same : Bool) → (same ≡ true) ↔ (escaped (unescaped text) ≡ text) → Exact (List ℕ) (List ℕ) escaped AreBytes text (then_some same (unescaped text))
escape_compared text same test =
    compared (List ℕ) (List ℕ) escaped AreBytes text (unescaped text) same test (λ bytes fits is. ap unescaped (sym is) ∙ unescaped_back bytes fits)

-- the list's bytes were read, and then the list
pub call_exact : (word text : List ℕ) (found : Option (List (List ℕ))) → Exact (List ℕ) (List ℕ) hex_text AreBytes word (Some text) → Exact (List (List ℕ)) (List ℕ) joined IsCall text found → Exact (List (List ℕ)) (List ℕ) call_text IsCall word found
call_exact word text found hex list = record {
  is_written = written found list.is_written;
  is_only = λ call fits is. let one = hex.is_only (joined call) fits is in let same : joined call ≡ text = cc in list.is_only call fits same;
}
  where
    written : (r : Option (List (List ℕ))) → IfSome r (λ call. joined call ≡ text) → IfSome r (λ call. call_text call ≡ word)
    written None h = tt
    written (Some call) h = ap hex_text h ∙ hex.is_written

pub no_call : (word : List ℕ) → Exact (List ℕ) (List ℕ) hex_text AreBytes word None → Exact (List (List ℕ)) (List ℕ) call_text IsCall word None
no_call word hex = record { is_written = tt; is_only = λ call fits is. let one = hex.is_only (joined call) fits is in cc }

-- ---- lists

reads_back : (call : List (List ℕ)) → list_values (joined call) ≡ Ok call
reads_back call = written_alone call 0

pub call_compared : (text : List ℕ) (call : List (List ℕ)) (same : Bool) → list_values text ≡ Ok call → (same ≡ true) ↔ (joined call ≡ text) → Exact (List (List ℕ)) (List ℕ) joined IsCall text (then_some same call)
call_compared text call same read test =
    compared (List (List ℕ)) (List ℕ) joined IsCall text call same test
    (λ other fits is. let both : Ok call ≡ Ok other = sym read ∙ ap list_values (sym is) ∙ reads_back other in cc)

is_fault : (due : Result (List (List ℕ)) ListFault) (f : ListFault) → ¬ (f ≡ fault.Memory) → Answers due (Err f) → due ≡ Err f
is_fault due (fault.OpenBrace at) other a = a
is_fault due (fault.OpenQuote at) other a = a
is_fault due (fault.Extra at) other a = a
is_fault due fault.Memory other a = absurd (other refl)

pub no_list : (text : List ℕ) (f : ListFault) → ¬ (f ≡ fault.Memory) → Answers (list_values text) (Err f) → Exact (List (List ℕ)) (List ℕ) joined IsCall text None
no_list text f other answers = record {
  is_written = tt;
  is_only = λ call fits is.
      let both : Err f ≡ Ok call = sym (is_fault (list_values text) f other answers) ∙ ap list_values (sym is) ∙ reads_back call in
      cc;
}

pub no_list_result : (text : List ℕ) (f : ListFault) (r : Result (Option (List (List ℕ))) Memory) → IfOk r (λ call. call ≡ None) → IfOk r (λ call. ¬ (f ≡ fault.Memory)) → Answers (list_values text) (Err f) → IfOk r (Exact (List (List ℕ)) (List ℕ) joined IsCall text)
no_list_result text f (Ok call) none other answers = subst (Exact (List (List ℕ)) (List ℕ) joined IsCall text) (sym none) (no_list text f other answers)
no_list_result text f (Err e) none other answers = tt
