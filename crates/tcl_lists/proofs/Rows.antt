-- Rows of lists.
use Rattle.std.proofs.Common.{◌≡◌, true, false, [], ◌∷◌, Ok, Err, refl}
use Rattle.std.specs.Prelude.{codes}
use Rattle.tcl_lists.specs.Escape.{replaced}
use Rattle.tcl_lists.specs.Read.{list_places, list_values}
use Rattle.tcl_lists.specs.Write.{joined}
use Rattle.tcl_lists.specs.declared.fault.ListFault.TheVariants.{OpenBrace, OpenQuote, Extra}

three : list_values (codes "a {b c} d") ≡ Ok (codes "a" ∷ (codes "b c" ∷ (codes "d" ∷ [])))
three = refl

open_brace : list_values (codes "{a") ≡ Err (OpenBrace 0)
open_brace = refl

open_quote : list_values (codes "a \"b") ≡ Err (OpenQuote 2)
open_quote = refl

extra : list_values (codes "{a}b") ≡ Err (Extra 0)
extra = refl

two_places : list_places (codes "a {b c}") ≡ Ok (record { start = 0; end = 1; braced = false } ∷ (record { start = 3; end = 6; braced = true } ∷ []))
two_places = refl

escaped_brace : list_values (codes "{a \\} b}") ≡ Ok (codes "a \\} b" ∷ [])
escaped_brace = refl

escaped_blank : list_values (codes "a\\ b") ≡ Ok (codes "a b" ∷ [])
escaped_blank = refl

last_backslash : list_values (codes "a\\") ≡ Ok (codes "a\\" ∷ [])
last_backslash = refl

newline_ends : list_values (codes "a\\\n b") ≡ Ok (codes "a " ∷ (codes "b" ∷ []))
newline_ends = refl

last_two_digits : replaced (codes "\\x4142\\u0141\\x") ≡ codes "BAx"
last_two_digits = refl

octal_wraps : replaced (codes "\\101\\400\\8") ≡ 65 ∷ (0 ∷ (56 ∷ []))
octal_wraps = refl

newline_and_blanks : replaced (codes "a\\\n \tb") ≡ codes "a b"
newline_and_blanks = refl

written : joined (codes "a" ∷ ([] ∷ (codes "b c" ∷ (codes "{" ∷ [])))) ≡ codes "a {} {b c} \\{"
written = refl

closing_brace : joined (codes "a b" ∷ (codes "}" ∷ [])) ≡ codes "{a b} \\}"
closing_brace = refl

hash : joined (codes "#a" ∷ (codes "a#" ∷ (codes "#\\" ∷ []))) ≡ codes "{#a} a# \\#\\\\"
hash = refl
