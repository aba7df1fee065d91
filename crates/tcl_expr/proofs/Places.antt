-- Places that lie within the text, and further on.
use Rattle.std.proofs.Common.{◌≡◌, ℕ, ◌<◌, ◌≤◌, Bool, List, length, true, false, arith}
use Rattle.std.proofs.lemmas.Bool.Decides.{nat_tests}
use Rattle.tcl_words.proofs.Runs.{stands_within}
use Rattle.tcl_words.specs.Places.{stands, opens_name, starts_variable, skips_newline}
use Rattle.tcl_expr.specs.Tokens.{white_stands, digit_stands}

pub white_within : (text : List ℕ) (at : ℕ) → white_stands text at ≡ true → at < length text
unfolding white_stands skips_newline stands
white_within text at e = grind (arith, nat_tests)

pub digit_within : (radix : ℕ) (text : List ℕ) (at : ℕ) → digit_stands radix text at ≡ true
    → at < length text
unfolding digit_stands
digit_within radix text at e = grind (arith, nat_tests)

-- where a test holds at one place and not at a later one, that lies further on
pub further : (test : ℕ → Bool) (start at : ℕ) → start ≤ at → test start ≡ true → test at ≡ false
    → start < at
further test start at onward holds ends = grind arith

-- a 0 is an octal digit
pub zero_is_octal : (text : List ℕ) (at : ℕ) → stands text at 48 ≡ true → digit_stands 8 text at ≡ true
unfolding stands digit_stands
zero_is_octal text at e = grind (arith, nat_tests)

pub byte_within : (text : List ℕ) (at b : ℕ) → stands text at b ≡ true → at < length text
byte_within = stands_within

pub variable_within : (text : List ℕ) (at : ℕ) → starts_variable text at ≡ true → at < length text
unfolding starts_variable opens_name stands
variable_within text at e = grind (arith, nat_tests)
