-- Names, addresses and numbers are runs.
use Rattle.std.proofs.Common.{◌≡◌, ℕ, ◌/◌, ◌%◌, ◌^◌, ◌≤◌, ◌<◌, Bool, true, false, ◌&&◌, eqb, List, [], ◌∷◌, ◌++◌, length, Option, Some, None, inl, inr, refl, sym, ap, subst, ◌∙◌, arith}
use Rattle.std.proofs.lemmas.Bool.{and_parts, cases_Bool, eqb-true, false≢true}
use Rattle.std.proofs.lemmas.Bool.Decides.{nat_tests}
use Rattle.std.proofs.lemmas.Fmt.{decimal_is_IsNumeral, decimal_nonempty}
use Rattle.std.proofs.lemmas.List.{length-append}
use Rattle.std.proofs.lemmas.Str.{is_utf8-from_IsUtf8, IsUtf8-append, IsUtf8-nil}
use Rattle.std.proofs.lemmas.Str.Parse.{digit_from_value}
use Rattle.std.specs.Fmt.{decimal}
use Rattle.std.specs.List.{list_all}
use Rattle.std.specs.Prelude.{IsUtf8, codes, if◌then◌else◌, is_some, nat_le, nat_lt, option_and_then, unwrap_or}
use Rattle.std.specs.Str.{bytes_eq}
use Rattle.std.specs.Str.Parse.{AllDigits}
use Rattle.px_bytes.specs.Address.{addr_text, ip_text}
use Rattle.px_bytes.specs.declared.addr.Addr.{Addr}
use Rattle.tcl_encodings.specs.Addr.{addr_of, spells_addr, written_addr}
use Rattle.toml.specs.Data.{Data, as_str}
use Rattle.config.specs.Forms.{is_name, is_name_byte}
use Rattle.config.specs.Keys as key
use Rattle.config.specs.Settings.{no_addr}
use Rattle.config.specs.Tables.{flaw_of}
use Rattle.config.proofs.DocumentTypes.{Address}
use Rattle.tmsh_laws.proofs.Ascii.{one_byte}
use Rattle.tmsh_laws.proofs.Kept.{required_text}
use Rattle.tmsh_laws.proofs.Limits.{IsNumber}
use Rattle.tmsh_laws.proofs.Lines.{Each}
use Rattle.tmsh_laws.proofs.Reading.{IsRun}
use Rattle.tmsh_read.specs.Tokens.{is_mark}
use Rattle.tmsh_text.specs.Words.{is_plain}

-- ---- bytes that may stand in a run

abbrev Good : ℕ → Type 0
Good b = (is_mark b ≡ false) × (b < 128)

good_by : (b : ℕ) → 33 ≤ b → b ≤ 122 → eqb b 34 ≡ false → Good b
good_by b low high quote =
    let a : eqb b 32 ≡ false = grind (arith, nat_tests, low) in
    let c : nat_le 9 b ≡ true = grind (arith, nat_tests, low) in
    let d : nat_le b 13 ≡ false = grind (arith, nat_tests, low) in
    let e : eqb b 123 ≡ false = grind (arith, nat_tests, high) in
    let f : eqb b 125 ≡ false = grind (arith, nat_tests, high) in
    (rw (a, c, d, e, f, quote) refl, omega (arith, high))

good_digit : (b : ℕ) → 48 ≤ b → b ≤ 57 → Good b
good_digit b low high = good_by b (omega (arith, low)) (omega (arith, high)) (grind (arith, nat_tests, low))

too_small : (b : ℕ) → b < 33 → is_name_byte b ≡ false
too_small b h =
    let a : nat_le 97 b ≡ false = grind (arith, nat_tests, h) in
    let c : nat_le 65 b ≡ false = grind (arith, nat_tests, h) in
    let d : nat_le 48 b ≡ false = grind (arith, nat_tests, h) in
    let e : eqb b 95 ≡ false = grind (arith, nat_tests, h) in
    let f : eqb b 45 ≡ false = grind (arith, nat_tests, h) in
    let g : eqb b 46 ≡ false = grind (arith, nat_tests, h) in
    let i : eqb b 47 ≡ false = grind (arith, nat_tests, h) in
    rw (a, c, d, e, f, g, i) refl

too_large : (b : ℕ) → 122 < b → is_name_byte b ≡ false
too_large b h =
    let a : nat_le 97 b ≡ true = grind (arith, nat_tests, h) in
    let a2 : nat_le b 122 ≡ false = grind (arith, nat_tests, h) in
    let c : nat_le 65 b ≡ true = grind (arith, nat_tests, h) in
    let c2 : nat_le b 90 ≡ false = grind (arith, nat_tests, h) in
    let d : nat_le 48 b ≡ true = grind (arith, nat_tests, h) in
    let d2 : nat_le b 57 ≡ false = grind (arith, nat_tests, h) in
    let e : eqb b 95 ≡ false = grind (arith, nat_tests, h) in
    let f : eqb b 45 ≡ false = grind (arith, nat_tests, h) in
    let g : eqb b 46 ≡ false = grind (arith, nat_tests, h) in
    let i : eqb b 47 ≡ false = grind (arith, nat_tests, h) in
    rw (a, a2, c, c2, d, d2, e, f, g, i) refl

no_quote : (b : ℕ) → is_name_byte b ≡ true → eqb b 34 ≡ false
no_quote b e = elim (cases_Bool (eqb b 34)) [
  | inl is ↦ absurd (false≢true (sym (ap is_name_byte (eqb-true b 34 is)) ∙ e))
  | inr other ↦ other
]

low_name : (b : ℕ) → is_name_byte b ≡ true → 33 ≤ b
low_name b e = elim (cases_Bool (nat_lt b 33)) [
  | inl is ↦ (let less : b < 33 = grind (arith, nat_tests, is) in absurd (false≢true (sym (too_small b less) ∙ e)))
  | inr other ↦ grind (arith, nat_tests, other)
]

high_name : (b : ℕ) → is_name_byte b ≡ true → b ≤ 122
high_name b e = elim (cases_Bool (nat_lt 122 b)) [
  | inl is ↦ (let more : 122 < b = grind (arith, nat_tests, is) in absurd (false≢true (sym (too_large b more) ∙ e)))
  | inr other ↦ grind (arith, nat_tests, other)
]

-- ---- texts of them

plain_by : (w : List ℕ) → Each Good w → is_plain w ≡ true
plain_by [] each = refl
plain_by (b ∷ w) each = let more = plain_by w each.1 in rw (each.0.0, more) refl

utf8_by : (w : List ℕ) → Each Good w → IsUtf8 w
utf8_by [] each = IsUtf8-nil
utf8_by (b ∷ w) each = IsUtf8-append (b ∷ []) w (one_byte b each.0.1) (utf8_by w each.1)

run_by : (w : List ℕ) → eqb (length w) 0 ≡ false → Each Good w → IsRun w
run_by w some each = record { some = some; plain = plain_by w each; utf8 = is_utf8-from_IsUtf8 w (utf8_by w each) }

good_both : (v w : List ℕ) → Each Good v → Each Good w → Each Good (v ++ w)
good_both [] w p q = q
good_both (b ∷ v) w p q = (p.0, good_both v w p.1 q)

-- ---- names

good_names : (w : List ℕ) → list_all is_name_byte w ≡ true → Each Good w
good_names [] e = tt
good_names (b ∷ w) e =
    let parts = and_parts (is_name_byte b) (list_all is_name_byte w) e in
    (good_by b (low_name b parts.0) (high_name b parts.0) (no_quote b parts.0), good_names w parts.1)

pub name_run : (w : List ℕ) → is_name w ≡ true → IsRun w
name_run w e =
    let some : nat_lt 0 (length w) ≡ true = by_first (nat_lt 0 (length w)) (nat_le (length w) 64) (list_all is_name_byte w) e in
    let all : list_all is_name_byte w ≡ true = by_last (nat_lt 0 (length w)) (nat_le (length w) 64) (list_all is_name_byte w) e in
    run_by w (grind (arith, nat_tests, some)) (good_names w all)
  where
    by_first : (a b c : Bool) → (a && b && c) ≡ true → a ≡ true
    by_first true b c e = refl
    by_first false b c e = e

    by_last : (a b c : Bool) → (a && b && c) ≡ true → c ≡ true
    by_last true true c e = e
    by_last true false c e = absurd (false≢true e)
    by_last false b c e = absurd (false≢true e)

-- ---- numbers

good_digits : (w : List ℕ) → AllDigits 10 w → Each Good w
good_digits [] d = tt
good_digits (b ∷ w) d =
    let range = digit_from_value b d.0 in
    (good_digit b (omega arith) (omega arith), good_digits w d.1)

good_decimal : (n : ℕ) → n < 2 ^ 64 → Each Good (decimal n)
good_decimal n h = good_digits (decimal n) (decimal_is_IsNumeral n h).0.1

pub decimal_run : (n : ℕ) → n < 2 ^ 64 → IsRun (decimal n)
decimal_run n h = let some : 0 < length (decimal n) = decimal_nonempty n h in run_by (decimal n) (grind (arith, nat_tests, some)) (good_decimal n h)

pub number_is : (n high : ℕ) → n ≤ high → high ≤ 999999999999999999 → IsNumber n
number_is n high h fits = record { small = omega (arith, h, fits); digits = decimal_run n (omega (arith, h, fits)) }

-- ---- addresses

good_dot : Each Good (codes ".")
good_dot = (good_by 46 (omega arith) (omega arith) refl, tt)

good_ip : (ip : ℕ) → ip < 2 ^ 32 → Each Good (ip_text ip)
good_ip ip h =
    let a = decimal (ip / 2 ^ 24) in
    let b = decimal (ip / 2 ^ 16 % 256) in
    let c = decimal (ip / 2 ^ 8 % 256) in
    let d = decimal (ip % 256) in
    let dot = codes "." in
    let to_a : Each Good (a ++ dot) = good_both a dot (good_decimal (ip / 2 ^ 24) (omega (arith, h))) good_dot in
    let to_b : Each Good (((a ++ dot) ++ b) ++ dot) = good_both ((a ++ dot) ++ b) dot (good_both (a ++ dot) b to_a (good_decimal (ip / 2 ^ 16 % 256) (omega (arith, h)))) good_dot in
    let to_c : Each Good (((((a ++ dot) ++ b) ++ dot) ++ c) ++ dot) =
    good_both ((((a ++ dot) ++ b) ++ dot) ++ c) dot (good_both (((a ++ dot) ++ b) ++ dot) c to_b (good_decimal (ip / 2 ^ 8 % 256) (omega (arith, h)))) good_dot in
    good_both (((((a ++ dot) ++ b) ++ dot) ++ c) ++ dot) d to_c (good_decimal (ip % 256) (omega (arith, h)))

good_addr : (a : Addr) → a.ip < 2 ^ 32 → a.port < 2 ^ 16 → IsRun (addr_text a)
good_addr a ip port =
    let digits = decimal a.port in
    let front = ip_text a.ip ++ codes ":" in
    let colon : Each Good (codes ":") = (good_by 58 (omega arith) (omega arith) refl, tt) in
    let some : 0 < length digits = decimal_nonempty a.port (omega (arith, port)) in
    let size = length-append front digits in
    let long : 0 < length (front ++ digits) = omega (arith, size, some) in
    run_by (front ++ digits) (grind (arith, nat_tests, long))
    (good_both front digits (good_both (ip_text a.ip) (codes ":") (good_ip a.ip ip) colon) (good_decimal a.port (omega (arith, port))))

spelled_run : (t : List ℕ) → spells_addr t (written_addr t) ≡ true → IsRun (addr_text (written_addr t))
spelled_run t e =
    let a = written_addr t in
    let fits = (and_parts (nat_lt a.ip (2 ^ 32) && nat_lt 0 a.port && nat_lt a.port (2 ^ 16)) (bytes_eq t (addr_text a)) e).0 in
    let ip : nat_lt a.ip (2 ^ 32) ≡ true = by_first (nat_lt a.ip (2 ^ 32)) (nat_lt 0 a.port) (nat_lt a.port (2 ^ 16)) fits in
    let port : nat_lt a.port (2 ^ 16) ≡ true = by_last (nat_lt a.ip (2 ^ 32)) (nat_lt 0 a.port) (nat_lt a.port (2 ^ 16)) fits in
    good_addr a (grind (arith, nat_tests, ip)) (grind (arith, nat_tests, port))
  where
    by_first : (a b c : Bool) → (a && b && c) ≡ true → a ≡ true
    by_first true b c e = refl
    by_first false b c e = e

    by_last : (a b c : Bool) → (a && b && c) ≡ true → c ≡ true
    by_last true true c e = e
    by_last true false c e = absurd (false≢true e)
    by_last false b c e = absurd (false≢true e)

addr_found : (t : List ℕ) → is_some (addr_of t) ≡ true → IsRun (addr_text (unwrap_or (addr_of t) no_addr))
addr_found t e = by_test (spells_addr t (written_addr t)) refl e
  where
    by_test : (b : Bool) → spells_addr t (written_addr t) ≡ b → is_some (if b then Some (written_addr t) else None) ≡ true → IsRun (addr_text (unwrap_or (if b then Some (written_addr t) else None) no_addr))
    by_test true is e = spelled_run t is
    by_test false is e = absurd (false≢true e)

-- the text of an address that stands at a key
pub addr_run : (name : List ℕ) (o : Option Data) → flaw_of (key.required name (key.text Address)) o ≡ None
    → IsRun (addr_text (unwrap_or (option_and_then addr_of (option_and_then as_str o)) no_addr))
addr_run name o e =
    let (t, is, form) = required_text name Address o e in
    subst (λ x. IsRun (addr_text (unwrap_or (option_and_then addr_of (option_and_then as_str x)) no_addr))) (sym is) (addr_found t form)
