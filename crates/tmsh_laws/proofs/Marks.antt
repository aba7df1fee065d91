-- Tokens by their bytes.
use Rattle.std.proofs.Common.{◌≡◌, ℕ, ◌+◌, ◌*◌, ◌/◌, ◌%◌, ◌<◌, ◌≤◌, Bool, true, false, not, ◌&&◌, ◌||◌, eqb, ltb, List, [], ◌∷◌, ◌++◌, append_assoc, length, length-append, drop, zero-add, Option, Some, None, inl, inr, refl, sym, ap, ap₂, ◌∙◌, arith}
use Rattle.std.proofs.Math.Seq.{take-append_seam}
use Rattle.std.proofs.lemmas.Bool.{and_parts, cases_Bool, false≢true, lt-ltb, ltb-true, or_parts}
use Rattle.std.proofs.lemmas.Bool.Decides.{nat_tests}
use Rattle.std.proofs.lemmas.Fmt.{decimal_is_IsNumeral}
use Rattle.std.proofs.lemmas.Slice.Eq.{bytes_eq-Decides}
use Rattle.std.proofs.lemmas.Str.{digit_value-digit_char}
use Rattle.std.specs.Char.{digit_char, digit_value}
use Rattle.std.specs.Fmt.{decimal}
use Rattle.std.specs.Option.{option_map_or}
use Rattle.std.specs.Prelude.{codes, if◌then◌else◌, option_map}
use Rattle.std.specs.Str.{bytes_eq, is_utf8}
use Rattle.std.specs.Str.Parse.{digits_value}
use Rattle.px_bytes.specs.Hexadecimal.{hex_text}
use Rattle.px_bytes.specs.White.{is_space}
use Rattle.tmsh_read.specs.Braced.{after, braced_len, closed, none_open}
use Rattle.tmsh_read.specs.Items.{number, number_with}
use Rattle.tmsh_read.specs.Quoted.{Read, behind, by_quoting, escape_after, high_after, low_after, plain_after, unquoted}
use Rattle.tmsh_read.specs.Tokens.{braced_found, found_in, gap_after, gap_len, is_mark, plain_found, quoted_found, quoted_token, run_found, run_len, run_of, shifted, token_at}
use Rattle.tmsh_read.specs.declared.braced.Braces.{Braces}
use Rattle.tmsh_read.proofs.ReaderTypes.{Found, Gap, Token}
use Rattle.tmsh_read.proofs.GapKinds.{Within}
use Rattle.tmsh_read.proofs.QuoteKinds.{Adds, Breaks, Goes, High, Low, Plain}
use Rattle.tmsh_read.proofs.TokenKinds.{Run, Quoted, Braced}
use Rattle.tmsh_text.specs.Braces.{balances, is_balanced}
use Rattle.tmsh_text.specs.Items.{joined}
use Rattle.tmsh_text.specs.Words.{is_plain, quoted, quoted_byte, quoted_bytes, word}

-- a token that stands at once, and has so many bytes
abbrev pub token_of : Token → ℕ → Found
token_of token end = record { token = token; start = 0; end = end }

-- ---- numbers

pub number_back : (n : ℕ) → n ≤ 999999999999999999 → number (decimal n) ≡ Some n
number_back n small =
    let value : digits_value 10 (decimal n) ≡ n = (decimal_is_IsNumeral n (omega arith)).1 in
    let less : ltb n 1000000000000000000 ≡ true = lt-ltb n 1000000000000000000 (omega arith) in
    let same : bytes_eq (decimal n) (decimal n) ≡ true = (bytes_eq-Decides (decimal n) (decimal n)).1 refl in
    let at : number_with (decimal n) n ≡ Some n = rw (less, same) refl in
    ap (number_with (decimal n)) value ∙ at

-- ---- the text of a rule

module _ (rest : List ℕ) where
  at_end : (b : Braces) → closed b ≡ true → braced_len b (125 ∷ rest) ≡ Some 0
  at_end b e =
      let parts = and_parts (eqb b.depth 0) (not b.escaped) e in
      by_escape b.escaped b.depth parts.0 parts.1
    where
      by_escape : (escaped : Bool) (d : ℕ) → eqb d 0 ≡ true → not escaped ≡ true → braced_len (record { depth = d; escaped = escaped }) (125 ∷ rest) ≡ Some 0
      by_escape true d is shut = absurd (false≢true shut)
      by_escape false d is shut = rw is refl

  more : (o : Option Braces) (bytes : List ℕ) → ((next : Braces) → balances next bytes ≡ true → braced_len next (bytes ++ (125 ∷ rest)) ≡ Some (length bytes))
      → option_map_or (λ next. balances next bytes) o false ≡ true
      → option_map_or (λ next. option_map (λ n. n + 1) (braced_len next (bytes ++ (125 ∷ rest)))) o (Some 0) ≡ Some (length bytes + 1)
  more None bytes back e = absurd (false≢true e)
  more (Some next) bytes back e = ap (option_map (λ n. n + 1)) (back next e)

  text_back : (bytes : List ℕ) (b : Braces) → balances b bytes ≡ true → braced_len b (bytes ++ (125 ∷ rest)) ≡ Some (length bytes)
  text_back [] b e = at_end b e
  text_back (byte ∷ bytes) b e = let size : length bytes + 1 ≡ length (byte ∷ bytes) = omega arith in more (after b byte) bytes (text_back bytes) e ∙ ap Some size

pub rule_text_back : (text rest : List ℕ) → is_utf8 text ≡ true → is_balanced text ≡ true
    → found_in true Within (32 ∷ (123 ∷ (text ++ (125 ∷ rest)))) ≡ record { token = Braced text; start = 1; end = length text + 3 }
rule_text_back text rest utf8 even =
    rw (text_back rest text none_open even, take-append_seam text (125 ∷ rest), utf8) refl

-- ---- marks

not_mark : (b : ℕ) → not (is_mark b) ≡ true → is_mark b ≡ false
not_mark b e = elim (cases_Bool (is_mark b)) [ inl is ↦ absurd (false≢true (rw is at e)) | inr is ↦ is ]

pub record NoMark (b : ℕ) : Type 0 where
  pub space : is_space b ≡ false
  pub line : eqb b 10 ≡ false
  pub open_ : eqb b 123 ≡ false
  pub close : eqb b 125 ≡ false
  pub quote : eqb b 34 ≡ false

no_mark : (b : ℕ) → is_mark b ≡ false → NoMark b
no_mark b e =
    let one = or_parts (is_space b) (eqb b 123 || (eqb b 125 || eqb b 34)) e in
    let two = or_parts (eqb b 123) (eqb b 125 || eqb b 34) one.1 in
    let three = or_parts (eqb b 125) (eqb b 34) two.1 in
    record {
      space = one.0;
      line = elim (cases_Bool (eqb b 10)) [
        | inl is ↦ (let same : b ≡ 10 = grind (arith, nat_tests) in absurd (false≢true (sym one.0 ∙ ap is_space same)))
        | inr is ↦ is
      ];
      open_ = two.0;
      close = three.0;
      quote = three.1;
    }

-- ---- where the text of a rule doesn't stand

pub plain_there : (g : Gap) (bytes : List ℕ) → found_in false g bytes ≡ plain_found g bytes
plain_there g [] = refl
plain_there g (a ∷ []) = refl
plain_there g (a ∷ (b ∷ text)) = by_brace (eqb b 123)
  where
    by_brace : (x : Bool) → (if x && false then braced_found text else plain_found g (a ∷ (b ∷ text))) ≡ plain_found g (a ∷ (b ∷ text))
    by_brace true = refl
    by_brace false = refl

-- ---- runs

run_back : (text : List ℕ) (mark : ℕ) (rest : List ℕ) → is_plain text ≡ true → is_mark mark ≡ true → run_len (text ++ (mark ∷ rest)) ≡ length text
run_back [] mark rest plain is = rw is refl
run_back (b ∷ text) mark rest plain is =
    let parts = and_parts (not (is_mark b)) (is_plain text) plain in
    let more = run_back text mark rest parts.1 is in
    rw (parts.0, more) (omega arith)

-- a run whose first byte begins a token there
pub run_found_back : (g : Gap) (b : ℕ) (text : List ℕ) (mark : ℕ) (rest : List ℕ) → gap_after g b ≡ None → is_utf8 (b ∷ text) ≡ true → is_plain (b ∷ text) ≡ true
    → is_mark mark ≡ true → plain_found g ((b ∷ text) ++ (mark ∷ rest)) ≡ token_of (Run (b ∷ text)) (length (b ∷ text))
run_found_back g b text mark rest begins utf8 plain is =
    let parts = and_parts (not (is_mark b)) (is_plain text) plain in
    let marks = no_mark b (not_mark b parts.0) in
    let all = b ∷ (text ++ (mark ∷ rest)) in
    let n = length (b ∷ text) in
    let gap : gap_len g all ≡ 0 = rw begins refl in
    let token : token_at all ≡ run_found all = rw (marks.open_, marks.close, marks.quote) refl in
    let some : eqb n 0 ≡ false = grind (arith, nat_tests) in
    let run : run_of all n ≡ token_of (Run (b ∷ text)) n = rw (some, take-append_seam (b ∷ text) (mark ∷ rest), utf8) refl in
    let len : run_found all ≡ run_of all n = ap (run_of all) (run_back (b ∷ text) mark rest plain is) in
    ap (λ k. shifted k (token_at (drop k all))) gap ∙ ap (shifted 0) (token ∙ len ∙ run) ∙ ap (token_of (Run (b ∷ text))) (zero-add n)

-- within a line each byte that is no mark begins a token
pub begins_within : (b : ℕ) (text : List ℕ) → is_plain (b ∷ text) ≡ true → gap_after Within b ≡ None
begins_within b text plain =
    let parts = and_parts (not (is_mark b)) (is_plain text) plain in
    let marks = no_mark b (not_mark b parts.0) in
    rw (marks.line, marks.space) refl

-- ---- quoted tokens

behinds : (v w : List ℕ) (k l : ℕ) (r : Option Read) → behind v k (behind w l r) ≡ behind (v ++ w) (k + l) r
behinds v w k l None = refl
behinds v w k l (Some r) =
    let size : k + (l + r.size) ≡ k + l + r.size = omega arith in
    ap₂ (λ a n. Some (record { value = a; size = n })) (sym (append_assoc v w r.value)) size

high_is : (h : ℕ) → h < 16 → high_after (digit_char h) ≡ Goes (Low h)
high_is h small =
    let value : digit_value (digit_char h) ≡ h = digit_value-digit_char h (omega arith) in
    let test : ltb h 16 ≡ true = lt-ltb h 16 small in
    ap (λ v. if ltb v 16 then Goes (Low v) else Breaks) value ∙ rw test refl

low_is : (h l : ℕ) → h < 16 → l < 16 → low_after h (digit_char l) ≡ Adds (16 * h + l)
low_is h l small least =
    let value : digit_value (digit_char l) ≡ l = digit_value-digit_char l (omega arith) in
    let one : ltb l 16 ≡ true = lt-ltb l 16 least in
    let two : ltb h 16 ≡ true = lt-ltb h 16 small in
    ap (λ v. if ltb v 16 && ltb h 16 then Adds (16 * h + v) else Breaks) value ∙ rw (one, two) refl

module _ (b : ℕ) (tail : List ℕ) where
  abbrev after_it : Option Read
  after_it = unquoted Plain tail

  hex_back : b < 128 → unquoted Plain (92 ∷ (120 ∷ (digit_char (b / 16) ∷ (digit_char (b % 16) ∷ tail)))) ≡ behind (b ∷ []) 4 after_it
  hex_back small =
      let high : b / 16 < 16 = omega arith in
      let low : b % 16 < 16 = omega arith in
      let whole : 16 * (b / 16) + b % 16 ≡ b = omega arith in
      let first : unquoted High (digit_char (b / 16) ∷ (digit_char (b % 16) ∷ tail)) ≡ behind [] 1 (unquoted (Low (b / 16)) (digit_char (b % 16) ∷ tail)) =
      ap (λ q. by_quoting q (λ next. unquoted next (digit_char (b % 16) ∷ tail))) (high_is (b / 16) high) in
      let second : unquoted (Low (b / 16)) (digit_char (b % 16) ∷ tail) ≡ behind (b ∷ []) 1 after_it =
      ap (λ q. by_quoting q (λ next. unquoted next tail)) (low_is (b / 16) (b % 16) high low ∙ ap Adds whole) in
      ap (λ r. behind [] 1 (behind [] 1 r)) (first ∙ ap (behind [] 1) second)
      ∙ ap (λ r. behind [] 1 (behind [] 1 r)) (behinds [] (b ∷ []) 1 1 after_it)
      ∙ ap (behind [] 1) (behinds [] (b ∷ []) 1 2 after_it) ∙ behinds [] (b ∷ []) 1 3 after_it

  escaped_back : (eqb b 34 || eqb b 92) ≡ true → unquoted Plain (92 ∷ (b ∷ tail)) ≡ behind (b ∷ []) 2 after_it
  escaped_back is =
      let adds : escape_after b ≡ Adds b = rw is refl in
      ap (λ q. behind [] 1 (by_quoting q (λ next. unquoted next tail))) adds ∙ behinds [] (b ∷ []) 1 1 after_it

  itself_back : (eqb b 34 || eqb b 92) ≡ false → unquoted Plain (b ∷ tail) ≡ behind (b ∷ []) 1 after_it
  itself_back other =
      let parts = or_parts (eqb b 34) (eqb b 92) other in
      let adds : plain_after b ≡ Adds b = rw (parts.0, parts.1) refl in
      ap (λ q. by_quoting q (λ next. unquoted next tail)) adds

  low_byte : (ltb b 32 || eqb b 127) ≡ true → b < 128
  low_byte is = elim (cases_Bool (ltb b 32)) [
    | inl l ↦ (let s : b < 32 = ltb-true b 32 l in omega (arith, s))
    | inr n ↦ (let e : eqb b 127 ≡ true = rw n at is in let s : b ≡ 127 = grind (arith, nat_tests) in omega (arith, s))
  ]

  byte_by : (x y : Bool) → (eqb b 34 || eqb b 92) ≡ x → (ltb b 32 || eqb b 127) ≡ y
      → unquoted Plain ((if x then 92 ∷ (b ∷ []) else (if y then joined (codes "\\x" ∷ (hex_text (b ∷ []) ∷ [])) else b ∷ [])) ++ tail)
      ≡ behind (b ∷ []) (length (if x then 92 ∷ (b ∷ []) else (if y then joined (codes "\\x" ∷ (hex_text (b ∷ []) ∷ [])) else b ∷ []))) after_it
  byte_by true y e f = escaped_back e
  byte_by false true e f = hex_back (low_byte f)
  byte_by false false e f = itself_back e

  byte_back : unquoted Plain (quoted_byte b ++ tail) ≡ behind (b ∷ []) (length (quoted_byte b)) after_it
  byte_back = byte_by (eqb b 34 || eqb b 92) (ltb b 32 || eqb b 127) refl refl

bytes_back : (text tail : List ℕ) → unquoted Plain (quoted_bytes text ++ (34 ∷ tail)) ≡ Some (record { value = text; size = length (quoted_bytes text) + 1 })
bytes_back [] tail = refl
bytes_back (b ∷ text) tail =
    let qb = quoted_byte b in
    let qs = quoted_bytes text in
    let size : length qb + (length qs + 1) ≡ length (qb ++ qs) + 1 = let e = length-append qb qs in omega (arith, e) in
    ap (unquoted Plain) (append_assoc qb qs (34 ∷ tail)) ∙ byte_back b (qs ++ (34 ∷ tail)) ∙ ap (behind (b ∷ []) (length qb)) (bytes_back text tail)
    ∙ ap (λ n. Some (record { value = b ∷ text; size = n })) size

quoted_found_back : (text : List ℕ) (mark : ℕ) (rest : List ℕ) → is_utf8 text ≡ true → plain_found Within (quoted text ++ (mark ∷ rest)) ≡ token_of (Quoted text) (length (quoted text))
quoted_found_back text mark rest utf8 =
    let qs = quoted_bytes text in
    let read : unquoted Plain ((qs ++ (34 ∷ [])) ++ (mark ∷ rest)) ≡ Some (record { value = text; size = length qs + 1 }) =
    ap (unquoted Plain) (append_assoc qs (34 ∷ []) (mark ∷ rest)) ∙ bytes_back text (mark ∷ rest) in
    let token : quoted_token text ≡ Quoted text = rw utf8 refl in
    let size : 0 + (length qs + 1 + 1) ≡ length (34 ∷ (qs ++ (34 ∷ []))) = let e = length-append qs (34 ∷ []) in omega (arith, e) in
    ap (λ o. shifted 0 (quoted_found o)) read ∙ ap₂ token_of token size

-- ---- words

-- the token that a key or a value is printed as
abbrev pub printed_token : List ℕ → Token
printed_token text = if not (eqb (length text) 0) && is_plain text then Run text else Quoted text

word_by : (text : List ℕ) (mark : ℕ) (rest : List ℕ) (x : Bool) → (not (eqb (length text) 0) && is_plain text) ≡ x → is_utf8 text ≡ true → is_mark mark ≡ true
    → plain_found Within ((if x then text else quoted text) ++ (mark ∷ rest)) ≡ token_of (if x then Run text else Quoted text) (length (if x then text else quoted text))
word_by text mark rest false e utf8 is = quoted_found_back text mark rest utf8
word_by [] mark rest true e utf8 is = absurd (false≢true e)
word_by (b ∷ text) mark rest true e utf8 is =
    let plain = (and_parts (not (eqb (length (b ∷ text)) 0)) (is_plain (b ∷ text)) e).1 in
    run_found_back Within b text mark rest (begins_within b text plain) utf8 plain is

pub word_back : (text : List ℕ) (mark : ℕ) (rest : List ℕ) → is_utf8 text ≡ true → is_mark mark ≡ true
    → plain_found Within (word text ++ (mark ∷ rest)) ≡ token_of (printed_token text) (length (word text))
word_back text mark rest utf8 is = word_by text mark rest (not (eqb (length text) 0) && is_plain text) refl utf8 is
