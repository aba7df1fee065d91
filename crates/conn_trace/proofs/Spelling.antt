-- A text that is read as an address spells it.
use Rattle.std.proofs.Common.{◌≡◌, refl, sym, ◌∙◌, ap, ℕ, ◌+◌, ◌*◌, ◌/◌, ◌%◌, ◌^◌, ◌<◌, nat_lt, List, [], ◌∷◌, ◌++◌, codes, append-nil, append_assoc, Bool, true, false, ◌&&◌, Some, None, if◌then◌else◌, arith}
use Rattle.std.specs.Prelude.{decimal}
use Rattle.std.specs.Char.{digit_value}
use Rattle.std.specs.Net.Text.{dotted_text}
use Rattle.std.specs.Str.Parse.{AllDigits, digits_value_after}
use Rattle.std.specs.Str.{bytes_eq}
use Rattle.std.proofs.lemmas.Bool.{and_parts, ltb-true, lt-ltb}
use Rattle.std.proofs.lemmas.Fmt.{decimal_is_IsNumeral}
use Rattle.std.proofs.lemmas.Slice.Eq.{bytes_eq-Decides}
use Rattle.px_bytes.specs.Address.{addr_text, IsAddr}
use Rattle.px_bytes.specs.declared.addr.Addr.{Addr}
use Rattle.conn_trace.specs.Selected.{numbers_from, spells, if_spelled, address, addr_with, addr_of, Spelled}

same_bytes : (a b : List ℕ) → bytes_eq a b ≡ true → a ≡ b
same_bytes a b is = (bytes_eq-Decides a b).0 is

spelled_by : (text : List ℕ) (addr : Addr) → spells text addr ≡ true → Spelled text addr
spelled_by text addr is =
    let parts = and_parts _ (bytes_eq (addr_text addr) text) is in
    let size = and_parts _ _ parts.0 in
    let port = and_parts _ _ size.1 in
    record {
      address = record { ip = ltb-true _ _ size.0; some = ltb-true _ _ port.0; port = ltb-true _ _ port.1 };
      text_of_it = sym (same_bytes (addr_text addr) text parts.1);
    }

by_test : (text : List ℕ) (a addr : Addr) (b : Bool) → spells text a ≡ b → (if b then Some a else None) ≡ Some addr → Spelled text addr
by_test text a addr true is some = let same : a ≡ addr = cc in spelled_by text addr (ap (spells text) (sym same) ∙ is)
by_test text a addr false is some = absurd (cc)

by_numbers : (text numbers : List ℕ) (addr : Addr) → addr_with text numbers ≡ Some addr → Spelled text addr
by_numbers text [] addr is = absurd (cc)
by_numbers text (a ∷ []) addr is = absurd (cc)
by_numbers text (a ∷ b ∷ []) addr is = absurd (cc)
by_numbers text (a ∷ b ∷ c ∷ []) addr is = absurd (cc)
by_numbers text (a ∷ b ∷ c ∷ d ∷ []) addr is = absurd (cc)
by_numbers text (a ∷ b ∷ c ∷ d ∷ port ∷ []) addr is = by_test text (address a b c d port) addr (spells text (address a b c d port)) refl is
by_numbers text (a ∷ b ∷ c ∷ d ∷ port ∷ more ∷ numbers) addr is = absurd (cc)

pub spelled : (text : List ℕ) (addr : Addr) → addr_of text ≡ Some addr → Spelled text addr
spelled text addr is = by_numbers text (numbers_from 0 text) addr is

-- and each address is read as it is written
digits_on : (n : ℕ) (ds rest : List ℕ) → AllDigits 10 ds → numbers_from n (ds ++ rest) ≡ numbers_from (digits_value_after 10 n ds) rest
digits_on n [] rest all = refl
digits_on n (d ∷ ds) rest all =
    ap (λ b. if b then numbers_from (n * 10 + digit_value d) (ds ++ rest) else n ∷ numbers_from 0 (ds ++ rest)) (lt-ltb (digit_value d) 10 all.0)
    ∙ digits_on (n * 10 + digit_value d) ds rest all.1

number_on : (x : ℕ) (rest : List ℕ) → x < 2 ^ 64 → numbers_from 0 (decimal x ++ rest) ≡ numbers_from x rest
number_on x rest small =
    let is = decimal_is_IsNumeral x small in
    digits_on 0 (decimal x) rest is.0.1 ∙ ap (λ k. numbers_from k rest) is.1

number_last : (x : ℕ) → x < 2 ^ 64 → numbers_from 0 (decimal x) ≡ x ∷ []
number_last x small = ap (numbers_from 0) (sym (append-nil (decimal x))) ∙ number_on x [] small

-- the numbers of an address with what stands between them, from the left
from_left : (a b c d port : List ℕ) → (a ++ codes "." ++ b ++ codes "." ++ c ++ codes "." ++ d) ++ codes ":" ++ port ≡ a ++ (46 ∷ (b ++ (46 ∷ (c ++ (46 ∷ (d ++ (58 ∷ port)))))))
from_left a b c d port =
    let e1 = a ++ codes "." in
    let e2 = e1 ++ b in
    let e3 = e2 ++ codes "." in
    let e4 = e3 ++ c in
    let e5 = e4 ++ codes "." in
    let r1 = 58 ∷ port in
    let r2 = d ++ r1 in
    let r3 = 46 ∷ r2 in
    let r4 = c ++ r3 in
    let r5 = 46 ∷ r4 in
    append_assoc (e5 ++ d) (codes ":") port ∙ (append_assoc e5 d r1 ∙ (append_assoc e4 (codes ".") r2 ∙ (append_assoc e3 c r3 ∙ (append_assoc e2 (codes ".") r4 ∙ (append_assoc e1 b r5 ∙ append_assoc a (codes ".") (b ++ r5))))))

dotted_numbers : (a b c d port : ℕ) → a < 2 ^ 64 → b < 2 ^ 64 → c < 2 ^ 64 → d < 2 ^ 64 → port < 2 ^ 64
    → numbers_from 0 (dotted_text a b c d ++ codes ":" ++ decimal port) ≡ a ∷ b ∷ c ∷ d ∷ port ∷ []
dotted_numbers a b c d port sa sb sc sd sp =
    ap (numbers_from 0) (from_left (decimal a) (decimal b) (decimal c) (decimal d) (decimal port))
    ∙ (number_on a _ sa ∙ ap (λ r. a ∷ r) (number_on b _ sb ∙ ap (λ r. b ∷ r) (number_on c _ sc ∙ ap (λ r. c ∷ r) (number_on d _ sd ∙ ap (λ r. d ∷ r) (number_last port sp)))))

spells_own : (addr : Addr) → IsAddr addr → spells (addr_text addr) addr ≡ true
spells_own addr is =
    ap (λ b. (b && (nat_lt 0 addr.port && nat_lt addr.port (2 ^ 16))) && bytes_eq (addr_text addr) (addr_text addr)) (lt-ltb _ _ is.ip)
    ∙ (ap (λ b. (b && nat_lt addr.port (2 ^ 16)) && bytes_eq (addr_text addr) (addr_text addr)) (lt-ltb _ _ is.some)
    ∙ (ap (λ b. b && bytes_eq (addr_text addr) (addr_text addr)) (lt-ltb _ _ is.port) ∙ (bytes_eq-Decides (addr_text addr) (addr_text addr)).1 refl))

bytes_join : (ip : ℕ) → 2 ^ 24 * (ip / 2 ^ 24) + 2 ^ 16 * (ip / 2 ^ 16 % 256) + 2 ^ 8 * (ip / 2 ^ 8 % 256) + ip % 256 ≡ ip
bytes_join ip = omega arith

pub written_is_selected : (addr : Addr) → IsAddr addr → addr_of (addr_text addr) ≡ Some addr
written_is_selected addr is =
    let text = addr_text addr in
    let numbers = dotted_numbers (addr.ip / 2 ^ 24) (addr.ip / 2 ^ 16 % 256) (addr.ip / 2 ^ 8 % 256) (addr.ip % 256) addr.port (omega (arith, is.ip)) (omega arith) (omega arith) (omega arith) (omega (arith, is.port)) in
    ap (addr_with text) numbers ∙ (ap (λ ip. if_spelled text (record { ip = ip; port = addr.port })) (bytes_join addr.ip) ∙ ap (λ b. if b then Some addr else None) (spells_own addr is))
